-- What a row says of a packet: item by item, and then by the mark, by the binding or by the default network.
use Rattle.std.proofs.Common.{◌≡◌, ◌∙◌, ℕ, Bool, true, false, Some, None, Option, List, [], ◌∷◌, refl, ap, ap₂, inl, inr, map, ◌==◌, sym, subst}
use Rattle.std.specs.Prelude.{◌&&◌, ◌||◌, if◌then◌else◌}
use Rattle.std.specs.List.{list_any}
use Rattle.std.specs.Option.{option_or, option_and_then}
use Rattle.rule_match.specs.Rule.{selects_link}
use Rattle.rule_match.specs.declared.packet.Packet.{Packet}
use Rattle.rule_match.specs.declared.verdict.Verdict.{Verdict}
use Rattle.policy_state.specs.View.{Ranked, Network, StateView}
use Rattle.policy_state.specs.Rows.{default_of, items, items_in, items_at, picks, permission_of, ranges_of, links_of, needs_of, net_item, link_item, user_item, split_item}
use Rattle.policy_state.specs.declared.row.Item.{Item}
use Rattle.policy_state.specs.declared.row.Row.{Row}
use Rattle.policy_state.specs.declared.row.NetworkSet.{NetworkSet}
use Rattle.policy_state.specs.declared.row.NetworkPart.{NetworkPart}
use Rattle.policy_state.specs.declared.row.NetworkPart.TheVariants.{Whole, EachInterface, EachRange, EachDefault}
use Rattle.policy_state.specs.declared.row.OnePer.TheVariants.{EachOf}
use Rattle.policy_state.specs.declared.row.Target.{Target}
use Rattle.policy_state.specs.declared.row.Target.TheVariants.{ToLink, ToLocal, Prohibits, Refuses}
use Rattle.policy_state.specs.Table.{stated, rule_of, rules_in, leads_to, needed}
use Rattle.policy_state.proofs.RowTests.{is_fit, is_own, is_linked}
use Rattle.policy_state.proofs.Owners.{Has, Owners, AreOwners, Once, IsOwned, AreOnce}
use Rattle.policy_meaning.proofs.Answers.{Answers, action_says, rule_says, lead_says, suits, goes_by, is_user, links_say, split_says, net_says}
use Rattle.policy_state.proofs.SharedPackets.{Fits, rule-matches}
use Rattle.policy_state.proofs.AlikeRules.{fits, item-fits}
use Rattle.policy_meaning.specs.Policy.{only_if, first_given}
use Rattle.policy_meaning.proofs.Given.{given-map, given-flat, given-same, given-if, or-none, given-has, given-found, given-number, HasAtMostOne}
use Rattle.std.proofs.lemmas.Bool.{cases_Bool, false≢true, false_from_ne_true, eqb-true}
use Rattle.fwmark.specs.Mark.{net_of, is_explicit, is_protected, permission_of_mark}
use Rattle.fwmark.specs.Permission.{suffices}
use Rattle.fwmark.specs.Selection.{is_stated, is_net}
use Rattle.fwmark.specs.declared.permission.Permission.{Permission}
use Rattle.policy_state.specs.declared.row.NetworkSet.TheVariants.{OfDefault}
use Rattle.policy_state.specs.declared.row.Selector.{Selector}
use Rattle.policy_state.specs.declared.row.Selector.TheVariants.{Unstated, OfItem, OfRow}
use Rattle.networks.specs.Lists.{find_id, find_link}
use Rattle.networks.specs.Network.{has_link}
use Rattle.policy_state.proofs.RowItems.{picked-default}

-- What the rules of any row give a packet, network by network.

leads-say : (answers : Answers) (target : Target) (i : Item) → action_says answers (leads_to target i.link) ≡ lead_says answers target i.link
leads-say answers ToLink i = refl
leads-say answers ToLocal i = refl
leads-say answers Prohibits i = refl
leads-say answers Refuses i = refl

-- the tests of a rule, by what they ask of
parts : {V : Type 0} (o : Option V) (mark incoming bound user : Bool) → only_if o (mark && (incoming && (bound && user))) ≡ only_if (only_if o (incoming && bound)) (mark && user)
parts o true true true true = refl
parts o true true true false = refl
parts o true true false true = refl
parts o true true false false = refl
parts o true false bound true = refl
parts o true false bound false = refl
parts o false incoming bound user = refl

abbrev pub item_says : Answers → Packet → Row → Item → Option Verdict
item_says answers p row i = only_if (only_if (lead_says answers row.target i.link) (goes_by row p i.incoming i.link)) (suits row p i.net i.needs && is_user row p i.users)

pub item-says : (answers : Answers) (p : Packet) (row : Row) (i : Item) → Fits row i → rule_says answers p (rule_of row i) ≡ item_says answers p row i
item-says answers p row i fits =
    ap₂ (λ (o : Option Verdict) (b : Bool). only_if o b) (leads-say answers row.target i) (rule-matches row i p fits)
    ∙ parts (lead_says answers row.target i.link) (suits row p i.net i.needs) (selects_link (stated row.incoming i.incoming) (Some p.incoming)) (selects_link (if row.bound then Some i.link else None) p.outgoing) (is_user row p i.users)

given-none : {N V : Type 0} (xs : List N) → first_given {N = N} {V = V} (λ x. None) xs ≡ None
given-none [] = refl
given-none (x ∷ xs) = given-none xs

-- one range of a list suits
pub given-any : {N V : Type 0} (o : Option V) (mark : Bool) (t : N → Bool) (xs : List N) → first_given (λ x. only_if o (mark && t x)) xs ≡ only_if o (mark && list_any t xs)
given-any o true t [] = refl
given-any o false t [] = refl
given-any {N = N} o mark t (x ∷ xs) = ap (option_or (only_if o (mark && t x))) (given-any o mark t xs) ∙ by o mark (t x) (list_any t xs)
  where
    by : {V : Type 0} (o : Option V) (m a b : Bool) → option_or (only_if o (m && a)) (only_if o (m && b)) ≡ only_if o (m && (a || b))
    by None true true b = by-none b
      where
        by-none : {V : Type 0} (b : Bool) → only_if {V = V} None b ≡ None
        by-none true = refl
        by-none false = refl
    by (Some v) true true b = refl
    by None true false b = refl
    by (Some v) true false b = refl
    by None false a b = refl
    by (Some v) false a b = refl

pub only-both : {V : Type 0} (o : Option V) (a b : Bool) → only_if (only_if o a) b ≡ only_if (only_if o b) a
only-both o true true = refl
only-both o true false = refl
only-both o false true = refl
only-both o false false = refl

module _ (answers : Answers) (p : Packet) (row : Row) where
  pub links-given : (links : List ℕ) → first_given (λ link. only_if (lead_says answers row.target link) (goes_by row p link link)) links ≡ links_say answers p row links
  links-given [] = refl
  links-given (l ∷ links) = ap (option_or (only_if (lead_says answers row.target l) (goes_by row p l l))) (links-given links)

  split-given : (links : List ℕ) → first_given (λ link. only_if (lead_says answers row.target link) (goes_by row p 0 link)) links ≡ split_says answers p row links
  split-given [] = refl
  split-given (l ∷ links) = ap (option_or (only_if (lead_says answers row.target l) (goes_by row p 0 l))) (split-given links)

  in-says : (home : Option Network) (spread : NetworkPart) (n : Network) → first_given (item_says answers p row) (items_in spread home n) ≡ net_says answers p row home spread n
  in-says home Whole n = or-none (item_says answers p row (net_item n))
  in-says home EachInterface n =
      let test : Bool = suits row p n.id (permission_of n.kind) && is_user row p None in
      given-map (item_says answers p row) (link_item n) n.interfaces
      ∙ (given-if (λ link. only_if (lead_says answers row.target link) (goes_by row p link link)) test n.interfaces
      ∙ ap (λ o. only_if o test) (links-given n.interfaces))
  in-says home EachRange n =
      let mark : Bool = suits row p n.id (permission_of n.kind) in
      let any : Bool = list_any (λ (r : Ranked). is_user row p (Some r.users)) (ranges_of n.kind) in
      given-flat (item_says answers p row) (λ link. map (user_item n link) (ranges_of n.kind)) n.interfaces
      ∙ (given-same (λ link. first_given (item_says answers p row) (map (user_item n link) (ranges_of n.kind))) (λ link. only_if (only_if (lead_says answers row.target link) (goes_by row p link link)) (mark && any)) n.interfaces
      (λ place link at.
      given-map (item_says answers p row) (user_item n link) (ranges_of n.kind)
      ∙ given-any (only_if (lead_says answers row.target link) (goes_by row p link link)) mark (λ (r : Ranked). is_user row p (Some r.users)) (ranges_of n.kind))
      ∙ (given-if (λ link. only_if (lead_says answers row.target link) (goes_by row p link link)) (mark && any) n.interfaces
      ∙ ap (λ o. only_if o (mark && any)) (links-given n.interfaces)))
  in-says home EachDefault n =
      let test : Bool = suits row p n.id (needs_of home) && is_user row p None in
      given-map (item_says answers p row) (split_item n (needs_of home)) (links_of home)
      ∙ (given-if (λ link. only_if (lead_says answers row.target link) (goes_by row p 0 link)) test (links_of home)
      ∙ ap (λ o. only_if o test) (split-given (links_of home)))

  given-tested : (b : Bool) (xs : List Item) → first_given (item_says answers p row) (if b then xs else []) ≡ only_if (first_given (item_says answers p row) xs) b
  given-tested true xs = refl
  given-tested false xs = refl

  -- what the rules of a row of networks give: the first answer of the networks that it picks
  pub each-says : (o : Owners) (s : StateView) → AreOwners o s → is_fit row ≡ true → (pick : NetworkSet) (spread : NetworkPart) → row.per ≡ EachOf pick spread
      → first_given (rule_says answers p) (rules_in s row) ≡ first_given (λ n. only_if (net_says answers p row (default_of s) spread n) (picks pick s.default n)) s.networks
  each-says o s own fit pick spread is =
      given-map (rule_says answers p) (rule_of row) (items row.per s)
      ∙ (given-has (λ i. rule_says answers p (rule_of row i)) (item_says answers p row) (items row.per s) (λ i there. item-says answers p row i (fits row i fit (item-fits o s own row.per i there)))
      ∙ (ap (λ per. first_given (item_says answers p row) (items per s)) is
      ∙ (given-flat (item_says answers p row) (items_at pick spread s.default (default_of s)) s.networks
      ∙ given-same (λ n. first_given (item_says answers p row) (items_at pick spread s.default (default_of s) n)) (λ n. only_if (net_says answers p row (default_of s) spread n) (picks pick s.default n)) s.networks
      (λ place n at. given-tested (picks pick s.default n) (items_in spread (default_of s) n) ∙ ap (λ o. only_if o (picks pick s.default n)) (in-says (default_of s) spread n)))))

-- What a row says, by how it tells its network: by the mark, by the binding, by the default.

-- of a list in which nothing stands twice at most one item passes a test that tells it
pub at-most-one : {N : Type 0} (t : N → Bool) (xs : List N) → Once xs → ((m n : N) → Has xs m → Has xs n → t m ≡ true → t n ≡ true → m ≡ n) → HasAtMostOne t xs
at-most-one t [] once told = tt
at-most-one {N = N} t (x ∷ xs) once told = (
  (λ here. none xs (λ y there. false_from_ne_true (t y) (λ passes. once.0 (subst (λ (z : N). Has xs z) (sym (told x y (inl refl) (inr there) here passes)) there)))),
  at-most-one t xs once.1 (λ m n g h. told m n (inr g) (inr h)),
)
  where
    none : (ys : List N) → ((y : N) → Has ys y → t y ≡ false) → list_any t ys ≡ false
    none [] h = refl
    none (y ∷ ys) h = rw (h y (inl refl)) (none ys (λ z g. h z (inr g)))

-- the row without its network
abbrev pub anywhere : Row → Row
anywhere row = record row { net = Unstated }

test-last : {V : Type 0} (o : Option V) (a b c d e : Bool) → only_if o ((a && b && c && d) && e) ≡ only_if (only_if o ((a && b && c && true) && e)) d
test-last o true true true true true = refl
test-last o true true true true false = refl
test-last o true true true false true = refl
test-last o true true true false false = refl
test-last o true true false true e = refl
test-last o true true false false e = refl
test-last o true false c true e = refl
test-last o true false c false e = refl
test-last o false b c true e = refl
test-last o false b c false e = refl

incoming-same : (f : Selector ℕ) (x y : ℕ) → is_own f ≡ false → stated f x ≡ stated f y
incoming-same Unstated x y h = refl
incoming-same OfItem x y h = absurd (false≢true (sym h))
incoming-same (OfRow n) x y h = refl

and-true : (b : Bool) → (b && true) ≡ b
and-true true = refl
and-true false = refl

both-if : {V : Type 0} (o : Option V) (a b : Bool) → only_if o (a && b) ≡ only_if (only_if o a) b
both-if o true true = refl
both-if o true false = refl
both-if o false true = refl
both-if o false false = refl

module _ (answers : Answers) (p : Packet) (row : Row) where
  same-links : (links : List ℕ) → links_say answers p row links ≡ links_say answers p (anywhere row) links
  same-links [] = refl
  same-links (l ∷ links) = ap (option_or (only_if (lead_says answers row.target l) (goes_by row p l l))) (same-links links)

  same-split : (links : List ℕ) → split_says answers p row links ≡ split_says answers p (anywhere row) links
  same-split [] = refl
  same-split (l ∷ links) = ap (option_or (only_if (lead_says answers row.target l) (goes_by row p 0 l))) (same-split links)

  named-net : row.net ≡ OfItem → (home : Option Network) (spread : NetworkPart) (n : Network) → net_says answers p row home spread n ≡ only_if (net_says answers p (anywhere row) home spread n) (net_of p.mark == n.id)
  named-net own home spread n = by spread
    where
      last : (o : Option Verdict) (needs : Permission) (user : Bool) → only_if o (suits row p n.id needs && user) ≡ only_if (only_if o (suits (anywhere row) p n.id needs && user)) (net_of p.mark == n.id)
      last o needs user =
          ap (λ f. only_if o ((suffices (permission_of_mark p.mark) (needed row.needs needs) && is_stated row.guarded (is_protected p.mark) && is_stated row.explicit (is_explicit p.mark) && is_net (stated f n.id) (net_of p.mark)) && user)) own
          ∙ test-last o (suffices (permission_of_mark p.mark) (needed row.needs needs)) (is_stated row.guarded (is_protected p.mark)) (is_stated row.explicit (is_explicit p.mark)) (net_of p.mark == n.id) user

      by : (spread : NetworkPart) → net_says answers p row home spread n ≡ only_if (net_says answers p (anywhere row) home spread n) (net_of p.mark == n.id)
      by Whole = last (only_if (lead_says answers row.target 0) (goes_by row p 0 0)) (permission_of n.kind) (is_user row p None)
      by EachInterface = last (links_say answers p row n.interfaces) (permission_of n.kind) (is_user row p None) ∙ ap (λ o. only_if (only_if o (suits (anywhere row) p n.id (permission_of n.kind) && is_user row p None)) (net_of p.mark == n.id)) (same-links n.interfaces)
      by EachRange = last (links_say answers p row n.interfaces) (permission_of n.kind) (list_any (λ (r : Ranked). is_user row p (Some r.users)) (ranges_of n.kind))
          ∙ ap (λ o. only_if (only_if o (suits (anywhere row) p n.id (permission_of n.kind) && list_any (λ (r : Ranked). is_user row p (Some r.users)) (ranges_of n.kind))) (net_of p.mark == n.id)) (same-links n.interfaces)
      by EachDefault = last (split_says answers p row (links_of home)) (needs_of home) (is_user row p None) ∙ ap (λ o. only_if (only_if o (suits (anywhere row) p n.id (needs_of home) && is_user row p None)) (net_of p.mark == n.id)) (same-split (links_of home))

  -- by the mark: what the network says that the mark names
  pub named-says : (o : Owners) (s : StateView) → IsOwned o s → AreOnce s → is_fit row ≡ true → row.net ≡ OfItem → (pick : NetworkSet) (spread : NetworkPart) → row.per ≡ EachOf pick spread
      → first_given (rule_says answers p) (rules_in s row)
      ≡ option_and_then (λ n. only_if (net_says answers p (anywhere row) (default_of s) spread n) (picks pick s.default n)) (find_id (net_of p.mark) s.networks)
  named-says o s good once fit own pick spread is =
      let k : Network → Option Verdict = λ n. only_if (net_says answers p (anywhere row) (default_of s) spread n) (picks pick s.default n) in
      each-says answers p row o s good.owns fit pick spread is
      ∙ (given-same (λ n. only_if (net_says answers p row (default_of s) spread n) (picks pick s.default n)) (λ n. only_if (k n) (net_of p.mark == n.id)) s.networks (λ place n at.
      ap (λ o. only_if o (picks pick s.default n)) (named-net own (default_of s) spread n)
      ∙ only-both (net_says answers p (anywhere row) (default_of s) spread n) (net_of p.mark == n.id) (picks pick s.default n))
      ∙ given-found k (λ n. net_of p.mark == n.id) s.networks (at-most-one (λ n. net_of p.mark == n.id) s.networks once.networks (λ m n in_m in_n e f.
      good.one_id m n in_m in_n (sym (eqb-true (net_of p.mark) m.id e) ∙ eqb-true (net_of p.mark) n.id f))))

  -- a row whose rules don't tell a network's interfaces apart asks them in order
  pub plain-links : row.bound ≡ false → is_own row.incoming ≡ false → (links : List ℕ) → links_say answers p row links
      ≡ only_if (first_given (λ link. lead_says answers row.target link) links) (selects_link (stated row.incoming 0) (Some p.incoming))
  plain-links plain not_own links = sym (links-given answers p row links) ∙ (given-same (λ link. only_if (lead_says answers row.target link) (goes_by row p link link))
      (λ link. only_if (lead_says answers row.target link) (selects_link (stated row.incoming 0) (Some p.incoming))) links
      (λ place link at. ap₂ (λ (c : Option ℕ) (b : Bool). only_if (lead_says answers row.target link) (selects_link c (Some p.incoming) && selects_link (if b then Some link else None) p.outgoing)) (incoming-same row.incoming link 0 not_own) plain
      ∙ ap (only_if (lead_says answers row.target link)) (and-true (selects_link (stated row.incoming 0) (Some p.incoming))))
      ∙ given-if (λ link. lead_says answers row.target link) (selects_link (stated row.incoming 0) (Some p.incoming)) links)

  -- a row whose rules are bound asks the interface to which the packet is bound
  pub bound-links : row.bound ≡ true → is_own row.incoming ≡ false → (link : ℕ) → p.outgoing ≡ Some link → (links : List ℕ) → links_say answers p row links
      ≡ only_if (only_if (lead_says answers row.target link) (selects_link (stated row.incoming 0) (Some p.incoming))) (list_any (λ i. i == link) links)
  bound-links bound not_own link out links = sym (links-given answers p row links) ∙ (given-same (λ i. only_if (lead_says answers row.target i) (goes_by row p i i))
      (λ i. only_if (only_if (lead_says answers row.target i) (selects_link (stated row.incoming 0) (Some p.incoming))) (i == link)) links
      (λ place i at. ap₂ (λ (c : Option ℕ) (b : Bool). only_if (lead_says answers row.target i) (selects_link c (Some p.incoming) && selects_link (if b then Some i else None) p.outgoing)) (incoming-same row.incoming i 0 not_own) bound
      ∙ (ap (λ o. only_if (lead_says answers row.target i) (selects_link (stated row.incoming 0) (Some p.incoming) && selects_link (Some i) o)) out
      ∙ both-if (lead_says answers row.target i) (selects_link (stated row.incoming 0) (Some p.incoming)) (i == link)))
      ∙ given-number (λ i. only_if (lead_says answers row.target i) (selects_link (stated row.incoming 0) (Some p.incoming))) link links)

  -- by the default: what the default network says
  pub default-says : (o : Owners) (s : StateView) → IsOwned o s → AreOnce s → is_fit row ≡ true → (spread : NetworkPart) → row.per ≡ EachOf OfDefault spread
      → first_given (rule_says answers p) (rules_in s row) ≡ option_and_then (net_says answers p row (default_of s) spread) (default_of s)
  default-says o s good once fit spread is =
      each-says answers p row o s good.owns fit OfDefault spread is
      ∙ given-found (net_says answers p row (default_of s) spread) (λ (n : Network). picks OfDefault s.default n) s.networks (at-most-one (λ (n : Network). picks OfDefault s.default n) s.networks once.networks (λ m n in_m in_n e f.
      good.one_id m n in_m in_n (picked-default OfDefault refl s s refl m n e f)))

-- The rows by which a packet goes that is bound: the network of its interface, where the packet may choose it.
module _ (answers : Answers) (p : Packet) (row : Row) (bound : row.bound ≡ true) (not_own : is_own row.incoming ≡ false) where
  abbrev link_of_net : Network → Bool → ℕ → Option Verdict
  link_of_net n test link = only_if (only_if (only_if (lead_says answers row.target link) (selects_link (stated row.incoming 0) (Some p.incoming))) test) (has_link n link)

  -- what of the packet's mark and user the row tests, for a network
  abbrev pub admits : NetworkPart → Network → Bool
  admits Whole n = false
  admits EachInterface n = suits row p n.id (permission_of n.kind) && is_user row p None
  admits EachRange n = suits row p n.id (permission_of n.kind) && list_any (λ (r : Ranked). is_user row p (Some r.users)) (ranges_of n.kind)
  admits EachDefault n = false

  net-bound : (home : Option Network) (spread : NetworkPart) → is_linked spread ≡ true → (link : ℕ) → p.outgoing ≡ Some link → (n : Network) → net_says answers p row home spread n ≡ link_of_net n (admits spread n) link
  net-bound home Whole linked link out n = absurd (false≢true linked)
  net-bound home EachInterface linked link out n = ap (λ o. only_if o (admits EachInterface n)) (bound-links answers p row bound not_own link out n.interfaces) ∙ only-both (only_if (lead_says answers row.target link) (selects_link (stated row.incoming 0) (Some p.incoming))) (has_link n link) (admits EachInterface n)
  net-bound home EachRange linked link out n = ap (λ o. only_if o (admits EachRange n)) (bound-links answers p row bound not_own link out n.interfaces) ∙ only-both (only_if (lead_says answers row.target link) (selects_link (stated row.incoming 0) (Some p.incoming))) (has_link n link) (admits EachRange n)
  net-bound home EachDefault linked link out n = absurd (false≢true linked)

  -- by the binding: what the bound interface says, where its network is picked and admits the packet
  pub bound-says : (o : Owners) (s : StateView) → IsOwned o s → AreOnce s → is_fit row ≡ true → (pick : NetworkSet) (spread : NetworkPart) → is_linked spread ≡ true → row.per ≡ EachOf pick spread
      → (link : ℕ) → p.outgoing ≡ Some link
      → first_given (rule_says answers p) (rules_in s row)
      ≡ option_and_then (λ n. only_if (only_if (only_if (lead_says answers row.target link) (selects_link (stated row.incoming 0) (Some p.incoming))) (admits spread n)) (picks pick s.default n)) (find_link link s.networks)
  bound-says o s good once fit pick spread linked is link out =
      let k : Network → Option Verdict = λ n. only_if (only_if (only_if (lead_says answers row.target link) (selects_link (stated row.incoming 0) (Some p.incoming))) (admits spread n)) (picks pick s.default n) in
      each-says answers p row o s good.owns fit pick spread is
      ∙ (given-same (λ n. only_if (net_says answers p row (default_of s) spread n) (picks pick s.default n)) (λ n. only_if (k n) (has_link n link)) s.networks (λ place n at.
      ap (λ o. only_if o (picks pick s.default n)) (net-bound (default_of s) spread linked link out n)
      ∙ only-both (only_if (only_if (lead_says answers row.target link) (selects_link (stated row.incoming 0) (Some p.incoming))) (admits spread n)) (has_link n link) (picks pick s.default n))
      ∙ given-found k (λ n. has_link n link) s.networks (at-most-one (λ n. has_link n link) s.networks once.networks (λ m n in_m in_n e f.
      good.one_id m n in_m in_n (sym ((good.owns m in_m).links link (has-link m.interfaces link e)) ∙ (good.owns n in_n).links link (has-link n.interfaces link f)))))
    where
      has-link : (links : List ℕ) (link : ℕ) → list_any (λ i. i == link) links ≡ true → Has links link
      has-link [] link h = absurd (false≢true h)
      has-link (i ∷ links) link h = elim (cases_Bool (i == link)) [ inl e ↦ inl (eqb-true i link e) | inr e ↦ inr (has-link links link (rw e at h)) ]

-- what isn't bound is matched by no bound rule
module _ (answers : Answers) (p : Packet) (row : Row) (bound : row.bound ≡ true) (out : p.outgoing ≡ None) where
  none-by : (link : ℕ) → goes_by row p link link ≡ false
  none-by link =
      ap₂ (λ (b : Bool) (o : Option ℕ). selects_link (stated row.incoming link) (Some p.incoming) && selects_link (if b then Some link else None) o) bound out ∙ by (selects_link (stated row.incoming link) (Some p.incoming))
    where
      by : (b : Bool) → (b && false) ≡ false
      by true = refl
      by false = refl

  no-links : (links : List ℕ) → links_say answers p row links ≡ None
  no-links [] = refl
  no-links (l ∷ links) = rw (none-by l) (no-links links)

  if-none : {V : Type 0} (b : Bool) → only_if {V = V} None b ≡ None
  if-none true = refl
  if-none false = refl

  no-net : (home : Option Network) (spread : NetworkPart) → is_linked spread ≡ true → (n : Network) → net_says answers p row home spread n ≡ None
  no-net home Whole linked n = absurd (false≢true linked)
  no-net home EachInterface linked n = ap (λ o. only_if o (suits row p n.id (permission_of n.kind) && is_user row p None)) (no-links n.interfaces) ∙ if-none (suits row p n.id (permission_of n.kind) && is_user row p None)
  no-net home EachRange linked n =
      ap (λ o. only_if o (suits row p n.id (permission_of n.kind) && list_any (λ (r : Ranked). is_user row p (Some r.users)) (ranges_of n.kind))) (no-links n.interfaces)
      ∙ if-none (suits row p n.id (permission_of n.kind) && list_any (λ (r : Ranked). is_user row p (Some r.users)) (ranges_of n.kind))
  no-net home EachDefault linked n = absurd (false≢true linked)

  pub unbound-says : (o : Owners) (s : StateView) → AreOwners o s → is_fit row ≡ true → (pick : NetworkSet) (spread : NetworkPart) → is_linked spread ≡ true → row.per ≡ EachOf pick spread
      → first_given (rule_says answers p) (rules_in s row) ≡ None
  unbound-says o s own fit pick spread linked is =
      each-says answers p row o s own fit pick spread is
      ∙ (given-same (λ n. only_if (net_says answers p row (default_of s) spread n) (picks pick s.default n)) (λ n. None) s.networks (λ place n at.
      ap (λ o. only_if o (picks pick s.default n)) (no-net (default_of s) spread linked n) ∙ if-none (picks pick s.default n))
      ∙ nothing s.networks)
    where
      nothing : (ns : List Network) → first_given {N = Network} {V = Verdict} (λ n. None) ns ≡ None
      nothing [] = refl
      nothing (n ∷ ns) = nothing ns
