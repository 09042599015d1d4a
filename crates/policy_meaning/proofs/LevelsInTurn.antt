-- The walk of the table asks its rows in turn, and so its levels, which are the policy's points.
use Rattle.std.proofs.Common.{◌≡◌, ◌∙◌, Option, unwrap_or, List, [], ◌∷◌, refl, ap, map, ◌≢◌, ◌==◌, ◌≤◌, ℕ, Bool, true, false, Some, None, sym, ap₂, subst, inl, inr, arith}
use Rattle.std.specs.Prelude.{flat_map, ◌+◌, ◌&&◌, ◌||◌, not, find, IsNone}
use Rattle.rule_law.specs.Rules.{walk}
use Rattle.rule_kinds.specs.Kind.{rule_kind}
use Rattle.rule_match.specs.declared.rule.Rule.{Rule}
use Rattle.policy_state.specs.View.{StateView, Kind, Local, Physical, Virtual, Network}
use Rattle.policy_state.specs.declared.row.Row.{Row}
use Rattle.policy_state.specs.Table.{in_order, rules_in, rows, table_by_rows, root_physical, root_local, virtual_to_local, secure_named, locked_down, explicit_physical, explicit_local, explicit_virtual, explicit_root, bound_physical, bound_local, bound_virtual, local_links, tethered, implicit, bypass_named, split, default_links, last}
use Rattle.policy_state.proofs.Owners.{Owners, AreOwners, Has, IsOwned, AreOnce, HasLinks, IsOutput, IsWhole, Passing, of_any, any-from, found}
use Rattle.policy_state.proofs.InOrder.{table-in_order, unranked-in_order}
use Rattle.policy_meaning.specs.Policy.{first_given, first_answer, only_if, Asks, asks_named, asks_bound, asks_default, asks_holders, asks_pair, is_usable, may_reach, may_bind, may_choose, names_virtual, is_locked_down, is_to_device, is_loopback, may_use_lo, asks_local, policy_by}
use Rattle.policy_meaning.proofs.Given.{walk-given, given-has}
use Rattle.std.specs.List.{list_any}
use Rattle.std.specs.Option.{option_or, option_and_then}
use Rattle.std.proofs.lemmas.Bool.{cases_Bool, false≢true, false_from_ne_true, eqb-true, eq-eqb}
use Rattle.fwmark.specs.Mark.{net_of, is_explicit, is_protected, has_system}
use Rattle.rule_match.specs.Packet.{is_made}
use Rattle.rule_match.specs.declared.packet.Packet.{Packet}
use Rattle.rule_match.specs.declared.verdict.Verdict.{Verdict}
use Rattle.policy_state.specs.Rows.{is_free, is_secure, is_bypass}
use Rattle.policy_meaning.proofs.Answers.{Answers, by_tables, rule_says}
use Rattle.policy_state.specs.Good.{is_local_network}
use Rattle.networks.specs.Lists.{find_id, find_link}
use Rattle.networks.specs.Kinds.{is_virtual}
use Rattle.networks.specs.Network.{has_link, local_id}
use Rattle.policy_meaning.proofs.Levels.{pair_says, comes_from, from_virtual, root-level, virtual-level, secure-named, barred-level, explicit-level, bound-level, local-level, pairs-level, implicit-level, bypass-named, split-level, default-level, last-level}
use Rattle.policy_meaning.proofs.RankLevels.{secure-level, bypass-level, app-level}
use Rattle.rule_match.specs.declared.verdict.Verdict.TheVariants as verdict

pub walk-rows : {V : Type 0} (g : Rule → Option V) (none : V) (f : Row → List Rule) (some : List Row) → walk g none (flat_map f some) ≡ first_answer none (map (λ row. first_given g (f row)) some)
walk-rows g none f [] = refl
walk-rows g none f (row ∷ rest) = walk-given g none (f row) (flat_map f rest) ∙ ap (unwrap_or (first_given g (f row))) (walk-rows g none f rest)

-- the walk of a table asks its rows in turn
pub walk-table : {V : Type 0} (o : Owners) (s : StateView) → AreOwners o s → (g : Rule → Option V) (none : V)
    → walk g none (table_by_rows s) ≡ first_answer none (map (λ row. first_given g (in_order rule_kind (rules_in s row))) rows)
walk-table o s own g none = ap (walk g none) (table-in_order o s own) ∙ walk-rows g none (λ row. in_order rule_kind (rules_in s row)) rows

-- The table means the policy: the levels one after another, for what the device made and for what is passed on.

-- levels of one row, and of more

one : {V : Type 0} {a c : Option V} {x y : V} → a ≡ c → x ≡ y → unwrap_or a x ≡ unwrap_or c y
one e f = ap₂ unwrap_or e f

merged : {V : Type 0} (a b : Option V) (x : V) → unwrap_or a (unwrap_or b x) ≡ unwrap_or (option_or a b) x
merged None b x = refl
merged (Some v) b x = refl

two : {V : Type 0} (a b : Option V) {c : Option V} {x y : V} → option_or a b ≡ c → x ≡ y → unwrap_or a (unwrap_or b x) ≡ unwrap_or c y
two a b {x = x} e f = merged a b x ∙ one e f

three : {V : Type 0} (a b c : Option V) {d : Option V} {x y : V} → option_or a (option_or b c) ≡ d → x ≡ y → unwrap_or a (unwrap_or b (unwrap_or c x)) ≡ unwrap_or d y
three a b c {x = x} e f = ap (unwrap_or a) (merged b c x) ∙ (merged a (option_or b c) x ∙ one e f)

four : {V : Type 0} (a b c d : Option V) {r : Option V} {x y : V} → option_or a (option_or b (option_or c d)) ≡ r → x ≡ y → unwrap_or a (unwrap_or b (unwrap_or c (unwrap_or d x))) ≡ unwrap_or r y
four a b c d {x = x} e f = ap (λ z. unwrap_or a (unwrap_or b z)) (merged c d x) ∙ (ap (unwrap_or a) (merged b (option_or c d) x) ∙ (merged a (option_or b (option_or c d)) x ∙ one e f))

-- lists of which nothing is meant

find-none : {N : Type 0} (t : N → Bool) (xs : List N) → ((x : N) → Has xs x → t x ≡ false) → find t xs ≡ None
find-none t [] h = refl
find-none t (x ∷ xs) h = rw (h x (inl refl)) (find-none t xs (λ y g. h y (inr g)))

any-none : {N : Type 0} (t : N → Bool) (xs : List N) → ((x : N) → Has xs x → t x ≡ false) → list_any t xs ≡ false
any-none t [] h = refl
any-none t (x ∷ xs) h = rw (h x (inl refl)) (any-none t xs (λ y g. h y (inr g)))

given-nothing : {N V : Type 0} (g : N → Option V) (xs : List N) → ((x : N) → Has xs x → g x ≡ None) → first_given g xs ≡ None
given-nothing g [] h = refl
given-nothing g (x ∷ xs) h = rw (h x (inl refl)) (given-nothing g xs (λ y t. h y (inr t)))

not-equal : (m n : ℕ) → (m ≡ n → ⊥) → (m == n) ≡ false
not-equal m n h = false_from_ne_true (m == n) (λ e. h (eqb-true m n e))

pub none_is : {X : Type 0} (o : Option X) → IsNone o → o ≡ None
none_is None h = refl
none_is (Some x) h = absurd (false≢true (sym h))

-- the network that is found by its interface
pub net-of-link : (o : Owners) (s : StateView) → IsOwned o s → (link : ℕ) (n : Network) → Has s.networks n → Has n.interfaces link → find_link link s.networks ≡ Some n
net-of-link o s good link n there has = found (λ m. has_link m link) s.networks n there (any-from (λ i. i == link) n.interfaces link has (eq-eqb link link refl)) (λ m in_m e.
    let it : Passing (λ i. i == link) m.interfaces = of_any (λ i. i == link) m.interfaces e in
    let mine : Has m.interfaces link = subst (λ i. Has m.interfaces i) (eqb-true it.one link it.passes) it.there in
    good.one_id m n in_m there (sym ((good.owns m in_m).links link mine) ∙ (good.owns n there).links link has))

-- The rows of the default network come in another order than the policy's points: but a mark names a virtual network, or
-- none.
in_turn : {V : Type 0} (default apps : Option V) (virtual unset : Bool) (last : V) → (unset ≡ true → virtual ≡ false)
    → unwrap_or (only_if default virtual) (unwrap_or (only_if apps unset) (unwrap_or (only_if default unset) last)) ≡ unwrap_or (only_if apps unset) (unwrap_or (only_if default (unset || virtual)) last)
in_turn default apps virtual true last h = rw (h refl) refl
in_turn default apps virtual false last h = refl

module _ (answers : Answers) (s : StateView) (p : Packet) (o : Owners) (good : IsOwned o s) (once : AreOnce s) (links : HasLinks s) (whole : IsWhole s) (local_named : whole.local.id ≡ local_id) where
  abbrev a : Asks
  a = by_tables answers

  abbrev row_says : Row → Option Verdict
  row_says row = first_given (rule_says answers p) (in_order rule_kind (rules_in s row))

  abbrev row_plainly : Row → Option Verdict
  row_plainly row = first_given (rule_says answers p) (rules_in s row)

  plainly : (row : Row) → row.ranked ≡ false → row_says row ≡ row_plainly row
  plainly row plain = ap (first_given (rule_says answers p)) (unranked-in_order o s good.owns row plain)

  abbrev virtually : Bool
  virtually = from_virtual answers s p o good once

  -- what each level says
  abbrev levels : List (Option Verdict)
  levels =
      only_if (only_if (asks_bound a s p (may_reach p)) (p.uid.number == 0)) (is_made p)
      ∷ only_if (answers 97) virtually
      ∷ only_if (asks_named a s p (λ n. is_secure n.kind)) (has_system p.mark)
      ∷ only_if (only_if (asks_holders a s p is_secure) (not (is_protected p.mark))) (is_made p)
      ∷ only_if (only_if (Some verdict.Prohibited) (is_locked_down s p)) (is_made p)
      ∷ only_if (only_if (asks_named a s p (may_choose p)) (is_explicit p.mark)) (is_made p)
      ∷ only_if (asks_bound a s p (may_bind p)) (is_made p)
      ∷ only_if (answers 97) (not (is_explicit p.mark))
      ∷ first_given (pair_says answers s p o good once) s.pairs
      ∷ only_if (only_if (asks_named a s p (λ n. is_free n.kind)) (not (is_explicit p.mark))) (is_made p)
      ∷ only_if (asks_named a s p (λ n. is_bypass n.kind)) (has_system p.mark)
      ∷ only_if (only_if (asks_holders a s p is_bypass) (not (is_protected p.mark) && not (is_explicit p.mark))) (is_made p)
      ∷ only_if (asks_default a s p) (names_virtual s p && not (is_explicit p.mark))
      ∷ only_if (only_if (asks_holders a s p (is_usable p)) (net_of p.mark == 0)) (is_made p)
      ∷ only_if (only_if (asks_default a s p) (net_of p.mark == 0)) (is_made p)
      ∷ Some verdict.Unreachable
      ∷ []

  by-levels : first_answer verdict.Unreachable (map row_says rows) ≡ first_answer verdict.Unreachable levels
  by-levels =
      two (row_says root_physical) (row_says root_local) (ap₂ option_or (plainly root_physical refl) (plainly root_local refl) ∙ root-level answers s p o good once)
      (one (plainly virtual_to_local refl ∙ virtual-level answers s p o good once)
      (one (plainly secure_named refl ∙ secure-named answers s p o good once)
      (one (secure-level answers s p o good.owns)
      (one (plainly locked_down refl ∙ barred-level answers s p o good once)
      (four (row_says explicit_physical) (row_says explicit_local) (row_says explicit_virtual) (row_says explicit_root) (ap₂ option_or (plainly explicit_physical refl) (ap₂ option_or (plainly explicit_local refl) (ap₂ option_or (plainly explicit_virtual refl) (plainly explicit_root refl))) ∙ explicit-level answers s p o good once)
      (three (row_says bound_physical) (row_says bound_local) (row_says bound_virtual) (ap₂ option_or (plainly bound_physical refl) (ap₂ option_or (plainly bound_local refl) (plainly bound_virtual refl)) ∙ bound-level answers s p o good once)
      (one (plainly local_links refl ∙ local-level answers s p o good once)
      (one (plainly tethered refl ∙ pairs-level answers s p o good once)
      (one (plainly implicit refl ∙ implicit-level answers s p o good once)
      (one (plainly bypass_named refl ∙ bypass-named answers s p o good once)
      (one (bypass-level answers s p o good.owns)
      (one (plainly split refl ∙ split-level answers s p o good once)
      (one (app-level answers s p o good.owns)
      (one (plainly default_links refl ∙ default-level answers s p o good once)
      (one (plainly last refl ∙ last-level answers s p o good once) refl)))))))))))))))

  -- no network has the id 0
  unnamed : (net_of p.mark == 0) ≡ true → names_virtual s p ≡ false
  unnamed zero = ap (λ o. elim o [ Some n ↦ is_virtual n.kind | None ↦ false ]) (find-none (λ (n : Network). net_of p.mark == n.id) s.networks (λ n there.
      let low : 1 ≤ n.id = links.ids n there in
      let is : net_of p.mark ≡ 0 = eqb-true (net_of p.mark) 0 zero in
      not-equal (net_of p.mark) n.id (λ e. omega (arith, low, is, e))))

  -- what the device made comes by no interface of a network, and by no input of a pair

  not-virtually : is_made p ≡ true → virtually ≡ false
  not-virtually is = any-none (λ n. is_virtual n.kind && comes_from answers s p o good once n) s.networks (λ n there.
      ap (λ b. is_virtual n.kind && b) (any-none (λ i. i == p.incoming) n.interfaces (λ link at.
      let low : 2 ≤ link = links.interfaces n link there at in
      let incoming : p.incoming ≡ 1 = eqb-true p.incoming 1 is in
      not-equal link p.incoming (λ e. omega (arith, low, incoming, e))))
      ∙ never (is_virtual n.kind))
    where
      never : (b : Bool) → (b && false) ≡ false
      never b = grind arith

  no-pairs : is_made p ≡ true → first_given (pair_says answers s p o good once) s.pairs ≡ None
  no-pairs is = given-nothing (pair_says answers s p o good once) s.pairs (λ pair there.
      let low : 2 ≤ pair.input = (links.pairs pair there).0 in
      let incoming : p.incoming ≡ 1 = eqb-true p.incoming 1 is in
      ap (only_if (answers (1000 + pair.out))) (not-equal pair.input p.incoming (λ e. omega (arith, low, incoming, e))))

  -- the local network, and the network of a link

  by_local : asks_local a s ≡ answers 97
  by_local = ap (λ ns. option_and_then a.net (find_id local_id ns)) whole.first ∙ (rw local_named (of whole.local whole.local.kind refl whole.local_is))
    where
      of : (n : Network) (k : Kind) → n.kind ≡ k → is_local_network n ≡ true → a.net n ≡ answers 97
      of n Local is local = rw is refl
      of n (Physical permission apps) is local = absurd (false≢true (rw is at local))
      of n (Virtual secure users) is local = absurd (false≢true (rw is at local))

  by_link : (link : ℕ) → IsOutput s link → option_and_then (λ (n : Network). a.link n link) (find_link link s.networks) ≡ answers (1000 + link)
  by_link link it = ap (option_and_then (λ (n : Network). a.link n link)) (net-of-link o s good link it.net it.there it.has) ∙ of it.net it.net.kind refl it.not_local
    where
      of : (n : Network) (k : Kind) → n.kind ≡ k → is_local_network n ≡ false → a.link n link ≡ answers (1000 + link)
      of n Local is away = absurd (false≢true (sym (rw is at away)))
      of n (Physical permission apps) is away = rw is refl
      of n (Virtual secure users) is away = rw is refl

  by_pairs : first_given (pair_says answers s p o good once) s.pairs ≡ first_given (asks_pair a s p) s.pairs
  by_pairs = given-has (pair_says answers s p o good once) (asks_pair a s p) s.pairs (λ pair there. ap (λ v. only_if v (pair.input == p.incoming)) (sym (by_link pair.out (whole.outputs pair there))))

  abbrev to_device : Option Verdict
  to_device = only_if (Some verdict.Local) (is_to_device p)

  unset-virtual : (net_of p.mark == 0) ≡ true → (names_virtual s p && not (is_explicit p.mark)) ≡ false
  unset-virtual zero = rw (unnamed zero) refl

  -- what comes before the rows of the default network, for what the device made
  abbrev front : List (Option Verdict)
  front =
      to_device
      ∷ only_if (asks_bound a s p (may_reach p)) (p.uid.number == 0)
      ∷ only_if (asks_named a s p (λ n. is_secure n.kind)) (has_system p.mark)
      ∷ only_if (asks_holders a s p is_secure) (not (is_protected p.mark))
      ∷ only_if (Some verdict.Prohibited) (is_locked_down s p)
      ∷ only_if (asks_named a s p (may_choose p)) (is_explicit p.mark)
      ∷ asks_bound a s p (may_bind p)
      ∷ only_if (answers 97) (not (is_explicit p.mark))
      ∷ only_if (asks_named a s p (λ n. is_free n.kind)) (not (is_explicit p.mark))
      ∷ only_if (asks_named a s p (λ n. is_bypass n.kind)) (has_system p.mark)
      ∷ only_if (asks_holders a s p is_bypass) (not (is_protected p.mark) && not (is_explicit p.mark))
      ∷ []

  as-policy : unwrap_or to_device (first_answer verdict.Unreachable levels) ≡ policy_by a s p
  as-policy = elim (cases_Bool (is_made p)) [
    | inl made ↦ rw (made, not-virtually made, no-pairs made, by_local) (ap (λ v. first_answer v front)
        (in_turn (asks_default a s p) (asks_holders a s p (is_usable p)) (names_virtual s p && not (is_explicit p.mark)) (net_of p.mark == 0) verdict.Unreachable unset-virtual))
    | inr passed ↦
        let incoming : p.incoming ≢ 1 = λ e. false≢true (sym passed ∙ eq-eqb p.incoming 1 e) in
        let no_mark = p.no_mark_passed incoming in
        let explicit : is_explicit p.mark ≡ false = ap is_explicit no_mark in
        let system : has_system p.mark ≡ false = ap has_system no_mark in
        let unbound : may_use_lo p.outgoing ≡ true = ap may_use_lo (none_is p.outgoing (p.not_bound_passed incoming)) in
        let unnamed : names_virtual s p ≡ false = unnamed (ap (λ mark. net_of mark == 0) no_mark) in
        rw (passed, explicit, system, unbound, unnamed, by_local, by_pairs) (plain (is_loopback p.dest) virtually (answers 97) (unwrap_or (first_given (asks_pair a s p) s.pairs) verdict.Unreachable))
  ]
    where
      plain : (b virtually : Bool) (local : Option Verdict) (v : Verdict)
          → unwrap_or (only_if (Some verdict.Local) (b && true)) (unwrap_or (only_if local virtually) (unwrap_or local v)) ≡ unwrap_or (only_if (Some verdict.Local) b) (unwrap_or local v)
      plain true virtually local v = refl
      plain false true None v = refl
      plain false true (Some w) v = refl
      plain false false local v = refl

  pub table-policy : unwrap_or to_device (walk (rule_says answers p) verdict.Unreachable (table_by_rows s)) ≡ policy_by a s p
  table-policy = ap (unwrap_or to_device) (walk-table o s good.owns (rule_says answers p) verdict.Unreachable ∙ by-levels) ∙ as-policy
