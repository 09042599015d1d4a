-- A kernel that stands for a good state sends every packet where the policy says.
use Rattle.std.proofs.Common.{◌≡◌, ◌≢◌, ◌∙◌, ◌==◌, ◌+◌, ◌≤◌, ℕ, true, false, Option, Some, None, unwrap_or, List, [], ◌∷◌, refl, sym, ap, subst, inl, inr, map, arith, lit<}
use Rattle.std.specs.Prelude.{◌&&◌, flat_map, bit_and}
use Rattle.std.specs.Option.{option_map}
use Rattle.std.proofs.lemmas.Bool.{cases_Bool, false≢true}
use Rattle.std.proofs.lemmas.Bool.Decides.{nat_tests}
use Rattle.fwmark.proofs.Selected.{value_and_mask-select}
use Rattle.fib_table.specs.Table.{routes_in}
use Rattle.prefixes.specs.Addr.{family_of}
use Rattle.prefixes.specs.Best.{answer}
use Rattle.prefixes.specs.declared.route.Answer.{Answer}
use Rattle.rule_law.specs.Rules.{has, NoneBelow, Rises, GiversAreAlike}
use Rattle.rule_law.proofs.Beside.{GiversAreAlike-append, walk-same}
use Rattle.rule_law.proofs.Orders.{NoneBelow-has, NoneBelow-lower}
use Rattle.rule_law.proofs.Statements.{stands_walks}
use Rattle.rule_match.specs.Rule.{matches}
use Rattle.rule_match.specs.Verdict.{verdict_of}
use Rattle.rule_match.specs.declared.packet.Packet.{Packet}
use Rattle.rule_match.specs.declared.rule.Action.{Action}
use Rattle.rule_match.specs.declared.rule.Rule.{Rule}
use Rattle.rule_kinds.specs.Kind.{rule_kind}
use Rattle.rule_kinds.specs.KindLaws.{alike_self}
use Rattle.kernel_model.specs.Stands.{Stands}
use Rattle.kernel_model.specs.State.{KernelState, NumberedTable, rules_of, routes_of, own_rule, loopback}
use Rattle.kernel_model.specs.Walk.{verdict_by, gives, rule_gives, walk}
use Rattle.kernel_model.proofs.Levels.{givers-alike}
use Rattle.policy_state.specs.View.{Kind, Local, Physical, Virtual, LinkRoute, Network, StateView}
use Rattle.policy_state.specs.declared.tether.TetherPair.{TetherPair}
use Rattle.policy_state.specs.Table.{table_by_rows, rules_in, rows, route_list}
use Rattle.policy_state.proofs.Owners.{Has, Owners, IsOwned, AreOnce, HasLinks, IsWhole, IsOutput}
use Rattle.policy_meaning.proofs.Answers.{Answers, asks_links, by_tables, action_says, rule_says}
use Rattle.policy_meaning.specs.Policy.{only_if, first_given, asks_pair, asks_routes, by_routes, policy_by, is_to_device}
use Rattle.policy_state.specs.Good.{is_local_network}
use Rattle.networks.specs.Network.{routes_by, local_id}
use Rattle.policy_state.proofs.Sorted.{Rises-in_order}
use Rattle.policy_state.proofs.AlikeRules.{table-alike}
use Rattle.policy_state.proofs.Tables.{table-is, table-behind_own}
use Rattle.policy_meaning.proofs.Given.{given-has, walk-given, given-one}
use Rattle.policy_meaning.proofs.LevelsInTurn.{net-of-link, table-policy}
use Rattle.policy_meaning.proofs.TwoWays.{same-policy}
use Rattle.policy_meaning.proofs.Loopback.{own-gives}
use Rattle.policy_meaning.proofs.Routing.{link-routes, local-routes, answer-by}
use Rattle.fwmark.specs.declared.permission.Permission.TheVariants as needs
use Rattle.prefixes.specs.declared.route.Answer.TheVariants as to
use Rattle.rule_law.specs.Rules as law
use Rattle.rule_match.specs.declared.rule.Action.TheVariants as action
use Rattle.rule_match.specs.declared.verdict.Verdict.TheVariants as verdict

-- the table with the kernel's own rule in front

table-past : (s : StateView) → NoneBelow rule_kind 1 (table_by_rows s)
table-past s = subst (NoneBelow rule_kind 1) (table-is s) (table-behind_own s)

own-rises : (s : StateView) → Rises rule_kind (own_rule ∷ table_by_rows s)
own-rises s = (NoneBelow-lower rule_kind 0 1 (table_by_rows s) (omega arith) (table-past s), Rises-in_order rule_kind (flat_map (rules_in s) rows))

only_own : (x : Rule) → has rule_kind (own_rule ∷ []) x ≡ true → x ≡ own_rule
only_own x h = elim (cases_Bool (rule_kind.same x own_rule)) [
  | inl e ↦ rule_kind.same_is x own_rule e
  | inr e ↦ absurd (false≢true (rw e at h))
]

own-givers : (o : Owners) (s : StateView) (tables : List NumberedTable) (p : Packet) → IsOwned o s → GiversAreAlike rule_kind (rule_gives tables p) (own_rule ∷ table_by_rows s)
own-givers o s tables p good =
    GiversAreAlike-append rule_kind (rule_gives tables p) (own_rule ∷ []) (table_by_rows s)
    (λ x y in_x in_y same gives_x gives_y. rw (only_own x in_x, only_own y in_y) (alike_self own_rule))
    (givers-alike (table_by_rows s) tables p (λ x y in_x in_y same match_x match_y. table-alike o s good p x y in_x in_y match_x match_y same))
    (λ x y in_x in_y same gives_x.
    let own : x.priority ≡ 0 = ap (λ (r : Rule). r.priority) (only_own x in_x) in
    let behind : 1 ≤ y.priority = NoneBelow-has rule_kind 1 (table_by_rows s) y (table-past s) in_y in
    absurd (omega (arith, own, behind, same)))

-- what tables answer

selects_all : (word : ℕ) → (bit_and word 0 == 0) ≡ true
selects_all word = value_and_mask-select (record { net = None; explicit = None; guarded = None; permission = needs.Nothing }) word (lit< tt)

plain-verdict : (n : ℕ) → (n == 255) ≡ false → (o : Option Answer) → option_map (verdict_by n) o ≡ option_map verdict_of o
plain-verdict n plain None = refl
plain-verdict n plain (Some (to.Out link gateway)) = rw plain refl
plain-verdict n plain (Some to.Unreachable) = refl

linked-plain : (link : ℕ) → (1000 + link == 255) ≡ false
linked-plain link = grind (arith, nat_tests)

-- the kernel's own rule answers for the device itself
pub own-gives-device : (tables : List NumberedTable) (p : Packet) → routes_of 255 tables ≡ loopback → rule_gives tables p own_rule ≡ only_if (Some verdict.Local) (is_to_device p)
own-gives-device tables p own_table =
    ap (λ b. only_if (option_map (verdict_by 255) (answer (routes_of 255 tables) p.dest p.outgoing)) (b && true)) (selects_all p.mark)
    ∙ (ap (λ routes. option_map (verdict_by 255) (answer routes p.dest p.outgoing)) own_table ∙ own-gives p.dest p.outgoing)

module _ (o : Owners) (s : StateView) (good : IsOwned o s) (once : AreOnce s) (links : HasLinks s) (whole : IsWhole s) (local_named : whole.local.id ≡ local_id)
    (tables : List NumberedTable) (own_table : routes_of 255 tables ≡ loopback) (in_table : (n : ℕ) → n ≢ 255 → routes_of n tables ≡ routes_in n (route_list s)) (p : Packet) where
  abbrev answers : Answers
  answers = λ n. option_map (verdict_by n) (answer (routes_of n tables) p.dest p.outgoing)

  action-gives : (act : Action) → gives tables act p ≡ action_says answers act
  action-gives (action.Table n) = refl
  action-gives action.Prohibit = refl
  action-gives action.Unreachable = refl

  rule-gives : (x : Rule) → rule_gives tables p x ≡ rule_says answers p x
  rule-gives x = ap (λ v. only_if v (matches x p)) (action-gives x.action)

  link-answers : (n : Network) (link : ℕ) → Has s.networks n → Has n.interfaces link → is_local_network n ≡ false → answers (1000 + link) ≡ asks_routes (routes_by link n.routes) p
  link-answers n link there has away =
      plain-verdict (1000 + link) (linked-plain link) (answer (routes_of (1000 + link) tables) p.dest p.outgoing)
      ∙ ap (λ routes. option_map verdict_of (answer routes p.dest p.outgoing)) (in_table (1000 + link) (λ e. omega (arith, e)) ∙ link-routes s o good once whole n link there has away)

  -- the local network is the first one
  first-local : (n : Network) → Has s.networks n → is_local_network n ≡ true → whole.local ≡ n
  first-local n there local = by (subst (λ (ns : List Network). Has ns n) whole.first there)
    where
      by : Has (whole.local ∷ whole.others) n → whole.local ≡ n
      by (inl e) = e
      by (inr h) = absurd (false≢true (sym (whole.not_local n h) ∙ local))

  local-answers : (n : Network) → Has s.networks n → is_local_network n ≡ true → answers 97 ≡ asks_routes (map (λ (r : LinkRoute). r.route) n.routes) p
  local-answers n there local =
      plain-verdict 97 refl (answer (routes_of 97 tables) p.dest p.outgoing)
      ∙ ap (λ routes. option_map verdict_of (answer routes p.dest p.outgoing))
      (in_table 97 (λ e. omega (arith, e)) ∙ (local-routes s o good once whole ∙ ap (λ (n : Network). map (λ (r : LinkRoute). r.route) n.routes) (first-local n there local)))

  local-by : (n : Network) (link : ℕ) → Has s.networks n → is_local_network n ≡ true → p.outgoing ≡ Some link → answers 97 ≡ asks_routes (routes_by link n.routes) p
  local-by n link there local out =
      local-answers n there local
      ∙ (ap (λ bound. option_map verdict_of (answer (map (λ (r : LinkRoute). r.route) n.routes) p.dest bound)) out
      ∙ (ap (option_map verdict_of) (answer-by n.routes p.dest link (λ r in_r. whole.local_routes r (subst (λ (m : Network). Has m.routes r) (sym (first-local n there local)) in_r)))
      ∙ sym (ap (λ bound. option_map verdict_of (answer (routes_by link n.routes) p.dest bound)) out)))

  -- both ways to ask agree

  nets : (n : Network) → Has s.networks n → (by_tables answers).net n ≡ (by_routes p).net n
  nets n there = by n.kind refl
    where
      links-same : is_local_network n ≡ false → asks_links answers n.interfaces ≡ first_given (λ link. asks_routes (routes_by link n.routes) p) n.interfaces
      links-same away = given-has (λ link. answers (1000 + link)) (λ link. asks_routes (routes_by link n.routes) p) n.interfaces (λ link has. link-answers n link there has away)

      by : (k : Kind) → n.kind ≡ k → (by_tables answers).net n ≡ (by_routes p).net n
      by Local is = rw is (local-answers n there (rw is refl))
      by (Physical permission apps) is = rw is (links-same (rw is refl))
      by (Virtual secure users) is = rw is (links-same (rw is refl))

  bound : (n : Network) (link : ℕ) → Has s.networks n → Has n.interfaces link → p.outgoing ≡ Some link → (by_tables answers).link n link ≡ (by_routes p).link n link
  bound n link there has out = by n.kind refl
    where
      by : (k : Kind) → n.kind ≡ k → (by_tables answers).link n link ≡ (by_routes p).link n link
      by Local is = rw is (local-by n link there (rw is refl) out)
      by (Physical permission apps) is = rw is (link-answers n link there has (rw is refl))
      by (Virtual secure users) is = rw is (link-answers n link there has (rw is refl))

  pairs : (pair : TetherPair) → Has s.pairs pair → asks_pair (by_tables answers) s p pair ≡ asks_pair (by_routes p) s p pair
  pairs pair there =
      let it : IsOutput s pair.out = whole.outputs pair there in
      ap (λ v. only_if v (pair.input == p.incoming)) (rw (net-of-link o s good pair.out it.net it.there it.has) (by it it.net.kind refl))
    where
      by : (it : IsOutput s pair.out) (k : Kind) → it.net.kind ≡ k → (by_tables answers).link it.net pair.out ≡ (by_routes p).link it.net pair.out
      by it Local is = absurd (false≢true (sym (rw is at it.not_local)))
      by it (Physical permission apps) is = rw is (link-answers it.net pair.out it.there it.has it.not_local)
      by it (Virtual secure users) is = rw is (link-answers it.net pair.out it.there it.has it.not_local)

  own-says : rule_says answers p own_rule ≡ only_if (Some verdict.Local) (is_to_device p)
  own-says = sym (rule-gives own_rule) ∙ own-gives-device tables p own_table

  pub rules-mean : law.walk (rule_gives tables p) verdict.Unreachable (own_rule ∷ table_by_rows s) ≡ policy_by (by_routes p) s p
  rules-mean =
      walk-same rule_kind (rule_gives tables p) (rule_says answers p) verdict.Unreachable (own_rule ∷ table_by_rows s) (λ x there. rule-gives x)
      ∙ (walk-given (rule_says answers p) verdict.Unreachable (own_rule ∷ []) (table_by_rows s)
      ∙ (ap (λ v. unwrap_or v (law.walk (rule_says answers p) verdict.Unreachable (table_by_rows s))) (given-one (rule_says answers p) own_rule ∙ own-says)
      ∙ (table-policy answers s p o good once links whole local_named ∙ same-policy (by_tables answers) (by_routes p) s p nets bound pairs)))

pub kernel-means : (o : Owners) (s : StateView) (k : KernelState) (p : Packet) → IsOwned o s → AreOnce s → HasLinks s → (whole : IsWhole s) → whole.local.id ≡ local_id → Stands k (table_by_rows s) (route_list s)
    → walk k p ≡ policy_by (by_routes p) s p
kernel-means o s k p good once links whole local_named stands =
    stands_walks rule_kind (rule_gives k.tables p) verdict.Unreachable (rules_of k (family_of p.dest)) (own_rule ∷ table_by_rows s)
    (own-rises s) (own-givers o s k.tables p good) (stands.in_family (family_of p.dest))
    ∙ rules-mean o s good once links whole local_named k.tables stands.own_table stands.in_table p
