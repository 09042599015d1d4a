-- What is asked of a kernel that stands for a state can be asked.
use Rattle.std.proofs.Common.{Option, Some, None, ◌≡◌, ◌≤◌, ◌∷◌, [], ◌++◌, ◌&&◌, List, Bool, true, false, not, refl, sym, ◌∙◌, ap, subst, inl, inr, reverse, arith, ℕ, ap₂, append_assoc}
use Rattle.std.specs.Prelude.{◌⊎◌}
use Rattle.std.specs.List.{AllByRecursion}
use Rattle.std.proofs.lemmas.Bool.{cases_Bool, false≢true, false_from_ne_true}
use Rattle.std.proofs.lemmas.List.{reverse-append, append-nil}
use Rattle.policy_state.proofs.Tables.{table-behind_own}
use Rattle.fib_table.specs.Table.{has_key, has_route, routes_in}
use Rattle.networks.specs.Lists.{find_id}
use Rattle.networks.specs.declared.network.Network.{Network}
use Rattle.prefixes.specs.Addr.{same_family}
use Rattle.prefixes.specs.declared.route.Route.{Route}
use Rattle.prefixes.specs.declared.addr.Family.{Family}
use Rattle.prefixes.specs.declared.addr.Family.TheVariants as family
use Rattle.rule_law.specs.Rules.{has, HasEachOnce, NoneBelow}
use Rattle.rule_law.specs.Plans.{beyond}
use Rattle.rule_law.proofs.Classes.{has-classes}
use Rattle.rule_law.proofs.Membership.{has_beyond}
use Rattle.rule_law.proofs.Orders.{HasEachOnce-filter, NoneBelow-has}
use Rattle.rule_match.specs.Rule.{same_rule}
use Rattle.rule_match.specs.declared.rule.Rule.{Rule}
use Rattle.rule_match.proofs.Sames.{same_rule-true, same_rule-refl}
use Rattle.rule_kinds.specs.Kind.{rule_kind}
use Rattle.kernel_model.specs.PlanView.{PlanView}
use Rattle.kernel_model.specs.Same.{same_request, Distinct}
use Rattle.kernel_model.specs.State.{KernelState, rules_of, own_rule, is_absent, is_present, is_route}
use Rattle.kernel_model.specs.Switch.{twins, additions, deletions, requests_of}
use Rattle.kernel_model.specs.declared.request.Request.{Request}
use Rattle.kernel_model.specs.declared.request.Request.TheVariants as req
use Rattle.list_lemmas.proofs.Alls.{all-append, all-mapped, all-reverse}
use Rattle.policy_state.specs.Step.{changed, route_of}
use Rattle.policy_state.specs.Table.{rule_table, route_list, table_of}
use Rattle.policy_state.specs.View.{StateView, link_named}
use Rattle.commands.specs.declared.command.Command.{Command}
use Rattle.commands.specs.declared.command.Command.TheVariants as command
use Rattle.policy_state.proofs.Owners.{Has}
use Rattle.rule_compile.specs.Asked.{routes_come, asked_adds, asked_deletes, MayStep}
use Rattle.rule_compile.proofs.Asks.{Asks, Rules, Comes, Goes, Leaves, asked-come}
use Rattle.rule_compile.proofs.Leaving.{all-of, has-has_route, in_table, not-own}
use Rattle.rule_compile.proofs.Tables.{after-good, table-once}

-- what holds of the rules of a list in either family holds of what asks for them
pub all-twins : (P : Request → Type 0) (rules : List Rule) → ((f : Family) (x : Rule) → has rule_kind rules x ≡ true → P (req.Rule f x)) → AllByRecursion P (twins rules)
all-twins P [] h = tt
all-twins P (r ∷ rs) h = (h family.V4 r here, (h family.V6 r here, all-twins P rs (λ f x there. h f x (behind x there))))
  where
    here : has rule_kind (r ∷ rs) r ≡ true
    here = rw (same_rule-refl r) refl

    behind : (x : Rule) → has rule_kind rs x ≡ true → has rule_kind (r ∷ rs) x ≡ true
    behind x there = elim (cases_Bool (same_rule x r)) [ inl same ↦ rw same refl | inr other ↦ rw other there ]

pub twins-rules : (rules : List Rule) → AllByRecursion (λ q. is_route q ≡ false) (twins rules)
twins-rules rules = all-twins (λ q. is_route q ≡ false) rules (λ f x there. refl)

-- what the other list lacks
pub record IsBeyond (other rules : List Rule) (x : Rule) : Type 0 where
  pub lacking : has rule_kind other x ≡ false
  pub there : has rule_kind rules x ≡ true

pub is_beyond : (other rules : List Rule) (x : Rule) → has rule_kind (beyond rule_kind other rules) x ≡ true → IsBeyond other rules x
is_beyond other rules x h = elim (cases_Bool (has rule_kind other x)) [
  | inl t ↦ absurd (false≢true (sym (has_beyond rule_kind other rules x ∙ rw t refl) ∙ h))
  | inr t ↦ record { lacking = t; there = sym (has_beyond rule_kind other rules x ∙ rw t refl) ∙ h }
]

not_own : (rules : List Rule) (x : Rule) → NoneBelow rule_kind 1 rules → has rule_kind rules x ≡ true → same_rule x own_rule ≡ false
not_own rules x behind there = false_from_ne_true (same_rule x own_rule) (λ same.
    let above : 1 ≤ x.priority = NoneBelow-has rule_kind 1 rules x behind there in
    let own : x.priority ≡ 0 = ap (λ (r : Rule). r.priority) (same_rule-true x own_rule same) in
    omega (arith, above, own))

module _ (k : KernelState) (s : StateView) (c : Command) (may : MayStep k s c) where
  abbrev old : List Rule
  old = rule_table s

  abbrev new : List Rule
  new = rule_table (changed s c)

  -- a kernel that stands for a table has the rules of the table after its own
  kernel-has : (f : Family) (x : Rule) → same_rule x own_rule ≡ false → has rule_kind (rules_of k f) x ≡ has rule_kind old x
  kernel-has f x other = has-classes rule_kind (rules_of k f) (own_rule ∷ old) (may.stands.in_family f).classes x ∙ rw other refl

  rules-absent : AllByRecursion (λ q. is_absent k q ≡ true) (additions old new)
  rules-absent = all-twins (λ q. is_absent k q ≡ true) (beyond rule_kind old new) each
    where
      each : (f : Family) (x : Rule) → has rule_kind (beyond rule_kind old new) x ≡ true → is_absent k (req.Rule f x) ≡ true
      each f x h =
          let came : IsBeyond old new x = is_beyond old new x h in
          ap not (kernel-has f x (not_own new x (table-behind_own (changed s c)) came.there) ∙ came.lacking)

  rules-present : AllByRecursion (λ q. is_present k q ≡ true) (reverse (twins (beyond rule_kind new old)))
  rules-present = all-reverse (λ q. is_present k q ≡ true) (twins (beyond rule_kind new old)) (all-twins (λ q. is_present k q ≡ true) (beyond rule_kind new old) each)
    where
      each : (f : Family) (x : Rule) → has rule_kind (beyond rule_kind new old) x ≡ true → is_present k (req.Rule f x) ≡ true
      each f x h =
          let went : IsBeyond new old x = is_beyond new old x h in
          kernel-has f x (not_own old x (table-behind_own s) went.there) ∙ went.there

  routes-present : (gone : List (ℕ × Route)) → ((g : ℕ × Route) → Has gone g → Has (route_list s) g) → AllByRecursion (λ q. is_present k q ≡ true) (requests_of gone)
  routes-present gone inside =
      all-mapped (λ q. is_present k q ≡ true) (λ (g : ℕ × Route). req.Route g.0 g.1) gone (all-of (λ (g : ℕ × Route). is_present k (req.Route g.0 g.1) ≡ true) gone (λ g h.
      ap (λ rs. has_route rs g.1) (may.stands.in_table g.0 (not-own s g (inside g h))) ∙ has-has_route (routes_in g.0 (route_list s)) g.1 (in_table g.0 (route_list s) g.1 (inside g h))))

  abbrev Absent : List Request → Type 0
  Absent qs = AllByRecursion (λ q. is_absent k q ≡ true) qs

  abbrev Present : List Request → Type 0
  Present qs = AllByRecursion (λ q. is_present k q ≡ true) qs

  pub adds-absent : Asks s c → Absent (asked_adds s c)
  adds-absent (Rules it) = subst Absent (sym it.adds) rules-absent
  adds-absent (Comes it) = subst Absent (sym it.adds) (ap (λ rs. not (has_key rs it.route)) (may.stands.in_table it.table it.not_own) ∙ ap not it.absent, tt)
  adds-absent (Goes it) = subst Absent (sym it.adds) tt
  adds-absent (Leaves it) = subst Absent (sym it.adds) tt

  pub deletes-present : Asks s c → Present (asked_deletes s c)
  deletes-present (Rules it) =
      subst Present (sym it.deletes)
      (all-append (λ q. is_present k q ≡ true) (reverse (twins (beyond rule_kind new old))) (requests_of it.gone) rules-present (routes-present it.gone it.routes.inside))
  deletes-present (Comes it) = subst Present (sym it.deletes) tt
  deletes-present (Goes it) = subst Present (sym it.deletes) (ap (λ rs. has_route rs it.route) (may.stands.in_table it.table it.not_own) ∙ it.there, tt)
  deletes-present (Leaves it) =
      subst Present (sym it.deletes)
      (all-append (λ q. is_present k q ≡ true) (requests_of it.first) (deletions old new []) (routes-present it.first it.routes.inside)
      (all-append (λ q. is_present k q ≡ true) (reverse (twins (beyond rule_kind new old))) [] rules-present tt))

-- rules alone, or one route

abbrev AreOfOneKind : List Request → Type 0
AreOfOneKind qs = AllByRecursion (λ q. is_route q ≡ false) qs ⊎ ((n : ℕ) × (route : Route) × (qs ≡ req.Route n route ∷ []))

rules_alone : (s : StateView) (c : Command) → routes_come s c ≡ [] → AreOfOneKind (asked_adds s c)
rules_alone s c none =
    let rules : List Request = additions (rule_table s) (rule_table (changed s c)) in
    inl (subst (AllByRecursion (λ q. is_route q ≡ false)) (sym (ap (λ rs. rules ++ requests_of rs) none ∙ append-nil rules))
    (twins-rules (beyond rule_kind (rule_table s) (rule_table (changed s c)))))

pub one_kind : (s : StateView) (c : Command) → AreOfOneKind (asked_adds s c)
one_kind s (command.LinkAdd name index) = rules_alone s (command.LinkAdd name index) refl
one_kind s (command.LinkRemove name) = rules_alone s (command.LinkRemove name) refl
one_kind s (command.CreatePhysical net permission) = rules_alone s (command.CreatePhysical net permission) refl
one_kind s (command.CreateVirtual net secure) = rules_alone s (command.CreateVirtual net secure) refl
one_kind s (command.Destroy net) = rules_alone s (command.Destroy net) refl
one_kind s (command.InterfaceAdd net name) = rules_alone s (command.InterfaceAdd net name) refl
one_kind s (command.InterfaceRemove net name) = rules_alone s (command.InterfaceRemove net name) refl
one_kind s (command.RouteAdd net name prefix w) = by (link_named s name) (find_id net s.networks) refl refl
  where
    come : Option ℕ → Option Network → List (ℕ × Route)
    come o p = elim o as (λ _. List (ℕ × Route)) [
      | Some i ↦ elim p as (λ _. List (ℕ × Route)) [ Some n ↦ (table_of n.kind i, route_of i prefix w) ∷ [] | None ↦ [] ]
      | None ↦ []
    ]

    come-is : (o : Option ℕ) (p : Option Network) → link_named s name ≡ o → find_id net s.networks ≡ p → routes_come s (command.RouteAdd net name prefix w) ≡ come o p
    come-is o p is found = ap₂ come is found

    by : (o : Option ℕ) (p : Option Network) → link_named s name ≡ o → find_id net s.networks ≡ p → AreOfOneKind (asked_adds s (command.RouteAdd net name prefix w))
    by None p is found = rules_alone s (command.RouteAdd net name prefix w) (come-is None p is found)
    by (Some link) None is found = rules_alone s (command.RouteAdd net name prefix w) (come-is (Some link) None is found)
    by (Some link) (Some n) is found =
        inr (table_of n.kind link, route_of link prefix w, ap (λ (p : PlanView). p.adds) (asked-come s net name prefix w) ∙ ap requests_of (come-is (Some link) (Some n) is found))
one_kind s (command.RouteRemove net name prefix special) = rules_alone s (command.RouteRemove net name prefix special) refl
one_kind s (command.UsersAdd net rank ranges) = rules_alone s (command.UsersAdd net rank ranges) refl
one_kind s (command.UsersRemove net ranges) = rules_alone s (command.UsersRemove net ranges) refl
one_kind s (command.AppAdd net rank ranges) = rules_alone s (command.AppAdd net rank ranges) refl
one_kind s (command.AppRemove net ranges) = rules_alone s (command.AppRemove net ranges) refl
one_kind s (command.DefaultSet net) = rules_alone s (command.DefaultSet net) refl
one_kind s command.DefaultClear = rules_alone s command.DefaultClear refl
one_kind s (command.PermissionNetwork net permission) = rules_alone s (command.PermissionNetwork net permission) refl
one_kind s (command.PermissionUser uid permission) = rules_alone s (command.PermissionUser uid permission) refl
one_kind s (command.PermissionClear uid) = rules_alone s (command.PermissionClear uid) refl
one_kind s (command.ProtectAllow uid) = rules_alone s (command.ProtectAllow uid) refl
one_kind s (command.ProtectDeny uid) = rules_alone s (command.ProtectDeny uid) refl
one_kind s (command.LockdownAdd range) = rules_alone s (command.LockdownAdd range) refl
one_kind s (command.LockdownRemove range) = rules_alone s (command.LockdownRemove range) refl
one_kind s (command.TetherAdd input out) = rules_alone s (command.TetherAdd input out) refl
one_kind s (command.TetherRemove input out) = rules_alone s (command.TetherRemove input out) refl

-- requests that are apart

abbrev IsApart : Request → List Request → Type 0
IsApart q qs = AllByRecursion (λ p. same_request q p ≡ false) qs

distinct-append : (xs ys : List Request) → Distinct xs → Distinct ys → AllByRecursion (λ q. IsApart q ys) xs → Distinct (xs ++ ys)
distinct-append [] ys in_xs in_ys apart = in_ys
distinct-append (x ∷ xs) ys in_xs in_ys apart =
    (all-append (λ p. same_request x p ≡ false) xs ys in_xs.0 apart.0, distinct-append xs ys in_xs.1 in_ys apart.1)

apart_rules : (f g : Family) (x y : Rule) → same_rule x y ≡ false → same_request (req.Rule f x) (req.Rule g y) ≡ false
apart_rules f g x y other = rw other (plain (same_family f g))
  where
    plain : (b : Bool) → (b && false) ≡ false
    plain true = refl
    plain false = refl

-- a rule that a list lacks is none of its rules
lacked : (rules : List Rule) (x y : Rule) → has rule_kind rules x ≡ false → has rule_kind rules y ≡ true → same_rule x y ≡ false
lacked rules x y lacking there = false_from_ne_true (same_rule x y) (λ same.
    false≢true (sym lacking ∙ subst (λ z. has rule_kind rules z ≡ true) (sym (same_rule-true x y same)) there))

apart_turned : (x y : Rule) → same_rule x y ≡ false → same_rule y x ≡ false
apart_turned x y other = false_from_ne_true (same_rule y x) (λ same.
    false≢true (sym other ∙ (ap (same_rule x) (same_rule-true y x same) ∙ same_rule-refl x)))

distinct-twins : (rules : List Rule) → HasEachOnce rule_kind rules → Distinct (twins rules)
distinct-twins [] once = tt
distinct-twins (r ∷ rs) once = ((refl, others family.V4), (others family.V6, distinct-twins rs once.1))
  where
    others : (f : Family) → IsApart (req.Rule f r) (twins rs)
    others f = all-twins (λ p. same_request (req.Rule f r) p ≡ false) rs (λ g x there. apart_rules f g r x (lacked rs r x once.0 there))

distinct-reversed : (rules : List Rule) → HasEachOnce rule_kind rules → Distinct (reverse (twins rules))
distinct-reversed [] once = tt
distinct-reversed (r ∷ rs) once =
    let pair : List Request = req.Rule family.V6 r ∷ req.Rule family.V4 r ∷ [] in
    let apart : AllByRecursion (λ q. IsApart q pair) (reverse (twins rs)) =
    all-reverse (λ q. IsApart q pair) (twins rs) (all-twins (λ q. IsApart q pair) rs (λ f x there.
    let other : same_rule x r ≡ false = apart_turned r x (lacked rs r x once.0 there) in
    (apart_rules f family.V6 x r other, (apart_rules f family.V4 x r other, tt)))) in
    subst Distinct (sym (reverse-append (req.Rule family.V4 r ∷ req.Rule family.V6 r ∷ []) (twins rs)))
    (distinct-append (reverse (twins rs)) pair (distinct-reversed rs once.1) ((refl, tt), (tt, tt)) apart)

-- rules are apart from routes

apart_routes : (f : Family) (x : Rule) (gone : List (ℕ × Route)) → IsApart (req.Rule f x) (requests_of gone)
apart_routes f x [] = tt
apart_routes f x (g ∷ gone) = (refl, apart_routes f x gone)

routes-apart : (gone : List (ℕ × Route)) (rules : List Rule) → AllByRecursion (λ q. IsApart q (reverse (twins rules))) (requests_of gone)
routes-apart [] rules = tt
routes-apart (g ∷ gone) rules =
    (all-reverse (λ p. same_request (req.Route g.0 g.1) p ≡ false) (twins rules) (all-twins (λ p. same_request (req.Route g.0 g.1) p ≡ false) rules (λ f x there. refl)), routes-apart gone rules)

module _ (k : KernelState) (s : StateView) (c : Command) (may : MayStep k s c) where
  abbrev came : List Rule
  came = beyond rule_kind (rule_table s) (rule_table (changed s c))

  abbrev went : List Rule
  went = beyond rule_kind (rule_table (changed s c)) (rule_table s)

  went-distinct : Distinct (reverse (twins went))
  went-distinct = distinct-reversed went (HasEachOnce-filter rule_kind (λ x. not (has rule_kind (rule_table (changed s c)) x)) (rule_table s) (table-once s may.good.formed))

  rules-distinct : Distinct (twins came ++ reverse (twins went))
  rules-distinct =
      distinct-append (twins came) (reverse (twins went))
      (distinct-twins came (HasEachOnce-filter rule_kind (λ x. not (has rule_kind (rule_table s) x)) (rule_table (changed s c)) (table-once (changed s c) (after-good k s c may).formed))) went-distinct
      (all-twins (λ q. IsApart q (reverse (twins went))) came (λ f x in_came.
      all-reverse (λ p. same_request (req.Rule f x) p ≡ false) (twins went)
      (all-twins (λ p. same_request (req.Rule f x) p ≡ false) went (λ g y in_went.
      apart_rules f g x y (lacked (rule_table s) x y (is_beyond (rule_table s) (rule_table (changed s c)) x in_came).lacking (is_beyond (rule_table (changed s c)) (rule_table s) y in_went).there)))))

  -- the rules, and routes after them
  with-routes : (gone : List (ℕ × Route)) → Distinct (requests_of gone) → Distinct (additions (rule_table s) (rule_table (changed s c)) ++ deletions (rule_table s) (rule_table (changed s c)) gone)
  with-routes gone distinct =
      subst Distinct (append_assoc (twins came) (reverse (twins went)) (requests_of gone))
      (distinct-append (twins came ++ reverse (twins went)) (requests_of gone) rules-distinct distinct
      (all-append (λ q. IsApart q (requests_of gone)) (twins came) (reverse (twins went)) (each came) (all-reverse (λ q. IsApart q (requests_of gone)) (twins went) (each went))))
    where
      each : (rules : List Rule) → AllByRecursion (λ q. IsApart q (requests_of gone)) (twins rules)
      each rules = all-twins (λ q. IsApart q (requests_of gone)) rules (λ f x there. apart_routes f x gone)

  pub asked-distinct : Asks s c → Distinct (asked_adds s c ++ asked_deletes s c)
  asked-distinct (Rules it) = subst Distinct (ap₂ (λ (adds deletes : List Request). adds ++ deletes) (sym it.adds) (sym it.deletes)) (with-routes it.gone it.routes.distinct)
  asked-distinct (Comes it) = subst Distinct (ap₂ (λ (adds deletes : List Request). adds ++ deletes) (sym it.adds) (sym it.deletes)) (tt, tt)
  asked-distinct (Goes it) = subst Distinct (ap₂ (λ (adds deletes : List Request). adds ++ deletes) (sym it.adds) (sym it.deletes)) (tt, tt)
  asked-distinct (Leaves it) =
      subst Distinct (ap₂ (λ (adds deletes : List Request). adds ++ deletes) (sym it.adds) (sym it.deletes))
      (distinct-append (requests_of it.first) (reverse (twins went) ++ []) it.routes.distinct (subst Distinct (sym (append-nil (reverse (twins went)))) went-distinct)
      (subst (λ qs. AllByRecursion (λ q. IsApart q qs) (requests_of it.first)) (sym (append-nil (reverse (twins went)))) (routes-apart it.first went)))
