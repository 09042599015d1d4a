-- Routes that go before the rules: what the kernel stands for after them, and at the end.
use Rattle.std.proofs.Common.{◌≡◌, ◌∙◌, ◌==◌, ℕ, not, List, [], ◌∷◌, ◌++◌, map, filter, refl, sym, ap, subst, inl, inr}
use Rattle.std.specs.Prelude.{◌≢◌}
use Rattle.std.proofs.lemmas.Bool.{cases_Bool, eqb-true}
use Rattle.std.proofs.lemmas.List.{map-append}
use Rattle.fib_table.specs.Table.{has_route, routes_in}
use Rattle.prefixes.specs.declared.addr.Family.{Family}
use Rattle.prefixes.specs.declared.addr.Family.TheVariants as family
use Rattle.prefixes.specs.declared.route.Route.{Route}
use Rattle.rule_law.specs.Rules as law
use Rattle.rule_kinds.specs.Kind.{rule_kind}
use Rattle.rule_match.specs.declared.rule.Rule.{Rule}
use Rattle.kernel_model.specs.Journal.{entry, replay_from}
use Rattle.kernel_model.specs.Segment.{done}
use Rattle.kernel_model.specs.Stands.{Stands}
use Rattle.kernel_model.specs.State.{KernelState, rules_of, routes_of, own_rule, cut_route, device_table}
use Rattle.kernel_model.specs.Switch.{additions, deletions, requests_of, switched, LosesRoutes}
use Rattle.kernel_model.specs.declared.request.EntryKind.TheVariants.{Deleted}
use Rattle.kernel_model.specs.declared.request.Request.{Request}
use Rattle.kernel_model.proofs.Replays.{replay_from-append}
use Rattle.kernel_model.proofs.Standing.{done_stands, routes_left}
use Rattle.kernel_model.proofs.Switches.{of_routes}
use Rattle.policy_state.specs.Good.{IsGood}
use Rattle.policy_state.specs.Table.{rule_table, route_list}
use Rattle.policy_state.specs.View.{StateView}
use Rattle.policy_state.proofs.Owners.{Has}
use Rattle.rule_compile.proofs.ChangeKinds.{TableTurns}
use Rattle.rule_compile.proofs.Leaving.{AreGone, keep_all, not-own}
use Rattle.rule_compile.proofs.Tables.{switch-between}

-- routes that go leave the rules
rules-kept : (k : KernelState) (gone : List (ℕ × Route)) (f : Family) → rules_of (replay_from k (of_routes gone)) f ≡ rules_of k f
rules-kept k [] f = refl
rules-kept k (g ∷ gone) f = rules-kept (record k { tables = cut_route g.0 g.1 k.tables }) gone f ∙ same f
  where
    same : (f : Family) → rules_of (record k { tables = cut_route g.0 g.1 k.tables }) f ≡ rules_of k f
    same family.V4 = refl
    same family.V6 = refl

none-own : (gone : List (ℕ × Route)) → ((g : ℕ × Route) → Has gone g → g.0 ≢ device_table) → routes_in device_table gone ≡ []
none-own [] h = refl
none-own (g ∷ gone) h = elim (cases_Bool (g.0 == device_table)) [
  | inl own ↦ absurd (h g (inl refl) (eqb-true g.0 device_table own))
  | inr other ↦ rw other (none-own gone (λ q there. h q (inr there)))
]

-- the kernel stands for what is left of the routes
routes-stand : (k : KernelState) (rules : List Rule) (routes gone left : List (ℕ × Route)) → Stands k rules routes → routes_in device_table gone ≡ [] → LosesRoutes routes gone left
    → Stands (replay_from k (of_routes gone)) rules left
routes-stand k rules routes gone left stands own loses = record {
  in_family = λ f. subst (λ xs. law.Stands rule_kind xs (own_rule ∷ rules)) (sym (rules-kept k gone f)) (stands.in_family f);
  own_table = routes_left k device_table gone ∙ (ap (λ g. filter (λ r. not (has_route g r)) (routes_of device_table k.tables)) own ∙ (sym (keep_all (routes_of device_table k.tables)) ∙ stands.own_table));
  in_table = λ n other. routes_left k n gone ∙ (ap (λ rs. filter (λ r. not (has_route (routes_in n gone) r)) rs) (stands.in_table n other) ∙ sym (loses n));
}

-- where no rule comes: the routes, then the rules
module _ (k : KernelState) (s t : StateView) (gone : List (ℕ × Route)) (good : IsGood s) (after : IsGood t) (turns : TableTurns s t) (stands : Stands k (rule_table s) (route_list s)) (routes : AreGone s t gone)
    (none : additions (rule_table s) (rule_table t) ≡ []) where
  abbrev mid : KernelState
  mid = replay_from k (of_routes gone)

  abbrev rest : List Request
  rest = deletions (rule_table s) (rule_table t) []

  mid-stands : Stands mid (rule_table s) (route_list t)
  mid-stands = routes-stand k (rule_table s) (route_list s) gone (route_list t) stands (none-own gone (λ g h. not-own s g (routes.inside g h))) routes.loses

  in-parts : replay_from k (done [] (requests_of gone ++ rest)) ≡ switched mid (rule_table s) (rule_table t) []
  in-parts =
      ap (replay_from k) (map-append (entry Deleted) (requests_of gone) rest)
      ∙ (replay_from-append k (of_routes gone) (map (entry Deleted) rest) ∙ ap (λ (adds : List Request). replay_from mid (done adds rest)) (sym none))

  pub leaving-stands : Stands (replay_from k (done [] (requests_of gone ++ rest))) (rule_table t) (route_list t)
  leaving-stands =
      subst (λ end. Stands end (rule_table t) (route_list t)) (sym in-parts)
      (done_stands mid (rule_table s) (rule_table t) (route_list t) [] (route_list t) (switch-between mid s t [] good after turns mid-stands.in_family tt) mid-stands (λ n. keep_all (routes_in n (route_list t))))
