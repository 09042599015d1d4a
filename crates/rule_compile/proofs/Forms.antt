-- What is asked is well formed, since each rule and each route of a good state is.
use Rattle.std.proofs.Common.{◌≡◌, ◌≤◌, ◌==◌, ◌∷◌, [], ◌++◌, ℕ, List, Some, None, true, refl, sym, ◌∙◌, subst, inl, inr, reverse, nat_le, arith}
use Rattle.std.specs.List.{AllByRecursion}
use Rattle.std.proofs.lemmas.Bool.{cases_Bool, false≢true, leb-true}
use Rattle.list_lemmas.proofs.Numbers.{eqb-refl}
use Rattle.fib_table.specs.Table.{has_route, routes_in}
use Rattle.networks.specs.Network.{has_link}
use Rattle.networks.specs.declared.network.LinkRoute.{LinkRoute}
use Rattle.networks.specs.declared.network.Network.{Network}
use Rattle.prefixes.specs.Route.{same_route}
use Rattle.prefixes.specs.declared.route.Out.{Out}
use Rattle.prefixes.specs.declared.route.Out.TheVariants as out
use Rattle.prefixes.specs.declared.route.Route.{Route}
use Rattle.prefixes.proofs.Sames.{same_route-true}
use Rattle.rule_law.specs.Rules.{has}
use Rattle.rule_law.specs.Plans.{beyond}
use Rattle.rule_match.specs.declared.rule.Rule.{Rule}
use Rattle.kernel_model.specs.Form.{IsWellFormedRule, LeadsWell, IsWellFormedRoute, IsWellFormed}
use Rattle.rule_kinds.specs.Kind.{rule_kind}
use Rattle.kernel_model.specs.Switch.{twins, additions, deletions, requests_of}
use Rattle.kernel_model.specs.declared.request.Request.{Request}
use Rattle.kernel_model.specs.declared.request.Request.TheVariants as req
use Rattle.list_lemmas.proofs.Alls.{all-append, all-append_parts, all-reverse, all-at, all-flat, all-from, all-mapped}
use Rattle.policy_state.specs.Good.{IsGood, IsNetwork, LeadsOut}
use Rattle.policy_state.specs.Step.{changed}
use Rattle.policy_state.specs.Table.{rule_table, route_list, routes_of_net, table_of}
use Rattle.policy_state.specs.View.{StateView}
use Rattle.commands.specs.declared.command.Command.{Command}
use Rattle.policy_state.proofs.AlikeRules.{all-has}
use Rattle.policy_state.proofs.GoodStates.{each-has, has-links}
use Rattle.policy_state.proofs.Owners.{Has, link-has}
use Rattle.policy_state.proofs.Tables.{table-is}
use Rattle.rule_compile.specs.Asked.{asked_adds, asked_deletes}
use Rattle.rule_compile.proofs.Asking.{all-twins, is_beyond}
use Rattle.rule_compile.proofs.Asks.{Asks, Rules, Comes, Goes, Leaves}
use Rattle.rule_compile.proofs.Formed.{table-formed}
use Rattle.rule_compile.proofs.Leaving.{all-of}

rule-formed : (s : StateView) (x : Rule) → IsGood s → has rule_kind (rule_table s) x ≡ true → IsWellFormedRule x
rule-formed s x good h = table-formed s (has-links s good.formed) x (subst (λ (rules : List Rule). has rule_kind rules x ≡ true) (table-is s) h)

-- the routes of a state

leads_well : (r : LinkRoute) → 2 ≤ r.link → LeadsOut r → IsWellFormedRoute r.route
leads_well r two leads = by r.route.out refl
  where
    by : (o : Out) → r.route.out ≡ o → LeadsWell r.route.prefix o
    by (out.Dev link None) is = let same : link ≡ r.link = rw is at leads in λ e. omega (arith, e, same, two)
    by (out.Dev link (Some gateway)) is = let (same, family) = rw is at leads in (λ e. omega (arith, e, same, two), family)
    by out.Unreachable is = tt
    by out.Throw is = tt

abbrev IsWellRouted : ℕ × Route → Type 0
IsWellRouted r = IsWellFormedRoute r.1

net-formed : (n : Network) → IsNetwork n → AllByRecursion IsWellRouted (routes_of_net n)
net-formed n good =
    all-mapped IsWellRouted (λ (r : LinkRoute). (table_of n.kind r.link, r.route)) n.routes
    (all-from (λ (r : LinkRoute). IsWellFormedRoute r.route) n.routes (λ i r there.
    let belongs = all-at (λ r. (has_link n r.link ≡ true) × LeadsOut r) n.routes i r good.routes_belong there in
    leads_well r (leb-true 2 r.link (all-has (nat_le 2) n.interfaces r.link good.interfaces_above (link-has n r.link belongs.0))) belongs.1))

routes-formed : (s : StateView) → IsGood s → AllByRecursion IsWellRouted (route_list s)
routes-formed s good =
    all-flat IsWellRouted routes_of_net s.networks (all-from (λ n. AllByRecursion IsWellRouted (routes_of_net n)) s.networks (λ place n at.
    net-formed n (all-at IsNetwork s.networks place n good.formed.networks.each at)))

numbered-formed : (n : ℕ) (routes : List (ℕ × Route)) → AllByRecursion IsWellRouted routes → AllByRecursion IsWellFormedRoute (routes_in n routes)
numbered-formed n [] h = tt
numbered-formed n (r ∷ rs) h = elim (cases_Bool (r.0 == n)) [
  | inl here ↦ rw here (h.0, numbered-formed n rs h.1)
  | inr other ↦ rw other (numbered-formed n rs h.1)
]

route-formed : (routes : List Route) (r : Route) → has_route routes r ≡ true → AllByRecursion IsWellFormedRoute routes → IsWellFormedRoute r
route-formed [] r h all = absurd (false≢true h)
route-formed (x ∷ xs) r h all = elim (cases_Bool (same_route x r)) [
  | inl here ↦ subst IsWellFormedRoute (same_route-true x r here) all.0
  | inr other ↦ route-formed xs r (rw other at h) all.1
]

-- what is asked

abbrev AreAllFormed : List Request → Type 0
AreAllFormed qs = AllByRecursion IsWellFormed qs

additions-formed : (s t : StateView) → IsGood t → AreAllFormed (additions (rule_table s) (rule_table t))
additions-formed s t good =
    all-twins IsWellFormed (beyond rule_kind (rule_table s) (rule_table t)) (λ f x h. rule-formed t x good (is_beyond (rule_table s) (rule_table t) x h).there)

-- routes of the state
gone-formed : (s : StateView) (gone : List (ℕ × Route)) → IsGood s → ((g : ℕ × Route) → Has gone g → Has (route_list s) g) → AreAllFormed (requests_of gone)
gone-formed s gone good inside =
    all-mapped IsWellFormed (λ (g : ℕ × Route). req.Route g.0 g.1) gone (all-of IsWellRouted gone (λ g h. each-has IsWellRouted (route_list s) g (routes-formed s good) (inside g h)))

deletions-formed : (s t : StateView) (gone : List (ℕ × Route)) → IsGood s → ((g : ℕ × Route) → Has gone g → Has (route_list s) g) → AreAllFormed (deletions (rule_table s) (rule_table t) gone)
deletions-formed s t gone good inside =
    all-append IsWellFormed (reverse (twins (beyond rule_kind (rule_table t) (rule_table s)))) (requests_of gone)
    (all-reverse IsWellFormed (twins (beyond rule_kind (rule_table t) (rule_table s))) (additions-formed t s good)) (gone-formed s gone good inside)

pub adds-formed : (s : StateView) (c : Command) → IsGood s → IsGood (changed s c) → Asks s c → AreAllFormed (asked_adds s c)
adds-formed s c good after (Rules it) = subst AreAllFormed (sym it.adds) (additions-formed s (changed s c) after)
adds-formed s c good after (Comes it) =
    let here : routes_in it.table (route_list (changed s c)) ≡ routes_in it.table (route_list s) ++ it.route ∷ [] = it.routes it.table ∙ rw (eqb-refl it.table) refl in
    let all : AllByRecursion IsWellFormedRoute (routes_in it.table (route_list s) ++ it.route ∷ []) =
    subst (AllByRecursion IsWellFormedRoute) here (numbered-formed it.table (route_list (changed s c)) (routes-formed (changed s c) after)) in
    subst AreAllFormed (sym it.adds) ((all-append_parts IsWellFormedRoute (routes_in it.table (route_list s)) (it.route ∷ []) all).1.0, tt)
adds-formed s c good after (Goes it) = subst AreAllFormed (sym it.adds) tt
adds-formed s c good after (Leaves it) = subst AreAllFormed (sym it.adds) tt

pub deletes-formed : (s : StateView) (c : Command) → IsGood s → Asks s c → AreAllFormed (asked_deletes s c)
deletes-formed s c good (Rules it) = subst AreAllFormed (sym it.deletes) (deletions-formed s (changed s c) it.gone good it.routes.inside)
deletes-formed s c good (Comes it) = subst AreAllFormed (sym it.deletes) tt
deletes-formed s c good (Goes it) =
    subst AreAllFormed (sym it.deletes) (route-formed (routes_in it.table (route_list s)) it.route it.there (numbered-formed it.table (route_list s) (routes-formed s good)), tt)
deletes-formed s c good (Leaves it) =
    subst AreAllFormed (sym it.deletes)
    (all-append IsWellFormed (requests_of it.first) (deletions (rule_table s) (rule_table (changed s c)) []) (gone-formed s it.first good it.routes.inside)
    (deletions-formed s (changed s c) [] good (λ g h. absurd h)))
