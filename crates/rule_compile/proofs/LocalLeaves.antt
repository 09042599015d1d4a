-- A packet's walk while an interface of the local network leaves: its routes go first, the shortest prefix first, and then its rules.
use Rattle.std.proofs.Common.{◌≡◌, ◌∙◌, ◌==◌, ◌++◌, ℕ, true, false, Some, List, [], sym, ap, subst, inl, inr, arith}
use Rattle.std.specs.Prelude.{◌≢◌, if◌then◌else◌}
use Rattle.std.specs.List.{AllByRecursion}
use Rattle.std.proofs.lemmas.Bool.{eqb-true}
use Rattle.commands.specs.declared.command.Command.{Command}
use Rattle.commands.specs.declared.command.Command.TheVariants as command
use Rattle.networks.specs.Kinds.{is_local}
use Rattle.networks.specs.Lists.{find_id}
use Rattle.networks.specs.Network.{has_link, routes_by}
use Rattle.networks.specs.declared.network.Network.{Network}
use Rattle.prefixes.specs.Route.{link_of, suits}
use Rattle.prefixes.specs.declared.route.Route.{Route}
use Rattle.rule_law.specs.Plans.{beyond}
use Rattle.rule_law.specs.Rules.{has as has_rule}
use Rattle.rule_kinds.specs.Kind.{rule_kind}
use Rattle.rule_match.specs.declared.packet.Packet.{Packet}
use Rattle.kernel_model.specs.Journal.{replay_from}
use Rattle.kernel_model.specs.Leaving.{taken_out, in_table, IsLeaving}
use Rattle.kernel_model.specs.Segment.{done}
use Rattle.kernel_model.specs.State.{KernelState, NumberedTable, device_table}
use Rattle.kernel_model.specs.Switch.{requests_of, deletions}
use Rattle.kernel_model.proofs.Leaving.{leaving_goes}
use Rattle.kernel_model.proofs.Segments.{Goes}
use Rattle.kernel_model.proofs.Switches.{of_routes}
use Rattle.policy_state.specs.Step.{changed, without_interface}
use Rattle.policy_state.specs.Table.{table_of, rule_table}
use Rattle.policy_state.specs.View.{StateView, link_named}
use Rattle.policy_state.proofs.Accepted.{changed_by_link-at, is_in-at}
use Rattle.policy_state.proofs.Owners.{Has, link-has}
use Rattle.rule_compile.specs.Asked.{shortest_first, leaving_by, MayStep}
use Rattle.rule_compile.proofs.Defaults.{Found, of_find}
use Rattle.rule_compile.proofs.LocalRoutes.{local-order, local-left}
use Rattle.rule_compile.proofs.LocalRules.{local-rules, local-adds}
use Rattle.rule_compile.proofs.RouteTables.{is_local_table}
use Rattle.rule_compile.proofs.Tables.{is_switch, table-givers, after-good}
use Rattle.rule_compile.proofs.Thinning.{after_link}

not-own : (n : Network) (link : ℕ) → table_of n.kind link ≢ device_table
not-own n link same = elim (is_local_table n.kind link) [ inl a ↦ omega (arith, a.1, same) | inr a ↦ omega (arith, a.1, same) ]

pub local-goes : (k : KernelState) (s : StateView) (net : ℕ) (name : List ℕ) (n : Network) (link : ℕ) (packet : Packet)
    → MayStep k s (command.InterfaceRemove net name)
    → link_named s name ≡ Some link → find_id net s.networks ≡ Some n → is_local n.kind ≡ true → has_link n link ≡ true
    → Goes k [] (requests_of (leaving_by n link) ++ deletions (rule_table s) (rule_table (changed s (command.InterfaceRemove net name))) []) packet
    (done [] (requests_of (leaving_by n link) ++ deletions (rule_table s) (rule_table (changed s (command.InterfaceRemove net name))) []))
local-goes k s net name n link packet may named found local has =
    let c : Command = command.InterfaceRemove net name in
    let it : Found (λ (m : Network). net == m.id) s.networks n = of_find (λ (m : Network). net == m.id) s.networks n found in
    let id : n.id ≡ net = sym (eqb-true net n.id it.passes) in
    let linked : Has n.interfaces link = link-has n link has in
    let is : changed s c ≡ after_link net link s =
    changed_by_link-at s name (λ link. without_interface net link) link named ∙ ap (λ b. if b then after_link net link s else s) (is_in-at s net n found link ∙ has) in
    let table : ℕ = table_of n.kind link in
    let gone : List Route = shortest_first (routes_by link n.routes) in
    let leaving : IsLeaving k (rule_table s) (rule_table (changed s c)) table link gone = record {
      switch = is_switch k s c may;
      nothing_comes = ap (λ t. beyond rule_kind (rule_table s) (rule_table t)) is ∙ local-adds s may.good.formed net link n it.there id linked local;
      order = local-order s may.good.formed net link n it.there id linked local;
      left = subst (λ rs. AllByRecursion (λ r. suits (link_of r.out) (Some link) ≡ false) (taken_out rs gone)) (sym (may.stands.in_table table (not-own n link)))
          (local-left s may.good.formed net link n it.there id linked local);
      rules = λ x was goes. local-rules s may.good.formed net link n it.there id linked local x was (ap (λ t. has_rule rule_kind (rule_table t) x) (sym is) ∙ goes);
    } in
    let tables : List NumberedTable = (replay_from k (of_routes (in_table table gone))).tables in
    leaving_goes k (rule_table s) (rule_table (changed s c)) table link gone leaving packet
    (table-givers s tables packet may.good) (table-givers (changed s c) tables packet (after-good k s c may))
