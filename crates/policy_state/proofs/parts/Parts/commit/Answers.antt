use Rattle.std.proofs.Common.{◌∙◌, sym, ap, subst}
use Rattle.policy_state.specs.Change.{turned, Fits, InterfaceFits}
use Rattle.policy_state.specs.Parts.{view_of}
use Rattle.policy_state.specs.Step.{with_route, without_route}
use Rattle.policy_state.proofs.Turns.{changed-alike, changed-link, changed-permission, changed-ranges, changed-gone}
use Rattle.policy_state.proofs.parts.Parts.commit.Goals as goal

pub returns-in-InterfaceComes : goal.returns-in-InterfaceComes
returns-in-InterfaceComes c =
    let s = view_of c.args.self.now in
    let it = c.in-InterfaceComes in
    let fits : InterfaceFits it.net it.link s.networks = subst (λ change. Fits change s) it.is c.requires.fits in
    ap (λ ns. record s { networks = ns }) c.add_interface.ensures ∙ changed-link s c.requires.formed it.net it.link fits.free ∙ sym (ap (λ change. turned change s) it.is)

pub returns-in-RouteComes : goal.returns-in-RouteComes
returns-in-RouteComes c =
    let s = view_of c.args.self.now in
    let it = c.in-RouteComes in
    ap (λ ns. record s { networks = ns }) c.add_route.ensures ∙ changed-alike s c.requires.formed it.net (with_route it.link it.route) ∙ sym (ap (λ change. turned change s) it.is)

pub returns-in-RouteGoes : goal.returns-in-RouteGoes
returns-in-RouteGoes c =
    let s = view_of c.args.self.now in
    let it = c.in-RouteGoes in
    ap (λ ns. record s { networks = ns }) c.remove_route.ensures ∙ changed-alike s c.requires.formed it.net (without_route it.link it.key) ∙ sym (ap (λ change. turned change s) it.is)

pub returns-in-RangesCome : goal.returns-in-RangesCome
returns-in-RangesCome c =
    let s = view_of c.args.self.now in
    let it = c.in-RangesCome in
    ap (λ ns. record s { networks = ns }) c.add_ranges.ensures ∙ changed-ranges s c.requires.formed it.net it.rank it.ranges.now ∙ sym (ap (λ change. turned change s) it.is)

pub returns-in-RangesGo : goal.returns-in-RangesGo
returns-in-RangesGo c =
    let s = view_of c.args.self.now in
    let it = c.in-RangesGo in
    ap (λ ns. record s { networks = ns }) c.remove_ranges.ensures ∙ changed-gone s c.requires.formed it.net it.ranges.now ∙ sym (ap (λ change. turned change s) it.is)

pub returns-in-NetworkPermission : goal.returns-in-NetworkPermission
returns-in-NetworkPermission c =
    let s = view_of c.args.self.now in
    let it = c.in-NetworkPermission in
    ap (λ ns. record s { networks = ns }) c.set_permission.ensures ∙ changed-permission s c.requires.formed it.net it.permission ∙ sym (ap (λ change. turned change s) it.is)
