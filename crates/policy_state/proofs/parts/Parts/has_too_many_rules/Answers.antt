use Rattle.std.proofs.Common.{◌≡◌, ◌∙◌, ◌+◌, ℕ, [], None, sym, ap, ap₂, subst, refl}
use Rattle.std.specs.Prelude.{nat_lt}
use Rattle.networks.specs.Lists.{find_id}
use Rattle.networks.specs.declared.kind.Kind.TheVariants as kind
use Rattle.policy_state.specs.Change.{turned, Fits}
use Rattle.policy_state.specs.Counts.{rule_count}
use Rattle.policy_state.specs.Good.{most_rules}
use Rattle.policy_state.specs.Parts.{view_of}
use Rattle.policy_state.specs.View.{StateView}
use Rattle.policy_state.specs.declared.change.Change.{Change}
use Rattle.policy_state.proofs.CountsAfter.{rules-new, rules-more_locked, rules-more_pairs}
use Rattle.policy_state.proofs.CountsLess.{brings_none, none-past}
use Rattle.policy_state.proofs.parts.Parts.has_too_many_rules.Goals as goal

pub returns-in-VirtualComes : goal.returns-in-VirtualComes
returns-in-VirtualComes c =
    let s : StateView = view_of c.args.self.now in
    let fresh : find_id c.in-VirtualComes.net s.networks ≡ None = subst (λ (change : Change). Fits change s) c.in-VirtualComes.is c.requires.fits in
    ap (nat_lt most_rules) (ap₂ (λ (a b : ℕ). a + b) c.rule_count.ensures.value c.links_by.ensures.value ∙ sym (rules-new s c.requires.good.formed c.in-VirtualComes.net (kind.Virtual c.in-VirtualComes.secure []) refl fresh))
    ∙ ap (λ (change : Change). nat_lt most_rules (rule_count (turned change s))) (sym c.in-VirtualComes.is)

pub returns-in-LockdownComes : goal.returns-in-LockdownComes
returns-in-LockdownComes c =
    let s : StateView = view_of c.args.self.now in
    ap (nat_lt most_rules) (ap (λ (n : ℕ). n + 1) c.rule_count-in-LockdownComes.ensures.value ∙ sym (rules-more_locked s c.requires.good.formed c.in-LockdownComes.range))
    ∙ ap (λ (change : Change). nat_lt most_rules (rule_count (turned change s))) (sym c.in-LockdownComes.is)

pub returns-in-PairComes : goal.returns-in-PairComes
returns-in-PairComes c =
    let s : StateView = view_of c.args.self.now in
    ap (nat_lt most_rules) (ap (λ (n : ℕ). n + 1) c.rule_count-in-PairComes.ensures.value ∙ sym (rules-more_pairs s c.requires.good.formed c.in-PairComes.pair))
    ∙ ap (λ (change : Change). nat_lt most_rules (rule_count (turned change s))) (sym c.in-PairComes.is)

pub returns-in-LinkComes : goal.returns-in-LinkComes
returns-in-LinkComes c = none-past (view_of c.args.self.now) c.requires.good c.args.change.now c.requires.fits (ap brings_none c.in-LinkComes.is)

pub returns-in-LinkGoes : goal.returns-in-LinkGoes
returns-in-LinkGoes c = none-past (view_of c.args.self.now) c.requires.good c.args.change.now c.requires.fits (ap brings_none c.in-LinkGoes.is)

pub returns-in-PhysicalComes : goal.returns-in-PhysicalComes
returns-in-PhysicalComes c = none-past (view_of c.args.self.now) c.requires.good c.args.change.now c.requires.fits (ap brings_none c.in-PhysicalComes.is)

pub returns-in-NetworkGoes : goal.returns-in-NetworkGoes
returns-in-NetworkGoes c = none-past (view_of c.args.self.now) c.requires.good c.args.change.now c.requires.fits (ap brings_none c.in-NetworkGoes.is)

pub returns-in-InterfaceGoes : goal.returns-in-InterfaceGoes
returns-in-InterfaceGoes c = none-past (view_of c.args.self.now) c.requires.good c.args.change.now c.requires.fits (ap brings_none c.in-InterfaceGoes.is)

pub returns-in-RouteComes : goal.returns-in-RouteComes
returns-in-RouteComes c = none-past (view_of c.args.self.now) c.requires.good c.args.change.now c.requires.fits (ap brings_none c.in-RouteComes.is)

pub returns-in-RouteGoes : goal.returns-in-RouteGoes
returns-in-RouteGoes c = none-past (view_of c.args.self.now) c.requires.good c.args.change.now c.requires.fits (ap brings_none c.in-RouteGoes.is)

pub returns-in-RangesGo : goal.returns-in-RangesGo
returns-in-RangesGo c = none-past (view_of c.args.self.now) c.requires.good c.args.change.now c.requires.fits (ap brings_none c.in-RangesGo.is)

pub returns-in-UserPermission : goal.returns-in-UserPermission
returns-in-UserPermission c = none-past (view_of c.args.self.now) c.requires.good c.args.change.now c.requires.fits (ap brings_none c.in-UserPermission.is)

pub returns-in-UserForgotten : goal.returns-in-UserForgotten
returns-in-UserForgotten c = none-past (view_of c.args.self.now) c.requires.good c.args.change.now c.requires.fits (ap brings_none c.in-UserForgotten.is)

pub returns-in-ProtectAllowed : goal.returns-in-ProtectAllowed
returns-in-ProtectAllowed c = none-past (view_of c.args.self.now) c.requires.good c.args.change.now c.requires.fits (ap brings_none c.in-ProtectAllowed.is)

pub returns-in-ProtectDenied : goal.returns-in-ProtectDenied
returns-in-ProtectDenied c = none-past (view_of c.args.self.now) c.requires.good c.args.change.now c.requires.fits (ap brings_none c.in-ProtectDenied.is)

pub returns-in-LockdownGoes : goal.returns-in-LockdownGoes
returns-in-LockdownGoes c = none-past (view_of c.args.self.now) c.requires.good c.args.change.now c.requires.fits (ap brings_none c.in-LockdownGoes.is)

pub returns-in-PairGoes : goal.returns-in-PairGoes
returns-in-PairGoes c = none-past (view_of c.args.self.now) c.requires.good c.args.change.now c.requires.fits (ap brings_none c.in-PairGoes.is)
