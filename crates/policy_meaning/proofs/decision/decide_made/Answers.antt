use Rattle.std.proofs.Common.{rules, ◌≡◌, ◌∙◌, sym, ap, refl, false, Some, None, unwrap_or}
use Rattle.std.specs.Option.{option_or}
use Rattle.rule_match.specs.declared.verdict.Verdict.TheVariants as verdict
use Rattle.policy_meaning.proofs.AnswersInTurn.{made-says}
use Rattle.policy_meaning.specs.Asking.{first_of}
use Rattle.policy_meaning.specs.Policy.{only_if, by_routes, is_to_device, root_interface, held, is_barred, is_locked_down, chosen, rest}
use Rattle.policy_meaning.proofs.decision.decide_made.Goals as goal

pub returns : goal.returns
returns c =
    let s = c.args.state.now in
    let p = c.args.packet.now in
    let away : is_to_device p ≡ false = cc in
    let allowed : is_locked_down s p ≡ false = cc in
    let silent : option_or c.root_interface.result (first_of (held (by_routes p) s p)) ≡ None = search rules in
    let says : c.or_else.result ≡ option_or c.ask_chosen.result (first_of (rest (by_routes p) s p)) = search rules in
    c.unwrap_or.ensures
    ∙ (ap (λ o. unwrap_or o verdict.Unreachable) (says ∙ ap (λ o. option_or o (first_of (rest (by_routes p) s p))) c.ask_chosen.ensures)
    ∙ made-says verdict.Unreachable (only_if (Some verdict.Local) (is_to_device p)) (root_interface (by_routes p) s p) (only_if (Some verdict.Prohibited) (is_barred s p))
    (held (by_routes p) s p) (chosen (by_routes p) s p) (rest (by_routes p) s p) (rw away refl) (ap (λ o. option_or o (first_of (held (by_routes p) s p))) (sym c.root_interface.ensures) ∙ silent) (rw (c.requires, allowed) refl))
