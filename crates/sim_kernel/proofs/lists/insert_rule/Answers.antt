use Rattle.std.proofs.Common.{◌≡◌, ◌∙◌, sym, ap, is_ok, true}
use Rattle.std.specs.List.{insert}
use Rattle.rule_law.proofs.Places.{placed-insert}
use Rattle.kernel_model.specs.Kind.{rule_kind}
use Rattle.sim_kernel.proofs.lists.insert_rule.Goals as goal

pub returns-clause-items : goal.returns-clause-items
returns-clause-items c =
    let fits : is_ok c.insert.result ≡ true = c.insert.ensures.succeeds c.requires in
    rw fits at c.insert.ensures.items
    ∙ ap (λ n. insert c.args.rules.now.items n c.args.rule) (rw c.deref.ensures.value at c.place_for-place.ensures.place)
    ∙ sym (placed-insert rule_kind c.args.rule c.args.rules.now.items)
