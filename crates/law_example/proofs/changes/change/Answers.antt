use Rattle.std.proofs.Common.{◌∷◌, ◌++◌, ◌∙◌, ap, append_assoc, map, reverse, take}
use Rattle.rule_law.specs.Plans.{Add, Delete, beyond}
use Rattle.law_example.specs.Kinds.{rule_kind}
use Rattle.law_example.proofs.Changing.{moves_over, comes_back, stops_on_the_way, stops_on_the_way_back}
use Rattle.law_example.proofs.changes.change.Goals as goal

pub returns-in-Ok-delete_missing-clause-done : goal.returns-in-Ok-delete_missing-clause-done
returns-in-Ok-delete_missing-clause-done c =
    moves_over c.args.old.now c.args.new.now c.args.kernel.now c.delete_missing.new.kernel c.requires.tables c.requires.stands
    (c.in-Ok-delete_missing.ensures.ok ∙ (ap (λ h. h ++ map Delete (reverse (beyond rule_kind c.args.new.now c.args.old.now))) c.in-Ok.ensures.ok
    ∙ append_assoc c.args.kernel.now (map Add (beyond rule_kind c.args.old.now c.args.new.now)) (map Delete (reverse (beyond rule_kind c.args.new.now c.args.old.now)))))

pub returns-in-Err-delete_missing-clause-broken : goal.returns-in-Err-delete_missing-clause-broken
returns-in-Err-delete_missing-clause-broken c =
    let partly : _ = c.in-Err-delete_missing.ensures.err in
    let adds : _ = map Add (beyond rule_kind c.args.old.now c.args.new.now) in λ _.
    stops_on_the_way c.args.old.now c.args.new.now c.args.kernel.now c.delete_missing.new.kernel c.requires.tables c.requires.stands
    (adds ++ partly.2.made) partly.0 partly.1
    (append_assoc adds partly.2.made (Delete partly.0 ∷ partly.1) ∙ ap (λ h. adds ++ h) partly.2.split)
    (partly.2.grew ∙ (ap (λ h. h ++ partly.2.made) c.in-Ok.ensures.ok ∙ append_assoc c.args.kernel.now adds partly.2.made))

pub returns-in-Ok-delete_missing-2-clause-refused : goal.returns-in-Ok-delete_missing-2-clause-refused
returns-in-Ok-delete_missing-2-clause-refused c =
    let looked_at : _ = beyond rule_kind c.args.old.now (take c.in-Err.place c.args.new.now) in λ _.
    comes_back c.args.old.now c.args.new.now c.args.kernel.now c.delete_missing-in-Err.new.kernel c.requires.tables c.requires.stands c.in-Err.place
    (c.in-Ok-delete_missing-2.ensures.ok ∙ (ap (λ h. h ++ map Delete (reverse looked_at)) c.in-Err.ensures.err
    ∙ append_assoc c.args.kernel.now (map Add looked_at) (map Delete (reverse looked_at))))

pub returns-in-Err-delete_missing-2-clause-broken : goal.returns-in-Err-delete_missing-2-clause-broken
returns-in-Err-delete_missing-2-clause-broken c =
    let partly : _ = c.in-Err-delete_missing-2.ensures.err in
    let adds : _ = map Add (beyond rule_kind c.args.old.now (take c.in-Err.place c.args.new.now)) in λ _.
    stops_on_the_way_back c.args.old.now c.args.new.now c.args.kernel.now c.delete_missing-in-Err.new.kernel c.requires.tables c.requires.stands c.in-Err.place
    (adds ++ partly.2.made) partly.0 partly.1
    (append_assoc adds partly.2.made (Delete partly.0 ∷ partly.1) ∙ ap (λ h. adds ++ h) partly.2.split)
    (partly.2.grew ∙ (ap (λ h. h ++ partly.2.made) c.in-Err.ensures.err ∙ append_assoc c.args.kernel.now adds partly.2.made))
