use Rattle.std.proofs.Common.{◌≡◌, ◌≤◌, length, true, arith, rules, refl}
use Rattle.std.specs.List.{list_all}
use Rattle.net_names.specs.Name.{is_name_byte}
use Rattle.net_names.proofs.Padded.{is_name-from, name_padded}
use Rattle.net_names.proofs.name.Name.from_bytes.Goals as goal

pub invariant_of-result : goal.invariant_of-result
invariant_of-result c =
    let some : 1 ≤ length c.args.bytes.now = search rules in
    let fits : length c.args.bytes.now ≤ 15 = omega arith in
    let all : list_all is_name_byte c.args.bytes.now ≡ true = search rules in
    name_padded c.args.bytes.now c.copy_from_slice.new.self _ (search rules) refl (is_name-from c.args.bytes.now some fits all) fits
