use Rattle.std.proofs.Common.{◌≡◌, ◌∙◌, ◌-◌, ◌≤◌, length, take, drop, min, arith, rules, sym, ap, length-drop}
use Rattle.net_io.specs.Memory.{SourceParts}
use Rattle.net_io.proofs.Bytes.{chunk, at_end}
use Rattle.net_io.proofs.memory.MemSourceSource.read.Goals as goal

pub returns-then-not-is_empty-2-clause-bytes : goal.returns-then-not-is_empty-2-clause-bytes
returns-then-not-is_empty-2-clause-bytes c =
    let at = c.self.inside.at in
    let n = c.min-count.result in
    let bytes = c.self.inside.bytes.items in
    let rest_is : c.args.self.now.rest ≡ drop at bytes = sym (ap (λ (s : SourceParts). s.rest) c.self.view_is) in
    let copied : c.copy_from_slice.new.self ≡ take n (drop at bytes) = search rules in
    let count : n ≡ min c.self.inside.piece (min (length c.args.room.now) (length bytes - at)) = search rules in
    let fits : n ≤ length (drop at bytes) = omega (arith, length-drop at bytes) in (
      rest_is ∙ chunk at n bytes c.copy_from_slice.new.self (drop n c.args.room.now) fits copied,
      λ none some. at_end at n c.self.inside.piece bytes (length c.args.room.now) c.self.invariant.1 (search rules) count none,
    )
