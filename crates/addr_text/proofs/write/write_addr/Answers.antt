use Rattle.std.proofs.Common.{ap, ◌∙◌}
use Rattle.number_text.proofs.Appending.{rewritten}
use Rattle.prefixes.specs.declared.addr.Addr.TheVariants as addr
use Rattle.addr_text.specs.Canonical.{canonical, groups_text, octets_of}
use Rattle.addr_text.specs.Forms.{parts_text}
use Rattle.addr_text.specs.declared.form.Form.TheVariants as form
use Rattle.addr_text.proofs.Lengths.{canonical-length, room_for}
use Rattle.addr_text.proofs.write.write_addr.Goals as goal

pub returns-in-V4-clause-room : goal.returns-in-V4-clause-room
returns-in-V4-clause-room c =
    let text = ap (parts_text form.Octets) (c.as_slice.ensures.value ∙ c.parts_of.ensures ∙ ap octets_of c.into.ensures) in
    room_for c.args.out.now c.write_parts.new.out c.write_parts.result (canonical (addr.V4 c.in-V4.value)) (rewritten text c.write_parts.ensures) (canonical-length (addr.V4 c.in-V4.value))

pub returns-in-V6-clause-room : goal.returns-in-V6-clause-room
returns-in-V6-clause-room c =
    let text = ap groups_text (c.as_slice-in-V6.ensures.value ∙ c.parts_of-in-V6.ensures) in
    room_for c.args.out.now c.write_groups.new.out c.write_groups.result (canonical (addr.V6 c.in-V6.value)) (rewritten text c.write_groups.ensures) (canonical-length (addr.V6 c.in-V6.value))
