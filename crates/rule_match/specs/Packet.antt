-- Packets: made on the device, or passed on.
use Rattle.std.specs.Prelude.{◌≡◌, ◌≢◌, ℕ, ◌==◌, Bool, Option, None}
use Rattle.prefixes.specs.declared.addr.Addr.{Addr}
use Rattle.uid_ranges.specs.declared.range.Uid.{Uid}
use Rattle.rule_match.specs.declared.packet.Packet.{Packet}

-- `lo`, the link by which the device reaches itself
abbrev pub lo : ℕ
lo = 1

-- a packet that the device made comes by `lo`, and goes out by the link that it is bound to
pub record IsMade (uid : Uid) (mark : ℕ) (dest : Addr) (bound : Option ℕ) (p : Packet) : Type 0 where
  pub uid_is : p.uid ≡ uid
  pub mark_is : p.mark ≡ mark
  pub dest_is : p.dest ≡ dest
  pub incoming_is : p.incoming ≡ lo
  pub outgoing_is : p.outgoing ≡ bound

-- a packet that is passed on has UID 0, mark 0 and no binding, and came by a link other than `lo`
pub record IsPassed (came : ℕ) (dest : Addr) (p : Packet) : Type 0 where
  pub uid_is : p.uid.number ≡ 0
  pub mark_is : p.mark ≡ 0
  pub dest_is : p.dest ≡ dest
  pub incoming_is : p.incoming ≡ came
  pub not_loopback : came ≢ lo
  pub outgoing_is : p.outgoing ≡ None

abbrev pub is_made : Packet → Bool
is_made p = p.incoming == lo
