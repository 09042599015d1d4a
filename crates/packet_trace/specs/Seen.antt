-- What contracts see of a watched kernel.
use Rattle.std.specs.Prelude.{ℕ, ◌∷◌, min, Option}
use Rattle.std.proofs.Common.{arith}
use Rattle.kernel_model.specs.View.{KernelView, Room, IsSound}
use Rattle.rule_match.specs.declared.packet.Packet.{Packet}

-- the inner kernel, under one more watch
abbrev pub watched : KernelView → Option Packet → ℕ → ℕ → KernelView
watched k packet since name = record k { watching = record { packet = packet; since = since; over = name } ∷ k.watching }

-- the lesser of both rooms
abbrev pub less_room : Room → ℕ → Room
less_room inner own = record { spare = min inner.spare own; ready = inner.ready }

pub sound_watched : (k : KernelView) (inner : Room) (packet : Option Packet) (since name own : ℕ) → IsSound k inner → IsSound (watched k packet since name) (less_room inner own)
sound_watched k inner packet since name own sound = record { fits = omega (arith, sound.fits); well_asked = sound.well_asked; listed = sound.listed }
