-- Networks of one class: physical networks, and virtual ones of either kind.
use Rattle.std.specs.Prelude.{ℕ, ◌==◌, ◌&&◌, Bool, List}
use Rattle.std.specs.List.{list_any}
use Rattle.networks.specs.Kinds.{class_of, ranges_of}
use Rattle.networks.specs.declared.network.Network.{Network}
use Rattle.uid_ranges.specs.Ranks.{users_meet_at}
use Rattle.uid_ranges.specs.declared.range.UidRange.{UidRange}

-- some network of the class has a range of this rank that meets one of these
abbrev pub class_meets : ℕ → ℕ → List UidRange → List Network → Bool
class_meets class rank more networks = list_any (λ m. (class_of m.kind == class) && users_meet_at rank (ranges_of m.kind) more) networks

-- some network of this one's class has
abbrev pub kin_meet : ℕ → List UidRange → Network → List Network → Bool
kin_meet rank more network networks = class_meets (class_of network.kind) rank more networks
