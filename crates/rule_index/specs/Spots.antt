-- Where rules stand in an index, and where the rules stand that a packet can match.
use Rattle.std.specs.Prelude.{ℕ, Bool, ◌==◌, ◌+◌, ◌-◌, ◌/◌, min, nat_lt, bit_and, if◌then◌else◌, List, slice_get, Option, Some, None}
use Rattle.kernel_model.specs.State.{own_rule}
use Rattle.rule_match.specs.declared.packet.Packet.{Packet}
use Rattle.rule_match.specs.declared.rule.Rule.{Rule}
use Rattle.uid_ranges.specs.declared.range.UidRange.{UidRange}
use Rattle.rule_index.specs.declared.spot.Sorting.{Sorting}
use Rattle.rule_index.specs.declared.spot.Sorting.TheVariants.{ByArrival, ByKey}
use Rattle.rule_index.specs.declared.spot.Spot.{Spot}

-- whether x is less than y; where they are equal, the rest says
abbrev pub lex : ℕ → ℕ → Bool → Bool
lex x y rest = if x == y then rest else nat_lt x y

-- the order of spots: by priority, group, value and arrival
abbrev pub below : Spot → Spot → Bool
below a b = lex a.priority b.priority (lex a.group b.group (lex a.value b.value (nat_lt a.number b.number)))

-- by priority and arrival alone
abbrev pub flat : Spot → Spot
flat s = record { priority = s.priority; group = 0; value = 0; number = s.number }

-- the ranges of UIDs of a group reach less far than this
abbrev pub size_of : ℕ → ℕ
size_of g =
    if g == 1 then 1
    else (if g == 2 then 16
    else (if g == 3 then 256
    else (if g == 4 then 4096
    else (if g == 5 then 65536
    else (if g == 6 then 1048576
    else (if g == 7 then 16777216
    else (if g == 8 then 268435456
    else 4294967296)))))))

-- the group of a range by how far it reaches, from its first UID to its last
abbrev pub level_of : ℕ → ℕ
level_of r =
    if nat_lt r 1 then 1
    else (if nat_lt r 16 then 2
    else (if nat_lt r 256 then 3
    else (if nat_lt r 4096 then 4
    else (if nat_lt r 65536 then 5
    else (if nat_lt r 1048576 then 6
    else (if nat_lt r 16777216 then 7
    else (if nat_lt r 268435456 then 8
    else 9)))))))

abbrev pub level_of_range : UidRange → ℕ
level_of_range range = level_of (range.last.number - range.first.number)

-- whether a rule's mask has all the bits that hold the network
abbrev pub has_network : Rule → Bool
has_network r = bit_and r.mask 65535 == 65535

abbrev pub group_of_link : Option ℕ → Option ℕ → ℕ
group_of_link (Some link) incoming = 10
group_of_link None (Some link) = 11
group_of_link None None = 12

abbrev pub group_of_uids : Option UidRange → Rule → ℕ
group_of_uids (Some range) r = level_of_range range
group_of_uids None r = group_of_link r.outgoing r.incoming

-- a rule's group: 0 by its network, 1 to 9 by the size of its range, 10 by its outgoing link, 11 by its incoming one, or 12
abbrev pub group_of : Rule → ℕ
group_of r = if has_network r then 0 else group_of_uids r.uids r

abbrev pub value_of_link : Option ℕ → Option ℕ → ℕ
value_of_link (Some link) incoming = link
value_of_link None (Some link) = link
value_of_link None None = 0

abbrev pub value_of_uids : Option UidRange → Rule → ℕ
value_of_uids (Some range) r = range.first.number / size_of (level_of_range range)
value_of_uids None r = value_of_link r.outgoing r.incoming

-- its value there: the network, the range's first UID by the size, or the link
abbrev pub value_of : Rule → ℕ
value_of r = if has_network r then bit_and r.mark 65535 else value_of_uids r.uids r

-- where a rule stands that arrived with this number
abbrev pub keyed_of : Rule → ℕ → Spot
keyed_of r n = record { priority = r.priority; group = group_of r; value = value_of r; number = n }

abbrev pub link_or : Option ℕ → ℕ → ℕ
link_or (Some link) none = link
link_or None none = none

abbrev pub outgoing_or : Packet → ℕ → ℕ
outgoing_or p none = link_or p.outgoing none

-- the least and the greatest value of a group's rules that can match the packet
abbrev pub low_of : Packet → ℕ → ℕ
low_of p g =
    if g == 0 then bit_and p.mark 65535
    else (if g == 10 then outgoing_or p 1
    else (if g == 11 then p.incoming
    else (if g == 12 then 0
    else p.uid.number / size_of g - 1)))

abbrev pub high_of : Packet → ℕ → ℕ
high_of p g =
    if g == 0 then bit_and p.mark 65535
    else (if g == 10 then outgoing_or p 0
    else (if g == 11 then p.incoming
    else (if g == 12 then 0
    else p.uid.number / size_of g)))

abbrev pub or_own : Option Rule → Rule
or_own None = own_rule
or_own (Some r) = r

-- the rule that arrived with this number
abbrev pub rule_with : List Rule → ℕ → Rule
rule_with rules n = or_own (slice_get rules n)

-- where a rule of this number stands in such an order
abbrev pub standing_by : Sorting → Rule → ℕ → Spot
standing_by ByArrival r n = flat (keyed_of r n)
standing_by ByKey r n = keyed_of r n

abbrev pub spot_by : Sorting → List Rule → ℕ → Spot
spot_by sorting rules n = standing_by sorting (rule_with rules n) n

-- where a search goes on from a spot at which no rule can match the packet
abbrev pub jump : Packet → Spot → Option Spot
jump p s =
    if nat_lt s.value (low_of p s.group)
    then Some (record { priority = s.priority; group = s.group; value = low_of p s.group; number = 0 })
    else (if nat_lt (high_of p s.group) s.value
    then Some (record { priority = s.priority; group = min (s.group + 1) 255; value = 0; number = 0 })
    else None)
