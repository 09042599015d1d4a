-- The first values.
use Rattle.std.proofs.Common.{◌≡◌, ℕ, List, codes, refl}
use Rattle.fwmark.specs.declared.permission.Permission.TheVariants.{Nothing}
use Rattle.prefixes.proofs.Sames.{prefix_is}
use Rattle.prefixes.specs.declared.addr.Addr.TheVariants as address
use Rattle.prefixes.specs.declared.prefix.Prefix.{Prefix}
use Rattle.uid_ranges.proofs.Same.{same_ends, same_uid}
use Rattle.uid_ranges.specs.declared.range.Uid.{Uid}
use Rattle.uid_ranges.specs.declared.range.UidRange.{UidRange}
use Rattle.word_text.specs.Slots.{nothing}
use Rattle.word_text.specs.declared.values.Values.{Values as Slots}

abbrev with_first : List ℕ → Uid → UidRange → Prefix → Slots
with_first link user users dest = record {
  name = link;
  other = link;
  index = 0;
  net = 0;
  rank = 0;
  table = 0;
  permission = Nothing;
  uid = user;
  mark = 0;
  range = users;
  addr = address.V4 0;
  prefix = dest;
}

made : (link : List ℕ) (user : Uid) (users : UidRange) (dest : Prefix) → link ≡ nothing.name → user ≡ nothing.uid → users ≡ nothing.range → dest ≡ nothing.prefix →
    with_first link user users dest ≡ nothing
made link user users dest a b c d = rw (a, b, c, d) refl

pub first_values : (link : List ℕ) (user : Uid) (users : UidRange) (dest : Prefix) → link ≡ codes "lo" → user.number ≡ 0 → users.first.number ≡ 0 → users.last.number ≡ 0 →
    dest.base ≡ address.V4 0 → dest.len ≡ 0 → with_first link user users dest ≡ nothing
first_values link user users dest a b c d e f =
    made link user users dest a (same_uid user nothing.uid b) (same_ends users nothing.range (same_uid users.first nothing.uid c) (same_uid users.last nothing.uid d)) (prefix_is dest nothing.prefix e f)
