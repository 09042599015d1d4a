-- The values of a line by name.
use Rattle.std.specs.Prelude.{◌≡◌, ℕ, ◌<◌, ◌≤◌, List, [], ◌∷◌, ◌++◌, codes, Option, None, Some}
use Rattle.fwmark.specs.declared.permission.Permission.TheVariants.{Nothing}
use Rattle.prefixes.specs.Addr.{IsPrefix}
use Rattle.prefixes.specs.declared.addr.Addr.TheVariants as address
use Rattle.uid_ranges.specs.declared.range.Uid.{Uid}
use Rattle.uid_ranges.specs.declared.range.UidRange.{UidRange}
use Rattle.word_text.specs.declared.values.Values.{Values as Slots}
use Rattle.word_text.specs.Grammar.{Kind, Meant, What, IsSpelled, ValueOf, Values, addr, count, index, link, literal, mark, named, net, other, permission, prefix, range, ranges, rank, table, uid, valued}
use Rattle.std.proofs.Common.{arith, refl}

pub low : 0 < 4294967295
low = omega arith

pub ordered : 0 ≤ 0
ordered = omega arith

pub whole : IsPrefix (address.V4 0) 0
whole = (omega arith, refl)

-- the first values
abbrev pub root : Uid
root = record { number = 0; in_range = low }

abbrev pub nothing : Slots
nothing = record {
  name = codes "lo";
  other = codes "lo";
  index = 0;
  net = 0;
  rank = 0;
  table = 0;
  permission = Nothing;
  uid = root;
  mark = 0;
  range = record { first = root; last = root; ordered = ordered };
  addr = address.V4 0;
  prefix = record { base = address.V4 0; len = 0; is_prefix = whole };
}

-- a value by its name
abbrev pub put_meant : (what : What) → Meant what → Slots → Slots
put_meant (count index) value v = record v { index = value }
put_meant (count net) value v = record v { net = value }
put_meant (count rank) value v = record v { rank = value }
put_meant (count table) value v = record v { table = value }
put_meant (named link) value v = record v { name = value }
put_meant (named other) value v = record v { other = value }
put_meant permission value v = record v { permission = value }
put_meant uid value v = record v { uid = value }
put_meant mark value v = record v { mark = value }
put_meant range value v = record v { range = value }
put_meant ranges value v = v
put_meant addr value v = record v { addr = value }
put_meant prefix value v = record v { prefix = value }

abbrev pub put : (kind : Kind) → ValueOf kind → Slots → Slots
put (literal text) value v = v
put (valued what) value v = put_meant what value v

-- the value of a kind; the ranges of a line stand beside its other values
abbrev pub slot_meant : (what : What) → Slots → List UidRange → Meant what
slot_meant (count index) v list = v.index
slot_meant (count net) v list = v.net
slot_meant (count rank) v list = v.rank
slot_meant (count table) v list = v.table
slot_meant (named link) v list = v.name
slot_meant (named other) v list = v.other
slot_meant permission v list = v.permission
slot_meant uid v list = v.uid
slot_meant mark v list = v.mark
slot_meant range v list = v.range
slot_meant ranges v list = list
slot_meant addr v list = v.addr
slot_meant prefix v list = v.prefix

abbrev pub slot : (kind : Kind) → Slots → List UidRange → ValueOf kind
slot (literal text) v list = tt
slot (valued what) v list = slot_meant what v list

-- all of them
abbrev pub filled : (kinds : List Kind) → Values kinds → Slots → Slots
filled [] values v = v
filled (kind ∷ kinds) values v = filled kinds values.1 (put kind values.0 v)

abbrev pub picked : (kinds : List Kind) → Slots → List UidRange → Values kinds
picked [] v list = tt
picked (kind ∷ kinds) v list = (slot kind v list, picked kinds v list)

-- the line's list with what a value adds
abbrev pub listed_meant : (what : What) → Meant what → List UidRange → List UidRange
listed_meant ranges value list = list ++ value
listed_meant _ value list = list

abbrev pub listed : (kind : Kind) → ValueOf kind → List UidRange → List UidRange
listed (literal text) value list = list
listed (valued what) value list = listed_meant what value list

abbrev pub list_with : (kinds : List Kind) → Values kinds → List UidRange → List UidRange
list_with [] values list = list
list_with (kind ∷ kinds) values list = list_with kinds values.1 (listed kind values.0 list)

abbrev pub list_in : (kinds : List Kind) → Values kinds → List UidRange
list_in kinds values = list_with kinds values []

-- the value that the word spells was put, or it spells none
abbrev pub ReadsValue : Kind → List ℕ → Slots → Slots → Option (Unit {0}) → Type 0
ReadsValue kind text old new None = (value : ValueOf kind) → IsSpelled kind value text → ⊥
ReadsValue kind text old new (Some done) = (value : ValueOf kind) × IsSpelled kind value text × (new ≡ put kind value old)
