-- The one text that is written for a value.
use Rattle.std.specs.Prelude.{◌≡◌, ℕ, ◌<◌, ◌^◌, true, List, [], ◌∷◌, ◌++◌, codes}
use Rattle.std.specs.Fmt.{decimal}
use Rattle.addr_text.specs.Canonical.{canonical as addr_text, canonical_prefix}
use Rattle.net_names.specs.Name.{is_name}
use Rattle.number_text.specs.Numbers.{hexadecimal}
use Rattle.prefixes.specs.Addr.{IsAddr}
use Rattle.uid_ranges.specs.declared.range.Uid.{Uid}
use Rattle.uid_ranges.specs.declared.range.UidRange.{UidRange}
use Rattle.word_text.specs.Grammar.{Kind, Meant, ValueOf, What, Counts, comma, dash, permission_text, addr, count, literal, mark, named, permission, prefix, range, ranges, uid, valued}

abbrev pub range_text : Uid → Uid → List ℕ
range_text first last = decimal first.number ++ dash ∷ decimal last.number

-- with ',' between each two
abbrev pub ranges_text : List UidRange → List ℕ
ranges_text [] = []
ranges_text (users ∷ []) = range_text users.first users.last
ranges_text (users ∷ next ∷ more) = range_text users.first users.last ++ comma ∷ ranges_text (next ∷ more)

abbrev pub mark_text : ℕ → List ℕ
mark_text bits = codes "0x" ++ hexadecimal bits

abbrev pub meant_text : (what : What) → Meant what → List ℕ
meant_text (count what) value = decimal value
meant_text (named what) value = value
meant_text permission value = permission_text value
meant_text uid value = decimal value.number
meant_text mark value = mark_text value
meant_text range value = range_text value.first value.last
meant_text ranges value = ranges_text value
meant_text addr value = addr_text value
meant_text prefix value = canonical_prefix value

abbrev pub value_text : (kind : Kind) → ValueOf kind → List ℕ
value_text (literal text) value = text
value_text (valued what) value = meant_text what value

-- after each line of a text
abbrev pub line_feed : ℕ
line_feed = 10

-- the value lies within the form of its word
abbrev pub IsMeantWithin : (what : What) → Meant what → Type 0
IsMeantWithin (count what) value = Counts what value
IsMeantWithin (named what) value = is_name value ≡ true
IsMeantWithin mark value = value < 2 ^ 32
IsMeantWithin ranges value = value ≡ [] → ⊥
IsMeantWithin addr value = IsAddr value
IsMeantWithin prefix value = IsAddr value.base
IsMeantWithin permission value = Unit {0}
IsMeantWithin uid value = Unit {0}
IsMeantWithin range value = Unit {0}

abbrev pub IsWithin : (kind : Kind) → ValueOf kind → Type 0
IsWithin (literal text) value = Unit {0}
IsWithin (valued what) value = IsMeantWithin what value
