-- What spells a word has bytes that are printed and are no space.
use Rattle.std.proofs.Common.{◌≡◌, ℕ, ◌<◌, ◌≤◌, ◌&&◌, Bool, true, List, [], ◌∷◌, ◌++◌, length, nat_le, nat_lt, refl, sym, ap, ◌∙◌, subst, inl, inr, arith}
use Rattle.std.proofs.lemmas.Bool.Decides.{nat_tests}
use Rattle.std.proofs.lemmas.List.Folds.{list_all-append}
use Rattle.std.specs.Char.{digit_value}
use Rattle.std.specs.List.{list_all}
use Rattle.std.specs.Str.Parse.{AllDigits}
use Rattle.addr_text.specs.Grammar.{Spells as SpellsAddr, SpellsGroup, SpellsOctet, SpellsPrefix, SpellsRow, SpellsShort, SpellsV4, SpellsV6, colon, dot, slash}
use Rattle.fwmark.specs.declared.permission.Permission.{Permission}
use Rattle.fwmark.specs.declared.permission.Permission.TheVariants.{Nothing, Network, System}
use Rattle.net_names.specs.Name.{is_name, is_name_byte}
use Rattle.number_text.specs.Numbers.{SpellsDecimal}
use Rattle.prefixes.specs.declared.addr.Addr.{Addr}
use Rattle.prefixes.specs.declared.addr.Addr.TheVariants as address
use Rattle.prefixes.specs.declared.prefix.Prefix.{Prefix}
use Rattle.uid_ranges.specs.declared.range.Uid.{Uid}
use Rattle.uid_ranges.specs.declared.range.UidRange.{UidRange}
use Rattle.word_text.specs.Grammar.{Kind, Meant, What, ValueOf, IsSpelled, SpellsMark, SpellsOut, SpellsRange, SpellsUid, SpellsRanges, permission_text, addr, comma, count, dash, literal, mark, named, permission, prefix, range, ranges, uid, valued}
use Rattle.word_text.proofs.Tests.{both, both_true}

-- printed, and no space
abbrev pub is_graphic : ℕ → Bool
is_graphic byte = nat_lt 32 byte && nat_le byte 126

digit_graphic : (base digit : ℕ) → base ≤ 36 → digit_value digit < base → is_graphic digit ≡ true
digit_graphic base digit low below = grind (arith, nat_tests)

-- these bytes are graphic, and there is one
pub record IsGraphic (text : List ℕ) : Type 0 where
  pub all : list_all is_graphic text ≡ true
  pub some : 0 < length text

all_join : (left right : List ℕ) → list_all is_graphic left ≡ true → list_all is_graphic right ≡ true → list_all is_graphic (left ++ right) ≡ true
all_join left right one other = list_all-append is_graphic left right ∙ both (list_all is_graphic left) (list_all is_graphic right) one other

digits_graphic : (base : ℕ) (text : List ℕ) → base ≤ 36 → AllDigits base text → list_all is_graphic text ≡ true
digits_graphic base [] low all = refl
digits_graphic base (digit ∷ text) low all = both (is_graphic digit) (list_all is_graphic text) (digit_graphic base digit low all.0) (digits_graphic base text low all.1)

decimal_graphic : (text : List ℕ) (value : ℕ) → SpellsDecimal text value → IsGraphic text
decimal_graphic text value spelled = record { all = digits_graphic 10 text (omega arith) spelled.numeral.1; some = spelled.numeral.0 }

uid_graphic : (text : List ℕ) (value : Uid) → SpellsUid text value → IsGraphic text
uid_graphic text value spelled = decimal_graphic text value.number spelled.0

permission_graphic : (value : Permission) → IsGraphic (permission_text value)
permission_graphic Nothing = record { all = refl; some = omega arith }
permission_graphic Network = record { all = refl; some = omega arith }
permission_graphic System = record { all = refl; some = omega arith }

name_byte_graphic : (byte : ℕ) → is_name_byte byte ≡ true → is_graphic byte ≡ true
name_byte_graphic byte e = grind (arith, nat_tests)

names_graphic : (text : List ℕ) → list_all is_name_byte text ≡ true → list_all is_graphic text ≡ true
names_graphic [] all = refl
names_graphic (byte ∷ text) all =
    let parts = both_true (is_name_byte byte) (list_all is_name_byte text) all in
    both (is_graphic byte) (list_all is_graphic text) (name_byte_graphic byte parts.0) (names_graphic text parts.1)

name_graphic : (text : List ℕ) → is_name text ≡ true → IsGraphic text
name_graphic text form =
    let all = both_true (nat_le 1 (length text) && nat_le (length text) 15) (list_all is_name_byte text) form in
    let lengths = both_true (nat_le 1 (length text)) (nat_le (length text) 15) all.0 in
    record { all = names_graphic text all.1; some = let test : nat_le 1 (length text) ≡ true = lengths.0 in grind (arith, nat_tests) }

some_behind : (left right : List ℕ) (byte : ℕ) → 0 < length (left ++ byte ∷ right)
some_behind [] right byte = omega arith
some_behind (first ∷ left) right byte = omega arith

range_graphic : (text : List ℕ) (value : UidRange) → SpellsRange text value → IsGraphic text
range_graphic text value spelled =
    let first = uid_graphic spelled.first_text value.first spelled.first in
    let last = uid_graphic spelled.last_text value.last spelled.last in
    subst IsGraphic (sym spelled.cut) (record {
      all = all_join spelled.first_text (dash ∷ spelled.last_text) first.all last.all;
      some = some_behind spelled.first_text spelled.last_text dash;
    })

ranges_graphic : (text : List ℕ) (list : List UidRange) → SpellsRanges text list → IsGraphic text
ranges_graphic text [] spelled = absurd spelled
ranges_graphic text (users ∷ []) spelled = range_graphic text users spelled
ranges_graphic text (users ∷ next ∷ more) spelled =
    let first = range_graphic spelled.0 users spelled.3 in
    let rest = ranges_graphic spelled.1 (next ∷ more) spelled.4 in
    subst IsGraphic (sym spelled.2) (record { all = all_join spelled.0 (comma ∷ spelled.1) first.all rest.all; some = some_behind spelled.0 spelled.1 comma })

mark_graphic : (text : List ℕ) (value : ℕ) → SpellsMark text value → IsGraphic text
mark_graphic text value spelled =
    subst IsGraphic (sym spelled.cut) (record { all = digits_graphic 16 spelled.digits (omega arith) spelled.number.number.numeral.1; some = omega arith })

-- a row of texts that are graphic, with a graphic byte between each two
row_graphic : (One : List ℕ → ℕ → Type 0) (byte : ℕ) → is_graphic byte ≡ true → ((text : List ℕ) (value : ℕ) → One text value → list_all is_graphic text ≡ true) →
    (text values : List ℕ) → SpellsRow One byte text values → list_all is_graphic text ≡ true
row_graphic One byte plain each text [] row = ap (list_all is_graphic) row
row_graphic One byte plain each text (x ∷ []) row = each text x row
row_graphic One byte plain each text (x ∷ y ∷ xs) row =
    ap (list_all is_graphic) row.2
    ∙ all_join row.0 (byte ∷ row.1) (each row.0 x row.3)
    (both (is_graphic byte) (list_all is_graphic row.1) plain (row_graphic One byte plain each row.1 (y ∷ xs) row.4))

octet_graphic : (text : List ℕ) (value : ℕ) → SpellsOctet text value → list_all is_graphic text ≡ true
octet_graphic text value spelled = digits_graphic 10 text (omega arith) spelled.0.numeral.1

group_graphic : (text : List ℕ) (value : ℕ) → SpellsGroup text value → list_all is_graphic text ≡ true
group_graphic text value spelled = digits_graphic 16 text (omega arith) spelled.0.1

row_some : (One : List ℕ → ℕ → Type 0) (byte : ℕ) (text values : List ℕ) → 2 ≤ length values → SpellsRow One byte text values → 0 < length text
row_some One byte text [] many row = absurd (omega arith)
row_some One byte text (x ∷ []) many row = absurd (omega arith)
row_some One byte text (x ∷ y ∷ xs) many row = subst (λ (t : List ℕ). 0 < length t) (sym row.2) (some_behind row.0 row.1 byte)

v4_graphic : (text : List ℕ) (value : ℕ) → SpellsV4 text value → IsGraphic text
v4_graphic text value spelled = record {
  all = row_graphic SpellsOctet dot refl octet_graphic text spelled.octets spelled.row;
  some = row_some SpellsOctet dot text spelled.octets (omega (arith, spelled.four)) spelled.row;
}

short_graphic : (text groups : List ℕ) → SpellsShort text groups → IsGraphic text
short_graphic text groups spelled =
    let left = row_graphic SpellsGroup colon refl group_graphic spelled.left_text spelled.left spelled.left_row in
    let right = row_graphic SpellsGroup colon refl group_graphic spelled.right_text spelled.right spelled.right_row in
    subst IsGraphic (sym spelled.cut) (record {
      all = all_join spelled.left_text (colon ∷ colon ∷ spelled.right_text) left right;
      some = some_behind spelled.left_text (colon ∷ spelled.right_text) colon;
    })

v6_graphic : (text : List ℕ) (value : ℕ) → SpellsV6 text value → IsGraphic text
v6_graphic text value spelled = elim spelled.form [
  | inl full ↦ record {
    all = row_graphic SpellsGroup colon refl group_graphic text spelled.groups full.1;
    some = row_some SpellsGroup colon text spelled.groups (omega (arith, full.0)) full.1;
  }
  | inr short ↦ short_graphic text spelled.groups short
]

addr_graphic : (text : List ℕ) (value : Addr) → SpellsAddr text value → IsGraphic text
addr_graphic text (address.V4 value) spelled = v4_graphic text value spelled
addr_graphic text (address.V6 value) spelled = v6_graphic text value spelled

prefix_graphic : (text : List ℕ) (value : Prefix) → SpellsPrefix text value → IsGraphic text
prefix_graphic text value spelled =
    let base = addr_graphic spelled.base_text value.base spelled.base in
    let len = decimal_graphic spelled.len_text value.len spelled.len in
    subst IsGraphic (sym spelled.cut) (record {
      all = all_join spelled.base_text (slash ∷ spelled.len_text) base.all len.all;
      some = some_behind spelled.base_text spelled.len_text slash;
    })

meant_graphic : (what : What) (value : Meant what) (text : List ℕ) → SpellsOut what value text → IsGraphic text
meant_graphic (count what) value text spelled = decimal_graphic text value spelled.0
meant_graphic (named what) value text spelled = subst IsGraphic (sym spelled.0) (name_graphic value spelled.1)
meant_graphic permission value text spelled = subst IsGraphic (sym spelled) (permission_graphic value)
meant_graphic uid value text spelled = uid_graphic text value spelled
meant_graphic mark value text spelled = mark_graphic text value spelled
meant_graphic range value text spelled = range_graphic text value spelled
meant_graphic ranges value text spelled = ranges_graphic text value spelled
meant_graphic addr value text spelled = addr_graphic text value spelled
meant_graphic prefix value text spelled = prefix_graphic text value spelled

-- a word of its own that is graphic
abbrev pub is_plain : Kind → Bool
is_plain (literal text) = list_all is_graphic text && nat_lt 0 (length text)
is_plain (valued what) = true

pub spelled_graphic : (kind : Kind) (value : ValueOf kind) (text : List ℕ) → is_plain kind ≡ true → IsSpelled kind value text → IsGraphic text
spelled_graphic (literal word) value text plain spelled =
    let parts = both_true (list_all is_graphic word) (nat_lt 0 (length word)) plain in
    subst IsGraphic (sym spelled) (record { all = parts.0; some = let test : nat_lt 0 (length word) ≡ true = parts.1 in grind (arith, nat_tests) })
spelled_graphic (valued what) value text plain spelled = meant_graphic what value text spelled
