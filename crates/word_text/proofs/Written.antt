-- What is written of a value spells it.
use Rattle.std.proofs.Common.{◌≡◌, ℕ, ◌<◌, ◌≤◌, ◌^◌, List, [], ◌∷◌, refl, arith}
use Rattle.addr_text.proofs.Written.{canonical_prefix_spelled, canonical_spelled}
use Rattle.std.specs.Fmt.{decimal}
use Rattle.number_text.proofs.Spelled.{SpellsDecimal-decimal, SpellsHexadecimal-hexadecimal, length-digits-le}
use Rattle.number_text.specs.Numbers.{SpellsDecimal, hexadecimal}
use Rattle.uid_ranges.specs.declared.range.Uid.{Uid}
use Rattle.uid_ranges.specs.declared.range.UidRange.{UidRange}
use Rattle.word_text.specs.Texts.{IsMeantWithin, IsWithin, mark_text, meant_text, range_text, ranges_text, value_text}
use Rattle.word_text.specs.Grammar.{Count, Counts, Kind, Meant, SpellsOut, ValueOf, What, IsSpelled, addr, count, literal, mark, named, permission, prefix, range, ranges, uid, valued, SpellsMark, SpellsRange, SpellsRanges, SpellsUid, index, net, rank, table}

-- what is counted is below 2 ^ 32
count_fits : (what : Count) (number : ℕ) → Counts what number → number ≤ 4294967295
count_fits index number counts = let most : number ≤ 65535 = counts.1 in omega arith
count_fits net number counts = let most : number ≤ 65535 = counts in omega arith
count_fits rank number counts = let most : number ≤ 99 = counts in omega arith
count_fits table number counts = counts

pub SpellsCount-text : (what : Count) (number : ℕ) → Counts what number → SpellsDecimal (decimal number) number × Counts what number
SpellsCount-text what number counts = let fits = count_fits what number counts in (SpellsDecimal-decimal number (omega arith), counts)

pub SpellsUid-decimal : (user : Uid) → SpellsUid (decimal user.number) user
SpellsUid-decimal user = let fits : user.number < 4294967295 = user.in_range in (SpellsDecimal-decimal user.number (omega arith), omega arith)

pub SpellsRange-text : (users : UidRange) → SpellsRange (range_text users.first users.last) users
SpellsRange-text users = record {
  first_text = decimal users.first.number;
  last_text = decimal users.last.number;
  cut = refl;
  first = SpellsUid-decimal users.first;
  last = SpellsUid-decimal users.last;
  ordered = users.ordered;
}

pub SpellsMark-text : (bits : ℕ) → bits < 2 ^ 32 → SpellsMark (mark_text bits) bits
SpellsMark-text bits fits = record {
  digits = hexadecimal bits;
  cut = refl;
  number = SpellsHexadecimal-hexadecimal bits (omega arith);
  few = length-digits-le 16 8 bits (omega arith) (omega arith) (omega arith) (omega arith);
}

pub SpellsRanges-text : (list : List UidRange) → (list ≡ [] → ⊥) → SpellsRanges (ranges_text list) list
SpellsRanges-text [] some = some refl
SpellsRanges-text (users ∷ []) some = SpellsRange-text users
SpellsRanges-text (users ∷ next ∷ more) some =
    (range_text users.first users.last, ranges_text (next ∷ more), refl, SpellsRange-text users, SpellsRanges-text (next ∷ more) (λ e. cc))

-- the word of a value spells it
meant_spelled : (what : What) (value : Meant what) → IsMeantWithin what value → SpellsOut what value (meant_text what value)
meant_spelled (count what) value within = SpellsCount-text what value within
meant_spelled (named what) value within = (refl, within)
meant_spelled permission value within = refl
meant_spelled uid value within = SpellsUid-decimal value
meant_spelled mark value within = SpellsMark-text value within
meant_spelled range value within = SpellsRange-text value
meant_spelled ranges value within = SpellsRanges-text value within
meant_spelled addr value within = canonical_spelled value within
meant_spelled prefix value within = canonical_prefix_spelled value within

pub text_spelled : (kind : Kind) (value : ValueOf kind) → IsWithin kind value → IsSpelled kind value (value_text kind value)
text_spelled (literal text) value within = refl
text_spelled (valued what) value within = meant_spelled what value within
