-- The kinds of words as the code has them, and what reading a word gives.
use Rattle.std.specs.Prelude.{◌≡◌, ℕ, Bool, true, false, List, ◌++◌, map, Option, None, Some, Result, Ok, Err}
use Rattle.std.specs.declared.alloc.AllocError.{AllocError}
use Rattle.uid_ranges.specs.declared.range.UidRange.{UidRange}
use Rattle.word_text.specs.declared.kind.Kind.{Kind as Coded}
use Rattle.word_text.specs.declared.kind.Kind.TheVariants as coded
use Rattle.word_text.specs.Grammar.{Kind, Meant, SpellsOut, SpellsRanges, What, addr, count, index, link, literal, mark, named, net, other, permission, prefix, range, ranges, rank, table, uid, valued}

abbrev pub kind_of : Coded → Kind
kind_of (coded.Word text) = literal text.now
kind_of coded.Name = valued (named link)
kind_of coded.Other = valued (named other)
kind_of coded.Index = valued (count index)
kind_of coded.Net = valued (count net)
kind_of coded.Rank = valued (count rank)
kind_of coded.Table = valued (count table)
kind_of coded.Permission = valued permission
kind_of coded.Uid = valued uid
kind_of coded.Mark = valued mark
kind_of coded.Range = valued range
kind_of coded.Ranges = valued ranges
kind_of coded.Addr = valued addr
kind_of coded.Prefix = valued prefix

abbrev pub kinds_in : List Coded → List Kind
kinds_in kinds = map kind_of kinds

-- what reading a word as a value gives
abbrev pub Gives : (what : What) → List ℕ → Option (Meant what) → Type 0
Gives what text None = (value : Meant what) → SpellsOut what value text → ⊥
Gives what text (Some value) = SpellsOut what value text

-- the ranges that the word spells were appended, or it spells none
abbrev pub ReadsRanges : List ℕ → List UidRange → List UidRange → Result Bool AllocError → Type 0
ReadsRanges text old new (Ok true) = (list : List UidRange) × SpellsRanges text list × (new ≡ old ++ list)
ReadsRanges text old new (Ok false) = (list : List UidRange) → SpellsRanges text list → ⊥
ReadsRanges text old new (Err fault) = Unit {0}
