-- Each kind has a word.
use Rattle.std.proofs.Common.{ℕ, ◌<◌, ◌^◌, List, [], ◌∷◌, codes, refl, arith}
use Rattle.std.specs.Fmt.{decimal}
use Rattle.addr_text.specs.Canonical.{canonical, canonical_prefix}
use Rattle.addr_text.proofs.Written.{canonical_prefix_spelled, canonical_spelled}
use Rattle.fwmark.specs.declared.permission.Permission.TheVariants.{Nothing}
use Rattle.number_text.proofs.Spelled.{SpellsDecimal-decimal}
use Rattle.prefixes.specs.declared.addr.Addr.TheVariants as address
use Rattle.prefixes.specs.declared.prefix.Prefix.{Prefix}
use Rattle.uid_ranges.specs.declared.range.UidRange.{UidRange}
use Rattle.word_text.specs.Grammar.{Count, Counts, Kind, Meant, What, ValueOf, IsSpelled, SpellsOut, index, net, rank, table, count, literal, named, permission, uid, mark, range, ranges, addr, prefix, valued}
use Rattle.word_text.specs.Slots.{ordered, root, whole}
use Rattle.word_text.specs.Texts.{mark_text, range_text}
use Rattle.word_text.proofs.Written.{SpellsMark-text, SpellsRange-text, SpellsUid-decimal}

-- each count has a number
least : (what : Count) → (number : ℕ) × Counts what number × (number < 2 ^ 64)
least index = (2, (omega arith, omega arith), omega arith)
least net = (0, omega arith, omega arith)
least rank = (0, omega arith, omega arith)
least table = (0, omega arith, omega arith)

abbrev all_root : UidRange
all_root = record { first = root; last = root; ordered = ordered }

abbrev everything : Prefix
everything = record { base = address.V4 0; len = 0; is_prefix = whole }

meant : (what : What) → (value : Meant what) × (text : List ℕ) × SpellsOut what value text
meant (count what) = let some = least what in (some.0, decimal some.0, (SpellsDecimal-decimal some.0 some.2, some.1))
meant (named what) = (codes "lo", codes "lo", (refl, refl))
meant permission = (Nothing, codes "none", refl)
meant uid = (root, decimal 0, SpellsUid-decimal root)
meant mark = (0, mark_text 0, SpellsMark-text 0 (omega arith))
meant range = (all_root, range_text root root, SpellsRange-text all_root)
meant ranges = (all_root ∷ [], range_text root root, SpellsRange-text all_root)
meant addr = (address.V4 0, canonical (address.V4 0), canonical_spelled (address.V4 0) (omega arith))
meant prefix = (everything, canonical_prefix everything, canonical_prefix_spelled everything (omega arith))

pub sample : (kind : Kind) → (value : ValueOf kind) × (text : List ℕ) × IsSpelled kind value text
sample (literal text) = (tt, text, refl)
sample (valued what) = meant what
