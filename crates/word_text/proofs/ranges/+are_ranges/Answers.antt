use Rattle.std.proofs.Common.{◌≡◌, ◌∙◌, [], ◌∷◌, true, false, sym}
use Rattle.word_text.specs.Grammar.{range}
use Rattle.word_text.proofs.RangeLists.{one_range_alone, ranges_cut, ranges_more}
use Rattle.word_text.proofs.Fitting.{fits_where}
use Rattle.word_text.proofs.ranges.+are_ranges.Goals as goal

pub returns-in-None : goal.returns-in-None
returns-in-None t c =
    let one = fits_where range c.args.word.now c.read_range.result c.is_some.result c.read_range.ensures c.is_some.ensures in (
      λ yes. let fits = one.0 yes in (fits.0 ∷ [], fits.1),
      λ spelled. let alone = one_range_alone c.args.word.now spelled.0 c.in-None.ensures spelled.1 in one.1 (alone.0, alone.2),
    )

pub returns-then-is_some : goal.returns-then-is_some
returns-then-is_some t c =
    let one = fits_where range c.in-Some.first.now c.read_range-in-Some.result c.is_some-in-Some.result c.read_range-in-Some.ensures c.is_some-in-Some.ensures in
    let first = one.0 c.if-is_some.true in (
      λ yes. let rest = c.are_ranges.ensures.0 yes in
          (first.0 ∷ rest.0, ranges_more c.args.word.now c.in-Some.first.now c.in-Some.rest.now first.0 rest.0 c.in-Some.ensures.0 first.1 rest.1),
      λ spelled. let parts = ranges_cut c.args.word.now c.in-Some.first.now c.in-Some.rest.now spelled.0 c.in-Some.ensures.0 c.in-Some.ensures.1 spelled.1 in
          c.are_ranges.ensures.1 (parts.1, parts.4),
    )

pub returns-else-is_some : goal.returns-else-is_some
returns-else-is_some t c =
    let one = fits_where range c.in-Some.first.now c.read_range-in-Some.result c.is_some-in-Some.result c.read_range-in-Some.ensures c.is_some-in-Some.ensures in (
      λ yes. absurd (let no : false ≡ true = sym c.if-is_some.false ∙ yes in cc),
      λ spelled. let parts = ranges_cut c.args.word.now c.in-Some.first.now c.in-Some.rest.now spelled.0 c.in-Some.ensures.0 c.in-Some.ensures.1 spelled.1 in
          one.1 (parts.0, parts.3),
    )
