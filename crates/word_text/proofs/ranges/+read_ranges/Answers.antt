use Rattle.word_text.proofs.RangeLists.{one_range_alone, ranges_cut, reads_more}
use Rattle.word_text.proofs.ranges.+read_ranges.Goals as goal

pub returns-in-None-read_range : goal.returns-in-None-read_range
returns-in-None-read_range t c = λ list spelled.
    let alone = one_range_alone c.args.word.now list c.in-None.ensures spelled in c.in-None-read_range.ensures alone.0 alone.2

pub returns-in-None-read_range-2 : goal.returns-in-None-read_range-2
returns-in-None-read_range-2 t c = λ list spelled.
    let parts = ranges_cut c.args.word.now c.in-Some.first.now c.in-Some.rest.now list c.in-Some.ensures.0 c.in-Some.ensures.1 spelled in
    c.in-None-read_range-2.ensures parts.0 parts.3

pub returns-in_ok-push-in-Some-read_range-2 : goal.returns-in_ok-push-in-Some-read_range-2
returns-in_ok-push-in-Some-read_range-2 t c =
    reads_more c.args.word.now c.in-Some.first.now c.in-Some.rest.now c.in-Some-read_range-2.range _ _ _ c.read_ranges.result c.in-Some.ensures.0 c.in-Some.ensures.1
    c.in-Some-read_range-2.ensures c.in_ok-push-in-Some-read_range-2.ensures.items c.read_ranges.ensures
