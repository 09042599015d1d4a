use Rattle.std.proofs.Common.{◌≡◌, ◌∙◌, ◌++◌, ◌<◌, [], ◌∷◌, ap, sym, subst, rules, arith, length, List, ℕ}
use Rattle.std.specs.Str.Iter.{split_text, split_has_more, split_pattern}
use Rattle.number_text.specs.Numbers.{SpellsDecimal}
use Rattle.command_words.proofs.Lists.{rest_from_list, list_from_rest}
use Rattle.command_words.proofs.Reading.{IsReading, reading_begins, reading_goes, reading_stops, reading_ends}
use Rattle.command_words.proofs.list.read_list.Goals as goal
use Rattle.command_words.proofs.list.read_list.Goals.{then-number-last-via-then-number-last, then-number-last-via-else-number-last+then-len-ge-MOST_NUMBERS}

pub loop-piece-init : goal.loop-piece-init
loop-piece-init c =
    let text = c.args.text.now in
    let iterator = c.into_iter-piece-iterator.result in
    let same = c.into_iter-piece-iterator.ensures.into_iter_gives in
    let begins = reading_begins text iterator (ap split_text same ∙ c.split-piece-items.ensures.text) (ap split_has_more same ∙ c.split-piece-items.ensures.has_more)
    (ap split_pattern same ∙ c.split-piece-items.ensures.pattern) in
    (tt, tt, subst (IsReading text iterator 0) (sym c.new-numbers.ensures.items) begins)

pub loop-piece-preserved : goal.loop-piece-preserved
loop-piece-preserved c =
    let numbers : List ℕ = c.loop-piece.numbers.items in
    let number : ℕ = c.in-Some-read_decimal.number in
    let pushed : c.push.new.self.items ≡ numbers ++ number ∷ [] = search rules in
    let spells : SpellsDecimal c.in-Some.piece.now number = subst (λ (t : List ℕ). SpellsDecimal t number) c.as_bytes.ensures.value c.in-Some-read_decimal.ensures.some.0 in
    let above : c.loop-piece.last < number = search rules in
    let room : length numbers < 1000 = search rules in
    let goes = reading_goes c.args.text.now c.loop-piece.piece-iterator c.next.new.self c.loop-piece.last number numbers c.in-Some.piece c.loop-piece.invariant.2 c.in-Some.ensures.steps
    spells c.in-Some-read_decimal.ensures.some.1 above room in
    (tt, tt, subst (IsReading c.args.text.now c.next.new.self number) (sym pushed) goes)

pub returns-in_default-clause-no_form : goal.returns-in_default-clause-no_form
returns-in_default-clause-no_form c = λ _ numbers is. reading_stops _ c.loop-piece.piece-iterator c.next.new.self _ _ c.in-Some.piece c.loop-piece.invariant.2 c.in-Some.ensures.steps
    (λ n small spells above room. c.in_default.ensures.none n small (subst (λ (t : List ℕ). SpellsDecimal t n) (sym c.as_bytes.ensures.value) spells)) numbers (rest_from_list _ numbers is)

pub returns-then-number-last-clause-no_form : goal.returns-then-number-last-clause-no_form
returns-then-number-last-clause-no_form c = λ _ numbers is. reading_stops _ c.loop-piece.piece-iterator c.next.new.self _ _ c.in-Some.piece c.loop-piece.invariant.2 c.in-Some.ensures.steps
    (λ n small spells above room.
    let number : ℕ = c.in-Some-read_decimal.number in
    let here : SpellsDecimal c.in-Some.piece.now number = subst (λ (t : List ℕ). SpellsDecimal t number) c.as_bytes.ensures.value c.in-Some-read_decimal.ensures.some.0 in
    let same : number ≡ n = sym here.value ∙ spells.value in
    elim c.then-number-last.branch [
      | then-number-last-via-then-number-last w ↦ omega (arith, same, above, w.if-number-last.true)
      | then-number-last-via-else-number-last+then-len-ge-MOST_NUMBERS w ↦ omega (arith, room, w.len.ensures, w.if-len-ge-MOST_NUMBERS.true)
    ]) numbers (rest_from_list _ numbers is)

pub returns-clause-ok : goal.returns-clause-ok
returns-clause-ok c = list_from_rest _ _ (reading_ends _ _ _ _ _ c.loop-piece.invariant.2 c.in-None.ensures.steps)
