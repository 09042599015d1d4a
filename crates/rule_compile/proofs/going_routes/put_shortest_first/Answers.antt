use Rattle.std.proofs.Common.{rules}
use Rattle.std.proofs.lemmas.List.Sorted.{answers_always, IsNonDecreasingBy-from_sort}
use Rattle.std.proofs.lemmas.Result.{on_ok_weaker}
use Rattle.rule_compile.proofs.ByLength.{length_of, sorted-by_length}
use Rattle.rule_compile.proofs.going_routes.put_shortest_first.Goals as goal

pub returns : goal.returns
returns c =
    let keys = answers_always _ _ _ (λ f a r next called. search rules) in
    let stable = c.sort_by_key.ensures.stable length_of keys in
    on_ok_weaker c.sort_by_key.result (λ sorted. sorted-by_length _ _ (IsNonDecreasingBy-from_sort length_of _ (sorted length_of keys)) stable) c.sort_by_key.ensures.sorted
