use Rattle.std.proofs.Common.{rules}
use Rattle.std.proofs.lemmas.List.Sorted.{answers_always, IsNonDecreasingBy-from_sort}
use Rattle.std.proofs.lemmas.Result.{on_ok_weaker}
use Rattle.rule_compile.proofs.SortedRules.{priority_of, sorted-in_order}
use Rattle.rule_compile.proofs.touched.put_in_order.Goals as goal

pub returns : goal.returns
returns c =
    let keys = answers_always _ _ _ (λ f a r next called. search rules) in
    let stable = c.sort_by_key.ensures.stable priority_of keys in
    on_ok_weaker c.sort_by_key.result (λ sorted. sorted-in_order _ _ (IsNonDecreasingBy-from_sort priority_of _ (sorted priority_of keys)) stable) c.sort_by_key.ensures.sorted
