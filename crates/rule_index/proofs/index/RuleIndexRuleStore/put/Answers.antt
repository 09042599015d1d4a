use Rattle.std.proofs.Common.{◌≡◌, ◌<◌, ◌∙◌, ap, length, is_ok, true, arith, vec_len, vec_capacity}
use Rattle.rule_law.specs.Rules.{placed}
use Rattle.kernel_model.specs.Kind.{rule_kind}
use Rattle.rule_index.specs.Index.{IndexView, IsIndexed, listed_of}
use Rattle.rule_index.proofs.Changed.{order_still_rises, keyed_still_rises, order_put, keyed_put, put_in}
use Rattle.rule_index.proofs.index.RuleIndexRuleStore.put.Goals.{After-push, After-put-2}
use Rattle.rule_index.proofs.index.RuleIndexRuleStore.put.Goals as goal

pub put-requires-clause-rises : goal.put-requires-clause-rises
put-requires-clause-rises c =
    let room = ap (λ (v : IndexView). v.room) c.self.view_is in
    let less : vec_len c.self.inside.rules < vec_capacity c.self.inside.rules = omega (arith, room, c.requires) in
    let fits : is_ok c.push.result ≡ true = c.push.ensures.succeeds less in
    order_still_rises c.self.inside.rules.items c.self.inside.order.numbers c.self.inside.keyed.numbers c.self.invariant c.push.new.self.items c.deref.result.now c.args.rule.now (rw fits at c.push.ensures.items) c.deref.ensures.value

pub put-requires-2-clause-rises : goal.put-requires-2-clause-rises
put-requires-2-clause-rises c =
    let room = ap (λ (v : IndexView). v.room) c.self.view_is in
    let less : vec_len c.self.inside.rules < vec_capacity c.self.inside.rules = omega (arith, room, c.requires) in
    let fits : is_ok c.push.result ≡ true = c.push.ensures.succeeds less in
    keyed_still_rises c.self.inside.rules.items c.self.inside.order.numbers c.self.inside.keyed.numbers c.self.invariant c.push.new.self.items c.deref-2.result.now c.args.rule.now (rw fits at c.push.ensures.items) c.deref-2.ensures.value

-- what the three lists hold
joined : (c : After-put-2)
    → IsIndexed c.push.new.self.items c.put.new.list.numbers c.put-2.new.list.numbers
    × (listed_of c.push.new.self.items c.put.new.list.numbers ≡ placed rule_kind c.args.rule.now (listed_of c.self.inside.rules.items c.self.inside.order.numbers))
joined c =
    let room = ap (λ (v : IndexView). v.room) c.self.view_is in
    let less : vec_len c.self.inside.rules < vec_capacity c.self.inside.rules = omega (arith, room, c.requires) in
    let fits : is_ok c.push.result ≡ true = c.push.ensures.succeeds less in
    let last : c.len-number.result ≡ length c.self.inside.rules.items = c.len-number.ensures ∙ c.self.inside.rules.ok.0 in
    let more = rw fits at c.push.ensures.items in
    put_in c.self.inside.rules.items c.self.inside.order.numbers c.self.inside.keyed.numbers c.self.invariant c.push.new.self.items c.args.rule.now c.put.new.list.numbers c.put-2.new.list.numbers more
    (order_put c.self.inside.rules.items c.self.inside.order.numbers c.self.inside.keyed.numbers c.self.invariant c.push.new.self.items c.deref.result.now c.args.rule.now more c.deref.ensures.value c.len-number.result c.put.new.list.numbers last c.put.ensures.items)
    (keyed_put c.self.inside.rules.items c.self.inside.order.numbers c.self.inside.keyed.numbers c.self.invariant c.push.new.self.items c.deref-2.result.now c.args.rule.now more c.deref-2.ensures.value c.len-number.result c.put-2.new.list.numbers last c.put-2.ensures.items)

pub invariant_of-self : goal.invariant_of-self
invariant_of-self c = (joined c).0

pub returns-clause-rules : goal.returns-clause-rules
returns-clause-rules c = (joined c).1 ∙ ap (λ (v : IndexView). placed rule_kind c.args.rule.now v.list) c.self.view_is
