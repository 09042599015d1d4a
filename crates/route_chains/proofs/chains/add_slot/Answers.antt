use Rattle.std.proofs.Common.{◌≡◌, ap, get_or, false, None, arith, length, vec_len, rules}
use Rattle.route_chains.specs.Found.{IsFound}
use Rattle.route_chains.specs.Links.{AreChains}
use Rattle.route_chains.proofs.Changed.{before_within, added, entries_added}
use Rattle.route_chains.proofs.chains.add_slot.Goals as goal

found : (c : goal.After-push_held) → IsFound c.args.slots.now.items c.args.chain (get_or c.args.heads.now.items c.args.chain None) (λ _. false) c.search-found.result.before c.search-found.result.at
found c = rw (c.deref.ensures.value, c.deref-2.ensures.value) at c.search-found.ensures

last : (c : goal.After-push_held) → c.len-place.result ≡ length c.args.slots.now.items
last c = let long : length c.args.slots.now.items ≡ vec_len c.args.slots.now = search rules in omega (arith, long, c.len-place.ensures)

changed : (c : goal.After-push_held) → AreChains c.push_held.new.places.items c.link.new.heads.items
changed c =
    added c.args.slots.now.items c.args.heads.now.items c.args.chain c.requires.chains c.requires.there c.search-found.result.before c.search-found.result.at
    c.args.route (found c) c.len-place.result (last c) c.link.new.slots.items c.push_held.new.places.items c.link.new.heads.items c.link.ensures.slots c.link.ensures.heads c.push_held.ensures.items

pub link-requires-clause-before : goal.link-requires-clause-before
link-requires-clause-before c = λ b is.
    let long : length c.args.slots.now.items ≡ vec_len c.args.slots.now = search rules in
    let within = before_within c.args.chain c.deref.result.now c.search-found.result.before c.search-found.ensures.before_is b is in
    omega (arith, long, within, c.deref.ensures.len, ap length c.deref.ensures.value)

pub returns-clause-chains : goal.returns-clause-chains
returns-clause-chains c = changed c

pub returns-clause-entries : goal.returns-clause-entries
returns-clause-entries c =
    entries_added c.args.slots.now.items c.args.heads.now.items c.args.chain c.requires.chains c.requires.there c.search-found.result.before c.search-found.result.at
    c.args.route (found c) c.len-place.result (last c) c.link.new.slots.items c.push_held.new.places.items c.link.new.heads.items c.link.ensures.slots c.link.ensures.heads c.push_held.ensures.items
