use Rattle.std.proofs.Common.{◌≡◌, sym, ap, get_or, None, Some, arith, length, vec_len, rules}
use Rattle.prefixes.specs.Route.{same_route}
use Rattle.route_chains.specs.Found.{IsFound}
use Rattle.route_chains.specs.Links.{AreChains}
use Rattle.route_chains.specs.Places.{held}
use Rattle.route_chains.proofs.Standing.{held-within}
use Rattle.route_chains.proofs.Changed.{before_within, cut_misses, removed, entries_removed}
use Rattle.route_chains.proofs.chains.cut_slot.Goals as goal

found : (c : goal.After-put) → IsFound c.args.slots.now.items c.args.chain (get_or c.args.heads.now.items c.args.chain None) (λ r. same_route r c.args.route) c.search-found.result.before c.search-found.result.at
found c = rw (c.deref.ensures.value, c.deref-2.ensures.value) at c.search-found.ensures

stands : (c : goal.After-put) → held c.args.slots.now.items c.in-Some.place ≡ Some c.in-Some-held.slot
stands c = sym (rw c.deref-3.ensures.value at c.in-Some-held.ensures)

changed : (c : goal.After-put) → AreChains c.put.new.places.items c.link.new.heads.items
changed c =
    removed c.args.slots.now.items c.args.heads.now.items c.args.chain c.requires.chains c.requires.there c.search-found.result.before c.search-found.result.at
    c.args.route (found c) c.in-Some.place c.in-Some.is c.in-Some-held.slot (stands c) c.link.new.slots.items c.put.new.places.items c.link.new.heads.items c.link.ensures.slots c.link.ensures.heads c.put.ensures.items

pub returns-in_default-clause-entries : goal.returns-in_default-clause-entries
returns-in_default-clause-entries c =
    absurd (cut_misses c.args.slots.now.items c.args.heads.now.items c.args.chain c.requires.chains c.requires.there c.search-found.result.before c.search-found.result.at
    c.args.route (rw (c.deref.ensures.value, c.deref-2.ensures.value) at c.search-found.ensures) c.requires.has c.in_default.not-Some)

pub link-requires-clause-before : goal.link-requires-clause-before
link-requires-clause-before c = λ b is.
    let long : length c.args.slots.now.items ≡ vec_len c.args.slots.now = search rules in
    let within = before_within c.args.chain c.deref.result.now c.search-found.result.before c.search-found.ensures.before_is b is in
    omega (arith, long, within, ap length c.deref.ensures.value)

pub put-requires : goal.put-requires
put-requires c =
    let long : length c.args.slots.now.items ≡ vec_len c.args.slots.now = search rules in
    let at : held c.args.slots.now.items c.in-Some.place ≡ Some c.in-Some-held.slot = sym (rw c.deref-3.ensures.value at c.in-Some-held.ensures) in
    omega (arith, long, held-within c.args.slots.now.items c.in-Some.place c.in-Some-held.slot at, c.link.ensures.len)

pub returns-clause-chains : goal.returns-clause-chains
returns-clause-chains c = changed c

pub returns-clause-entries : goal.returns-clause-entries
returns-clause-entries c =
    entries_removed c.args.slots.now.items c.args.heads.now.items c.args.chain c.requires.chains c.requires.there c.search-found.result.before c.search-found.result.at
    c.args.route (found c) c.in-Some.place c.in-Some.is c.in-Some-held.slot (stands c) c.link.new.slots.items c.put.new.places.items c.link.new.heads.items c.link.ensures.slots c.link.ensures.heads c.put.ensures.items
