use Rattle.std.proofs.Common.{refl, arith}
use Rattle.fib_trie.proofs.Keeping.{kept_by}
use Rattle.fib_trie.proofs.table.TrieTable.make_room.Goals as goal

pub invariant_of-self : goal.invariant_of-self
invariant_of-self c =
    kept_by c.self.inside _ c.self.invariant c.in-Err.ensures.items refl c.self.invariant.chain_room
    (omega (arith, c.in-Err.ensures.len, c.in-Err.ensures.capacity, c.self.invariant.node_room))
    (omega (arith, c.in-Err.ensures.len, c.self.invariant.chains))
    (omega (arith, c.in-Err.ensures.capacity, c.self.invariant.root_room)) c.self.invariant.root_chains

pub invariant_of-self-in-Err-reserve : goal.invariant_of-self-in-Err-reserve
invariant_of-self-in-Err-reserve c =
    kept_by c.self.inside _ c.self.invariant c.in-Ok.ensures.items c.in-Err-reserve.ensures.entries
    (omega (arith, c.in-Err-reserve.ensures.no_less_room, c.self.invariant.chain_room))
    (omega (arith, c.in-Ok.ensures.len, c.in-Ok.ensures.capacity, c.self.invariant.node_room))
    (omega (arith, c.in-Ok.ensures.len, c.in-Err-reserve.ensures.no_less_chains, c.self.invariant.chains))
    (omega (arith, c.in-Ok.ensures.capacity, c.self.invariant.root_room))
    (omega (arith, c.in-Err-reserve.ensures.no_less_chains, c.self.invariant.root_chains))

pub invariant_of-self-2 : goal.invariant_of-self-2
invariant_of-self-2 c =
    kept_by c.self.inside _ c.self.invariant c.in-Ok.ensures.items c.in-Ok-reserve.ensures.entries c.in-Ok-reserve.ensures.room
    (omega (arith, c.in-Ok.ensures.ok, c.in-Ok.ensures.len, c.in-Ok.ensures.capacity))
    (omega (arith, c.in-Ok-reserve.ensures.chains, c.len.ensures, c.in-Ok.ensures.len))
    (omega (arith, c.in-Ok.ensures.ok, c.in-Ok.ensures.len, c.in-Ok.ensures.capacity))
    (omega (arith, c.in-Ok-reserve.ensures.chains, c.len.ensures))
