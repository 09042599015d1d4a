-- Which addresses a prefix covers.
use Rattle.std.specs.Prelude.{Bool, ◌&&◌, ◌==◌}
use Rattle.prefixes.specs.Addr.{family_of, first_bits, same_family, same_addr}
use Rattle.prefixes.specs.declared.addr.Addr.{Addr}
use Rattle.prefixes.specs.declared.prefix.Prefix.{Prefix}

-- RFC 4632, 3.1: the families are equal, and so are the first bits
abbrev pub covers : Prefix → Addr → Bool
covers p a = same_family (family_of p.base) (family_of a) && (first_bits a p.len == first_bits p.base p.len)

abbrev pub same_prefix : Prefix → Prefix → Bool
same_prefix p q = same_addr p.base q.base && (p.len == q.len)
