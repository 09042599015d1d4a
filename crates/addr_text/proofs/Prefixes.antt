-- Prefixes at a text that is cut at its first slash.
use Rattle.std.proofs.Common.{◌≡◌, ◌↔◌, ℕ, ◌≤◌, true, false, List, ◌∷◌, ◌++◌, Option, Some, None, IfNone, IsSome, sym, subst, ◌∙◌, arith}
use Rattle.number_text.specs.Numbers.{SpellsDecimal}
use Rattle.prefixes.specs.Addr.{IsPrefix}
use Rattle.prefixes.specs.declared.addr.Addr.{Addr}
use Rattle.prefixes.specs.declared.addr.Addr.TheVariants as addr
use Rattle.prefixes.specs.declared.prefix.Prefix.{Prefix}
use Rattle.addr_text.specs.Forms.{has_byte}
use Rattle.addr_text.specs.Grammar.{Spells, SpellsPrefix}
use Rattle.addr_text.proofs.Bytes.{cut_once}
use Rattle.addr_text.proofs.Families.{no_slash, one_addr}

-- what a spelled prefix has before and after the slash
parts : (text base len : List ℕ) (prefix : Prefix) → text ≡ base ++ 47 ∷ len → has_byte 47 base ≡ false → SpellsPrefix text prefix →
    Spells base prefix.base × SpellsDecimal len prefix.len
parts text base len prefix cut lacks spells =
    let same = cut_once 47 spells.base_text base spells.len_text len (no_slash spells.base_text prefix.base spells.base) lacks (sym spells.cut ∙ cut) in (
      subst (λ (t : List ℕ). Spells t prefix.base) same.0 spells.base,
      subst (λ (t : List ℕ). SpellsDecimal t prefix.len) same.1 spells.len,
    )

-- a length is at most 128
pub len_most : (prefix : Prefix) → prefix.len ≤ 128
len_most prefix = by prefix.base prefix.len prefix.is_prefix
  where
    by : (base : Addr) (len : ℕ) → IsPrefix base len → len ≤ 128
    by (addr.V4 value) len is = let few = is.0 in omega arith
    by (addr.V6 value) len is = is.0

pub no_base : (text base len : List ℕ) → text ≡ base ++ 47 ∷ len → has_byte 47 base ≡ false → ((a : Addr) → Spells base a → ⊥) →
    (prefix : Prefix) → SpellsPrefix text prefix → ⊥
no_base text base len cut lacks none prefix spells = none prefix.base (parts text base len prefix cut lacks spells).0

pub no_len : (text base len : List ℕ) → text ≡ base ++ 47 ∷ len → has_byte 47 base ≡ false → ((n : ℕ) → n ≤ 128 → SpellsDecimal len n → ⊥) →
    (prefix : Prefix) → SpellsPrefix text prefix → ⊥
no_len text base len cut lacks none prefix spells = none prefix.len (len_most prefix) (parts text base len prefix cut lacks spells).1

pub no_prefix : (r : Option Prefix) (text base len : List ℕ) (a : Addr) (n : ℕ) → text ≡ base ++ 47 ∷ len → has_byte 47 base ≡ false →
    Spells base a → SpellsDecimal len n → (IsSome r ↔ IsPrefix a n) → IfNone r ((prefix : Prefix) → SpellsPrefix text prefix → ⊥)
no_prefix (Some p) text base len a n cut lacks base_is len_is exactly = tt
no_prefix None text base len a n cut lacks base_is len_is exactly = λ prefix spells.
    let two = parts text base len prefix cut lacks spells in
    let same : prefix.base ≡ a = one_addr base prefix.base a two.0 base_is in
    let length_is : prefix.len ≡ n = sym two.1.value ∙ len_is.value in
    let is : IsPrefix a n = subst (λ (b : Addr). IsPrefix b n) same (subst (λ (l : ℕ). IsPrefix prefix.base l) length_is prefix.is_prefix) in
    let no : false ≡ true = exactly.1 is in cc

-- no text spells two prefixes
pub one_prefix : (text : List ℕ) (p q : Prefix) → SpellsPrefix text p → SpellsPrefix text q → (p.base ≡ q.base) × (p.len ≡ q.len)
one_prefix text p q a b =
    let two = parts text b.base_text b.len_text p b.cut (no_slash b.base_text q.base b.base) a in
    (one_addr b.base_text p.base q.base two.0 b.base, sym two.1.value ∙ b.len.value)
