-- A rule that matches a packet has a value between the two that the packet asks for.
use Rattle.std.proofs.Common.{◌≡◌, ℕ, ◌+◌, ◌-◌, ◌*◌, ◌/◌, ◌<◌, ◌≤◌, ◌==◌, true, false, refl, sym, ◌∙◌, ap, arith, inl, inr, nat_lt, bit_and, Option, Some, None}
use Rattle.std.proofs.Math.Nat.{add-div_right, div-lt_iff_lt-mul, lt-div-mul-add}
use Rattle.std.proofs.lemmas.Nat.{and_assoc}
use Rattle.std.specs.Bool.{if◌then◌else◌}
use Rattle.std.proofs.lemmas.Bool.{cases_Bool, ltb-true, and_parts, eqb-true, leb-true, false≢true}
use Rattle.std.proofs.lemmas.Bool.Decides.{nat_tests}
use Rattle.rule_match.specs.Rule.{matches, selects_link, selects_uid}
use Rattle.rule_match.specs.declared.packet.Packet.{Packet}
use Rattle.rule_match.specs.declared.rule.Rule.{Rule}
use Rattle.uid_ranges.specs.Range.{holds}
use Rattle.uid_ranges.specs.declared.range.UidRange.{UidRange}
use Rattle.rule_index.specs.Spots.{size_of, level_of, level_of_range, has_network, group_of, group_of_uids, group_of_link, value_of, value_of_uids, value_of_link, low_of, high_of, link_or}

-- a value of a group is between the two
abbrev pub IsInside : Packet → ℕ → ℕ → Type 0
IsInside p g v = (low_of p g ≤ v) × (v ≤ high_of p g)

div-mono : (x y k : ℕ) → 0 < k → x ≤ y → x / k ≤ y / k
div-mono x y k pos le =
    let l : y < y / k * k + k = lt-div-mul-add pos in
    let m : x < (y / k + 1) * k = omega arith in
    let n : x / k < y / k + 1 = (div-lt_iff_lt-mul pos).1 m in
    omega arith

record IsLevel (reach g : ℕ) : Type 0 where
  fits : reach < size_of g
  first : 1 ≤ g
  last : g ≤ 9

step : (r n g other : ℕ) → size_of g ≡ n → 1 ≤ g → g ≤ 9 → IsLevel r other → IsLevel r (if nat_lt r n then g else other)
step r n g other s low high e = elim (cases_Bool (nat_lt r n)) as (λ _. IsLevel r (if nat_lt r n then g else other)) [
  | inl hit ↦ let l : r < n = ltb-true r n hit in rw hit (record { fits = omega (arith, s); first = low; last = high })
  | inr miss ↦ rw miss e
]

is_level : (r : ℕ) → r < 4294967296 → IsLevel r (level_of r)
is_level r h =
    step r 1 1 _ refl (omega arith) (omega arith)
    (step r 16 2 _ refl (omega arith) (omega arith)
    (step r 256 3 _ refl (omega arith) (omega arith)
    (step r 4096 4 _ refl (omega arith) (omega arith)
    (step r 65536 5 _ refl (omega arith) (omega arith)
    (step r 1048576 6 _ refl (omega arith) (omega arith)
    (step r 16777216 7 _ refl (omega arith) (omega arith)
    (step r 268435456 8 _ refl (omega arith) (omega arith)
    (record { fits = h; first = omega arith; last = omega arith }))))))))

-- between the first and the last value of one size
low_fits : (first uid s : ℕ) → 0 < s → uid < first + s → uid / s - 1 ≤ first / s
low_fits first uid s pos h =
    let le : uid / s ≤ (first + s) / s = div-mono _ _ s pos (omega arith) in
    let e : (first + s) / s ≡ first / s + 1 = add-div_right first pos in
    omega arith

-- the groups of ranges
low_of-level : (p : Packet) (g : ℕ) → 1 ≤ g → g ≤ 9 → low_of p g ≡ p.uid.number / size_of g - 1
low_of-level p g h k =
    let a : (g == 0) ≡ false = grind (arith, nat_tests) in
    let b : (g == 10) ≡ false = grind (arith, nat_tests) in
    let c : (g == 11) ≡ false = grind (arith, nat_tests) in
    let d : (g == 12) ≡ false = grind (arith, nat_tests) in
    rw (a, b, c, d) refl

high_of-level : (p : Packet) (g : ℕ) → 1 ≤ g → g ≤ 9 → high_of p g ≡ p.uid.number / size_of g
high_of-level p g h k =
    let a : (g == 0) ≡ false = grind (arith, nat_tests) in
    let b : (g == 10) ≡ false = grind (arith, nat_tests) in
    let c : (g == 11) ≡ false = grind (arith, nat_tests) in
    let d : (g == 12) ≡ false = grind (arith, nat_tests) in
    rw (a, b, c, d) refl

inside-range : (p : Packet) (range : UidRange) (g : ℕ) → holds range p.uid.number ≡ true → IsLevel (range.last.number - range.first.number) g
    → IsInside p g (range.first.number / size_of g)
inside-range p range g h level =
    let both = and_parts _ _ h in
    let l : range.first.number ≤ p.uid.number = leb-true _ _ both.0 in
    let m : p.uid.number ≤ range.last.number = leb-true _ _ both.1 in
    let fits = level.fits in
    let pos : 0 < size_of g = omega arith in
    let low : p.uid.number / size_of g - 1 ≤ range.first.number / size_of g = low_fits range.first.number p.uid.number (size_of g) pos (omega arith) in
    let high : range.first.number / size_of g ≤ p.uid.number / size_of g = div-mono _ _ (size_of g) pos l in
    (rw (low_of-level p g level.first level.last) low, rw (high_of-level p g level.first level.last) high)

inside-link : (p : Packet) (outgoing incoming : Option ℕ) → selects_link incoming (Some p.incoming) ≡ true → selects_link outgoing p.outgoing ≡ true
    → IsInside p (group_of_link outgoing incoming) (value_of_link outgoing incoming)
inside-link p (Some link) incoming i o = bound p.outgoing o
  where
    bound : (out : Option ℕ) → selects_link (Some link) out ≡ true → (link_or out 1 ≤ link) × (link ≤ link_or out 0)
    bound None o = absurd (false≢true o)
    bound (Some other) o = let e : link ≡ other = eqb-true link other o in (omega arith, omega arith)
inside-link p None (Some link) i o = let e : link ≡ p.incoming = eqb-true link p.incoming i in (omega arith, omega arith)
inside-link p None None i o = (omega arith, omega arith)

inside-uids : (p : Packet) (uids : Option UidRange) (r : Rule) → selects_uid uids p.uid.number ≡ true → selects_link r.incoming (Some p.incoming) ≡ true → selects_link r.outgoing p.outgoing ≡ true
    → IsInside p (group_of_uids uids r) (value_of_uids uids r)
inside-uids p None r u i o = inside-link p r.outgoing r.incoming i o
inside-uids p (Some range) r u i o =
    let small = range.last.in_range in
    inside-range p range (level_of_range range) u (is_level (range.last.number - range.first.number) (omega arith))

inside-network : (p m v w : ℕ) → (bit_and p m == v) ≡ true → (bit_and m w == w) ≡ true → bit_and v w ≡ bit_and p w
inside-network p m v w h k =
    let e : bit_and p m ≡ v = eqb-true _ _ h in
    let f : bit_and m w ≡ w = eqb-true _ _ k in
    ap (λ x. bit_and x w) (sym e) ∙ and_assoc w p m ∙ ap (bit_and p) f

same_inside : (v w : ℕ) → v ≡ w → (w ≤ v) × (v ≤ w)
same_inside v w e = (omega arith, omega arith)

pub inside : (r : Rule) (p : Packet) → matches r p ≡ true → IsInside p (group_of r) (value_of r)
inside r p h =
    let a = and_parts _ _ h in
    let b = and_parts _ _ a.1 in
    let c = and_parts _ _ b.1 in
    elim (cases_Bool (has_network r)) as (λ _. IsInside p (group_of r) (value_of r)) [
      | inl hit ↦ rw hit (same_inside (bit_and r.mark 65535) (bit_and p.mark 65535) (inside-network p.mark r.mask r.mark 65535 a.0 hit))
      | inr miss ↦ rw miss (inside-uids p r.uids r c.1 b.0 c.0)
    ]
