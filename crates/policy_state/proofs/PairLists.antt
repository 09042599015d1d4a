-- The tether pairs of a state: where the state changes around them, some fewer, and one more.
use Rattle.std.proofs.Common.{◌≡◌, ◌∙◌, ◌≤◌, ◌<◌, ◌==◌, ◌&&◌, ℕ, Bool, true, false, Some, List, [], ◌∷◌, ◌++◌, filter, length, refl, sym, ap, subst, inl, inr, arith}
use Rattle.std.specs.Prelude.{nat_le, find}
use Rattle.std.specs.List.{list_any}
use Rattle.std.specs.Option.{option_map}
use Rattle.std.specs.Str.{bytes_eq}
use Rattle.std.proofs.lemmas.Bool.{and_parts, and_from, both_ways, eq-eqb}
use Rattle.std.proofs.lemmas.List.{length-append}
use Rattle.std.proofs.lemmas.List.Folds.{list_all-append}
use Rattle.list_lemmas.proofs.Anys.{length-filter-le}
use Rattle.list_lemmas.proofs.Pairs.{list_all-filter, pairwise-filter, pairwise-push}
use Rattle.rule_match.specs.Packet.{lo}
use Rattle.policy_state.specs.Good.{AreLinks, ArePairs, differ, is_index, is_output, is_pair, pairs_differ, most_pairs}
use Rattle.policy_state.specs.View.{Link, Network, TetherPair, loopback_link}
use Rattle.policy_state.proofs.GoodStates.{each-has}
use Rattle.policy_state.proofs.LinkLists.{link_at}
use Rattle.policy_state.proofs.Members.{all-implied}
use Rattle.policy_state.proofs.Owners.{Has, any-from, find-has}

pub record PairParts (links : List Link) (ns : List Network) (pair : TetherPair) : Type 0 where
  pub above : nat_le 2 pair.input ≡ true
  pub known : is_index links pair.input ≡ true
  pub differs : differ pair.input pair.out ≡ true
  pub output : is_output ns pair.out ≡ true

pub pair-parts : (links : List Link) (ns : List Network) (pair : TetherPair) → is_pair links ns pair ≡ true → PairParts links ns pair
pair-parts links ns pair h =
    let one = and_parts (nat_le 2 pair.input) (is_index links pair.input && (differ pair.input pair.out && is_output ns pair.out)) h in
    let two = and_parts (is_index links pair.input) (differ pair.input pair.out && is_output ns pair.out) one.1 in
    let three = and_parts (differ pair.input pair.out) (is_output ns pair.out) two.1 in
    record { above = one.0; known = two.0; differs = three.0; output = three.1 }

pub pair-from : (links : List Link) (ns : List Network) (pair : TetherPair) → PairParts links ns pair → is_pair links ns pair ≡ true
pair-from links ns pair h = and_from _ _ h.above (and_from _ _ h.known (and_from _ _ h.differs h.output))

-- the same pairs, where each input stays a link and each output one of a network that isn't local
pub pairs-kept : (links links' : List Link) (ns ns' : List Network) (pairs : List TetherPair) → ArePairs links ns pairs
    → ((pair : TetherPair) → Has pairs pair → is_index links pair.input ≡ true → is_index links' pair.input ≡ true)
    → ((pair : TetherPair) → Has pairs pair → is_output ns pair.out ≡ true → is_output ns' pair.out ≡ true)
    → ArePairs links' ns' pairs
pairs-kept links links' ns ns' pairs good inputs outputs = record {
  each = all-implied (is_pair links ns) (is_pair links' ns') pairs (λ pair there h.
      let parts : PairParts links ns pair = pair-parts links ns pair h in
      pair-from links' ns' pair (record { above = parts.above; known = inputs pair there parts.known; differs = parts.differs; output = outputs pair there parts.output })) good.each;
  differ = good.differ;
  few = good.few;
}

pub pairs-filter : (links : List Link) (ns : List Network) (q : TetherPair → Bool) (pairs : List TetherPair) → ArePairs links ns pairs → ArePairs links ns (filter q pairs)
pairs-filter links ns q pairs good = record {
  each = list_all-filter (is_pair links ns) q pairs good.each;
  differ = pairwise-filter pairs_differ q pairs good.differ;
  few = omega (arith, good.few, length-filter-le q pairs);
}

pub pairs-push : (links : List Link) (ns : List Network) (pairs : List TetherPair) (pair : TetherPair) → ArePairs links ns pairs → PairParts links ns pair
    → list_any (λ p. (p.input == pair.input) && (p.out == pair.out)) pairs ≡ false → length pairs < most_pairs → ArePairs links ns (pairs ++ pair ∷ [])
pairs-push links ns pairs pair good parts absent room = record {
  each = list_all-append (is_pair links ns) pairs (pair ∷ []) ∙ and_from _ _ good.each (and_from _ _ (pair-from links ns pair parts) refl);
  differ = pairwise-push (λ a b. (a.input == b.input) && (a.out == b.out)) pairs pair good.differ absent;
  few = omega (arith, length-append pairs (pair ∷ []), room);
}

-- any link but `lo` may be the input of a tether pair
pub may_be_input : (ls : List Link) (name : List ℕ) (link : ℕ) → AreLinks ls → (link == lo) ≡ false → option_map (λ l. l.index) (find (λ l. bytes_eq l.name name) ls) ≡ Some link
    → (2 ≤ link) × (is_index ls link ≡ true)
may_be_input ls name link good not_lo named =
    let at = link_at ls name link named in
    let l : Link = at.0 in
    let index : l.index ≡ link = at.1.1 in
    let there : Has ls l = find-has (λ m. bytes_eq m.name name) ls l at.1.0 in
    (by l index (subst (λ ms. Has ms l) good.loopback_first there), any-from (λ m. m.index == link) ls l there (eq-eqb l.index link index))
  where
    by : (l : Link) → l.index ≡ link → Has (loopback_link ∷ good.others) l → 2 ≤ link
    by l index (inl first) = absurd (both_ways (link == lo) not_lo (eq-eqb link lo (sym index ∙ sym (ap (λ m. m.index) first))))
    by l index (inr other) = subst (λ i. 2 ≤ i) index (each-has (λ m. (2 ≤ m.index) × (m.index < 65536)) good.others l good.from_two other).0
