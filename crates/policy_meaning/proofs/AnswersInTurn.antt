-- One answer after another: in a loop that returns the first one, and in a chain.
use Rattle.std.proofs.Common.{◌≡◌, ◌∙◌, ◌+◌, ◌-◌, ◌<◌, ◌≤◌, ◌&&◌, ℕ, zero, suc, List, [], ◌∷◌, drop, length, get_or, slice_get, Option, Some, None, is_some, true, false, filter, refl, sym, ap, arith, ◌++◌, unwrap_or}
use Rattle.std.specs.Option.{option_or}
use Rattle.std.proofs.lemmas.Bool.{false≢true}
use Rattle.std.proofs.lemmas.List.{at_drop_more}
use Rattle.networks.specs.declared.network.Network.{Network}
use Rattle.policy_meaning.proofs.Given.{given-flat, given-same, given-filter}
use Rattle.policy_meaning.specs.Asking.{is_meant, first_of}
use Rattle.policy_meaning.specs.Policy.{only_if, first_given, asks, by_routes, holds_at, holders, asks_holders, first_answer}
use Rattle.policy_meaning.specs.declared.holders.Holder.{Holder}
use Rattle.policy_state.specs.View.{StateView}
use Rattle.rule_match.specs.declared.packet.Packet.{Packet}
use Rattle.rule_match.specs.declared.verdict.Verdict.{Verdict}
use Rattle.policy_state.specs.Rows.{numbers_from}

-- Loops that return the first answer: what is left after some places.

-- from a place on: what is said there, or else what is said after it
pub from : {N V : Type 0} (says : N → Option V) (xs : List N) (i : ℕ) (other : N) → i < length xs
    → first_given says (drop i xs) ≡ option_or (says (get_or xs i other)) (first_given says (drop (i + 1) xs))
from says xs i other within = at_drop_more (λ ys. first_given says ys) xs i other within

-- the same, where a place gives an item
pub from-got : {N V : Type 0} (says : N → Option V) (xs : List N) (i : ℕ) (x : N) → Some x ≡ slice_get xs i
    → first_given says (drop i xs) ≡ option_or (says x) (first_given says (drop (i + 1) xs))
from-got {N = N} says xs i x is =
    let next : suc i ≡ i + 1 = omega arith in
    by xs i x is ∙ ap (λ m. option_or (says x) (first_given says (drop m xs))) next
  where
    by : (xs : List N) (i : ℕ) (x : N) → Some x ≡ slice_get xs i → first_given says (drop i xs) ≡ option_or (says x) (first_given says (drop (suc i) xs))
    by [] i x is = absurd cc
    by (y ∷ ys) zero x is = let same : y ≡ x = cc in ap (λ z. option_or (says z) (first_given says ys)) same
    by (y ∷ ys) (suc i) x is = by ys i x is

-- each place below the length gives one
pub none-past : {N : Type 0} (xs : List N) (i : ℕ) → i < length xs → None ≡ slice_get xs i → ⊥
none-past [] i within is = omega arith
none-past (y ∷ ys) zero within is = absurd cc
none-past (y ∷ ys) (suc i) within is = none-past ys i (omega (arith, within)) is

pub speaks : {V : Type 0} (answer rest : Option V) → is_some answer ≡ true → option_or answer rest ≡ answer
speaks None rest h = absurd (false≢true h)
speaks (Some v) rest h = refl

pub silent : {V : Type 0} (answer rest : Option V) → is_some answer ≡ false → option_or answer rest ≡ rest
silent None rest h = refl
silent (Some v) rest h = absurd (false≢true (sym h))

pub next-number : (low high : ℕ) → low < high → numbers_from low (high - low) ≡ low ∷ numbers_from (low + 1) (high - (low + 1))
next-number low high within =
    let more : high - low ≡ suc (high - (low + 1)) = omega (arith, within) in
    let next : suc low ≡ low + 1 = omega arith in
    ap (numbers_from low) more ∙ ap (λ m. low ∷ numbers_from m (high - (low + 1))) next

-- What networks say that hold the packet's user.

abbrev pub net_says : Holder → Packet → ℕ → Network → Option Verdict
net_says holder p rank n = only_if (asks n p) (is_meant holder p n.kind && holds_at p.uid.number rank n)

abbrev pub rank_says : Holder → StateView → Packet → ℕ → Option Verdict
rank_says holder s p rank = first_given (net_says holder p rank) s.networks

-- what is said at the ranks from this one on
unfoldable pub from_rank : (ℕ → Option Verdict) → ℕ → Option Verdict
from_rank says rank = first_given says (numbers_from rank (100 - rank))

pub from_rank-next : (says : ℕ → Option Verdict) (rank : ℕ) → rank < 100 → from_rank says rank ≡ option_or (says rank) (from_rank says (rank + 1))
unfolding from_rank
from_rank-next says rank within = ap (first_given says) (next-number rank 100 within)

pub from_rank-end : (says : ℕ → Option Verdict) (rank : ℕ) → 100 ≤ rank → from_rank says rank ≡ None
unfolding from_rank
from_rank-end says rank past =
    let none : 100 - rank ≡ 0 = omega (arith, past) in
    ap (λ n. first_given says (numbers_from rank n)) none

pub from_rank-all : (holder : Holder) (s : StateView) (p : Packet) → from_rank (rank_says holder s p) 0 ≡ asks_holders (by_routes p) s p (is_meant holder p)
unfolding from_rank holders
from_rank-all holder s p =
    sym (given-flat (λ n. asks n p) (λ rank. filter (λ (n : Network). is_meant holder p n.kind && holds_at p.uid.number rank n) s.networks) (numbers_from 0 100)
    ∙ given-same (λ rank. first_given (λ n. asks n p) (filter (λ (n : Network). is_meant holder p n.kind && holds_at p.uid.number rank n) s.networks)) (rank_says holder s p) (numbers_from 0 100)
    (λ place rank at. given-filter (λ n. asks n p) (λ (n : Network). is_meant holder p n.kind && holds_at p.uid.number rank n) s.networks))

-- Answers one after another: what is left where the first ones say nothing.

first-append : (v : Verdict) (xs ys : List (Option Verdict)) → first_answer v (xs ++ ys) ≡ unwrap_or (first_of xs) (first_answer v ys)
first-append v [] ys = refl
first-append v (None ∷ xs) ys = first-append v xs ys
first-append v (Some w ∷ xs) ys = refl

of-append : (xs ys : List (Option Verdict)) → first_of (xs ++ ys) ≡ option_or (first_of xs) (first_of ys)
of-append [] ys = refl
of-append (None ∷ xs) ys = of-append xs ys
of-append (Some w ∷ xs) ys = refl

first-only : (v : Verdict) (xs : List (Option Verdict)) → first_answer v xs ≡ unwrap_or (first_of xs) v
first-only v [] = refl
first-only v (None ∷ xs) = first-only v xs
first-only v (Some w ∷ xs) = refl

-- what is said where neither the device, root's interface, what is held nor lockdown says anything
pub made-says : (v : Verdict) (device root barred : Option Verdict) (held chosen rest : List (Option Verdict)) → device ≡ None → option_or root (first_of held) ≡ None → barred ≡ None
    → unwrap_or (option_or (first_of chosen) (first_of rest)) v ≡ first_answer v (device ∷ root ∷ held ++ barred ∷ chosen ++ rest)
made-says v (Some w) root barred held chosen rest d r b = absurd cc
made-says v None (Some w) barred held chosen rest d r b = absurd cc
made-says v None None (Some w) held chosen rest d r b = absurd cc
made-says v None None None held chosen rest d r b =
    sym (first-append v (held ++ (None ∷ chosen)) rest
    ∙ (ap (λ o. unwrap_or o (first_answer v rest)) (of-append held (None ∷ chosen) ∙ ap (λ o. option_or o (first_of chosen)) r)
    ∙ (ap (unwrap_or (first_of chosen)) (first-only v rest) ∙ both (first_of chosen) (first_of rest))))
  where
    both : (a b : Option Verdict) → unwrap_or a (unwrap_or b v) ≡ unwrap_or (option_or a b) v
    both None b = refl
    both (Some w) b = refl
