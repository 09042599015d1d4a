-- Two ways to ask that agree on the networks of a state make one policy.
use Rattle.std.proofs.Common.{◌≡◌, ◌∙◌, ◌==◌, ℕ, Bool, true, false, Some, List, [], ◌∷◌, refl, sym, ap, inl, inr, filter}
use Rattle.std.specs.Prelude.{◌&&◌, if◌then◌else◌}
use Rattle.std.specs.Option.{option_and_then}
use Rattle.fwmark.specs.Mark.{net_of}
use Rattle.rule_match.specs.declared.packet.Packet.{Packet}
use Rattle.policy_state.specs.View.{Kind, Network, StateView}
use Rattle.policy_state.specs.declared.tether.TetherPair.{TetherPair}
use Rattle.policy_state.specs.Rows.{default_of, picks, is_free, is_secure, is_bypass, numbers_from}
use Rattle.policy_state.specs.declared.row.NetworkSet.TheVariants.{OfDefault}
use Rattle.policy_state.proofs.Owners.{Has, OfFlat, of_flat, find-has, link-has}
use Rattle.policy_meaning.specs.Policy.{only_if, Asks, first_given, asks_holders, holds_at, holders, may_use, may_reach, may_bind, may_choose, is_usable, asks_named, asks_bound, asks_default, asks_local, asks_pair, policy_by}
use Rattle.networks.specs.Lists.{find_id, find_link}
use Rattle.networks.specs.Network.{has_link, local_id}
use Rattle.policy_meaning.proofs.Levels.{and-same, found-passes}
use Rattle.policy_meaning.proofs.Given.{given-has}

pub of_filter : {N : Type 0} (t : N → Bool) (xs : List N) (n : N) → Has (filter t xs) n → Has xs n
of_filter t [] n h = absurd h
of_filter t (x ∷ xs) n h = by (t x) (of_filter t xs n) h
  where
    by : (b : Bool) → (Has (filter t xs) n → Has xs n) → Has (if b then x ∷ filter t xs else filter t xs) n → Has (x ∷ xs) n
    by true more (inl e) = inl e
    by true more (inr g) = inr (more g)
    by false more g = inr (more g)

pub filter-passes : {N : Type 0} (t : N → Bool) (xs : List N) (n : N) → Has (filter t xs) n → t n ≡ true
filter-passes t [] n h = absurd h
filter-passes {N = N} t (x ∷ xs) n h = by (t x) refl (filter-passes t xs n) h
  where
    by : (b : Bool) → t x ≡ b → (Has (filter t xs) n → t n ≡ true) → Has (if b then x ∷ filter t xs else filter t xs) n → t n ≡ true
    by true is more (inl e) = ap t (sym e) ∙ is
    by true is more (inr g) = more g
    by false is more g = more g

module _ (a b : Asks) (s : StateView) (p : Packet)
    (nets : (n : Network) → Has s.networks n → a.net n ≡ b.net n)
    (bound : (n : Network) (link : ℕ) → Has s.networks n → Has n.interfaces link → p.outgoing ≡ Some link → a.link n link ≡ b.link n link)
    (pairs : (pair : TetherPair) → Has s.pairs pair → asks_pair a s p pair ≡ asks_pair b s p pair) where
  same-named : (test : Network → Bool) → asks_named a s p test ≡ asks_named b s p test
  same-named test = and-same (λ n. only_if (a.net n) (test n)) (λ n. only_if (b.net n) (test n)) (find_id (net_of p.mark) s.networks)
      (λ n is. ap (λ v. only_if v (test n)) (nets n (find-has (λ (n : Network). net_of p.mark == n.id) s.networks n is)))

  same-bound : (test : Network → Bool) → asks_bound a s p test ≡ asks_bound b s p test
  same-bound test = and-same (λ link. option_and_then (λ (n : Network). only_if (a.link n link) (test n)) (find_link link s.networks)) (λ link. option_and_then (λ (n : Network). only_if (b.link n link) (test n)) (find_link link s.networks)) p.outgoing
      (λ link out. and-same (λ (n : Network). only_if (a.link n link) (test n)) (λ (n : Network). only_if (b.link n link) (test n)) (find_link link s.networks)
      (λ n is. ap (λ v. only_if v (test n)) (bound n link (find-has (λ n. has_link n link) s.networks n is) (link-has n link (found-passes (λ n. has_link n link) s.networks n is)) out)))

  same-holders : (kind : Kind → Bool) → asks_holders a s p kind ≡ asks_holders b s p kind
  unfolding holders
  same-holders kind = given-has a.net b.net (holders kind s p.uid.number) (λ n h.
      let it : OfFlat (λ rank. filter (λ (n : Network). kind n.kind && holds_at p.uid.number rank n) s.networks) (numbers_from 0 100) n = of_flat (λ rank. filter (λ (n : Network). kind n.kind && holds_at p.uid.number rank n) s.networks) (numbers_from 0 100) n h in
      nets n (of_filter (λ (n : Network). kind n.kind && holds_at p.uid.number it.one n) s.networks n it.has))

  same-default : asks_default a s p ≡ asks_default b s p
  same-default = and-same (λ (n : Network). only_if (a.net n) (may_use p n.kind)) (λ (n : Network). only_if (b.net n) (may_use p n.kind)) (default_of s)
      (λ n is. ap (λ v. only_if v (may_use p n.kind)) (nets n (find-has (λ (n : Network). picks OfDefault s.default n) s.networks n is)))

  same-local : asks_local a s ≡ asks_local b s
  same-local = and-same a.net b.net (find_id local_id s.networks) (λ n is. nets n (find-has (λ (n : Network). local_id == n.id) s.networks n is))

  same-pairs : first_given (asks_pair a s p) s.pairs ≡ first_given (asks_pair b s p) s.pairs
  same-pairs = given-has (asks_pair a s p) (asks_pair b s p) s.pairs pairs

  pub same-policy : policy_by a s p ≡ policy_by b s p
  same-policy = rw (same-bound (may_reach p), same-bound (may_bind p), same-named (λ n. is_secure n.kind), same-named (λ n. is_free n.kind), same-named (λ n. is_bypass n.kind), same-named (may_choose p), same-holders is_secure, same-holders is_bypass, same-holders (is_usable p), same-default, same-local, same-pairs) refl
