-- Whom a network holds, at some rank or at all.
use Rattle.std.proofs.Common.{◌≡◌, ℕ, ◌<◌, ◌≤◌, ◌==◌, ◌&&◌, ◌||◌, Bool, true, false, List, [], ◌∷◌, find, nat_le, nat_lt, Option, Some, None, is_some, refl, sym, ap, ◌∙◌, arith, inl, inr}
use Rattle.std.specs.List.{list_any, list_all, AllByRecursion}
use Rattle.std.specs.Option.{option_map}
use Rattle.std.proofs.lemmas.Bool.{cases_Bool, and_parts, or_parts, or_from, ltb-true, ltb-false, false≢true}
use Rattle.std.proofs.lemmas.Bool.Decides.{nat_tests}
use Rattle.std.proofs.lemmas.Option.{none-some}
use Rattle.list_lemmas.proofs.Alls.{all-weaker}
use Rattle.list_lemmas.proofs.Found.{find-none-any, some-any}
use Rattle.list_lemmas.proofs.Numbers.{eqb-refl}
use Rattle.mark_server.proofs.Ranks.{found-lowest, some-lowest, no-lowest}
use Rattle.mark_server.specs.Users.{vpn_of, holder, is_held}
use Rattle.network_store.specs.Holders.{holds_rank, user_at, holder_at, IsVpnOf}
use Rattle.network_store.specs.RankIndex.{holds_at}
use Rattle.networks.specs.Kinds.{ranges_of, is_virtual, is_secure}
use Rattle.networks.specs.declared.network.Network.{Network}
use Rattle.policy_state.specs.Good.{AreNetworks, IsNetwork}
use Rattle.policy_state.specs.View.{StateView}
use Rattle.uid_ranges.specs.Range.{holds}
use Rattle.uid_ranges.specs.Ranks.{holds_user, are_apart}
use Rattle.list_lemmas.specs.Pairwise.{pairwise}
use Rattle.uid_ranges.specs.declared.ranked.Ranked.{Ranked}
use Rattle.uid_ranges.specs.declared.range.Uid.{Uid}

-- the ranks of a network's ranges are low

abbrev pub are_low : List Ranked → Bool
are_low rs = list_all (λ r. nat_le r.rank 99) rs

abbrev pub AreLow : List Network → Type 0
AreLow ns = AllByRecursion (λ n. are_low (ranges_of n.kind) ≡ true) ns

pub low-networks : (ns : List Network) → AreNetworks ns → AreLow ns
low-networks ns good = all-weaker IsNetwork (λ n. are_low (ranges_of n.kind) ≡ true) (λ n one. (and_parts (are_low (ranges_of n.kind)) (pairwise are_apart (ranges_of n.kind)) one.ranked).0) ns good.each

or-second : (a b : Bool) → b ≡ true → (a || b) ≡ true
or-second true b t = refl
or-second false b t = t

module _ (uid : ℕ) where
  -- past the last rank no range holds anyone
  none-past : (rank : ℕ) (rs : List Ranked) → 100 ≤ rank → are_low rs ≡ true → holds_rank rank uid rs ≡ false
  none-past rank [] past low = refl
  none-past rank (r ∷ rs) past low =
      let parts = and_parts (nat_le r.rank 99) (are_low rs) low in
      rw (one r parts.0) (none-past rank rs past parts.1)
    where
      one : (r : Ranked) → nat_le r.rank 99 ≡ true → holds_at rank uid r ≡ false
      one r h = grind (arith, nat_tests)

  -- a user that is held at no rank isn't held
  none-held : (rs : List Ranked) → are_low rs ≡ true → ((rank : ℕ) → rank < 100 → holds_rank rank uid rs ≡ false) → holds_user rs uid ≡ false
  none-held [] low none = refl
  none-held (r ∷ rs) low none =
      let parts = and_parts (nat_le r.rank 99) (are_low rs) low in
      let here : holds_at r.rank uid r ≡ false = (or_parts (holds_at r.rank uid r) (holds_rank r.rank uid rs) (none r.rank (grind (arith, nat_tests, parts.0)))).0 in
      or_from (holds r.users uid) (holds_user rs uid) (rw (eqb-refl r.rank) at here) (none-held rs parts.1 (λ rank below. (or_parts (holds_at rank uid r) (holds_rank rank uid rs) (none rank below)).1))

  -- and one that is held at a rank is held
  some-held : (rank : ℕ) (rs : List Ranked) → holds_rank rank uid rs ≡ true → holds_user rs uid ≡ true
  some-held rank [] any = absurd (false≢true any)
  some-held rank (r ∷ rs) any = elim (cases_Bool (holds r.users uid)) as (λ _. holds_user (r ∷ rs) uid ≡ true) [
    | inl h ↦ rw h refl
    | inr h ↦ rw h (some-held rank rs (rest (r.rank == rank) h any))
  ]
    where
      rest : (b : Bool) → holds r.users uid ≡ false → ((b && holds r.users uid) || holds_rank rank uid rs) ≡ true → holds_rank rank uid rs ≡ true
      rest true free any = rw free at any
      rest false free any = any

  module _ (test : Network → Bool) where
    past-any : (rank : ℕ) (ns : List Network) → 100 ≤ rank → AreLow ns → list_any (λ n. test n && holds_rank rank uid (ranges_of n.kind)) ns ≡ false
    past-any rank [] past low = refl
    past-any rank (n ∷ ns) past low = or_from (test n && holds_rank rank uid (ranges_of n.kind)) _ (one (test n)) (past-any rank ns past low.1)
      where
        one : (b : Bool) → (b && holds_rank rank uid (ranges_of n.kind)) ≡ false
        one true = none-past rank (ranges_of n.kind) past low.0
        one false = refl

    -- held at some rank, or held
    pub any-held : (rank : ℕ) (ns : List Network) → list_any (λ n. test n && holds_rank rank uid (ranges_of n.kind)) ns ≡ true → list_any (λ n. test n && holds_user (ranges_of n.kind) uid) ns ≡ true
    any-held rank [] any = absurd (false≢true any)
    any-held rank (n ∷ ns) any = by (test n) any (any-held rank ns)
      where
        by : (b : Bool) → ((b && holds_rank rank uid (ranges_of n.kind)) || list_any (λ m. test m && holds_rank rank uid (ranges_of m.kind)) ns) ≡ true
            → (list_any (λ m. test m && holds_rank rank uid (ranges_of m.kind)) ns ≡ true → list_any (λ m. test m && holds_user (ranges_of m.kind) uid) ns ≡ true)
            → ((b && holds_user (ranges_of n.kind) uid) || list_any (λ m. test m && holds_user (ranges_of m.kind) uid) ns) ≡ true
        by true any rest = elim (cases_Bool (holds_rank rank uid (ranges_of n.kind))) as (λ _. (holds_user (ranges_of n.kind) uid || list_any (λ m. test m && holds_user (ranges_of m.kind) uid) ns) ≡ true) [
          | inl h ↦ rw (some-held rank (ranges_of n.kind) h) refl
          | inr h ↦ or-second (holds_user (ranges_of n.kind) uid) _ (rest (rw h at any))
        ]
        by false any rest = rest any

    pub none-any : (ns : List Network) → AreLow ns → ((rank : ℕ) → rank < 100 → list_any (λ n. test n && holds_rank rank uid (ranges_of n.kind)) ns ≡ false)
        → list_any (λ n. test n && holds_user (ranges_of n.kind) uid) ns ≡ false
    none-any [] low none = refl
    none-any (n ∷ ns) low none = or_from (test n && holds_user (ranges_of n.kind) uid) _ (one (test n) (λ rank below. (both rank below).0)) (none-any ns low.1 (λ rank below. (both rank below).1))
      where
        both : (rank : ℕ) → rank < 100 → ((test n && holds_rank rank uid (ranges_of n.kind)) ≡ false) × (list_any (λ m. test m && holds_rank rank uid (ranges_of m.kind)) ns ≡ false)
        both rank below = or_parts (test n && holds_rank rank uid (ranges_of n.kind)) _ (none rank below)

        one : (b : Bool) → ((rank : ℕ) → rank < 100 → (b && holds_rank rank uid (ranges_of n.kind)) ≡ false) → (b && holds_user (ranges_of n.kind) uid) ≡ false
        one true none = none-held (ranges_of n.kind) low.0 none
        one false none = refl

found-any : (p : Network → Bool) (ns : List Network) (n : Network) → find p ns ≡ Some n → list_any p ns ≡ true
found-any p ns n is = sym (some-any p (λ m. m) ns) ∙ ap (λ o. is_some (option_map (λ m. m) o)) is

unfound-any : (p : Network → Bool) (ns : List Network) → find p ns ≡ None → list_any p ns ≡ false
unfound-any p ns is = sym (some-any p (λ m. m) ns) ∙ ap (λ o. is_some (option_map (λ m. m) o)) is

-- the VPN that the networks tell is the one at the lowest rank
pub vpn-is : (s : StateView) (uid : Uid) (n : Network) → AreLow s.networks → IsVpnOf uid.number s.networks n → vpn_of s uid ≡ Some n
vpn-is s uid n low it = elim (cases_Bool (nat_lt it.rank 100)) as (λ _. vpn_of s uid ≡ Some n) [
  | inl below ↦ found-lowest (λ rank. user_at rank uid.number s.networks) it.rank n (ltb-true it.rank 100 below) it.lowest it.at
  | inr past ↦ absurd (none-some n (sym (find-none-any (λ m. is_virtual m.kind && holds_rank it.rank uid.number (ranges_of m.kind)) s.networks (past-any uid.number (λ m. is_virtual m.kind) it.rank s.networks (ltb-false it.rank 100 past) low)) ∙ it.at))
]

-- a secure VPN is found at some rank where one holds the user
pub held-is : (s : StateView) (uid : Uid) → AreLow s.networks → is_some (holder true s uid) ≡ is_held s uid
held-is s uid low = by (holder true s uid) refl
  where
    by : (o : Option Network) → holder true s uid ≡ o → is_some o ≡ is_held s uid
    by (Some n) is =
        let it = some-lowest (λ rank. holder_at true rank uid.number s.networks) n is in
        sym (any-held uid.number (λ m. is_secure m.kind) it.0 s.networks (found-any (λ m. is_secure m.kind && holds_rank it.0 uid.number (ranges_of m.kind)) s.networks n it.1))
    by None is =
        sym (none-any uid.number (λ m. is_secure m.kind) s.networks low (λ rank below. unfound-any (λ m. is_secure m.kind && holds_rank rank uid.number (ranges_of m.kind)) s.networks (no-lowest (λ r. holder_at true r uid.number s.networks) is rank below)))
