-- The physical network without a permission that an app prefers at a rank: the one that it prefers there, if that asks for none.
use Rattle.std.proofs.Common.{◌≡◌, ℕ, ◌==◌, ◌&&◌, ◌||◌, Bool, true, false, not, List, [], ◌∷◌, refl, sym, ◌∙◌, inl, inr}
use Rattle.std.specs.List.{list_any, list_all}
use Rattle.std.proofs.lemmas.Bool.{cases_Bool, and_parts, or_from, both_ways, eqb-true, eq-eqb, false≢true}
use Rattle.list_lemmas.proofs.Found.{find-none-any}
use Rattle.list_lemmas.specs.Pairwise.{pairwise}
use Rattle.mark_server.specs.Users.{free_at}
use Rattle.network_store.proofs.Holders.{kept_if}
use Rattle.network_store.specs.Holders.{holds_rank, preferred_at}
use Rattle.network_store.specs.RankIndex.{holds_at}
use Rattle.networks.specs.Kinds.{class_of, ranges_of, is_physical, is_free}
use Rattle.networks.specs.declared.kind.Kind.{Kind}
use Rattle.networks.specs.declared.kind.Kind.TheVariants as kind
use Rattle.networks.specs.declared.network.Network.{Network}
use Rattle.policy_state.specs.Good.{nets_differ, ranks_differ, differ}
use Rattle.uid_ranges.proofs.Shared.{meets_from_shared}
use Rattle.uid_ranges.specs.Range.{holds}
use Rattle.uid_ranges.specs.declared.ranked.Ranked.{Ranked}

free-physical : (k : Kind) → is_free k ≡ true → is_physical k ≡ true
free-physical kind.Local free = free
free-physical (kind.Physical needed apps) free = refl
free-physical (kind.Virtual secure users) free = free

same-class : (a b : Kind) → is_physical a ≡ true → is_physical b ≡ true → (class_of a == class_of b) ≡ true
same-class a b one other = eq-eqb (class_of a) (class_of b) (class-one a one ∙ sym (class-one b other))
  where
    class-one : (k : Kind) → is_physical k ≡ true → class_of k ≡ 1
    class-one kind.Local is = absurd (false≢true is)
    class-one (kind.Physical needed apps) is = refl
    class-one (kind.Virtual secure users) is = absurd (false≢true is)

module _ (rank uid : ℕ) where
  -- two ranges of one rank that hold one UID aren't apart
  clash : (r q : Ranked) → holds_at rank uid r ≡ true → holds_at rank uid q ≡ true → ranks_differ r q ≡ false
  clash r q one other =
      let a = and_parts (r.rank == rank) (holds r.users uid) one in
      let b = and_parts (q.rank == rank) (holds q.users uid) other in
      let ranks : (r.rank == q.rank) ≡ true = eq-eqb r.rank q.rank (eqb-true r.rank rank a.0 ∙ sym (eqb-true q.rank rank b.0)) in
      rw (ranks, meets_from_shared r.users q.users uid a.1 b.1) refl

  one-apart : (r : Ranked) (qs : List Ranked) → holds_at rank uid r ≡ true → list_all (ranks_differ r) qs ≡ true → holds_rank rank uid qs ≡ false
  one-apart r [] holds apart = refl
  one-apart r (q ∷ qs) holds apart =
      let parts = and_parts (ranks_differ r q) (list_all (ranks_differ r) qs) apart in
      elim (cases_Bool (holds_at rank uid q)) as (λ _. holds_rank rank uid (q ∷ qs) ≡ false) [
        | inl h ↦ absurd (both_ways (ranks_differ r q) (clash r q holds h) parts.0)
        | inr h ↦ rw h (one-apart r qs holds parts.1)
      ]

  lists-apart : (rs qs : List Ranked) → holds_rank rank uid rs ≡ true → list_all (λ r. list_all (ranks_differ r) qs) rs ≡ true → holds_rank rank uid qs ≡ false
  lists-apart [] qs any apart = absurd (false≢true any)
  lists-apart (r ∷ rs) qs any apart =
      let parts = and_parts (list_all (ranks_differ r) qs) (list_all (λ r. list_all (ranks_differ r) qs) rs) apart in
      elim (cases_Bool (holds_at rank uid r)) as (λ _. holds_rank rank uid qs ≡ false) [
        | inl h ↦ one-apart r qs h parts.0
        | inr h ↦ lists-apart rs qs (rw h at any) parts.1
      ]

  abbrev is_free_for : Network → Bool
  is_free_for n = is_free n.kind && holds_rank rank uid (ranges_of n.kind)

  -- beside a physical network that the app prefers at this rank, none is
  others : (m : Network) (ns : List Network) → is_physical m.kind ≡ true → holds_rank rank uid (ranges_of m.kind) ≡ true → list_all (nets_differ m) ns ≡ true → list_any is_free_for ns ≡ false
  others m [] physical holds apart = refl
  others m (n ∷ ns) physical holds apart =
      let parts = and_parts (nets_differ m n) (list_all (nets_differ m) ns) apart in
      or_from (is_free_for n) (list_any is_free_for ns) (here parts.0) (others m ns physical holds parts.1)
    where
      here : nets_differ m n ≡ true → is_free_for n ≡ false
      here apart = elim (cases_Bool (is_free n.kind)) as (λ _. is_free_for n ≡ false) [
        | inl e ↦
            let links = list_all (λ i. list_all (differ i) n.interfaces) m.interfaces in
            let ranges = list_all (λ r. list_all (ranks_differ r) (ranges_of n.kind)) (ranges_of m.kind) in
            let rest = and_parts (differ m.id n.id) (links && (not (class_of m.kind == class_of n.kind) || ranges)) apart in
            let last : (not (class_of m.kind == class_of n.kind) || ranges) ≡ true = (and_parts links _ rest.1).1 in
            let ranked : ranges ≡ true = rw (same-class m.kind n.kind physical (free-physical n.kind e)) at last in
            rw e (lists-apart (ranges_of m.kind) (ranges_of n.kind) holds ranked)
        | inr e ↦ rw e refl
      ]

  pub free-preferred : (ns : List Network) → pairwise nets_differ ns ≡ true → free_at rank uid ns ≡ kept_if (λ n. is_free n.kind) (preferred_at rank uid ns)
  free-preferred [] apart = refl
  free-preferred (n ∷ ns) apart =
      let parts = and_parts (list_all (nets_differ n) ns) (pairwise nets_differ ns) apart in
      let rest = free-preferred ns parts.1 in
      let H = holds_rank rank uid (ranges_of n.kind) in
      let Goal : Type 0 = free_at rank uid (n ∷ ns) ≡ kept_if (λ n. is_free n.kind) (preferred_at rank uid (n ∷ ns)) in
      elim (cases_Bool (is_free n.kind)) as (λ _. Goal) [
        | inl e ↦
            let p = free-physical n.kind e in
            elim (cases_Bool H) as (λ _. Goal) [ inl h ↦ rw (e, p, h, e) refl | inr h ↦ rw (e, p, h) rest ]
        | inr e ↦ elim (cases_Bool (is_physical n.kind)) as (λ _. Goal) [
          | inl p ↦ elim (cases_Bool H) as (λ _. Goal) [
            | inl h ↦ rw (e, p, h, e) (find-none-any is_free_for ns (others n ns p h parts.0))
            | inr h ↦ rw (e, p, h) rest
          ]
          | inr p ↦ rw (e, p) rest
        ]
      ]
