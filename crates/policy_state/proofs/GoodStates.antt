-- What the tests of a good state say of what stands in its lists.
use Rattle.std.proofs.Common.{◌≡◌, ◌∙◌, ◌==◌, ◌≤◌, ◌<◌, ℕ, Bool, true, false, Option, Some, None, List, [], ◌∷◌, refl, sym, ap, subst, inl, inr, arith}
use Rattle.std.specs.Prelude.{◌⊎◌, ◌&&◌, not, nat_le}
use Rattle.std.specs.List.{list_all, AllByRecursion}
use Rattle.std.proofs.lemmas.Bool.{both_ways, false≢true, and_parts, and_from, or_parts, eqb-true, eq-eqb, leb-true, le-leb}
use Rattle.prefixes.specs.Route.{link_of}
use Rattle.uid_ranges.specs.Range.{holds, meets}
use Rattle.uid_ranges.specs.declared.range.UidRange.{UidRange}
use Rattle.uid_ranges.proofs.Shared.{meets_from_shared}
use Rattle.policy_state.specs.View.{Ranked, LinkRoute, Network, TetherPair, StateView}
use Rattle.policy_state.specs.Rows.{OfDefault, picks, ranges_of, links_of, default_of}
use Rattle.policy_state.proofs.Differing.{Differ, differ-parts, differ-turned}
use Rattle.policy_state.proofs.Owners.{Has, Once, IsOwned, AreOnce, HasLinks, IsWhole, IsOutput, HasDistinctNets, owners_of, owns, Passing, of_any, find-has, link-has}
use Rattle.policy_state.specs.Good.{is_local_network, differ, are_disjoint, nets_differ, pairs_differ, is_by_link, is_pair, is_index, is_output, LeadsOut, IsNetwork, StartsLocal, IsWellFormed}
use Rattle.uid_ranges.specs.Ranks.{are_apart}
use Rattle.uid_ranges.specs.Ranges.{meets_any, self_meets, AreDisjoint}
use Rattle.networks.specs.Network.{has_link}
use Rattle.list_lemmas.specs.Pairwise.{pairwise}
use Rattle.policy_state.proofs.AlikeRules.{all-has}

both-sides : (b : Bool) → not b ≡ true → b ≡ true → ⊥
both-sides true h e = false≢true h
both-sides false h e = false≢true e

-- two members of a list pass the test, in one order or the other, or are the same
pairs-tell : {A : Type 0} (t : A → A → Bool) (xs : List A) (x y : A) → pairwise t xs ≡ true → Has xs x → Has xs y → (x ≡ y) ⊎ ((t x y ≡ true) ⊎ (t y x ≡ true))
pairs-tell t [] x y h in_x in_y = absurd in_x
pairs-tell {A = A} t (z ∷ zs) x y h in_x in_y =
    let both = and_parts (list_all (t z) zs) (pairwise t zs) h in
    by in_x in_y both.0 (pairs-tell t zs x y both.1)
  where
    by : Has (z ∷ zs) x → Has (z ∷ zs) y → list_all (t z) zs ≡ true → (Has zs x → Has zs y → (x ≡ y) ⊎ ((t x y ≡ true) ⊎ (t y x ≡ true))) → (x ≡ y) ⊎ ((t x y ≡ true) ⊎ (t y x ≡ true))
    by (inl e) (inl f) all rest = inl (sym e ∙ f)
    by (inl e) (inr g) all rest = inr (inl (subst (λ (w : A). t w y ≡ true) e (all-has (t z) zs y all g)))
    by (inr g) (inl f) all rest = inr (inr (subst (λ (w : A). t w x ≡ true) f (all-has (t z) zs x all g)))
    by (inr g) (inr k) all rest = rest g k

-- what fails the test with itself stands once
once-of : {A : Type 0} (t : A → A → Bool) (xs : List A) → ((x : A) → t x x ≡ true → ⊥) → pairwise t xs ≡ true → Once xs
once-of t [] never h = tt
once-of t (x ∷ xs) never h =
    let both = and_parts (list_all (t x) xs) (pairwise t xs) h in
    ((λ there. never x (all-has (t x) xs x both.0 there)), once-of t xs never both.1)

never-differs : (n : ℕ) → differ n n ≡ true → ⊥
never-differs n h = both-sides (n == n) h (eq-eqb n n refl)

meets-self : (r : UidRange) → meets r r ≡ true
meets-self r = and_from _ _ (le-leb r.first.number r.last.number r.ordered) (le-leb r.first.number r.last.number r.ordered)

-- what holds of each member of a list
pub each-has : {A : Type 0} (P : A → Type 0) (xs : List A) (x : A) → AllByRecursion P xs → Has xs x → P x
each-has P [] x all there = absurd there
each-has P (y ∷ ys) x all (inl e) = subst P e all.0
each-has P (y ∷ ys) x all (inr h) = each-has P ys x all.1 h

-- what a network itself has
record IsOneNetwork (n : Network) : Type 0 where
  above : 1 ≤ n.id
  fits : n.id < 65536
  once : Once n.interfaces
  links : (link : ℕ) → Has n.interfaces link → 2 ≤ link
  ranks : (r : Ranked) → Has (ranges_of n.kind) r → r.rank ≤ 99
  disjoint : pairwise are_apart (ranges_of n.kind) ≡ true
  routes : (r : LinkRoute) → Has n.routes r → Has n.interfaces r.link

net-is : (n : Network) → IsNetwork n → IsOneNetwork n
net-is n h =
    let ranges = and_parts (list_all (λ (r : Ranked). nat_le r.rank 99) (ranges_of n.kind)) (pairwise are_apart (ranges_of n.kind)) h.ranked in
    record {
      above = h.id_above;
      fits = h.id_fits;
      once = once-of differ n.interfaces never-differs h.interfaces_differ;
      links = λ link there. leb-true 2 link (all-has (nat_le 2) n.interfaces link h.interfaces_above there);
      ranks = λ r there. leb-true r.rank 99 (all-has (λ (r : Ranked). nat_le r.rank 99) (ranges_of n.kind) r ranges.0 there);
      disjoint = ranges.1;
      routes = λ r there. link-has n r.link (each-has (λ r. (has_link n r.link ≡ true) × LeadsOut r) n.routes r h.routes_belong there).0;
    }

-- ranges that are disjoint, by each two
pub pairwise-disjoint : (rs : List UidRange) → AreDisjoint rs → pairwise are_disjoint rs ≡ true
pairwise-disjoint [] h = refl
pairwise-disjoint (r ∷ rs) h =
    let parts = or_parts (meets_any r rs) (self_meets rs) h in
    and_from (list_all (are_disjoint r) rs) (pairwise are_disjoint rs) (each r rs parts.0) (pairwise-disjoint rs parts.1)
  where
    each : (r : UidRange) (qs : List UidRange) → meets_any r qs ≡ false → list_all (are_disjoint r) qs ≡ true
    each r [] h = refl
    each r (q ∷ qs) h = let parts = or_parts (meets r q) (meets_any r qs) h in and_from (not (meets r q)) (list_all (are_disjoint r) qs) (ap not parts.0) (each r qs parts.1)

module _ (s : StateView) (good : IsWellFormed s) where
  net : (n : Network) → Has s.networks n → IsOneNetwork n
  net n there = net-is n (each-has IsNetwork s.networks n good.networks.each there)

  -- networks that share something that tells them are the same
  same-net : (m n : Network) → Has s.networks m → Has s.networks n → (Differ m n → ⊥) → m ≡ n
  same-net m n in_m in_n shared = elim (pairs-tell nets_differ s.networks m n good.networks.differ in_m in_n) [
    | inl e ↦ e
    | inr f ↦ elim f [ inl g ↦ absurd (shared (differ-parts m n g)) | inr g ↦ absurd (shared (differ-turned n m (differ-parts n m g))) ]
  ]

  ranges-tell : (n : Network) (r q : Ranked) (uid : ℕ) → Has s.networks n → Has (ranges_of n.kind) r → Has (ranges_of n.kind) q → holds r.users uid ≡ true → holds q.users uid ≡ true → r ≡ q
  ranges-tell n r q uid there in_r in_q one other = elim (pairs-tell are_apart (ranges_of n.kind) r q (net n there).disjoint in_r in_q) [
    | inl e ↦ e
    | inr f ↦ elim f [
      | inl g ↦ absurd (both-sides (meets r.users q.users) g (meets_from_shared r.users q.users uid one other))
      | inr g ↦ absurd (both-sides (meets q.users r.users) g (meets_from_shared q.users r.users uid other one))
    ]
  ]

  distinct : HasDistinctNets s
  distinct = record {
    fits = λ n there. (net n there).fits;
    ids = λ m n in_m in_n e. same-net m n in_m in_n (λ d. both_ways (m.id == n.id) d.ids (eq-eqb m.id n.id e));
    links = λ m n link in_m in_n has_m has_n. same-net m n in_m in_n (λ d. d.links link has_m has_n);
    users = λ m n r q uid in_m in_n in_r in_q kinds ranks one other. same-net m n in_m in_n (λ d.
        both-sides ((r.rank == q.rank) && meets r.users q.users) (d.ranks kinds r q in_r in_q) (and_from _ _ (eq-eqb r.rank q.rank ranks) (meets_from_shared r.users q.users uid one other)));
    ranks = λ n r there in_r. (net n there).ranks r in_r;
    disjoint = ranges-tell;
  }

  pub is-good : IsOwned (owners_of s) s
  is-good = record {
    owns = owns s distinct;
    one_id = distinct.ids;
    lockdown = λ r q uid in_r in_q one other. elim (pairs-tell are_disjoint s.lockdown r q (pairwise-disjoint s.lockdown good.lockdown_disjoint) in_r in_q) [
      | inl e ↦ e
      | inr f ↦ elim f [
        | inl g ↦ absurd (both-sides (meets r q) g (meets_from_shared r q uid one other))
        | inr g ↦ absurd (both-sides (meets q r) g (meets_from_shared q r uid other one))
      ]
    ];
  }

  pub are-once : AreOnce s
  are-once = record {
    networks = once-of nets_differ s.networks (λ n h. both_ways (n.id == n.id) (differ-parts n n h).ids (eq-eqb n.id n.id refl)) good.networks.differ;
    interfaces = λ n there. (net n there).once;
    ranges = λ n there. once-of are_apart (ranges_of n.kind) (λ r h. both-sides (meets r.users r.users) h (meets-self r.users)) (net n there).disjoint;
    default = by (default_of s) refl;
    lockdown = once-of are_disjoint s.lockdown (λ r h. both-sides (meets r r) h (meets-self r)) (pairwise-disjoint s.lockdown good.lockdown_disjoint);
    pairs = once-of pairs_differ s.pairs (λ a h. both-sides ((a.input == a.input) && (a.out == a.out)) h (and_from _ _ (eq-eqb a.input a.input refl) (eq-eqb a.out a.out refl))) good.pairs.differ;
  }
    where
      by : (home : Option Network) → default_of s ≡ home → Once (links_of (default_of s))
      by None is = rw is tt
      by (Some n) is = rw is (net n (find-has (λ (n : Network). picks OfDefault s.default n) s.networks n is)).once

  output : (pair : TetherPair) → Has s.pairs pair → (2 ≤ pair.input) × IsOutput s pair.out
  output pair there =
      let both = and_parts (nat_le 2 pair.input) (is_index s.links pair.input && (differ pair.input pair.out && is_output s.networks pair.out)) (all-has (is_pair s.links s.networks) s.pairs pair good.pairs.each there) in
      let two = and_parts (is_index s.links pair.input) (differ pair.input pair.out && is_output s.networks pair.out) both.1 in
      let three = and_parts (differ pair.input pair.out) (is_output s.networks pair.out) two.1 in
      let it : Passing (λ n. has_link n pair.out && not (is_local_network n)) s.networks = of_any (λ n. has_link n pair.out && not (is_local_network n)) s.networks three.1 in
      let parts = and_parts (has_link it.one pair.out) (not (is_local_network it.one)) it.passes in
      (leb-true 2 pair.input both.0, record { net = it.one; there = it.there; has = link-has it.one pair.out parts.0; not_local = away (is_local_network it.one) parts.1 })
    where
      away : (b : Bool) → not b ≡ true → b ≡ false
      away true h = absurd (false≢true h)
      away false h = refl

  pub has-links : HasLinks s
  has-links = record {
    ids = λ n there. (net n there).above;
    interfaces = λ n link there has. (net n there).links link has;
    pairs = λ pair there.
        let out : IsOutput s pair.out = (output pair there).1 in
        let low : 2 ≤ pair.out = (net out.net out.there).links pair.out out.has in
        ((output pair there).0, omega (arith, low));
  }

  pub is-whole : IsWhole s
  is-whole =
      let start : StartsLocal s.networks = good.networks.local_first in
      record {
        local = start.local;
        others = start.others;
        first = start.first;
        local_is = start.is_local;
        not_local = λ m there. away (is_local_network m) (and_parts (not (is_local_network m)) (nat_le 100 m.id) (all-has (λ m. not (is_local_network m) && nat_le 100 m.id) start.others m start.others_created there)).0;
        routes = λ m r there in_r. (net m there).routes r in_r;
        local_routes = λ r there. by_link r (all-has is_by_link start.local.routes r start.by_link there);
        outputs = λ pair there. (output pair there).1;
      }
    where
      away : (b : Bool) → not b ≡ true → b ≡ false
      away true h = absurd (false≢true h)
      away false h = refl

      by_link : (r : LinkRoute) → is_by_link r ≡ true → link_of r.route.out ≡ Some r.link
      by_link r h = of (link_of r.route.out) h
        where
          of : (o : Option ℕ) → (elim o [ Some link ↦ link == r.link | None ↦ false ]) ≡ true → o ≡ Some r.link
          of None g = absurd (false≢true g)
          of (Some link) g = ap Some (eqb-true link r.link g)

-- networks of one id are the same
pub same-ids : (s : StateView) → IsWellFormed s → (m n : Network) → Has s.networks m → Has s.networks n → m.id ≡ n.id → m ≡ n
same-ids s formed = (distinct s formed).ids
