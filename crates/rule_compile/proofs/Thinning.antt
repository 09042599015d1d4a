-- What goes with an interface, with a network, or with ranges: of the other state something is left, and nothing comes.
use Rattle.std.proofs.Common.{◌≡◌, ◌∙◌, ◌==◌, ◌&&◌, ℕ, Bool, true, false, not, Option, Some, None, List, [], ◌∷◌, refl, sym, ap, inl, inr, map, filter}
use Rattle.std.specs.Prelude.{if◌then◌else◌}
use Rattle.std.specs.Option.{option_map}
use Rattle.std.proofs.lemmas.Bool.{cases_Bool, false≢true, false_from_ne_true, eqb-true, eq-eqb}
use Rattle.networks.specs.Kinds.{class_of, ranges_of}
use Rattle.networks.specs.declared.kind.Kind.{Kind}
use Rattle.networks.specs.declared.kind.Kind.TheVariants as kind
use Rattle.networks.specs.declared.network.Network.{Network}
use Rattle.uid_ranges.specs.Ranges.{has}
use Rattle.uid_ranges.specs.declared.range.UidRange.{UidRange}
use Rattle.policy_state.specs.Rows.{default_among, default_of}
use Rattle.policy_state.specs.Step.{with_net, without_net, without_link, is_in, kind_without, without_ranges}
use Rattle.policy_state.specs.View.{StateView}
use Rattle.rule_compile.proofs.ChangeKinds.{Thins, default-mapped, no-default, left-whole, left-interfaces, default-stays, default-goes}
use Rattle.rule_compile.proofs.Changes.{Left, Nothing}
use Rattle.rule_compile.proofs.Picking.{IsLike, picks-alike}
use Rattle.rule_compile.proofs.Shrinking.{IsLeft, IsLeftDefault, left-same, left-filter}

pub all-stay : {A : Type 0} (xs : List A) → filter (λ (x : A). true) xs ≡ xs
all-stay [] = refl
all-stay (x ∷ xs) = ap (λ ys. x ∷ ys) (all-stay xs)

unchanged : {A : Type 0} (xs : List A) → map (λ (x : A). x) xs ≡ xs
unchanged [] = refl
unchanged (x ∷ xs) = ap (λ ys. x ∷ ys) (unchanged xs)

unchanged-option : {A : Type 0} (o : Option A) → option_map (λ (x : A). x) o ≡ o
unchanged-option None = refl
unchanged-option (Some x) = refl

-- a change of each network that leaves something of it, with the default network among them
mapped-left : (s t : StateView) (change : Network → Network) → ((n : Network) → IsLeft n (change n)) → t.networks ≡ map change s.networks → t.default ≡ s.default
    → IsLeftDefault s.default t.default (default_of s) (default_of t)
mapped-left s t change each networks default =
    default-stays s t change default
    (ap (λ ns. default_among ns t.default) networks
    ∙ (ap (λ d. default_among (map change s.networks) d) default ∙ default-mapped change (λ n. (each n).id) (λ n. (each n).kind) s.default s.networks)) each

-- the interface leaves its network
module _ (net link : ℕ) where
  abbrev pub unlinked : Network → Network
  unlinked n = if net == n.id then without_link link n else n

  -- and the tether pairs that go out by it go
  abbrev pub after_link : StateView → StateView
  after_link s = record (with_net net (without_link link) s) { pairs = filter (λ p. not (p.out == link)) s.pairs }

  unlinked-left : (n : Network) → IsLeft n (unlinked n)
  unlinked-left n = by (net == n.id)
    where
      by : (b : Bool) → IsLeft n (if b then without_link link n else n)
      by true = left-interfaces (λ i. not (i == link)) (filter (λ r. not (r.link == link)) n.routes) n
      by false = left-whole n

  pub link-thins : (s : StateView) → Thins s (after_link s) (λ n. true) unlinked
  link-thins s = record {
    networks = ap (map unlinked) (sym (all-stay s.networks));
    each = unlinked-left;
    default = mapped-left s (after_link s) unlinked unlinked-left refl refl;
    lockdown = left-same s.lockdown;
    pairs = left-filter (λ p. not (p.out == link)) s.pairs;
  }

-- a network goes
module _ (net : ℕ) where
  abbrev pub stays : Network → Bool
  stays n = not (net == n.id)

  default_left : Option ℕ → Option ℕ
  default_left d = elim d [ Some id ↦ if id == net then None else Some id | None ↦ None ]

  default-kept : (id : ℕ) → (id == net) ≡ false → (ns : List Network) → default_among (filter stays ns) (Some id) ≡ default_among ns (Some id)
  default-kept id apart [] = refl
  default-kept id apart (n ∷ ns) = elim (cases_Bool (net == n.id)) [
    | inl e ↦
        let other : (id == n.id) ≡ false = false_from_ne_true (id == n.id) (λ h.
        false≢true (sym apart ∙ eq-eqb id net (eqb-true id n.id h ∙ sym (eqb-true net n.id e)))) in
        rw (e, other, never (class_of n.kind == 1)) (default-kept id apart ns)
    | inr e ↦ rw e (by ((class_of n.kind == 1) && (id == n.id)) (default-kept id apart ns))
  ]
    where
      never : (b : Bool) → (b && false) ≡ false
      never true = refl
      never false = refl

      by : (b : Bool) → default_among (filter stays ns) (Some id) ≡ default_among ns (Some id) → (if b then Some n else default_among (filter stays ns) (Some id)) ≡ (if b then Some n else default_among ns (Some id))
      by true rest = refl
      by false rest = rest

  pub net-thins : (s : StateView) → Thins s (without_net net s) stays (λ n. n)
  net-thins s = record {
    networks = sym (unchanged (filter stays s.networks));
    each = left-whole;
    default = by s.default refl;
    lockdown = left-same s.lockdown;
    pairs = left-filter (λ p. not (is_in s net p.out)) s.pairs;
  }
    where
      t : StateView
      t = without_net net s

      left : List Network
      left = filter stays s.networks

      still : (d : Option ℕ) → s.default ≡ d → t.default ≡ d → default_among left d ≡ default_among s.networks d → IsLeftDefault s.default t.default (default_of s) (default_of t)
      still d was is same =
          default-stays s t (λ n. n) (is ∙ sym was)
          (ap (default_among left) is ∙ (same ∙ (ap (default_among s.networks) (sym was) ∙ sym (unchanged-option (default_of s))))) left-whole

      by : (d : Option ℕ) → s.default ≡ d → IsLeftDefault s.default t.default (default_of s) (default_of t)
      by None was = still None was (ap (λ (d : Option ℕ). elim d as (λ _. Option ℕ) [ Some id ↦ if id == net then None else Some id | None ↦ None ]) was) (no-default left ∙ sym (no-default s.networks))
      by (Some id) was =
          let is : t.default ≡ (if id == net then None else Some id) = ap (λ (d : Option ℕ). elim d as (λ _. Option ℕ) [ Some id ↦ if id == net then None else Some id | None ↦ None ]) was in
          elim (cases_Bool (id == net)) [
            | inl e ↦ let none : t.default ≡ None = is ∙ ap (λ b. if b then None else Some id) e in default-goes s t none (ap (default_among left) none ∙ no-default left)
            | inr e ↦ still (Some id) was (is ∙ ap (λ b. if b then None else Some id) e) (default-kept id e s.networks)
          ]

-- ranges leave a network
module _ (net : ℕ) (gone : List UidRange) where
  abbrev pub fewer : Network → Network
  fewer n = if net == n.id then without_ranges gone n else n

  without-like : (k : Kind) → IsLike (kind_without gone k) k
  without-like kind.Local = record { class = refl; permission = refl; free = refl; secure = refl; bypass = refl }
  without-like (kind.Physical permission apps) = record { class = refl; permission = refl; free = refl; secure = refl; bypass = refl }
  without-like (kind.Virtual secure users) = record { class = refl; permission = refl; free = refl; secure = refl; bypass = refl }

  without-ranges : (k : Kind) → Left (ranges_of k) (ranges_of (kind_without gone k))
  without-ranges kind.Local = Nothing
  without-ranges (kind.Physical permission apps) = left-filter (λ r. not (has gone r.users)) apps
  without-ranges (kind.Virtual secure users) = left-filter (λ r. not (has gone r.users)) users

  ranges-left : (n : Network) → IsLeft n (without_ranges gone n)
  ranges-left n = record {
    id = refl;
    kind = (without-like n.kind).class;
    picked = λ pick d. picks-alike pick d (without_ranges gone n) n refl (without-like n.kind);
    permission = (without-like n.kind).permission;
    interfaces = left-same n.interfaces;
    ranges = without-ranges n.kind;
  }

  fewer-left : (n : Network) → IsLeft n (fewer n)
  fewer-left n = by (net == n.id)
    where
      by : (b : Bool) → IsLeft n (if b then without_ranges gone n else n)
      by true = ranges-left n
      by false = left-whole n

  pub ranges-thin : (s : StateView) → Thins s (with_net net (without_ranges gone) s) (λ n. true) fewer
  ranges-thin s = record {
    networks = ap (map fewer) (sym (all-stay s.networks));
    each = fewer-left;
    default = mapped-left s (with_net net (without_ranges gone) s) fewer fewer-left refl refl;
    lockdown = left-same s.lockdown;
    pairs = left-same s.pairs;
  }
