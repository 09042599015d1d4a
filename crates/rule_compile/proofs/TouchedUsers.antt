-- Ranges come to a network or go, or its permission is another.
use Rattle.std.proofs.Common.{◌≡◌, ◌∙◌, ◌==◌, ℕ, Bool, true, false, not, Some, None, List, [], ◌∷◌, ◌++◌, refl, sym, ap, ap₂, subst, inl, inr, map, filter}
use Rattle.std.specs.Prelude.{◌&&◌, flat_map, if◌then◌else◌}
use Rattle.std.proofs.lemmas.Bool.{cases_Bool, false≢true, eqb-true}
use Rattle.fwmark.specs.Permission.{bits_of}
use Rattle.fwmark.specs.declared.permission.Permission.{Permission}
use Rattle.networks.specs.Kinds.{class_of, permission_of, ranges_of, is_physical}
use Rattle.networks.specs.Lists.{find_id}
use Rattle.networks.specs.declared.kind.Kind.{Kind}
use Rattle.networks.specs.declared.kind.Kind.TheVariants as kind
use Rattle.networks.specs.declared.network.Network.{Network}
use Rattle.policy_state.specs.Good.{IsWellFormed}
use Rattle.policy_state.specs.Rows.{items, split_item}
use Rattle.policy_state.specs.declared.row.Item.{Item}
use Rattle.policy_state.specs.declared.row.NetworkSet.{NetworkSet}
use Rattle.policy_state.specs.declared.row.NetworkPart.{NetworkPart}
use Rattle.policy_state.specs.declared.row.NetworkSet.TheVariants.{OfVirtual}
use Rattle.policy_state.specs.declared.row.NetworkPart.TheVariants.{Whole, EachInterface, EachRange, EachDefault}
use Rattle.policy_state.specs.declared.row.OnePer.TheVariants.{EachOf}
use Rattle.policy_state.specs.Step.{asking_for, with_net, with_permission, with_ranges, without_ranges, kind_with, kind_without}
use Rattle.uid_ranges.specs.declared.ranked.Ranked.{Ranked}
use Rattle.policy_state.specs.View.{StateView}
use Rattle.policy_state.proofs.Owners.{Has}
use Rattle.policy_state.proofs.RowTests.{is_split}
use Rattle.uid_ranges.specs.Ranges.{has}
use Rattle.uid_ranges.specs.Ranks.{all_at, ranked_without}
use Rattle.uid_ranges.specs.declared.range.UidRange.{UidRange}
use Rattle.rule_compile.specs.Touched.{Part, no_part, part_items, is_home, ranges_part, asking_part, asks_other, kind_having, with_ranges_alone}
use Rattle.rule_compile.proofs.Cutting.{Cut, all-stay, all-turn, cut-filter}
use Rattle.rule_compile.proofs.Permissions.{same_bits}
use Rattle.rule_compile.proofs.TouchedTables.{IsCut}
use Rattle.rule_compile.proofs.TouchedNetworks.{found-one, change_at, split_at, split-none, cut-behind}
use Rattle.rule_compile.proofs.TouchedItems.{own, own-ranges, having-like}
use Rattle.rule_compile.proofs.TouchedKinds.{net-cut, split-stays, split-turns, split-old, nothing-of, cut-none, same-cut}

-- Ranges.

kind-itself : (k : Kind) → k ≡ kind_having (ranges_of k) k
kind-itself kind.Local = refl
kind-itself (kind.Physical permission apps) = refl
kind-itself (kind.Virtual secure users) = refl

kind-more : (rank : ℕ) (more : List UidRange) (k : Kind) → kind_with rank more k ≡ kind_having (ranges_of k ++ all_at rank more) k
kind-more rank more kind.Local = refl
kind-more rank more (kind.Physical permission apps) = refl
kind-more rank more (kind.Virtual secure users) = refl

kind-less : (gone : List UidRange) (k : Kind) → kind_without gone k ≡ kind_having (ranked_without (ranges_of k) gone) k
kind-less gone kind.Local = refl
kind-less gone (kind.Physical permission apps) = refl
kind-less gone (kind.Virtual secure users) = refl

module _ (s : StateView) (formed : IsWellFormed s) (net : ℕ) (n : Network) (at : find_id net s.networks ≡ Some n) where
  itself : n ≡ with_ranges_alone (ranges_of n.kind) n
  itself = ap (λ k. record n { kind = k }) (kind-itself n.kind)

  -- split rules don't ask for ranges
  split-kept : (change : Network → Network) (ranges : List Ranked) → change n ≡ with_ranges_alone ranges n → items (EachOf OfVirtual EachDefault) (with_net net change s) ≡ items (EachOf OfVirtual EachDefault) s
  split-kept change ranges is = by (is_home s n) refl
    where
      id : (change n).id ≡ n.id
      id = ap (λ (m : Network). m.id) is

      class : class_of (change n).kind ≡ class_of n.kind
      class = ap (λ (m : Network). class_of m.kind) is ∙ (having-like ranges n.kind).class

      by : (b : Bool) → is_home s n ≡ b → items (EachOf OfVirtual EachDefault) (with_net net change s) ≡ items (EachOf OfVirtual EachDefault) s
      by false other = split-stays s formed net n at change id class other s.pairs
      by true home =
          split-turns s formed net n at change id class home s.pairs
          ∙ (ap (λ (m : Network). flat_map (split_at (Some m)) s.networks) is
          ∙ (ap (λ (needed : Permission). flat_map (λ m. if class_of m.kind == 2 then map (split_item m needed) n.interfaces else []) s.networks) (having-like ranges n.kind).permission
          ∙ sym (split-old s formed net n at change id class home)))

  part-split : (ranges : List Ranked) → part_items (EachOf OfVirtual EachDefault) (ranges_part s n ranges) ≡ []
  part-split ranges = split-none (with_ranges_alone ranges n ∷ [])

  pub ranges-come : (rank : ℕ) (more : List UidRange) → IsCut s (with_net net (with_ranges rank more) s) no_part (ranges_part s n (all_at rank more))
  ranges-come rank more = net-cut s formed net n at (with_ranges rank more) no_part (ranges_part s n (all_at rank more)) s.pairs (record {
    stay = λ pick spread. own pick spread s.default n;
    of_old = λ pick spread plain. cut-none (own pick spread s.default n) (part_items (EachOf pick spread) no_part) (own pick spread s.default n) (nothing-of s formed net n at (with_ranges rank more) pick spread plain) refl;
    of_new = λ pick spread plain.
        subst (λ (m : Network). Cut (own pick spread s.default n) (part_items (EachOf pick spread) (ranges_part s n (all_at rank more))) (own pick spread s.default m)) (sym is)
        (subst (λ (m : Network). Cut (own pick spread s.default m) (part_items (EachOf pick spread) (ranges_part s n (all_at rank more))) (own pick spread s.default (with_ranges_alone (ranges_of n.kind ++ all_at rank more) n))) (sym itself)
        (own-ranges s n (ranges_of n.kind) (all_at rank more) (ranges_of n.kind ++ all_at rank more) (cut-behind (ranges_of n.kind) (all_at rank more)) pick spread plain));
    split = items (EachOf OfVirtual EachDefault) s;
    split_old = all-stay (items (EachOf OfVirtual EachDefault) s);
    split_new = cut-none (items (EachOf OfVirtual EachDefault) s) (part_items (EachOf OfVirtual EachDefault) (ranges_part s n (all_at rank more))) (items (EachOf OfVirtual EachDefault) (with_net net (with_ranges rank more) s))
        (part-split (all_at rank more)) (sym (split-kept (with_ranges rank more) (ranges_of n.kind ++ all_at rank more) is));
    pairs_stay = s.pairs;
    pairs_old = all-stay s.pairs;
    pairs_new = all-stay s.pairs;
    no_lockdown = (refl, refl);
  })
    where
      is : with_ranges rank more n ≡ with_ranges_alone (ranges_of n.kind ++ all_at rank more) n
      is = ap (λ k. record n { kind = k }) (kind-more rank more n.kind)

  pub ranges-go : (gone : List UidRange) → IsCut s (with_net net (without_ranges gone) s) (ranges_part s n (filter (λ r. has gone r.users) (ranges_of n.kind))) no_part
  ranges-go gone = net-cut s formed net n at (without_ranges gone) (ranges_part s n going) no_part s.pairs (record {
    stay = λ pick spread. own pick spread s.default (without_ranges gone n);
    of_old = λ pick spread plain.
        subst (λ (m : Network). Cut (own pick spread s.default m) (part_items (EachOf pick spread) (ranges_part s n going)) (own pick spread s.default n)) (sym is)
        (subst (λ (m : Network). Cut (own pick spread s.default (with_ranges_alone (ranked_without (ranges_of n.kind) gone) n)) (part_items (EachOf pick spread) (ranges_part s n going)) (own pick spread s.default m)) (sym itself)
        (own-ranges s n (ranked_without (ranges_of n.kind) gone) going (ranges_of n.kind) (cut-filter (λ (r : Ranked). has gone r.users) (ranges_of n.kind)) pick spread plain));
    of_new = λ pick spread plain. cut-none (own pick spread s.default (without_ranges gone n)) (part_items (EachOf pick spread) no_part) (own pick spread s.default (without_ranges gone n))
        (nothing-of s formed net n at (without_ranges gone) pick spread plain) refl;
    split = items (EachOf OfVirtual EachDefault) s;
    split_old = cut-none (items (EachOf OfVirtual EachDefault) s) (part_items (EachOf OfVirtual EachDefault) (ranges_part s n going)) (items (EachOf OfVirtual EachDefault) s) (part-split going) refl;
    split_new = cut-none (items (EachOf OfVirtual EachDefault) s) [] (items (EachOf OfVirtual EachDefault) (with_net net (without_ranges gone) s)) refl (sym (split-kept (without_ranges gone) (ranked_without (ranges_of n.kind) gone) is));
    pairs_stay = s.pairs;
    pairs_old = all-stay s.pairs;
    pairs_new = all-stay s.pairs;
    no_lockdown = (refl, refl);
  })
    where
      going : List Ranked
      going = filter (λ r. has gone r.users) (ranges_of n.kind)

      is : without_ranges gone n ≡ with_ranges_alone (ranked_without (ranges_of n.kind) gone) n
      is = ap (λ k. record n { kind = k }) (kind-less gone n.kind)

-- A permission.

asking-itself : (k : Kind) → asking_for (permission_of k) k ≡ k
asking-itself kind.Local = refl
asking-itself (kind.Physical permission apps) = refl
asking-itself (kind.Virtual secure users) = refl

asking-class : (permission : Permission) (k : Kind) → class_of (asking_for permission k) ≡ class_of k
asking-class permission kind.Local = refl
asking-class permission (kind.Physical old apps) = refl
asking-class permission (kind.Virtual secure users) = refl

module _ (s : StateView) (formed : IsWellFormed s) (net : ℕ) (n : Network) (at : find_id net s.networks ≡ Some n) (permission : Permission) where
  asking-own : (asked : Permission) (pick : NetworkSet) (spread : NetworkPart) → is_split spread ≡ false → part_items (EachOf pick spread) (asking_part s n asked) ≡ own pick spread s.default (with_permission asked n)
  asking-own asked pick Whole plain = refl
  asking-own asked pick EachInterface plain = refl
  asking-own asked pick EachRange plain = refl
  asking-own asked pick EachDefault plain = absurd (false≢true (sym plain))

  asked-before : with_permission (permission_of n.kind) n ≡ n
  asked-before = ap (λ k. record n { kind = k }) (asking-itself n.kind)

  asking-split : (asked : Permission) (b : Bool) → is_home s n ≡ b
      → part_items (EachOf OfVirtual EachDefault) (asking_part s n asked) ≡ flat_map (split_at (if b then Some (with_permission asked n) else None)) s.networks
  asking-split asked b is = ap (λ (b : Bool). flat_map (split_at (if b then Some (with_permission asked n) else None)) s.networks) is

  abbrev now : StateView
  now = with_net net (with_permission permission) s

  pub permission-turns : IsCut s now (asking_part s n (permission_of n.kind)) (asking_part s n permission)
  permission-turns = by (is_home s n) refl
    where
      gone : Part
      gone = asking_part s n (permission_of n.kind)

      come : Part
      come = asking_part s n permission

      class : class_of (with_permission permission n).kind ≡ class_of n.kind
      class = asking-class permission n.kind

      turns : (split : List Item) → Cut split (part_items (EachOf OfVirtual EachDefault) gone) (items (EachOf OfVirtual EachDefault) s)
          → Cut split (part_items (EachOf OfVirtual EachDefault) come) (items (EachOf OfVirtual EachDefault) now) → IsCut s now gone come
      turns split old new = net-cut s formed net n at (with_permission permission) gone come s.pairs (record {
        stay = λ pick spread. [];
        of_old = λ pick spread plain.
            subst (λ xs. Cut [] xs (own pick spread s.default n)) (sym (asking-own (permission_of n.kind) pick spread plain ∙ ap (own pick spread s.default) asked-before)) (all-turn (own pick spread s.default n));
        of_new = λ pick spread plain.
            subst (λ xs. Cut [] xs (own pick spread s.default (with_permission permission n))) (sym (asking-own permission pick spread plain)) (all-turn (own pick spread s.default (with_permission permission n)));
        split = split;
        split_old = old;
        split_new = new;
        pairs_stay = s.pairs;
        pairs_old = all-stay s.pairs;
        pairs_new = all-stay s.pairs;
        no_lockdown = (refl, refl);
      })

      by : (b : Bool) → is_home s n ≡ b → IsCut s now gone come
      by false other =
          let split : List Item = items (EachOf OfVirtual EachDefault) s in
          turns split
          (cut-none split (part_items (EachOf OfVirtual EachDefault) gone) split (asking-split (permission_of n.kind) false other ∙ split-none s.networks) refl)
          (cut-none split (part_items (EachOf OfVirtual EachDefault) come) (items (EachOf OfVirtual EachDefault) now) (asking-split permission false other ∙ split-none s.networks)
          (sym (split-stays s formed net n at (with_permission permission) refl class other s.pairs)))
      by true home =
          let old : part_items (EachOf OfVirtual EachDefault) gone ≡ items (EachOf OfVirtual EachDefault) s =
          asking-split (permission_of n.kind) true home ∙ (ap (λ (m : Network). flat_map (split_at (Some m)) s.networks) asked-before ∙ sym (split-old s formed net n at (with_permission permission) refl class home)) in
          let new : part_items (EachOf OfVirtual EachDefault) come ≡ items (EachOf OfVirtual EachDefault) now =
          asking-split permission true home ∙ sym (split-turns s formed net n at (with_permission permission) refl class home s.pairs) in
          turns []
          (subst (λ xs. Cut [] xs (items (EachOf OfVirtual EachDefault) s)) (sym old) (all-turn (items (EachOf OfVirtual EachDefault) s)))
          (subst (λ xs. Cut [] xs (items (EachOf OfVirtual EachDefault) now)) (sym new) (all-turn (items (EachOf OfVirtual EachDefault) now)))

  same-kind : (k : Kind) → (is_physical k && not (bits_of (permission_of k) == bits_of permission)) ≡ false → asking_for permission k ≡ k
  same-kind kind.Local same = refl
  same-kind (kind.Physical old apps) same = elim (cases_Bool (bits_of old == bits_of permission)) [
    | inl e ↦ ap (λ (asked : Permission). kind.Physical asked apps) (sym (same_bits old permission (eqb-true (bits_of old) (bits_of permission) e)))
    | inr e ↦ absurd (false≢true (sym (rw e at same)))
  ]
  same-kind (kind.Virtual secure users) same = refl

  -- the same permission again changes nothing
  pub permission-stays : asks_other permission n ≡ false → IsCut s now no_part no_part
  permission-stays same = same-cut s now (ap (λ ns. record s { networks = ns }) (each s.networks (found-one s formed net n at).alone))
    where
      each : (ns : List Network) → ((m : Network) → Has ns m → (net == m.id) ≡ true → m ≡ n) → map (change_at net (with_permission permission)) ns ≡ ns
      each [] alone = refl
      each (m ∷ ms) alone = ap₂ (λ (k : Network) (ks : List Network). k ∷ ks) (at-net (net == m.id) refl) (each ms (λ k h. alone k (inr h)))
        where
          at-net : (b : Bool) → (net == m.id) ≡ b → (if b then with_permission permission m else m) ≡ m
          at-net true here = subst (λ (k : Network). with_permission permission k ≡ k) (sym (alone m (inl refl) here)) (ap (λ k. record n { kind = k }) (same-kind n.kind same))
          at-net false other = refl
