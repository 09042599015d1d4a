-- What there are rules for in the networks of a state, cut where one network changes.
use Rattle.std.proofs.Common.{◌≡◌, ◌∙◌, ◌==◌, ℕ, Bool, true, false, not, Option, Some, None, List, [], ◌∷◌, ◌++◌, refl, sym, ap, ap₂, subst, inl, inr, map, filter}
use Rattle.std.specs.Prelude.{◌&&◌, flat_map, if◌then◌else◌}
use Rattle.std.specs.Option.{option_map}
use Rattle.std.proofs.lemmas.Bool.{cases_Bool, false≢true, false_from_ne_true, and_parts, eqb-true}
use Rattle.fwmark.specs.declared.permission.Permission.{Permission}
use Rattle.networks.specs.Kinds.{class_of, permission_of}
use Rattle.networks.specs.Lists.{find_id}
use Rattle.networks.specs.declared.network.Network.{Network}
use Rattle.policy_state.specs.Good.{IsWellFormed}
use Rattle.policy_state.specs.Rows.{is_default, picks, default_among, default_of, items, items_at, links_of, needs_of, split_item}
use Rattle.policy_state.specs.declared.row.Item.{Item}
use Rattle.policy_state.specs.declared.row.NetworkSet.TheVariants.{OfDefault, OfVirtual}
use Rattle.policy_state.specs.declared.row.NetworkPart.TheVariants.{EachDefault}
use Rattle.policy_state.specs.View.{StateView}
use Rattle.policy_state.proofs.GoodStates.{same-ids}
use Rattle.policy_state.proofs.Members.{find-passes}
use Rattle.policy_state.proofs.Owners.{Has, Once, find-has, found}
use Rattle.policy_state.proofs.RowItems.{flat-map}
use Rattle.rule_compile.specs.Touched.{is_home}
use Rattle.rule_compile.proofs.Cutting.{Cut, Ends, Stays, Turns, all-stay, all-turn, cut-append, cut-map, cut-test, cut-each}

pub cut-before : {A : Type 0} (stay part whole : List A) → Cut stay part whole → (rest : List A) → Cut (stay ++ rest) part (whole ++ rest)
cut-before _ _ _ Ends rest = all-stay rest
cut-before _ _ _ (Stays x stay part whole h) rest = Stays x (stay ++ rest) part (whole ++ rest) (cut-before stay part whole h rest)
cut-before _ _ _ (Turns x stay part whole h) rest = Turns x (stay ++ rest) part (whole ++ rest) (cut-before stay part whole h rest)

-- what comes stands last
pub cut-behind : {A : Type 0} (xs more : List A) → Cut xs more (xs ++ more)
cut-behind [] more = all-turn more
cut-behind (x ∷ xs) more = Stays x xs more (xs ++ more) (cut-behind xs more)

pub flat-alike : {A B : Type 0} (f g : A → List B) (xs : List A) → ((x : A) → Has xs x → f x ≡ g x) → flat_map f xs ≡ flat_map g xs
flat-alike f g [] same = refl
flat-alike {B = B} f g (x ∷ xs) same = ap₂ (λ (ys zs : List B). ys ++ zs) (same x (inl refl)) (flat-alike f g xs (λ y h. same y (inr h)))

pub flat-none : {A B : Type 0} (f : A → List B) (xs : List A) → ((x : A) → Has xs x → f x ≡ []) → flat_map f xs ≡ []
flat-none f [] none = refl
flat-none f (x ∷ xs) none = ap (λ ys. ys ++ flat_map f xs) (none x (inl refl)) ∙ flat-none f xs (λ y h. none y (inr h))

-- one network of the list has the id
pub record IsOne (net : ℕ) (ns : List Network) (n : Network) : Type 0 where
  pub there : Has ns n
  pub is : (net == n.id) ≡ true
  pub alone : (m : Network) → Has ns m → (net == m.id) ≡ true → m ≡ n

pub found-one : (s : StateView) → IsWellFormed s → (net : ℕ) (n : Network) → find_id net s.networks ≡ Some n → IsOne net s.networks n
found-one s formed net n at =
    let there : Has s.networks n = find-has (λ (m : Network). net == m.id) s.networks n at in
    let is : (net == n.id) ≡ true = find-passes (λ (m : Network). net == m.id) s.networks n at in
    record {
      there = there;
      is = is;
      alone = λ m in_m same. same-ids s formed m n in_m there (sym (eqb-true net m.id same) ∙ eqb-true net n.id is);
    }

-- the list of items in which the network of this id has others
abbrev pub but : ℕ → (Network → List Item) → List Item → Network → List Item
but net items stay m = if net == m.id then stay else items m

abbrev pub change_at : ℕ → (Network → Network) → Network → Network
change_at net change m = if net == m.id then change m else m

module _ (net : ℕ) where
  pub but-others : (f : Network → List Item) (stay : List Item) (ns : List Network) → ((m : Network) → Has ns m → (net == m.id) ≡ false) → flat_map (but net f stay) ns ≡ flat_map f ns
  but-others f stay ns others = flat-alike (but net f stay) f ns (λ m h. rw (others m h) refl)

  -- the items of one network are cut, and all others stay
  pub one-cut : (f : Network → List Item) (stay part : List Item) (ns : List Network) (n : Network) → Once ns → IsOne net ns n → Cut stay part (f n) → Cut (flat_map (but net f stay) ns) part (flat_map f ns)
  one-cut f stay part [] n once one cut = absurd one.there
  one-cut f stay part (m ∷ ms) n once one cut = elim (cases_Bool (net == m.id)) as (λ _. Cut (flat_map (but net f stay) (m ∷ ms)) part (flat_map f (m ∷ ms))) [
    | inl here ↦
        let is : m ≡ n = one.alone m (inl refl) here in
        let others : (k : Network) → Has ms k → (net == k.id) ≡ false = λ k in_k.
        false_from_ne_true (net == k.id) (λ same. once.0 (subst (λ (j : Network). Has ms j) (one.alone k (inr in_k) same ∙ sym is) in_k)) in
        rw here (subst (λ xs. Cut (stay ++ xs) part (f m ++ flat_map f ms)) (sym (but-others f stay ms others))
        (cut-before stay part (f m) (subst (λ (j : Network). Cut stay part (f j)) (sym is) cut) (flat_map f ms)))
    | inr other ↦
        let rest : IsOne net ms n = record { there = behind one.there other; is = one.is; alone = λ k in_k same. one.alone k (inr in_k) same } in
        rw other (cut-append (f m) [] (f m) (flat_map (but net f stay) ms) part (flat_map f ms) (all-stay (f m)) (one-cut f stay part ms n once.1 rest cut))
  ]
    where
      behind : Has (m ∷ ms) n → (net == m.id) ≡ false → Has ms n
      behind (inl same) other = absurd (false≢true (sym other ∙ (ap (λ (k : Network). net == k.id) same ∙ one.is)))
      behind (inr h) other = h

  -- the same where that network is changed
  pub changed-cut : (f : Network → List Item) (change : Network → Network) (stay part : List Item) (ns : List Network) (n : Network) → Once ns → IsOne net ns n
      → Cut stay part (f (change n)) → Cut (flat_map (but net f stay) ns) part (flat_map f (map (change_at net change) ns))
  changed-cut f change stay part ns n once one cut =
      let g : Network → List Item = λ m. f (change_at net change m) in
      subst (λ xs. Cut xs part (flat_map f (map (change_at net change) ns))) (flat-alike (but net g stay) (but net f stay) ns (λ m h. by m (net == m.id)))
      (subst (λ xs. Cut (flat_map (but net g stay) ns) part xs) (sym (flat-map f (change_at net change) ns))
      (one-cut g stay part ns n once one (subst (λ (b : Bool). Cut stay part (f (if b then change n else n))) (sym one.is) cut)))
    where
      by : (m : Network) (b : Bool) → (if b then stay else f (if b then change m else m)) ≡ (if b then stay else f m)
      by m true = refl
      by m false = refl

  -- and where it goes
  pub gone-left : (f : Network → List Item) (ns : List Network) → flat_map f (filter (λ m. not (net == m.id)) ns) ≡ flat_map (but net f []) ns
  gone-left f [] = refl
  gone-left f (m ∷ ms) = by (net == m.id) (gone-left f ms)
    where
      by : (b : Bool) → flat_map f (filter (λ k. not (net == k.id)) ms) ≡ flat_map (but net f []) ms
          → flat_map f (if not b then m ∷ filter (λ k. not (net == k.id)) ms else filter (λ k. not (net == k.id)) ms) ≡ (if b then [] else f m) ++ flat_map (but net f []) ms
      by true rest = rest
      by false rest = ap (λ xs. f m ++ xs) rest

-- The default network.

module _ (d : Option ℕ) where
  pub default-changed : (change : Network → Network) (ns : List Network) → ((m : Network) → Has ns m → picks OfDefault d (change m) ≡ picks OfDefault d m)
      → default_among (map change ns) d ≡ option_map change (default_among ns d)
  default-changed change [] same = refl
  default-changed change (m ∷ ms) same = rw (same m (inl refl)) (by (picks OfDefault d m) (default-changed change ms (λ k h. same k (inr h))))
    where
      by : (b : Bool) → default_among (map change ms) d ≡ option_map change (default_among ms d)
          → (if b then Some (change m) else default_among (map change ms) d) ≡ option_map change (if b then Some m else default_among ms d)
      by true rest = refl
      by false rest = rest

default-id : (d : Option ℕ) (m n : ℕ) → is_default d m ≡ true → is_default d n ≡ true → m ≡ n
default-id None m n g h = absurd (false≢true g)
default-id (Some d) m n g h = sym (eqb-true d m g) ∙ eqb-true d n h

module _ (s : StateView) (formed : IsWellFormed s) where
  -- a network that is the default is found as that
  pub home-found : (d : Option ℕ) (n : Network) → Has s.networks n → picks OfDefault d n ≡ true → default_among s.networks d ≡ Some n
  home-found d n there home = found (λ (m : Network). picks OfDefault d m) s.networks n there home (λ m in_m also.
      same-ids s formed m n in_m there (default-id d m.id n.id (and_parts (class_of m.kind == 1) (is_default d m.id) also).1 (and_parts (class_of n.kind == 1) (is_default d n.id) home).1))

  module _ (net : ℕ) (n : Network) (one : IsOne net s.networks n) (change : Network → Network)
      (id : (change n).id ≡ n.id) (class : class_of (change n).kind ≡ class_of n.kind) where
    picked-alike : (m : Network) → Has s.networks m → picks OfDefault s.default (change_at net change m) ≡ picks OfDefault s.default m
    picked-alike m there = elim (cases_Bool (net == m.id)) as (λ _. picks OfDefault s.default (change_at net change m) ≡ picks OfDefault s.default m) [
      | inl here ↦
          let is : m ≡ n = one.alone m there here in
          rw here (subst (λ (k : Network). picks OfDefault s.default (change k) ≡ picks OfDefault s.default k) (sym is)
          (ap₂ (λ (c i : ℕ). (c == 1) && is_default s.default i) class id))
      | inr other ↦ rw other refl
    ]

    -- the default network stays where another one is changed
    pub home-stays : is_home s n ≡ false → default_among (map (change_at net change) s.networks) s.default ≡ default_of s
    home-stays other = default-changed s.default (change_at net change) s.networks picked-alike ∙ by (default_of s) refl
      where
        by : (home : Option Network) → default_of s ≡ home → option_map (change_at net change) home ≡ home
        by None is = refl
        by (Some m) is =
            let there : Has s.networks m = find-has (λ (k : Network). picks OfDefault s.default k) s.networks m is in
            let home : is_home s m ≡ true = find-passes (λ (k : Network). picks OfDefault s.default k) s.networks m is in
            let differs : (net == m.id) ≡ false = false_from_ne_true (net == m.id) (λ same.
            false≢true (sym other ∙ (ap (λ (k : Network). is_home s k) (sym (one.alone m there same)) ∙ home))) in
            ap (λ (b : Bool). Some (if b then change m else m)) differs

    -- and is the changed one where that is changed
    pub home-changed : is_home s n ≡ true → default_among (map (change_at net change) s.networks) s.default ≡ Some (change n)
    home-changed home =
        default-changed s.default (change_at net change) s.networks picked-alike
        ∙ (ap (option_map (change_at net change)) (home-found s.default n one.there home) ∙ ap (λ (b : Bool). Some (if b then change n else n)) one.is)

-- Split rules: those of VPNs for the default network's interfaces.

abbrev pub split_at : Option Network → Network → List Item
split_at home m = items_at OfVirtual EachDefault None home m

-- they are made from the networks' ids and classes
pub split-changed : (home : Option Network) (net : ℕ) (change : Network → Network) (ns : List Network) (n : Network) → IsOne net ns n → (change n).id ≡ n.id → class_of (change n).kind ≡ class_of n.kind
    → flat_map (split_at home) (map (change_at net change) ns) ≡ flat_map (split_at home) ns
split-changed home net change ns n one id class =
    flat-map (split_at home) (change_at net change) ns ∙ flat-alike (λ m. split_at home (change_at net change m)) (split_at home) ns at
  where
    at : (m : Network) → Has ns m → split_at home (change_at net change m) ≡ split_at home m
    at m there = elim (cases_Bool (net == m.id)) as (λ _. split_at home (change_at net change m) ≡ split_at home m) [
      | inl here ↦
          let is : m ≡ n = one.alone m there here in
          rw here (subst (λ (k : Network). split_at home (change k) ≡ split_at home k) (sym is)
          (ap₂ (λ (c i : ℕ). if c == 2 then map (λ link. record (split_item n (needs_of home) link) { net = i }) (links_of home) else []) class id))
      | inr other ↦ rw other refl
    ]

pub split-none : (ns : List Network) → flat_map (split_at None) ns ≡ []
split-none ns = flat-none (split_at None) ns (λ m h. by (class_of m.kind == 2))
  where
    by : (b : Bool) → ◌≡◌ {A = List Item} (if b then [] else []) []
    by true = refl
    by false = refl

-- an interface of the default network comes or goes
pub split-links : (needs : Permission) (stay part whole : List ℕ) → Cut stay part whole → (small one big : Network)
    → small.interfaces ≡ stay → one.interfaces ≡ part → big.interfaces ≡ whole → permission_of small.kind ≡ needs → permission_of one.kind ≡ needs → permission_of big.kind ≡ needs
    → (ns : List Network) → Cut (flat_map (split_at (Some small)) ns) (flat_map (split_at (Some one)) ns) (flat_map (split_at (Some big)) ns)
split-links needs stay part whole cut small one big has_stay has_part has_whole a b c ns =
    cut-each (split_at (Some small)) (split_at (Some one)) (split_at (Some big)) ns (λ m h.
    cut-test (class_of m.kind == 2) (map (split_item m (permission_of small.kind)) small.interfaces) (map (split_item m (permission_of one.kind)) one.interfaces) (map (split_item m (permission_of big.kind)) big.interfaces)
    (rw (has_stay, has_part, has_whole, a, b, c) (cut-map (split_item m needs) stay part whole cut)))
