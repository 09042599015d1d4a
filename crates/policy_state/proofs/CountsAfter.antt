-- How many rules a state has after a change.
use Rattle.std.proofs.Common.{◌≡◌, ◌∙◌, ◌≤◌, ◌+◌, ◌*◌, ◌==◌, ℕ, Bool, true, false, cond, not, List, [], ◌∷◌, ◌++◌, Option, Some, None, length, map, refl, sym, ap, ap₂, subst, inl, inr, add-zero, arith}
use Rattle.std.specs.Prelude.{◌&&◌, ◌||◌, find, is_some, if◌then◌else◌}
use Rattle.std.specs.List.{list_any}
use Rattle.std.specs.Option.{option_map, option_or}
use Rattle.std.proofs.lemmas.Bool.{cases_Bool, false≢true, and_parts, and_from, eqb-true}
use Rattle.std.proofs.lemmas.List.{length-append, length-map, map-append}
use Rattle.std.proofs.lemmas.List.Sums.{sum_by_push, count_by-le-length}
use Rattle.std.proofs.lemmas.List.Folds.{find-append}
use Rattle.std.proofs.lemmas.Nat.{mul-le}
use Rattle.std.proofs.lemmas.Option.{none-some}
use Rattle.list_lemmas.proofs.Anys.{any-map, length-filter-le}
use Rattle.list_lemmas.proofs.Numbers.{eqb-turned, unlike-sym}
use Rattle.list_lemmas.proofs.Found.{some-any}
use Rattle.networks.proofs.Distinct.{are_distinct-push}
use Rattle.networks.specs.Kinds.{class_of, ranges_of, is_physical, is_virtual}
use Rattle.networks.specs.Lists.{AreKeyed, are_distinct, find_id}
use Rattle.networks.specs.Network.{has_link}
use Rattle.fwmark.specs.declared.permission.Permission.{Permission}
use Rattle.uid_ranges.specs.Ranks.{all_at, ranked_without}
use Rattle.uid_ranges.specs.Ranges.{has}
use Rattle.uid_ranges.specs.declared.range.UidRange.{UidRange}
use Rattle.policy_state.specs.Counts.{rule_count}
use Rattle.policy_state.specs.Good.{IsWellFormed, is_default_there}
use Rattle.policy_state.specs.Rows.{is_default, links_of, default_among, default_of}
use Rattle.policy_state.specs.Step.{with_net, with_new_net, with_link, with_ranges, with_permission, asking_for, kind_with, without_link, without_ranges, kind_without}
use Rattle.policy_state.specs.Tallies.{alone, per_link, per_link_asking, per_range, own, own_rules, virtuals, default_links, rules_in_all, tallied, tallies_of}
use Rattle.policy_state.specs.declared.count.Tallies.{Tallies}
use Rattle.policy_state.specs.View.{Kind, Local, Physical, Virtual, Ranked, Network, TetherPair, StateView}
use Rattle.policy_state.proofs.Members.{find-none, find-passes}
use Rattle.policy_state.proofs.GoodStates.{same-ids}
use Rattle.policy_state.proofs.NetworkChanges.{with_change, ids-distinct, default-none}
use Rattle.policy_state.proofs.NetworkSteps.{kind_with-class}
use Rattle.policy_state.proofs.NetworkParts.{id-found, physical-class, virtual-class}
use Rattle.policy_state.proofs.Owners.{Has, Passing, find-has, of_any, any-from}
use Rattle.policy_state.proofs.Tables.{count-is}
use Rattle.policy_state.proofs.Tallied.{count-tallied}
use Rattle.policy_state.proofs.TallyChanges.{share-changed, share-at, keyed-changed}

pub rules-tallied : (s : StateView) → AreKeyed s.networks → rule_count s ≡ tallied s
rules-tallied s keyed = count-is s ∙ count-tallied s keyed

-- the rules of a network after a change

with_link-new : (n : Network) (link : ℕ) → has_link n link ≡ false → with_link link n ≡ record n { interfaces = n.interfaces ++ link ∷ [] }
with_link-new n link absent = rw absent refl

pub asking-physical : (permission : Permission) (k : Kind) → is_physical k ≡ true → per_link (asking_for permission k) ≡ per_link_asking permission
asking-physical permission Local h = absurd (false≢true h)
asking-physical permission (Physical old apps) h = refl
asking-physical permission (Virtual secure users) h = absurd (false≢true h)

pub asking-other : (permission : Permission) (k : Kind) → is_physical k ≡ false → asking_for permission k ≡ k
asking-other permission Local h = refl
asking-other permission (Physical old apps) h = absurd (false≢true (sym h))
asking-other permission (Virtual secure users) h = refl

asking-class : (permission : Permission) (k : Kind) → class_of (asking_for permission k) ≡ class_of k
asking-class permission Local = refl
asking-class permission (Physical old apps) = refl
asking-class permission (Virtual secure users) = refl

own-link : (n : Network) (link : ℕ) → has_link n link ≡ false → own (with_link link n) ≡ own n + (per_link n.kind + per_range n.kind * length (ranges_of n.kind))
own-link n link absent =
    ap own come ∙ (ap (λ i. alone n.kind + per_link n.kind * i + per_range n.kind * (i * length (ranges_of n.kind))) (length-append n.interfaces (link ∷ []))
    ∙ more (alone n.kind) (per_link n.kind) (per_range n.kind) (length n.interfaces) (length (ranges_of n.kind)))
  where
    come : with_link link n ≡ record n { interfaces = n.interfaces ++ link ∷ [] }
    come = with_link-new n link absent

    more : (a b c i r : ℕ) → a + b * (i + 1) + c * ((i + 1) * r) ≡ a + b * i + c * (i * r) + (b + c * r)
    more a b c i r = grind arith

own-ranges : (n : Network) (rank : ℕ) (more : List UidRange) → own (with_ranges rank more n) ≡ own n + per_range n.kind * (length n.interfaces * length more)
own-ranges n rank more = by n.kind
  where
    net : Kind → Network
    net k = record n { kind = k }

    long : (rs : List Ranked) → length (rs ++ all_at rank more) ≡ length rs + length more
    long rs = length-append rs (all_at rank more) ∙ ap (λ m. length rs + m) (length-map more (λ users. record { users = users; rank = rank }))

    sum : (a b i r m : ℕ) → a + b * (i * (r + m)) ≡ a + b * (i * r) + b * (i * m)
    sum a b i r m = grind arith

    by : (k : Kind) → own (record n { kind = kind_with rank more k }) ≡ own (record n { kind = k }) + per_range k * (length n.interfaces * length more)
    by Local = omega arith
    by (Physical permission apps) =
        ap (λ r. 0 + per_link (Physical permission apps) * length n.interfaces + 1 * (length n.interfaces * r)) (long apps)
        ∙ sum (0 + per_link (Physical permission apps) * length n.interfaces) 1 (length n.interfaces) (length apps) (length more)
    by (Virtual secure users) =
        ap (λ r. 0 + 3 * length n.interfaces + 3 * (length n.interfaces * r)) (long users)
        ∙ sum (0 + 3 * length n.interfaces) 3 (length n.interfaces) (length users) (length more)

own-permission : (n : Network) (permission : Permission) → own (with_permission permission n) + per_link n.kind * length n.interfaces ≡ own n + per_link (asking_for permission n.kind) * length n.interfaces
own-permission n permission = by n.kind
  where
    turn : (a b c : ℕ) → 0 + a + c + b ≡ 0 + b + c + a
    turn a b c = omega arith

    by : (k : Kind) → own (record n { kind = asking_for permission k }) + per_link k * length n.interfaces ≡ own (record n { kind = k }) + per_link (asking_for permission k) * length n.interfaces
    by Local = refl
    by (Physical old apps) = turn (per_link (Physical permission apps) * length n.interfaces) (per_link (Physical old apps) * length n.interfaces) (1 * (length n.interfaces * length apps))
    by (Virtual secure users) = refl

own-fewer : (a b c i j r q : ℕ) → i ≤ j → r ≤ q → a + b * i + c * (i * r) ≤ a + b * j + c * (j * q)
own-fewer a b c i j r q few fewer = omega (arith, mul-le b i b j (omega arith) few, mul-le c (i * r) c (j * q) (omega arith) (mul-le i r j q few fewer))

pub own-without_link : (n : Network) (link : ℕ) → own (without_link link n) ≤ own n
own-without_link n link = own-fewer (alone n.kind) (per_link n.kind) (per_range n.kind) (length (without_link link n).interfaces) (length n.interfaces) (length (ranges_of n.kind)) (length (ranges_of n.kind))
    (length-filter-le (λ i. not (i == link)) n.interfaces) (omega arith)

pub own-without_ranges : (n : Network) (gone : List UidRange) → own (without_ranges gone n) ≤ own n
own-without_ranges n gone = by n.kind
  where
    fewer : (rs : List Ranked) → length (ranked_without rs gone) ≤ length rs
    fewer rs = length-filter-le (λ (r : Ranked). not (has gone r.users)) rs

    by : (k : Kind) → own (record n { kind = kind_without gone k }) ≤ own (record n { kind = k })
    by Local = omega arith
    by (Physical permission apps) = own-fewer 0 (per_link (Physical permission apps)) 1 (length n.interfaces) (length n.interfaces) (length (ranked_without apps gone)) (length apps) (omega arith) (fewer apps)
    by (Virtual secure users) = own-fewer 0 3 3 (length n.interfaces) (length n.interfaces) (length (ranked_without users gone)) (length users) (omega arith) (fewer users)

-- the interfaces of the default network

find-map : {A : Type 0} (t : A → Bool) (f : A → A) (xs : List A) → ((x : A) → t (f x) ≡ t x) → find t (map f xs) ≡ option_map f (find t xs)
find-map t f [] same = refl
find-map t f (x ∷ xs) same = elim (cases_Bool (t x)) as (λ _. find t (map f (x ∷ xs)) ≡ option_map f (find t (x ∷ xs))) [
  | inl e ↦ rw (same x, e) refl
  | inr e ↦ rw (same x, e) (find-map t f xs same)
]

module _ (net : ℕ) (change : Network → Network) where
  abbrev turn : Network → Network
  turn n = if net == n.id then change n else n

  by_turn : (P : Network → Network → Type 0) (n : Network) → P (change n) n → P n n → P (turn n) n
  by_turn P n new old = elim (cases_Bool (net == n.id)) as (λ _. P (turn n) n) [ inl e ↦ rw e new | inr e ↦ rw e old ]

  -- a change that keeps id and kind keeps which network is the default one
  pub default-turned : (ns : List Network) (default : Option ℕ) → ((n : Network) → (change n).id ≡ n.id) → ((n : Network) → class_of (change n).kind ≡ class_of n.kind)
      → default_among (with_change net change ns) default ≡ option_map turn (default_among ns default)
  default-turned ns default same_id same_class =
      find-map (λ (n : Network). (class_of n.kind == 1) && is_default default n.id) turn ns
      (λ n. ap₂ (λ (c i : ℕ). (c == 1) && is_default default i) (by_turn (λ m o. class_of m.kind ≡ class_of o.kind) n (same_class n) refl) (by_turn (λ m o. m.id ≡ o.id) n (same_id n) refl))

  module _ (s : StateView) (same_id : (n : Network) → (change n).id ≡ n.id) (same_class : (n : Network) → class_of (change n).kind ≡ class_of n.kind) where
    links-turned : default_links (with_net net change s) ≡ length (links_of (option_map turn (default_of s)))
    links-turned = ap (λ o. length (links_of o)) (default-turned s.networks s.default same_id same_class)

    -- as many, where the change keeps the interfaces
    pub links-kept : ((n : Network) → (change n).interfaces ≡ n.interfaces) → default_links (with_net net change s) ≡ default_links s
    links-kept same = links-turned ∙ by (default_of s)
      where
        by : (o : Option Network) → length (links_of (option_map turn o)) ≡ length (links_of o)
        by None = refl
        by (Some n) = ap length (by_turn (λ m o. m.interfaces ≡ o.interfaces) n (same n) refl)

    pub links-fewer : ((n : Network) → length (change n).interfaces ≤ length n.interfaces) → default_links (with_net net change s) ≤ default_links s
    links-fewer fewer = subst (λ m. m ≤ default_links s) (sym links-turned) (by (default_of s))
      where
        by : (o : Option Network) → length (links_of (option_map turn o)) ≤ length (links_of o)
        by None = omega arith
        by (Some n) = by_turn (λ m o. length m.interfaces ≤ length o.interfaces) n (fewer n) (omega arith)

    -- where the network is the default one, those that it has now
    pub links-at : (n : Network) → IsWellFormed s → find_id net s.networks ≡ Some n
        → default_links (with_net net change s) ≡ (if is_default s.default net && is_physical n.kind then length (change n).interfaces else default_links s)
    links-at n formed found = links-turned ∙ by (default_of s) refl
      where
        test : Network → Bool
        test m = (class_of m.kind == 1) && is_default s.default m.id

        here : Has s.networks n
        here = find-has (λ (m : Network). net == m.id) s.networks n found

        id : net ≡ n.id
        id = id-found net s.networks n found

        by : (o : Option Network) → default_of s ≡ o → length (links_of (option_map turn o)) ≡ (if is_default s.default net && is_physical n.kind then length (change n).interfaces else default_links s)
        by None none =
            let fails : test n ≡ false = find-none test s.networks n none here in
            let other : (is_default s.default net && is_physical n.kind) ≡ false = turned-and (is_physical n.kind) (is_default s.default net) (ap₂ (λ (a b : Bool). a && b) (sym (physical-class n.kind)) (ap (is_default s.default) id) ∙ fails) in
            sym (rw other (ap (λ o. length (links_of o)) none))
          where
            turned-and : (a b : Bool) → (a && b) ≡ false → (b && a) ≡ false
            turned-and true true h = h
            turned-and true false h = refl
            turned-and false true h = refl
            turned-and false false h = refl
        by (Some m) some =
            let passes = and_parts (class_of m.kind == 1) (is_default s.default m.id) (find-passes test s.networks m some) in
            elim (cases_Bool (net == m.id)) [
              | inl e ↦
                  let same : m ≡ n = same-ids s formed m n (find-has test s.networks m some) here (sym (eqb-true net m.id e) ∙ id) in
                  let it : (is_default s.default net && is_physical n.kind) ≡ true =
                  and_from _ _ (ap (is_default s.default) (eqb-true net m.id e) ∙ passes.1) (ap (λ (k : Network). is_physical k.kind) (sym same) ∙ (sym (physical-class m.kind) ∙ passes.0)) in
                  sym (rw it (sym (ap (λ k. length k.interfaces) (turned-here m e) ∙ ap (λ k. length (change k).interfaces) same)))
              | inr e ↦
                  let other : is_default s.default net ≡ false = apart s.default m passes.1 e in
                  ap (λ k. length k.interfaces) (turned-other m e) ∙ sym (rw other (ap (λ o. length (links_of o)) some))
            ]
          where
            turned-here : (m : Network) → (net == m.id) ≡ true → turn m ≡ change m
            turned-here m e = rw e refl

            turned-other : (m : Network) → (net == m.id) ≡ false → turn m ≡ m
            turned-other m e = rw e refl

            apart : (o : Option ℕ) (m : Network) → is_default o m.id ≡ true → (net == m.id) ≡ false → is_default o net ≡ false
            apart None m is e = refl
            apart (Some d) m is e = ap (λ i. i == net) (eqb-true d m.id is) ∙ unlike-sym net m.id e

find-before : {A : Type 0} (p : A → Bool) (xs ys : List A) → list_any p xs ≡ true → find p (xs ++ ys) ≡ find p xs
find-before {A = A} p xs ys there = find-append p xs ys ∙ by (find p xs) refl
  where
    by : (o : Option A) → find p xs ≡ o → option_or (find p xs) (find p ys) ≡ find p xs
    by (Some x) is = ap (λ (o : Option A). option_or o (find p ys)) is ∙ sym is
    by None is = absurd (false≢true (sym (ap (λ (o : Option A). is_some (option_map (λ x. x) o)) is) ∙ (some-any p (λ x. x) xs ∙ there)))

-- sums

module _ (s : StateView) (formed : IsWellFormed s) where
  keyed : AreKeyed s.networks
  keyed = ids-distinct s formed

  pub rules-now : rule_count s ≡ tallied s
  rules-now = rules-tallied s keyed

  pub virtuals-few : virtuals s.networks ≤ 1000
  virtuals-few = omega (arith, count_by-le-length (λ (n : Network). is_virtual n.kind) s.networks, formed.networks.few)

  pub own-few : rule_count s ≤ 40000 → own_rules s.networks ≤ 40000
  own-few few =
      let now : rule_count s ≡ own_rules s.networks + (virtuals s.networks + 1) * default_links s + length s.lockdown + length s.pairs + 2 = rules-now in
      omega (arith, now, few)

  -- the sum of what is kept and found
  pub rules-from : (t : Tallies) (links ranges pairs : ℕ) → t ≡ tallies_of s.networks → links ≡ default_links s → ranges ≡ length s.lockdown → pairs ≡ length s.pairs
      → rules_in_all t.own t.virtuals links ranges pairs ≡ rule_count s
  rules-from t links ranges pairs tallies l r p =
      ap (λ (u : Tallies). rules_in_all u.own u.virtuals links ranges pairs) tallies
      ∙ (ap₂ (λ (m n : ℕ). rules_in_all (own_rules s.networks) (virtuals s.networks) m n pairs) l r
      ∙ (ap (λ m. rules_in_all (own_rules s.networks) (virtuals s.networks) (default_links s) (length s.lockdown) m) p ∙ sym rules-now))

  module _ (net : ℕ) (n : Network) (found : find_id net s.networks ≡ Some n) (change : Network → Network) (same_id : (m : Network) → (change m).id ≡ m.id) (same_class : (m : Network) → class_of (change m).kind ≡ class_of m.kind) where
    abbrev t : StateView
    t = with_net net change s

    rules-then : rule_count t ≡ tallied t
    rules-then = rules-tallied t (keyed-changed own net change same_id s.networks keyed)

    -- the other networks have what they had
    own-then : own_rules t.networks + own n ≡ own_rules s.networks + own (change n)
    own-then =
        let moved = share-changed own net change same_id s.networks keyed in
        let old = share-at own net s.networks (Some n) found in
        let new = share-at (λ m. own (change m)) net s.networks (Some n) found in
        omega (arith, moved, old, new)

    class-virtual : (k j : Kind) → class_of k ≡ class_of j → is_virtual k ≡ is_virtual j
    class-virtual k j same = sym (virtual-class k) ∙ (ap (λ c. c == 2) same ∙ virtual-class j)

    virtuals-then : virtuals t.networks ≡ virtuals s.networks
    virtuals-then =
        let one : Network → ℕ = λ (m : Network). cond (is_virtual m.kind) 1 0 in
        let moved = share-changed one net change same_id s.networks keyed in
        let old = share-at one net s.networks (Some n) found in
        let new = share-at (λ m. one (change m)) net s.networks (Some n) found in
        let same : one (change n) ≡ one n = ap (λ b. cond b 1 0) (class-virtual (change n).kind n.kind (same_class n)) in
        omega (arith, moved, old, new, same)

    then-is : rule_count t ≡ rules_in_all (own_rules t.networks) (virtuals s.networks) (default_links t) (length s.lockdown) (length s.pairs)
    then-is = rules-then ∙ ap (λ v. rules_in_all (own_rules t.networks) v (default_links t) (length s.lockdown) (length s.pairs)) virtuals-then

    -- so many come and so many go where the default network keeps its interfaces
    rules-moved : (fewer more : ℕ) → own (change n) + fewer ≡ own n + more → default_links t ≡ default_links s → rule_count t + fewer ≡ rule_count s + more
    rules-moved fewer more moves links =
        ap (λ m. m + fewer) (then-is ∙ ap (λ l. rules_in_all (own_rules t.networks) (virtuals s.networks) l (length s.lockdown) (length s.pairs)) links)
        ∙ (move (own_rules t.networks) (own n) (own_rules s.networks) (own (change n)) ((virtuals s.networks + 1) * default_links s) own-then moves ∙ ap (λ m. m + more) (sym rules-now))
      where
        move : (x o y c d : ℕ) → x + o ≡ y + c → c + fewer ≡ o + more → x + d + length s.lockdown + length s.pairs + 2 + fewer ≡ y + d + length s.lockdown + length s.pairs + 2 + more
        move x o y c d h k = omega arith

  idle : (net : ℕ) (ns : List Network) → with_change net (λ m. m) ns ≡ ns
  idle net [] = refl
  idle net (m ∷ ms) = elim (cases_Bool (net == m.id)) as (λ _. with_change net (λ k. k) (m ∷ ms) ≡ m ∷ ms) [
    | inl e ↦ rw e (ap (λ rest. m ∷ rest) (idle net ms))
    | inr e ↦ rw e (ap (λ rest. m ∷ rest) (idle net ms))
  ]

  -- no network has the id
  pub absent : (net : ℕ) (change : Network → Network) → find_id net s.networks ≡ None → with_net net change s ≡ s
  absent net change none = ap (λ ns. record s { networks = ns }) (by s.networks none)
    where
      by : (ns : List Network) → find_id net ns ≡ None → with_change net change ns ≡ ns
      by [] h = refl
      by (n ∷ ns) h = elim (cases_Bool (net == n.id)) as (λ _. with_change net change (n ∷ ns) ≡ n ∷ ns) [
        | inl e ↦ absurd (none-some n (sym (rw e at h)))
        | inr e ↦ rw e (ap (λ rest. n ∷ rest) (by ns (rw e at h)))
      ]

  module _ (net : ℕ) (n : Network) (found : find_id net s.networks ≡ Some n) where
    pub here : Has s.networks n
    here = find-has (λ (m : Network). net == m.id) s.networks n found

    default-here : (is_default s.default net && is_physical n.kind) ≡ true → default_links s ≡ length n.interfaces
    default-here e =
        sym (ap (λ ns. length (links_of (default_among ns s.default))) (idle net s.networks))
        ∙ (links-at net (λ m. m) s (λ m. refl) (λ m. refl) n formed found ∙ ap (λ b. if b then length n.interfaces else default_links s) e)

    pub rules-with_ranges : (rank : ℕ) (more : List UidRange) → rule_count (with_net net (with_ranges rank more) s) ≡ rule_count s + per_range n.kind * (length n.interfaces * length more)
    rules-with_ranges rank more =
        let same_class = λ (m : Network). kind_with-class rank more m.kind in
        let moved = rules-moved net n found (with_ranges rank more) (λ m. refl) same_class 0 (per_range n.kind * (length n.interfaces * length more)) (add-zero (own (with_ranges rank more n)) ∙ own-ranges n rank more)
        (links-kept net (with_ranges rank more) s (λ m. refl) same_class (λ m. refl)) in
        sym (add-zero (rule_count (with_net net (with_ranges rank more) s))) ∙ moved

    pub rules-asking : (permission : Permission) → rule_count (with_net net (with_permission permission) s) + per_link n.kind * length n.interfaces ≡ rule_count s + per_link (asking_for permission n.kind) * length n.interfaces
    rules-asking permission =
        let same_class = λ (m : Network). asking-class permission m.kind in
        rules-moved net n found (with_permission permission) (λ m. refl) same_class (per_link n.kind * length n.interfaces) (per_link (asking_for permission n.kind) * length n.interfaces) (own-permission n permission)
        (links-kept net (with_permission permission) s (λ m. refl) same_class (λ m. refl))

    -- where the network is the default one, the interface has a rule as one of its, and one for each VPN
    pub rules-with_link : (link : ℕ) → has_link n link ≡ false
        → rule_count (with_net net (with_link link) s) ≡ rule_count s + (per_link n.kind + per_range n.kind * length (ranges_of n.kind)) + (if is_default s.default net && is_physical n.kind then virtuals s.networks + 1 else 0)
    rules-with_link link absent = then-is net n found (with_link link) link-id link-class ∙ (by (is_default s.default net && is_physical n.kind) refl ∙ ap (λ m. m + (per_link n.kind + per_range n.kind * length (ranges_of n.kind)) + (if is_default s.default net && is_physical n.kind then virtuals s.networks + 1 else 0)) (sym rules-now))
      where
        link-id : (m : Network) → (with_link link m).id ≡ m.id
        link-id m = elim (cases_Bool (has_link m link)) as (λ _. (with_link link m).id ≡ m.id) [ inl h ↦ rw h refl | inr h ↦ rw h refl ]

        link-class : (m : Network) → class_of (with_link link m).kind ≡ class_of m.kind
        link-class m = elim (cases_Bool (has_link m link)) as (λ _. class_of (with_link link m).kind ≡ class_of m.kind) [ inl h ↦ rw h refl | inr h ↦ rw h refl ]

        more : length (with_link link n).interfaces ≡ length n.interfaces + 1
        more = ap (λ (m : Network). length m.interfaces) (with_link-new n link absent) ∙ length-append n.interfaces (link ∷ [])

        owns : own_rules (with_net net (with_link link) s).networks ≡ own_rules s.networks + (per_link n.kind + per_range n.kind * length (ranges_of n.kind))
        owns = omega (arith, own-then net n found (with_link link) link-id link-class, own-link n link absent)

        links : (b : Bool) → (is_default s.default net && is_physical n.kind) ≡ b → default_links (with_net net (with_link link) s) ≡ default_links s + (if b then 1 else 0)
        links true e =
            links-at net (with_link link) s link-id link-class n formed found
            ∙ (ap (λ b. if b then length (with_link link n).interfaces else default_links s) e
            ∙ (more ∙ ap (λ m. m + 1) (sym (default-here e))))
        links false e = links-at net (with_link link) s link-id link-class n formed found ∙ (ap (λ b. if b then length (with_link link n).interfaces else default_links s) e ∙ sym (add-zero (default_links s)))

        by : (b : Bool) → (is_default s.default net && is_physical n.kind) ≡ b
            → rules_in_all (own_rules (with_net net (with_link link) s).networks) (virtuals s.networks) (default_links (with_net net (with_link link) s)) (length s.lockdown) (length s.pairs)
            ≡ tallied s + (per_link n.kind + per_range n.kind * length (ranges_of n.kind)) + (if is_default s.default net && is_physical n.kind then virtuals s.networks + 1 else 0)
        by b e =
            ap₂ (λ (o l : ℕ). rules_in_all o (virtuals s.networks) l (length s.lockdown) (length s.pairs)) owns (links b e)
            ∙ (sums b (own_rules s.networks) (per_link n.kind + per_range n.kind * length (ranges_of n.kind)) (virtuals s.networks) (default_links s) (length s.lockdown) (length s.pairs)
            ∙ ap (λ c. tallied s + (per_link n.kind + per_range n.kind * length (ranges_of n.kind)) + (if c then virtuals s.networks + 1 else 0)) (sym e))
          where
            sums : (b : Bool) (o d v l r p : ℕ) → rules_in_all (o + d) v (l + (if b then 1 else 0)) r p ≡ rules_in_all o v l r p + d + (if b then v + 1 else 0)
            sums true o d v l r p = grind arith
            sums false o d v l r p = grind arith

  -- another default network
  pub rules-by_default : (default : Option ℕ) → rule_count (record s { default = default }) + (virtuals s.networks + 1) * default_links s ≡ rule_count s + (virtuals s.networks + 1) * length (links_of (default_among s.networks default))
  rules-by_default default =
      ap (λ m. m + (virtuals s.networks + 1) * default_links s) (rules-tallied (record s { default = default }) keyed)
      ∙ (turn (own_rules s.networks) ((virtuals s.networks + 1) * length (links_of (default_among s.networks default))) ((virtuals s.networks + 1) * default_links s)
      ∙ ap (λ m. m + (virtuals s.networks + 1) * length (links_of (default_among s.networks default))) (sym rules-now))
    where
      turn : (o a b : ℕ) → o + a + length s.lockdown + length s.pairs + 2 + b ≡ o + b + length s.lockdown + length s.pairs + 2 + a
      turn o a b = omega arith

  -- another network, without interfaces
  module _ (net : ℕ) (k : Kind) (alone_none : alone k ≡ 0) (fresh : find_id net s.networks ≡ None) where
    abbrev new : Network
    new = record { id = net; kind = k; interfaces = []; routes = [] }

    keyed-new : AreKeyed (s.networks ++ new ∷ [])
    keyed-new = ap are_distinct (map-append (λ (n : Network). n.id) s.networks (new ∷ []))
        ∙ are_distinct-push (map (λ n. n.id) s.networks) net keyed (any-map (λ (n : Network). n.id) (λ i. i == net) s.networks ∙ (same-any s.networks ∙ sym (some-any (λ (n : Network). net == n.id) (λ n. n) s.networks) ∙ ap (λ (o : Option Network). is_some (option_map (λ n. n) o)) fresh))
      where
        same-any : (ns : List Network) → list_any (λ (n : Network). n.id == net) ns ≡ list_any (λ (n : Network). net == n.id) ns
        same-any [] = refl
        same-any (n ∷ ns) = ap₂ (λ (a b : Bool). a || b) (eqb-turned n.id net) (same-any ns)

    -- it isn't the default one
    links-new : default_links (with_new_net net k s) ≡ default_links s
    links-new = ap (λ o. length (links_of o)) (by s.default formed.default)
      where
        by : (default : Option ℕ) → is_default_there s.networks default ≡ true → default_among (s.networks ++ new ∷ []) default ≡ default_among s.networks default
        by None h = default-none (s.networks ++ new ∷ []) ∙ sym (default-none s.networks)
        by (Some id) h =
            let it : Passing (λ (n : Network). (n.id == id) && is_physical n.kind) s.networks = of_any (λ (n : Network). (n.id == id) && is_physical n.kind) s.networks h in
            let parts = and_parts (it.one.id == id) (is_physical it.one.kind) it.passes in
            find-before (λ (n : Network). (class_of n.kind == 1) && is_default (Some id) n.id) s.networks (new ∷ [])
            (any-from (λ (n : Network). (class_of n.kind == 1) && is_default (Some id) n.id) s.networks it.one it.there (and_from _ _ (physical-class it.one.kind ∙ parts.1) (eqb-turned id it.one.id ∙ parts.0)))

    pub rules-new : rule_count (with_new_net net k s) ≡ rule_count s + (if is_virtual k then default_links s else 0)
    rules-new =
        rules-tallied (with_new_net net k s) keyed-new
        ∙ (ap (λ l. rules_in_all (own_rules (s.networks ++ new ∷ [])) (virtuals (s.networks ++ new ∷ [])) l (length s.lockdown) (length s.pairs)) links-new
        ∙ (ap₂ (λ (o v : ℕ). rules_in_all o v (default_links s) (length s.lockdown) (length s.pairs)) owns (sum_by_push (λ (n : Network). cond (is_virtual n.kind) 1 0) s.networks new)
        ∙ (sums (is_virtual k) (own_rules s.networks) (virtuals s.networks) (default_links s) (length s.lockdown) (length s.pairs) ∙ ap (λ m. m + (if is_virtual k then default_links s else 0)) (sym rules-now))))
      where
        owns : own_rules (s.networks ++ new ∷ []) ≡ own_rules s.networks
        owns = sum_by_push own s.networks new ∙ nothing (own_rules s.networks) (per_link k) (per_range k) (length (ranges_of k)) (alone k) alone_none
          where
            nothing : (o a b r c : ℕ) → c ≡ 0 → o + (c + a * 0 + b * (0 * r)) ≡ o
            nothing o a b r c h = grind arith

        sums : (b : Bool) (o v l r p : ℕ) → rules_in_all o (v + cond b 1 0) l r p ≡ rules_in_all o v l r p + (if b then l else 0)
        sums true o v l r p = grind arith
        sums false o v l r p = grind arith

  pub rules-more_locked : (range : UidRange) → rule_count (record s { lockdown = s.lockdown ++ range ∷ [] }) ≡ rule_count s + 1
  rules-more_locked range =
      rules-tallied (record s { lockdown = s.lockdown ++ range ∷ [] }) keyed
      ∙ (sums (own_rules s.networks) ((virtuals s.networks + 1) * default_links s) (length (s.lockdown ++ range ∷ [])) (length s.lockdown) (length-append s.lockdown (range ∷ []))
      ∙ ap (λ m. m + 1) (sym rules-now))
    where
      sums : (o d r q : ℕ) → r ≡ q + 1 → o + d + r + length s.pairs + 2 ≡ o + d + q + length s.pairs + 2 + 1
      sums o d r q h = omega arith

  pub rules-more_pairs : (pair : TetherPair) → rule_count (record s { pairs = s.pairs ++ pair ∷ [] }) ≡ rule_count s + 1
  rules-more_pairs pair =
      rules-tallied (record s { pairs = s.pairs ++ pair ∷ [] }) keyed
      ∙ (sums (own_rules s.networks) ((virtuals s.networks + 1) * default_links s) (length (s.pairs ++ pair ∷ [])) (length s.pairs) (length-append s.pairs (pair ∷ []))
      ∙ ap (λ m. m + 1) (sym rules-now))
    where
      sums : (o d p q : ℕ) → p ≡ q + 1 → o + d + length s.lockdown + p + 2 ≡ o + d + length s.lockdown + q + 2 + 1
      sums o d p q h = omega arith
