-- The changes by which no rule comes.
use Rattle.std.proofs.Common.{◌≡◌, ◌∙◌, ◌≤◌, ◌+◌, ◌==◌, ℕ, Bool, true, false, cond, not, List, [], ◌∷◌, ◌++◌, Option, Some, None, length, filter, refl, sym, ap, subst, inl, inr, arith}
use Rattle.std.specs.Prelude.{◌&&◌, find, nat_lt, if◌then◌else◌}
use Rattle.std.specs.Str.{bytes_eq}
use Rattle.std.proofs.lemmas.Bool.Decides.{nat_tests}
use Rattle.link_table.specs.declared.link.Link.{Link}
use Rattle.std.proofs.lemmas.Bool.{cases_Bool, false≢true, and_parts, eqb-true}
use Rattle.std.proofs.lemmas.Nat.{mul-le}
use Rattle.list_lemmas.proofs.Anys.{length-filter-le}
use Rattle.list_lemmas.proofs.Numbers.{unlike-sym}
use Rattle.networks.proofs.Distinct.{are_distinct-filter}
use Rattle.networks.specs.Kinds.{class_of, is_virtual}
use Rattle.networks.specs.Lists.{AreKeyed}
use Rattle.policy_state.specs.Counts.{rule_count}
use Rattle.policy_state.specs.Good.{IsGood, IsWellFormed, most_rules}
use Rattle.policy_state.specs.Rows.{is_default, links_of, default_among}
use Rattle.policy_state.specs.Step.{with_net, with_new_net, without_net, without_interface, without_link, with_route, without_route, without_ranges, kind_without, with_permission_of, is_in, is_of_user, is_user, is_pair, is_protectable}
use Rattle.policy_state.specs.Tallies.{own, own_rules, virtuals, default_links, rules_in_all, tallied}
use Rattle.policy_state.specs.View.{Kind, Local, Physical, Virtual, Network, TetherPair, UserPermission, StateView}
use Rattle.policy_state.specs.Change.{turned, Fits}
use Rattle.policy_state.specs.declared.change.Change.{Change}
use Rattle.policy_state.specs.declared.change.Change.TheVariants as change
use Rattle.uid_ranges.specs.Ranges.{has, without}
use Rattle.uid_ranges.specs.declared.range.Uid.{Uid}
use Rattle.uid_ranges.specs.declared.range.UidRange.{UidRange}
use Rattle.policy_state.proofs.CountsAfter.{rules-tallied, rules-new, links-fewer, own-without_link, own-without_ranges}
use Rattle.policy_state.proofs.NetworkChanges.{ids-distinct, default-none}
use Rattle.policy_state.proofs.NetworkParts.{virtual-class}
use Rattle.policy_state.proofs.TallyChanges.{keyed-changed, sum-changed-le, sum-filter-le}

fewer : (o o' v v' l l' r r' p p' : ℕ) → o ≤ o' → v ≤ v' → l ≤ l' → r ≤ r' → p ≤ p' → rules_in_all o v l r p ≤ rules_in_all o' v' l' r' p'
fewer o o' v v' l l' r r' p p' rules vpns links ranges pairs = omega (arith, mul-le (v + 1) l (v' + 1) l' (omega arith) links)

module _ (s : StateView) (formed : IsWellFormed s) where
  keyed : AreKeyed s.networks
  keyed = ids-distinct s formed

  -- a state whose tallies are no more
  pub rules-fewer : (t : StateView) → AreKeyed t.networks → own_rules t.networks ≤ own_rules s.networks → virtuals t.networks ≤ virtuals s.networks → default_links t ≤ default_links s
      → length t.lockdown ≤ length s.lockdown → length t.pairs ≤ length s.pairs → rule_count t ≤ rule_count s
  rules-fewer t keyed_t rules vpns links ranges pairs =
      let now : rule_count s ≡ tallied s = rules-tallied s keyed in
      let after : rule_count t ≡ tallied t = rules-tallied t keyed_t in
      let less : tallied t ≤ tallied s = fewer _ _ _ _ _ _ _ _ _ _ rules vpns links ranges pairs in
      omega (arith, now, after, less)

  -- a network that keeps its id and its class has no more rules and interfaces
  pub rules-shrunk : (net : ℕ) (change : Network → Network) (pairs : List TetherPair) → ((n : Network) → (change n).id ≡ n.id) → ((n : Network) → class_of (change n).kind ≡ class_of n.kind)
      → ((n : Network) → own (change n) ≤ own n) → ((n : Network) → length (change n).interfaces ≤ length n.interfaces) → length pairs ≤ length s.pairs
      → rule_count (record (with_net net change s) { pairs = pairs }) ≤ rule_count s
  rules-shrunk net change pairs same_id same_class less few fewer_pairs =
      let one : Network → ℕ = λ (n : Network). cond (is_virtual n.kind) 1 0 in
      let same : (n : Network) → one (change n) ≤ one n = λ n. same_le (one (change n)) (one n) (ap (λ b. cond b 1 0) (sym (virtual-class (change n).kind) ∙ (ap (λ c. c == 2) (same_class n) ∙ virtual-class n.kind))) in
      rules-fewer (record (with_net net change s) { pairs = pairs }) (keyed-changed own net change same_id s.networks keyed)
      (sum-changed-le own net change same_id less s.networks) (sum-changed-le one net change same_id same s.networks)
      (links-fewer net change s same_id same_class few) (omega arith) fewer_pairs
    where
      same_le : (a b : ℕ) → a ≡ b → a ≤ b
      same_le a b is = omega (arith, is)

  -- a network goes
  pub rules-without : (net : ℕ) → rule_count (without_net net s) ≤ rule_count s
  rules-without net =
      rules-fewer (without_net net s) (are_distinct-filter (λ (n : Network). n.id) (λ n. not (net == n.id)) s.networks keyed)
      (sum-filter-le own (λ n. not (net == n.id)) s.networks)
      (sum-filter-le (λ (n : Network). cond (is_virtual n.kind) 1 0) (λ n. not (net == n.id)) s.networks)
      (links s.default) (omega arith) (length-filter-le (λ (p : TetherPair). not (is_in s net p.out)) s.pairs)
    where
      find-filter : (p q : Network → Bool) (ns : List Network) → ((n : Network) → p n ≡ true → q n ≡ true) → find p (filter q ns) ≡ find p ns
      find-filter p q [] keeps = refl
      find-filter p q (n ∷ ns) keeps = elim (cases_Bool (p n)) as (λ _. find p (filter q (n ∷ ns)) ≡ find p (n ∷ ns)) [
        | inl e ↦ rw (keeps n e) (rw e refl)
        | inr e ↦ elim (cases_Bool (q n)) as (λ _. find p (filter q (n ∷ ns)) ≡ find p (n ∷ ns)) [
          | inl k ↦ rw k (rw e (find-filter p q ns keeps))
          | inr k ↦ rw k (rw e (find-filter p q ns keeps))
        ]
      ]

      links : (default : Option ℕ) → length (links_of (default_among (filter (λ n. not (net == n.id)) s.networks) (elim default as (λ _. Option ℕ) [ Some id ↦ if id == net then None else Some id | None ↦ None ])))
          ≤ length (links_of (default_among s.networks default))
      links None = subst (λ m. m ≤ length (links_of (default_among s.networks None))) (sym (ap (λ o. length (links_of o)) (default-none (filter (λ n. not (net == n.id)) s.networks)))) (omega arith)
      links (Some id) = elim (cases_Bool (id == net)) as (λ _. length (links_of (default_among (filter (λ n. not (net == n.id)) s.networks) (if id == net then None else Some id))) ≤ length (links_of (default_among s.networks (Some id)))) [
        | inl e ↦ rw e (subst (λ m. m ≤ length (links_of (default_among s.networks (Some id)))) (sym (ap (λ o. length (links_of o)) (default-none (filter (λ n. not (net == n.id)) s.networks)))) (omega arith))
        | inr e ↦ rw e (subst (λ m. m ≤ length (links_of (default_among s.networks (Some id)))) (sym (ap (λ o. length (links_of o))
            (find-filter (λ (n : Network). (class_of n.kind == 1) && is_default (Some id) n.id) (λ n. not (net == n.id)) s.networks
            (λ n passes. ap not (unlike n (eqb-true id n.id (and_parts (class_of n.kind == 1) (id == n.id) passes).1) e))))) (omega arith))
      ]
        where
          unlike : (n : Network) → id ≡ n.id → (id == net) ≡ false → (net == n.id) ≡ false
          unlike n is apart = ap (λ i. net == i) (sym is) ∙ unlike-sym id net apart

-- no rule comes by them
abbrev pub brings_none : Change → Bool
brings_none change.Nothing = true
brings_none (change.LinkComes link) = true
brings_none (change.LinkGoes name) = true
brings_none (change.PhysicalComes net permission) = true
brings_none (change.VirtualComes net secure) = false
brings_none (change.NetworkGoes net) = true
brings_none (change.InterfaceComes net link) = false
brings_none (change.InterfaceGoes net link) = true
brings_none (change.RouteComes net link route) = true
brings_none (change.RouteGoes net link key) = true
brings_none (change.RangesCome net rank ranges) = false
brings_none (change.RangesGo net ranges) = true
brings_none (change.DefaultBecomes default) = false
brings_none (change.NetworkPermission net permission) = false
brings_none (change.UserPermission uid permission) = true
brings_none (change.UserForgotten uid) = true
brings_none (change.ProtectAllowed uid) = true
brings_none (change.ProtectDenied uid) = true
brings_none (change.LockdownComes range) = false
brings_none (change.LockdownGoes range) = true
brings_none (change.PairComes pair) = false
brings_none (change.PairGoes pair) = true

module _ (s : StateView) (good : IsGood s) where
  le : (n : ℕ) → n ≤ n
  le n = omega arith

  others : (links : List Link) (permissions : List UserPermission) (protectable : List Uid) → rule_count (record s { links = links; permissions = permissions; protectable = protectable }) ≤ rule_count s
  others links permissions protectable =
      rules-fewer s good.formed (record s { links = links; permissions = permissions; protectable = protectable }) (ids-distinct s good.formed) (le _) (le _) (le _) (le _) (le _)

  shrinks : (net : ℕ) (change : Network → Network) → ((n : Network) → (change n).id ≡ n.id) → ((n : Network) → class_of (change n).kind ≡ class_of n.kind)
      → ((n : Network) → own (change n) ≤ own n) → ((n : Network) → length (change n).interfaces ≤ length n.interfaces) → rule_count (with_net net change s) ≤ rule_count s
  shrinks net change same_id same_class less few = rules-shrunk s good.formed net change s.pairs same_id same_class less few (le _)

  unranged-class : (gone : List UidRange) (k : Kind) → class_of (kind_without gone k) ≡ class_of k
  unranged-class gone Local = refl
  unranged-class gone (Physical permission apps) = refl
  unranged-class gone (Virtual secure users) = refl

  less : (c : Change) → Fits c s → brings_none c ≡ true → rule_count (turned c s) ≤ rule_count s
  less change.Nothing fits h = le _
  less (change.LinkComes link) fits h = others (s.links ++ link ∷ []) s.permissions s.protectable
  less (change.LinkGoes name) fits h = others (filter (λ l. not (bytes_eq l.name name)) s.links) s.permissions s.protectable
  less (change.PhysicalComes net permission) fits h =
      let same : rule_count (with_new_net net (Physical permission []) s) ≡ rule_count s + 0 = rules-new s good.formed net (Physical permission []) refl fits in
      omega (arith, same)
  less (change.VirtualComes net secure) fits h = absurd (false≢true h)
  less (change.NetworkGoes net) fits h = rules-without s good.formed net
  less (change.InterfaceComes net link) fits h = absurd (false≢true h)
  less (change.InterfaceGoes net link) fits h = elim (cases_Bool (is_in s net link)) as (λ _. rule_count (without_interface net link s) ≤ rule_count s) [
    | inl e ↦ rw e (rules-shrunk s good.formed net (without_link link) (filter (λ (p : TetherPair). not (p.out == link)) s.pairs) (λ n. refl) (λ n. refl) (λ n. own-without_link n link)
        (λ n. length-filter-le (λ i. not (i == link)) n.interfaces) (length-filter-le (λ (p : TetherPair). not (p.out == link)) s.pairs))
    | inr e ↦ rw e (le _)
  ]
  less (change.RouteComes net link route) fits h = shrinks net (with_route link route) (λ n. refl) (λ n. refl) (λ n. le _) (λ n. le _)
  less (change.RouteGoes net link key) fits h = shrinks net (without_route link key) (λ n. refl) (λ n. refl) (λ n. le _) (λ n. le _)
  less (change.RangesCome net rank ranges) fits h = absurd (false≢true h)
  less (change.RangesGo net ranges) fits h = shrinks net (without_ranges ranges.now) (λ n. refl) (λ n. unranged-class ranges.now n.kind) (λ n. own-without_ranges n ranges.now) (λ n. le _)
  less (change.DefaultBecomes default) fits h = absurd (false≢true h)
  less (change.NetworkPermission net permission) fits h = absurd (false≢true h)
  less (change.UserPermission uid permission) fits h = others s.links (with_permission_of uid permission s.permissions) s.protectable
  less (change.UserForgotten uid) fits h = others s.links (filter (λ p. not (is_of_user uid p)) s.permissions) s.protectable
  less (change.ProtectAllowed uid) fits h = elim (cases_Bool (is_protectable s uid)) as (λ _. rule_count (turned (change.ProtectAllowed uid) s) ≤ rule_count s) [
    | inl e ↦ rw e (le _)
    | inr e ↦ rw e (others s.links s.permissions (s.protectable ++ uid ∷ []))
  ]
  less (change.ProtectDenied uid) fits h = others s.links s.permissions (filter (λ u. not (is_user uid u)) s.protectable)
  less (change.LockdownComes range) fits h = absurd (false≢true h)
  less (change.LockdownGoes range) fits h =
      rules-fewer s good.formed (record s { lockdown = without s.lockdown (range ∷ []) }) (ids-distinct s good.formed) (le _) (le _) (le _) (length-filter-le (λ other. not (has (range ∷ []) other)) s.lockdown) (le _)
  less (change.PairComes pair) fits h = absurd (false≢true h)
  less (change.PairGoes pair) fits h =
      rules-fewer s good.formed (record s { pairs = filter (λ p. not (is_pair pair p)) s.pairs }) (ids-distinct s good.formed) (le _) (le _) (le _) (le _) (length-filter-le (λ p. not (is_pair pair p)) s.pairs)

  -- so the state stays within the limit
  pub none-past : (c : Change) → Fits c s → brings_none c ≡ true → false ≡ nat_lt most_rules (rule_count (turned c s))
  none-past c fits h =
      let few : rule_count (turned c s) ≤ 40000 = omega (arith, less c fits h, good.few_rules) in
      sym (below (rule_count (turned c s)) few)
    where
      below : (n : ℕ) → n ≤ 40000 → nat_lt 40000 n ≡ false
      below n h = grind (arith, nat_tests)
