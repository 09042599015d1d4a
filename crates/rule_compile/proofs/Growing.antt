-- A network grows: it gets an interface, or ranges.
use Rattle.std.proofs.Common.{◌≡◌, ◌∙◌, ℕ, Bool, true, false, List, [], ◌∷◌, ◌++◌, refl, sym, ap, subst, inl, inr, map, filter}
use Rattle.std.specs.Prelude.{flat_map, if◌then◌else◌, ◌⊎◌}
use Rattle.std.proofs.lemmas.Bool.{false_from_ne_true, cases_Bool}
use Rattle.std.proofs.lemmas.Grind.{flat_map-append}
use Rattle.std.proofs.lemmas.List.{map-append, append-nil}
use Rattle.rule_law.specs.Rules.{has}
use Rattle.rule_law.specs.Parts.{TurnsInto}
use Rattle.rule_law.proofs.Turning.{TurnsInto-more, TurnsInto-same}
use Rattle.rule_match.specs.declared.rule.Rule.{Rule}
use Rattle.rule_kinds.specs.Kind.{rule_kind}
use Rattle.rule_compile.proofs.Changes.{with_interface, GetsMore}
use Rattle.networks.specs.declared.network.Network.{Network}
use Rattle.policy_state.specs.View.{StateView}
use Rattle.policy_state.specs.declared.tether.TetherPair.{TetherPair}
use Rattle.policy_state.specs.declared.row.Item.{Item}
use Rattle.policy_state.specs.declared.row.Row.{Row}
use Rattle.policy_state.specs.declared.row.NetworkSet.{NetworkSet}
use Rattle.policy_state.specs.declared.row.NetworkPart.{NetworkPart}
use Rattle.policy_state.specs.declared.row.NetworkPart.TheVariants.{Whole, EachInterface, EachRange, EachDefault}
use Rattle.policy_state.specs.Rows.{items_in, items_at, picks, link_item, user_item, split_item, default_of, links_of, needs_of, items, range_item, pair_item}
use Rattle.networks.specs.Kinds.{ranges_of}
use Rattle.policy_state.specs.declared.row.OnePer.TheVariants.{Once as OncePer, EachLockdown, EachPair, EachOf}
use Rattle.policy_state.specs.Table.{rule_of, rules_in, rows, table_by_rows}
use Rattle.policy_state.proofs.Owners.{Has, Once as OnceIn, of_rules, OfMap, OfFlat, of_map, of_flat, of_append, Once, Owners, AreOwners, IsOwned, AreOnce}
use Rattle.policy_state.proofs.RowItems.{part, has_flat, has_map, has-rule}
use Rattle.std.proofs.lemmas.List.Elements.{filter-append}
use Rattle.rule_kinds.specs.KindLaws.{alike, alike_self}
use Rattle.rule_compile.proofs.Turning.{turns-grown, table-turns}
use Rattle.uid_ranges.specs.declared.range.UidRange.{UidRange}
use Rattle.policy_state.proofs.RowTests.{is_fit, is_single, each_fit, each_single}
use Rattle.policy_state.proofs.AlikeRules.{all-has}
use Rattle.policy_state.proofs.EachOnce.{row-once}

pub once-apart : {A : Type 0} (xs ys : List A) → OnceIn (xs ++ ys) → (z : A) → Has xs z → Has ys z → ⊥
once-apart [] ys once z h t = absurd h
once-apart {A = A} (x ∷ xs) ys once z (inl e) t = once.0 (subst (λ (w : A). Has (xs ++ ys) w) (sym e) (behind xs t))
  where
    behind : (ws : List A) → Has ys z → Has (ws ++ ys) z
    behind [] h = h
    behind (w ∷ ws) h = inr (behind ws h)
once-apart (x ∷ xs) ys once z (inr h) t = once-apart xs ys once.1 z h t

-- what comes stands at the end
pub part-more : (f : Item → Rule) (b : Bool) (old more : List Item) → OnceIn (map f (if b then old ++ more else []))
    → TurnsInto rule_kind (map f (if b then old else [])) (map f (if b then old ++ more else []))
part-more f false old more once = TurnsInto-same rule_kind []
part-more f true old more once =
    subst (λ rules. TurnsInto rule_kind (map f old) rules) (sym (map-append f old more))
    (TurnsInto-more rule_kind (map f old) (map f more) (λ x h. false_from_ne_true (has rule_kind (map f old) x) (λ t.
    once-apart (map f old) (map f more) (subst (λ (rules : List Rule). OnceIn rules) (map-append f old more) once) x (of_rules (map f old) x t) (of_rules (map f more) x h))))

pub in-link : (s t : StateView) (n : Network) (link : ℕ) (spread : NetworkPart) (behind : List ℕ) → links_of (default_of t) ≡ links_of (default_of s) ++ behind → needs_of (default_of t) ≡ needs_of (default_of s)
    → (more : List Item) × (items_in spread (default_of t) (with_interface link n) ≡ items_in spread (default_of s) n ++ more)
in-link s t n link Whole behind links needs = ([], refl)
in-link s t n link EachInterface behind links needs = (map (link_item n) (link ∷ []), map-append (link_item n) n.interfaces (link ∷ []))
in-link s t n link EachRange behind links needs =
    (flat_map (λ l. map (user_item n l) (ranges_of n.kind)) (link ∷ []), flat_map-append (λ l. map (user_item n l) (ranges_of n.kind)) n.interfaces (link ∷ []))
in-link s t n link EachDefault behind links needs = (
  map (split_item n (needs_of (default_of s))) behind,
  ap (λ needs. map (split_item n needs) (links_of (default_of t))) needs ∙ (ap (map (split_item n (needs_of (default_of s)))) links ∙ map-append (split_item n (needs_of (default_of s))) (links_of (default_of s)) behind),
)

-- and for the other networks
pub in-other : (s t : StateView) (n : Network) (spread : NetworkPart) (behind : List ℕ) → links_of (default_of t) ≡ links_of (default_of s) ++ behind → needs_of (default_of t) ≡ needs_of (default_of s)
    → (more : List Item) × (items_in spread (default_of t) n ≡ items_in spread (default_of s) n ++ more)
in-other s t n Whole behind links needs = ([], refl)
in-other s t n EachInterface behind links needs = ([], sym (append-nil (map (link_item n) n.interfaces)))
in-other s t n EachRange behind links needs = ([], sym (append-nil (items_in EachRange (default_of s) n)))
in-other s t n EachDefault behind links needs = (
  map (split_item n (needs_of (default_of s))) behind,
  ap (λ needs. map (split_item n needs) (links_of (default_of t))) needs ∙ (ap (map (split_item n (needs_of (default_of s)))) links ∙ map-append (split_item n (needs_of (default_of s))) (links_of (default_of s)) behind),
)

-- a part that gets more at its end
pub part-grows : (row : Row) (pick : NetworkSet) (spread : NetworkPart) (s t : StateView) (n m : Network) → picks pick t.default m ≡ picks pick s.default n
    → (more : List Item) × (items_in spread (default_of t) m ≡ items_in spread (default_of s) n ++ more) → OnceIn (part row pick spread t m)
    → TurnsInto rule_kind (part row pick spread s n) (part row pick spread t m)
part-grows row pick spread s t n m picked grown once =
    let new : items_at pick spread t.default (default_of t) m ≡ (if picks pick s.default n then items_in spread (default_of s) n ++ grown.0 else []) =
    ap (λ b. if b then items_in spread (default_of t) m else []) picked ∙ ap (λ (zs : List Item). if picks pick s.default n then zs else []) grown.1 in
    subst (λ zs. TurnsInto rule_kind (part row pick spread s n) (map (rule_of row) zs)) (sym new)
    (part-more (rule_of row) (picks pick s.default n) (items_in spread (default_of s) n) grown.0 (subst (λ (zs : List Item). OnceIn (map (rule_of row) zs)) new once))

-- A network gets ranges of users: between its rules come others, of other selectors.

module _ {A B : Type 0} (f : A → B → Rule) where
  abbrev pub spread_over : List B → List A → List Rule
  spread_over rs links = flat_map (λ l. map (f l) rs) links

  module _ (test : Rule → Bool) (rs qs : List B) where
    kept-row : (l : A) (some : List B) → ((r : B) → Has some r → test (f l r) ≡ true) → filter test (map (f l) some) ≡ map (f l) some
    kept-row l [] h = refl
    kept-row l (r ∷ some) h = rw (h r (inl refl)) (ap (λ xs. f l r ∷ xs) (kept-row l some (λ q t. h q (inr t))))

    gone-row : (l : A) (some : List B) → ((r : B) → Has some r → test (f l r) ≡ false) → filter test (map (f l) some) ≡ []
    gone-row l [] h = refl
    gone-row l (r ∷ some) h = rw (h r (inl refl)) (gone-row l some (λ q t. h q (inr t)))

    kept-all : (links : List A) → ((l : A) (r : B) → Has links l → Has rs r → test (f l r) ≡ true) → ((l : A) (q : B) → Has links l → Has qs q → test (f l q) ≡ false)
        → filter test (spread_over (rs ++ qs) links) ≡ spread_over rs links
    kept-all [] h g = refl
    kept-all (l ∷ links) h g =
        filter-append test (map (f l) (rs ++ qs)) (spread_over (rs ++ qs) links)
        ∙ (ap (λ xs. filter test xs ++ filter test (spread_over (rs ++ qs) links)) (map-append (f l) rs qs)
        ∙ (ap (λ xs. xs ++ filter test (spread_over (rs ++ qs) links))
        (filter-append test (map (f l) rs) (map (f l) qs)
        ∙ (ap (λ xs. xs ++ filter test (map (f l) qs)) (kept-row l rs (λ r t. h l r (inl refl) t))
        ∙ (ap (λ xs. map (f l) rs ++ xs) (gone-row l qs (λ q t. g l q (inl refl) t)) ∙ append-nil (map (f l) rs))))
        ∙ ap (λ xs. map (f l) rs ++ xs) (kept-all links (λ k r t u. h k r (inr t) u) (λ k q t u. g k q (inr t) u))))

  -- no new rule is like an old one
  module _ (links : List A) (rs qs : List B) (unlike : (l k : A) (r q : B) → Has links l → Has links k → Has rs r → Has qs q → alike (f k q) (f l r) ≡ true → ⊥) where
    record OfOld (x : Rule) : Type 0 where
      link : A
      range : B
      in_links : Has links link
      in_ranges : Has rs range
      is : x ≡ f link range

    of_old : (x : Rule) → has rule_kind (spread_over rs links) x ≡ true → OfOld x
    of_old x h =
        let by_link : OfFlat (λ l. map (f l) rs) links x = of_flat (λ l. map (f l) rs) links x (of_rules (spread_over rs links) x h) in
        let by_range : OfMap (f by_link.one) rs x = of_map (f by_link.one) rs x by_link.has in
        record { link = by_link.one; range = by_range.one; in_links = by_link.there; in_ranges = by_range.there; is = by_range.is }

    old-there : (l : A) (r : B) → Has links l → Has rs r → has rule_kind (spread_over rs links) (f l r) ≡ true
    old-there l r in_l in_r = has-rule (spread_over rs links) (f l r) (has_flat (λ l. map (f l) rs) links l (f l r) in_l (has_map (f l) rs r in_r))

    new-absent : (l : A) (q : B) → Has links l → Has qs q → has rule_kind (spread_over rs links) (f l q) ≡ false
    new-absent l q in_l in_q = false_from_ne_true (has rule_kind (spread_over rs links) (f l q)) (λ h.
        let it : OfOld (f l q) = of_old (f l q) h in
        unlike it.link l it.range q it.in_links in_l it.in_ranges in_q (subst (λ (x : Rule). alike (f l q) x ≡ true) it.is (alike_self (f l q))))

    -- a rule of the new list is an old one, or unlike each old one
    new-cases : (x : Rule) → has rule_kind (spread_over (rs ++ qs) links) x ≡ true
        → (has rule_kind (spread_over rs links) x ≡ true) ⊎ ((y : Rule) → has rule_kind (spread_over rs links) y ≡ true → alike x y ≡ true → ⊥)
    new-cases x h =
        let by_link : OfFlat (λ l. map (f l) (rs ++ qs)) links x = of_flat (λ l. map (f l) (rs ++ qs)) links x (of_rules (spread_over (rs ++ qs) links) x h) in
        let by_range : OfMap (f by_link.one) (rs ++ qs) x = of_map (f by_link.one) (rs ++ qs) x by_link.has in
        elim (of_append rs qs by_range.one by_range.there) [
          | inl r ↦ inl (subst (λ (x : Rule). has rule_kind (spread_over rs links) x ≡ true) (sym by_range.is) (old-there by_link.one by_range.one by_link.there r))
          | inr q ↦ inr (λ y in_y like.
              let it : OfOld y = of_old y in_y in
              unlike it.link by_link.one it.range by_range.one it.in_links by_link.there it.in_ranges q
              (subst (λ (x : Rule). alike x (f it.link it.range) ≡ true) by_range.is (subst (λ (y : Rule). alike x y ≡ true) it.is like)))
        ]

    whole : (x y : Rule) → has rule_kind (spread_over (rs ++ qs) links) x ≡ true → has rule_kind (spread_over (rs ++ qs) links) y ≡ true → alike x y ≡ true
        → has rule_kind (spread_over rs links) x ≡ has rule_kind (spread_over rs links) y
    whole x y in_x in_y like = elim (cases_Bool (has rule_kind (spread_over rs links) x)) [
      | inl old_x ↦ elim (new-cases y in_y) [
        | inl old_y ↦ old_x ∙ sym old_y
        | inr none ↦ absurd (none x old_x (sym (rule_kind.alike_both x y x like) ∙ alike_self x))
      ]
      | inr new_x ↦ elim (cases_Bool (has rule_kind (spread_over rs links) y)) [
        | inl old_y ↦ elim (new-cases x in_x) [ inl old_x ↦ old_x ∙ sym old_y | inr none ↦ absurd (none y old_y like) ]
        | inr new_y ↦ new_x ∙ sym new_y
      ]
    ]

    pub users-come : TurnsInto rule_kind (spread_over rs links) (spread_over (rs ++ qs) links)
    users-come = turns-grown (spread_over rs links) (spread_over (rs ++ qs) links) (kept-all (has rule_kind (spread_over rs links)) rs qs links old-there new-absent) whole

-- Changes of the lists beside the networks, for all rows: something comes at the end.

pub gets-more : (o : Owners) (s t : StateView) → AreOwners o s → IsOwned o t → AreOnce t → GetsMore s t → TurnsInto rule_kind (table_by_rows s) (table_by_rows t)
gets-more o s t own good once more = table-turns o s t own good.owns (λ row there.
    let it = more row.per in
    let rules : rules_in t row ≡ rules_in s row ++ map (rule_of row) it.0 = ap (map (rule_of row)) it.1 ∙ map-append (rule_of row) (items row.per s) it.0 in
    let each : Once (rules_in s row ++ map (rule_of row) it.0) = subst (λ (zs : List Rule). Once zs) rules
    (row-once o t good once row (all-has (λ (row : Row). is_single row.per row) rows row each_single there) (all-has is_fit rows row each_fit there)) in
    subst (λ zs. TurnsInto rule_kind (rules_in s row) zs) (sym rules)
    (TurnsInto-more rule_kind (rules_in s row) (map (rule_of row) it.0) (λ x h. false_from_ne_true (has rule_kind (rules_in s row) x) (λ g.
    once-apart (rules_in s row) (map (rule_of row) it.0) each x (of_rules (rules_in s row) x g) (of_rules (map (rule_of row) it.0) x h)))))

pub lockdown-comes : (s : StateView) (range : UidRange) → GetsMore s (record s { lockdown = s.lockdown ++ range ∷ [] })
lockdown-comes s range OncePer = ([], refl)
lockdown-comes s range EachLockdown = (map range_item (range ∷ []), map-append range_item s.lockdown (range ∷ []))
lockdown-comes s range EachPair = ([], sym (append-nil (items EachPair s)))
lockdown-comes s range (EachOf pick spread) = ([], sym (append-nil (items (EachOf pick spread) s)))

pub pair-comes : (s : StateView) (pair : TetherPair) → GetsMore s (record s { pairs = s.pairs ++ pair ∷ [] })
pair-comes s pair OncePer = ([], refl)
pair-comes s pair EachLockdown = ([], sym (append-nil (items EachLockdown s)))
pair-comes s pair EachPair = (map pair_item (pair ∷ []), map-append pair_item s.pairs (pair ∷ []))
pair-comes s pair (EachOf pick spread) = ([], sym (append-nil (items (EachOf pick spread) s)))
