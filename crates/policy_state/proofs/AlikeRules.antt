-- Two rules of one priority that one packet matches have equal selectors.
use Rattle.std.proofs.Common.{◌≡◌, ◌∙◌, ℕ, Bool, true, false, Some, None, refl, sym, ap, ap₂, subst, inl, inr, ◌<◌, List, [], ◌∷◌, arith}
use Rattle.std.specs.Prelude.{Option, if◌then◌else◌, ◌&&◌, ◌||◌, nat_lt, flat_map}
use Rattle.std.proofs.lemmas.Bool.{cases_Bool, and_parts, ltb-true}
use Rattle.fwmark.specs.Selection.{Selection, mask_of, value_of, net_value}
use Rattle.fwmark.specs.declared.permission.Permission.{Permission}
use Rattle.rule_match.specs.Rule.{same_selectors, matches}
use Rattle.rule_match.proofs.Sames.{same_selectors-from}
use Rattle.uid_ranges.specs.declared.range.UidRange.{UidRange}
use Rattle.policy_state.specs.View.{Ranked, Network, StateView}
use Rattle.policy_state.specs.Rows.{Item, Row, NetworkSet, NetworkPart, OnePer, Once, EachLockdown, EachPair, EachOf, Selector, Unstated, OfItem, OfRow, OnlyUser, Root, items, nothing, range_item, pair_item, permission_of, ranges_of}
use Rattle.policy_state.specs.Table.{stated, needed, stated_users, marks_of, rule_of, priority_at, rules_in, rows, table_by_rows}
use Rattle.policy_state.proofs.RowTests.{is_own, is_ranged, is_split, is_told_apart, is_below, are_apart, are_told_apart, is_fit, rows_told, each_fit}
use Rattle.policy_state.proofs.Owners.{Has, Owners, IsOwned, of_map, OfMap, AreOwners, OfFlat, of_flat, of_rules}
use Rattle.policy_state.proofs.SharedPackets.{Overlap, Shared, Fits, Sees, sees, meets-by_packet}
use Rattle.policy_state.proofs.RowItems.{Comes, comes, OfUsers, item-users, item-nobody, item-needs, item-split, item-net}
use Rattle.policy_state.proofs.OneNetwork.{own-users, one-net, rows-apart}
use Rattle.std.specs.List.{list_all}
use Rattle.rule_law.specs.Rules.{has}
use Rattle.rule_match.specs.declared.packet.Packet.{Packet}
use Rattle.rule_match.specs.declared.rule.Rule.{Rule}
use Rattle.rule_kinds.specs.Kind.{rule_kind}
use Rattle.policy_state.proofs.Sorted.{has_in_order}

-- where what an item shows is the same, so is what its rule selects
stated-same : {A : Type 0} (f : Selector A) (x y : A) → ((m n : A) → stated f x ≡ Some m → stated f y ≡ Some n → m ≡ n) → stated f x ≡ stated f y
stated-same Unstated x y h = refl
stated-same OfItem x y h = ap Some (h x y refl refl)
stated-same (OfRow value) x y h = refl

bound-same : (b : Bool) (m n : ℕ) → (b ≡ true → m ≡ n) → (if b then Some m else None) ≡ (if b then Some n else None)
bound-same true m n h = ap Some (h refl)
bound-same false m n h = refl

needed-same : (f : Selector Permission) (x y : Permission) → (is_own f ≡ true → x ≡ y) → needed f x ≡ needed f y
needed-same Unstated x y h = refl
needed-same OfItem x y h = h refl
needed-same (OfRow value) x y h = refl

users-same : (f : Selector OnlyUser) (x y : Option UidRange) → (is_own f ≡ true → x ≡ y) → stated_users f x ≡ stated_users f y
users-same Unstated x y h = refl
users-same OfItem x y h = h refl
users-same (OfRow Root) x y h = refl

selectors-same : (row : Row) (i j : Item) → Overlap row row i j → (is_own row.needs ≡ true → i.needs ≡ j.needs) → (is_own row.users ≡ true → i.users ≡ j.users)
    → same_selectors (rule_of row i) (rule_of row j) ≡ true
selectors-same row i j meets needs users =
    let net : stated row.net i.net ≡ stated row.net j.net = stated-same row.net i.net j.net meets.net in
    let permission : needed row.needs i.needs ≡ needed row.needs j.needs = needed-same row.needs i.needs j.needs needs in
    let marks : marks_of row i ≡ marks_of row j =
    ap₂ (λ (n : Option ℕ) (p : Permission). let it : Selection = record { net = n; explicit = row.explicit; guarded = row.guarded; permission = p } in it) net permission in
    same_selectors-from (rule_of row i) (rule_of row j) (record {
      mark = ap value_of marks;
      mask = ap mask_of marks;
      incoming = stated-same row.incoming i.incoming j.incoming meets.incoming;
      outgoing = bound-same row.bound i.link j.link (λ b. meets.bound b b);
      uids = users-same row.users i.users j.users users;
    })

module _ (o : Owners) (s : StateView) (good : IsOwned o s) where
  each-alike : (pick : NetworkSet) (spread : NetworkPart) (row : Row) (i j : Item) → is_told_apart (EachOf pick spread) row ≡ true → Comes s pick spread i → Comes s pick spread j → Overlap row row i j
      → same_selectors (rule_of row i) (rule_of row j) ≡ true
  each-alike pick spread row i j told one other meets =
      let same : one.net ≡ other.net = good.one_id one.net other.net one.there other.there (one-net o s s good.owns good.owns row pick spread i j one other meets (λ is. refl) told) in
      selectors-same row i j meets
      (λ own. elim (cases_Bool (is_split spread)) [
        | inl split ↦ item-split spread split s one.net i one.item ∙ sym (item-split spread split s other.net j other.item)
        | inr plain ↦ item-needs spread plain s one.net i one.item ∙ (ap (λ (n : Network). permission_of n.kind) same ∙ sym (item-needs spread plain s other.net j other.item))
      ])
      (λ own. elim (cases_Bool (is_ranged spread)) [
        | inl ranged ↦
            let in_i : OfUsers one.net i = item-users spread ranged s one.net i one.item in
            let in_j : OfUsers other.net j = item-users spread ranged s other.net j other.item in
            let users_i : i.users ≡ Some in_i.r.users = ap (λ (i : Item). i.users) in_i.is in
            let users_j : j.users ≡ Some in_j.r.users = ap (λ (i : Item). i.users) in_j.is in
            let shared : Shared in_i.r.users in_j.r.users = meets.users in_i.r.users in_j.r.users (own-users row.users i.users own ∙ users_i) (own-users row.users j.users own ∙ users_j) in
            let r : in_i.r ≡ in_j.r = (good.owns one.net one.there).disjoint in_i.r in_j.r shared.uid in_i.ranged (subst (λ (n : Network). Has (ranges_of n.kind) in_j.r) (sym same) in_j.ranged) shared.one shared.other in
            users_i ∙ (ap (λ (r : Ranked). Some r.users) r ∙ sym users_j)
        | inr nobody ↦ (item-nobody spread nobody s one.net i one.item).0 ∙ sym (item-nobody spread nobody s other.net j other.item).0
      ])

  -- two rules of one row that meet
  pub row-alike : (row : Row) (per : OnePer) (i j : Item) → is_told_apart per row ≡ true → Has (items per s) i → Has (items per s) j → Overlap row row i j → same_selectors (rule_of row i) (rule_of row j) ≡ true
  row-alike row Once i j told in_i in_j meets =
      let one : nothing ≡ i = elim in_i [ inl e ↦ e | inr f ↦ absurd f ] in
      let other : nothing ≡ j = elim in_j [ inl e ↦ e | inr f ↦ absurd f ] in
      selectors-same row i j meets (λ own. sym (ap (λ (i : Item). i.needs) one) ∙ ap (λ (i : Item). i.needs) other) (λ own. sym (ap (λ (i : Item). i.users) one) ∙ ap (λ (i : Item). i.users) other)
  row-alike row EachLockdown i j told in_i in_j meets =
      let one : OfMap range_item s.lockdown i = of_map range_item s.lockdown i in_i in
      let other : OfMap range_item s.lockdown j = of_map range_item s.lockdown j in_j in
      let users_i : i.users ≡ Some one.one = ap (λ (i : Item). i.users) one.is in
      let users_j : j.users ≡ Some other.one = ap (λ (i : Item). i.users) other.is in
      selectors-same row i j meets (λ own. ap (λ (i : Item). i.needs) one.is ∙ sym (ap (λ (i : Item). i.needs) other.is)) (λ own.
      let shared : Shared one.one other.one = meets.users one.one other.one (own-users row.users i.users own ∙ users_i) (own-users row.users j.users own ∙ users_j) in
      users_i ∙ (ap Some (good.lockdown one.one other.one shared.uid one.there other.there shared.one shared.other) ∙ sym users_j))
  row-alike row EachPair i j told in_i in_j meets =
      let one : OfMap pair_item s.pairs i = of_map pair_item s.pairs i in_i in
      let other : OfMap pair_item s.pairs j = of_map pair_item s.pairs j in_j in
      selectors-same row i j meets (λ own. ap (λ (i : Item). i.needs) one.is ∙ sym (ap (λ (i : Item). i.needs) other.is)) (λ own. ap (λ (i : Item). i.users) one.is ∙ sym (ap (λ (i : Item). i.users) other.is))
  row-alike row (EachOf pick spread) i j told in_i in_j meets = each-alike pick spread row i j told (comes s pick spread i in_i) (comes s pick spread j in_j) meets

-- The rules of a table: whose they are, that those which meet are alike, and that each is well formed.

-- the row and the item of which a rule is
pub record OfSomeRow (s : StateView) (some : List Row) (x : Rule) : Type 0 where
  pub row : Row
  pub there : Has some row
  pub item : Item
  pub comes : Has (items row.per s) item
  pub is : x ≡ rule_of row item

pub of_row : (s : StateView) (some : List Row) (x : Rule) → Has (flat_map (rules_in s) some) x → OfSomeRow s some x
of_row s some x h =
    let row : OfFlat (rules_in s) some x = of_flat (rules_in s) some x h in
    let item : OfMap (rule_of row.one) (items row.one.per s) x = of_map (rule_of row.one) (items row.one.per s) x row.has in
    record { row = row.one; there = row.there; item = item.one; comes = item.there; is = item.is }

pub of_table : (s : StateView) (x : Rule) → has rule_kind (table_by_rows s) x ≡ true → OfSomeRow s rows x
of_table s x h =
    let rules : List Rule = flat_map (rules_in s) rows in
    of_row s rows x (of_rules rules x (sym (has_in_order rule_kind x rules) ∙ h))

pub all-has : {A : Type 0} (p : A → Bool) (xs : List A) (x : A) → list_all p xs ≡ true → Has xs x → p x ≡ true
all-has p [] x h there = absurd there
all-has p (y ∷ ys) x h (inl e) = ap p (sym e) ∙ (and_parts (p y) (list_all p ys) h).0
all-has p (y ∷ ys) x h (inr there) = all-has p ys x (and_parts (p y) (list_all p ys) h).1 there

turned : (a b : Row) (i j : Item) → Overlap a b i j → Overlap b a j i
turned a b i j m = record {
  priority = sym m.priority;
  net = λ p q e f. sym (m.net q p f e);
  incoming = λ p q e f. sym (m.incoming q p f e);
  bound = λ e f. sym (m.bound f e);
  users = λ r q e f. let shared : Shared q r = m.users q r f e in record { uid = shared.uid; one = shared.other; other = shared.one };
}

pub item-fits : (o : Owners) (s : StateView) → AreOwners o s → (per : OnePer) (i : Item) → Has (items per s) i → i.net < 65536
item-fits o s own Once i h = let e : nothing ≡ i = elim h [ inl e ↦ e | inr f ↦ absurd f ] in subst (λ (i : Item). i.net < 65536) e (omega arith)
item-fits o s own EachLockdown i h = subst (λ (i : Item). i.net < 65536) (sym (of_map range_item s.lockdown i h).is) (omega arith)
item-fits o s own EachPair i h = subst (λ (i : Item). i.net < 65536) (sym (of_map pair_item s.pairs i h).is) (omega arith)
item-fits o s own (EachOf pick spread) i h =
    let it : Comes s pick spread i = comes s pick spread i h in
    subst (λ k. k < 65536) (sym (item-net spread s it.net i it.item)) (own it.net it.there).fits

pub fits : (row : Row) (i : Item) → is_fit row ≡ true → i.net < 65536 → Fits row i
fits row i fit small = by row.net fit
  where
    by : (f : Selector ℕ) → (elim f [ Unstated ↦ true | OfItem ↦ true | OfRow net ↦ nat_lt net 65536 ]) ≡ true → net_value (stated f i.net) < 65536
    by Unstated h = omega arith
    by OfItem h = small
    by (OfRow net) h = ltb-true net 65536 h

module _ (o : Owners) (s : StateView) (good : IsOwned o s) where
  pub two-alike : (some : List Row) → are_told_apart some ≡ true → (a b : Row) → Has some a → Has some b → (i j : Item) → Has (items a.per s) i → Has (items b.per s) j → Overlap a b i j
      → same_selectors (rule_of a i) (rule_of b j) ≡ true
  two-alike [] told a b in_a in_b i j in_i in_j meets = absurd in_a
  two-alike (r ∷ rest) told a b in_a in_b i j in_i in_j meets =
      let one = and_parts (is_told_apart r.per r) (list_all (λ b. is_below r b || are_apart r.per r b.per b) rest && are_told_apart rest) told in
      let two = and_parts (list_all (λ b. is_below r b || are_apart r.per r b.per b) rest) (are_told_apart rest) one.1 in
      by one.0 two.0 (λ g h. two-alike rest two.1 a b g h i j in_i in_j meets) in_a in_b
    where
      front : (b : Row) → list_all (λ b. is_below r b || are_apart r.per r b.per b) rest ≡ true → Has rest b → (i j : Item) → Has (items r.per s) i → Has (items b.per s) j → Overlap r b i j → ⊥
      front b all there i j in_i in_j meets = rows-apart o s s good.owns good.owns r b i j (all-has (λ b. is_below r b || are_apart r.per r b.per b) rest b all there) in_i in_j meets

      by : is_told_apart r.per r ≡ true → list_all (λ b. is_below r b || are_apart r.per r b.per b) rest ≡ true → (Has rest a → Has rest b → same_selectors (rule_of a i) (rule_of b j) ≡ true) → Has (r ∷ rest) a → Has (r ∷ rest) b
          → same_selectors (rule_of a i) (rule_of b j) ≡ true
      by here all behind (inl e) (inl f) =
          let in_i' : Has (items r.per s) i = subst (λ (a : Row). Has (items a.per s) i) (sym e) in_i in
          let in_j' : Has (items r.per s) j = subst (λ (a : Row). Has (items a.per s) j) (sym f) in_j in
          let meets' : Overlap r r i j = subst (λ (a : Row). Overlap a r i j) (sym e) (subst (λ (b : Row). Overlap a b i j) (sym f) meets) in
          subst (λ (b : Row). same_selectors (rule_of a i) (rule_of b j) ≡ true) f
          (subst (λ (a : Row). same_selectors (rule_of a i) (rule_of r j) ≡ true) e (row-alike o s good r r.per i j here in_i' in_j' meets'))
      by here all behind (inl e) (inr g) = absurd (front b all g i j (subst (λ (a : Row). Has (items a.per s) i) (sym e) in_i) in_j (subst (λ (a : Row). Overlap a b i j) (sym e) meets))
      by here all behind (inr g) (inl e) =
          absurd (front a all g j i (subst (λ (b : Row). Has (items b.per s) j) (sym e) in_j) in_i (turned a r i j (subst (λ (b : Row). Overlap a b i j) (sym e) meets)))
      by here all behind (inr g) (inr h) = behind g h

  -- the second condition of the two-lists law
  pub table-alike : (p : Packet) (x y : Rule) → has rule_kind (table_by_rows s) x ≡ true → has rule_kind (table_by_rows s) y ≡ true
      → matches x p ≡ true → matches y p ≡ true → x.priority ≡ y.priority → same_selectors x y ≡ true
  table-alike p x y in_x in_y m n same =
      let one : OfSomeRow s rows x = of_table s x in_x in
      let other : OfSomeRow s rows y = of_table s y in_y in
      let sees_one : Sees one.row one.item p = sees one.row one.item p (fits one.row one.item (all-has is_fit rows one.row each_fit one.there) (item-fits o s good.owns one.row.per one.item one.comes)) (subst (λ (x : Rule). matches x p ≡ true) one.is m) in
      let sees_other : Sees other.row other.item p = sees other.row other.item p (fits other.row other.item (all-has is_fit rows other.row each_fit other.there) (item-fits o s good.owns other.row.per other.item other.comes)) (subst (λ (x : Rule). matches x p ≡ true) other.is n) in
      let priority : priority_at one.row one.item ≡ priority_at other.row other.item = ap (λ (x : Rule). x.priority) (sym one.is) ∙ (same ∙ ap (λ (x : Rule). x.priority) other.is) in
      let alike : same_selectors (rule_of one.row one.item) (rule_of other.row other.item) ≡ true =
      two-alike rows rows_told one.row other.row one.there other.there one.item other.item one.comes other.comes
      (meets-by_packet one.row other.row one.item other.item p sees_one sees_other priority) in
      subst (λ (x : Rule). same_selectors x y ≡ true) (sym one.is) (subst (λ (y : Rule). same_selectors (rule_of one.row one.item) y ≡ true) (sym other.is) alike)
