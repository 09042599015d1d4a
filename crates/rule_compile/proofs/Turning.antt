-- Parts of a table turn one beside the other, and what is inserted in a part.
use Rattle.std.proofs.Common.{◌≡◌, ◌∙◌, Bool, true, false, cond, not, List, [], ◌∷◌, ◌++◌, refl, sym, ap, subst, inl, inr, arith, filter, map}
use Rattle.std.specs.Prelude.{◌⊎◌, flat_map, ◌&&◌, ◌||◌}
use Rattle.std.proofs.lemmas.Bool.{cases_Bool, false≢true, false_from_ne_true, and_parts}
use Rattle.std.proofs.lemmas.List.{append-nil}
use Rattle.rule_law.specs.Rules.{has, class}
use Rattle.rule_law.specs.Plans.{common}
use Rattle.rule_law.specs.Parts.{TurnsInto}
use Rattle.rule_law.proofs.Membership.{filter-all, filter-none, filter-swap, has_filter}
use Rattle.rule_law.proofs.Turning.{TurnsInto-append, TurnsInto-same}
use Rattle.rule_match.specs.declared.rule.Rule.{Rule}
use Rattle.rule_kinds.specs.Kind.{rule_kind}
use Rattle.rule_kinds.specs.KindLaws.{alike}
use Rattle.policy_state.proofs.Owners.{Has, Once, OfFlat, of_flat, of_append, of_rules, Owners, AreOwners, OfMap, of_map, of_test}
use Rattle.std.specs.List.{list_all}
use Rattle.rule_match.proofs.Sames.{same_selectors-true}
use Rattle.networks.specs.declared.network.Network.{Network}
use Rattle.policy_state.specs.View.{StateView}
use Rattle.policy_state.specs.Rows.{default_of, range_item, pair_item, items, items_in, items_at, picks}
use Rattle.policy_state.specs.declared.row.Item.{Item}
use Rattle.policy_state.specs.declared.row.Row.{Row}
use Rattle.policy_state.specs.declared.row.NetworkSet.{NetworkSet}
use Rattle.policy_state.specs.declared.row.NetworkPart.{NetworkPart}
use Rattle.policy_state.specs.declared.row.OnePer.{OnePer}
use Rattle.policy_state.specs.declared.row.OnePer.TheVariants.{Once as OncePer, EachLockdown, EachPair, EachOf}
use Rattle.policy_state.specs.Table.{rule_of, rules_in, rows, table_by_rows}
use Rattle.policy_state.proofs.RowTests.{knows_net, is_told_apart, is_below, are_apart, are_told_apart, is_fit, is_of_default, rows_told, each_told, each_fit}
use Rattle.policy_state.proofs.Sorted.{turns-in_order}
use Rattle.policy_state.proofs.SharedPackets.{Overlap, meets-by_selectors}
use Rattle.policy_state.proofs.RowItems.{Comes, part, has_map, has_at, map-flat, flat-map}
use Rattle.policy_state.proofs.OneNetwork.{one-net, rows-apart}
use Rattle.policy_state.proofs.AlikeRules.{OfSomeRow, of_row, all-has, fits, item-fits}

abbrev pub Either : List Rule → List Rule → Rule → Type 0
Either old new x = Has old x ⊎ Has new x

either : (old new : List Rule) (x : Rule) → has rule_kind (old ++ new) x ≡ true → Either old new x
either old new x h = of_append old new x (of_rules (old ++ new) x h)

pub turns-append : (old new old' new' : List Rule) → TurnsInto rule_kind old new → TurnsInto rule_kind old' new'
    → ((x y : Rule) → Either old new x → Either old' new' y → alike x y ≡ true → ⊥) → TurnsInto rule_kind (old ++ old') (new ++ new')
turns-append old new old' new' one other apart =
    TurnsInto-append rule_kind old new old' new' (λ x y g h. false_from_ne_true (alike x y) (apart x y (either old new x g) (either old' new' y h))) one other

module _ {N : Type 0} (old new : N → List Rule) where
  -- the part of which a rule is
  record OfPart (ns : List N) (x : Rule) : Type 0 where
    part : N
    there : Has ns part
    has : Either (old part) (new part) x

  of_part : (ns : List N) (x : Rule) → Either (flat_map old ns) (flat_map new ns) x → OfPart ns x
  of_part ns x (inl h) = let it : OfFlat old ns x = of_flat old ns x h in record { part = it.one; there = it.there; has = inl it.has }
  of_part ns x (inr h) = let it : OfFlat new ns x = of_flat new ns x h in record { part = it.one; there = it.there; has = inr it.has }

  pub turns-parts : (ns : List N) → Once ns → ((n : N) → Has ns n → TurnsInto rule_kind (old n) (new n))
      → ((m n : N) (x y : Rule) → Has ns m → Has ns n → Either (old m) (new m) x → Either (old n) (new n) y → alike x y ≡ true → m ≡ n)
      → TurnsInto rule_kind (flat_map old ns) (flat_map new ns)
  turns-parts [] once each told = TurnsInto-same rule_kind []
  turns-parts (n ∷ ns) once each told =
      turns-append (old n) (new n) (flat_map old ns) (flat_map new ns) (each n (inl refl))
      (turns-parts ns once.1 (λ m h. each m (inr h)) (λ l m x y g h. told l m x y (inr g) (inr h)))
      (λ x y in_x in_y like.
      let it : OfPart ns y = of_part ns y in_y in
      once.0 (subst (λ (m : N). Has ns m) (sym (told n it.part x y (inl refl) (inr it.there) in_x it.has like)) it.there))

-- Nothing goes, and of each priority and selectors either all is new or nothing is.
module _ (old new : List Rule) (kept : filter (has rule_kind old) new ≡ old) (whole : (x y : Rule) → has rule_kind new x ≡ true → has rule_kind new y ≡ true → alike x y ≡ true → has rule_kind old x ≡ has rule_kind old y) where
  in-new : (x : Rule) → has rule_kind old x ≡ true → has rule_kind new x ≡ true
  in-new x h =
      let both : has rule_kind (filter (has rule_kind old) new) x ≡ cond (has rule_kind old x) (has rule_kind new x) false = has_filter rule_kind (has rule_kind old) x new in
      let one : has rule_kind (filter (has rule_kind old) new) x ≡ true = ap (λ xs. has rule_kind xs x) kept ∙ h in
      grind arith

  common-is : common rule_kind new old ≡ old
  common-is = filter-all rule_kind (has rule_kind new) old in-new

  class-old : (rule : Rule) → filter (has rule_kind old) (class rule_kind rule new) ≡ class rule_kind rule old
  class-old rule = sym (filter-swap rule_kind (alike rule) (has rule_kind old) new) ∙ ap (class rule_kind rule) kept

  by_first : (rule : Rule) (zs : List Rule) → class rule_kind rule new ≡ zs → class rule_kind rule new ≡ class rule_kind rule old ++ filter (λ x. not (has rule_kind old x)) (class rule_kind rule new)
  by_first rule [] is =
      let none : class rule_kind rule old ≡ [] = sym (class-old rule) ∙ ap (filter (has rule_kind old)) is in
      rw (is, none) refl
  by_first rule (z ∷ zs) is =
      let first : has rule_kind (class rule_kind rule new) z ≡ true = ap (λ xs. has rule_kind xs z) is ∙ rw (rule_kind.same_self z) refl in
      let alls : (x : Rule) → has rule_kind (class rule_kind rule new) x ≡ true → (alike rule x ≡ true) × (has rule_kind new x ≡ true) = λ x h.
      both (alike rule x) (has rule_kind new x) (sym (has_filter rule_kind (alike rule) x new) ∙ h) in
      let like : (x : Rule) → has rule_kind (class rule_kind rule new) x ≡ true → has rule_kind old x ≡ has rule_kind old z = λ x h.
      whole x z (alls x h).1 (alls z first).1 (sym (rule_kind.alike_both rule x z (alls x h).0) ∙ (alls z first).0) in
      elim (cases_Bool (has rule_kind old z)) [
        | inl here ↦
            let all : filter (has rule_kind old) (class rule_kind rule new) ≡ class rule_kind rule new = filter-all rule_kind (has rule_kind old) (class rule_kind rule new) (λ x h. like x h ∙ here) in
            let none : filter (λ x. not (has rule_kind old x)) (class rule_kind rule new) ≡ [] = filter-none rule_kind (λ x. not (has rule_kind old x)) (class rule_kind rule new) (λ x h. ap not (like x h ∙ here)) in
            sym all ∙ (class-old rule ∙ (sym (append-nil (class rule_kind rule old)) ∙ ap (λ xs. class rule_kind rule old ++ xs) (sym none)))
        | inr gone ↦
            let none : class rule_kind rule old ≡ [] = sym (class-old rule) ∙ filter-none rule_kind (has rule_kind old) (class rule_kind rule new) (λ x h. like x h ∙ gone) in
            let all : filter (λ x. not (has rule_kind old x)) (class rule_kind rule new) ≡ class rule_kind rule new = filter-all rule_kind (λ x. not (has rule_kind old x)) (class rule_kind rule new) (λ x h. ap not (like x h ∙ gone)) in
            sym all ∙ ap (λ xs. xs ++ filter (λ x. not (has rule_kind old x)) (class rule_kind rule new)) (sym none)
      ]
    where
      both : (a b : Bool) → cond a b false ≡ true → (a ≡ true) × (b ≡ true)
      both true b h = (refl, h)
      both false b h = absurd (false≢true h)

  pub turns-grown : TurnsInto rule_kind old new
  turns-grown rule =
      by_first rule (class rule_kind rule new) refl
      ∙ (ap (λ xs. class rule_kind rule xs ++ filter (λ x. not (has rule_kind old x)) (class rule_kind rule new)) (sym common-is)
      ∙ ap (λ xs. class rule_kind rule (common rule_kind new old) ++ xs) (sym (filter-swap rule_kind (alike rule) (λ x. not (has rule_kind old x)) new)))

-- What a change makes of a table, row by row, and of a row, network by network.

record OfNetwork (u : StateView) (row : Row) (pick : NetworkSet) (spread : NetworkPart) (n : Network) (x : Rule) : Type 0 where
  item : Item
  is : x ≡ rule_of row item
  comes : Comes u pick spread item
  same : comes.net.id ≡ n.id
  has : Has (items (EachOf pick spread) u) item

same-items : (s t : StateView) (row : Row) → items row.per s ≡ items row.per t → TurnsInto rule_kind (rules_in s row) (rules_in t row)
same-items s t row e = subst (λ rules. TurnsInto rule_kind (rules_in s row) rules) (ap (map (rule_of row)) e) (TurnsInto-same rule_kind (rules_in s row))

module _ (o : Owners) (s t : StateView) (own_s : AreOwners o s) (own_t : AreOwners o t) where
  -- rules of two states that have equal priority and equal selectors
  alike-meets : (u v : StateView) → AreOwners o u → AreOwners o v → (a b : Row) (i j : Item) (x y : Rule) → is_fit a ≡ true → is_fit b ≡ true → Has (items a.per u) i → Has (items b.per v) j
      → x ≡ rule_of a i → y ≡ rule_of b j → alike x y ≡ true → Overlap a b i j
  alike-meets u v own_u own_v a b i j x y fit fit' in_i in_j is is' like =
      let rules : alike (rule_of a i) (rule_of b j) ≡ true = subst (λ (x : Rule). alike x (rule_of b j) ≡ true) is (subst (λ (y : Rule). alike x y ≡ true) is' like) in
      meets-by_selectors a b i j (fits a i fit (item-fits o u own_u a.per i in_i)) (fits b j fit' (item-fits o v own_v b.per j in_j))
      (same_selectors-true (rule_of a i) (rule_of b j) (and_parts _ _ rules).1)
      (rule_kind.alike_priority (rule_of a i) (rule_of b j) rules)

  -- the table turns as each row does

  abbrev RowsTurn : List Row → Type 0
  RowsTurn some = (row : Row) → Has some row → TurnsInto rule_kind (rules_in s row) (rules_in t row)

  rows-turn : (some : List Row) → are_told_apart some ≡ true → list_all is_fit some ≡ true → RowsTurn some → TurnsInto rule_kind (flat_map (rules_in s) some) (flat_map (rules_in t) some)
  rows-turn [] told fit each = TurnsInto-same rule_kind []
  rows-turn (r ∷ rest) told fit each =
      let one = and_parts (is_told_apart r.per r) (list_all (λ b. is_below r b || are_apart r.per r b.per b) rest && are_told_apart rest) told in
      let two = and_parts (list_all (λ b. is_below r b || are_apart r.per r b.per b) rest) (are_told_apart rest) one.1 in
      let three = and_parts (is_fit r) (list_all is_fit rest) fit in
      turns-append (rules_in s r) (rules_in t r) (flat_map (rules_in s) rest) (flat_map (rules_in t) rest) (each r (inl refl))
      (rows-turn rest two.1 three.1 (λ row h. each row (inr h)))
      (λ x y in_x in_y like. apart two.0 three.0 three.1 x y like in_x in_y)
    where
      pair : (u v : StateView) → AreOwners o u → AreOwners o v → list_all (λ b. is_below r b || are_apart r.per r b.per b) rest ≡ true → is_fit r ≡ true → list_all is_fit rest ≡ true
          → (x y : Rule) → alike x y ≡ true → Has (rules_in u r) x → Has (flat_map (rules_in v) rest) y → ⊥
      pair u v own_u own_v told fit fits' x y like in_x in_y =
          let here : OfMap (rule_of r) (items r.per u) x = of_map (rule_of r) (items r.per u) x in_x in
          let there : OfSomeRow v rest y = of_row v rest y in_y in
          rows-apart o u v own_u own_v r there.row here.one there.item (all-has (λ b. is_below r b || are_apart r.per r b.per b) rest there.row told there.there) here.there there.comes
          (alike-meets u v own_u own_v r there.row here.one there.item x y fit (all-has is_fit rest there.row fits' there.there) here.there there.comes here.is there.is like)

      apart : list_all (λ b. is_below r b || are_apart r.per r b.per b) rest ≡ true → is_fit r ≡ true → list_all is_fit rest ≡ true → (x y : Rule) → alike x y ≡ true
          → Either (rules_in s r) (rules_in t r) x → Either (flat_map (rules_in s) rest) (flat_map (rules_in t) rest) y → ⊥
      apart told fit fits' x y like (inl a) (inl b) = pair s s own_s own_s told fit fits' x y like a b
      apart told fit fits' x y like (inl a) (inr b) = pair s t own_s own_t told fit fits' x y like a b
      apart told fit fits' x y like (inr a) (inl b) = pair t s own_t own_s told fit fits' x y like a b
      apart told fit fits' x y like (inr a) (inr b) = pair t t own_t own_t told fit fits' x y like a b

  pub table-turns : RowsTurn rows → TurnsInto rule_kind (table_by_rows s) (table_by_rows t)
  table-turns each = turns-in_order rule_kind (flat_map (rules_in s) rows) (flat_map (rules_in t) rows) (rows-turn rows rows_told each_fit each)

  -- a row turns as each of its networks does, where it tells them

  module _ (row : Row) (pick : NetworkSet) (spread : NetworkPart) (is_row : row.per ≡ EachOf pick spread) (fit : is_fit row ≡ true) (knows : knows_net pick spread row ≡ true) (default : is_of_default pick ≡ true → s.default ≡ t.default) where
    -- the network of a rule's item
    comes-part : (u : StateView) (n : Network) → Has u.networks n → (x : Rule) → Has (part row pick spread u n) x → OfNetwork u row pick spread n x
    comes-part u n there x h =
        let it : OfMap (rule_of row) (items_at pick spread u.default (default_of u) n) x = of_map (rule_of row) (items_at pick spread u.default (default_of u) n) x h in
        let both = of_test (picks pick u.default n) (items_in spread (default_of u) n) it.one it.there in
        record { item = it.one; is = it.is; comes = record { net = n; there = there; picked = both.0; item = both.1 }; same = refl; has = has_at pick spread u n it.one there it.there }

    one-part : (u v : StateView) → AreOwners o u → AreOwners o v → (is_of_default pick ≡ true → u.default ≡ v.default) → (m n : Network) (x y : Rule) → Has u.networks m → Has v.networks n
        → Has (part row pick spread u m) x → Has (part row pick spread v n) y → alike x y ≡ true → m.id ≡ n.id
    one-part u v own_u own_v same m n x y in_u in_v in_x in_y like =
        let one : OfNetwork u row pick spread m x = comes-part u m in_u x in_x in
        let other : OfNetwork v row pick spread n y = comes-part v n in_v y in_y in
        let has_i : Has (items row.per u) one.item = subst (λ per. Has (items per u) one.item) (sym is_row) one.has in
        let has_j : Has (items row.per v) other.item = subst (λ per. Has (items per v) other.item) (sym is_row) other.has in
        let meets : Overlap row row one.item other.item = alike-meets u v own_u own_v row row one.item other.item x y fit fit has_i has_j one.is other.is like in
        sym one.same ∙ (one-net o u v own_u own_v row pick spread one.item other.item one.comes other.comes meets same knows ∙ other.same)

    pub each-turns : (change : Network → Network) → t.networks ≡ map change s.networks → ((n : Network) → Has s.networks n → (change n).id ≡ n.id)
        → Once s.networks → ((m n : Network) → Has s.networks m → Has s.networks n → m.id ≡ n.id → m ≡ n)
        → ((n : Network) → Has s.networks n → TurnsInto rule_kind (part row pick spread s n) (part row pick spread t (change n)))
        → TurnsInto rule_kind (rules_in s row) (rules_in t row)
    each-turns change is same_id once one_id each =
        let old : rules_in s row ≡ flat_map (part row pick spread s) s.networks =
        ap (λ per. map (rule_of row) (items per s)) is_row ∙ map-flat (rule_of row) (items_at pick spread s.default (default_of s)) s.networks in
        let new : rules_in t row ≡ flat_map (λ n. part row pick spread t (change n)) s.networks =
        ap (λ per. map (rule_of row) (items per t)) is_row
        ∙ (map-flat (rule_of row) (items_at pick spread t.default (default_of t)) t.networks
        ∙ (ap (flat_map (part row pick spread t)) is ∙ flat-map (part row pick spread t) change s.networks)) in
        subst (λ rules. TurnsInto rule_kind rules (rules_in t row)) (sym old)
        (subst (λ rules. TurnsInto rule_kind (flat_map (part row pick spread s) s.networks) rules) (sym new)
        (turns-parts (part row pick spread s) (λ n. part row pick spread t (change n)) s.networks once each (λ m n x y in_m in_n in_x in_y like.
        one_id m n in_m in_n (by m n x y in_m in_n in_x in_y like))))
      where
        moved : (n : Network) → Has s.networks n → Has t.networks (change n)
        moved n h = subst (λ ns. Has ns (change n)) (sym is) (has_map change s.networks n h)

        by : (m n : Network) (x y : Rule) → Has s.networks m → Has s.networks n → Either (part row pick spread s m) (part row pick spread t (change m)) x
            → Either (part row pick spread s n) (part row pick spread t (change n)) y → alike x y ≡ true → m.id ≡ n.id
        by m n x y in_m in_n (inl a) (inl b) like = one-part s s own_s own_s (λ d. refl) m n x y in_m in_n a b like
        by m n x y in_m in_n (inl a) (inr b) like = one-part s t own_s own_t default m (change n) x y in_m (moved n in_n) a b like ∙ same_id n in_n
        by m n x y in_m in_n (inr a) (inl b) like = sym (same_id m in_m) ∙ one-part t s own_t own_s (λ d. sym (default d)) (change m) n x y (moved m in_m) in_n a b like
        by m n x y in_m in_n (inr a) (inr b) like = sym (same_id m in_m) ∙ (one-part t t own_t own_t (λ d. refl) (change m) (change n) x y (moved m in_m) (moved n in_n) a b like ∙ same_id n in_n)

-- A change that touches networks alone, each of which keeps its id: the table turns where each network's part of each row does.
module _ (o : Owners) (s t : StateView) (own_s : AreOwners o s) (own_t : AreOwners o t) (once : Once s.networks) (one_id : (m n : Network) → Has s.networks m → Has s.networks n → m.id ≡ n.id → m ≡ n)
    (same_default : s.default ≡ t.default) (same_lockdown : s.lockdown ≡ t.lockdown) (same_pairs : s.pairs ≡ t.pairs)
    (change : Network → Network) (is : t.networks ≡ map change s.networks) (same_id : (n : Network) → Has s.networks n → (change n).id ≡ n.id) where
  by_per : (row : Row) (per : OnePer) → row.per ≡ per → is_told_apart per row ≡ true → is_fit row ≡ true
      → ((pick : NetworkSet) (spread : NetworkPart) → row.per ≡ EachOf pick spread → (n : Network) → Has s.networks n → TurnsInto rule_kind (part row pick spread s n) (part row pick spread t (change n)))
      → TurnsInto rule_kind (rules_in s row) (rules_in t row)
  by_per row OncePer e told fit each = same-items s t row (ap (λ per. items per s) e ∙ sym (ap (λ per. items per t) e))
  by_per row EachLockdown e told fit each = same-items s t row (ap (λ per. items per s) e ∙ (ap (map range_item) same_lockdown ∙ sym (ap (λ per. items per t) e)))
  by_per row EachPair e told fit each = same-items s t row (ap (λ per. items per s) e ∙ (ap (map pair_item) same_pairs ∙ sym (ap (λ per. items per t) e)))
  by_per row (EachOf pick spread) e told fit each =
      each-turns o s t own_s own_t row pick spread e fit told (λ d. same_default) change is same_id once one_id (each pick spread e)

  pub networks-turn : ((row : Row) (pick : NetworkSet) (spread : NetworkPart) → Has rows row → row.per ≡ EachOf pick spread → (n : Network) → Has s.networks n
      → TurnsInto rule_kind (part row pick spread s n) (part row pick spread t (change n)))
      → TurnsInto rule_kind (table_by_rows s) (table_by_rows t)
  networks-turn each = table-turns o s t own_s own_t (λ row there.
      by_per row row.per refl (all-has (λ (row : Row). is_told_apart row.per row) rows row each_told there) (all-has is_fit rows row each_fit there) (λ pick spread e. each row pick spread there e))
