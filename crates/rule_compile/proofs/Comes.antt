-- Changes that touch networks, each for all rows: an interface comes, users come, a permission is replaced.
use Rattle.std.proofs.Common.{◌≡◌, ◌∙◌, ℕ, Bool, true, false, Some, None, List, [], ◌∷◌, ◌++◌, refl, sym, ap, subst, map}
use Rattle.std.specs.Prelude.{◌||◌, ◌==◌, flat_map, if◌then◌else◌}
use Rattle.std.proofs.lemmas.Bool.{false≢true, and_parts}
use Rattle.rule_law.specs.Parts.{TurnsInto}
use Rattle.rule_law.proofs.Turning.{TurnsInto-same}
use Rattle.rule_match.specs.declared.rule.Rule.{Rule}
use Rattle.rule_kinds.specs.Kind.{rule_kind}
use Rattle.rule_kinds.specs.KindLaws.{alike}
use Rattle.rule_match.proofs.Sames.{same_selectors-true}
use Rattle.fwmark.specs.declared.permission.Permission.{Permission}
use Rattle.uid_ranges.specs.Range.{holds}
use Rattle.uid_ranges.specs.declared.range.UidRange.{UidRange}
use Rattle.networks.specs.Network.{has_link}
use Rattle.policy_state.specs.Step.{with_link}
use Rattle.rule_compile.proofs.Changes.{Touches, more_users, with_interface, with_users}
use Rattle.uid_ranges.specs.declared.ranked.Ranked.{Ranked}
use Rattle.networks.specs.declared.kind.Kind.{Kind}
use Rattle.networks.specs.declared.kind.Kind.TheVariants.{Local, Physical, Virtual}
use Rattle.networks.specs.declared.network.Network.{Network}
use Rattle.policy_state.specs.View.{StateView}
use Rattle.policy_state.specs.Rows.{default_of, items_in, picks, links_of, needs_of, user_item}
use Rattle.policy_state.specs.declared.row.Item.{Item}
use Rattle.policy_state.specs.declared.row.Row.{Row}
use Rattle.policy_state.specs.declared.row.NetworkSet.{NetworkSet}
use Rattle.policy_state.specs.declared.row.NetworkPart.{NetworkPart}
use Rattle.policy_state.specs.declared.row.NetworkPart.TheVariants.{Whole, EachInterface, EachRange, EachDefault}
use Rattle.policy_state.specs.declared.row.OnePer.TheVariants.{EachOf}
use Rattle.networks.specs.Kinds.{ranges_of}
use Rattle.policy_state.specs.Table.{rule_of, rows, table_by_rows}
use Rattle.policy_state.proofs.RowTests.{is_fit, is_own, is_ranged, is_split, shows_link, knows_net, is_single, is_to_link, tells_item, each_fit, each_single}
use Rattle.policy_state.proofs.Owners.{Has, Once, Owners}
use Rattle.policy_state.proofs.RowItems.{part, has_map, has_front, has_behind, map-flat}
use Rattle.policy_state.proofs.AlikeRules.{all-has}
use Rattle.policy_state.proofs.EachOnce.{part-once}
use Rattle.policy_state.proofs.OneNetwork.{own-users}
use Rattle.policy_state.proofs.SharedPackets.{holds_first}
use Rattle.rule_compile.proofs.Growing.{spread_over, users-come, once-apart, in-link, in-other, part-grows}
use Rattle.rule_compile.proofs.Picking.{IsLike, picks-alike, picks-same}
use Rattle.rule_compile.proofs.Turning.{networks-turn}

pub more-like : (more : List Ranked) (k : Kind) → IsLike (more_users more k) k
more-like more Local = record { class = refl; permission = refl; free = refl; secure = refl; bypass = refl }
more-like more (Physical permission apps) = record { class = refl; permission = refl; free = refl; secure = refl; bypass = refl }
more-like more (Virtual secure users) = record { class = refl; permission = refl; free = refl; secure = refl; bypass = refl }

module _ (o : Owners) (s t : StateView) (change : Network → Network) (touches : Touches o s t change) where
  pub touched-turn : ((row : Row) (pick : NetworkSet) (spread : NetworkPart) → Has rows row → row.per ≡ EachOf pick spread → (n : Network) → Has s.networks n
      → TurnsInto rule_kind (part row pick spread s n) (part row pick spread t (change n)))
      → TurnsInto rule_kind (table_by_rows s) (table_by_rows t)
  touched-turn each =
      networks-turn o s t touches.good_old.owns touches.good_new.owns touches.once_old.networks touches.good_old.one_id touches.default touches.lockdown touches.pairs change touches.networks touches.ids each

  moved : (n : Network) → Has s.networks n → Has t.networks (change n)
  moved n h = subst (λ ns. Has ns (change n)) (sym touches.networks) (has_map change s.networks n h)

  new-once : (row : Row) (pick : NetworkSet) (spread : NetworkPart) → Has rows row → row.per ≡ EachOf pick spread → (n : Network) → Has s.networks n → Once (part row pick spread t (change n))
  new-once row pick spread there is n in_n =
      part-once o t touches.good_new touches.once_new row pick spread is
      (all-has (λ (row : Row). is_single row.per row) rows row each_single there) (all-has is_fit rows row each_fit there) (change n) (moved n in_n)

-- An interface comes to one network, unless it is there, or to none.
module _ (o : Owners) (s t : StateView) (net link : ℕ) (touches : Touches o s t (λ n. if net == n.id then with_link link n else n))
    (behind : List ℕ) (links : links_of (default_of t) ≡ links_of (default_of s) ++ behind) (needs : needs_of (default_of t) ≡ needs_of (default_of s)) where
  abbrev change : Network → Network
  change n = if net == n.id then with_link link n else n

  grown : (spread : NetworkPart) (n : Network) (b c : Bool)
      → (more : List Item) × (items_in spread (default_of t) (if b then (if c then n else with_interface link n) else n) ≡ items_in spread (default_of s) n ++ more)
  grown spread n true true = in-other s t n spread behind links needs
  grown spread n true false = in-link s t n link spread behind links needs
  grown spread n false c = in-other s t n spread behind links needs

  same-picked : (pick : NetworkSet) (n : Network) (b c : Bool) → picks pick t.default (if b then (if c then n else with_interface link n) else n) ≡ picks pick s.default n
  same-picked pick n true true = ap (λ d. picks pick d n) (sym touches.default)
  same-picked pick n true false = ap (λ d. picks pick d (with_interface link n)) (sym touches.default) ∙ picks-same pick s.default (with_interface link n) n refl refl
  same-picked pick n false c = ap (λ d. picks pick d n) (sym touches.default)

  pub interface-comes : TurnsInto rule_kind (table_by_rows s) (table_by_rows t)
  interface-comes = touched-turn o s t change touches (λ row pick spread there is n in_n.
      part-grows row pick spread s t n (change n) (same-picked pick n (net == n.id) (has_link n link)) (grown spread n (net == n.id) (has_link n link)) (new-once o s t change touches row pick spread there is n in_n))

maps : (row : Row) (n : Network) (rs : List Ranked) (links : List ℕ) → flat_map (λ link. map (rule_of row) (map (user_item n link) rs)) links ≡ spread_over (λ link r. rule_of row (user_item n link r)) rs links
maps row n rs [] = refl
maps row n rs (l ∷ links) = ap (λ zs. zs ++ flat_map (λ link. map (rule_of row) (map (user_item n link) rs)) links) (map-map (rule_of row) (user_item n l) rs) ∙ ap (λ zs. map (λ r. rule_of row (user_item n l r)) rs ++ zs) (maps row n rs links)
  where
    map-map : {A B C : Type 0} (f : B → C) (g : A → B) (xs : List A) → map f (map g xs) ≡ map (λ x. f (g x)) xs
    map-map f g [] = refl
    map-map f g (x ∷ xs) = ap (λ zs. f (g x) ∷ zs) (map-map f g xs)

tested : (row : Row) (b : Bool) (old new : List Item) → TurnsInto rule_kind (map (rule_of row) old) (map (rule_of row) new)
    → TurnsInto rule_kind (map (rule_of row) (if b then old else [])) (map (rule_of row) (if b then new else []))
tested row true old new h = h
tested row false old new h = TurnsInto-same rule_kind []

stays : (row : Row) (old new : List Item) → new ≡ old → TurnsInto rule_kind (map (rule_of row) old) (map (rule_of row) new)
stays row old new e = subst (λ (zs : List Item). TurnsInto rule_kind (map (rule_of row) old) (map (rule_of row) zs)) (sym e) (TurnsInto-same rule_kind (map (rule_of row) old))

-- Ranges come to one network that has ranges.
module _ (o : Owners) (s t : StateView) (net : ℕ) (more : List Ranked) (touches : Touches o s t (λ n. if net == n.id then with_users more n else n))
    (has_ranges : (n : Network) → Has s.networks n → (net == n.id) ≡ true → ranges_of (more_users more n.kind) ≡ ranges_of n.kind ++ more)
    (home : (n : Network) → (spread : NetworkPart) → is_split spread ≡ true → items_in spread (default_of t) n ≡ items_in spread (default_of s) n) where
  abbrev change' : Network → Network
  change' n = if net == n.id then with_users more n else n

  -- but for the network's users the items stay
  items-stay : (spread : NetworkPart) (n : Network) → is_ranged spread ≡ false → items_in spread (default_of t) (with_users more n) ≡ items_in spread (default_of s) n
  items-stay Whole n plain = ap (λ (p : Permission). let it : Item = record { net = n.id; needs = p; incoming = 0; link = 0; users = None; rank = 0 } in it ∷ []) (more-like more n.kind).permission
  items-stay EachInterface n plain = ap (λ (p : Permission). map (λ (link : ℕ). let it : Item = record { net = n.id; needs = p; incoming = link; link = link; users = None; rank = 0 } in it) n.interfaces) (more-like more n.kind).permission
  items-stay EachRange n plain = absurd (false≢true (sym plain))
  items-stay EachDefault n plain = home n EachDefault refl

  users-are : (n : Network) → ranges_of (more_users more n.kind) ≡ ranges_of n.kind ++ more
      → items_in EachRange (default_of t) (with_users more n) ≡ flat_map (λ link. map (user_item n link) (ranges_of n.kind ++ more)) n.interfaces
  users-are n ranges =
      ap (λ (p : Permission). flat_map (λ (link : ℕ). map (λ (r : Ranked). let it : Item = record { net = n.id; needs = p; incoming = link; link = link; users = Some r.users; rank = r.rank } in it) (ranges_of (more_users more n.kind))) n.interfaces) (more-like more n.kind).permission
      ∙ ap (λ rs. flat_map (λ link. map (user_item n link) rs) n.interfaces) ranges

  unlike : (row : Row) (pick : NetworkSet) → is_own row.users ≡ true → (n : Network) → Has s.networks n → (net == n.id) ≡ true → (l k : ℕ) (r q : Ranked)
      → Has (ranges_of n.kind) r → Has more q → alike (rule_of row (user_item n k q)) (rule_of row (user_item n l r)) ≡ true → ⊥
  unlike row pick own n in_n here l k r q in_r in_q like =
      let n' : Network = with_users more n in
      let in_t : Has t.networks n' = subst (λ (m : Network). Has t.networks m) (ap (λ b. if b then with_users more n else n) here) (moved o s t change' touches n in_n) in
      let uids = (same_selectors-true (rule_of row (user_item n k q)) (rule_of row (user_item n l r)) (and_parts _ _ like).1).uids in
      let both : Some q.users ≡ Some r.users = sym (own-users row.users (Some q.users) own) ∙ (uids ∙ own-users row.users (Some r.users) own) in
      let users : q.users ≡ r.users = cc in
      let ranges : ranges_of n'.kind ≡ ranges_of n.kind ++ more = has_ranges n in_n here in
      let old : Has (ranges_of n'.kind) r = subst (λ (rs : List Ranked). Has rs r) (sym ranges) (has_front (ranges_of n.kind) more r in_r) in
      let new : Has (ranges_of n'.kind) q = subst (λ (rs : List Ranked). Has rs q) (sym ranges) (has_behind (ranges_of n.kind) more q in_q) in
      let same : q ≡ r = (touches.good_new.owns n' in_t).disjoint q r q.users.first.number new old (holds_first q.users)
      (subst (λ (u : UidRange). holds u q.users.first.number ≡ true) users (holds_first q.users)) in
      once-apart (ranges_of n.kind) more (subst (λ (rs : List Ranked). Once rs) ranges (touches.once_new.ranges n' in_t)) r in_r (subst (λ (q : Ranked). Has more q) same in_q)

  part-users : (row : Row) (pick : NetworkSet) (spread : NetworkPart) → is_single (EachOf pick spread) row ≡ true → (n : Network) → Has s.networks n → (net == n.id) ≡ true
      → TurnsInto rule_kind (map (rule_of row) (items_in spread (default_of s) n)) (map (rule_of row) (items_in spread (default_of t) (with_users more n)))
  part-users row pick EachRange single n in_n here =
      let own : is_own row.users ≡ true = (and_parts (shows_link EachRange row || is_to_link row.target) (is_own row.users) (and_parts (knows_net pick EachRange row) (tells_item EachRange row) single).1).1 in
      let f : ℕ → Ranked → Rule = λ link r. rule_of row (user_item n link r) in
      let rule_map : (rs : List Ranked) → map (rule_of row) (flat_map (λ link. map (user_item n link) rs) n.interfaces) ≡ spread_over f rs n.interfaces = λ rs.
      map-flat (rule_of row) (λ link. map (user_item n link) rs) n.interfaces ∙ maps row n rs n.interfaces in
      subst (λ rules. TurnsInto rule_kind rules (map (rule_of row) (items_in EachRange (default_of t) (with_users more n)))) (sym (rule_map (ranges_of n.kind)))
      (subst (λ rules. TurnsInto rule_kind (spread_over f (ranges_of n.kind) n.interfaces) rules)
      (sym (ap (map (rule_of row)) (users-are n (has_ranges n in_n here)) ∙ rule_map (ranges_of n.kind ++ more)))
      (users-come f n.interfaces (ranges_of n.kind) more (λ l k r q in_l in_k in_r in_q like. unlike row pick own n in_n here l k r q in_r in_q like)))
  part-users row pick Whole single n in_n here = stays row (items_in Whole (default_of s) n) (items_in Whole (default_of t) (with_users more n)) (items-stay Whole n refl)
  part-users row pick EachInterface single n in_n here = stays row (items_in EachInterface (default_of s) n) (items_in EachInterface (default_of t) (with_users more n)) (items-stay EachInterface n refl)
  part-users row pick EachDefault single n in_n here = stays row (items_in EachDefault (default_of s) n) (items_in EachDefault (default_of t) (with_users more n)) (items-stay EachDefault n refl)

  pub users-come-turn : TurnsInto rule_kind (table_by_rows s) (table_by_rows t)
  users-come-turn = touched-turn o s t change' touches (λ row pick spread there is n in_n.
      by row pick spread (ap (λ per. is_single per row) (sym is) ∙ all-has (λ (row : Row). is_single row.per row) rows row each_single there) n in_n (net == n.id) refl)
    where
      by : (row : Row) (pick : NetworkSet) (spread : NetworkPart) → is_single (EachOf pick spread) row ≡ true → (n : Network) → Has s.networks n → (b : Bool) → (net == n.id) ≡ b
          → TurnsInto rule_kind (part row pick spread s n) (part row pick spread t (if b then with_users more n else n))
      by row pick spread single n in_n true here =
          let picked : picks pick t.default (with_users more n) ≡ picks pick s.default n = ap (λ d. picks pick d (with_users more n)) (sym touches.default) ∙ picks-alike pick s.default (with_users more n) n refl (more-like more n.kind) in
          subst (λ b. TurnsInto rule_kind (part row pick spread s n) (map (rule_of row) (if b then items_in spread (default_of t) (with_users more n) else []))) (sym picked)
          (tested row (picks pick s.default n) (items_in spread (default_of s) n) (items_in spread (default_of t) (with_users more n)) (part-users row pick spread single n in_n here))
      by row pick spread single n in_n false other =
          subst (λ (zs : List Item). TurnsInto rule_kind (part row pick spread s n) (map (rule_of row) zs))
          (ap (λ d. if picks pick d n then items_in spread (default_of s) n else []) touches.default
          ∙ ap (λ (zs : List Item). if picks pick t.default n then zs else []) (sym (same-home spread n)))
          (TurnsInto-same rule_kind (part row pick spread s n))
        where
          same-home : (spread : NetworkPart) (n : Network) → items_in spread (default_of t) n ≡ items_in spread (default_of s) n
          same-home Whole n = refl
          same-home EachInterface n = refl
          same-home EachRange n = refl
          same-home EachDefault n = home n EachDefault refl
