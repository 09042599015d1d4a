-- The items of one network, cut where it gets or loses an interface or ranges.
use Rattle.std.proofs.Common.{◌≡◌, ◌∙◌, ℕ, Bool, false, Option, Some, None, List, [], ◌∷◌, refl, sym, subst, map}
use Rattle.std.specs.Prelude.{flat_map, if◌then◌else◌}
use Rattle.std.proofs.lemmas.Bool.{false≢true}
use Rattle.fwmark.specs.declared.permission.Permission.{Permission}
use Rattle.networks.specs.Kinds.{permission_of, ranges_of}
use Rattle.networks.specs.declared.kind.Kind.{Kind}
use Rattle.networks.specs.declared.kind.Kind.TheVariants as kind
use Rattle.networks.specs.declared.network.LinkRoute.{LinkRoute}
use Rattle.networks.specs.declared.network.Network.{Network}
use Rattle.policy_state.specs.Rows.{picks, items_at}
use Rattle.policy_state.specs.declared.row.Item.{Item}
use Rattle.policy_state.specs.declared.row.NetworkSet.{NetworkSet}
use Rattle.policy_state.specs.declared.row.NetworkPart.{NetworkPart}
use Rattle.policy_state.specs.declared.row.NetworkPart.TheVariants.{Whole, EachInterface, EachRange, EachDefault}
use Rattle.policy_state.specs.declared.row.OnePer.TheVariants.{EachOf}
use Rattle.uid_ranges.specs.declared.ranked.Ranked.{Ranked}
use Rattle.policy_state.specs.View.{StateView}
use Rattle.policy_state.proofs.RowTests.{is_split}
use Rattle.rule_compile.specs.Touched.{reaches, part_items, link_part, ranges_part, kind_having, with_ranges_alone}
use Rattle.rule_compile.specs.declared.part.Extent.TheVariants as extent
use Rattle.rule_compile.proofs.Cutting.{Cut, Ends, all-stay, cut-map, cut-over, cut-test, cut-each}
use Rattle.rule_compile.proofs.Picking.{IsLike, picks-alike, picks-same}

-- what a network gives a row that isn't split
abbrev pub own : NetworkSet → NetworkPart → Option ℕ → Network → List Item
own pick spread d n = items_at pick spread d None n

-- it is made from these
abbrev made : NetworkPart → Bool → ℕ → Permission → List ℕ → List Ranked → List Item
made Whole picked id needs links ranges = if picked then record { net = id; needs = needs; incoming = 0; link = 0; users = None; rank = 0 } ∷ [] else []
made EachInterface picked id needs links ranges = if picked then map (λ link. record { net = id; needs = needs; incoming = link; link = link; users = None; rank = 0 }) links else []
made EachRange picked id needs links ranges =
    if picked then flat_map (λ link. map (λ (r : Ranked). record { net = id; needs = needs; incoming = link; link = link; users = Some r.users; rank = r.rank }) ranges) links else []
made EachDefault picked id needs links ranges = []

own-made : (pick : NetworkSet) (spread : NetworkPart) → is_split spread ≡ false → (d : Option ℕ) (n : Network) (picked : Bool) (id : ℕ) (needs : Permission) (links : List ℕ) (ranges : List Ranked)
    → picks pick d n ≡ picked → n.id ≡ id → permission_of n.kind ≡ needs → n.interfaces ≡ links → ranges_of n.kind ≡ ranges → own pick spread d n ≡ made spread picked id needs links ranges
own-made pick Whole plain d n picked id needs links ranges a b c e f = λ i. made Whole (a i) (b i) (c i) (e i) (f i)
own-made pick EachInterface plain d n picked id needs links ranges a b c e f = λ i. made EachInterface (a i) (b i) (c i) (e i) (f i)
own-made pick EachRange plain d n picked id needs links ranges a b c e f = λ i. made EachRange (a i) (b i) (c i) (e i) (f i)
own-made pick EachDefault plain d n picked id needs links ranges a b c e f = absurd (false≢true (sym plain))

cut-by : (stay stay' part part' whole whole' : List Item) → stay ≡ stay' → part ≡ part' → whole ≡ whole' → Cut stay' part' whole' → Cut stay part whole
cut-by stay stay' part part' whole whole' a b c h =
    subst (λ xs. Cut xs part whole) (sym a) (subst (λ xs. Cut stay' xs whole) (sym b) (subst (λ xs. Cut stay' part' xs) (sym c) h))

module _ (picked : Bool) (id : ℕ) (needs : Permission) where
  made-links : (pick : NetworkSet) (spread : NetworkPart) (stay part whole : List ℕ) (ranges : List Ranked) → Cut stay part whole
      → Cut (made spread picked id needs stay ranges) (if reaches extent.Links pick spread then made spread picked id needs part ranges else []) (made spread picked id needs whole ranges)
  made-links pick Whole stay part whole ranges cut = all-stay (made Whole picked id needs stay ranges)
  made-links pick EachInterface stay part whole ranges cut =
      let item : ℕ → Item = λ link. record { net = id; needs = needs; incoming = link; link = link; users = None; rank = 0 } in
      cut-test picked (map item stay) (map item part) (map item whole) (cut-map item stay part whole cut)
  made-links pick EachRange stay part whole ranges cut =
      let items : ℕ → List Item = λ link. map (λ (r : Ranked). record { net = id; needs = needs; incoming = link; link = link; users = Some r.users; rank = r.rank }) ranges in
      cut-test picked (flat_map items stay) (flat_map items part) (flat_map items whole) (cut-over items stay part whole cut)
  made-links pick EachDefault stay part whole ranges cut = Ends

  made-ranges : (pick : NetworkSet) (spread : NetworkPart) (links : List ℕ) (stay part whole : List Ranked) → Cut stay part whole
      → Cut (made spread picked id needs links stay) (if reaches extent.Ranges pick spread then made spread picked id needs links part else []) (made spread picked id needs links whole)
  made-ranges pick Whole links stay part whole cut = all-stay (made Whole picked id needs links stay)
  made-ranges pick EachInterface links stay part whole cut = all-stay (made EachInterface picked id needs links stay)
  made-ranges pick EachRange links stay part whole cut =
      let item : ℕ → Ranked → Item = λ link r. record { net = id; needs = needs; incoming = link; link = link; users = Some r.users; rank = r.rank } in
      cut-test picked (flat_map (λ link. map (item link) stay) links) (flat_map (λ link. map (item link) part) links) (flat_map (λ link. map (item link) whole) links)
      (cut-each (λ link. map (item link) stay) (λ link. map (item link) part) (λ link. map (item link) whole) links (λ link h. cut-map (item link) stay part whole cut))
  made-ranges pick EachDefault links stay part whole cut = Ends

-- Interfaces.

abbrev pub with_links : Network → List ℕ → List LinkRoute → Network
with_links n links routes = record n { interfaces = links; routes = routes }

pub picks-linked : (pick : NetworkSet) (d : Option ℕ) (n : Network) (links : List ℕ) (routes : List LinkRoute) → picks pick d (with_links n links routes) ≡ picks pick d n
picks-linked pick d n links routes = picks-same pick d (with_links n links routes) n refl refl

own-linked : (pick : NetworkSet) (spread : NetworkPart) → is_split spread ≡ false → (d : Option ℕ) (n : Network) (links : List ℕ) (routes : List LinkRoute)
    → own pick spread d (with_links n links routes) ≡ made spread (picks pick d n) n.id (permission_of n.kind) links (ranges_of n.kind)
own-linked pick spread plain d n links routes =
    own-made pick spread plain d (with_links n links routes) (picks pick d n) n.id (permission_of n.kind) links (ranges_of n.kind) (picks-linked pick d n links routes) refl refl refl refl

-- routes don't matter
pub own-same : (pick : NetworkSet) (spread : NetworkPart) → is_split spread ≡ false → (d : Option ℕ) (n : Network) (routes : List LinkRoute) → own pick spread d (with_links n n.interfaces routes) ≡ own pick spread d n
own-same pick spread plain d n routes = own-linked pick spread plain d n n.interfaces routes ∙ sym (own-linked pick spread plain d n n.interfaces n.routes)

part-linked : (s : StateView) (n : Network) (link : ℕ) (pick : NetworkSet) (spread : NetworkPart) → is_split spread ≡ false
    → part_items (EachOf pick spread) (link_part s n link) ≡ (if reaches extent.Links pick spread then made spread (picks pick s.default n) n.id (permission_of n.kind) (link ∷ []) (ranges_of n.kind) else [])
part-linked s n link pick Whole plain = refl
part-linked s n link pick EachInterface plain = own-linked pick EachInterface plain s.default n (link ∷ []) n.routes
part-linked s n link pick EachRange plain = own-linked pick EachRange plain s.default n (link ∷ []) n.routes
part-linked s n link pick EachDefault plain = absurd (false≢true (sym plain))

pub own-links : (s : StateView) (n : Network) (link : ℕ) (stay whole : List ℕ) (routes more : List LinkRoute) → Cut stay (link ∷ []) whole
    → (pick : NetworkSet) (spread : NetworkPart) → is_split spread ≡ false
    → Cut (own pick spread s.default (with_links n stay routes)) (part_items (EachOf pick spread) (link_part s n link)) (own pick spread s.default (with_links n whole more))
own-links s n link stay whole routes more cut pick spread plain =
    let picked : Bool = picks pick s.default n in
    let needs : Permission = permission_of n.kind in
    cut-by (own pick spread s.default (with_links n stay routes)) (made spread picked n.id needs stay (ranges_of n.kind))
    (part_items (EachOf pick spread) (link_part s n link)) (if reaches extent.Links pick spread then made spread picked n.id needs (link ∷ []) (ranges_of n.kind) else [])
    (own pick spread s.default (with_links n whole more)) (made spread picked n.id needs whole (ranges_of n.kind))
    (own-linked pick spread plain s.default n stay routes) (part-linked s n link pick spread plain) (own-linked pick spread plain s.default n whole more)
    (made-links picked n.id needs pick spread stay (link ∷ []) whole (ranges_of n.kind) cut)

-- Ranges.

abbrev pub with_kind : Network → Kind → Network
with_kind n k = record n { kind = k }

pub having-like : (ranges : List Ranked) (k : Kind) → IsLike (kind_having ranges k) k
having-like ranges kind.Local = record { class = refl; permission = refl; free = refl; secure = refl; bypass = refl }
having-like ranges (kind.Physical permission apps) = record { class = refl; permission = refl; free = refl; secure = refl; bypass = refl }
having-like ranges (kind.Virtual secure users) = record { class = refl; permission = refl; free = refl; secure = refl; bypass = refl }

own-having : (pick : NetworkSet) (spread : NetworkPart) → is_split spread ≡ false → (d : Option ℕ) (n : Network) (ranges : List Ranked)
    → own pick spread d (with_ranges_alone ranges n) ≡ made spread (picks pick d n) n.id (permission_of n.kind) n.interfaces (ranges_of (kind_having ranges n.kind))
own-having pick spread plain d n ranges =
    own-made pick spread plain d (with_ranges_alone ranges n) (picks pick d n) n.id (permission_of n.kind) n.interfaces (ranges_of (kind_having ranges n.kind))
    (picks-alike pick d (with_ranges_alone ranges n) n refl (having-like ranges n.kind)) refl (having-like ranges n.kind).permission refl refl

part-having : (s : StateView) (n : Network) (ranges : List Ranked) (pick : NetworkSet) (spread : NetworkPart) → is_split spread ≡ false
    → part_items (EachOf pick spread) (ranges_part s n ranges)
    ≡ (if reaches extent.Ranges pick spread then made spread (picks pick s.default n) n.id (permission_of n.kind) n.interfaces (ranges_of (kind_having ranges n.kind)) else [])
part-having s n ranges pick Whole plain = refl
part-having s n ranges pick EachInterface plain = refl
part-having s n ranges pick EachRange plain = own-having pick EachRange plain s.default n ranges
part-having s n ranges pick EachDefault plain = absurd (false≢true (sym plain))

kinds-cut : (k : Kind) (stay part whole : List Ranked) → Cut stay part whole → Cut (ranges_of (kind_having stay k)) (ranges_of (kind_having part k)) (ranges_of (kind_having whole k))
kinds-cut kind.Local stay part whole cut = Ends
kinds-cut (kind.Physical permission apps) stay part whole cut = cut
kinds-cut (kind.Virtual secure users) stay part whole cut = cut

pub own-ranges : (s : StateView) (n : Network) (stay part whole : List Ranked) → Cut stay part whole → (pick : NetworkSet) (spread : NetworkPart) → is_split spread ≡ false
    → Cut (own pick spread s.default (with_ranges_alone stay n)) (part_items (EachOf pick spread) (ranges_part s n part)) (own pick spread s.default (with_ranges_alone whole n))
own-ranges s n stay part whole cut pick spread plain =
    let picked : Bool = picks pick s.default n in
    let needs : Permission = permission_of n.kind in
    cut-by (own pick spread s.default (with_ranges_alone stay n)) (made spread picked n.id needs n.interfaces (ranges_of (kind_having stay n.kind)))
    (part_items (EachOf pick spread) (ranges_part s n part)) (if reaches extent.Ranges pick spread then made spread picked n.id needs n.interfaces (ranges_of (kind_having part n.kind)) else [])
    (own pick spread s.default (with_ranges_alone whole n)) (made spread picked n.id needs n.interfaces (ranges_of (kind_having whole n.kind)))
    (own-having pick spread plain s.default n stay) (part-having s n part pick spread plain) (own-having pick spread plain s.default n whole)
    (made-ranges picked n.id needs pick spread n.interfaces (ranges_of (kind_having stay n.kind)) (ranges_of (kind_having part n.kind)) (ranges_of (kind_having whole n.kind)) (kinds-cut n.kind stay part whole cut))
