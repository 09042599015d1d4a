-- No row asks for a network's routes.
use Rattle.std.proofs.Common.{◌≡◌, ◌∙◌, ℕ, Bool, true, false, Option, Some, None, List, [], ◌++◌, refl, ap, map}
use Rattle.std.specs.Prelude.{flat_map, if◌then◌else◌}
use Rattle.std.specs.Option.{option_map}
use Rattle.networks.specs.declared.network.Network.{Network}
use Rattle.policy_state.specs.Rows.{items_at, items_in, picks, links_of, needs_of, split_item}
use Rattle.policy_state.specs.Table.{rows, rule_of}
use Rattle.policy_state.specs.declared.row.Item.{Item}
use Rattle.policy_state.specs.declared.row.NetworkPart.{NetworkPart}
use Rattle.policy_state.specs.declared.row.NetworkPart.TheVariants.{Whole, EachInterface, EachRange, EachDefault}
use Rattle.policy_state.specs.declared.row.NetworkSet.{NetworkSet}
use Rattle.policy_state.specs.declared.row.OnePer.{OnePer}
use Rattle.policy_state.specs.declared.row.OnePer.TheVariants.{Once, EachLockdown, EachPair, EachOf}
use Rattle.policy_state.specs.declared.row.Row.{Row}
use Rattle.rule_compile.specs.PartOf.{unrouted_part}
use Rattle.rule_compile.specs.Shapes.{unrouted}
use Rattle.rule_compile.specs.Touched.{Part, reaches, items_of, part_items, part_rules, listed}
use Rattle.rule_compile.proofs.TouchedItems.{picks-linked}
use Rattle.rule_compile.proofs.TouchedNetworks.{flat-alike, flat-none}

pub items-unrouted : (pick : NetworkSet) (spread : NetworkPart) (d : Option ℕ) (home : Option Network) (n : Network) → items_at pick spread d home (unrouted n) ≡ items_at pick spread d home n
items-unrouted pick Whole d home n = ap (λ b. if b then items_in Whole home n else []) (picks-linked pick d n n.interfaces [])
items-unrouted pick EachInterface d home n = ap (λ b. if b then items_in EachInterface home n else []) (picks-linked pick d n n.interfaces [])
items-unrouted pick EachRange d home n = ap (λ b. if b then items_in EachRange home n else []) (picks-linked pick d n n.interfaces [])
items-unrouted pick EachDefault d home n = ap (λ b. if b then items_in EachDefault home n else []) (picks-linked pick d n n.interfaces [])

home-unrouted : (pick : NetworkSet) (spread : NetworkPart) (d : Option ℕ) (home : Option Network) (n : Network) → items_at pick spread d (option_map unrouted home) n ≡ items_at pick spread d home n
home-unrouted pick spread d None n = refl
home-unrouted pick Whole d (Some m) n = refl
home-unrouted pick EachInterface d (Some m) n = refl
home-unrouted pick EachRange d (Some m) n = refl
home-unrouted pick EachDefault d (Some m) n = refl

pub networks-unrouted : (pick : NetworkSet) (spread : NetworkPart) (d : Option ℕ) (home : Option Network) (ns : List Network)
    → flat_map (items_at pick spread d (option_map unrouted home)) ns ≡ flat_map (items_at pick spread d home) ns
networks-unrouted pick spread d home ns = flat-alike (items_at pick spread d (option_map unrouted home)) (items_at pick spread d home) ns (λ n h. home-unrouted pick spread d home n)

net-unrouted : (pick : NetworkSet) (spread : NetworkPart) (d : Option ℕ) (net : Option Network) → items_of pick spread d (option_map unrouted net) ≡ items_of pick spread d net
net-unrouted pick spread d None = refl
net-unrouted pick spread d (Some n) = items-unrouted pick spread d None n

split-unrouted : (pick : NetworkSet) (d : Option ℕ) (home : Option Network) (others : Option (List Network)) (net : Option Network)
    → flat_map (items_at pick EachDefault d (option_map unrouted home)) (elim others [ Some ns ↦ ns | None ↦ listed (option_map unrouted net) ])
    ≡ flat_map (items_at pick EachDefault d home) (elim others [ Some ns ↦ ns | None ↦ listed net ])
split-unrouted pick d home (Some ns) net = networks-unrouted pick EachDefault d home ns
split-unrouted pick d home None None = refl
split-unrouted pick d home None (Some n) = ap (λ (xs : List Item). xs ++ []) (home-unrouted pick EachDefault d home (unrouted n) ∙ items-unrouted pick EachDefault d home n)

part-unrouted : (per : OnePer) (p : Part) → part_items per (unrouted_part p) ≡ part_items per p
part-unrouted Once p = refl
part-unrouted EachLockdown p = refl
part-unrouted EachPair p = refl
part-unrouted (EachOf pick Whole) p = ap (λ xs. if reaches p.extent pick Whole then xs else []) (net-unrouted pick Whole p.default p.net)
part-unrouted (EachOf pick EachInterface) p = ap (λ xs. if reaches p.extent pick EachInterface then xs else []) (net-unrouted pick EachInterface p.default p.net)
part-unrouted (EachOf pick EachRange) p = ap (λ xs. if reaches p.extent pick EachRange then xs else []) (net-unrouted pick EachRange p.default p.net)
part-unrouted (EachOf pick EachDefault) p = split-unrouted pick p.default p.home p.others p.net

pub rules-unrouted : (p : Part) → part_rules (unrouted_part p) ≡ part_rules p
rules-unrouted p =
    flat-alike (λ (row : Row). map (rule_of row) (part_items row.per (unrouted_part p))) (λ (row : Row). map (rule_of row) (part_items row.per p)) rows
    (λ row h. ap (map (rule_of row)) (part-unrouted row.per p))

-- no rule is split where the default network has no interface that is touched
pub split-empty : (pick : NetworkSet) (d : Option ℕ) (home : Option Network) (ns : List Network) → links_of home ≡ [] → flat_map (items_at pick EachDefault d home) ns ≡ []
split-empty pick d home ns none = flat-none (items_at pick EachDefault d home) ns (λ n h. at n (picks pick d n))
  where
    at : (n : Network) (b : Bool) → (if b then items_in EachDefault home n else []) ≡ []
    at n true = ap (λ (links : List ℕ). map (split_item n (needs_of home)) links) none
    at n false = refl
