-- An index by numbers, with one rule more and with one less.
use Rattle.std.proofs.Common.{◌≡◌, ℕ, List, [], ◌∷◌, ◌++◌, length, sym, ◌∙◌, ap, subst, slice_get, Some, None}
use Rattle.list_lemmas.proofs.Places.{slice_get-last}
use Rattle.rule_law.specs.Rules.{placed, without}
use Rattle.kernel_model.specs.Kind.{rule_kind}
use Rattle.rule_match.specs.declared.rule.Rule.{Rule}
use Rattle.rule_index.specs.declared.spot.Sorting.{Sorting}
use Rattle.rule_index.specs.declared.spot.Sorting.TheVariants.{ByArrival, ByKey}
use Rattle.rule_index.specs.declared.spot.Spot.{Spot}
use Rattle.rule_index.specs.Spots.{flat, keyed_of, standing_by, spot_by, or_own}
use Rattle.rule_index.specs.Sorted.{Rises, put, cut, spots_by}
use Rattle.rule_index.specs.Search.{first_same}
use Rattle.rule_index.specs.Index.{IsIndexed, listed_of, list_of}
use Rattle.rule_index.proofs.Numbers.{order-longer, keyed-longer}
use Rattle.rule_index.proofs.Puts.{index-put, list-put, all-flat}
use Rattle.rule_index.proofs.Cuts.{index-cut, list-cut, absent, without-absent}

module _ (rules : List Rule) (order keyed : List ℕ) (ix : IsIndexed rules order keyed) where
  abbrev by_arrival : List Spot
  by_arrival = spots_by ByArrival rules order

  abbrev by_key : List Spot
  by_key = spots_by ByKey rules keyed

  -- one rule more has arrived
  module _ (more slice : List Rule) (rule : Rule) (is_more : more ≡ rules ++ rule ∷ []) (is : slice ≡ more) where
    order_is : spots_by ByArrival slice order ≡ by_arrival
    order_is = ap (λ (rs : List Rule). spots_by ByArrival rs order) (is ∙ is_more) ∙ order-longer rules (rule ∷ []) order keyed ix

    keyed_is : spots_by ByKey slice keyed ≡ by_key
    keyed_is = ap (λ (rs : List Rule). spots_by ByKey rs keyed) (is ∙ is_more) ∙ keyed-longer rules (rule ∷ []) order keyed ix

    pub order_still_rises : Rises (spots_by ByArrival slice order)
    order_still_rises = subst Rises (sym order_is) ix.order_rises

    pub keyed_still_rises : Rises (spots_by ByKey slice keyed)
    keyed_still_rises = subst Rises (sym keyed_is) ix.keyed_rises

    newest : (sorting : Sorting) (n : ℕ) → n ≡ length rules → spot_by sorting slice n ≡ standing_by sorting rule (length rules)
    newest sorting n last =
        let got : slice_get slice n ≡ Some rule = (λ i. slice_get ((is ∙ is_more) i) (last i)) ∙ slice_get-last rules rule in
        (λ i. standing_by sorting (or_own (got i)) (last i))

    pub order_put : (n : ℕ) (order' : List ℕ) → n ≡ length rules → spots_by ByArrival slice order' ≡ put (spot_by ByArrival slice n) (spots_by ByArrival slice order)
        → spots_by ByArrival more order' ≡ put (flat (keyed_of rule (length rules))) by_arrival
    order_put n order' last puts = ap (λ (rs : List Rule). spots_by ByArrival rs order') (sym is) ∙ puts ∙ (λ i. put (newest ByArrival n last i) (order_is i))

    pub keyed_put : (n : ℕ) (keyed' : List ℕ) → n ≡ length rules → spots_by ByKey slice keyed' ≡ put (spot_by ByKey slice n) (spots_by ByKey slice keyed)
        → spots_by ByKey more keyed' ≡ put (keyed_of rule (length rules)) by_key
    keyed_put n keyed' last puts = ap (λ (rs : List Rule). spots_by ByKey rs keyed') (sym is) ∙ puts ∙ (λ i. put (newest ByKey n last i) (keyed_is i))

  pub put_in : (more : List Rule) (rule : Rule) (order' keyed' : List ℕ) → more ≡ rules ++ rule ∷ []
      → spots_by ByArrival more order' ≡ put (flat (keyed_of rule (length rules))) by_arrival → spots_by ByKey more keyed' ≡ put (keyed_of rule (length rules)) by_key
      → IsIndexed more order' keyed' × (listed_of more order' ≡ placed rule_kind rule (listed_of rules order))
  put_in more rule order' keyed' is_more is_order is_keyed = (
    rw (is_order, is_keyed, is_more) (index-put rules rule by_arrival by_key ix),
    ap (list_of more) is_order ∙ rw is_more (list-put rules rule by_arrival (all-flat rules by_arrival by_key ix)),
  )

  module _ (rule : Rule) where
    pub cut_out : (n : ℕ) (order' keyed' : List ℕ) → first_same rules rule (keyed_of rule 0) by_key ≡ Some (spot_by ByKey rules n)
        → spots_by ByArrival rules order' ≡ cut (spot_by ByArrival rules n) by_arrival → spots_by ByKey rules keyed' ≡ cut (spot_by ByKey rules n) by_key
        → IsIndexed rules order' keyed' × (listed_of rules order' ≡ without rule_kind rule (listed_of rules order))
    cut_out n order' keyed' found is_order is_keyed = (
      rw (is_order, is_keyed) (index-cut rules by_arrival by_key ix rule (spot_by ByKey rules n) found),
      ap (list_of rules) is_order ∙ list-cut rules by_arrival by_key ix rule (spot_by ByKey rules n) found,
    )

    pub none_out : first_same rules rule (keyed_of rule 0) by_key ≡ None → without rule_kind rule (listed_of rules order) ≡ listed_of rules order
    none_out none = without-absent rule (listed_of rules order) (absent rules by_arrival by_key ix rule none)
