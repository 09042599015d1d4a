-- Plans that ask one request in all, and what a kernel stands for when one route has come or gone.
use Rattle.std.proofs.Common.{lit≤, ◌≡◌, ℕ, zero, suc, ◌==◌, ◌≤◌, ◌<◌, Bool, List, [], ◌∷◌, ◌++◌, Some, slice_get, inl, inr, refl, sym, ◌∙◌, ap, arith}
use Rattle.std.specs.Prelude.{◌≢◌}
use Rattle.std.specs.Bool.{if◌then◌else◌}
use Rattle.std.proofs.lemmas.Bool.Decides.{eqb_tells}
use Rattle.std.proofs.lemmas.Option.{slice_get_within}
use Rattle.prefixes.specs.declared.addr.Family.{Family}
use Rattle.prefixes.specs.declared.addr.Family.TheVariants as family
use Rattle.prefixes.specs.declared.route.Route.{Route}
use Rattle.fib_table.specs.Table.{routes_in, without_route}
use Rattle.rule_law.specs.Plans.{GoesOver, GoesOverAndBack}
use Rattle.rule_law.specs.Rules as law
use Rattle.rule_match.specs.declared.packet.Packet.{Packet}
use Rattle.rule_match.specs.declared.rule.Rule.{Rule}
use Rattle.rule_kinds.specs.Kind.{rule_kind}
use Rattle.kernel_model.specs.State.{KernelState, NumberedTable, rules_of, routes_of, put_route, cut_route, own_rule, add, delete}
use Rattle.kernel_model.specs.Journal.{entry, act, replay_from}
use Rattle.kernel_model.specs.Segment.{done, undone, IsSegment}
use Rattle.kernel_model.specs.Stands.{Stands}
use Rattle.kernel_model.specs.Switch.{walk_along}
use Rattle.kernel_model.specs.Walk.{walk}
use Rattle.kernel_model.specs.declared.request.Entry.{Entry}
use Rattle.kernel_model.specs.declared.request.EntryKind.{EntryKind}
use Rattle.kernel_model.specs.declared.request.EntryKind.TheVariants.{Added, Deleted, Refused}
use Rattle.kernel_model.specs.declared.request.Request.{Request}
use Rattle.kernel_model.specs.declared.request.Request.TheVariants as req
use Rattle.kernel_model.proofs.Requests.{routes-put, routes-cut}
use Rattle.kernel_model.proofs.Segments.{Goes, GoesBack, segment_goes_back}

-- a kernel of which one table has changed
module _ (k : KernelState) (rules : List Rule) (routes : List (ℕ × Route)) (n : ℕ) (change : List Route → List Route) (tables : List NumberedTable) (h : Stands k rules routes) (other : n ≢ 255)
    (in_tables : (m : ℕ) → routes_of m tables ≡ (if n == m then change (routes_of m k.tables) else routes_of m k.tables)) where
  table_changed : (routes' : List (ℕ × Route)) → ((m : ℕ) → routes_in m routes' ≡ (if n == m then change (routes_in m routes) else routes_in m routes)) → Stands (record k { tables = tables }) rules routes'
  table_changed routes' listed = record {
    in_family = in_each;
    own_table = in_tables 255 ∙ apart ∙ h.own_table;
    in_table = λ m far. in_tables m ∙ ap (λ rs. if n == m then change rs else rs) (h.in_table m far) ∙ sym (listed m);
  }
    where
      in_each : (f : Family) → law.Stands rule_kind (rules_of (record k { tables = tables }) f) (own_rule ∷ rules)
      in_each family.V4 = h.in_family family.V4
      in_each family.V6 = h.in_family family.V6

      apart : (if n == 255 then change (routes_of 255 k.tables) else routes_of 255 k.tables) ≡ routes_of 255 k.tables
      apart = elim (eqb_tells n 255) [
        | inl (test, same) ↦ absurd (other same)
        | inr (test, differs) ↦ ap (λ (b : Bool). if b then change (routes_of 255 k.tables) else routes_of 255 k.tables) test
      ]

-- where a route is added, the kernel stands for the routes with this one last in its table
pub added_stands : (k : KernelState) (rules : List Rule) (routes routes' : List (ℕ × Route)) (n : ℕ) (r : Route) → Stands k rules routes → n ≢ 255
    → ((m : ℕ) → routes_in m routes' ≡ (if n == m then routes_in m routes ++ r ∷ [] else routes_in m routes)) → Stands (add k (req.Route n r)) rules routes'
added_stands k rules routes routes' n r h other listed =
    table_changed k rules routes n (λ rs. rs ++ r ∷ []) (put_route n r k.tables) h other (λ m. routes-put n m r k.tables) routes' listed

-- where a route is deleted, the kernel stands for the routes without this one in its table
pub deleted_stands : (k : KernelState) (rules : List Rule) (routes routes' : List (ℕ × Route)) (n : ℕ) (r : Route) → Stands k rules routes → n ≢ 255
    → ((m : ℕ) → routes_in m routes' ≡ (if n == m then without_route (routes_in m routes) r else routes_in m routes)) → Stands (delete k (req.Route n r)) rules routes'
deleted_stands k rules routes routes' n r h other listed =
    table_changed k rules routes n (λ rs. without_route rs r) (cut_route n r k.tables) h other (λ m. routes-cut n m r k.tables) routes' listed

-- one entry goes over after it
one_goes : (k : KernelState) (kind : EntryKind) (q : Request) (p : Packet) → GoesOver 1 (walk_along k p (entry kind q ∷ [])) (walk k p) (walk (act k kind q) p)
one_goes k kind q p = record {
  switch = 1;
  before = first;
  behind = second;
}
  where
    first : (i : ℕ) → i ≤ 1 → i < 1 → walk_along k p (entry kind q ∷ []) i ≡ walk k p
    first zero l m = refl
    first (suc i) l m = absurd (omega (arith, m))

    second : (i : ℕ) → i ≤ 1 → 1 ≤ i → walk_along k p (entry kind q ∷ []) i ≡ walk (act k kind q) p
    second zero l m = absurd (omega (arith, m))
    second (suc zero) l m = refl
    second (suc (suc i)) l m = absurd (omega (arith, l))

module _ (k : KernelState) (q : Request) (p : Packet) where
  -- a plan that adds one request, and one that deletes one
  pub one_addition_goes : Goes k (q ∷ []) [] p (done (q ∷ []) [])
  one_addition_goes = one_goes k Added q p

  pub one_deletion_goes : Goes k [] (q ∷ []) p (done [] (q ∷ []))
  one_deletion_goes = one_goes k Deleted q p

  -- no entry of the one that was refused
  none_goes_back : (e : Entry) (to : KernelState) → act k e.kind e.request ≡ k → GoesOverAndBack 1 (walk_along k p (e ∷ [])) (walk k p) (walk to p)
  none_goes_back e to stays = record {
    over = 2;
    back = 2;
    in_order = lit≤ tt;
    before = each;
    between = λ i l m n. absurd (omega (arith, l, m));
    behind = λ i l m. absurd (omega (arith, l, m));
  }
    where
      each : (i : ℕ) → i ≤ 1 → i < 2 → walk_along k p (e ∷ []) i ≡ walk k p
      each zero l m = refl
      each (suc zero) l m = ap (λ s. walk s p) stays
      each (suc (suc i)) l m = absurd (omega (arith, l))

  -- one that adds one request and is refused
  refused_goes_back : (i : ℕ) (refused : Request) → slice_get (q ∷ []) i ≡ Some refused → GoesBack k (q ∷ []) [] p (undone (q ∷ []) i refused)
  refused_goes_back zero refused next = none_goes_back (entry Refused refused) (add k q) refl
  refused_goes_back (suc i) refused next = absurd (omega (arith, slice_get_within (q ∷ []) (suc i) refused next))

  abbrev nothing : List Request
  nothing = []

  never_refused : (i : ℕ) (refused : Request) → slice_get nothing i ≡ Some refused → GoesBack k [] (q ∷ []) p (undone [] i refused)
  never_refused i refused next = absurd (omega (arith, slice_get_within nothing i refused next))

  pub one_addition_goes_back : (entries : List Entry) → IsSegment (q ∷ []) [] entries → GoesBack k (q ∷ []) [] p entries
  one_addition_goes_back = segment_goes_back k (q ∷ []) [] p one_addition_goes refused_goes_back

  pub one_deletion_goes_back : (entries : List Entry) → IsSegment [] (q ∷ []) entries → GoesBack k [] (q ∷ []) p entries
  one_deletion_goes_back = segment_goes_back k [] (q ∷ []) p one_deletion_goes never_refused

-- an addition that was refused is all that was asked, and the kernel is the very one from before
pub one_undone : (k : KernelState) (q : Request) (i : ℕ) (refused : Request) → slice_get (q ∷ []) i ≡ Some refused → replay_from k (undone (q ∷ []) i refused) ≡ k
one_undone k q zero refused next = refl
one_undone k q (suc i) refused next = absurd (omega (arith, slice_get_within (q ∷ []) (suc i) refused next))
