-- The kernel after a switch stands for the new rules and the routes that are left.
use Rattle.std.proofs.Common.{◌≡◌, ℕ, ◌==◌, ◌||◌, Bool, true, false, not, cond, List, [], ◌∷◌, ◌++◌, length, map, filter, refl, sym, ◌∙◌, ap, subst, inl, inr}
use Rattle.std.specs.Prelude.{◌⊎◌}
use Rattle.std.specs.Bool.{if◌then◌else◌}
use Rattle.std.specs.List.{list_any}
use Rattle.std.proofs.lemmas.Bool.{cases_Bool, or_parts, both_ways, false≢true}
use Rattle.std.proofs.Math.Seq.{take-length}
use Rattle.list_lemmas.proofs.Numbers.{unlike-sym}
use Rattle.prefixes.specs.Route.{same_route}
use Rattle.prefixes.specs.declared.route.Route.{Route}
use Rattle.prefixes.proofs.Sames.{same_route-true, same_route-refl}
use Rattle.fib_table.specs.Table.{has_route, without_route, routes_in}
use Rattle.rule_law.specs.Rules as law
use Rattle.rule_match.specs.declared.rule.Rule.{Rule}
use Rattle.rule_kinds.specs.Kind.{rule_kind}
use Rattle.kernel_model.specs.State.{KernelState, rules_of, routes_of, own_rule, cut_route}
use Rattle.kernel_model.specs.Journal.{replay_from}
use Rattle.kernel_model.specs.Stands.{Stands}
use Rattle.kernel_model.specs.Switch.{switched, AreUnused, looks_in, IsSwitch, LosesRoutes}
use Rattle.kernel_model.proofs.Replays.{replay_from-append}
use Rattle.kernel_model.proofs.Requests.{routes-cut}
use Rattle.kernel_model.proofs.Switches.{of_rules, of_routes, done-parts, rules-leave, replay-tables, stands_behind}

same_route-flip : (a b : Route) → same_route a b ≡ same_route b a
same_route-flip a b = step (cases_Bool (same_route a b)) (cases_Bool (same_route b a))
  where
    step : (same_route a b ≡ true) ⊎ (same_route a b ≡ false) → (same_route b a ≡ true) ⊎ (same_route b a ≡ false) → same_route a b ≡ same_route b a
    step (inl one) (inl other) = one ∙ sym other
    step (inr one) (inr other) = one ∙ sym other
    step (inl one) (inr other) = absurd (both_ways (same_route b a) other (ap (λ x. same_route b x) (same_route-true a b one) ∙ same_route-refl b))
    step (inr one) (inl other) = absurd (both_ways (same_route a b) one (ap (λ x. same_route a x) (same_route-true b a other) ∙ same_route-refl a))

-- one route more goes
without-more : (a : Route) (gone xs : List Route) → filter (λ r. not (has_route gone r)) (without_route xs a) ≡ filter (λ r. not (has_route (a ∷ gone) r)) xs
without-more a gone [] = refl
without-more a gone (x ∷ xs) =
    step (same_route x a) (same_route a x) (same_route-flip x a) (has_route gone x) refl (without-more a gone xs)
  where
    here : (d : Bool) → has_route gone x ≡ d → filter (λ r. not (has_route gone r)) (without_route xs a) ≡ filter (λ r. not (has_route (a ∷ gone) r)) xs
        → filter (λ r. not (has_route gone r)) (x ∷ without_route xs a) ≡ cond (not d) (x ∷ filter (λ r. not (has_route (a ∷ gone) r)) xs) (filter (λ r. not (has_route (a ∷ gone) r)) xs)
    here true at rest = rw at rest
    here false at rest = rw at (ap (λ l. x ∷ l) rest)

    step : (b c : Bool) → b ≡ c → (d : Bool) → has_route gone x ≡ d → filter (λ r. not (has_route gone r)) (without_route xs a) ≡ filter (λ r. not (has_route (a ∷ gone) r)) xs
        → filter (λ r. not (has_route gone r)) (cond (not b) (x ∷ without_route xs a) (without_route xs a)) ≡ cond (not (c || d)) (x ∷ filter (λ r. not (has_route (a ∷ gone) r)) xs) (filter (λ r. not (has_route (a ∷ gone) r)) xs)
    step true true is d at rest = rest
    step false false is d at rest = here d at rest
    step true false is d at rest = absurd (false≢true (sym is))
    step false true is d at rest = absurd (false≢true is)

keeps_all : (xs : List Route) → filter (λ r. not (has_route [] r)) xs ≡ xs
keeps_all [] = refl
keeps_all (x ∷ xs) = ap (λ l. x ∷ l) (keeps_all xs)

-- the routes of a table without those that have gone
pub routes_left : (k : KernelState) (n : ℕ) (gone : List (ℕ × Route)) → routes_of n (replay_from k (of_routes gone)).tables ≡ filter (λ r. not (has_route (routes_in n gone) r)) (routes_of n k.tables)
routes_left k n [] = sym (keeps_all (routes_of n k.tables))
routes_left k n (g ∷ gone) =
    let next : KernelState = record k { tables = cut_route g.0 g.1 k.tables } in
    routes_left next n gone
    ∙ ap (λ xs. filter (λ r. not (has_route (routes_in n gone) r)) xs) (routes-cut g.0 n g.1 k.tables)
    ∙ step (g.0 == n)
  where
    step : (b : Bool) → filter (λ r. not (has_route (routes_in n gone) r)) (if b then without_route (routes_of n k.tables) g.1 else routes_of n k.tables)
        ≡ filter (λ r. not (has_route (map (λ (r : ℕ × Route). r.1) (cond b (g ∷ filter (λ (r : ℕ × Route). r.0 == n) gone) (filter (λ (r : ℕ × Route). r.0 == n) gone))) r)) (routes_of n k.tables)
    step true = without-more g.1 (routes_in n gone) (routes_of n k.tables)
    step false = refl

-- no route of table 255 goes, since the kernel's own rule looks in it
own_kept : (gone : List (ℕ × Route)) (rules : List Rule) → AreUnused gone (own_rule ∷ rules) → routes_in 255 gone ≡ []
own_kept [] rules unused = refl
own_kept (g ∷ gone) rules unused =
    let mine = (or_parts (looks_in g.0 own_rule) (list_any (looks_in g.0) rules) unused.0).0 in
    step (g.0 == 255) (unlike-sym 255 g.0 mine) (own_kept gone rules unused.1)
  where
    step : (b : Bool) → b ≡ false → routes_in 255 gone ≡ [] → map (λ (r : ℕ × Route). r.1) (cond b (g ∷ filter (λ (r : ℕ × Route). r.0 == 255) gone) (filter (λ (r : ℕ × Route). r.0 == 255) gone)) ≡ []
    step true apart rest = absurd (false≢true (sym apart))
    step false apart rest = rest

pub done_stands : (k : KernelState) (old new : List Rule) (routes gone left : List (ℕ × Route)) → IsSwitch k old new gone → Stands k old routes → LosesRoutes routes gone left → Stands (switched k old new gone) new left
done_stands k old new routes gone left h stands loses =
    let mid = replay_from k (of_rules old new) in
    let end : switched k old new gone ≡ replay_from mid (of_routes gone) = ap (replay_from k) (done-parts old new gone) ∙ replay_from-append k (of_rules old new) (of_routes gone) in
    let same : mid.tables ≡ k.tables = replay-tables k (of_rules old new) (rules-leave old new) in
    let table : (n : ℕ) → routes_of n (switched k old new gone).tables ≡ filter (λ r. not (has_route (routes_in n gone) r)) (routes_of n k.tables) = λ n.
    ap (λ (s : KernelState). routes_of n s.tables) end ∙ routes_left mid n gone ∙ ap (λ ts. filter (λ r. not (has_route (routes_in n gone) r)) (routes_of n ts)) same in
    record {
      in_family = λ f. subst (λ es. law.Stands rule_kind (rules_of (replay_from k es) f) (own_rule ∷ new)) (sym (done-parts old new gone))
          (subst (λ es. law.Stands rule_kind (rules_of (replay_from k (of_rules old new ++ es)) f) (own_rule ∷ new)) (take-length (of_routes gone)) (stands_behind k old new gone h f (length (of_routes gone))));
      own_table = table 255 ∙ ap (λ g. filter (λ r. not (has_route g r)) (routes_of 255 k.tables)) (own_kept gone new h.unused) ∙ keeps_all (routes_of 255 k.tables) ∙ stands.own_table;
      in_table = λ n other. table n ∙ ap (λ rs. filter (λ r. not (has_route (routes_in n gone) r)) rs) (stands.in_table n other) ∙ sym (loses n);
    }
