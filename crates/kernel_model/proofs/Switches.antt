-- The two-lists law along the entries of a switch.
use Rattle.std.proofs.Common.{◌≡◌, ℕ, zero, suc, ◌≤◌, ◌-◌, ◌==◌, Bool, true, false, not, List, [], ◌∷◌, ◌++◌, length, map, reverse, take, Option, None, is_some, refl, sym, ◌∙◌, ap, subst, arith, inl, inr, append_assoc}
use Rattle.std.specs.Prelude.{◌⊎◌}
use Rattle.std.specs.Option.{option_map}
use Rattle.fib_table.specs.Table.{without_route}
use Rattle.std.specs.Bool.{if◌then◌else◌}
use Rattle.std.specs.List.{list_any, AllByRecursion}
use Rattle.std.proofs.lemmas.Bool.{cases_Bool, cases_lt, or_parts, false≢true}
use Rattle.std.proofs.lemmas.List.{map-append, take-map, take-append-le, append-nil, length-map}
use Rattle.std.proofs.Math.Seq.{take-append-add, take-length}
use Rattle.list_lemmas.proofs.Numbers.{unlike-sym}
use Rattle.prefixes.specs.Addr.{family_of}
use Rattle.prefixes.specs.Best.{answer}
use Rattle.prefixes.specs.declared.addr.Family.{Family}
use Rattle.prefixes.specs.declared.addr.Family.TheVariants as family
use Rattle.prefixes.specs.declared.route.Route.{Route}
use Rattle.rule_law.specs.Rules as law
use Rattle.rule_law.specs.Plans.{after, concerning, plan, beyond, AreOldAndNew, GoesOver, GoesOverAndBack, walk_at, undone as undo}
use Rattle.rule_law.proofs.Beside.{own-old_and_new, own-plan, walk-same}
use Rattle.rule_law.proofs.Membership.{filter-same}
use Rattle.rule_law.proofs.Classes.{has-classes}
use Rattle.rule_law.proofs.Orders.{NoneBelow-has}
use Rattle.rule_law.proofs.Statements.{goes_over, goes_over_and_back, ends_in_new, ends_as_before, stands_walks}
use Rattle.rule_match.specs.Rule.{matches, same_rule, same_action}
use Rattle.rule_match.specs.declared.packet.Packet.{Packet}
use Rattle.rule_match.specs.declared.rule.Action.{Action}
use Rattle.rule_match.specs.declared.rule.Action.TheVariants as action
use Rattle.rule_match.specs.declared.rule.Rule.{Rule}
use Rattle.rule_match.specs.declared.verdict.Verdict.{Verdict}
use Rattle.rule_match.specs.declared.verdict.Verdict.TheVariants as verdict
use Rattle.rule_match.proofs.Sames.{same_rule-true}
use Rattle.rule_kinds.specs.Kind.{rule_kind}
use Rattle.rule_kinds.specs.KindLaws.{alike as alike_rules, alike_self}
use Rattle.kernel_model.specs.State.{KernelState, NumberedTable, rules_of, routes_of, own_rule, cut_route, is_route}
use Rattle.kernel_model.specs.Journal.{entry, act, replay_from}
use Rattle.kernel_model.specs.Segment.{done, undone}
use Rattle.kernel_model.specs.Switch.{twins, requests_of, additions, deletions, switched, looks_in, AreUnused, IsSwitch, GiveAlike, walk_along}
use Rattle.kernel_model.specs.Walk.{gives, rule_gives, verdict_by, walk, walk_rules}
use Rattle.kernel_model.specs.declared.request.Entry.{Entry}
use Rattle.kernel_model.specs.declared.request.EntryKind.TheVariants.{Added, Deleted, Refused}
use Rattle.kernel_model.specs.declared.request.Request.{Request}
use Rattle.kernel_model.specs.declared.request.Request.TheVariants as req
use Rattle.list_lemmas.proofs.Alls.{all-append, all-reverse, all-take, all-map}
use Rattle.kernel_model.proofs.Held.{over-same, back-same}
use Rattle.kernel_model.proofs.Replays.{replay_from-append}
use Rattle.kernel_model.proofs.Requests.{routes-cut}
use Rattle.kernel_model.proofs.Seen.{seen, replay-seen, done-seen, undone-seen}

-- entries of rules leave the tables
abbrev pub LeavesTables : Entry → Type 0
LeavesTables e = (k : KernelState) → (act k e.kind e.request).tables ≡ k.tables

added-leaves : (q : Request) → is_route q ≡ false → LeavesTables (entry Added q)
added-leaves (req.Rule family.V4 rule) h = λ k. refl
added-leaves (req.Rule family.V6 rule) h = λ k. refl
added-leaves (req.Route n route) h = absurd (false≢true (sym h))

deleted-leaves : (q : Request) → is_route q ≡ false → LeavesTables (entry Deleted q)
deleted-leaves (req.Rule family.V4 rule) h = λ k. refl
deleted-leaves (req.Rule family.V6 rule) h = λ k. refl
deleted-leaves (req.Route n route) h = absurd (false≢true (sym h))

abbrev AreRules : List Request → Type 0
AreRules qs = AllByRecursion (λ q. is_route q ≡ false) qs

pub twins-rules : (rules : List Rule) → AreRules (twins rules)
twins-rules [] = tt
twins-rules (r ∷ rs) = (refl, (refl, twins-rules rs))

added-leave : (qs : List Request) → AreRules qs → AllByRecursion LeavesTables (map (entry Added) qs)
added-leave qs rules = all-map (λ q. is_route q ≡ false) LeavesTables (entry Added) added-leaves qs rules

deleted-leave : (qs : List Request) → AreRules qs → AllByRecursion LeavesTables (map (entry Deleted) qs)
deleted-leave qs rules = all-map (λ q. is_route q ≡ false) LeavesTables (entry Deleted) deleted-leaves qs rules

pub replay-tables : (k : KernelState) (es : List Entry) → AllByRecursion LeavesTables es → (replay_from k es).tables ≡ k.tables
replay-tables k [] h = refl
replay-tables k (e ∷ es) h = replay-tables (act k e.kind e.request) es h.1 ∙ h.0 k

-- the entries of a switch: those of the rules, and those of the routes
abbrev pub of_rules : List Rule → List Rule → List Entry
of_rules old new = map (entry Added) (additions old new) ++ map (entry Deleted) (reverse (twins (beyond rule_kind new old)))

abbrev pub of_routes : List (ℕ × Route) → List Entry
of_routes gone = map (entry Deleted) (requests_of gone)

pub done-parts : (old new : List Rule) (gone : List (ℕ × Route)) → done (additions old new) (deletions old new gone) ≡ of_rules old new ++ of_routes gone
done-parts old new gone =
    let back = reverse (twins (beyond rule_kind new old)) in
    ap (λ l. map (entry Added) (additions old new) ++ l) (map-append (entry Deleted) back (requests_of gone))
    ∙ sym (append_assoc (map (entry Added) (additions old new)) (map (entry Deleted) back) (of_routes gone))

pub rules-leave : (old new : List Rule) → AllByRecursion LeavesTables (of_rules old new)
rules-leave old new =
    let back = twins (beyond rule_kind new old) in
    all-append LeavesTables (map (entry Added) (additions old new)) (map (entry Deleted) (reverse back)) (added-leave (additions old new) (twins-rules (beyond rule_kind old new)))
    (deleted-leave (reverse back) (all-reverse (λ q. is_route q ≡ false) back (twins-rules (beyond rule_kind new old))))

undone-leave : (old new : List Rule) (i : ℕ) (refused : Request) → AllByRecursion LeavesTables (undone (additions old new) i refused)
undone-leave old new i refused =
    let qs = take i (additions old new) in
    let rules : AreRules qs = all-take (λ q. is_route q ≡ false) i (additions old new) (twins-rules (beyond rule_kind old new)) in
    all-append LeavesTables (map (entry Added) qs) (entry Refused refused ∷ map (entry Deleted) (reverse qs)) (added-leave qs rules)
    (λ k. refl, deleted-leave (reverse qs) (all-reverse (λ q. is_route q ≡ false) qs rules))

-- a table that loses no route keeps them, however many of the routes have gone
kept_routes : (k : KernelState) (n : ℕ) (gone : List (ℕ × Route)) (m : ℕ) → AllByRecursion (λ (r : ℕ × Route). (n == r.0) ≡ false) gone → routes_of n (replay_from k (take m (of_routes gone))).tables ≡ routes_of n k.tables
kept_routes k n gone zero h = refl
kept_routes k n [] (suc m) h = refl
kept_routes k n (r ∷ gone) (suc m) h =
    let next : KernelState = record k { tables = cut_route r.0 r.1 k.tables } in
    kept_routes next n gone m h.1 ∙ routes-cut r.0 n r.1 k.tables ∙ other (r.0 == n) (unlike-sym n r.0 h.0)
  where
    other : (b : Bool) → b ≡ false → (if b then without_route (routes_of n k.tables) r.1 else routes_of n k.tables) ≡ routes_of n k.tables
    other true e = absurd (false≢true (sym e))
    other false e = refl

-- a rule that looks in no table that loses a route gives what it gave
gives-same : (p : Packet) (before after : List NumberedTable) (does : Action) (gone : List (ℕ × Route)) → AllByRecursion (λ (r : ℕ × Route). same_action does (action.Table r.0) ≡ false) gone
    → ((n : ℕ) → AllByRecursion (λ (r : ℕ × Route). (n == r.0) ≡ false) gone → routes_of n after ≡ routes_of n before) → gives after does p ≡ gives before does p
gives-same p before after (action.Table n) gone apart same = ap (λ routes. option_map (verdict_by n) (answer routes p.dest p.outgoing)) (same n apart)
gives-same p before after action.Prohibit gone apart same = refl
gives-same p before after action.Unreachable gone apart same = refl

-- what holds of no rule of a list doesn't hold of one that is in it
not_of : (test : Rule → Bool) (rules : List Rule) (r : Rule) → list_any test rules ≡ false → law.has rule_kind rules r ≡ true → test r ≡ false
not_of test [] r none there = absurd (false≢true there)
not_of test (x ∷ xs) r none there =
    let parts = or_parts (test x) (list_any test xs) none in
    elim (cases_Bool (same_rule r x)) as (λ _. test r ≡ false) [
      | inl same ↦ ap test (same_rule-true r x same) ∙ parts.0
      | inr other ↦ not_of test xs r parts.1 (rw other at there)
    ]

unused_by : (gone : List (ℕ × Route)) (rules : List Rule) (r : Rule) → AreUnused gone rules → law.has rule_kind rules r ≡ true → AllByRecursion (λ (g : ℕ × Route). same_action r.action (action.Table g.0) ≡ false) gone
unused_by [] rules r unused there = tt
unused_by (g ∷ gone) rules r unused there = (not_of (looks_in g.0) rules r unused.0 there, unused_by gone rules r unused.1 there)

-- the kernel's own rule before the others
own_unlike : (rules : List Rule) (x y : Rule) → law.NoneBelow rule_kind 1 rules → same_rule x own_rule ≡ true → law.has rule_kind rules y ≡ true → x.priority ≡ y.priority → ⊥
own_unlike rules x y behind own there level =
    let above : 1 ≤ y.priority = NoneBelow-has rule_kind 1 rules y behind there in
    let is : x.priority ≡ 0 = ap (λ (r : Rule). r.priority) (same_rule-true x own_rule own) in
    omega (arith, above, is, level)

own-alike : {V : Type 0} (g : Rule → Option V) (rules : List Rule) → law.NoneBelow rule_kind 1 rules → law.GiversAreAlike rule_kind g rules → law.GiversAreAlike rule_kind g (own_rule ∷ rules)
own-alike g rules behind alike = λ x y in_x in_y level gx gy. step x y in_x in_y level gx gy (cases_Bool (same_rule x own_rule)) (cases_Bool (same_rule y own_rule))
  where
    step : (x y : Rule) → law.has rule_kind (own_rule ∷ rules) x ≡ true → law.has rule_kind (own_rule ∷ rules) y ≡ true → x.priority ≡ y.priority → is_some (g x) ≡ true → is_some (g y) ≡ true
        → (same_rule x own_rule ≡ true) ⊎ (same_rule x own_rule ≡ false) → (same_rule y own_rule ≡ true) ⊎ (same_rule y own_rule ≡ false) → alike_rules x y ≡ true
    step x y in_x in_y level gx gy (inl own_x) (inl own_y) =
        ap (λ r. alike_rules r y) (same_rule-true x own_rule own_x) ∙ ap (alike_rules own_rule) (same_rule-true y own_rule own_y) ∙ alike_self own_rule
    step x y in_x in_y level gx gy (inl own_x) (inr other_y) = absurd (own_unlike rules x y behind own_x (rw other_y at in_y) level)
    step x y in_x in_y level gx gy (inr other_x) (inl own_y) = absurd (own_unlike rules y x behind own_y (rw other_x at in_x) (sym level))
    step x y in_x in_y level gx gy (inr other_x) (inr other_y) = alike x y (rw other_x at in_x) (rw other_y at in_y) level gx gy

own-beyond : (old new : List Rule) → law.NoneBelow rule_kind 1 new → beyond rule_kind (own_rule ∷ old) (own_rule ∷ new) ≡ beyond rule_kind old new
own-beyond old new behind =
    filter-same rule_kind (λ x. not (law.has rule_kind (own_rule ∷ old) x)) (λ x. not (law.has rule_kind old x)) new
    (λ x there. elim (cases_Bool (same_rule x own_rule)) as (λ _. not (law.has rule_kind (own_rule ∷ old) x) ≡ not (law.has rule_kind old x)) [
      | inl own ↦ absurd (own_unlike new x x behind own there refl)
      | inr other ↦ rw other refl
    ])

module _ (k : KernelState) (old new : List Rule) (gone : List (ℕ × Route)) (h : IsSwitch k old new gone) where
  abbrev all : List Entry
  all = done (additions old new) (deletions old new gone)

  both : AreOldAndNew rule_kind (own_rule ∷ old) (own_rule ∷ new)
  both = own-old_and_new rule_kind own_rule old new h.old_behind h.new_behind h.old_and_new

  -- what the list of a family sees of entries that begin with those of the rules
  seen-plan : (f : Family) (m : ℕ) → concerning (map (seen f) (of_rules old new ++ take m (of_routes gone))) ≡ plan rule_kind (own_rule ∷ old) (own_rule ∷ new)
  seen-plan f m =
      ap (λ es. concerning (map (seen f) (of_rules old new ++ es))) (take-map (entry Deleted) m (requests_of gone) ∙ ap (map (entry Deleted)) (take-map (λ (r : ℕ × Route). req.Route r.0 r.1) m gone))
      ∙ ap (λ es. concerning (map (seen f) es)) (sym (done-parts old new (take m gone)))
      ∙ done-seen f old new (take m gone) ∙ sym (own-plan rule_kind own_rule old new h.old_behind h.new_behind)

  -- after the rules the lists stand for the new ones
  pub stands_behind : (f : Family) (m : ℕ) → law.Stands rule_kind (rules_of (replay_from k (of_rules old new ++ take m (of_routes gone))) f) (own_rule ∷ new)
  stands_behind f m =
      let es = of_rules old new ++ take m (of_routes gone) in
      subst (λ xs. law.Stands rule_kind xs (own_rule ∷ new)) (sym (replay-seen f es k))
      (ends_in_new rule_kind (own_rule ∷ old) (own_rule ∷ new) (rules_of k f) (map (seen f) es) both.same_order both.new_behind (h.in_family f) (seen-plan f m))

  module _ (p : Packet) where
    abbrev mine : Family
    mine = family_of p.dest

    abbrev told : Rule → Option Verdict
    told = rule_gives k.tables p

    -- the walk at a moment asks only what the rules gave before
    as_told : (j : ℕ) → walk (replay_from k (take j all)) p ≡ law.walk told verdict.Unreachable (rules_of (replay_from k (take j all)) mine)
    as_told j = elim (cases_lt (length (of_rules old new)) j) [
      | inl past ↦
          let m = j - length (of_rules old new) in
          let parts : take j all ≡ of_rules old new ++ take m (of_routes gone) =
          ap (take j) (done-parts old new gone) ∙ ap (λ i. take i (of_rules old new ++ of_routes gone)) (omega (arith, past)) ∙ take-append-add (of_rules old new) (of_routes gone) m in
          subst (λ es. walk (replay_from k es) p ≡ law.walk told verdict.Unreachable (rules_of (replay_from k es) mine)) (sym parts) (behind m)
      | inr early ↦
          let parts : take j all ≡ take j (of_rules old new) = ap (take j) (done-parts old new gone) ∙ take-append-le j (of_rules old new) (of_routes gone) early in
          let same : (replay_from k (take j all)).tables ≡ k.tables = ap (λ es. (replay_from k es).tables) parts ∙ replay-tables k (take j (of_rules old new)) (all-take LeavesTables j (of_rules old new) (rules-leave old new)) in
          ap (λ ts. walk_rules ts p (rules_of (replay_from k (take j all)) mine)) same
    ]
      where
        behind : (m : ℕ) → walk (replay_from k (of_rules old new ++ take m (of_routes gone))) p ≡ law.walk told verdict.Unreachable (rules_of (replay_from k (of_rules old new ++ take m (of_routes gone))) mine)
        behind m =
            let es = of_rules old new ++ take m (of_routes gone) in
            let mid = replay_from k (of_rules old new) in
            let now = replay_from k es in
            let same : (n : ℕ) → AllByRecursion (λ (r : ℕ × Route). (n == r.0) ≡ false) gone → routes_of n now.tables ≡ routes_of n k.tables = λ n apart.
            ap (λ (s : KernelState). routes_of n s.tables) (replay_from-append k (of_rules old new) (take m (of_routes gone))) ∙ kept_routes mid n gone m apart
            ∙ ap (routes_of n) (replay-tables k (of_rules old new) (rules-leave old new)) in
            walk-same rule_kind (rule_gives now.tables p) told verdict.Unreachable (rules_of now mine)
            (λ r there. ap (λ g. if matches r p then g else None)
            (gives-same p k.tables now.tables r.action gone
            (unused_by gone (own_rule ∷ new) r h.unused (sym (has-classes rule_kind (rules_of now mine) (own_rule ∷ new) (stands_behind mine m).classes r) ∙ there)) same))

    module _ (alike_old : GiveAlike k p old) (alike_new : GiveAlike k p new) where
      pub walk-old : law.walk told verdict.Unreachable (own_rule ∷ old) ≡ walk k p
      walk-old = sym (stands_walks rule_kind told verdict.Unreachable (rules_of k mine) (own_rule ∷ old) both.old_rises (own-alike told old h.old_behind alike_old) (h.in_family mine))

      pub walk-new : law.walk told verdict.Unreachable (own_rule ∷ new) ≡ walk (switched k old new gone) p
      walk-new =
          let whole : take (length all) all ≡ all = take-length all in
          let ended : rules_of (replay_from k all) mine ≡ rules_of (replay_from k (of_rules old new ++ take (length (of_routes gone)) (of_routes gone))) mine =
          ap (λ es. rules_of (replay_from k es) mine) (done-parts old new gone ∙ ap (λ es. of_rules old new ++ es) (sym (take-length (of_routes gone)))) in
          sym (subst (λ es. walk (replay_from k es) p ≡ law.walk told verdict.Unreachable (rules_of (replay_from k es) mine)) whole (as_told (length all))
          ∙ stands_walks rule_kind told verdict.Unreachable (rules_of (replay_from k all) mine) (own_rule ∷ new) both.new_rises (own-alike told new h.new_behind alike_new)
          (subst (λ xs. law.Stands rule_kind xs (own_rule ∷ new)) (sym ended) (stands_behind mine (length (of_routes gone)))))

      -- a moment of any entries, as the law sees it
      at-seen : (es : List Entry) → ((j : ℕ) → walk (replay_from k (take j es)) p ≡ law.walk told verdict.Unreachable (rules_of (replay_from k (take j es)) mine))
          → (j : ℕ) → walk_at rule_kind told verdict.Unreachable (rules_of k mine) (map (seen mine) es) j ≡ walk_along k p es j
      at-seen es told_at j =
          ap (λ rs. law.walk told verdict.Unreachable (after rule_kind rs (rules_of k mine))) (take-map (seen mine) j es)
          ∙ ap (law.walk told verdict.Unreachable) (sym (replay-seen mine (take j es) k)) ∙ sym (told_at j)

      pub done_goes_over : GoesOver (length all) (walk_along k p all) (walk k p) (walk (switched k old new gone) p)
      done_goes_over =
          let requests = map (seen mine) all in
          let plans : concerning requests ++ [] ≡ plan rule_kind (own_rule ∷ old) (own_rule ∷ new) =
          append-nil (concerning requests) ∙ done-seen mine old new gone ∙ sym (own-plan rule_kind own_rule old new h.old_behind h.new_behind) in
          over-same (length requests) (length all) (walk_at rule_kind told verdict.Unreachable (rules_of k mine) requests) (walk_along k p all)
          (law.walk told verdict.Unreachable (own_rule ∷ old)) (walk k p) (law.walk told verdict.Unreachable (own_rule ∷ new)) (walk (switched k old new gone) p)
          (length-map all (seen mine)) (at-seen all as_told) walk-old walk-new
          (goes_over rule_kind told verdict.Unreachable (own_rule ∷ old) (own_rule ∷ new) (rules_of k mine) requests [] both.old_rises both.new_rises both.old_once both.same_order both.new_behind
          (own-alike told old h.old_behind alike_old) (own-alike told new h.new_behind alike_new) (h.in_family mine) plans)

      pub undone_goes_back : (i : ℕ) (refused : Request) → GoesOverAndBack (length (undone (additions old new) i refused)) (walk_along k p (undone (additions old new) i refused)) (walk k p) (walk (switched k old new gone) p)
      undone_goes_back i refused =
          let es = undone (additions old new) i refused in
          let requests = map (seen mine) es in
          let part = undone-seen mine i refused old new in
          let plans : concerning requests ++ [] ≡ undo (take part.0 (beyond rule_kind (own_rule ∷ old) (own_rule ∷ new))) =
          append-nil (concerning requests) ∙ part.1 ∙ ap (λ rs. undo (take part.0 rs)) (sym (own-beyond old new h.new_behind)) in
          let told_at : (j : ℕ) → walk (replay_from k (take j es)) p ≡ law.walk told verdict.Unreachable (rules_of (replay_from k (take j es)) mine) = λ j.
          ap (λ ts. walk_rules ts p (rules_of (replay_from k (take j es)) mine)) (replay-tables k (take j es) (all-take LeavesTables j es (undone-leave old new i refused))) in
          back-same (length requests) (length es) (walk_at rule_kind told verdict.Unreachable (rules_of k mine) requests) (walk_along k p es)
          (law.walk told verdict.Unreachable (own_rule ∷ old)) (walk k p) (law.walk told verdict.Unreachable (own_rule ∷ new)) (walk (switched k old new gone) p)
          (length-map es (seen mine)) (at-seen es told_at) walk-old walk-new
          (goes_over_and_back rule_kind told verdict.Unreachable (own_rule ∷ old) (own_rule ∷ new) (rules_of k mine) part.0 requests [] both.old_rises both.new_rises both.new_once
          (own-alike told old h.old_behind alike_old) (h.in_family mine) plans)

  -- an undone switch leaves the very kernel
  pub undone_leaves : (i : ℕ) (refused : Request) → replay_from k (undone (additions old new) i refused) ≡ k
  undone_leaves i refused =
      let es = undone (additions old new) i refused in
      let rules : (f : Family) → rules_of (replay_from k es) f ≡ rules_of k f = λ f.
      let part = undone-seen f i refused old new in
      replay-seen f es k
      ∙ ends_as_before rule_kind (own_rule ∷ old) (own_rule ∷ new) (rules_of k f) part.0 (map (seen f) es) (h.in_family f) (part.1 ∙ ap (λ rs. undo (take part.0 rs)) (sym (own-beyond old new h.new_behind))) in
      let rules4 : (replay_from k es).rules4 ≡ k.rules4 = rules family.V4 in
      let rules6 : (replay_from k es).rules6 ≡ k.rules6 = rules family.V6 in
      let tables : (replay_from k es).tables ≡ k.tables = replay-tables k es (undone-leave old new i refused) in
      λ x. record { rules4 = rules4 x; rules6 = rules6 x; tables = tables x }
