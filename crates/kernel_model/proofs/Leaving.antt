-- A packet's walk while a link leaves a table: it goes over at most once, as the routes go, and the rules that go then give nothing any more.
use Rattle.std.proofs.Common.{◌≡◌, ℕ, zero, suc, ◌+◌, ◌-◌, ◌≤◌, ◌==◌, ◌&&◌, Bool, true, false, cond, List, [], ◌∷◌, ◌++◌, length, map, take, filter, Option, Some, None, slice_get, refl, sym, ◌∙◌, ap, subst, arith, inl, inr}
use Rattle.std.specs.Prelude.{bit_and}
use Rattle.std.specs.Bool.{if◌then◌else◌}
use Rattle.std.specs.List.{AllByRecursion}
use Rattle.std.specs.Option.{option_map, option_and_then}
use Rattle.std.proofs.lemmas.Bool.{cases_Bool, cases_lt, and_parts, false≢true, eqb-true, or_right}
use Rattle.std.proofs.lemmas.List.{map-append, append-nil, take_all, take-append-le}
use Rattle.std.proofs.Math.Seq.{take-append-add}
use Rattle.list_lemmas.proofs.Numbers.{eqb-refl, unlike-sym}
use Rattle.prefixes.specs.Addr.{family_of}
use Rattle.prefixes.specs.Best.{best, answer}
use Rattle.prefixes.specs.Prefix.{covers}
use Rattle.prefixes.specs.Route.{link_of, suits, answer_of}
use Rattle.prefixes.specs.declared.addr.Addr.{Addr}
use Rattle.prefixes.specs.declared.addr.Family.{Family}
use Rattle.prefixes.specs.declared.addr.Family.TheVariants as family
use Rattle.prefixes.specs.declared.route.Answer.{Answer}
use Rattle.prefixes.specs.declared.route.Route.{Route}
use Rattle.fib_table.specs.Table.{without_route}
use Rattle.rule_law.specs.Rules as law
use Rattle.rule_law.specs.Rules.{Kind, has}
use Rattle.rule_law.specs.Plans.{GoesOver, AreOldAndNew, beyond, common}
use Rattle.rule_law.proofs.Beside.{walk-same}
use Rattle.rule_law.proofs.Orders.{Rises-filter}
use Rattle.rule_law.proofs.Statements.{stands_walks}
use Rattle.rule_match.specs.Rule.{matches, selects_link, selects_uid}
use Rattle.rule_match.specs.declared.packet.Packet.{Packet}
use Rattle.rule_match.specs.declared.rule.Action.{Action}
use Rattle.rule_match.specs.declared.rule.Action.TheVariants as action
use Rattle.rule_match.specs.declared.rule.Rule.{Rule}
use Rattle.rule_match.specs.declared.verdict.Verdict.{Verdict}
use Rattle.rule_match.specs.declared.verdict.Verdict.TheVariants as verdict
use Rattle.rule_kinds.specs.Kind.{rule_kind}
use Rattle.kernel_model.specs.Journal.{entry, replay_from}
use Rattle.kernel_model.specs.Leaving.{LeaveInOrder, taken_out, in_table, leaving, IsLeaving}
use Rattle.kernel_model.specs.Segment.{done, undone, IsSegment}
use Rattle.kernel_model.specs.State.{KernelState, NumberedTable, rules_of, routes_of, own_rule, cut_route}
use Rattle.kernel_model.specs.Switch.{requests_of, additions, deletions, switched, twins, IsSwitch, GiveAlike, walk_along}
use Rattle.kernel_model.specs.Walk.{gives, rule_gives, verdict_by, walk}
use Rattle.kernel_model.specs.declared.request.Entry.{Entry}
use Rattle.kernel_model.specs.declared.request.EntryKind.TheVariants.{Added, Deleted}
use Rattle.kernel_model.specs.declared.request.Request.{Request}
use Rattle.kernel_model.specs.declared.request.Request.TheVariants as req
use Rattle.kernel_model.proofs.Held.{over-same}
use Rattle.kernel_model.proofs.LeavingRoutes.{routes_leave}
use Rattle.kernel_model.proofs.Replays.{replay_from-append}
use Rattle.kernel_model.proofs.Requests.{routes-cut}
use Rattle.kernel_model.proofs.Segments.{Goes, GoesBack, segment_goes_back}
use Rattle.kernel_model.proofs.Switches.{of_routes, walk-old, walk-new, done_goes_over}

-- A list that loses rules which give the packet nothing.
module _ {R V : Type 0} (k : Kind R) (gives : R → Option V) (none : V) where
  idle : (stays : R → Bool) (xs : List R) → ((x : R) → has k xs x ≡ true → stays x ≡ false → gives x ≡ None) → law.walk gives none (filter stays xs) ≡ law.walk gives none xs
  idle stays [] h = refl
  idle stays (x ∷ xs) h =
      let rest : law.walk gives none (filter stays xs) ≡ law.walk gives none xs = idle stays xs (λ y there. h y (or_right (k.same y x) (has k xs y) there)) in
      by (stays x) refl rest
    where
      by : (b : Bool) → stays x ≡ b → law.walk gives none (filter stays xs) ≡ law.walk gives none xs → law.walk gives none (cond b (x ∷ filter stays xs) (filter stays xs)) ≡ law.walk gives none (x ∷ xs)
      by true is rest = ap (λ (v : V). elim (gives x) as (λ _. V) [ Some w ↦ w | None ↦ v ]) rest
      by false is rest = rest ∙ sym (ap (λ (o : Option V). elim o as (λ _. V) [ Some w ↦ w | None ↦ law.walk gives none xs ]) (h x (rw (k.same_self x) refl) is))

  idle-go : (old new : List R) → AreOldAndNew k old new → beyond k old new ≡ [] → law.GiversAreAlike k gives new → ((x : R) → has k old x ≡ true → has k new x ≡ false → gives x ≡ None)
      → law.walk gives none old ≡ law.walk gives none new
  idle-go old new both nothing_comes alike h =
      let stands : law.Stands k (common k new old) new = record {
        rises = Rises-filter k (has k new) old both.old_rises;
        classes = λ rule. both.same_order rule
            ∙ sym (both.new_behind rule ∙ (ap (λ more. law.class k rule (common k old new) ++ law.class k rule more) nothing_comes ∙ append-nil (law.class k rule (common k old new))));
      } in
      sym (idle (has k new) old h) ∙ stands_walks k gives none (common k new old) new both.new_rises alike stands

-- What the routes of one table leave, as they go.

rules-kept : (k : KernelState) (gone : List (ℕ × Route)) (f : Family) → rules_of (replay_from k (of_routes gone)) f ≡ rules_of k f
rules-kept k [] f = refl
rules-kept k (r ∷ gone) f = rules-kept (record k { tables = cut_route r.0 r.1 k.tables }) gone f ∙ same f
  where
    same : (f : Family) → rules_of (record k { tables = cut_route r.0 r.1 k.tables }) f ≡ rules_of k f
    same family.V4 = refl
    same family.V6 = refl

module _ (table : ℕ) where
  routes-taken : (k : KernelState) (gone : List Route) → routes_of table (replay_from k (of_routes (in_table table gone))).tables ≡ taken_out (routes_of table k.tables) gone
  routes-taken k [] = refl
  routes-taken k (r ∷ gone) =
      routes-taken (record k { tables = cut_route table r k.tables }) gone
      ∙ ap (λ rs. taken_out rs gone)
      (routes-cut table table r k.tables ∙ ap (λ (b : Bool). if b then without_route (routes_of table k.tables) r else routes_of table k.tables) (eqb-refl table))

  others-kept : (k : KernelState) (gone : List Route) (n : ℕ) → (table == n) ≡ false → routes_of n (replay_from k (of_routes (in_table table gone))).tables ≡ routes_of n k.tables
  others-kept k [] n apart = refl
  others-kept k (r ∷ gone) n apart =
      others-kept (record k { tables = cut_route table r k.tables }) gone n apart
      ∙ (routes-cut table n r k.tables ∙ ap (λ (b : Bool). if b then without_route (routes_of n k.tables) r else routes_of n k.tables) apart)

  first-taken : (i : ℕ) (gone : List Route) → take i (of_routes (in_table table gone)) ≡ of_routes (in_table table (take i gone))
  first-taken zero gone = refl
  first-taken (suc i) [] = refl
  first-taken (suc i) (r ∷ gone) = ap (λ (es : List Entry). entry Deleted (req.Route table r) ∷ es) (first-taken i gone)

-- where no route suits the binding, there is no answer
none-suits : (routes : List Route) (dest : Addr) (bound : Option ℕ) → AllByRecursion (λ r. suits (link_of r.out) bound ≡ false) routes → best routes dest bound ≡ None
none-suits [] dest bound none = refl
none-suits (r ∷ routes) dest bound none = rw (none.0, never (covers r.prefix dest)) (none-suits routes dest bound none.1)
  where
    never : (b : Bool) → (b && false) ≡ false
    never true = refl
    never false = refl

-- A packet, while the routes go.
module _ (k : KernelState) (table : ℕ) (p : Packet) where
  -- what an action and a walk give where this is the table's answer
  gives_by : Option Answer → Action → Option Verdict
  gives_by a (action.Table n) = if n == table then option_map (verdict_by table) a else option_map (verdict_by n) (answer (routes_of n k.tables) p.dest p.outgoing)
  gives_by a action.Prohibit = Some verdict.Prohibited
  gives_by a action.Unreachable = Some verdict.Unreachable

  walk_by : Option Answer → Verdict
  walk_by a = law.walk (λ (rule : Rule). if matches rule p then gives_by a rule.action else None) verdict.Unreachable (rules_of k (family_of p.dest))

  gives-by : (tables : List NumberedTable) → ((n : ℕ) → (table == n) ≡ false → routes_of n tables ≡ routes_of n k.tables) → (does : Action)
      → gives tables does p ≡ gives_by (answer (routes_of table tables) p.dest p.outgoing) does
  unfolding gives_by
  gives-by tables same (action.Table n) = elim (cases_Bool (n == table)) [
    | inl e ↦ rw e (ap (λ m. option_map (verdict_by m) (answer (routes_of m tables) p.dest p.outgoing)) (eqb-true n table e))
    | inr e ↦ rw e (ap (λ rs. option_map (verdict_by n) (answer rs p.dest p.outgoing)) (same n (unlike-sym n table e)))
  ]
  gives-by tables same action.Prohibit = refl
  gives-by tables same action.Unreachable = refl

  module _ (gone : List Route) where
    abbrev routes_go : List Entry
    routes_go = of_routes (in_table table gone)

    abbrev left_after : ℕ → Option Answer
    left_after i = answer (taken_out (routes_of table k.tables) (take i gone)) p.dest p.outgoing

    walk-after : (some : List Route) → walk (replay_from k (of_routes (in_table table some))) p ≡ walk_by (answer (taken_out (routes_of table k.tables) some) p.dest p.outgoing)
    unfolding walk_by
    walk-after some =
        let now : KernelState = replay_from k (of_routes (in_table table some)) in
        ap (law.walk (rule_gives now.tables p) verdict.Unreachable) (rules-kept k (in_table table some) (family_of p.dest))
        ∙ walk-same rule_kind (rule_gives now.tables p) (λ (rule : Rule). if matches rule p then gives_by (answer (taken_out (routes_of table k.tables) some) p.dest p.outgoing) rule.action else None)
        verdict.Unreachable (rules_of k (family_of p.dest))
        (λ rule there. ap (λ (g : Option Verdict). if matches rule p then g else None)
        (gives-by now.tables (λ n apart. others-kept table k some n apart) rule.action
        ∙ ap (λ rs. gives_by (answer rs p.dest p.outgoing) rule.action) (routes-taken table k some)))

    routes_go-over : (link : ℕ) → LeaveInOrder link gone → GoesOver (length routes_go) (walk_along k p routes_go) (walk k p) (walk (replay_from k routes_go) p)
    routes_go-over link order =
        let h = routes_leave p.dest p.outgoing link gone order (routes_of table k.tables) in
        let all : GoesOver (length gone) (λ i. walk_by (left_after i)) (walk_by (answer (routes_of table k.tables) p.dest p.outgoing)) (walk_by (answer (taken_out (routes_of table k.tables) gone) p.dest p.outgoing)) =
        record { switch = h.switch; before = λ i l m. ap walk_by (h.before i l m); behind = λ i l m. ap walk_by (h.behind i l m) } in
        over-same (length gone) (length routes_go) (λ i. walk_by (left_after i)) (walk_along k p routes_go)
        (walk_by (answer (routes_of table k.tables) p.dest p.outgoing)) (walk k p)
        (walk_by (answer (taken_out (routes_of table k.tables) gone) p.dest p.outgoing)) (walk (replay_from k routes_go) p)
        long (λ i. sym (ap (λ es. walk (replay_from k es) p) (first-taken table i gone) ∙ walk-after (take i gone))) (sym (walk-after [])) (sym (walk-after gone)) all
      where
        long : length gone ≡ length (of_routes (in_table table gone))
        long = count gone
          where
            count : (some : List Route) → length some ≡ length (of_routes (in_table table some))
            count [] = refl
            count (r ∷ some) = ap suc (count some)

-- Some entries along which the walk goes over, and then more that leave it as it is.
module _ (k : KernelState) (p : Packet) (es more : List Entry) (old new : Verdict) (over : GoesOver (length es) (walk_along k p es) old new)
    (stays : (i : ℕ) → walk (replay_from (replay_from k es) (take i more)) p ≡ new) where
  early : (i : ℕ) → i ≤ length es → walk_along k p (es ++ more) i ≡ walk_along k p es i
  early i l = ap (λ fs. walk (replay_from k fs) p) (take-append-le i es more l)

  late : (i : ℕ) → length es ≤ i → walk_along k p (es ++ more) i ≡ new
  late i l =
      let n : ℕ = i - length es in
      let place : i ≡ length es + n = omega (arith, l) in
      ap (λ j. walk (replay_from k (take j (es ++ more))) p) place
      ∙ (ap (λ fs. walk (replay_from k fs) p) (take-append-add es more n) ∙ (ap (λ s. walk s p) (replay_from-append k es (take n more)) ∙ stays n))

  then_stays : GoesOver (length (es ++ more)) (walk_along k p (es ++ more)) old new
  then_stays = elim (cases_lt (length es) over.switch) [
    | inl never ↦ record {
      switch = suc (length es);
      before = λ i l m. early i (omega (arith, m)) ∙ over.before i (omega (arith, m)) (omega (arith, m, never));
      behind = λ i l m. late i (omega (arith, m));
    }
    | inr within ↦ record {
      switch = over.switch;
      before = λ i l m. early i (omega (arith, m, within)) ∙ over.before i (omega (arith, m, within)) m;
      behind = λ i l m. elim (cases_lt (length es) i) [
        | inl past ↦ late i (omega (arith, past))
        | inr here ↦ early i here ∙ over.behind i here m
      ];
    }
  ]

module _ (k : KernelState) (old new : List Rule) (table link : ℕ) (gone : List Route) (h : IsLeaving k old new table link gone) where
  abbrev routes_gone : List Entry
  routes_gone = of_routes (in_table table gone)

  abbrev rules_gone : List Entry
  rules_gone = map (entry Deleted) (deletions old new [])

  abbrev asked : List Request
  asked = leaving old new table gone

  -- the kernel between the routes and the rules
  abbrev between : KernelState
  between = replay_from k routes_gone

  between-switch : IsSwitch between old new []
  between-switch = record {
    in_family = λ f. subst (λ rules. law.Stands rule_kind rules (own_rule ∷ old)) (sym (rules-kept k (in_table table gone) f)) (h.switch.in_family f);
    old_and_new = h.switch.old_and_new;
    old_behind = h.switch.old_behind;
    new_behind = h.switch.new_behind;
    unused = tt;
  }

  no_additions : done (additions old new) (deletions old new []) ≡ rules_gone
  no_additions = ap (λ come. map (entry Added) (twins come) ++ rules_gone) h.nothing_comes

  ends : switched between old new [] ≡ replay_from between rules_gone
  ends = ap (replay_from between) no_additions

  whole : done [] asked ≡ routes_gone ++ rules_gone
  whole = map-append (entry Deleted) (requests_of (in_table table gone)) (deletions old new [])

  module _ (p : Packet) where
    -- a rule that goes gives nothing by then
    rule-idle : (x : Rule) → has rule_kind old x ≡ true → has rule_kind new x ≡ false → rule_gives between.tables p x ≡ None
    rule-idle x there goes = elim (cases_Bool (matches x p)) [
      | inl matching ↦ rw matching (by (h.rules x there goes) (binding x.outgoing (h.rules x there goes).1 (outgoing matching)))
      | inr other ↦ rw other refl
    ]
      where
        outgoing : matches x p ≡ true → selects_link x.outgoing p.outgoing ≡ true
        outgoing matching =
            let after_link : Bool = selects_uid x.uids p.uid.number in
            let after_incoming : Bool = selects_link x.outgoing p.outgoing && after_link in
            let after_mark : Bool = selects_link x.incoming (Some p.incoming) && after_incoming in
            (and_parts (selects_link x.outgoing p.outgoing) after_link
            (and_parts (selects_link x.incoming (Some p.incoming)) after_incoming
            (and_parts (bit_and p.mark x.mask == x.mark) after_mark matching).1).1).0

        bound_to : (o : Option ℕ) → selects_link (Some link) o ≡ true → o ≡ Some link
        bound_to None is = absurd (false≢true is)
        bound_to (Some i) is = ap Some (sym (eqb-true link i is))

        binding : (stated : Option ℕ) → stated ≡ Some link → selects_link stated p.outgoing ≡ true → p.outgoing ≡ Some link
        binding stated is selected = bound_to p.outgoing (subst (λ o. selects_link o p.outgoing ≡ true) is selected)

        by : (x.action ≡ action.Table table) × (x.outgoing ≡ Some link) → p.outgoing ≡ Some link → gives between.tables x.action p ≡ None
        by leads bound =
            ap (λ does. gives between.tables does p) leads.0
            ∙ ap (λ (o : Option Route). option_map (verdict_by table) (option_and_then (λ (r : Route). answer_of r.out) o))
            (ap (λ rs. best rs p.dest p.outgoing) (routes-taken table k gone)
            ∙ none-suits (taken_out (routes_of table k.tables) gone) p.dest p.outgoing (subst (λ o. AllByRecursion (λ r. suits (link_of r.out) o ≡ false) (taken_out (routes_of table k.tables) gone)) (sym bound) h.left))

    module _ (alike_old : GiveAlike between p old) (alike_new : GiveAlike between p new) where
      same-walk : walk (switched between old new []) p ≡ walk between p
      same-walk =
          sym (walk-new between old new [] between-switch p alike_old alike_new)
          ∙ (sym (ap (λ (v : Verdict). elim (rule_gives between.tables p own_rule) as (λ _. Verdict) [ Some w ↦ w | None ↦ v ])
          (idle-go rule_kind (rule_gives between.tables p) verdict.Unreachable old new h.switch.old_and_new h.nothing_comes alike_new rule-idle))
          ∙ walk-old between old new [] between-switch p alike_old alike_new)

      rules-over : GoesOver (length rules_gone) (walk_along between p rules_gone) (walk between p) (walk (switched between old new []) p)
      rules-over =
          subst (λ es. GoesOver (length es) (walk_along between p es) (walk between p) (walk (switched between old new []) p)) no_additions
          (done_goes_over between old new [] between-switch p alike_old alike_new)

      rules-stay : (i : ℕ) → walk (replay_from between (take i rules_gone)) p ≡ walk between p
      rules-stay i = elim (cases_lt (length rules_gone) i) [
        | inl past ↦ ap (λ es. walk (replay_from between es) p) (take_all i rules_gone (omega (arith, past))) ∙ (ap (λ s. walk s p) (sym ends) ∙ same-walk)
        | inr within ↦ elim (cases_lt i rules-over.switch) [
          | inl before ↦ rules-over.before i within before
          | inr behind ↦ rules-over.behind i within behind ∙ same-walk
        ]
      ]

      pub leaving_goes : Goes k [] asked p (done [] asked)
      leaving_goes =
          let over = then_stays k p routes_gone rules_gone (walk k p) (walk between p) (routes_go-over k table p gone link h.order) rules-stay in
          let final : walk (replay_from k (done [] asked)) p ≡ walk between p =
          ap (λ es. walk (replay_from k es) p) whole ∙ (ap (λ s. walk s p) (replay_from-append k routes_gone rules_gone ∙ sym ends) ∙ same-walk) in
          subst (λ v. GoesOver (length (done [] asked)) (walk_along k p (done [] asked)) (walk k p) v) (sym final)
          (subst (λ es. GoesOver (length es) (walk_along k p es) (walk k p) (walk between p)) (sym whole) over)

      never_refused : (i : ℕ) (refused : Request) → slice_get [] i ≡ Some refused → GoesBack k [] asked p (undone [] i refused)
      never_refused i refused next = absurd cc

      pub leaving_goes_back : (entries : List Entry) → IsSegment [] asked entries → GoesBack k [] asked p entries
      leaving_goes_back = segment_goes_back k [] asked p leaving_goes never_refused
