-- What a packet meets while a command is carried out, and what the kernel stands for after it.
use Rattle.std.proofs.Common.{◌≡◌, ℕ, ◌∷◌, [], ◌++◌, List, Some, slice_get, sym, ◌∙◌, ap, subst}
use Rattle.rule_match.specs.declared.packet.Packet.{Packet}
use Rattle.rule_match.specs.declared.rule.Rule.{Rule}
use Rattle.kernel_model.specs.Journal.{replay_from}
use Rattle.kernel_model.specs.Segment.{done, undone, IsSegment}
use Rattle.kernel_model.specs.Stands.{Stands}
use Rattle.kernel_model.specs.State.{KernelState}
use Rattle.kernel_model.specs.Switch.{additions, deletions, requests_of, GiveAlike}
use Rattle.kernel_model.specs.declared.request.Entry.{Entry}
use Rattle.kernel_model.specs.declared.request.Request.{Request}
use Rattle.kernel_model.specs.declared.request.Request.TheVariants as req
use Rattle.kernel_model.proofs.Routes.{one_addition_goes, one_deletion_goes, one_addition_goes_back, one_deletion_goes_back, one_undone, added_stands, deleted_stands}
use Rattle.kernel_model.proofs.Segments.{Goes, GoesBack, segment_goes_back}
use Rattle.kernel_model.proofs.Standing.{done_stands}
use Rattle.kernel_model.proofs.Switches.{done_goes_over, undone_goes_back, undone_leaves}
use Rattle.policy_state.specs.Step.{changed}
use Rattle.policy_state.specs.Table.{rule_table, route_list}
use Rattle.policy_state.specs.View.{StateView}
use Rattle.commands.specs.declared.command.Command.{Command}
use Rattle.commands.specs.declared.command.Command.TheVariants as command
use Rattle.prefixes.specs.declared.route.Route.{Route}
use Rattle.rule_compile.specs.Asked.{asked_adds, asked_deletes, carried, MayStep}
use Rattle.rule_compile.proofs.Asks.{Asks, Rules, Comes, Goes as GivesUp, Leaves, AsksLeaving, asks}
use Rattle.rule_compile.proofs.LeavingStands.{leaving-stands}
use Rattle.rule_compile.proofs.LocalLeaves.{local-goes}
use Rattle.rule_compile.proofs.Tables.{after-good, switch-with, table-givers, table-turns}

-- an interface leaves the local network
leaving-goes : (k : KernelState) (s : StateView) (c : Command) (packet : Packet) → MayStep k s c → (it : AsksLeaving s c)
    → Goes k [] (requests_of it.first ++ deletions (rule_table s) (rule_table (changed s c)) []) packet (done [] (requests_of it.first ++ deletions (rule_table s) (rule_table (changed s c)) []))
leaving-goes k s c packet may it =
    subst (λ (d : Command). Goes k [] (requests_of it.first ++ deletions (rule_table s) (rule_table (changed s d)) []) packet (done [] (requests_of it.first ++ deletions (rule_table s) (rule_table (changed s d)) []))) (sym it.is)
    (subst (λ (first : List (ℕ × Route)). Goes k [] (requests_of first ++ deletions (rule_table s) (rule_table (changed s (command.InterfaceRemove it.net it.name))) []) packet
    (done [] (requests_of first ++ deletions (rule_table s) (rule_table (changed s (command.InterfaceRemove it.net it.name))) []))) (sym it.first_is)
    (local-goes k s it.net it.name it.n it.link packet (subst (MayStep k s) it.is may) it.named it.found it.local it.has))

-- no addition, so none that is refused
never : (P : List Entry → Type 0) (i : ℕ) (refused : Request) → slice_get [] i ≡ Some refused → P (undone [] i refused)
never P i refused next = absurd cc

-- what is shown of two lists of requests holds of equal ones
of_equal : (P : List Request → List Request → Type 0) (adds deletes more less : List Request) → adds ≡ more → deletes ≡ less → P more less → P adds deletes
of_equal P adds deletes more less a b h = subst (λ qs. P qs deletes) (sym a) (subst (λ qs. P more qs) (sym b) h)

module _ (k : KernelState) (s : StateView) (c : Command) (may : MayStep k s c) where
  abbrev old : List Rule
  old = rule_table s

  abbrev new : List Rule
  new = rule_table (changed s c)

  module _ (packet : Packet) where
    old-alike : GiveAlike k packet old
    old-alike = table-givers s k.tables packet may.good

    new-alike : GiveAlike k packet new
    new-alike = table-givers (changed s c) k.tables packet (after-good k s c may)

    goes-by : Asks s c → Goes k (asked_adds s c) (asked_deletes s c) packet (done (asked_adds s c) (asked_deletes s c))
    goes-by (Rules it) =
        of_equal (λ adds deletes. Goes k adds deletes packet (done adds deletes)) (asked_adds s c) (asked_deletes s c) (additions old new) (deletions old new it.gone) it.adds it.deletes
        (done_goes_over k old new it.gone (switch-with k s c may it.gone it.unused) packet old-alike new-alike)
    goes-by (Comes it) =
        of_equal (λ adds deletes. Goes k adds deletes packet (done adds deletes)) (asked_adds s c) (asked_deletes s c) (req.Route it.table it.route ∷ []) [] it.adds it.deletes
        (one_addition_goes k (req.Route it.table it.route) packet)
    goes-by (GivesUp it) =
        of_equal (λ adds deletes. Goes k adds deletes packet (done adds deletes)) (asked_adds s c) (asked_deletes s c) [] (req.Route it.table it.route ∷ []) it.adds it.deletes
        (one_deletion_goes k (req.Route it.table it.route) packet)
    goes-by (Leaves it) =
        of_equal (λ adds deletes. Goes k adds deletes packet (done adds deletes)) (asked_adds s c) (asked_deletes s c) [] (requests_of it.first ++ deletions old new []) it.adds it.deletes
        (leaving-goes k s c packet may it)

    pub all_goes : Goes k (asked_adds s c) (asked_deletes s c) packet (done (asked_adds s c) (asked_deletes s c))
    all_goes = goes-by (asks s c may.good may.accepted)

    abbrev AlongSegments : List Request → List Request → Type 0
    AlongSegments adds deletes = (entries : List Entry) → IsSegment adds deletes entries → GoesBack k adds deletes packet entries

    back-by : Asks s c → AlongSegments (asked_adds s c) (asked_deletes s c)
    back-by (Rules it) =
        of_equal AlongSegments (asked_adds s c) (asked_deletes s c) (additions old new) (deletions old new it.gone) it.adds it.deletes
        (segment_goes_back k (additions old new) (deletions old new it.gone) packet (done_goes_over k old new it.gone (switch-with k s c may it.gone it.unused) packet old-alike new-alike)
        (λ i refused next. undone_goes_back k old new it.gone (switch-with k s c may it.gone it.unused) packet old-alike new-alike i refused))
    back-by (Comes it) =
        of_equal AlongSegments (asked_adds s c) (asked_deletes s c) (req.Route it.table it.route ∷ []) [] it.adds it.deletes
        (one_addition_goes_back k (req.Route it.table it.route) packet)
    back-by (GivesUp it) =
        of_equal AlongSegments (asked_adds s c) (asked_deletes s c) [] (req.Route it.table it.route ∷ []) it.adds it.deletes
        (one_deletion_goes_back k (req.Route it.table it.route) packet)
    back-by (Leaves it) =
        let deletes : List Request = requests_of it.first ++ deletions old new [] in
        of_equal AlongSegments (asked_adds s c) (asked_deletes s c) [] deletes it.adds it.deletes
        (segment_goes_back k [] deletes packet (leaving-goes k s c packet may it) (never (λ es. GoesBack k [] deletes packet es)))

    pub segment_goes : AlongSegments (asked_adds s c) (asked_deletes s c)
    segment_goes = back-by (asks s c may.good may.accepted)

  abbrev Ends : List Request → List Request → Type 0
  Ends adds deletes = Stands (replay_from k (done adds deletes)) new (route_list (changed s c))

  stands-by : Asks s c → Ends (asked_adds s c) (asked_deletes s c)
  stands-by (Rules it) =
      of_equal Ends (asked_adds s c) (asked_deletes s c) (additions old new) (deletions old new it.gone) it.adds it.deletes
      (done_stands k old new (route_list s) it.gone (route_list (changed s c)) (switch-with k s c may it.gone it.unused) may.stands it.routes.loses)
  stands-by (Comes it) =
      of_equal Ends (asked_adds s c) (asked_deletes s c) (req.Route it.table it.route ∷ []) [] it.adds it.deletes
      (subst (λ rules. Stands (replay_from k (done (req.Route it.table it.route ∷ []) [])) rules (route_list (changed s c))) (sym it.rules)
      (added_stands k old (route_list s) (route_list (changed s c)) it.table it.route may.stands it.not_own it.routes))
  stands-by (GivesUp it) =
      of_equal Ends (asked_adds s c) (asked_deletes s c) [] (req.Route it.table it.route ∷ []) it.adds it.deletes
      (subst (λ rules. Stands (replay_from k (done [] (req.Route it.table it.route ∷ []))) rules (route_list (changed s c))) (sym it.rules)
      (deleted_stands k old (route_list s) (route_list (changed s c)) it.table it.route may.stands it.not_own it.routes))
  stands-by (Leaves it) =
      of_equal Ends (asked_adds s c) (asked_deletes s c) [] (requests_of it.first ++ deletions old new []) it.adds it.deletes
      (leaving-stands k s (changed s c) it.first may.good (after-good k s c may) (table-turns k s c may) may.stands it.routes it.none)

  pub done_ends : Stands (carried k s c) new (route_list (changed s c))
  done_ends = stands-by (asks s c may.good may.accepted)

  undone-by : Asks s c → (i : ℕ) (refused : Request) → slice_get (asked_adds s c) i ≡ Some refused → replay_from k (undone (asked_adds s c) i refused) ≡ k
  undone-by (Rules it) i refused next =
      ap (λ adds. replay_from k (undone adds i refused)) it.adds ∙ undone_leaves k old new it.gone (switch-with k s c may it.gone it.unused) i refused
  undone-by (Comes it) i refused next =
      ap (λ adds. replay_from k (undone adds i refused)) it.adds ∙ one_undone k (req.Route it.table it.route) i refused (sym (ap (λ adds. slice_get adds i) it.adds) ∙ next)
  undone-by (GivesUp it) i refused next =
      let none : slice_get [] i ≡ Some refused = sym (ap (λ adds. slice_get adds i) it.adds) ∙ next in
      absurd cc
  undone-by (Leaves it) i refused next =
      let none : slice_get [] i ≡ Some refused = sym (ap (λ adds. slice_get adds i) it.adds) ∙ next in
      absurd cc

  pub undone_ends : (i : ℕ) (refused : Request) → slice_get (asked_adds s c) i ≡ Some refused → replay_from k (undone (asked_adds s c) i refused) ≡ k
  undone_ends = undone-by (asks s c may.good may.accepted)
