-- When a plan may be carried out.
use Rattle.std.specs.Prelude.{◌≡◌, ◌⊎◌, ℕ, ◌+◌, ◌*◌, ◌≤◌, true, false, List, [], ◌∷◌, ◌++◌, length, Option, Some}
use Rattle.std.specs.List.{AllByRecursion}
use Rattle.prefixes.specs.declared.route.Route.{Route}
use Rattle.kernel_model.specs.Same.{Distinct}
use Rattle.kernel_model.specs.State.{is_absent, is_present, is_route}
use Rattle.kernel_model.specs.View.{KernelView, Room, state_of}
use Rattle.kernel_model.specs.PlanView.{PlanView}
use Rattle.kernel_model.specs.declared.request.Request.{Request}
use Rattle.kernel_model.specs.declared.request.Request.TheVariants as req

-- all are rules, or the only one is a route and the kernel is ready for its table
abbrev pub ReadyFor : List Request → Option ℕ → Type 0
ReadyFor adds ready = AllByRecursion (λ q. is_route q ≡ false) adds ⊎ ((n : ℕ) × (route : Route) × (adds ≡ req.Route n route ∷ []) × (ready ≡ Some n))

-- what a plan asks of a kernel: the plan has no request twice, what it adds is absent and what it deletes is present, and there is room for carrying it out and for undoing it
pub record MayCarry (plan : PlanView) (k : KernelView) (left : Room) : Type 0 where
  pub distinct : Distinct (plan.adds ++ plan.deletes)
  pub absent : AllByRecursion (λ q. is_absent (state_of k) q ≡ true) plan.adds
  pub present : AllByRecursion (λ q. is_present (state_of k) q ≡ true) plan.deletes
  pub spare : 2 * length plan.adds + length plan.deletes ≤ left.spare
  pub ready : ReadyFor plan.adds left.ready
