-- What the kernel's own rule gives: the device itself to the loopback addresses.
use Rattle.std.proofs.Common.{◌≡◌, ◌/◌, ◌^◌, ◌==◌, ◌&&◌, ℕ, Bool, true, false, None, Some, Option, refl, ◌∙◌, ap, arith}
use Rattle.std.specs.Prelude.{if◌then◌else◌}
use Rattle.std.specs.Option.{option_map}
use Rattle.list_lemmas.proofs.Numbers.{eqb-turned}
use Rattle.prefixes.specs.Best.{answer}
use Rattle.prefixes.specs.Route.{fits, suits}
use Rattle.prefixes.specs.declared.addr.Addr.{Addr}
use Rattle.prefixes.specs.declared.addr.Addr.TheVariants as addr
use Rattle.rule_match.specs.declared.verdict.Verdict.TheVariants as verdict
use Rattle.kernel_model.specs.State.{loopback, loopback4, loopback6}
use Rattle.kernel_model.specs.Walk.{verdict_by}
use Rattle.policy_meaning.specs.Policy.{is_loopback, may_use_lo}

suits_lo : (bound : Option ℕ) → suits (Some 1) bound ≡ may_use_lo bound
suits_lo None = refl
suits_lo (Some link) = eqb-turned 1 link

-- what is left of the two loopback routes for a destination, by whether each fits
two : (a b : Bool) (dest : Addr) (bound : Option ℕ) → fits loopback4 dest bound ≡ a → fits loopback6 dest bound ≡ b
    → option_map (verdict_by 255) (answer loopback dest bound) ≡ (if a then Some verdict.Local else if b then Some verdict.Local else None)
two true true dest bound h k = rw (h, k) refl
two true false dest bound h k = rw (h, k) refl
two false true dest bound h k = rw (h, k) refl
two false false dest bound h k = rw (h, k) refl

chosen_by : (a : Bool) → (if a then Some verdict.Local else if false then Some verdict.Local else None) ≡ (if a then Some verdict.Local else None)
chosen_by true = refl
chosen_by false = refl

pub own-gives : (dest : Addr) (bound : Option ℕ) → option_map (verdict_by 255) (answer loopback dest bound) ≡ (if is_loopback dest && may_use_lo bound then Some verdict.Local else None)
own-gives (addr.V4 value) bound =
    two (is_loopback (addr.V4 value) && may_use_lo bound) false (addr.V4 value) bound (ap (λ b. (value / 2 ^ 24 == 127) && b) (suits_lo bound)) refl
    ∙ chosen_by (is_loopback (addr.V4 value) && may_use_lo bound)
own-gives (addr.V6 value) bound =
    let whole : value / 2 ^ 0 ≡ value = omega arith in
    two false (is_loopback (addr.V6 value) && may_use_lo bound) (addr.V6 value) bound refl (ap (λ n. (n == 1) && suits (Some 1) bound) whole ∙ ap (λ b. (value == 1) && b) (suits_lo bound))
