-- The table means the policy, at the start and in every good state.
use Rattle.std.proofs.Common.{◌≡◌, ◌≢◌, ◌∙◌, ◌∷◌, ◌==◌, [], ℕ, Bool, true, false, Option, Some, None, unwrap_or, refl, sym, ap, subst, inl, inr, arith}
use Rattle.std.specs.Prelude.{◌&&◌, ◌||◌, not}
use Rattle.std.specs.Option.{option_and_then}
use Rattle.std.proofs.lemmas.Bool.{cases_Bool, false≢true, eq-eqb}
use Rattle.fwmark.specs.Mark.{net_of, is_explicit, is_protected, has_system}
use Rattle.kernel_model.specs.Stands.{Stands}
use Rattle.kernel_model.specs.State.{KernelState, rules_of, own_rule, start as kernel_start}
use Rattle.kernel_model.specs.Walk.{rule_gives, walk}
use Rattle.networks.specs.Kinds.{is_free, is_secure, is_bypass}
use Rattle.networks.specs.Lists.{find_id}
use Rattle.networks.specs.Network.{local_id, local_network}
use Rattle.networks.specs.declared.network.Network.{Network}
use Rattle.policy_meaning.proofs.Given.{given-one, walk-given}
use Rattle.policy_meaning.proofs.LevelsInTurn.{none_is}
use Rattle.policy_meaning.proofs.Kernel.{kernel-means, own-gives-device}
use Rattle.policy_meaning.specs.Policy.{only_if, first_answer, holders, Asks, names_virtual, asks, asks_named, asks_bound, by_routes, may_reach, may_choose, is_to_device, is_loopback, may_use_lo, is_locked_down, policy, policy_by}
use Rattle.policy_state.proofs.GoodStates.{is-good, are-once, has-links, is-whole}
use Rattle.policy_state.proofs.Owners.{owners_of, IsWhole}
use Rattle.policy_state.proofs.Tables.{table-is}
use Rattle.policy_state.specs.Good.{IsGood, StartsLocal}
use Rattle.policy_state.specs.Table.{rule_table, route_list}
use Rattle.policy_state.specs.View.{StateView, start}
use Rattle.prefixes.specs.Addr.{family_of}
use Rattle.prefixes.specs.declared.addr.Family.{Family}
use Rattle.prefixes.specs.declared.addr.Family.TheVariants as family
use Rattle.rule_law.specs.Rules as law
use Rattle.rule_match.specs.Packet.{is_made}
use Rattle.rule_match.specs.declared.packet.Packet.{Packet}
use Rattle.rule_match.specs.declared.verdict.Verdict.{Verdict}
use Rattle.rule_match.specs.declared.verdict.Verdict.TheVariants as verdict

policy-is : (s : StateView) (p : Packet) → policy s p ≡ policy_by (by_routes p) s p
unfolding policy
policy-is s p = refl

-- the local network has netd's id
local-named : (s : StateView) (good : IsGood s) (whole : IsWhole s) → whole.local.id ≡ local_id
local-named s good whole =
    let start : StartsLocal s.networks = good.formed.networks.local_first in
    let lists : whole.local ∷ whole.others ≡ start.local ∷ start.others = sym whole.first ∙ start.first in
    let same : whole.local ≡ start.local = cc in
    ap (λ (n : Network). n.id) same ∙ start.id_is

pub table_means_policy : (s : StateView) (k : KernelState) (p : Packet) → IsGood s → Stands k (rule_table s) (route_list s) → walk k p ≡ policy s p
table_means_policy s k p good stands =
    kernel-means (owners_of s) s k p (is-good s good.formed) (are-once s good.formed) (has-links s good.formed) (is-whole s good.formed) (local-named s good (is-whole s good.formed))
    (subst (λ rules. Stands k rules (route_list s)) (table-is s) stands)
    ∙ sym (policy-is s p)

-- the first state says nothing but what the kernel's own rule gives

names_nothing : (id : ℕ) (f : Network → Option Verdict) → f local_network ≡ None → option_and_then f (find_id id (local_network ∷ [])) ≡ None
names_nothing id f none = elim (cases_Bool (id == 99)) [ inl e ↦ rw e none | inr e ↦ rw e refl ]

binds_nothing : (o : Option ℕ) → option_and_then {U = Verdict} (λ link. None) o ≡ None
binds_nothing None = refl
binds_nothing (Some link) = refl

no_range : (b : Bool) → (b && false) ≡ false
no_range b = grind arith

silent : (device root system explicit guarded unset virtual : Bool) → unwrap_or (only_if (Some verdict.Local) device) verdict.Unreachable ≡ first_answer verdict.Unreachable (
    only_if (Some verdict.Local) device
    ∷ only_if None root
    ∷ only_if None system
    ∷ only_if None (not guarded)
    ∷ only_if None explicit
    ∷ None
    ∷ only_if None (not explicit)
    ∷ only_if None (not explicit)
    ∷ only_if None system
    ∷ only_if None (not guarded && not explicit)
    ∷ only_if None unset
    ∷ only_if None (unset || (virtual && not explicit))
    ∷ [])
silent device root system explicit guarded unset virtual = grind arith

plain : (b : Bool) → unwrap_or (only_if (Some verdict.Local) (b && true)) verdict.Unreachable ≡ unwrap_or (only_if (Some verdict.Local) b) verdict.Unreachable
plain true = refl
plain false = refl

-- at the start only the device itself answers
start-says : (p : Packet) → unwrap_or (only_if (Some verdict.Local) (is_to_device p)) verdict.Unreachable ≡ policy_by (by_routes p) start p
unfolding holders
start-says p =
    let a : Asks = by_routes p in
    let locked : is_locked_down start p ≡ false = no_range (not (is_protected p.mark)) in
    let reached : asks_bound a start p (may_reach p) ≡ None = binds_nothing p.outgoing in
    let secure : asks_named a start p (λ n. is_secure n.kind) ≡ None = names_nothing (net_of p.mark) (λ n. only_if (asks n p) (is_secure n.kind)) refl in
    let chosen : asks_named a start p (may_choose p) ≡ None = names_nothing (net_of p.mark) (λ n. only_if (asks n p) (may_choose p n)) refl in
    let free : asks_named a start p (λ n. is_free n.kind) ≡ None = names_nothing (net_of p.mark) (λ n. only_if (asks n p) (is_free n.kind)) refl in
    let bypass : asks_named a start p (λ n. is_bypass n.kind) ≡ None = names_nothing (net_of p.mark) (λ n. only_if (asks n p) (is_bypass n.kind)) refl in
    elim (cases_Bool (is_made p)) [
      | inl made ↦ rw (made, locked, reached, secure, chosen, free, bypass) (silent (is_to_device p) (p.uid.number == 0) (has_system p.mark) (is_explicit p.mark) (is_protected p.mark) (net_of p.mark == 0) (names_virtual start p))
      | inr passed ↦
          let incoming : p.incoming ≢ 1 = λ e. false≢true (sym passed ∙ eq-eqb p.incoming 1 e) in
          let unbound : may_use_lo p.outgoing ≡ true = ap may_use_lo (none_is p.outgoing (p.not_bound_passed incoming)) in
          rw (passed, unbound) (plain (is_loopback p.dest))
    ]

own_alone : (f : Family) → rules_of kernel_start f ≡ own_rule ∷ []
own_alone family.V4 = refl
own_alone family.V6 = refl

pub own_rule_means_start : (p : Packet) → walk kernel_start p ≡ policy start p
own_rule_means_start p =
    ap (λ rules. law.walk (rule_gives kernel_start.tables p) verdict.Unreachable rules) (own_alone (family_of p.dest))
    ∙ (walk-given (rule_gives kernel_start.tables p) verdict.Unreachable (own_rule ∷ []) []
    ∙ (ap (λ o. unwrap_or o verdict.Unreachable) (given-one (rule_gives kernel_start.tables p) own_rule ∙ own-gives-device kernel_start.tables p refl)
    ∙ (start-says p ∙ sym (policy-is start p))))
