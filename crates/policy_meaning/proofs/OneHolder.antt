-- The network that holds a user at a rank: no second one of its kind does, so it is the only one that says something.
use Rattle.std.proofs.Common.{◌≡◌, ◌∙◌, ◌==◌, ℕ, Bool, true, false, Option, refl, sym, ap}
use Rattle.std.specs.Prelude.{◌&&◌}
use Rattle.std.specs.Option.{option_and_then}
use Rattle.std.proofs.lemmas.Bool.{and_parts, eqb-true}
use Rattle.networks.specs.Kinds.{class_of, ranges_of}
use Rattle.networks.specs.declared.kind.Kind.{Kind}
use Rattle.networks.specs.declared.network.Network.{Network}
use Rattle.policy_state.specs.Good.{IsGood}
use Rattle.policy_state.specs.View.{Local, Physical, Virtual, Ranked, StateView}
use Rattle.policy_state.proofs.GoodStates.{are-once, is-good}
use Rattle.policy_state.proofs.Owners.{Has, IsOwned, Passing, of_any, owners_of}
use Rattle.policy_meaning.specs.Asking.{holder_at, is_holder, is_meant}
use Rattle.policy_meaning.specs.Policy.{only_if, asks, holds_at}
use Rattle.policy_meaning.specs.declared.holders.Holder.{Holder}
use Rattle.policy_meaning.specs.declared.holders.Holder.TheVariants as holder
use Rattle.policy_meaning.proofs.AnswersInTurn.{net_says, rank_says}
use Rattle.policy_meaning.proofs.Given.{given-found, given-same}
use Rattle.policy_meaning.proofs.RowAnswers.{at-most-one}
use Rattle.rule_match.specs.declared.packet.Packet.{Packet}
use Rattle.rule_match.specs.declared.verdict.Verdict.{Verdict}
use Rattle.uid_ranges.specs.Range.{holds}

abbrev class_meant : Holder → ℕ
class_meant holder.Secure = 2
class_meant holder.Bypass = 2
class_meant holder.Preferred = 1

of_class : (h : Holder) (k : Kind) → is_holder h k ≡ true → class_of k ≡ class_meant h
of_class holder.Secure Local is = cc
of_class holder.Secure (Physical permission apps) is = cc
of_class holder.Secure (Virtual secure users) is = refl
of_class holder.Bypass Local is = cc
of_class holder.Bypass (Physical permission apps) is = cc
of_class holder.Bypass (Virtual secure users) is = refl
of_class holder.Preferred Local is = cc
of_class holder.Preferred (Physical permission apps) is = refl
of_class holder.Preferred (Virtual secure users) is = cc

-- the network of this kind holds the UID at this rank
abbrev holds_so : Holder → ℕ → ℕ → Network → Bool
holds_so h uid rank n = is_holder h n.kind && holds_at uid rank n

-- such a network's id is that of the user's owner
owner-id : (s : StateView) → IsGood s → (h : Holder) (uid rank : ℕ) (n : Network) → Has s.networks n → holds_so h uid rank n ≡ true →
    (owners_of s).of_user (class_meant h) rank uid ≡ n.id
owner-id s good h uid rank n there passes =
    let both = and_parts (is_holder h n.kind) (holds_at uid rank n) passes in
    let owned : IsOwned (owners_of s) s = is-good s good.formed in
    let test : Ranked → Bool = λ r. (r.rank == rank) && holds r.users uid in
    let it : Passing test (ranges_of n.kind) = of_any test (ranges_of n.kind) both.1 in
    let parts = and_parts (it.one.rank == rank) (holds it.one.users uid) it.passes in
    ap (λ (k : ℕ). (owners_of s).of_user k rank uid) (sym (of_class h n.kind both.0))
    ∙ (ap (λ (k : ℕ). (owners_of s).of_user (class_of n.kind) k uid) (sym (eqb-true it.one.rank rank parts.0))
    ∙ (owned.owns n there).users it.one uid it.there parts.1)

-- what is meant is of the kind
meant-says : (h : Holder) (p : Packet) (k : Kind) (answer : Option Verdict) (holds : Bool) →
    only_if answer (is_meant h p k && holds) ≡ only_if (only_if answer (is_meant h p k)) (is_holder h k && holds)
meant-says holder.Secure p k answer holds = twice (is_meant holder.Secure p k) answer holds
  where
    twice : (b : Bool) (o : Option Verdict) (c : Bool) → only_if o (b && c) ≡ only_if (only_if o b) (b && c)
    twice true o c = refl
    twice false o c = refl
meant-says holder.Bypass p k answer holds = twice (is_meant holder.Bypass p k) answer holds
  where
    twice : (b : Bool) (o : Option Verdict) (c : Bool) → only_if o (b && c) ≡ only_if (only_if o b) (b && c)
    twice true o c = refl
    twice false o c = refl
meant-says holder.Preferred p Local answer holds = refl
meant-says holder.Preferred p (Physical permission apps) answer holds = swap (is_meant holder.Preferred p (Physical permission apps)) holds
  where
    swap : (b c : Bool) → only_if answer (b && c) ≡ only_if (only_if answer b) c
    swap true c = refl
    swap false true = refl
    swap false false = refl
meant-says holder.Preferred p (Virtual secure users) answer holds = refl

-- what is said at a rank is what the one network says that holds the user there
pub holder-says : (s : StateView) → IsGood s → (h : Holder) (p : Packet) (rank : ℕ) →
    rank_says h s p rank ≡ option_and_then (λ (n : Network). only_if (asks n p) (is_meant h p n.kind)) (holder_at h p.uid.number rank s.networks)
holder-says s good h p rank =
    let uid = p.uid.number in
    let says : Network → Option Verdict = λ n. only_if (asks n p) (is_meant h p n.kind) in
    let owned : IsOwned (owners_of s) s = is-good s good.formed in
    given-same (net_says h p rank) (λ (n : Network). only_if (says n) (holds_so h uid rank n)) s.networks (λ place n at. meant-says h p n.kind (asks n p) (holds_at uid rank n))
    ∙ given-found says (holds_so h uid rank) s.networks (at-most-one (holds_so h uid rank) s.networks (are-once s good.formed).networks (λ m n in_m in_n e f.
    owned.one_id m n in_m in_n (sym (owner-id s good h uid rank m in_m e) ∙ owner-id s good h uid rank n in_n f)))
