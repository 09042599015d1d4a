-- What the test says that two networks of a state pass.
use Rattle.std.proofs.Common.{◌≡◌, ◌∙◌, ◌==◌, ◌&&◌, ◌||◌, ℕ, Bool, true, false, not, refl, sym, ap, ap₂, subst, nat_le}
use Rattle.std.specs.List.{list_all}
use Rattle.std.proofs.lemmas.Bool.{false≢true, and_parts, and_from, both_ways, not_from_false, not-true, eqb-true, eq-eqb, false_from_ne_true}
use Rattle.list_lemmas.proofs.Numbers.{eqb-turned}
use Rattle.networks.specs.Kinds.{class_of, ranges_of}
use Rattle.policy_state.specs.Good.{differ, nets_differ, ranks_differ}
use Rattle.policy_state.specs.View.{Network, Ranked}
use Rattle.policy_state.proofs.AlikeRules.{all-has}
use Rattle.policy_state.proofs.Members.{all-from}
use Rattle.policy_state.proofs.Owners.{Has}

unless : (b c : Bool) → (b ≡ true → c ≡ true) → (not b || c) ≡ true
unless true c h = h refl
unless false c h = refl

where_so : (b c : Bool) → (not b || c) ≡ true → b ≡ true → c ≡ true
where_so true c h is = h
where_so false c h is = absurd (false≢true is)

pub record Differ (m n : Network) : Type 0 where
  pub ids : (m.id == n.id) ≡ false
  pub links : (link : ℕ) → Has m.interfaces link → Has n.interfaces link → ⊥
  pub ranks : class_of m.kind ≡ class_of n.kind → (r q : Ranked) → Has (ranges_of m.kind) r → Has (ranges_of n.kind) q → ranks_differ r q ≡ true

pub differ-parts : (m n : Network) → nets_differ m n ≡ true → Differ m n
differ-parts m n h =
    let one = and_parts (differ m.id n.id) (list_all (λ i. list_all (differ i) n.interfaces) m.interfaces
    && (not (class_of m.kind == class_of n.kind) || list_all (λ r. list_all (ranks_differ r) (ranges_of n.kind)) (ranges_of m.kind))) h in
    let two = and_parts (list_all (λ i. list_all (differ i) n.interfaces) m.interfaces)
    (not (class_of m.kind == class_of n.kind) || list_all (λ r. list_all (ranks_differ r) (ranges_of n.kind)) (ranges_of m.kind)) one.1 in
    record {
      ids = not-true (m.id == n.id) one.0;
      links = λ link in_m in_n. both_ways (link == link)
          (not-true (link == link) (all-has (differ link) n.interfaces link (all-has (λ i. list_all (differ i) n.interfaces) m.interfaces link two.0 in_m) in_n)) (eq-eqb link link refl);
      ranks = λ same r q in_r in_q.
          let all : list_all (λ r. list_all (ranks_differ r) (ranges_of n.kind)) (ranges_of m.kind) ≡ true =
          where_so (class_of m.kind == class_of n.kind) (list_all (λ r. list_all (ranks_differ r) (ranges_of n.kind)) (ranges_of m.kind)) two.1 (eq-eqb (class_of m.kind) (class_of n.kind) same) in
          all-has (ranks_differ r) (ranges_of n.kind) q (all-has (λ r. list_all (ranks_differ r) (ranges_of n.kind)) (ranges_of m.kind) r all in_r) in_q;
    }

pub differ-from : (m n : Network) → Differ m n → nets_differ m n ≡ true
differ-from m n h =
    and_from (differ m.id n.id) _ (not_from_false (m.id == n.id) h.ids)
    (and_from (list_all (λ i. list_all (differ i) n.interfaces) m.interfaces) _
    (all-from (λ i. list_all (differ i) n.interfaces) m.interfaces (λ i in_i. all-from (differ i) n.interfaces (λ j in_j.
    not_from_false (i == j) (false_from_ne_true (i == j) (λ same. h.links j (subst (λ k. Has m.interfaces k) (eqb-true i j same) in_i) in_j)))))
    (unless (class_of m.kind == class_of n.kind) (list_all (λ r. list_all (ranks_differ r) (ranges_of n.kind)) (ranges_of m.kind)) (λ same.
    all-from (λ r. list_all (ranks_differ r) (ranges_of n.kind)) (ranges_of m.kind) (λ r in_r. all-from (ranks_differ r) (ranges_of n.kind) (λ q in_q.
    h.ranks (eqb-true (class_of m.kind) (class_of n.kind) same) r q in_r in_q)))))

and_turned : (a b : Bool) → (a && b) ≡ (b && a)
and_turned true true = refl
and_turned true false = refl
and_turned false true = refl
and_turned false false = refl

pub ranks-turned : (r q : Ranked) → ranks_differ r q ≡ ranks_differ q r
ranks-turned r q = ap not (ap₂ (λ (a b : Bool). a && b) (eqb-turned r.rank q.rank)
    (and_turned (nat_le r.users.first.number q.users.last.number) (nat_le q.users.first.number r.users.last.number)))

pub differ-turned : (m n : Network) → Differ m n → Differ n m
differ-turned m n h = record {
  ids = eqb-turned n.id m.id ∙ h.ids;
  links = λ link in_n in_m. h.links link in_m in_n;
  ranks = λ same r q in_r in_q. ranks-turned r q ∙ h.ranks (sym same) q r in_q in_r;
}
