-- What a rule of a row matches, by fields.
use Rattle.std.proofs.Common.{◌≡◌, ◌<◌, Bool, Some, None, ap, ◌∙◌, ℕ, true, sym, subst, ◌%◌, arith}
use Rattle.std.specs.Prelude.{◌&&◌, if◌then◌else◌, Option}
use Rattle.fwmark.specs.Selection.{net_value, selects as mark_selects, Selection, is_stated, is_net, value_of}
use Rattle.fwmark.proofs.Selected.{value_and_mask-select}
use Rattle.rule_match.specs.Rule.{matches, selects_link, selects_uid, AreSelectorsEqual}
use Rattle.rule_match.specs.declared.packet.Packet.{Packet}
use Rattle.policy_state.specs.Rows.{Item, Row}
use Rattle.policy_state.specs.Table.{stated, stated_users, marks_of, rule_of, priority_at}
use Rattle.std.proofs.lemmas.Bool.{false≢true, and_parts, eqb-true}
use Rattle.fwmark.specs.Mark.{net_of, is_explicit, is_protected, permission_of_mark}
use Rattle.fwmark.specs.Permission.{suffices}
use Rattle.uid_ranges.specs.Range.{holds}
use Rattle.uid_ranges.specs.declared.range.UidRange.{UidRange}
use Rattle.std.proofs.lemmas.Bool.Decides.{nat_tests}

-- the network fits a mark
abbrev pub Fits : Row → Item → Type 0
Fits row i = net_value (stated row.net i.net) < 0x10000

abbrev pub matches_by_fields : Row → Item → Packet → Bool
matches_by_fields row i p =
    mark_selects (marks_of row i) p.mark
    && (selects_link (stated row.incoming i.incoming) (Some p.incoming)
    && (selects_link (if row.bound then Some i.link else None) p.outgoing
    && selects_uid (stated_users row.users i.users) p.uid.number))

pub rule-matches : (row : Row) (i : Item) (p : Packet) → Fits row i → matches (rule_of row i) p ≡ matches_by_fields row i p
rule-matches row i p fits =
    ap (λ b. b && (selects_link (stated row.incoming i.incoming) (Some p.incoming)
    && (selects_link (if row.bound then Some i.link else None) p.outgoing
    && selects_uid (stated_users row.users i.users) p.uid.number)))
    (value_and_mask-select (marks_of row i) p.mark fits)

-- What two rules show of each other that one packet matches, or that have equal selectors.

pub record Shared (r q : UidRange) : Type 0 where
  pub uid : ℕ
  pub one : holds r uid ≡ true
  pub other : holds q uid ≡ true

pub record Overlap (a b : Row) (i j : Item) : Type 0 where
  pub priority : priority_at a i ≡ priority_at b j
  pub net : (m n : ℕ) → stated a.net i.net ≡ Some m → stated b.net j.net ≡ Some n → m ≡ n
  pub incoming : (m n : ℕ) → stated a.incoming i.incoming ≡ Some m → stated b.incoming j.incoming ≡ Some n → m ≡ n
  pub bound : a.bound ≡ true → b.bound ≡ true → i.link ≡ j.link
  pub users : (r q : UidRange) → stated_users a.users i.users ≡ Some r → stated_users b.users j.users ≡ Some q → Shared r q

-- what a rule that matches shows of the packet
pub record Sees (a : Row) (i : Item) (p : Packet) : Type 0 where
  pub net : (m : ℕ) → stated a.net i.net ≡ Some m → net_of p.mark ≡ m
  pub incoming : (m : ℕ) → stated a.incoming i.incoming ≡ Some m → m ≡ p.incoming
  pub bound : a.bound ≡ true → p.outgoing ≡ Some i.link
  pub users : (r : UidRange) → stated_users a.users i.users ≡ Some r → holds r p.uid.number ≡ true

bound_to : (link : ℕ) (outgoing : Option ℕ) → selects_link (Some link) outgoing ≡ true → outgoing ≡ Some link
bound_to link None h = absurd (false≢true h)
bound_to link (Some other) h = ap Some (sym (eqb-true link other h))

pub sees : (a : Row) (i : Item) (p : Packet) → Fits a i → matches (rule_of a i) p ≡ true → Sees a i p
sees a i p fits m =
    let h : matches_by_fields a i p ≡ true = sym (rule-matches a i p fits) ∙ m in
    let one = and_parts (mark_selects (marks_of a i) p.mark) (selects_link (stated a.incoming i.incoming) (Some p.incoming) && (selects_link (if a.bound then Some i.link else None) p.outgoing && selects_uid (stated_users a.users i.users) p.uid.number)) h in
    let two = and_parts (selects_link (stated a.incoming i.incoming) (Some p.incoming)) (selects_link (if a.bound then Some i.link else None) p.outgoing && selects_uid (stated_users a.users i.users) p.uid.number) one.1 in
    let three = and_parts (selects_link (if a.bound then Some i.link else None) p.outgoing) (selects_uid (stated_users a.users i.users) p.uid.number) two.1 in
    let marks : Selection = marks_of a i in
    let four = and_parts (suffices (permission_of_mark p.mark) marks.permission && is_stated marks.guarded (is_protected p.mark) && is_stated marks.explicit (is_explicit p.mark)) (is_net marks.net (net_of p.mark)) one.0 in
    record {
      net = λ m e. eqb-true (net_of p.mark) m (subst (λ o. is_net o (net_of p.mark) ≡ true) e four.1);
      incoming = λ m e. eqb-true m p.incoming (subst (λ o. selects_link o (Some p.incoming) ≡ true) e two.0);
      bound = λ e. bound_to i.link p.outgoing (subst (λ b. selects_link (if b then Some i.link else None) p.outgoing ≡ true) e three.0);
      users = λ r e. subst (λ o. selects_uid o p.uid.number ≡ true) e three.1;
    }

pub meets-by_packet : (a b : Row) (i j : Item) (p : Packet) → Sees a i p → Sees b j p → priority_at a i ≡ priority_at b j → Overlap a b i j
meets-by_packet a b i j p one other same = record {
  priority = same;
  net = λ m n e f. sym (one.net m e) ∙ other.net n f;
  incoming = λ m n e f. one.incoming m e ∙ sym (other.incoming n f);
  bound = λ e f. let both : Some i.link ≡ Some j.link = sym (one.bound e) ∙ other.bound f in cc;
  users = λ r q e f. record { uid = p.uid.number; one = one.users r e; other = other.users q f };
}

-- Rules of equal priority and equal selectors meet.

pub holds_first : (range : UidRange) → holds range range.first.number ≡ true
holds_first range = let ordered = range.ordered in grind (arith, nat_tests)

-- the network is the lowest field of the value
value-net : (m : Selection) → net_value m.net < 0x10000 → value_of m % 65536 ≡ net_value m.net
value-net m fits = omega (arith, fits)

pub meets-by_selectors : (a b : Row) (i j : Item) → Fits a i → Fits b j → AreSelectorsEqual (rule_of a i) (rule_of b j) → priority_at a i ≡ priority_at b j → Overlap a b i j
meets-by_selectors a b i j fits fits' same priority =
    let nets : net_value (stated a.net i.net) ≡ net_value (stated b.net j.net) =
    sym (value-net (marks_of a i) fits) ∙ (ap (λ m. m % 65536) same.mark ∙ value-net (marks_of b j) fits') in
    record {
      priority = priority;
      net = λ m n e f. sym (ap net_value e) ∙ (nets ∙ ap net_value f);
      incoming = λ m n e f. let both : Some m ≡ Some n = sym e ∙ (same.incoming ∙ f) in cc;
      bound = λ e f.
          let both : Some i.link ≡ Some j.link =
          sym (ap (λ b. if b then Some i.link else None) e) ∙ (same.outgoing ∙ ap (λ b. if b then Some j.link else None) f) in cc;
      users = λ r q e f.
          let both : Some r ≡ Some q = sym e ∙ (same.uids ∙ f) in
          let is : r ≡ q = cc in
          record { uid = r.first.number; one = holds_first r; other = subst (λ (q : UidRange). holds q r.first.number ≡ true) is (holds_first r) };
    }
