-- Levels of the table as clauses of the policy: the rows of a level together say what one clause says.
use Rattle.std.proofs.Common.{◌≡◌, ◌∙◌, ◌==◌, ℕ, map, Bool, true, false, Option, Some, None, List, [], ◌∷◌, refl, sym, ap, ap₂, inl, inr, arith}
use Rattle.std.specs.Prelude.{◌+◌, ◌&&◌, ◌||◌, not, find}
use Rattle.std.specs.List.{list_any}
use Rattle.std.specs.Option.{option_or, option_and_then}
use Rattle.std.proofs.lemmas.Bool.{cases_Bool, and_parts, eqb-true}
use Rattle.std.proofs.lemmas.Bool.Decides.{nat_tests}
use Rattle.fwmark.specs.Mark.{net_of, is_explicit, is_protected, permission_of_mark, has_system}
use Rattle.fwmark.specs.Permission.{suffices}
use Rattle.rule_match.specs.Packet.{is_made}
use Rattle.rule_match.specs.Rule.{selects_link}
use Rattle.rule_match.specs.declared.packet.Packet.{Packet}
use Rattle.rule_match.specs.declared.verdict.Verdict.{Verdict}
use Rattle.uid_ranges.specs.Range.{holds}
use Rattle.policy_state.specs.View.{Ranked, Kind, Local, Physical, Virtual, Network, StateView}
use Rattle.policy_state.specs.declared.tether.TetherPair.{TetherPair}
use Rattle.policy_state.specs.Rows.{default_of, nothing, range_item, pair_item, picks, permission_of, ranges_of, links_of, needs_of, class_of, is_free, is_secure, is_bypass, is_default}
use Rattle.policy_state.specs.declared.row.Item.{Item}
use Rattle.policy_state.specs.declared.row.Row.{Row}
use Rattle.policy_state.specs.declared.row.NetworkSet.{NetworkSet}
use Rattle.policy_state.specs.declared.row.NetworkSet.TheVariants.{OfLocal, OfPhysical, OfFree, OfDefault, OfVirtual, OfSecure, OfBypass}
use Rattle.policy_state.specs.declared.row.NetworkPart.{NetworkPart}
use Rattle.policy_state.specs.declared.row.NetworkPart.TheVariants.{Whole, EachInterface, EachRange, EachDefault}
use Rattle.policy_state.specs.declared.row.OnePer.TheVariants.{EachOf}
use Rattle.networks.specs.Kinds.{is_virtual}
use Rattle.policy_state.specs.Table.{stated, root_range, rule_of, rules_in, root_physical, root_local, virtual_to_local, secure_named, locked_down, explicit_physical, explicit_local, explicit_virtual, explicit_root, bound_physical, bound_local, bound_virtual, local_links, tethered, implicit, bypass_named, split, default_links, last}
use Rattle.policy_state.proofs.RowTests.{is_own, is_fit, is_linked}
use Rattle.policy_state.proofs.Owners.{Owners, IsOwned, AreOnce}
use Rattle.policy_meaning.proofs.Answers.{Answers, asks_links, by_tables, rule_says, net_says, links_say, split_says, lead_says, suits, is_user}
use Rattle.policy_meaning.specs.Policy.{only_if, Asks, first_given, may_use, may_reach, may_bind, may_choose, asks_named, asks_bound, asks_default, names_virtual, is_locked_down}
use Rattle.list_lemmas.proofs.Numbers.{eqb-turned}
use Rattle.networks.specs.Lists.{find_id, find_link}
use Rattle.uid_ranges.specs.Ranks.{holds_user}
use Rattle.policy_state.proofs.SharedPackets.{Fits}
use Rattle.policy_meaning.proofs.Given.{given-map, given-same, given-one, or-none}
use Rattle.policy_meaning.proofs.RowAnswers.{item-says, each-says, given-any, only-both, links-given}
use Rattle.policy_meaning.proofs.RowAnswers.{anywhere, plain-links, named-says, admits, bound-says, unbound-says, default-says}
use Rattle.rule_match.specs.declared.verdict.Verdict.TheVariants as verdict

-- looked up, and tested

and-both : {N V : Type 0} (f g : N → Option V) (o : Option N) → option_or (option_and_then f o) (option_and_then g o) ≡ option_and_then (λ n. option_or (f n) (g n)) o
and-both f g None = refl
and-both f g (Some n) = refl

pub and-same : {N V : Type 0} (f g : N → Option V) (o : Option N) → ((n : N) → o ≡ Some n → f n ≡ g n) → option_and_then f o ≡ option_and_then g o
and-same f g None same = refl
and-same f g (Some n) same = same n refl

and-test : {N V : Type 0} (g : N → Option V) (b : Bool) (o : Option N) → option_and_then (λ n. only_if (g n) b) o ≡ only_if (option_and_then g o) b
and-test g true o = refl
and-test g false None = refl
and-test g false (Some n) = refl

pub found-passes : {N : Type 0} (t : N → Bool) (xs : List N) (n : N) → find t xs ≡ Some n → t n ≡ true
found-passes t [] n h = absurd cc
found-passes {N = N} t (x ∷ xs) n h = elim (cases_Bool (t x)) [
  | inl e ↦ let is : Some x ≡ Some n = rw e at h in let same : x ≡ n = cc in ap t (sym same) ∙ e
  | inr e ↦ found-passes t xs n (rw e at h)
]

-- tests in another order

none-if : {V : Type 0} (b : Bool) → only_if {V = V} None b ≡ None
none-if true = refl
none-if false = refl

named-parts : {V : Type 0} (o : Option V) (sys picks : Bool) → only_if (only_if o ((sys && true && true && true) && true)) picks ≡ only_if (only_if o picks) sys
named-parts o sys picks = grind arith

implicit-parts : {V : Type 0} (o : Option V) (made plain picks : Bool) → only_if (only_if (only_if o made) ((true && true && plain && true) && true)) picks ≡ only_if (only_if (only_if o picks) plain) made
implicit-parts o made plain picks = grind arith

local-parts : {V : Type 0} (o : Option V) (made explicit : Bool) → only_if (only_if o (made && true)) ((explicit && true) && true) ≡ only_if (only_if o explicit) made
local-parts o made explicit = grind arith

chosen-parts : {V : Type 0} (o : Option V) (made may explicit : Bool) → only_if (only_if o made) ((may && true && explicit && true) && true) ≡ only_if (only_if (only_if o may) explicit) made
chosen-parts o made may explicit = grind arith

virtual-parts : {V : Type 0} (o : Option V) (made explicit user sys root : Bool)
    → option_or (only_if (only_if o made) ((true && true && explicit && true) && user)) (only_if (only_if o made) ((sys && true && explicit && true) && root))
    ≡ only_if (only_if (only_if o (user || root && sys)) explicit) made
virtual-parts o made explicit user sys root = grind arith

bound-parts : {V : Type 0} (o : Option V) (made may user : Bool) → only_if (only_if o made) ((may && true && true && true) && user) ≡ only_if (only_if (only_if o may) user) made
bound-parts o made may user = grind arith

split-parts : {V : Type 0} (o : Option V) (may plain picks : Bool) → only_if (only_if o ((may && true && plain && true) && true)) picks ≡ only_if (only_if o may) (picks && plain)
split-parts o may plain picks = grind arith

default-parts : {V : Type 0} (o : Option V) (made may net : Bool) → only_if (only_if o made) ((may && true && true && net) && true) ≡ only_if (only_if (only_if o may) net) made
default-parts o made may net = grind arith

barred-parts : {V : Type 0} (o : Option V) (made plain any : Bool) → only_if (only_if o (made && true)) ((true && plain && true && true) && any) ≡ only_if (only_if o (plain && any)) made
barred-parts o made plain any = grind arith

is_root : (uid : ℕ) → holds root_range uid ≡ (uid == 0)
is_root uid = grind (arith, nat_tests)

module _ (answers : Answers) (s : StateView) (p : Packet) (o : Owners) (good : IsOwned o s) (once : AreOnce s) where
  abbrev pub says : Row → Option Verdict
  says row = first_given (rule_says answers p) (rules_in s row)

  abbrev a : Asks
  a = by_tables answers

  made : (1 == p.incoming) ≡ is_made p
  made = eqb-turned 1 p.incoming

  abbrev named : Option Network
  named = find_id (net_of p.mark) s.networks

  -- what a row says of a network that the mark names
  abbrev by_name : Row → NetworkSet → NetworkPart → Network → Option Verdict
  by_name row pick spread n = only_if (net_says answers p (anywhere row) (default_of s) spread n) (picks pick s.default n)

  -- the explicit choice

  explicit-net : (n : Network) → option_or (by_name explicit_physical OfPhysical EachInterface n) (option_or (by_name explicit_local OfLocal Whole n) (option_or (by_name explicit_virtual OfVirtual EachRange n) (by_name explicit_root OfVirtual EachInterface n)))
      ≡ only_if (only_if (only_if (a.net n) (may_choose p n)) (is_explicit p.mark)) (is_made p)
  explicit-net n = by n.kind refl
    where
      by : (k : Kind) → n.kind ≡ k → option_or (by_name explicit_physical OfPhysical EachInterface n) (option_or (by_name explicit_local OfLocal Whole n) (option_or (by_name explicit_virtual OfVirtual EachRange n) (by_name explicit_root OfVirtual EachInterface n)))
          ≡ only_if (only_if (only_if (a.net n) (may_choose p n)) (is_explicit p.mark)) (is_made p)
      by Local is = rw is (rw made (or-none _ ∙ local-parts (answers 97) (is_made p) (is_explicit p.mark)))
      by (Physical permission apps) is = rw is (or-none _
          ∙ (ap (λ v. only_if v ((suffices (permission_of_mark p.mark) permission && true && is_explicit p.mark && true) && true)) (plain-links answers p (anywhere explicit_physical) refl refl n.interfaces)
          ∙ rw made (chosen-parts (asks_links answers n.interfaces) (is_made p) (suffices (permission_of_mark p.mark) permission) (is_explicit p.mark))))
      by (Virtual secure users) is = rw is (
          ap₂ (λ (v w : Option Verdict). option_or (only_if v ((true && true && is_explicit p.mark && true) && holds_user users p.uid.number)) (only_if w ((has_system p.mark && true && is_explicit p.mark && true) && holds root_range p.uid.number)))
          (plain-links answers p (anywhere explicit_virtual) refl refl n.interfaces) (plain-links answers p (anywhere explicit_root) refl refl n.interfaces)
          ∙ rw (made, is_root p.uid.number) (virtual-parts (asks_links answers n.interfaces) (is_made p) (is_explicit p.mark) (holds_user users p.uid.number) (has_system p.mark) (p.uid.number == 0)))

  pub explicit-level : option_or (says explicit_physical) (option_or (says explicit_local) (option_or (says explicit_virtual) (says explicit_root)))
      ≡ only_if (only_if (asks_named a s p (may_choose p)) (is_explicit p.mark)) (is_made p)
  explicit-level =
      ap₂ option_or (named-says answers p explicit_physical o s good once refl refl OfPhysical EachInterface refl)
      (ap₂ option_or (named-says answers p explicit_local o s good once refl refl OfLocal Whole refl)
      (ap₂ option_or (named-says answers p explicit_virtual o s good once refl refl OfVirtual EachRange refl) (named-says answers p explicit_root o s good once refl refl OfVirtual EachInterface refl)
      ∙ and-both (by_name explicit_virtual OfVirtual EachRange) (by_name explicit_root OfVirtual EachInterface) named)
      ∙ and-both (by_name explicit_local OfLocal Whole) (λ n. option_or (by_name explicit_virtual OfVirtual EachRange n) (by_name explicit_root OfVirtual EachInterface n)) named)
      ∙ (and-both (by_name explicit_physical OfPhysical EachInterface) (λ n. option_or (by_name explicit_local OfLocal Whole n) (option_or (by_name explicit_virtual OfVirtual EachRange n) (by_name explicit_root OfVirtual EachInterface n))) named
      ∙ (and-same _ (λ (n : Network). only_if (only_if (only_if (a.net n) (may_choose p n)) (is_explicit p.mark)) (is_made p)) named (λ n is. explicit-net n)
      ∙ (and-test (λ (n : Network). only_if (only_if (a.net n) (may_choose p n)) (is_explicit p.mark)) (is_made p) named
      ∙ ap (λ v. only_if v (is_made p)) (and-test (λ (n : Network). only_if (a.net n) (may_choose p n)) (is_explicit p.mark) named))))

  -- the VPN that the mark names, where it has system

  pub secure-named : says secure_named ≡ only_if (asks_named a s p (λ n. is_secure n.kind)) (has_system p.mark)
  secure-named =
      named-says answers p secure_named o s good once refl refl OfSecure EachInterface refl
      ∙ (and-same (by_name secure_named OfSecure EachInterface) (λ (n : Network). only_if (only_if (a.net n) (is_secure n.kind)) (has_system p.mark)) named (λ n is. net n n.kind refl)
      ∙ and-test (λ (n : Network). only_if (a.net n) (is_secure n.kind)) (has_system p.mark) named)
    where
      net : (n : Network) (k : Kind) → n.kind ≡ k → by_name secure_named OfSecure EachInterface n ≡ only_if (only_if (a.net n) (is_secure n.kind)) (has_system p.mark)
      net n Local is = rw is (sym (none-if (has_system p.mark)))
      net n (Physical permission apps) is = rw is (sym (none-if (has_system p.mark)))
      net n (Virtual secure users) is = rw is (
          ap (λ v. only_if (only_if v ((has_system p.mark && true && true && true) && true)) secure) (plain-links answers p (anywhere secure_named) refl refl n.interfaces)
          ∙ named-parts (asks_links answers n.interfaces) (has_system p.mark) secure)

  pub bypass-named : says bypass_named ≡ only_if (asks_named a s p (λ n. is_bypass n.kind)) (has_system p.mark)
  bypass-named =
      named-says answers p bypass_named o s good once refl refl OfBypass EachInterface refl
      ∙ (and-same (by_name bypass_named OfBypass EachInterface) (λ (n : Network). only_if (only_if (a.net n) (is_bypass n.kind)) (has_system p.mark)) named (λ n is. net n n.kind refl)
      ∙ and-test (λ (n : Network). only_if (a.net n) (is_bypass n.kind)) (has_system p.mark) named)
    where
      net : (n : Network) (k : Kind) → n.kind ≡ k → by_name bypass_named OfBypass EachInterface n ≡ only_if (only_if (a.net n) (is_bypass n.kind)) (has_system p.mark)
      net n Local is = rw is (sym (none-if (has_system p.mark)))
      net n (Physical permission apps) is = rw is (sym (none-if (has_system p.mark)))
      net n (Virtual secure users) is = rw is (
          ap (λ v. only_if (only_if v ((has_system p.mark && true && true && true) && true)) (is_bypass (Virtual secure users))) (plain-links answers p (anywhere bypass_named) refl refl n.interfaces)
          ∙ named-parts (asks_links answers n.interfaces) (has_system p.mark) (is_bypass (Virtual secure users)))

  -- the physical network that the mark names without choosing it

  pub implicit-level : says implicit ≡ only_if (only_if (asks_named a s p (λ n. is_free n.kind)) (not (is_explicit p.mark))) (is_made p)
  implicit-level =
      named-says answers p implicit o s good once refl refl OfFree EachInterface refl
      ∙ (and-same (by_name implicit OfFree EachInterface) (λ (n : Network). only_if (only_if (only_if (a.net n) (is_free n.kind)) (not (is_explicit p.mark))) (is_made p)) named (λ n is. net n n.kind refl)
      ∙ (and-test (λ (n : Network). only_if (only_if (a.net n) (is_free n.kind)) (not (is_explicit p.mark))) (is_made p) named
      ∙ ap (λ v. only_if v (is_made p)) (and-test (λ (n : Network). only_if (a.net n) (is_free n.kind)) (not (is_explicit p.mark)) named)))
    where
      unpicked : {V : Type 0} (b c : Bool) → ◌≡◌ {A = Option V} None (only_if (only_if None b) c)
      unpicked b c = grind arith

      net : (n : Network) (k : Kind) → n.kind ≡ k → by_name implicit OfFree EachInterface n ≡ only_if (only_if (only_if (a.net n) (is_free n.kind)) (not (is_explicit p.mark))) (is_made p)
      net n Local is = rw is (unpicked (not (is_explicit p.mark)) (is_made p))
      net n (Physical permission apps) is = rw is (
          ap (λ v. only_if (only_if v ((true && true && not (is_explicit p.mark) && true) && true)) (is_free (Physical permission apps))) (plain-links answers p (anywhere implicit) refl refl n.interfaces)
          ∙ rw made (implicit-parts (asks_links answers n.interfaces) (is_made p) (not (is_explicit p.mark)) (is_free (Physical permission apps))))
      net n (Virtual secure users) is = rw is (unpicked (not (is_explicit p.mark)) (is_made p))

  -- the bound interface

  -- what the network of the interface says to which the packet is bound
  abbrev of_bound : (ℕ → Network → Option Verdict) → Option Verdict
  of_bound f = option_and_then (λ link. option_and_then (f link) (find_link link s.networks)) p.outgoing

  of_bound-both : (f g : ℕ → Network → Option Verdict) → option_or (of_bound f) (of_bound g) ≡ of_bound (λ link n. option_or (f link n) (g link n))
  of_bound-both f g =
      and-both (λ link. option_and_then (f link) (find_link link s.networks)) (λ link. option_and_then (g link) (find_link link s.networks)) p.outgoing
      ∙ and-same (λ link. option_or (option_and_then (f link) (find_link link s.networks)) (option_and_then (g link) (find_link link s.networks))) (λ link. option_and_then (λ n. option_or (f link n) (g link n)) (find_link link s.networks)) p.outgoing
      (λ link is. and-both (f link) (g link) (find_link link s.networks))

  of_bound-same : (f g : ℕ → Network → Option Verdict) → ((link : ℕ) (n : Network) → f link n ≡ g link n) → of_bound f ≡ of_bound g
  of_bound-same f g same =
      and-same (λ link. option_and_then (f link) (find_link link s.networks)) (λ link. option_and_then (g link) (find_link link s.networks)) p.outgoing
      (λ link is. and-same (f link) (g link) (find_link link s.networks) (λ n at. same link n))

  of_bound-test : (f : ℕ → Network → Option Verdict) (b : Bool) → of_bound (λ link n. only_if (f link n) b) ≡ only_if (of_bound f) b
  of_bound-test f b =
      and-same (λ link. option_and_then (λ n. only_if (f link n) b) (find_link link s.networks)) (λ link. only_if (option_and_then (f link) (find_link link s.networks)) b) p.outgoing
      (λ link is. and-test (f link) b (find_link link s.networks))
      ∙ and-test (λ link. option_and_then (f link) (find_link link s.networks)) b p.outgoing

  abbrev by_links : Row → Network → Bool
  by_links row n = suits row p n.id (permission_of n.kind) && is_user row p None

  abbrev by_users : Row → Network → Bool
  by_users row n = suits row p n.id (permission_of n.kind) && list_any (λ (r : Ranked). is_user row p (Some r.users)) (ranges_of n.kind)

  abbrev by_bound : Row → (Network → Bool) → NetworkSet → ℕ → Network → Option Verdict
  by_bound row admits pick link n = only_if (only_if (only_if (lead_says answers row.target link) (1 == p.incoming)) (admits n)) (picks pick s.default n)

  -- a row whose rules are bound
  row-bound : (row : Row) (bound : row.bound ≡ true) (not_own : is_own row.incoming ≡ false) → ((link : ℕ) → only_if (lead_says answers row.target link) (selects_link (stated row.incoming 0) (Some p.incoming)) ≡ only_if (lead_says answers row.target link) (1 == p.incoming))
      → is_fit row ≡ true → (pick : NetworkSet) (spread : NetworkPart) → is_linked spread ≡ true → row.per ≡ EachOf pick spread → says row ≡ of_bound (by_bound row (admits answers p row bound not_own spread) pick)
  row-bound row bound not_own incoming fit pick spread linked per = by p.outgoing refl
    where
      test : Network → Bool
      test = admits answers p row bound not_own spread

      by : (out : Option ℕ) → p.outgoing ≡ out → says row ≡ of_bound (by_bound row test pick)
      by None is = unbound-says answers p row bound is o s good.owns fit pick spread linked per ∙ sym (ap (option_and_then (λ link. option_and_then (by_bound row test pick link) (find_link link s.networks))) is)
      by (Some link) is =
          bound-says answers p row bound not_own o s good once fit pick spread linked per link is
          ∙ (and-same (λ n. only_if (only_if (only_if (lead_says answers row.target link) (selects_link (stated row.incoming 0) (Some p.incoming))) (test n)) (picks pick s.default n)) (by_bound row test pick link) (find_link link s.networks)
          (λ n at. ap (λ v. only_if (only_if v (test n)) (picks pick s.default n)) (incoming link))
          ∙ sym (ap (option_and_then (λ link. option_and_then (by_bound row test pick link) (find_link link s.networks))) is))

  bound-net : (link : ℕ) (n : Network) → option_or (by_bound bound_physical (by_links bound_physical) OfPhysical link n)
      (option_or (by_bound bound_local (by_links bound_local) OfLocal link n) (by_bound bound_virtual (by_users bound_virtual) OfVirtual link n))
      ≡ only_if (only_if (a.link n link) (may_bind p n)) (is_made p)
  bound-net link n = by n.kind refl
    where
      by : (k : Kind) → n.kind ≡ k → option_or (by_bound bound_physical (by_links bound_physical) OfPhysical link n)
          (option_or (by_bound bound_local (by_links bound_local) OfLocal link n) (by_bound bound_virtual (by_users bound_virtual) OfVirtual link n))
          ≡ only_if (only_if (a.link n link) (may_bind p n)) (is_made p)
      by Local is = rw is (rw made (or-none (only_if (answers 97) (is_made p))))
      by (Physical permission apps) is = rw is (rw made (or-none _ ∙ bound-parts (answers (1000 + link)) (is_made p) (suffices (permission_of_mark p.mark) permission) true))
      by (Virtual secure users) is = rw is (rw made (virtual (answers (1000 + link)) (is_made p) (holds_user users p.uid.number)))
        where
          virtual : (o : Option Verdict) (made user : Bool) → only_if (only_if o made) ((true && true && true && true) && user) ≡ only_if (only_if o user) made
          virtual o made user = grind arith

  pub bound-level : option_or (says bound_physical) (option_or (says bound_local) (says bound_virtual)) ≡ only_if (asks_bound a s p (may_bind p)) (is_made p)
  bound-level =
      ap₂ option_or (row-bound bound_physical refl refl (λ link. refl) refl OfPhysical EachInterface refl refl)
      (ap₂ option_or (row-bound bound_local refl refl (λ link. refl) refl OfLocal EachInterface refl refl) (row-bound bound_virtual refl refl (λ link. refl) refl OfVirtual EachRange refl refl)
      ∙ of_bound-both (by_bound bound_local (by_links bound_local) OfLocal) (by_bound bound_virtual (by_users bound_virtual) OfVirtual))
      ∙ (of_bound-both (by_bound bound_physical (by_links bound_physical) OfPhysical) (λ link n. option_or (by_bound bound_local (by_links bound_local) OfLocal link n) (by_bound bound_virtual (by_users bound_virtual) OfVirtual link n))
      ∙ (of_bound-same _ (λ link (n : Network). only_if (only_if (a.link n link) (may_bind p n)) (is_made p)) bound-net
      ∙ of_bound-test (λ link (n : Network). only_if (a.link n link) (may_bind p n)) (is_made p)))

  -- root's interface

  root-net : (link : ℕ) (n : Network) → option_or (by_bound root_physical (by_links root_physical) OfPhysical link n) (by_bound root_local (by_links root_local) OfLocal link n)
      ≡ only_if (only_if (only_if (a.link n link) (may_reach p n)) (p.uid.number == 0)) (is_made p)
  root-net link n = by n.kind refl
    where
      none-twice : {V : Type 0} (b c : Bool) → ◌≡◌ {A = Option V} None (only_if (only_if None b) c)
      none-twice b c = grind arith

      at-local : (o : Option Verdict) (made root : Bool) → only_if (only_if o made) ((true && true && true && true) && root) ≡ only_if (only_if o root) made
      at-local o made root = grind arith

      by : (k : Kind) → n.kind ≡ k → option_or (by_bound root_physical (by_links root_physical) OfPhysical link n) (by_bound root_local (by_links root_local) OfLocal link n)
          ≡ only_if (only_if (only_if (a.link n link) (may_reach p n)) (p.uid.number == 0)) (is_made p)
      by Local is = rw is (rw (made, is_root p.uid.number) (at-local (answers 97) (is_made p) (p.uid.number == 0)))
      by (Physical permission apps) is = rw is (rw (made, is_root p.uid.number) (or-none _ ∙ bound-parts (answers (1000 + link)) (is_made p) (suffices (permission_of_mark p.mark) permission) (p.uid.number == 0)))
      by (Virtual secure users) is = rw is (none-twice (p.uid.number == 0) (is_made p))

  pub root-level : option_or (says root_physical) (says root_local) ≡ only_if (only_if (asks_bound a s p (may_reach p)) (p.uid.number == 0)) (is_made p)
  root-level =
      ap₂ option_or (row-bound root_physical refl refl (λ link. refl) refl OfPhysical EachInterface refl refl) (row-bound root_local refl refl (λ link. refl) refl OfLocal EachInterface refl refl)
      ∙ (of_bound-both (by_bound root_physical (by_links root_physical) OfPhysical) (by_bound root_local (by_links root_local) OfLocal)
      ∙ (of_bound-same _ (λ link (n : Network). only_if (only_if (only_if (a.link n link) (may_reach p n)) (p.uid.number == 0)) (is_made p)) root-net
      ∙ (of_bound-test (λ link (n : Network). only_if (only_if (a.link n link) (may_reach p n)) (p.uid.number == 0)) (is_made p)
      ∙ ap (λ v. only_if v (is_made p)) (of_bound-test (λ link (n : Network). only_if (a.link n link) (may_reach p n)) (p.uid.number == 0)))))

  -- the default network, and what the mark leads to it that names a virtual network

  default-kind : (n : Network) → default_of s ≡ Some n → class_of n.kind ≡ 1
  default-kind n is = eqb-true (class_of n.kind) 1 (and_parts (class_of n.kind == 1) (is_default s.default n.id) (found-passes (λ (n : Network). picks OfDefault s.default n) s.networks n is)).0

  plainly : (n : Network) → class_of n.kind ≡ 1 → a.net n ≡ asks_links answers n.interfaces
  plainly n is = by n.kind refl
    where
      by : (k : Kind) → n.kind ≡ k → a.net n ≡ asks_links answers n.interfaces
      by Local e = absurd (omega (arith, is, ap class_of e))
      by (Physical permission apps) e = rw e refl
      by (Virtual secure users) e = rw e refl

  pub default-level : says default_links ≡ only_if (only_if (asks_default a s p) (net_of p.mark == 0)) (is_made p)
  default-level =
      default-says answers p default_links o s good once refl EachInterface refl
      ∙ (and-same (net_says answers p default_links (default_of s) EachInterface) (λ (n : Network). only_if (only_if (only_if (a.net n) (may_use p n.kind)) (net_of p.mark == 0)) (is_made p)) (default_of s) net
      ∙ (and-test (λ (n : Network). only_if (only_if (a.net n) (may_use p n.kind)) (net_of p.mark == 0)) (is_made p) (default_of s)
      ∙ ap (λ v. only_if v (is_made p)) (and-test (λ (n : Network). only_if (a.net n) (may_use p n.kind)) (net_of p.mark == 0) (default_of s))))
    where
      net : (n : Network) → default_of s ≡ Some n → net_says answers p default_links (default_of s) EachInterface n ≡ only_if (only_if (only_if (a.net n) (may_use p n.kind)) (net_of p.mark == 0)) (is_made p)
      net n is =
          ap (λ v. only_if v ((may_use p n.kind && true && true && (net_of p.mark == 0)) && true)) (plain-links answers p default_links refl refl n.interfaces)
          ∙ rw (made, plainly n (default-kind n is)) (default-parts (asks_links answers n.interfaces) (is_made p) (may_use p n.kind) (net_of p.mark == 0))

  split-links : (links : List ℕ) → split_says answers p (anywhere split) links ≡ asks_links answers links
  split-links [] = refl
  split-links (l ∷ links) = ap (option_or (answers (1000 + l))) (split-links links)

  as-default : only_if (asks_links answers (links_of (default_of s))) (suffices (permission_of_mark p.mark) (needs_of (default_of s))) ≡ asks_default a s p
  as-default = by (default_of s) refl
    where
      by : (home : Option Network) → default_of s ≡ home → only_if (asks_links answers (links_of (default_of s))) (suffices (permission_of_mark p.mark) (needs_of (default_of s))) ≡ asks_default a s p
      by None is = rw is refl
      by (Some n) is = rw is (ap (λ v. only_if v (may_use p n.kind)) (sym (plainly n (default-kind n is))))

  pub split-level : says split ≡ only_if (asks_default a s p) (names_virtual s p && not (is_explicit p.mark))
  split-level =
      named-says answers p split o s good once refl refl OfVirtual EachDefault refl
      ∙ (and-same (by_name split OfVirtual EachDefault) (λ (n : Network). only_if (asks_default a s p) (is_virtual n.kind && not (is_explicit p.mark))) named (λ n is. net n n.kind refl)
      ∙ by named)
    where
      net : (n : Network) (k : Kind) → n.kind ≡ k → by_name split OfVirtual EachDefault n ≡ only_if (asks_default a s p) (is_virtual n.kind && not (is_explicit p.mark))
      net n Local is = rw is refl
      net n (Physical permission apps) is = rw is refl
      net n (Virtual secure users) is = rw is (
          ap (λ v. only_if v ((suffices (permission_of_mark p.mark) (needs_of (default_of s)) && true && not (is_explicit p.mark) && true) && true)) (split-links (links_of (default_of s)))
          ∙ (split-parts (asks_links answers (links_of (default_of s))) (suffices (permission_of_mark p.mark) (needs_of (default_of s))) (not (is_explicit p.mark)) true
          ∙ ap (λ v. only_if v (not (is_explicit p.mark))) as-default))

      by : (o : Option Network) → option_and_then (λ (n : Network). only_if (asks_default a s p) (is_virtual n.kind && not (is_explicit p.mark))) o
          ≡ only_if (asks_default a s p) ((elim o [ Some n ↦ is_virtual n.kind | None ↦ false ]) && not (is_explicit p.mark))
      by None = refl
      by (Some n) = refl

  -- rows that aren't for networks

  open-fits : (row : Row) (i : Item) → stated row.net i.net ≡ None → Fits row i
  open-fits row i is = rw is (omega arith)

  pub barred-level : says locked_down ≡ only_if (only_if (Some verdict.Prohibited) (is_locked_down s p)) (is_made p)
  barred-level =
      given-map (rule_says answers p) (rule_of locked_down) (map range_item s.lockdown)
      ∙ (given-map (λ i. rule_says answers p (rule_of locked_down i)) range_item s.lockdown
      ∙ (given-same (λ r. rule_says answers p (rule_of locked_down (range_item r))) (λ r. only_if (only_if (Some verdict.Prohibited) (is_made p)) (not (is_protected p.mark) && holds r p.uid.number)) s.lockdown
      (λ place r at. item-says answers p locked_down (range_item r) (open-fits locked_down (range_item r) refl) ∙ rw made (one (is_made p) (not (is_protected p.mark)) (holds r p.uid.number)))
      ∙ (given-any (only_if (Some verdict.Prohibited) (is_made p)) (not (is_protected p.mark)) (λ r. holds r p.uid.number) s.lockdown
      ∙ only-both (Some verdict.Prohibited) (is_made p) (is_locked_down s p))))
    where
      one : (made plain any : Bool) → only_if (only_if (Some verdict.Prohibited) (made && true)) ((true && plain && true && true) && any) ≡ only_if (only_if (Some verdict.Prohibited) made) (plain && any)
      one made plain any = grind arith

  pub local-level : says local_links ≡ only_if (answers 97) (not (is_explicit p.mark))
  local-level =
      given-one (rule_says answers p) (rule_of local_links nothing)
      ∙ (item-says answers p local_links nothing (open-fits local_links nothing refl) ∙ one (answers 97) (not (is_explicit p.mark)))
    where
      one : (o : Option Verdict) (plain : Bool) → only_if (only_if o (true && true)) ((true && true && plain && true) && true) ≡ only_if o plain
      one o plain = grind arith

  abbrev pub pair_says : TetherPair → Option Verdict
  pair_says pair = only_if (answers (1000 + pair.out)) (pair.input == p.incoming)

  pub pairs-level : says tethered ≡ first_given pair_says s.pairs
  pairs-level =
      given-map (rule_says answers p) (rule_of tethered) (map pair_item s.pairs)
      ∙ (given-map (λ i. rule_says answers p (rule_of tethered i)) pair_item s.pairs
      ∙ given-same (λ pair. rule_says answers p (rule_of tethered (pair_item pair))) pair_says s.pairs
      (λ place pair at. item-says answers p tethered (pair_item pair) (open-fits tethered (pair_item pair) refl) ∙ one (answers (1000 + pair.out)) (pair.input == p.incoming)))
    where
      one : (o : Option Verdict) (incoming : Bool) → only_if (only_if o (incoming && true)) ((true && true && true && true) && true) ≡ only_if o incoming
      one o incoming = grind arith

  pub last-level : says last ≡ Some verdict.Unreachable
  last-level = given-one (rule_says answers p) (rule_of last nothing) ∙ item-says answers p last nothing (open-fits last nothing refl)

  -- what comes by an interface of a virtual network

  abbrev pub comes_from : Network → Bool
  comes_from n = list_any (λ i. i == p.incoming) n.interfaces

  abbrev pub from_virtual : Bool
  from_virtual = list_any (λ n. is_virtual n.kind && comes_from n) s.networks

  virtual-links : (links : List ℕ) → links_say answers p virtual_to_local links ≡ only_if (answers 97) (list_any (λ i. i == p.incoming) links)
  virtual-links links =
      sym (links-given answers p virtual_to_local links)
      ∙ (given-same (λ link. only_if (answers 97) ((link == p.incoming) && true)) (λ link. only_if (answers 97) (true && (link == p.incoming))) links (λ place link at. ap (only_if (answers 97)) (one (link == p.incoming)))
      ∙ given-any (answers 97) true (λ i. i == p.incoming) links)
    where
      one : (b : Bool) → (b && true) ≡ b
      one b = grind arith

  pub virtual-level : says virtual_to_local ≡ only_if (answers 97) from_virtual
  virtual-level =
      each-says answers p virtual_to_local o s good.owns refl OfVirtual EachInterface refl
      ∙ (given-same (λ n. only_if (net_says answers p virtual_to_local (default_of s) EachInterface n) (picks OfVirtual s.default n)) (λ n. only_if (answers 97) (true && (is_virtual n.kind && comes_from n))) s.networks (λ place n at. net n n.kind refl)
      ∙ given-any (answers 97) true (λ n. is_virtual n.kind && comes_from n) s.networks)
    where
      net : (n : Network) (k : Kind) → n.kind ≡ k → only_if (net_says answers p virtual_to_local (default_of s) EachInterface n) (picks OfVirtual s.default n) ≡ only_if (answers 97) (is_virtual n.kind && comes_from n)
      net n Local is = rw is refl
      net n (Physical permission apps) is = rw is refl
      net n (Virtual secure users) is = rw is (virtual-links n.interfaces)
