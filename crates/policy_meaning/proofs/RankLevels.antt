-- Rows of ranks: the networks that hold the packet's user are asked by rising rank.
use Rattle.std.proofs.Common.{◌≡◌, ◌∙◌, ◌==◌, ℕ, ◌+◌, Bool, true, false, Option, Some, List, [], ◌∷◌, refl, ap, ap₂, map, zero, suc, filter, sym, arith}
use Rattle.std.specs.Prelude.{◌&&◌, if◌then◌else◌, ◌+◌, ◌||◌, not}
use Rattle.std.specs.List.{list_any}
use Rattle.rule_match.specs.declared.packet.Packet.{Packet}
use Rattle.rule_match.specs.declared.verdict.Verdict.{Verdict}
use Rattle.rule_kinds.specs.Kind.{rule_kind}
use Rattle.policy_state.specs.View.{Ranked, Network, StateView, Kind, Local, Physical, Virtual}
use Rattle.policy_state.specs.Rows.{default_of, items, items_in, items_at, picks, permission_of, ranges_of, user_item, numbers_from, is_secure, is_bypass}
use Rattle.policy_state.specs.declared.row.Item.{Item}
use Rattle.policy_state.specs.declared.row.Row.{Row}
use Rattle.policy_state.specs.declared.row.NetworkSet.{NetworkSet}
use Rattle.policy_state.specs.declared.row.NetworkPart.TheVariants.{EachRange}
use Rattle.policy_state.specs.declared.row.OnePer.TheVariants.{EachOf}
use Rattle.policy_state.specs.Table.{in_order, rule_of, rules_in, priority_at, secure_users, bypass_users, app_users}
use Rattle.policy_state.proofs.InOrder.{at, row-by_level}
use Rattle.policy_state.proofs.RowTests.{is_fit}
use Rattle.policy_state.proofs.Owners.{Owners, AreOwners}
use Rattle.policy_meaning.specs.Policy.{only_if, first_given, Asks, asks_holders, holders, holds_at, is_usable}
use Rattle.policy_meaning.proofs.Answers.{Answers, rule_says, lead_says, suits, goes_by, is_user, links_say, asks_links, by_tables}
use Rattle.policy_state.proofs.AlikeRules.{fits, item-fits}
use Rattle.policy_meaning.proofs.Given.{given-flat, given-filter, given-map, given-same, given-if, given-has}
use Rattle.policy_meaning.proofs.RowAnswers.{item_says, item-says, given-any, links-given}
use Rattle.std.proofs.lemmas.Bool.Decides.{nat_tests}
use Rattle.fwmark.specs.Mark.{net_of, is_explicit, is_protected, permission_of_mark}
use Rattle.fwmark.specs.Permission.{suffices}
use Rattle.rule_match.specs.Packet.{is_made}
use Rattle.uid_ranges.specs.Range.{holds}
use Rattle.uid_ranges.specs.declared.range.UidRange.{UidRange}
use Rattle.policy_state.specs.declared.row.NetworkSet.TheVariants.{OfPhysical, OfSecure, OfBypass}
use Rattle.policy_meaning.proofs.RowAnswers.{plain-links}
use Rattle.list_lemmas.proofs.Numbers.{eqb-turned}

-- A row of ranks in order: rank by rank. What it says of a packet: the networks that hold the UID, by rising rank.

-- what the networks say that hold the packet's UID at a priority
abbrev pub holders_say : Answers → Packet → Row → NetworkSet → StateView → ℕ → Option Verdict
holders_say answers p row pick s n =
    first_given (λ (net : Network). only_if (only_if (links_say answers p row net.interfaces) (suits row p net.id (permission_of net.kind)
    && list_any (λ (r : Ranked). is_user row p (Some r.users) && (row.base + r.rank == n)) (ranges_of net.kind))) (picks pick s.default net)) s.networks

only-and : {V : Type 0} (o : Option V) (a b c : Bool) → only_if (only_if o (a && b)) c ≡ only_if o (a && (b && c))
only-and o true true true = refl
only-and o true true false = refl
only-and o true false true = refl
only-and o true false false = refl
only-and o false b true = refl
only-and o false b false = refl

module _ (answers : Answers) (p : Packet) (row : Row) (ranked : row.ranked ≡ true) where
  abbrev here : ℕ → Item → Option Verdict
  here n i = only_if (item_says answers p row i) (row.base + i.rank == n)

  net-at : (home : Option Network) (n : ℕ) (net : Network) → first_given (here n) (items_in EachRange home net)
      ≡ only_if (links_say answers p row net.interfaces) (suits row p net.id (permission_of net.kind) && list_any (λ (r : Ranked). is_user row p (Some r.users) && (row.base + r.rank == n)) (ranges_of net.kind))
  net-at home n net =
      let mark : Bool = suits row p net.id (permission_of net.kind) in
      let test : Ranked → Bool = λ r. is_user row p (Some r.users) && (row.base + r.rank == n) in
      let any : Bool = list_any test (ranges_of net.kind) in
      given-flat (here n) (λ link. map (user_item net link) (ranges_of net.kind)) net.interfaces
      ∙ (given-same (λ link. first_given (here n) (map (user_item net link) (ranges_of net.kind))) (λ link. only_if (only_if (lead_says answers row.target link) (goes_by row p link link)) (mark && any)) net.interfaces
      (λ place link there.
      let led : Option Verdict = only_if (lead_says answers row.target link) (goes_by row p link link) in
      given-map (here n) (user_item net link) (ranges_of net.kind)
      ∙ (given-same (λ r. here n (user_item net link r)) (λ r. only_if led (mark && test r)) (ranges_of net.kind) (λ i r in_r. only-and led mark (is_user row p (Some r.users)) (row.base + r.rank == n))
      ∙ given-any led mark test (ranges_of net.kind)))
      ∙ (given-if (λ link. only_if (lead_says answers row.target link) (goes_by row p link link)) (mark && any) net.interfaces
      ∙ ap (λ o. only_if o (mark && any)) (links-given answers p row net.interfaces)))

  tested : (n : ℕ) (b : Bool) (xs : List Item) → first_given (here n) (if b then xs else []) ≡ only_if (first_given (here n) xs) b
  tested n true xs = refl
  tested n false xs = refl

  -- by rising rank, what the networks say that hold the UID at this rank
  pub ranked-says : (o : Owners) (s : StateView) → AreOwners o s → is_fit row ≡ true → (pick : NetworkSet) → row.per ≡ EachOf pick EachRange
      → first_given (rule_says answers p) (in_order rule_kind (rules_in s row)) ≡ first_given (holders_say answers p row pick s) (numbers_from row.base 100)
  ranked-says o s own fit pick is =
      ap (first_given (rule_says answers p)) (row-by_level o s own row)
      ∙ (given-flat (rule_says answers p) (λ n. at rule_kind n (rules_in s row)) (numbers_from row.base 100)
      ∙ given-same (λ n. first_given (rule_says answers p) (at rule_kind n (rules_in s row))) (holders_say answers p row pick s) (numbers_from row.base 100) (λ place n there.
      given-filter (rule_says answers p) (λ x. x.priority == n) (rules_in s row)
      ∙ (given-map (λ x. only_if (rule_says answers p x) (x.priority == n)) (rule_of row) (items row.per s)
      ∙ (given-has (λ i. only_if (rule_says answers p (rule_of row i)) (priority_at row i == n)) (here n) (items row.per s) (λ i in_i.
      ap₂ (λ (o : Option Verdict) (m : ℕ). only_if o (m == n)) (item-says answers p row i (fits row i fit (item-fits o s own row.per i in_i))) (ap (λ b. row.base + (if b then i.rank else 0)) ranked))
      ∙ (ap (λ per. first_given (here n) (items per s)) is
      ∙ (given-flat (here n) (items_at pick EachRange s.default (default_of s)) s.networks
      ∙ given-same (λ net. first_given (here n) (items_at pick EachRange s.default (default_of s) net))
      (λ (net : Network). only_if (only_if (links_say answers p row net.interfaces) (suits row p net.id (permission_of net.kind) && list_any (λ (r : Ranked). is_user row p (Some r.users) && (row.base + r.rank == n)) (ranges_of net.kind))) (picks pick s.default net)) s.networks
      (λ i net in_net. tested n (picks pick s.default net) (items_in EachRange (default_of s) net) ∙ ap (λ o. only_if o (picks pick s.default net)) (net-at (default_of s) n net))))))))

-- Rows of ranks as clauses of the policy: the networks that hold the UID are asked by rising rank.

same-any : {N : Type 0} (t u : N → Bool) (xs : List N) → ((x : N) → t x ≡ u x) → list_any t xs ≡ list_any u xs
same-any t u [] h = refl
same-any t u (x ∷ xs) h = ap₂ (λ (a b : Bool). a || b) (h x) (same-any t u xs h)

shift : (base m n : ℕ) (uid : Bool) → (uid && (base + m == base + n)) ≡ ((m == n) && uid)
shift base m n uid = ap (λ b. uid && b) (sums base m n) ∙ turn uid (m == n)
  where
    sums : (base m n : ℕ) → (base + m == base + n) ≡ (m == n)
    sums base m n = grind (arith, nat_tests)

    turn : (a b : Bool) → (a && b) ≡ (b && a)
    turn a b = grind arith

from-map : (base low n : ℕ) → numbers_from (base + low) n ≡ map (λ m. base + m) (numbers_from low n)
from-map base low zero = refl
from-map base low (suc n) = ap (λ xs. (base + low) ∷ xs) (ap (λ m. numbers_from m n) (next base low) ∙ from-map base (suc low) n)
  where
    next : (base low : ℕ) → suc (base + low) ≡ base + suc low
    next base low = omega arith

together : {V : Type 0} (o : Option V) (made suits any picks : Bool) → only_if (only_if (only_if o made) (suits && any)) picks ≡ only_if (only_if o (suits && picks)) (any && made)
together o made suits any picks = grind arith

apart : {V : Type 0} (o : Option V) (test kind any made : Bool) → only_if (only_if o (test && kind)) (any && made) ≡ only_if (only_if (only_if o (kind && any)) test) made
apart o test kind any made = grind arith

module _ (answers : Answers) (s : StateView) (p : Packet) (o : Owners) (own : AreOwners o s) where
  abbrev a : Asks
  a = by_tables answers

  -- a row of ranks for what the device made, for the networks of a kind, where the packet passes a test
  module _ (row : Row) (kind : Kind → Bool) (test : Bool) (pick : NetworkSet)
      (links : (links : List ℕ) → links_say answers p row links ≡ only_if (asks_links answers links) (is_made p))
      (user : (r : UidRange) → is_user row p (Some r) ≡ holds r p.uid.number)
      (suit : (n : Network) → (suits row p n.id (permission_of n.kind) && picks pick s.default n) ≡ (test && kind n.kind))
      (away : kind Local ≡ false) where
    abbrev at_rank : ℕ → Network → Bool
    at_rank rank n = kind n.kind && holds_at p.uid.number rank n

    ask : (any : Bool) (n : Network) → only_if (asks_links answers n.interfaces) (kind n.kind && any) ≡ only_if (a.net n) (kind n.kind && any)
    ask any n = by n.kind refl
      where
        by : (k : Kind) → n.kind ≡ k → only_if (asks_links answers n.interfaces) (kind n.kind && any) ≡ only_if (a.net n) (kind n.kind && any)
        by Local is = rw is (rw away refl)
        by (Physical permission apps) is = rw is refl
        by (Virtual secure users) is = rw is refl

    rank-net : (rank : ℕ) (n : Network) → only_if (only_if (links_say answers p row n.interfaces) (suits row p n.id (permission_of n.kind)
        && list_any (λ (r : Ranked). is_user row p (Some r.users) && (row.base + r.rank == row.base + rank)) (ranges_of n.kind))) (picks pick s.default n)
        ≡ only_if (only_if (only_if (a.net n) (at_rank rank n)) test) (is_made p)
    rank-net rank n =
        ap₂ (λ (v : Option Verdict) (b : Bool). only_if (only_if v (suits row p n.id (permission_of n.kind) && b)) (picks pick s.default n)) (links n.interfaces)
        (same-any (λ (r : Ranked). is_user row p (Some r.users) && (row.base + r.rank == row.base + rank)) (λ (r : Ranked). (r.rank == rank) && holds r.users p.uid.number) (ranges_of n.kind)
        (λ r. ap (λ b. b && (row.base + r.rank == row.base + rank)) (user r.users) ∙ shift row.base r.rank rank (holds r.users p.uid.number)))
        ∙ (together (asks_links answers n.interfaces) (is_made p) (suits row p n.id (permission_of n.kind)) (holds_at p.uid.number rank n) (picks pick s.default n)
        ∙ (ap (λ b. only_if (only_if (asks_links answers n.interfaces) b) (holds_at p.uid.number rank n && is_made p)) (suit n)
        ∙ (apart (asks_links answers n.interfaces) test (kind n.kind) (holds_at p.uid.number rank n) (is_made p)
        ∙ ap (λ v. only_if (only_if v test) (is_made p)) (ask (holds_at p.uid.number rank n) n))))

    pub holders-level : row.ranked ≡ true → is_fit row ≡ true → row.per ≡ EachOf pick EachRange
        → first_given (rule_says answers p) (in_order rule_kind (rules_in s row)) ≡ only_if (only_if (asks_holders a s p kind) test) (is_made p)
    unfolding holders
    holders-level ranked fit per =
        let zero_more : row.base ≡ row.base + 0 = omega arith in
        ranked-says answers p row ranked o s own fit pick per
        ∙ (ap (first_given (holders_say answers p row pick s)) (ap (λ base. numbers_from base 100) zero_more ∙ from-map row.base 0 100)
        ∙ (given-map (holders_say answers p row pick s) (λ m. row.base + m) (numbers_from 0 100)
        ∙ (given-same (λ rank. holders_say answers p row pick s (row.base + rank)) (λ rank. only_if (only_if (first_given a.net (filter (at_rank rank) s.networks)) test) (is_made p)) (numbers_from 0 100) (λ place rank at.
        given-same (λ (n : Network). only_if (only_if (links_say answers p row n.interfaces) (suits row p n.id (permission_of n.kind) && list_any (λ (r : Ranked). is_user row p (Some r.users) && (row.base + r.rank == row.base + rank)) (ranges_of n.kind))) (picks pick s.default n))
        (λ n. only_if (only_if (only_if (a.net n) (at_rank rank n)) test) (is_made p)) s.networks (λ i n in_n. rank-net rank n)
        ∙ (given-if (λ n. only_if (only_if (a.net n) (at_rank rank n)) test) (is_made p) s.networks
        ∙ ap (λ v. only_if v (is_made p)) (given-if (λ n. only_if (a.net n) (at_rank rank n)) test s.networks ∙ ap (λ v. only_if v test) (sym (given-filter a.net (at_rank rank) s.networks)))))
        ∙ (given-if (λ rank. only_if (first_given a.net (filter (at_rank rank) s.networks)) test) (is_made p) (numbers_from 0 100)
        ∙ ap (λ v. only_if v (is_made p)) (given-if (λ rank. first_given a.net (filter (at_rank rank) s.networks)) test (numbers_from 0 100)
        ∙ ap (λ v. only_if v test) (sym (given-flat a.net (λ rank. filter (at_rank rank) s.networks) (numbers_from 0 100))))))))

  made : (1 == p.incoming) ≡ is_made p
  made = eqb-turned 1 p.incoming

  pub secure-level : first_given (rule_says answers p) (in_order rule_kind (rules_in s secure_users)) ≡ only_if (only_if (asks_holders a s p is_secure) (not (is_protected p.mark))) (is_made p)
  secure-level = holders-level secure_users is_secure (not (is_protected p.mark)) OfSecure
      (λ links. plain-links answers p secure_users refl refl links ∙ ap (only_if (asks_links answers links)) made) (λ r. refl)
      (λ n. suit (not (is_protected p.mark)) (is_secure n.kind)) refl refl refl refl
    where
      suit : (plain kind : Bool) → ((true && plain && true && true) && kind) ≡ (plain && kind)
      suit plain kind = grind arith

  pub bypass-level : first_given (rule_says answers p) (in_order rule_kind (rules_in s bypass_users))
      ≡ only_if (only_if (asks_holders a s p is_bypass) (not (is_protected p.mark) && not (is_explicit p.mark))) (is_made p)
  bypass-level = holders-level bypass_users is_bypass (not (is_protected p.mark) && not (is_explicit p.mark)) OfBypass
      (λ links. plain-links answers p bypass_users refl refl links ∙ ap (only_if (asks_links answers links)) made) (λ r. refl)
      (λ n. suit (not (is_protected p.mark)) (not (is_explicit p.mark)) (is_bypass n.kind)) refl refl refl refl
    where
      suit : (plain implied kind : Bool) → ((true && plain && implied && true) && kind) ≡ ((plain && implied) && kind)
      suit plain implied kind = grind arith

  pub app-level : first_given (rule_says answers p) (in_order rule_kind (rules_in s app_users)) ≡ only_if (only_if (asks_holders a s p (is_usable p)) (net_of p.mark == 0)) (is_made p)
  app-level = holders-level app_users (is_usable p) (net_of p.mark == 0) OfPhysical
      (λ links. plain-links answers p app_users refl refl links ∙ ap (only_if (asks_links answers links)) made) (λ r. refl)
      (λ n. suit n n.kind refl) refl refl refl refl
    where
      unpicked : (net may : Bool) → ((may && true && true && net) && false) ≡ (net && false)
      unpicked net may = grind arith

      picked : (net may : Bool) → ((may && true && true && net) && true) ≡ (net && may)
      picked net may = grind arith

      suit : (n : Network) (k : Kind) → n.kind ≡ k → (suits app_users p n.id (permission_of n.kind) && picks OfPhysical s.default n) ≡ ((net_of p.mark == 0) && is_usable p n.kind)
      suit n Local is = rw is (unpicked (net_of p.mark == 0) true)
      suit n (Physical permission apps) is = rw is (picked (net_of p.mark == 0) (suffices (permission_of_mark p.mark) permission))
      suit n (Virtual secure users) is = rw is (unpicked (net_of p.mark == 0) true)
