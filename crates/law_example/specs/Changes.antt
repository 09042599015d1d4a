-- What a change of tables is, seen from outside: by what it asks of the kernel, and by what each packet meets on the way.
use Rattle.std.specs.Prelude.{◌≡◌, ◌⊎◌, ◌≤◌, ◌++◌, ◌∷◌, ℕ, List, length, take}
use Rattle.rule_law.specs.Rules.{Stands, GiversAreAlike}
use Rattle.rule_law.specs.Plans.{Request, Delete, AreOldAndNew, beyond, plan, undone, after, GoesOver, GoesOverAndBack, AskInTurn}
use Rattle.law_example.specs.Rules.{gives}
use Rattle.law_example.specs.Kinds.{rule_kind}
use Rattle.law_example.specs.Kernels.{rules_of, verdict_by}
use Rattle.law_example.specs.declared.rule.Packet.{Packet}
use Rattle.law_example.specs.declared.rule.Rule.{Rule}
use Rattle.law_example.specs.declared.rule.Verdict.{Verdict}

-- the four conditions of the law, for each packet
pub record MayChange (old new : List Rule) : Type 0 where
  pub tables : AreOldAndNew rule_kind old new
  pub old_alike : (packet : Packet) → GiversAreAlike rule_kind (gives packet) old
  pub new_alike : (packet : Packet) → GiversAreAlike rule_kind (gives packet) new

-- what a packet gets when the first i of these requests have been carried out
abbrev pub verdict_at : Packet → List Rule → List (Request Rule) → ℕ → Verdict
verdict_at packet rules requests i = verdict_by packet (after rule_kind (take i requests) rules)

-- The kernel has carried out more requests, and in the end its rules stand for the new table. Each packet has gone by the
-- old table below some moment, and by the new one from it on.
pub record MovesOver (old new : List Rule) (before behind : List (Request Rule)) : Type 0 where
  pub requests : List (Request Rule)
  pub grew : behind ≡ before ++ requests
  pub in_turn : AskInTurn rule_kind requests (rules_of before)
  pub one_switch : (packet : Packet)
      → GoesOver (length requests) (verdict_at packet (rules_of before) requests) (verdict_by packet old) (verdict_by packet new)
  pub ends : Stands rule_kind (rules_of behind) new

-- The same, but in the end the very rules from before are back, and each packet has gone over and back at most once.
pub record ComesBack (old new : List Rule) (before behind : List (Request Rule)) : Type 0 where
  pub requests : List (Request Rule)
  pub grew : behind ≡ before ++ requests
  pub in_turn : AskInTurn rule_kind requests (rules_of before)
  pub over_and_back : (packet : Packet)
      → GoesOverAndBack (length requests) (verdict_at packet (rules_of before) requests) (verdict_by packet old) (verdict_by packet new)
  pub as_before : rules_of behind ≡ rules_of before

-- The kernel has stopped before a deletion, of the plan or of an undoing. At each moment, the last one too, each packet
-- has gone by the old table or the new one.
pub record StopsBetween (old new : List Rule) (before behind : List (Request Rule)) : Type 0 where
  pub requests : List (Request Rule)
  pub grew : behind ≡ before ++ requests
  pub in_turn : AskInTurn rule_kind requests (rules_of before)
  pub old_or_new : (packet : Packet) (i : ℕ) → i ≤ length requests
      → (verdict_at packet (rules_of before) requests i ≡ verdict_by packet old)
      ⊎ (verdict_at packet (rules_of before) requests i ≡ verdict_by packet new)
  pub broken : Rule
  pub rest : List (Request Rule)
  pub stopped : (requests ++ Delete broken ∷ rest ≡ plan rule_kind old new)
      ⊎ ((j : ℕ) × (requests ++ Delete broken ∷ rest ≡ undone (take j (beyond rule_kind old new))))

-- These requests have been carried out but for the rest of them.
pub record IsPartly (requests rest before behind : List (Request Rule)) : Type 0 where
  pub made : List (Request Rule)
  pub split : made ++ rest ≡ requests
  pub grew : behind ≡ before ++ made
