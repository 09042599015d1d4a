-- Rules, as they are printed: after `ip rule show`.
use Rattle.std.specs.Prelude.{ℕ, ◌==◌, if◌then◌else◌, List, [], ◌∷◌, ◌++◌, codes, flat_map, length, Option, None, Some}
use Rattle.std.specs.Fmt.{decimal}
use Rattle.policy_state.specs.View.{StateView}
use Rattle.rule_match.specs.declared.rule.Rule.{Rule}
use Rattle.word_text.specs.Texts.{line_feed, mark_text, range_text}
use Rattle.uid_ranges.specs.declared.range.UidRange.{UidRange}
use Rattle.report_text.specs.Actions.{action_text}
use Rattle.report_text.specs.Links.{link_text}

abbrev pub masked_text : ℕ → ℕ → List ℕ
masked_text value mask = mark_text value ++ codes "/" ++ mark_text mask

-- the value and the mask, where the mask isn't 0
abbrev pub mark_part : ℕ → ℕ → List ℕ
mark_part value mask = if mask == 0 then [] else codes " fwmark " ++ masked_text value mask

-- a link, where one is stated
abbrev pub incoming_part : StateView → Option ℕ → List ℕ
incoming_part state None = []
incoming_part state (Some link) = codes " iif " ++ link_text state link

abbrev pub outgoing_part : StateView → Option ℕ → List ℕ
outgoing_part state None = []
outgoing_part state (Some link) = codes " oif " ++ link_text state link

-- a range of UIDs, where one is stated
abbrev pub uids_part : Option UidRange → List ℕ
uids_part None = []
uids_part (Some users) = codes " uidrange " ++ range_text users.first users.last

-- what a rule selects
abbrev pub selectors_text : StateView → Rule → List ℕ
selectors_text state rule = mark_part rule.mark rule.mask ++ incoming_part state rule.incoming ++ outgoing_part state rule.outgoing ++ uids_part rule.uids

abbrev pub rule_text : StateView → Rule → List ℕ
rule_text state rule = decimal rule.priority ++ codes ": from all" ++ selectors_text state rule ++ codes " " ++ action_text rule.action

-- a line of a rule
abbrev pub rule_line : StateView → Rule → List ℕ
rule_line state rule = codes "  " ++ rule_text state rule ++ line_feed ∷ []

-- how many rules there are, and each of them in its line
abbrev pub rules_text : StateView → List Rule → List ℕ
rules_text state rules = decimal (length rules) ++ codes " rules" ++ line_feed ∷ [] ++ flat_map (rule_line state) rules
