-- Rules: which packets they match, and when two are equal.
use Rattle.std.specs.Prelude.{◌≡◌, ℕ, Bool, true, false, ◌&&◌, ◌==◌, Option, Some, None, bit_and}
use Rattle.std.specs.Option.{option_eq}
use Rattle.uid_ranges.specs.Range.{holds, same_range}
use Rattle.uid_ranges.specs.declared.range.UidRange.{UidRange}
use Rattle.rule_match.specs.declared.packet.Packet.{Packet}
use Rattle.rule_match.specs.declared.rule.Action.{Action}
use Rattle.rule_match.specs.declared.rule.Action.TheVariants as action
use Rattle.rule_match.specs.declared.rule.Rule.{Rule}

-- a link that isn't stated holds of every packet
abbrev pub selects_link : Option ℕ → Option ℕ → Bool
selects_link None link = true
selects_link (Some stated) None = false
selects_link (Some stated) (Some link) = stated == link

abbrev pub selects_uid : Option UidRange → ℕ → Bool
selects_uid None uid = true
selects_uid (Some range) uid = holds range uid

-- the ip-rule manual: the mark under the mask is the value (`fwmark`), and the packet has the incoming link (`iif`), the
-- outgoing link (`oif`) and a UID of the range (`uidrange`), of these those that the rule states
abbrev pub matches : Rule → Packet → Bool
matches r p =
    (bit_and p.mark r.mask == r.mark)
    && (selects_link r.incoming (Some p.incoming)
    && (selects_link r.outgoing p.outgoing
    && selects_uid r.uids p.uid.number))

abbrev pub same_action : Action → Action → Bool
same_action (action.Table a) (action.Table b) = a == b
same_action action.Prohibit action.Prohibit = true
same_action action.Unreachable action.Unreachable = true
same_action _ _ = false

-- two rules that match the same packets by how they are written
abbrev pub same_selectors : Rule → Rule → Bool
same_selectors a b =
    (a.mark == b.mark)
    && ((a.mask == b.mask)
    && (option_eq ◌==◌ a.incoming b.incoming
    && (option_eq ◌==◌ a.outgoing b.outgoing
    && option_eq same_range a.uids b.uids)))

pub record AreSelectorsEqual (a b : Rule) : Type 0 where
  pub mark : a.mark ≡ b.mark
  pub mask : a.mask ≡ b.mask
  pub incoming : a.incoming ≡ b.incoming
  pub outgoing : a.outgoing ≡ b.outgoing
  pub uids : a.uids ≡ b.uids

abbrev pub same_rule : Rule → Rule → Bool
same_rule a b = (a.priority == b.priority) && (same_selectors a b && same_action a.action b.action)
