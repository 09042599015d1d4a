-- What the rules of a row give a packet.
use Rattle.std.specs.Prelude.{ℕ, ◌+◌, ◌&&◌, Bool, List, [], ◌∷◌, Option, Some, None, if◌then◌else◌}
use Rattle.std.specs.List.{list_any}
use Rattle.std.specs.Option.{option_or}
use Rattle.fwmark.specs.Mark.{net_of, is_explicit, is_protected, permission_of_mark}
use Rattle.fwmark.specs.Permission.{suffices}
use Rattle.fwmark.specs.Selection.{is_stated, is_net}
use Rattle.fwmark.specs.declared.permission.Permission.{Permission}
use Rattle.rule_match.specs.Rule.{matches, selects_link, selects_uid}
use Rattle.rule_match.specs.declared.packet.Packet.{Packet}
use Rattle.rule_match.specs.declared.rule.Action.{Action}
use Rattle.rule_match.specs.declared.rule.Rule.{Rule}
use Rattle.rule_match.specs.declared.verdict.Verdict.{Verdict}
use Rattle.uid_ranges.specs.declared.range.UidRange.{UidRange}
use Rattle.policy_state.specs.View.{Ranked, Local, Physical, Virtual, Network}
use Rattle.policy_state.specs.Rows.{permission_of, ranges_of, links_of, needs_of}
use Rattle.policy_state.specs.declared.row.Row.{Row}
use Rattle.policy_state.specs.declared.row.NetworkPart.{NetworkPart}
use Rattle.policy_state.specs.declared.row.NetworkPart.TheVariants.{Whole, EachInterface, EachRange, EachDefault}
use Rattle.policy_state.specs.declared.row.Target.{Target}
use Rattle.policy_state.specs.declared.row.Target.TheVariants.{ToLink, ToLocal, Prohibits, Refuses}
use Rattle.policy_state.specs.Table.{stated, needed, stated_users}
use Rattle.policy_meaning.specs.Policy.{only_if, first_given, Asks}
use Rattle.rule_match.specs.declared.rule.Action.TheVariants as action
use Rattle.rule_match.specs.declared.verdict.Verdict.TheVariants as verdict

-- what a table says of the packet, by its number
abbrev pub Answers : Type 0
Answers = ℕ → Option Verdict

-- the local network's routes are in table 97, those by an interface of another one in the table of 1000 and its index

abbrev pub asks_links : Answers → List ℕ → Option Verdict
asks_links answers links = first_given (λ link. answers (1000 + link)) links

abbrev pub by_tables : Answers → Asks
by_tables answers = record {
  net = λ (n : Network). elim n.kind [ Local ↦ answers 97 | Physical permission apps ↦ asks_links answers n.interfaces | Virtual secure users ↦ asks_links answers n.interfaces ];
  link = λ (n : Network) link. elim n.kind [ Local ↦ answers 97 | Physical permission apps ↦ answers (1000 + link) | Virtual secure users ↦ answers (1000 + link) ];
}

abbrev pub action_says : Answers → Action → Option Verdict
action_says answers (action.Table n) = answers n
action_says answers action.Prohibit = Some verdict.Prohibited
action_says answers action.Unreachable = Some verdict.Unreachable

abbrev pub rule_says : Answers → Packet → Rule → Option Verdict
rule_says answers p x = only_if (action_says answers x.action) (matches x p)

abbrev pub lead_says : Answers → Target → ℕ → Option Verdict
lead_says answers ToLink link = answers (1000 + link)
lead_says answers ToLocal link = answers 97
lead_says answers Prohibits link = Some verdict.Prohibited
lead_says answers Refuses link = Some verdict.Unreachable

-- the packet's mark is as a row wants it for a network of this id and permission
abbrev pub suits : Row → Packet → ℕ → Permission → Bool
suits row p net needs =
    suffices (permission_of_mark p.mark) (needed row.needs needs) && is_stated row.guarded (is_protected p.mark)
    && is_stated row.explicit (is_explicit p.mark) && is_net (stated row.net net) (net_of p.mark)

-- the packet comes and goes as the row wants it for this link
abbrev pub goes_by : Row → Packet → ℕ → ℕ → Bool
goes_by row p incoming link = selects_link (stated row.incoming incoming) (Some p.incoming) && selects_link (if row.bound then Some link else None) p.outgoing

abbrev pub is_user : Row → Packet → Option UidRange → Bool
is_user row p users = selects_uid (stated_users row.users users) p.uid.number

-- what a row says of a picked network: its interfaces in order, where the packet suits
abbrev pub links_say : Answers → Packet → Row → List ℕ → Option Verdict
links_say answers p row [] = None
links_say answers p row (link ∷ links) = option_or (only_if (lead_says answers row.target link) (goes_by row p link link)) (links_say answers p row links)

abbrev pub split_says : Answers → Packet → Row → List ℕ → Option Verdict
split_says answers p row [] = None
split_says answers p row (link ∷ links) = option_or (only_if (lead_says answers row.target link) (goes_by row p 0 link)) (split_says answers p row links)

abbrev pub net_says : Answers → Packet → Row → Option Network → NetworkPart → Network → Option Verdict
net_says answers p row home Whole n = only_if (only_if (lead_says answers row.target 0) (goes_by row p 0 0)) (suits row p n.id (permission_of n.kind) && is_user row p None)
net_says answers p row home EachInterface n = only_if (links_say answers p row n.interfaces) (suits row p n.id (permission_of n.kind) && is_user row p None)
net_says answers p row home EachRange n =
    only_if (links_say answers p row n.interfaces) (suits row p n.id (permission_of n.kind) && list_any (λ (r : Ranked). is_user row p (Some r.users)) (ranges_of n.kind))
net_says answers p row home EachDefault n = only_if (split_says answers p row (links_of home)) (suits row p n.id (needs_of home) && is_user row p None)
