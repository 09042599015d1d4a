-- How many rules a state has, by its lengths.
use Rattle.std.specs.Prelude.{ℕ, List, ◌*◌, length, sum_by, Option, if◌then◌else◌}
use Rattle.policy_state.specs.View.{Network, StateView}
use Rattle.policy_state.specs.Rows.{Row, NetworkSet, NetworkPart, Whole, EachInterface, EachRange, EachDefault, OnePer, Once, EachLockdown, EachPair, EachOf, picks, ranges_of, links_of, default_of}
use Rattle.policy_state.specs.Table.{rows}

-- for a network, where the default one has this number of interfaces
abbrev pub count_in : NetworkPart → ℕ → Network → ℕ
count_in Whole links n = 1
count_in EachInterface links n = length n.interfaces
count_in EachRange links n = length n.interfaces * length (ranges_of n.kind)
count_in EachDefault links n = links

abbrev pub count_at : NetworkSet → NetworkPart → Option ℕ → ℕ → Network → ℕ
count_at pick spread default links n = if picks pick default n then count_in spread links n else 0

-- for a row, where there are so many lockdown ranges and pairs
abbrev pub count_per : OnePer → Option ℕ → ℕ → ℕ → ℕ → List Network → ℕ
count_per Once default links ranges pairs ns = 1
count_per EachLockdown default links ranges pairs ns = ranges
count_per EachPair default links ranges pairs ns = pairs
count_per (EachOf pick spread) default links ranges pairs ns = sum_by (count_at pick spread default links) ns

abbrev pub count_of : OnePer → StateView → ℕ
count_of per s = count_per per s.default (length (links_of (default_of s))) (length s.lockdown) (length s.pairs) s.networks

abbrev pub count_by_rows : StateView → ℕ
count_by_rows s = sum_by (λ (row : Row). count_of row.per s) rows

-- the rules of a state in each family, beside the kernel's own
unfoldable pub rule_count : StateView → ℕ
rule_count s = count_by_rows s
