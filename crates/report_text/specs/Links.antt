-- Links, as they are printed.
use Rattle.std.specs.Prelude.{ℕ, List, ◌++◌, codes, Some, None}
use Rattle.std.specs.Fmt.{decimal}
use Rattle.policy_state.specs.View.{StateView, name_of}

-- the link's name; one that no link has any more is printed as '#' and its index
abbrev pub link_text : StateView → ℕ → List ℕ
link_text state link = elim (name_of state link) [ Some name ↦ name | None ↦ codes "#" ++ decimal link ]
