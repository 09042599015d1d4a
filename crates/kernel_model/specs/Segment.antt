-- What carrying out a plan leaves in the journal.
use Rattle.std.specs.Prelude.{◌≡◌, ◌⊎◌, ℕ, List, [], ◌∷◌, ◌++◌, map, reverse, take, Some, slice_get}
use Rattle.kernel_model.specs.Journal.{entry}
use Rattle.kernel_model.specs.declared.request.Request.{Request}
use Rattle.kernel_model.specs.declared.request.EntryKind.TheVariants.{Added, Deleted, Refused, Broken}
use Rattle.kernel_model.specs.declared.request.Entry.{Entry}

-- each addition, then each deletion
abbrev pub done : List Request → List Request → List Entry
done adds deletes = map (entry Added) adds ++ map (entry Deleted) deletes

-- the first k additions, the next one refused, then those k deleted, the last first
abbrev pub undone : List Request → ℕ → Request → List Entry
undone adds k refused = map (entry Added) (take k adds) ++ entry Refused refused ∷ map (entry Deleted) (reverse (take k adds))

pub record IsUndoneAt (adds : List Request) (k : ℕ) (entries : List Entry) : Type 0 where
  pub refused : Request
  pub next : slice_get adds k ≡ Some refused
  pub all : entries ≡ undone adds k refused

-- nothing broke
abbrev pub IsWhole : List Request → List Request → List Entry → Type 0
IsWhole adds deletes entries = (entries ≡ done adds deletes) ⊎ ((k : ℕ) × IsUndoneAt adds k entries)

-- what comes before a deletion of a list in which nothing broke, and then that deletion as broken
pub record IsHalted (adds deletes : List Request) (entries : List Entry) : Type 0 where
  pub whole : List Entry
  pub is_whole : IsWhole adds deletes whole
  pub at : ℕ
  pub request : Request
  pub stops : slice_get whole at ≡ Some (entry Deleted request)
  pub all : entries ≡ take at whole ++ entry Broken request ∷ []

-- done, undone at some addition, or halted
abbrev pub IsSegment : List Request → List Request → List Entry → Type 0
IsSegment adds deletes entries = (entries ≡ done adds deletes) ⊎ (((k : ℕ) × IsUndoneAt adds k entries) ⊎ IsHalted adds deletes entries)
