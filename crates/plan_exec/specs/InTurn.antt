-- Requests that a kernel may be asked for one after another, and how far they came.
use Rattle.std.specs.Prelude.{◌≡◌, ℕ, ◌<◌, Bool, true, if◌then◌else◌, List, [], ◌∷◌, Some, ⊤, map, take, reverse, slice_get}
use Rattle.kernel_model.specs.State.{is_absent, is_present}
use Rattle.kernel_model.specs.View.{KernelView, Room, state_of, grown, used}
use Rattle.kernel_model.specs.Journal.{entry}
use Rattle.kernel_model.specs.declared.request.Entry.{Entry}
use Rattle.prefixes.specs.declared.route.Route.{Route}
use Rattle.kernel_model.specs.declared.request.Request.{Request}
use Rattle.kernel_model.specs.declared.request.Request.TheVariants as req
use Rattle.kernel_model.specs.declared.request.EntryKind.TheVariants.{Added, Deleted, Refused, Broken}

-- what is seen of a kernel, and its room
pub record Standing : Type 0 where
  pub seen : KernelView
  pub room : Room

abbrev pub standing : KernelView → Room → Standing
standing seen room = record { seen = seen; room = room }

abbrev pub noted : Standing → Entry → Standing
noted k e = record { seen = grown k.seen (e ∷ []); room = used k.room e }

abbrev pub after : Standing → List Entry → Standing
after k [] = k
after k (e ∷ es) = after (noted k e) es

-- what an addition asks of the kernel
pub record MayAdd (k : Standing) (q : Request) : Type 0 where
  pub absent : is_absent (state_of k.seen) q ≡ true
  pub room : 0 < k.room.spare
  pub ready : (n : ℕ) (route : Route) → q ≡ req.Route n route → k.room.ready ≡ Some n

abbrev pub MayAddInTurn : Standing → List Request → Type 0
MayAddInTurn k [] = ⊤
MayAddInTurn k (q ∷ qs) = MayAdd k q × MayAddInTurn (noted k (entry Added q)) qs

pub record MayDelete (k : Standing) (q : Request) : Type 0 where
  pub present : is_present (state_of k.seen) q ≡ true
  pub room : 0 < k.room.spare

abbrev pub MayDeleteInTurn : Standing → List Request → Type 0
MayDeleteInTurn k [] = ⊤
MayDeleteInTurn k (q ∷ qs) = MayDelete k q × MayDeleteInTurn (noted k (entry Deleted q)) qs

-- the additions before k were made, and that one was refused
pub record RefusedAt (adds : List Request) (old new : Standing) (k : ℕ) : Type 0 where
  pub request : Request
  pub next : slice_get adds k ≡ Some request
  pub grew : new ≡ noted (after old (map (entry Added) (take k adds))) (entry Refused request)

pub record BrokenAt (deletes : List Request) (old new : Standing) (k : ℕ) : Type 0 where
  pub request : Request
  pub next : slice_get deletes k ≡ Some request
  pub grew : new ≡ noted (after old (map (entry Deleted) (take k deletes))) (entry Broken request)

-- the list, or the list from its end
abbrev pub ordered : Bool → List Request → List Request
ordered backward requests = if backward then reverse requests else requests
