-- What one family's list sees of a journal.
use Rattle.std.proofs.Common.{◌≡◌, ℕ, zero, suc, List, [], ◌∷◌, ◌++◌, refl, sym, ◌∙◌, ap, map, reverse, take}
use Rattle.std.proofs.lemmas.List.{map-append, reverse-append, append-nil}
use Rattle.prefixes.specs.declared.addr.Family.{Family}
use Rattle.prefixes.specs.declared.addr.Family.TheVariants as family
use Rattle.prefixes.specs.declared.route.Route.{Route}
use Rattle.rule_law.specs.Plans.{Request as Step, Add, Delete, Other, step, after, concerning, plan, beyond, undone as undo}
use Rattle.rule_match.specs.declared.rule.Rule.{Rule}
use Rattle.rule_kinds.specs.Kind.{rule_kind}
use Rattle.kernel_model.specs.State.{KernelState, rules_of}
use Rattle.kernel_model.specs.Journal.{entry, act, replay_from}
use Rattle.kernel_model.specs.Segment.{done, undone}
use Rattle.kernel_model.specs.Switch.{twins, requests_of, additions, deletions}
use Rattle.kernel_model.specs.declared.request.Entry.{Entry}
use Rattle.kernel_model.specs.declared.request.EntryKind.{EntryKind}
use Rattle.kernel_model.specs.declared.request.EntryKind.TheVariants.{Added, Deleted, Refused, Broken}
use Rattle.kernel_model.specs.declared.request.Request.{Request}
use Rattle.kernel_model.specs.declared.request.Request.TheVariants as req

-- what an entry asks of the rules of a family
abbrev pub seen_of : Family → EntryKind → Request → Step Rule
seen_of family.V4 Added (req.Rule family.V4 rule) = Add rule
seen_of family.V4 Added (req.Rule family.V6 rule) = Other
seen_of family.V6 Added (req.Rule family.V4 rule) = Other
seen_of family.V6 Added (req.Rule family.V6 rule) = Add rule
seen_of family.V4 Deleted (req.Rule family.V4 rule) = Delete rule
seen_of family.V4 Deleted (req.Rule family.V6 rule) = Other
seen_of family.V6 Deleted (req.Rule family.V4 rule) = Other
seen_of family.V6 Deleted (req.Rule family.V6 rule) = Delete rule
seen_of f Added (req.Route n route) = Other
seen_of f Deleted (req.Route n route) = Other
seen_of f Refused request = Other
seen_of f Broken request = Other

abbrev pub seen : Family → Entry → Step Rule
seen f e = seen_of f e.kind e.request

act-seen : (f : Family) (k : KernelState) (kind : EntryKind) (q : Request) → rules_of (act k kind q) f ≡ step rule_kind (seen_of f kind q) (rules_of k f)
act-seen family.V4 k Added (req.Rule family.V4 rule) = refl
act-seen family.V4 k Added (req.Rule family.V6 rule) = refl
act-seen family.V6 k Added (req.Rule family.V4 rule) = refl
act-seen family.V6 k Added (req.Rule family.V6 rule) = refl
act-seen family.V4 k Deleted (req.Rule family.V4 rule) = refl
act-seen family.V4 k Deleted (req.Rule family.V6 rule) = refl
act-seen family.V6 k Deleted (req.Rule family.V4 rule) = refl
act-seen family.V6 k Deleted (req.Rule family.V6 rule) = refl
act-seen family.V4 k Added (req.Route n route) = refl
act-seen family.V6 k Added (req.Route n route) = refl
act-seen family.V4 k Deleted (req.Route n route) = refl
act-seen family.V6 k Deleted (req.Route n route) = refl
act-seen family.V4 k Refused q = refl
act-seen family.V6 k Refused q = refl
act-seen family.V4 k Broken q = refl
act-seen family.V6 k Broken q = refl

-- the rules of a family after these entries
pub replay-seen : (f : Family) (es : List Entry) (k : KernelState) → rules_of (replay_from k es) f ≡ after rule_kind (map (seen f) es) (rules_of k f)
replay-seen f [] k = refl
replay-seen f (e ∷ es) k = replay-seen f es (act k e.kind e.request) ∙ ap (λ xs. after rule_kind (map (seen f) es) xs) (act-seen f k e.kind e.request)

-- the rules of one family among these requests
abbrev pub of_family : Family → List Request → List Rule
of_family f [] = []
of_family family.V4 (req.Rule family.V4 rule ∷ qs) = rule ∷ of_family family.V4 qs
of_family family.V4 (req.Rule family.V6 rule ∷ qs) = of_family family.V4 qs
of_family family.V6 (req.Rule family.V4 rule ∷ qs) = of_family family.V6 qs
of_family family.V6 (req.Rule family.V6 rule ∷ qs) = rule ∷ of_family family.V6 qs
of_family f (req.Route n route ∷ qs) = of_family f qs

pub concerning-append : (es fs : List (Step Rule)) → concerning (es ++ fs) ≡ concerning es ++ concerning fs
concerning-append [] fs = refl
concerning-append (Add r ∷ es) fs = ap (λ gs. Add r ∷ gs) (concerning-append es fs)
concerning-append (Delete r ∷ es) fs = ap (λ gs. Delete r ∷ gs) (concerning-append es fs)
concerning-append (Other ∷ es) fs = concerning-append es fs

pub seen-append : (f : Family) (es fs : List Entry) → concerning (map (seen f) (es ++ fs)) ≡ concerning (map (seen f) es) ++ concerning (map (seen f) fs)
seen-append f es fs = ap concerning (map-append (seen f) es fs) ∙ concerning-append (map (seen f) es) (map (seen f) fs)

pub seen-added : (f : Family) (qs : List Request) → concerning (map (seen f) (map (entry Added) qs)) ≡ map Add (of_family f qs)
seen-added f [] = refl
seen-added family.V4 (req.Rule family.V4 r ∷ qs) = ap (λ gs. Add r ∷ gs) (seen-added family.V4 qs)
seen-added family.V4 (req.Rule family.V6 r ∷ qs) = seen-added family.V4 qs
seen-added family.V6 (req.Rule family.V4 r ∷ qs) = seen-added family.V6 qs
seen-added family.V6 (req.Rule family.V6 r ∷ qs) = ap (λ gs. Add r ∷ gs) (seen-added family.V6 qs)
seen-added family.V4 (req.Route n r ∷ qs) = seen-added family.V4 qs
seen-added family.V6 (req.Route n r ∷ qs) = seen-added family.V6 qs

pub seen-deleted : (f : Family) (qs : List Request) → concerning (map (seen f) (map (entry Deleted) qs)) ≡ map Delete (of_family f qs)
seen-deleted f [] = refl
seen-deleted family.V4 (req.Rule family.V4 r ∷ qs) = ap (λ gs. Delete r ∷ gs) (seen-deleted family.V4 qs)
seen-deleted family.V4 (req.Rule family.V6 r ∷ qs) = seen-deleted family.V4 qs
seen-deleted family.V6 (req.Rule family.V4 r ∷ qs) = seen-deleted family.V6 qs
seen-deleted family.V6 (req.Rule family.V6 r ∷ qs) = ap (λ gs. Delete r ∷ gs) (seen-deleted family.V6 qs)
seen-deleted family.V4 (req.Route n r ∷ qs) = seen-deleted family.V4 qs
seen-deleted family.V6 (req.Route n r ∷ qs) = seen-deleted family.V6 qs

of_family-append : (f : Family) (ps qs : List Request) → of_family f (ps ++ qs) ≡ of_family f ps ++ of_family f qs
of_family-append f [] qs = refl
of_family-append family.V4 (req.Rule family.V4 r ∷ ps) qs = ap (λ gs. r ∷ gs) (of_family-append family.V4 ps qs)
of_family-append family.V4 (req.Rule family.V6 r ∷ ps) qs = of_family-append family.V4 ps qs
of_family-append family.V6 (req.Rule family.V4 r ∷ ps) qs = of_family-append family.V6 ps qs
of_family-append family.V6 (req.Rule family.V6 r ∷ ps) qs = ap (λ gs. r ∷ gs) (of_family-append family.V6 ps qs)
of_family-append family.V4 (req.Route n r ∷ ps) qs = of_family-append family.V4 ps qs
of_family-append family.V6 (req.Route n r ∷ ps) qs = of_family-append family.V6 ps qs

of_family-one : (f : Family) (q : Request) → of_family f (q ∷ []) ≡ reverse (of_family f (q ∷ []))
of_family-one family.V4 (req.Rule family.V4 r) = refl
of_family-one family.V4 (req.Rule family.V6 r) = refl
of_family-one family.V6 (req.Rule family.V4 r) = refl
of_family-one family.V6 (req.Rule family.V6 r) = refl
of_family-one family.V4 (req.Route n r) = refl
of_family-one family.V6 (req.Route n r) = refl

pub of_family-reverse : (f : Family) (qs : List Request) → of_family f (reverse qs) ≡ reverse (of_family f qs)
of_family-reverse f [] = refl
of_family-reverse f (q ∷ qs) =
    ap (of_family f) (reverse-append (q ∷ []) qs)
    ∙ of_family-append f (reverse qs) (q ∷ [])
    ∙ ap (λ rs. rs ++ of_family f (q ∷ [])) (of_family-reverse f qs)
    ∙ ap (λ rs. reverse (of_family f qs) ++ rs) (of_family-one f q)
    ∙ sym (reverse-append (of_family f (q ∷ [])) (of_family f qs))
    ∙ ap reverse (sym (of_family-append f (q ∷ []) qs))

of_family-twins : (f : Family) (rs : List Rule) → of_family f (twins rs) ≡ rs
of_family-twins f [] = refl
of_family-twins family.V4 (r ∷ rs) = ap (λ gs. r ∷ gs) (of_family-twins family.V4 rs)
of_family-twins family.V6 (r ∷ rs) = ap (λ gs. r ∷ gs) (of_family-twins family.V6 rs)

of_family-routes : (f : Family) (rs : List (ℕ × Route)) → of_family f (requests_of rs) ≡ []
of_family-routes f [] = refl
of_family-routes family.V4 (r ∷ rs) = of_family-routes family.V4 rs
of_family-routes family.V6 (r ∷ rs) = of_family-routes family.V6 rs

-- the first k of the twins are, in each family, the first few of the rules
of_family-part : (f : Family) (k : ℕ) (rs : List Rule) → (j : ℕ) × (of_family f (take k (twins rs)) ≡ take j rs)
of_family-part f zero rs = (0, refl)
of_family-part f (suc k) [] = (0, refl)
of_family-part family.V4 (suc zero) (r ∷ rs) = (1, refl)
of_family-part family.V6 (suc zero) (r ∷ rs) = (0, refl)
of_family-part family.V4 (suc (suc k)) (r ∷ rs) = let t : _ = of_family-part family.V4 k rs in (suc t.0, ap (λ gs. r ∷ gs) t.1)
of_family-part family.V6 (suc (suc k)) (r ∷ rs) = let t : _ = of_family-part family.V6 k rs in (suc t.0, ap (λ gs. r ∷ gs) t.1)

-- a family's list sees the plan of the two-lists law
pub done-seen : (f : Family) (old new : List Rule) (gone : List (ℕ × Route)) → concerning (map (seen f) (done (additions old new) (deletions old new gone))) ≡ plan rule_kind old new
done-seen f old new gone =
    let adds = additions old new in
    let dels = deletions old new gone in
    let back = twins (beyond rule_kind new old) in
    let rules : of_family f dels ≡ reverse (beyond rule_kind new old) =
    of_family-append f (reverse back) (requests_of gone) ∙ ap (λ rs. of_family f (reverse back) ++ rs) (of_family-routes f gone) ∙ append-nil (of_family f (reverse back))
    ∙ of_family-reverse f back ∙ ap reverse (of_family-twins f (beyond rule_kind new old)) in
    seen-append f (map (entry Added) adds) (map (entry Deleted) dels)
    ∙ ap (λ es. es ++ concerning (map (seen f) (map (entry Deleted) dels))) (seen-added f adds ∙ ap (map Add) (of_family-twins f (beyond rule_kind old new)))
    ∙ ap (λ es. map Add (beyond rule_kind old new) ++ es) (seen-deleted f dels ∙ ap (map Delete) rules)

-- and of an undone one the additions of the first few rules and their deletions
pub undone-seen : (f : Family) (k : ℕ) (refused : Request) (old new : List Rule)
    → (j : ℕ) × (concerning (map (seen f) (undone (additions old new) k refused)) ≡ undo (take j (beyond rule_kind old new)))
undone-seen f k refused old new =
    let part = of_family-part f k (beyond rule_kind old new) in
    let qs = take k (additions old new) in
    let back = map (entry Deleted) (reverse qs) in
    let later : concerning (map (seen f) (entry Refused refused ∷ back)) ≡ map Delete (reverse (of_family f qs)) =
    refused-seen f back ∙ seen-deleted f (reverse qs) ∙ ap (map Delete) (of_family-reverse f qs) in (
      part.0,
      seen-append f (map (entry Added) qs) (entry Refused refused ∷ back)
          ∙ ap (λ es. es ++ concerning (map (seen f) (entry Refused refused ∷ back))) (seen-added f qs)
          ∙ ap (λ es. map Add (of_family f qs) ++ es) later ∙ ap undo part.1,
    )
  where
    refused-seen : (f : Family) (es : List Entry) → concerning (map (seen f) (entry Refused refused ∷ es)) ≡ concerning (map (seen f) es)
    refused-seen family.V4 es = refl
    refused-seen family.V6 es = refl
