-- Lists of ranges as text.
use Rattle.std.proofs.Common.{◌≡◌, ℕ, Bool, true, false, append_assoc, Result, Ok, Err, List, [], ◌∷◌, ◌++◌, refl, sym, ap, ◌∙◌, subst, arith}
use Rattle.addr_text.specs.Forms.{has_byte}
use Rattle.addr_text.proofs.Bytes.{cut_once, has_byte-append, has_byte-digits, has_byte-here, has_byte-other}
use Rattle.uid_ranges.specs.declared.range.UidRange.{UidRange}
use Rattle.std.specs.declared.alloc.AllocError.{AllocError}
use Rattle.word_text.specs.Kinds.{ReadsRanges}
use Rattle.word_text.specs.Grammar.{SpellsRange, SpellsRanges, comma, dash}

-- no range has a ','
pub no_comma : (text : List ℕ) (users : UidRange) → SpellsRange text users → has_byte comma text ≡ false
no_comma text users one =
    ap (has_byte comma) one.cut
    ∙ has_byte-append comma one.first_text (dash ∷ one.last_text) (has_byte-digits 10 comma one.first_text (omega arith) one.first.0.numeral.1)
    (has_byte-other comma dash one.last_text refl (has_byte-digits 10 comma one.last_text (omega arith) one.last.0.numeral.1))

has_no : (text left right : List ℕ) → text ≡ left ++ comma ∷ right → has_byte comma text ≡ false → ⊥
has_no text left right cut none =
    let has : has_byte comma text ≡ true = ap (has_byte comma) cut ∙ has_byte-here comma left right in
    let different : true ≡ false = sym has ∙ none in cc

-- a text without ',' is one range
pub one_range_alone : (text : List ℕ) (list : List UidRange) → has_byte comma text ≡ false → SpellsRanges text list →
    (users : UidRange) × (list ≡ users ∷ []) × SpellsRange text users
one_range_alone text [] none spelled = absurd spelled
one_range_alone text (users ∷ []) none spelled = (users, refl, spelled)
one_range_alone text (users ∷ next ∷ more) none spelled = absurd (has_no text spelled.0 spelled.1 spelled.2 none)

-- the first range stands before the first ','
pub ranges_cut : (text left right : List ℕ) (list : List UidRange) → text ≡ left ++ comma ∷ right → has_byte comma left ≡ false → SpellsRanges text list →
    (users : UidRange) × (more : List UidRange) × (list ≡ users ∷ more) × SpellsRange left users × SpellsRanges right more
ranges_cut text left right [] cut none spelled = absurd spelled
ranges_cut text left right (users ∷ []) cut none spelled = absurd (has_no text left right cut (no_comma text users spelled))
ranges_cut text left right (users ∷ next ∷ more) cut none spelled =
    let parts = cut_once comma left spelled.0 right spelled.1 none (no_comma spelled.0 users spelled.3) (sym cut ∙ spelled.2) in (
      users,
      next ∷ more,
      refl,
      subst (λ (t : List ℕ). SpellsRange t users) (sym parts.0) spelled.3,
      subst (λ (t : List ℕ). SpellsRanges t (next ∷ more)) (sym parts.1) spelled.4,
    )

-- one range more in front
pub ranges_more : (text left right : List ℕ) (users : UidRange) (more : List UidRange) → text ≡ left ++ comma ∷ right → SpellsRange left users → SpellsRanges right more →
    SpellsRanges text (users ∷ more)
ranges_more text left right users [] cut one others = absurd others
ranges_more text left right users (next ∷ more) cut one others = (left, right, cut, one, others)

-- what reading the others gives, after a first range
pub reads_more : (text left right : List ℕ) (users : UidRange) (old mid new : List UidRange) (read : Result Bool AllocError) → text ≡ left ++ comma ∷ right → has_byte comma left ≡ false →
    SpellsRange left users → mid ≡ old ++ users ∷ [] → ReadsRanges right mid new read → ReadsRanges text old new read
reads_more text left right users old mid new (Ok true) cut none one pushed reads = (
  users ∷ reads.0,
  ranges_more text left right users reads.0 cut one reads.1,
  reads.2 ∙ ap (λ (xs : List UidRange). xs ++ reads.0) pushed ∙ append_assoc old (users ∷ []) reads.0,
)
reads_more text left right users old mid new (Ok false) cut none one pushed reads = λ list spelled.
    let parts = ranges_cut text left right list cut none spelled in reads parts.1 parts.4
reads_more text left right users old mid new (Err fault) cut none one pushed reads = tt
