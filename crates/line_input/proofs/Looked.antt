-- From one byte to the next, looking for a line.
use Rattle.std.proofs.Common.{◌≡◌, ◌≢◌, ◌∙◌, ℕ, ◌+◌, ◌<◌, ◌≤◌, ◌==◌, ◌||◌, false, List, [], ◌∷◌, ◌++◌, length, Option, None, Some, Result, Ok, Err, inl, inr, refl, sym, ap, subst, append_assoc, arith, length-append}
use Rattle.std.proofs.lemmas.List.{append-nil}
use Rattle.std.proofs.lemmas.List.Folds.{list_any-append}
use Rattle.std.proofs.lemmas.Bool.Decides.{eqb_tells}
use Rattle.std.proofs.KnownBytes.{Consumes-trans}
use Rattle.std.specs.Io.KnownBytes.{Consumes}
use Rattle.line_input.specs.Lines.{IsOneLine, line_feed, line_limit}
use Rattle.net_io.specs.Streams.{SourceView}
use Rattle.line_input.specs.Looks.{held, line_of, Found, Looks}
use Rattle.line_input.specs.Steps.{Takes, Looking}
use Rattle.line_input.specs.declared.input.Input.{Input}
use Rattle.line_input.specs.declared.input.Met.{Met}
use Rattle.line_input.specs.declared.input.Met.TheVariants.{Line, End}
use Rattle.line_input.specs.declared.input.InputFault.{InputFault}
use Rattle.line_input.specs.declared.input.InputFault.TheVariants.{Read, TooLong}

-- one byte more that is no line feed
pub one_line_more : (line : List ℕ) (byte : ℕ) → IsOneLine line → byte ≢ line_feed → IsOneLine (line ++ byte ∷ [])
one_line_more line byte one other =
    list_any-append (λ b. b == line_feed) line (byte ∷ [])
    ∙ (ap (λ b. b || ((byte == line_feed) || false)) one
    ∙ elim (eqb_tells byte line_feed) as (λ _. ((byte == line_feed) || false) ≡ false) [
      | inl (test, same) ↦ absurd (other same)
      | inr (test, differs) ↦ ap (λ b. b || false) test
    ])

module _ (start : List ℕ) (count : ℕ) (mid new : Input) (b m a : SourceView) (l : Looking start count mid b m) where
  bytes_so_far : (r : Result (Option ℕ) InputFault) (t : Takes mid new m a r) → start ++ (l.more ++ t.more) ≡ line_of mid ++ (held mid ++ t.more)
  bytes_so_far r t = sym (append_assoc (start) l.more t.more) ∙ (ap (λ (xs : List ℕ). xs ++ t.more) l.bytes ∙ append_assoc (line_of mid) (held mid) t.more)

  both_taken : (r : Result (Option ℕ) InputFault) (t : Takes mid new m a r) → Consumes b.left a.left (l.more ++ t.more)
  both_taken r t = Consumes-trans b.left m.left a.left l.more t.more l.taken t.taken

  both_counted : (r : Result (Option ℕ) InputFault) (t : Takes mid new m a r) → new.given ≡ count + length (l.more ++ t.more)
  both_counted r t = omega (arith, length-append l.more t.more, l.counted, t.counted)

  line_same : (r : Result (Option ℕ) InputFault) (t : Takes mid new m a r) → IsOneLine (line_of new)
  line_same r t = rw t.line_kept l.one_line

  -- looking ends with the answer to this byte, of which only what was found is left to be said
  looks_by : (r : Result (Option ℕ) InputFault) (x : Result Met InputFault) (t : Takes mid new m a r)
      → Found x (line_of new) (start ++ (l.more ++ t.more)) (held new) new.given b a → Looks start count new b a x
  looks_by r x t found = record {
    more = l.more ++ t.more;
    taken = both_taken r t;
    counted = both_counted r t;
    one_line = line_same r t;
    finished = t.finished;
    none_left = t.none_left;
    found = found;
  }

  pub looks_read : Takes mid new m a (Err Read) → mid.length ≤ line_limit → Looks start count new b a (Err Read)
  looks_read t short = looks_by (Err Read) (Err Read) t (
    bytes_so_far (Err Read) t ∙ (ap (λ (xs : List ℕ). line_of mid ++ xs) t.byte.0 ∙ (append-nil (line_of mid) ∙ sym t.line_kept)),
    omega (arith, ap length t.line_kept, l.length_is),
    t.byte.1,
    t.byte.2,
    omega (arith, t.byte.3, l.no_fault),
    t.byte.4,
  )

  pub looks_long_input : Takes mid new m a (Err TooLong) → mid.length ≤ line_limit → Looks start count new b a (Err TooLong)
  looks_long_input t short = looks_by (Err TooLong) (Err TooLong) t (
    bytes_so_far (Err TooLong) t ∙ (ap (λ (xs : List ℕ). line_of mid ++ xs) t.byte.0 ∙ ap (λ (xs : List ℕ). xs ++ held new) (sym t.line_kept)),
    omega (arith, ap length t.line_kept, l.length_is),
    t.byte.1,
    t.byte.2,
    t.byte.3 ∙ l.no_fault,
    t.byte.4,
  )

  looks_end : Takes mid new m a (Ok None) → mid.length ≡ 0 → Looks start count new b a (Ok End)
  looks_end t none =
      let empty : line_of mid ≡ [] = no_length (line_of mid) (l.length_is ∙ none) in
      looks_by (Ok None) (Ok End) t (
        bytes_so_far (Ok None) t ∙ (ap (λ (xs : List ℕ). line_of mid ++ xs) t.byte.0 ∙ (append-nil (line_of mid) ∙ empty)),
        t.line_kept ∙ empty,
        t.byte.1,
        t.byte.2,
        t.byte.3 ∙ l.no_fault,
        t.byte.4,
      )
    where
      no_length : (xs : List ℕ) → length xs ≡ 0 → xs ≡ []
      no_length [] h = refl
      no_length (x ∷ xs) h = absurd (omega arith)

  pub looks_last : Takes mid new m a (Ok None) → 0 < mid.length → mid.length ≤ line_limit → Looks start count new b a (Ok Line)
  looks_last t some short = looks_by (Ok None) (Ok Line) t (
    (
      line_of new,
      bytes_so_far (Ok None) t ∙ (ap (λ (xs : List ℕ). line_of mid ++ xs) (t.byte.0 ∙ sym t.byte.1) ∙ ap (λ (xs : List ℕ). xs ++ held new) (sym t.line_kept)),
      inr (inr (refl, omega (arith, ap length t.line_kept, l.length_is), omega (arith, ap length t.line_kept, l.length_is), t.byte.1, t.byte.4)),
    ),
    t.byte.2,
    t.byte.3 ∙ l.no_fault,
  )

  pub looks_fed : Takes mid new m a (Ok (Some line_feed)) → mid.length ≤ line_limit → Looks start count new b a (Ok Line)
  looks_fed t short = looks_by (Ok (Some line_feed)) (Ok Line) t (
    (
      line_of new ++ line_feed ∷ [],
      bytes_so_far (Ok (Some line_feed)) t ∙ (ap (λ (xs : List ℕ). line_of mid ++ xs) t.byte.0
          ∙ (sym (append_assoc (line_of mid) (line_feed ∷ []) (held new)) ∙ ap (λ (xs : List ℕ). (xs ++ line_feed ∷ []) ++ held new) (sym t.line_kept))),
      inl (refl, omega (arith, ap length t.line_kept, l.length_is)),
    ),
    t.byte.1,
    t.byte.2 ∙ l.no_fault,
  )

  -- the byte is kept, and looking goes on
  pub looking_on : (byte : ℕ) (next : Input) → Takes mid new m a (Ok (Some byte)) → byte ≢ line_feed
      → held next ≡ held new → next.given ≡ new.given → line_of next ≡ line_of new ++ byte ∷ [] → next.length ≡ new.length + 1 → next.finished ≡ new.finished
      → Looking start count next b a
  looking_on byte next t other same_held same_given grown longer ends = record {
    more = l.more ++ t.more;
    taken = both_taken (Ok (Some byte)) t;
    counted = same_given ∙ both_counted (Ok (Some byte)) t;
    bytes =
        bytes_so_far (Ok (Some byte)) t ∙ (ap (λ (xs : List ℕ). line_of mid ++ xs) t.byte.0
        ∙ (sym (append_assoc (line_of mid) (byte ∷ []) (held new))
        ∙ (ap (λ (xs : List ℕ). (xs ++ byte ∷ []) ++ held new) (sym t.line_kept)
        ∙ (ap (λ (xs : List ℕ). xs ++ held new) (sym grown) ∙ ap (λ (xs : List ℕ). line_of next ++ xs) (sym same_held)))));
    one_line = rw (grown, t.line_kept) (one_line_more (line_of mid) byte l.one_line other);
    length_is = omega (arith, ap length grown, length-append (line_of new) (byte ∷ []), ap length t.line_kept, l.length_is, longer, t.length_kept);
    within = omega (arith, same_given, t.byte.1);
    no_fault = t.byte.2 ∙ l.no_fault;
    finished = ends ∙ t.finished;
    none_left = t.none_left;
  }

pub looks_long_line : (start : List ℕ) (count : ℕ) (mid : Input) (b m : SourceView) → Looking start count mid b m → line_limit < mid.length → Looks start count mid b m (Ok Line)
looks_long_line start count mid b m l long = record {
  more = l.more;
  taken = l.taken;
  counted = l.counted;
  one_line = l.one_line;
  finished = l.finished;
  none_left = l.none_left;
  found = ((line_of mid, l.bytes, inr (inl (refl, omega (arith, l.length_is)))), l.within, l.no_fault);
}

pub looks_fault : (start : List ℕ) (count : ℕ) (mid new : Input) (b m a : SourceView) → Looking start count mid b m → (fault : InputFault)
    → Takes mid new m a (Err fault) → mid.length ≤ line_limit → Looks start count new b a (Err fault)
looks_fault start count mid new b m a l Read t short = looks_read start count mid new b m a l t short
looks_fault start count mid new b m a l TooLong t short = looks_long_input start count mid new b m a l t short

-- the same, by what the byte was read as
module _ (start : List ℕ) (count : ℕ) (mid new : Input) (b m a : SourceView) (l : Looking start count mid b m) (r : Result (Option ℕ) InputFault) (t : Takes mid new m a r) where
  pub at_end : r ≡ Ok None → mid.length ≡ 0 → Looks start count new b a (Ok End)
  at_end e none = looks_end start count mid new b m a l (subst (λ x. Takes mid new m a x) e t) none

  pub at_last : r ≡ Ok None → mid.length ≢ 0 → mid.length ≤ line_limit → Looks start count new b a (Ok Line)
  at_last e some short = looks_last start count mid new b m a l (subst (λ x. Takes mid new m a x) e t) (omega (arith, some)) short

  pub at_feed : r ≡ Ok (Some line_feed) → mid.length ≤ line_limit → Looks start count new b a (Ok Line)
  at_feed e short = looks_fed start count mid new b m a l (subst (λ x. Takes mid new m a x) e t) short

  pub at_byte : (byte : ℕ) (next : Input) → r ≡ Ok (Some byte) → byte ≢ line_feed
      → held next ≡ held new → next.given ≡ new.given → line_of next ≡ line_of new ++ byte ∷ [] → next.length ≡ new.length + 1 → next.finished ≡ new.finished
      → Looking start count next b a
  at_byte byte next e other = looking_on start count mid new b m a l byte next (subst (λ x. Takes mid new m a x) e t) other
