-- Which lines are met in the bytes that were given so far.
use Rattle.std.proofs.Common.{◌≡◌, ◌∙◌, ◌⊎◌, ℕ, ◌+◌, ◌<◌, ◌≤◌, ◌==◌, ◌||◌, Bool, true, false, List, [], ◌∷◌, ◌++◌, length, take, nat_lt, inl, inr, refl, sym, ap, subst, append_assoc, arith, length-append}
use Rattle.std.specs.Bool.{if◌then◌else◌}
use Rattle.std.specs.List.{list_any, flat_map, AllByRecursion}
use Rattle.std.proofs.lemmas.List.{append-nil, take-append-le, take_all}
use Rattle.std.proofs.lemmas.Grind.{flat_map-append}
use Rattle.std.proofs.lemmas.Bool.{cases_Bool, eqb-true, eq-eqb, lt-ltb, le-ltb}
use Rattle.line_input.specs.Lines.{IsOneLine, fed, line_feed, line_limit, input_limit, last_line, AreMet}
use Rattle.line_input.specs.Cut.{AreFed, AreLast, IsCut}
use Rattle.line_input.specs.Looks.{IsMetBy}

-- the facts of two lists of lines
each-append : (xs ys : List (List ℕ)) → AllByRecursion IsOneLine xs → AllByRecursion IsOneLine ys → AllByRecursion IsOneLine (xs ++ ys)
each-append [] ys p q = q
each-append (x ∷ xs) ys p q = (p.0, each-append xs ys p.1 q)

-- no more than the limit were given
all_taken : (given : List ℕ) → length given ≤ input_limit → take input_limit given ≡ given
all_taken given few = take_all input_limit given few

no_last : (ended : Bool) (rest : List ℕ) → length rest ≤ line_limit → (ended ≡ false) ⊎ (rest ≡ []) → last_line ended rest ≡ []
no_last ended rest short (inl e) = rw (e, le-ltb line_limit (length rest) short) refl
no_last ended rest short (inr e) = rw e (none ended)
  where
    none : (b : Bool) → last_line b [] ≡ []
    none true = refl
    none false = refl

-- all lines that are met were cut, and what is held is no line
pub all_met : (ended : Bool) (given : List ℕ) (lines : List (List ℕ)) (rest : List ℕ) → AreFed given lines rest → IsOneLine rest
    → length rest ≤ line_limit → (ended ≡ false) ⊎ (rest ≡ []) → length given ≤ input_limit → AreMet given ended lines
all_met ended given lines rest cut one short unended few = record {
  whole = lines;
  rest = rest;
  bytes = all_taken given few ∙ cut.bytes;
  each = cut.each;
  last = one;
  lines_are = sym (ap (λ (ls : List (List ℕ)). lines ++ ls) (no_last ended rest short unended) ∙ append-nil lines);
}

-- the same with the last line, which ended the input
pub last_met : (given : List ℕ) (front : List (List ℕ)) (last : List ℕ) → AreFed given front last → IsOneLine last
    → 0 < length last → length given ≤ input_limit → AreMet given true (front ++ last ∷ [])
last_met given front last cut one some few = record {
  whole = front;
  rest = last;
  bytes = all_taken given few ∙ cut.bytes;
  each = cut.each;
  last = one;
  lines_are = ap (λ (b : Bool). front ++ (if b || nat_lt line_limit (length last) then last ∷ [] else [])) (sym (lt-ltb 0 (length last) some));
}

pub met_at_end : (ended : Bool) (given : List ℕ) (lines : List (List ℕ)) (held : List ℕ) → AreLast ended given lines held → length given ≤ input_limit → AreMet given ended lines
met_at_end ended given lines held l few =
    subst (λ (b : Bool). AreMet given b lines) (sym l.at_end)
    (subst (λ (ls : List (List ℕ)). AreMet given true ls) (sym l.lines_are) (last_met given l.front l.last l.fed_front l.one_line l.some few))

-- one byte past the limit was given, after lines and a part of one
pub met_past_limit : (given : List ℕ) (lines : List (List ℕ)) (line past : List ℕ) → AreFed given lines (line ++ past) → IsOneLine line
    → length line ≤ line_limit → length past ≡ 1 → length given ≡ input_limit + 1 → AreMet given false lines
met_past_limit given lines line past cut one short single many = record {
  whole = lines;
  rest = line;
  bytes =
      let front : List ℕ = flat_map fed lines ++ line in
      let split : given ≡ front ++ past = cut.bytes ∙ sym (append_assoc (flat_map fed lines) line past) in
      let size : length front ≡ input_limit = omega (arith, ap length split, length-append front past) in
      ap (λ (g : List ℕ). take input_limit g) split ∙ (take-append-le input_limit front past (omega arith) ∙ take_all input_limit front (omega arith));
  each = cut.each;
  last = one;
  lines_are = sym (ap (λ (ls : List (List ℕ)). lines ++ ls) (no_last false line short (inl refl)) ∙ append-nil lines);
}

-- a byte before bytes that are cut
pub record Pieces (bytes : List ℕ) : Type 0 where
  pub whole : List (List ℕ)
  pub rest : List ℕ
  pub bytes_are : bytes ≡ flat_map fed whole ++ rest
  pub each : AllByRecursion IsOneLine whole
  pub last : IsOneLine rest

-- any bytes are lines with their line feeds, and a rest
pub pieces : (bytes : List ℕ) → Pieces bytes
pieces [] = record { whole = []; rest = []; bytes_are = refl; each = tt; last = refl }
pieces (b ∷ bs) = before b bs (pieces bs) (cases_Bool (b == line_feed))
  where
    is_feed : (b : ℕ) → (b == line_feed) ≡ true → b ≡ line_feed
    is_feed b e = eqb-true b line_feed e

    in_front : (b : ℕ) (bs : List ℕ) (whole : List (List ℕ)) (rest : List ℕ) → (b == line_feed) ≡ false → bs ≡ flat_map fed whole ++ rest
        → AllByRecursion IsOneLine whole → IsOneLine rest → Pieces (b ∷ bs)
    in_front b bs [] rest miss are each last = record { whole = []; rest = b ∷ rest; bytes_are = ap (λ (xs : List ℕ). b ∷ xs) are; each = tt; last = rw miss last }
    in_front b bs (line ∷ lines) rest miss are each last = record {
      whole = (b ∷ line) ∷ lines;
      rest = rest;
      bytes_are = ap (λ (xs : List ℕ). b ∷ xs) are;
      each = (rw miss each.0, each.1);
      last = last;
    }

    before : (b : ℕ) (bs : List ℕ) → Pieces bs → ((b == line_feed) ≡ true) ⊎ ((b == line_feed) ≡ false) → Pieces (b ∷ bs)
    before b bs p (inl hit) = record {
      whole = [] ∷ p.whole;
      rest = p.rest;
      bytes_are = ap (λ (x : ℕ). x ∷ bs) (is_feed b hit) ∙ ap (λ (xs : List ℕ). line_feed ∷ xs) p.bytes_are;
      each = (refl, p.each);
      last = p.last;
    }
    before b bs p (inr miss) = in_front b bs p.whole p.rest miss p.bytes_are p.each p.last

-- a line that ends the session is one of those that are met: itself, or one that begins with a text that is too long for one
pub record Meets (ended : Bool) (given : List ℕ) (before : List (List ℕ)) (text : List ℕ) : Type 0 where
  pub full : List ℕ
  pub behind : List (List ℕ)
  pub met : AreMet given ended (before ++ full ∷ behind)
  pub same : (full ≡ text) ⊎ ((line_limit < length text) × (line_limit < length full))

-- the pieces of what stands after lines, with a line more in front
meets_fed : (ended : Bool) (given : List ℕ) (before : List (List ℕ)) (text behind : List ℕ) → AreFed given before (fed text ++ behind)
    → IsOneLine text → length given ≤ input_limit → Meets ended given before text
meets_fed ended given before text behind cut one few =
    let p = pieces behind in
    record {
      full = text;
      behind = p.whole ++ last_line ended p.rest;
      met = record {
        whole = before ++ text ∷ p.whole;
        rest = p.rest;
        bytes =
            all_taken given few ∙ (cut.bytes
            ∙ (ap (λ (xs : List ℕ). flat_map fed before ++ (fed text ++ xs)) p.bytes_are
            ∙ (ap (λ (xs : List ℕ). flat_map fed before ++ xs) (sym (append_assoc (fed text) (flat_map fed p.whole) p.rest))
            ∙ (sym (append_assoc (flat_map fed before) (flat_map fed (text ∷ p.whole)) p.rest)
            ∙ ap (λ (xs : List ℕ). xs ++ p.rest) (sym (flat_map-append fed before (text ∷ p.whole)))))));
        each = each-append before (text ∷ p.whole) cut.each (one, p.each);
        last = p.last;
        lines_are = sym (append_assoc before (text ∷ p.whole) (last_line ended p.rest));
      };
      same = inl refl;
    }

-- a text without a line feed is no longer than the line that it begins
within : (text behind line more : List ℕ) → IsOneLine text → text ++ behind ≡ fed line ++ more → length text ≤ length line
within [] behind line more one e = omega arith
within (x ∷ xs) behind [] more one e = absurd (let b : true ≡ false = sym (eq-eqb-first x xs behind more e) ∙ first_false (x == line_feed) (list_any (λ b. b == line_feed) xs) one in cc)
  where
    first_false : (a b : Bool) → (a || b) ≡ false → a ≡ false
    first_false true b e = e
    first_false false b e = refl

    eq-eqb-first : (x : ℕ) (xs behind more : List ℕ) → (x ∷ xs) ++ behind ≡ (line_feed ∷ []) ++ more → (x == line_feed) ≡ true
    eq-eqb-first x xs behind more e = let same : x ≡ line_feed = cc in eq-eqb x line_feed same
within (x ∷ xs) behind (y ∷ ys) more one e =
    let tails : xs ++ behind ≡ fed ys ++ more = cc in
    let shorter : length xs ≤ length ys = within xs behind ys more (rest_false (x == line_feed) (list_any (λ b. b == line_feed) xs) one) tails in
    omega arith
  where
    rest_false : (a b : Bool) → (a || b) ≡ false → b ≡ false
    rest_false true b e = absurd (let h : true ≡ false = e in cc)
    rest_false false b e = e

meets_long : (ended : Bool) (given : List ℕ) (before : List (List ℕ)) (text behind : List ℕ) → AreFed given before (text ++ behind)
    → IsOneLine text → line_limit < length text → length given ≤ input_limit → Meets ended given before text
meets_long ended given before text behind cut one long few = by_pieces (pieces (text ++ behind))
  where
    is_last : (ended : Bool) (rest : List ℕ) → line_limit < length rest → last_line ended rest ≡ rest ∷ []
    is_last true rest h = rw (lt-ltb 0 (length rest) (omega arith)) refl
    is_last false rest h = rw (lt-ltb line_limit (length rest) h) refl

    none : (rest : List ℕ) → text ++ behind ≡ rest → IsOneLine rest → Meets ended given before text
    none rest are last =
        let size : line_limit < length rest = omega (arith, ap length are, length-append text behind) in
        record {
          full = rest;
          behind = [];
          met = record {
            whole = before;
            rest = rest;
            bytes = all_taken given few ∙ (cut.bytes ∙ ap (λ (xs : List ℕ). flat_map fed before ++ xs) are);
            each = cut.each;
            last = last;
            lines_are = sym (ap (λ (ls : List (List ℕ)). before ++ ls) (is_last ended rest size));
          };
          same = inr (long, size);
        }

    some : (line : List ℕ) (lines : List (List ℕ)) (rest : List ℕ) → text ++ behind ≡ flat_map fed (line ∷ lines) ++ rest
        → AllByRecursion IsOneLine (line ∷ lines) → IsOneLine rest → Meets ended given before text
    some line lines rest are each last =
        let size : length text ≤ length line = within text behind line (flat_map fed lines ++ rest) one (are ∙ append_assoc (fed line) (flat_map fed lines) rest) in
        record {
          full = line;
          behind = lines ++ last_line ended rest;
          met = record {
            whole = before ++ line ∷ lines;
            rest = rest;
            bytes =
                all_taken given few ∙ (cut.bytes
                ∙ (ap (λ (xs : List ℕ). flat_map fed before ++ xs) are
                ∙ (sym (append_assoc (flat_map fed before) (flat_map fed (line ∷ lines)) rest)
                ∙ ap (λ (xs : List ℕ). xs ++ rest) (sym (flat_map-append fed before (line ∷ lines))))));
            each = each-append before (line ∷ lines) cut.each each;
            last = last;
            lines_are = sym (append_assoc before (line ∷ lines) (last_line ended rest));
          };
          same = inr (long, omega (arith, size));
        }

    by_whole : (whole : List (List ℕ)) (rest : List ℕ) → text ++ behind ≡ flat_map fed whole ++ rest → AllByRecursion IsOneLine whole → IsOneLine rest
        → Meets ended given before text
    by_whole [] rest are each last = none rest are last
    by_whole (line ∷ lines) rest are each last = some line lines rest are each last

    by_pieces : Pieces (text ++ behind) → Meets ended given before text
    by_pieces p = by_whole p.whole p.rest p.bytes_are p.each p.last

-- the line by which a session ends is met
pub met_at_line : (ended : Bool) (given : List ℕ) (before : List (List ℕ)) (text front behind : List ℕ) → AreFed given before (front ++ behind)
    → IsOneLine text → IsMetBy ended text front behind → length given ≤ input_limit → Meets ended given before text
met_at_line ended given before text front behind cut one (inl fed_by) few =
    meets_fed ended given before text behind (subst (λ (f : List ℕ). AreFed given before (f ++ behind)) fed_by.0 cut) one few
met_at_line ended given before text front behind cut one (inr (inl long)) few =
    meets_long ended given before text behind (subst (λ (f : List ℕ). AreFed given before (f ++ behind)) long.0 cut) one long.1 few
met_at_line ended given before text front behind cut one (inr (inr last)) few =
    let whole : AreFed given before text =
    subst (λ (f : List ℕ). AreFed given before f) (ap (λ (f : List ℕ). f ++ behind) last.0 ∙ (ap (λ (b : List ℕ). text ++ b) last.3 ∙ append-nil text)) cut in
    record {
      full = text;
      behind = [];
      met = subst (λ (b : Bool). AreMet given b (before ++ text ∷ [])) (sym last.4) (last_met given before text whole one last.1 few);
      same = inl refl;
    }

-- after a line that is short enough, the next one is looked for
pub cut_on : (ended : Bool) (given : List ℕ) (lines : List (List ℕ)) (text front behind : List ℕ) → AreFed given lines (front ++ behind)
    → IsOneLine text → IsMetBy ended text front behind → length text ≤ line_limit → IsCut ended given (lines ++ text ∷ []) behind
cut_on ended given lines text front behind cut one (inl fed_by) short =
    inl record {
      bytes =
          cut.bytes ∙ (ap (λ (f : List ℕ). flat_map fed lines ++ (f ++ behind)) (fed_by.0 ∙ sym (append-nil (fed text)))
          ∙ (sym (append_assoc (flat_map fed lines) (flat_map fed (text ∷ [])) behind)
          ∙ ap (λ (xs : List ℕ). xs ++ behind) (sym (flat_map-append fed lines (text ∷ [])))));
      each = each-append lines (text ∷ []) cut.each (one, tt);
    }
cut_on ended given lines text front behind cut one (inr (inl long)) short = absurd (let h = long.1 in omega arith)
cut_on ended given lines text front behind cut one (inr (inr last)) short =
    inr record {
      front = lines;
      last = text;
      lines_are = refl;
      fed_front = subst (λ (f : List ℕ). AreFed given lines f) (ap (λ (f : List ℕ). f ++ behind) last.0 ∙ (ap (λ (b : List ℕ). text ++ b) last.3 ∙ append-nil text)) cut;
      one_line = one;
      some = last.1;
      short = short;
      none_held = last.3;
      at_end = last.4;
    }

-- what was met by some bytes has at least one of them
pub some_met : (ended : Bool) (text front behind : List ℕ) → IsMetBy ended text front behind → 0 < length front
some_met ended text front behind (inl fed_by) = omega (arith, ap length fed_by.0, length-append text (line_feed ∷ []))
some_met ended text front behind (inr (inl long)) = omega (arith, ap length long.0, long.1)
some_met ended text front behind (inr (inr last)) = omega (arith, ap length last.0, last.1)

-- more bytes were given, and are held
pub fed_more : (given : List ℕ) (lines : List (List ℕ)) (held more : List ℕ) → AreFed given lines held → AreFed (given ++ more) lines (held ++ more)
fed_more given lines held more cut = record {
  bytes = ap (λ (xs : List ℕ). xs ++ more) cut.bytes ∙ append_assoc (flat_map fed lines) held more;
  each = cut.each;
}
