-- How going over the lines of a source ends, from how far one had come.
use Rattle.std.proofs.Common.{◌≡◌, ◌≢◌, ◌∙◌, ◌⊎◌, ℕ, ◌+◌, ◌<◌, ◌≤◌, Bool, true, false, List, [], ◌∷◌, ◌++◌, length, take, Result, Ok, Err, inl, inr, refl, sym, ap, subst, arith, length-append}
use Rattle.std.specs.Prelude.{IsErrAnd}
use Rattle.std.proofs.lemmas.Bool.{false≢true}
use Rattle.std.proofs.KnownBytes.{Appends-nil, Appends-trans, Consumes-nil, Consumes-trans}
use Rattle.std.proofs.lemmas.List.{take_all}
use Rattle.std.specs.Io.KnownBytes.{Appends, Consumes, IsAtEnd}
use Rattle.line_input.proofs.MetLines.{all_met, met_at_end, met_past_limit, met_at_line, cut_on, some_met, fed_more, Meets}
use Rattle.line_input.specs.Cut.{AreFed, IsCut}
use Rattle.line_input.specs.Lines.{AreMet, line_limit, input_limit}
use Rattle.line_input.specs.Looks.{Looks, held, line_of}
use Rattle.line_input.specs.declared.input.Input.{Input}
use Rattle.line_input.specs.declared.input.InputFault.{InputFault}
use Rattle.line_input.specs.declared.input.InputFault.TheVariants.{Read, TooLong}
use Rattle.line_input.specs.declared.input.Met.{Met}
use Rattle.line_input.specs.declared.input.Met.TheVariants.{Line, End as InputEnd}
use Rattle.net_io.specs.Streams.{SinkView, SourceView}
use Rattle.script_reader.specs.BadLines.{IsBadAt}
use Rattle.netd_session.proofs.Tellings.{EndsLine, error_is, line_unfailed, not_with_input, stopped, write_fault_of}
use Rattle.netd_session.specs.Passes.{EndsInput, IsPass, Leaves, Pass, Passed, StopsWhere, TakesOne, TellsOf, at_one, before_one, passed_more, passed_none, read_failed, read_whole, too_long, with_input as ends_input}
use Rattle.netd_session.specs.Progress.{HasCome}
use Rattle.netd_session.specs.Stops.{End, after_input, ends_with_input, goes_on, status_of}
use Rattle.netd_session.specs.Telling.{IsTaken, no_memory, sink_failed, taken_whole}
use Rattle.netd_session.specs.World.{Streams}
use Rattle.netd_session.specs.declared.end.Stop.{Stop}
use Rattle.netd_session.specs.declared.end.Stop.TheVariants as stop

-- what is so of what is said of a line
pub record IsByLine (p : Pass) : Type 0 where
  pub ends : (text : List ℕ) (n : ℕ) (s e : p.Stand) (out : List ℕ) (whole : End) → p.Says text n s e out whole → EndsLine whole
  -- where it goes on the line is not too long
  pub short : (text : List ℕ) (n : ℕ) (s e : p.Stand) (out : List ℕ) (whole : End) → p.Says text n s e out whole → whole ≡ goes_on → length text ≤ line_limit
  -- of a line that is too long the same is said, whatever follows
  pub long : (text full : List ℕ) (n : ℕ) (s e : p.Stand) (out : List ℕ) (whole : End) → line_limit < length text → line_limit < length full → p.Says text n s e out whole → p.Says full n s e out whole

-- the same answer
pub with_answer : {bytes : List ℕ} {count : ℕ} {input : Input} {before after : SourceView} {answer same : Result Met InputFault}
    → answer ≡ same → Looks bytes count input before after answer → Looks bytes count input before after same
with_answer {bytes} {count} {input} {before} {after} is looks = subst (λ (r : Result Met InputFault). Looks bytes count input before after r) is looks

-- a line that ends the session ends it neither by a fault of the source nor by too long an input
module _ (result : End) (not_input : ends_with_input (status_of result) ≡ false) where
  no_read_fault : {before after : ℕ} → after ≡ before → StopsWhere result stop.ReadFault (before < after) (after ≡ before)
  no_read_fault same = inr ((λ is. false≢true (sym not_input ∙ ap (λ (r : End). ends_with_input (status_of r)) is)), same)

  few_given : {count : ℕ} → count ≤ input_limit → StopsWhere result stop.TooLong (count ≡ input_limit + 1) (count ≤ input_limit)
  few_given few = inr ((λ is. false≢true (sym not_input ∙ ap (λ (r : End). ends_with_input (status_of r)) is)), few)

-- it ends with the input, all lines of which are told
module _ (p : Pass) (begun stands : p.Stand) (old w : Streams) (count : ℕ) (held_before : List ℕ) (number : ℕ) (h : HasCome p begun stands old w count held_before number) (input : Input) (o : SourceView) where
  -- what is so of such an end
  with_input : (end : End) (more : List ℕ) → Consumes w.source.left o.left more → AreMet (h.given ++ more) o.ended h.lines
      → EndsInput end o.ended (length (h.given ++ more)) old.source.faults o.faults
      → StopsWhere end stop.TooLong (length (h.given ++ more) ≡ input_limit + 1) (length (h.given ++ more) ≤ input_limit)
      → StopsWhere end stop.ReadFault (old.source.faults < o.faults) (o.faults ≡ old.source.faults)
      → end ≢ Err stop.WriteFault → (o.ended ≡ true → IsAtEnd o.left)
      → IsPass p begun stands end old (record w { source = o })
  with_input end more read met ends few read_fault unfailed none_left = record {
    given = h.given ++ more;
    read = Consumes-trans old.source.left w.source.left o.left h.given more h.read read;
    lines = h.lines;
    met = met;
    none_left = none_left;
    out = h.out;
    written = h.written;
    ending = ends_input h.passed ends;
    few = few;
    read_fault = read_fault;
    write_fault = inr (unfailed, h.no_write_fault);
  }

  more_count : (l : List ℕ) → input.given ≡ count + length l → input.given ≡ length (h.given ++ l)
  more_count l e = omega (arith, e, h.counted, length-append h.given l)

  pub finished_at_end : Looks held_before count input w.source o (Ok InputEnd) → IsPass p begun stands goes_on old (record w { source = o })
  finished_at_end l =
      let few : length (h.given ++ l.more) ≤ input_limit = omega (arith, more_count l.more l.counted, l.found.3) in
      let same : o.faults ≡ old.source.faults = l.found.4 ∙ h.no_read_fault in
      with_input goes_on l.more l.taken
      (all_met o.ended (h.given ++ l.more) h.lines [] (subst (λ (b : List ℕ). AreFed (h.given ++ l.more) h.lines b) l.found.0 (fed_more h.given h.lines held_before l.more h.cut)) refl (omega arith) (inr refl) few)
      (read_whole refl l.found.5 few same) (inr ((λ e. absurd cc), few)) (inr ((λ e. absurd cc), same)) (λ e. absurd cc) l.none_left

  a_read_failed : Looks held_before count input w.source o (Err Read) → IsPass p begun stands (Err stop.ReadFault) old (record w { source = o })
  a_read_failed l =
      let few : length (h.given ++ l.more) ≤ input_limit = omega (arith, more_count l.more l.counted, l.found.3) in
      let more : old.source.faults < o.faults = omega (arith, l.found.4, h.no_read_fault) in
      with_input (Err stop.ReadFault) l.more l.taken
      (all_met o.ended (h.given ++ l.more) h.lines (line_of input) (subst (λ (b : List ℕ). AreFed (h.given ++ l.more) h.lines b) l.found.0 (fed_more h.given h.lines held_before l.more h.cut)) l.one_line l.found.1 (inl l.found.5) few)
      (read_failed refl few more) (inr ((λ e. absurd cc), few)) (inl (refl, more)) (λ e. absurd cc) l.none_left

  input_too_long : Looks held_before count input w.source o (Err TooLong) → IsPass p begun stands (Err stop.TooLong) old (record w { source = o })
  input_too_long l =
      let many : length (h.given ++ l.more) ≡ input_limit + 1 = sym (more_count l.more l.counted) ∙ l.found.3 in
      let same : o.faults ≡ old.source.faults = l.found.4 ∙ h.no_read_fault in
      with_input (Err stop.TooLong) l.more l.taken
      (subst (λ (b : Bool). AreMet (h.given ++ l.more) b h.lines) (sym l.found.5)
      (met_past_limit (h.given ++ l.more) h.lines (line_of input) (held input) (subst (λ (b : List ℕ). AreFed (h.given ++ l.more) h.lines b) l.found.0 (fed_more h.given h.lines held_before l.more h.cut)) l.one_line l.found.1 l.found.2 many))
      (too_long refl many same) (inl (refl, many)) (inr ((λ e. absurd cc), same)) (λ e. absurd cc) l.none_left

  -- no line was met
  pub input_failed : (fault : InputFault) (result : End) → IsErrAnd result (λ s. s ≡ after_input fault) → Looks held_before count input w.source o (Err fault)
      → IsPass p begun stands result old (record w { source = o })
  input_failed fault (Ok u) is l = absurd is
  input_failed Read (Err s) is l = subst (λ (t : Stop). IsPass p begun stands (Err t) old (record w { source = o })) (sym is) (a_read_failed l)
  input_failed TooLong (Err s) is l = subst (λ (t : Stop). IsPass p begun stands (Err t) old (record w { source = o })) (sym is) (input_too_long l)

-- a text that is too long goes wrong there
pub long_column : (text : List ℕ) (column : ℕ) → line_limit < length text → IsBadAt text column → column ≡ line_limit + 1
long_column text column far (inl over) = over.1
long_column text column far (inr (inl byte)) = absurd (let short = byte.short in omega (arith, short))
long_column text column far (inr (inr (inl word))) = absurd (let short = word.is_text.short in omega (arith, short))
long_column text column far (inr (inr (inr unfinished))) = absurd (let short = unfinished.is_text.short in omega (arith, short))

-- what is said of the text of a line that is too long is said of the whole line
of_full : (p : Pass) (laws : IsByLine p) (text full : List ℕ) (n : ℕ) (s e : p.Stand) (out : List ℕ) (whole : End)
    → (full ≡ text) ⊎ ((line_limit < length text) × (line_limit < length full)) → p.Says text n s e out whole → p.Says full n s e out whole
of_full p laws text full n s e out whole (inl same) said = subst (λ (t : List ℕ). p.Says t n s e out whole) (sym same) said
of_full p laws text full n s e out whole (inr long) said = laws.long text full n s e out whole long.0 long.1 said

-- what is said of a line was told whole, and it went on
pub record WentOn (p : Pass) (text : List ℕ) (n : ℕ) (s e : p.Stand) (old new : SinkView) : Type 0 where
  pub out : List ℕ
  pub said : p.Says text n s e out goes_on
  pub written : Appends old.bytes new.bytes out
  pub no_fault : new.faults ≡ old.faults

pub went_on : (p : Pass) (text : List ℕ) (n : ℕ) (s e : p.Stand) (old new : SinkView) (u : Unit {0}) → TakesOne p (Ok u) text n s e old new → WentOn p text n s e old new
went_on p text n s e old new u (inl t) = by t.told.outcome
  where
    by : IsTaken t.whole (Ok u) t.told.taken (length t.out) old.faults new.faults → WentOn p text n s e old new
    by (sink_failed is few fault) = absurd cc
    by (no_memory is few kept) = absurd cc
    by (taken_whole is full kept) = record {
      out = t.out;
      said = subst (λ (r : End). p.Says text n s e t.out r) (sym is) t.said;
      written = subst (Appends old.bytes new.bytes) (take_all t.told.taken t.out (omega (arith, full))) t.told.written;
      no_fault = kept;
    }
went_on p text n s e old new u (inr left) = absurd (let is = left.no_memory in cc)

module _ (p : Pass) (laws : IsByLine p) (begun s e : p.Stand) (old w : Streams) (count : ℕ) (held_before : List ℕ) (number : ℕ) (h : HasCome p begun s old w count held_before number)
    (input : Input) (o : SourceView) (l : Looks held_before count input w.source o (Ok Line)) (sink : SinkView) where
  -- source and sink after the line was taken
  abbrev now : Streams
  now = record { source = o; sink = sink }

  abbrev cut_now : AreFed (h.given ++ l.more) h.lines (l.found.0.0 ++ held input)
  cut_now = subst (λ (b : List ℕ). AreFed (h.given ++ l.more) h.lines b) l.found.0.1 (fed_more h.given h.lines held_before l.more h.cut)

  few_now : length (h.given ++ l.more) ≤ input_limit
  few_now = omega (arith, l.counted, h.counted, length-append h.given l.more, l.found.1)

  met_now : Meets o.ended (h.given ++ l.more) h.lines (line_of input)
  met_now = met_at_line o.ended (h.given ++ l.more) h.lines (line_of input) l.found.0.0 (held input) cut_now l.one_line l.found.0.2 few_now

  bytes_now : Consumes old.source.left o.left (h.given ++ l.more)
  bytes_now = Consumes-trans old.source.left w.source.left o.left h.given l.more h.read l.taken

  -- it ends while the line is told
  told_end : (r : Stop) → TellsOf p (Err r) (line_of input) (number + 1) s e w.sink sink → IsPass p begun e (Err r) old now
  told_end r t =
      let ends : EndsLine t.whole = laws.ends (line_of input) (number + 1) s e t.out t.whole t.said in
      let not_input : ends_with_input (status_of (Err r)) ≡ false =
      not_with_input t.whole (Err r) t.told.taken (length t.out) w.sink.faults sink.faults ends t.told.outcome (λ same. absurd cc) in
      record {
        given = h.given ++ l.more;
        read = bytes_now;
        lines = h.lines ++ met_now.full ∷ met_now.behind;
        met = met_now.met;
        none_left = l.none_left;
        out = h.out ++ take t.told.taken t.out;
        written = Appends-trans old.sink.bytes w.sink.bytes sink.bytes h.out (take t.told.taken t.out) h.written t.told.written;
        ending = at_one record {
          before = h.lines;
          text = met_now.full;
          behind = met_now.behind;
          cut = refl;
          stood = s;
          told_before = h.out;
          passed = h.passed;
          final = t.out;
          whole = t.whole;
          said = of_full p laws (line_of input) met_now.full (length h.lines + 1) s e t.out t.whole met_now.same
              (subst (λ (n : ℕ). p.Says (line_of input) (n + 1) s e t.out t.whole) h.numbered t.said);
          taken = t.told.taken;
          told = taken_now t.told.outcome;
          stops = λ same. absurd cc;
          says = refl;
        };
        few = few_given (Err r) not_input few_now;
        read_fault = no_read_fault (Err r) not_input (l.found.2 ∙ h.no_read_fault);
        write_fault = write_fault_of t.whole (Err r) t.told.taken (length t.out) old.sink.faults sink.faults (line_unfailed t.whole ends) (taken_now t.told.outcome);
      }
    where
      -- the faults of the sink, counted from the start
      taken_now : IsTaken t.whole (Err r) t.told.taken (length t.out) w.sink.faults sink.faults → IsTaken t.whole (Err r) t.told.taken (length t.out) old.sink.faults sink.faults
      taken_now told = subst (λ (n : ℕ). IsTaken t.whole (Err r) t.told.taken (length t.out) n sink.faults) h.no_write_fault told

  -- or memory ran out before anything was done or told for it
  left_end : (r : Stop) → Leaves p (Err r) s e w.sink sink → IsPass p begun e (Err r) old now
  left_end r left =
      let not_input : ends_with_input (status_of (Err r)) ≡ false = ap (λ (x : End). ends_with_input (status_of x)) left.no_memory in
      record {
        given = h.given ++ l.more;
        read = bytes_now;
        lines = h.lines ++ met_now.full ∷ met_now.behind;
        met = met_now.met;
        none_left = l.none_left;
        out = h.out;
        written = subst (λ (v : SinkView). Appends old.sink.bytes v.bytes h.out) (sym left.untold) h.written;
        ending = before_one record {
          no_memory = left.no_memory;
          before = h.lines;
          behind = met_now.full ∷ met_now.behind;
          cut = refl;
          passed = subst (λ (x : p.Stand). Passed p begun h.lines x h.out) (sym left.stays) h.passed;
        };
        few = few_given (Err r) not_input few_now;
        read_fault = no_read_fault (Err r) not_input (l.found.2 ∙ h.no_read_fault);
        write_fault = inr ((λ same. apart left.no_memory same), ap (λ (v : SinkView). v.faults) left.untold ∙ h.no_write_fault);
      }
    where
      apart : stopped r ≡ Err stop.Memory → stopped r ≡ Err stop.WriteFault → ⊥
      apart a b = absurd cc

  at_line_end : (r : Stop) → TakesOne p (Err r) (line_of input) (number + 1) s e w.sink sink → IsPass p begun e (Err r) old now
  at_line_end r (inl told) = told_end r told
  at_line_end r (inr left) = left_end r left

  pub ended_at_line : (r : Stop) (result : End) → IsErrAnd result (λ t. t ≡ r) → TakesOne p (Err r) (line_of input) (number + 1) s e w.sink sink → IsPass p begun e result old now
  ended_at_line r result is takes = subst (λ (x : End). IsPass p begun e x old now) (sym (error_is result r is)) (at_line_end r takes)

  -- the lines so far, with this one
  module _ (t : WentOn p (line_of input) (number + 1) s e w.sink sink) where
    said_now : p.Says (line_of input) (length h.lines + 1) s e t.out goes_on
    said_now = subst (λ (n : ℕ). p.Says (line_of input) (n + 1) s e t.out goes_on) h.numbered t.said

    short_now : length (line_of input) ≤ line_limit
    short_now = laws.short (line_of input) (number + 1) s e t.out goes_on t.said refl

    passed_now : Passed p begun (h.lines ++ line_of input ∷ []) e (h.out ++ t.out)
    passed_now = passed_more h.lines s h.out h.passed (line_of input) e t.out said_now

    count_now : input.given ≡ length (h.given ++ l.more)
    count_now = omega (arith, l.counted, h.counted, length-append h.given l.more)

    written_now : Appends old.sink.bytes sink.bytes (h.out ++ t.out)
    written_now = Appends-trans old.sink.bytes w.sink.bytes sink.bytes h.out t.out h.written t.written

    longer_now : length (h.lines ++ line_of input ∷ []) ≡ number + 1
    longer_now = omega (arith, length-append h.lines (line_of input ∷ []), h.numbered)

    few_more : number + 1 + length (held input) ≤ input.given
    few_more =
        let bytes : length held_before + length l.more ≡ length l.found.0.0 + length (held input) =
        sym (length-append held_before l.more) ∙ (ap length l.found.0.1 ∙ length-append l.found.0.0 (held input)) in
        omega (arith, bytes, some_met o.ended (line_of input) l.found.0.0 (held input) l.found.0.2, h.few, l.counted)

    cut_more : IsCut o.ended (h.given ++ l.more) (h.lines ++ line_of input ∷ []) (held input)
    cut_more = cut_on o.ended (h.given ++ l.more) h.lines (line_of input) l.found.0.0 (held input) cut_now l.one_line l.found.0.2 short_now

    come_on : AreFed (h.given ++ l.more) (h.lines ++ line_of input ∷ []) (held input)
        → HasCome p begun e old now input.given (held input) (number + 1)
    come_on fed_so_far = record {
      given = h.given ++ l.more;
      read = bytes_now;
      counted = count_now;
      within = l.found.1;
      lines = h.lines ++ line_of input ∷ [];
      numbered = sym longer_now;
      cut = fed_so_far;
      few = few_more;
      out = h.out ++ t.out;
      written = written_now;
      passed = passed_now;
      no_read_fault = l.found.2 ∙ h.no_read_fault;
      no_write_fault = t.no_fault ∙ h.no_write_fault;
    }

    -- the source has not ended, or bytes are held
    pub comes_on : (o.ended ≡ true → held input ≡ [] → ⊥)
        → HasCome p begun e old now input.given (held input) (number + 1)
    comes_on either = by_cut cut_more
      where
        by_cut : IsCut o.ended (h.given ++ l.more) (h.lines ++ line_of input ∷ []) (held input) → HasCome p begun e old now input.given (held input) (number + 1)
        by_cut (inl fed_so_far) = come_on fed_so_far
        by_cut (inr last) = absurd (either last.at_end last.none_held)

    -- the source has ended, and no bytes are held
    pub finished_behind : o.ended ≡ true → held input ≡ [] → IsPass p begun e goes_on old now
    finished_behind ended none = record {
      given = h.given ++ l.more;
      read = bytes_now;
      lines = h.lines ++ line_of input ∷ [];
      met = by_cut cut_more;
      none_left = l.none_left;
      out = h.out ++ t.out;
      written = written_now;
      ending = ends_input passed_now (read_whole refl ended few_now (l.found.2 ∙ h.no_read_fault));
      few = inr ((λ same. absurd cc), few_now);
      read_fault = inr ((λ same. absurd cc), l.found.2 ∙ h.no_read_fault);
      write_fault = inr ((λ same. absurd cc), t.no_fault ∙ h.no_write_fault);
    }
      where
        by_cut : IsCut o.ended (h.given ++ l.more) (h.lines ++ line_of input ∷ []) (held input) → AreMet (h.given ++ l.more) o.ended (h.lines ++ line_of input ∷ [])
        by_cut (inl fed_so_far) =
            all_met o.ended (h.given ++ l.more) (h.lines ++ line_of input ∷ []) [] (subst (λ (b : List ℕ). AreFed (h.given ++ l.more) (h.lines ++ line_of input ∷ []) b) none fed_so_far) refl (omega arith) (inr refl) few_now
        by_cut (inr last) = met_at_end o.ended (h.given ++ l.more) (h.lines ++ line_of input ∷ []) (held input) last few_now

-- before the first line
pub at_first : (p : Pass) (begun : p.Stand) (w : Streams) (count : ℕ) (held : List ℕ) → count ≡ 0 → held ≡ [] → HasCome p begun begun w w count held 0
at_first p begun w count held none_given none_held =
    subst (λ (b : List ℕ). HasCome p begun begun w w count b 0) (sym none_held)
    (subst (λ (n : ℕ). HasCome p begun begun w w n [] 0) (sym none_given)
    record {
      given = [];
      read = Consumes-nil w.source.left;
      counted = refl;
      within = omega arith;
      lines = [];
      numbered = refl;
      cut = record { bytes = refl; each = tt };
      few = omega arith;
      out = [];
      written = Appends-nil w.sink.bytes;
      passed = passed_none;
      no_read_fault = refl;
      no_write_fault = refl;
    })
