-- The bytes of a text.
use Rattle.std.proofs.Common.{◌≡◌, ℕ, ◌+◌, ◌<◌, ◌≤◌, true, false, suc, List, ◌++◌, length, take, drop, get_or, sym, ap, ◌∙◌, arith, drop-cons}
use Rattle.std.proofs.lemmas.List.{length-take-le, take-append-drop}
use Rattle.std.specs.List.{list_all}
use Rattle.script_reader.specs.BadLines.{HasBadByte}
use Rattle.script_reader.specs.Lines.{is_printable, line_limit}

pub bad_byte_at : (text : List ℕ) (place : ℕ) → length text ≤ line_limit → place < length text →
    list_all is_printable (take place text) ≡ true → is_printable (get_or text place 0) ≡ false → HasBadByte text (place + 1)
bad_byte_at text place short within printable bad = record {
  short = short;
  before = take place text;
  byte = get_or text place 0;
  behind = drop (suc place) text;
  cut = sym (take-append-drop place text) ∙ ap (λ (xs : List ℕ). take place text ++ xs) (drop-cons text place 0 within);
  printable = printable;
  bad = bad;
  place = ap (λ (n : ℕ). n + 1) (sym (length-take-le place text (omega arith)));
}
