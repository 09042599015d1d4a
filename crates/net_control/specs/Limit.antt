-- The most entries that a journal may have.
use Rattle.std.specs.Prelude.{ℕ}

abbrev pub journal_limit : ℕ
journal_limit = 1000000
