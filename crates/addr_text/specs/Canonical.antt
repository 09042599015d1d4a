-- The one text that is written for an address or a prefix.
use Rattle.std.specs.Prelude.{ℕ, zero, suc, ◌+◌, ◌/◌, ◌%◌, nat_lt, nat_le, if◌then◌else◌, List, [], ◌∷◌, ◌++◌, drop, map, take}
use Rattle.std.specs.Fmt.{decimal}
use Rattle.std.specs.List.{join_with_byte}
use Rattle.number_text.specs.Numbers.{hexadecimal}
use Rattle.prefixes.specs.declared.addr.Addr.{Addr}
use Rattle.prefixes.specs.declared.addr.Addr.TheVariants as addr
use Rattle.prefixes.specs.declared.prefix.Prefix.{Prefix}
use Rattle.addr_text.specs.Grammar.{colon, dot, slash}
use Rattle.addr_text.specs.declared.run.Run.{Run}

-- so many digits of the number in the base, the highest first
abbrev pub parts_of : ℕ → ℕ → ℕ → List ℕ
parts_of base zero n = []
parts_of base (suc count) n = parts_of base count (n / base) ++ n % base ∷ []

abbrev pub octets_of : ℕ → List ℕ
octets_of value = parts_of 256 4 value

abbrev pub groups_of : ℕ → List ℕ
groups_of value = parts_of 65536 8 value

-- the texts of these values, with the byte between each two
abbrev pub row_text : (ℕ → List ℕ) → ℕ → List ℕ → List ℕ
row_text text_of byte values = join_with_byte byte (map text_of values)

-- how many zeros the list begins with
abbrev pub zeros_of : List ℕ → ℕ
zeros_of [] = 0
zeros_of (zero ∷ groups) = suc (zeros_of groups)
zeros_of (suc group ∷ groups) = 0

-- the longer of a run at the front and one after the first group, the former where they are equally long
abbrev pub longer_run : ℕ → Run → Run
longer_run zeros other = if nat_le other.len zeros
    then record { start = 0; len = zeros }
    else record { start = other.start + 1; len = other.len }

-- the longest run of zeros, the first of equally long ones
abbrev pub longest_run : List ℕ → Run
longest_run [] = record { start = 0; len = 0 }
longest_run (group ∷ groups) = longer_run (zeros_of (group ∷ groups)) (longest_run groups)

-- '::' stands for this run
abbrev pub shortened_by : Run → List ℕ → List ℕ
shortened_by run groups = row_text hexadecimal colon (take run.start groups)
    ++ colon ∷ colon ∷ row_text hexadecimal colon (drop (run.start + run.len) groups)

-- RFC 5952, 4: groups in lower case without leading zeros, and '::' for the longest run of at least two
-- zero groups
abbrev pub groups_text : List ℕ → List ℕ
groups_text groups = if nat_lt (longest_run groups).len 2
    then row_text hexadecimal colon groups
    else shortened_by (longest_run groups) groups

-- the text of an address
abbrev pub canonical : Addr → List ℕ
canonical (addr.V4 value) = row_text decimal dot (octets_of value)
canonical (addr.V6 value) = groups_text (groups_of value)

-- the text of a prefix
abbrev pub canonical_prefix : Prefix → List ℕ
canonical_prefix prefix = canonical prefix.base ++ slash ∷ decimal prefix.len
