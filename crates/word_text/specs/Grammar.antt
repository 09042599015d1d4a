-- What stands in the place of a word, and which texts spell it.
use Rattle.std.specs.Prelude.{◌≡◌, ℕ, ◌≤◌, ◌||◌, Bool, true, false, List, [], ◌∷◌, ◌++◌, codes, length}
use Rattle.addr_text.specs.Grammar.{Spells as SpellsAddr, SpellsPrefix}
use Rattle.fwmark.specs.declared.permission.Permission.{Permission}
use Rattle.fwmark.specs.declared.permission.Permission.TheVariants.{Nothing, Network, System}
use Rattle.net_names.specs.Name.{is_name}
use Rattle.number_text.specs.Numbers.{SpellsDecimal, SpellsHexadecimal}
use Rattle.prefixes.specs.declared.addr.Addr.{Addr}
use Rattle.prefixes.specs.declared.prefix.Prefix.{Prefix}
use Rattle.uid_ranges.specs.declared.range.Uid.{Uid}
use Rattle.uid_ranges.specs.declared.range.UidRange.{UidRange}

-- what a decimal number is for: the index of a link, the id of a network, the rank of ranges, or the number of a table
pub data Count : Type 0 where
  index : Count
  net : Count
  rank : Count
  table : Count

-- the numbers of each
abbrev pub Counts : Count → ℕ → Type 0
Counts index number = (2 ≤ number) × (number ≤ 65535)
Counts net number = number ≤ 65535
Counts rank number = number ≤ 99
Counts table number = number ≤ 4294967295

-- what a name is for: the link of a line, or what else a line with two names names
pub data Named : Type 0 where
  link : Named
  other : Named

-- What a word says, told apart by what it is for.
pub data What : Type 0 where
  count : Count → What
  named : Named → What
  permission : What
  uid : What
  mark : What
  range : What
  ranges : What
  addr : What
  prefix : What

abbrev pub Meant : What → Type 0
Meant (count what) = ℕ
Meant (named what) = List ℕ
Meant permission = Permission
Meant uid = Uid
Meant mark = ℕ
Meant range = UidRange
Meant ranges = List UidRange
Meant addr = Addr
Meant prefix = Prefix

-- the word of a permission
abbrev pub permission_text : Permission → List ℕ
permission_text Nothing = codes "none"
permission_text Network = codes "network"
permission_text System = codes "system"

-- a decimal number from 0 to 4294967294
abbrev pub SpellsUid : List ℕ → Uid → Type 0
SpellsUid text user = SpellsDecimal text user.number × (user.number ≤ 4294967294)

abbrev pub dash : ℕ
dash = 45

-- two UIDs with '-' between them, the first not above the second
pub record SpellsRange (text : List ℕ) (users : UidRange) : Type 0 where
  pub first_text : List ℕ
  pub last_text : List ℕ
  pub cut : text ≡ first_text ++ dash ∷ last_text
  pub first : SpellsUid first_text users.first
  pub last : SpellsUid last_text users.last
  pub ordered : users.first.number ≤ users.last.number

abbrev pub comma : ℕ
comma = 44

-- one range or more, with ',' between each two
abbrev pub SpellsRanges : List ℕ → List UidRange → Type 0
SpellsRanges text [] = ⊥
SpellsRanges text (users ∷ []) = SpellsRange text users
SpellsRanges text (users ∷ next ∷ more) = (one : List ℕ) × (others : List ℕ)
    × (text ≡ one ++ comma ∷ others) × SpellsRange one users × SpellsRanges others (next ∷ more)

-- '0x' and 1 to 8 hexadecimal digits in lower case, with no leading zero other than the number 0 itself
pub record SpellsMark (text : List ℕ) (word : ℕ) : Type 0 where
  pub digits : List ℕ
  pub cut : text ≡ codes "0x" ++ digits
  pub number : SpellsHexadecimal digits word
  pub few : length digits ≤ 8

-- the word says this
abbrev pub SpellsOut : (what : What) → Meant what → List ℕ → Type 0
SpellsOut (count what) value text = SpellsDecimal text value × Counts what value
SpellsOut (named what) value text = (text ≡ value) × (is_name value ≡ true)
SpellsOut permission value text = text ≡ permission_text value
SpellsOut uid value text = SpellsUid text value
SpellsOut mark value text = SpellsMark text value
SpellsOut range value text = SpellsRange text value
SpellsOut ranges value text = SpellsRanges text value
SpellsOut addr value text = SpellsAddr text value
SpellsOut prefix value text = SpellsPrefix text value

-- a word of a form: this very text, or a value
pub data Kind : Type 0 where
  literal : List ℕ → Kind
  valued : What → Kind

abbrev pub ValueOf : Kind → Type 0
ValueOf (literal text) = Unit {0}
ValueOf (valued what) = Meant what

-- the word is spelled so
abbrev pub IsSpelled : (kind : Kind) → ValueOf kind → List ℕ → Type 0
IsSpelled (literal word) value text = text ≡ word
IsSpelled (valued what) value text = SpellsOut what value text

-- the word is one of this kind
abbrev pub Fits : Kind → List ℕ → Type 0
Fits kind text = (value : ValueOf kind) × IsSpelled kind value text

-- a value for each word
abbrev pub Values : List Kind → Type 0
Values [] = Unit {0}
Values (kind ∷ kinds) = ValueOf kind × Values kinds

-- these words are spelled so, one by one
abbrev pub AreSpelled : (kinds : List Kind) → Values kinds → List (List ℕ) → Type 0
AreSpelled [] values [] = Unit {0}
AreSpelled [] values (text ∷ texts) = ⊥
AreSpelled (kind ∷ kinds) values [] = ⊥
AreSpelled (kind ∷ kinds) values (text ∷ texts) = IsSpelled kind values.0 text × AreSpelled kinds values.1 texts

-- the words are of these kinds, one by one
abbrev pub AreOf : List Kind → List (List ℕ) → Type 0
AreOf kinds texts = (values : Values kinds) × AreSpelled kinds values texts

abbrev pub is_ranges : What → Bool
is_ranges ranges = true
is_ranges _ = false

abbrev pub is_list : Kind → Bool
is_list (literal text) = false
is_list (valued what) = is_ranges what

-- some word is a list
abbrev pub has_list : List Kind → Bool
has_list [] = false
has_list (kind ∷ kinds) = is_list kind || has_list kinds
