-- A mark as its fields, each of which may be changed by itself.
use Rattle.std.specs.Prelude.{ℕ, ◌+◌, ◌*◌, ◌^◌, Bool}
use Rattle.fwmark.specs.Mark.{net_of, is_explicit, is_protected, permission_of_mark, upper_of, bit_of}

pub record Fields : Type 0 where
  pub net : ℕ
  pub explicit : Bool
  -- protected from VPNs
  pub guarded : Bool
  pub permission : ℕ
  -- bits 20 to 31, which no call changes
  pub upper : ℕ

abbrev pub fields_of : ℕ → Fields
fields_of word = record {
  net = net_of word;
  explicit = is_explicit word;
  guarded = is_protected word;
  permission = permission_of_mark word;
  upper = upper_of word;
}

-- the word that has these fields
abbrev pub word_of : Fields → ℕ
word_of f = f.net + 2 ^ 16 * bit_of f.explicit + 2 ^ 17 * bit_of f.guarded + 2 ^ 18 * f.permission + 2 ^ 20 * f.upper
