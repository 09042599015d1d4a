-- The fields of a mark, after netd's Fwmark.h, by division and remainder of its word.
use Rattle.std.specs.Prelude.{◌≡◌, ℕ, ◌+◌, ◌*◌, ◌/◌, ◌%◌, ◌^◌, ◌==◌, Bool, if◌then◌else◌}
use Rattle.fwmark.specs.declared.mark.Mark.{Mark}

-- bits 0 to 15: the id of a network, or 0
abbrev pub net_of : ℕ → ℕ
net_of word = word % 2 ^ 16

-- bit 16: the network was selected explicitly
abbrev pub is_explicit : ℕ → Bool
is_explicit word = word / 2 ^ 16 % 2 == 1

-- bit 17: protected from virtual networks
abbrev pub is_protected : ℕ → Bool
is_protected word = word / 2 ^ 17 % 2 == 1

-- bits 18 and 19
abbrev pub permission_of_mark : ℕ → ℕ
permission_of_mark word = word / 2 ^ 18 % 4

-- both of them: the permission is system
abbrev pub has_system : ℕ → Bool
has_system word = permission_of_mark word == 3

-- bits 20 to 31, without meaning for routing
abbrev pub upper_of : ℕ → ℕ
upper_of word = word / 2 ^ 20

-- the mark has the fields of the word
pub record HasFieldsOf (word : ℕ) (mark : Mark) : Type 0 where
  pub net : mark.net ≡ net_of word
  pub explicit : mark.explicit ≡ is_explicit word
  pub guarded : mark.guarded ≡ is_protected word
  pub permission : mark.permission ≡ permission_of_mark word
  pub upper : mark.upper ≡ upper_of word

abbrev pub bit_of : Bool → ℕ
bit_of on = if on then 1 else 0

-- the word that has the fields of the mark
abbrev pub word_of : Mark → ℕ
word_of mark =
    mark.net + 2 ^ 16 * bit_of mark.explicit + 2 ^ 17 * bit_of mark.guarded
    + 2 ^ 18 * mark.permission + 2 ^ 20 * mark.upper
