-- Which marks a rule's value and mask select, said by fields.
use Rattle.std.specs.Prelude.{ℕ, ◌+◌, ◌*◌, ◌==◌, ◌&&◌, Bool, true, false, not, Option, None, Some}
use Rattle.fwmark.specs.declared.permission.Permission.{Permission}
use Rattle.fwmark.specs.Permission.{bits_of, suffices}
use Rattle.fwmark.specs.Mark.{net_of, is_explicit, is_protected, permission_of_mark}

-- the network and the flags that a mark must have, each where it is stated, and the permission that it must suffice for
pub record Selection : Type 0 where
  pub net : Option ℕ
  pub explicit : Option Bool
  pub guarded : Option Bool
  pub permission : Permission

abbrev pub is_stated : Option Bool → Bool → Bool
is_stated None flag = true
is_stated (Some true) flag = flag
is_stated (Some false) flag = not flag

abbrev pub is_net : Option ℕ → ℕ → Bool
is_net None net = true
is_net (Some stated) net = net == stated

-- the word is a mark that the rule selects
abbrev pub selects : Selection → ℕ → Bool
selects rule word =
    suffices (permission_of_mark word) rule.permission && is_stated rule.guarded (is_protected word)
    && is_stated rule.explicit (is_explicit word) && is_net rule.net (net_of word)

abbrev pub flag_mask : Option Bool → ℕ
flag_mask None = 0
flag_mask (Some flag) = 1

abbrev pub flag_value : Option Bool → ℕ
flag_value None = 0
flag_value (Some true) = 1
flag_value (Some false) = 0

abbrev pub net_mask : Option ℕ → ℕ
net_mask None = 0
net_mask (Some net) = 0xffff

abbrev pub net_value : Option ℕ → ℕ
net_value None = 0
net_value (Some net) = net

abbrev pub mask_of : Selection → ℕ
mask_of rule = net_mask rule.net + 0x10000 * flag_mask rule.explicit + 0x20000 * flag_mask rule.guarded + 0x40000 * bits_of rule.permission

abbrev pub value_of : Selection → ℕ
value_of rule = net_value rule.net + 0x10000 * flag_value rule.explicit + 0x20000 * flag_value rule.guarded + 0x40000 * bits_of rule.permission
