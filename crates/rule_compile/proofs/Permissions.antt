-- A permission shows in the mask of what is selected by it.
use Rattle.std.proofs.Common.{◌≡◌, ◌≤◌, ℕ, Bool, true, Option, Some, None, refl, arith}
use Rattle.std.proofs.lemmas.Bool.{false≢true}
use Rattle.fwmark.specs.Permission.{bits_of}
use Rattle.fwmark.specs.Selection.{Selection, mask_of, net_mask, flag_mask}
use Rattle.fwmark.specs.declared.permission.Permission.{Permission}
use Rattle.fwmark.specs.declared.permission.Permission.TheVariants as needs
use Rattle.policy_state.specs.Table.{needed}
use Rattle.policy_state.specs.declared.row.Selector.{Selector}
use Rattle.policy_state.specs.declared.row.Selector.TheVariants.{Unstated, OfItem, OfRow}
use Rattle.policy_state.proofs.RowTests.{is_own}

pub same_bits : (p q : Permission) → bits_of p ≡ bits_of q → p ≡ q
same_bits needs.Nothing needs.Nothing e = refl
same_bits needs.Nothing needs.Network e = absurd (omega (arith, e))
same_bits needs.Nothing needs.System e = absurd (omega (arith, e))
same_bits needs.Network needs.Nothing e = absurd (omega (arith, e))
same_bits needs.Network needs.Network e = refl
same_bits needs.Network needs.System e = absurd (omega (arith, e))
same_bits needs.System needs.Nothing e = absurd (omega (arith, e))
same_bits needs.System needs.Network e = absurd (omega (arith, e))
same_bits needs.System needs.System e = refl

net_mask-below : (n : Option ℕ) → net_mask n ≤ 0xffff
net_mask-below None = omega arith
net_mask-below (Some n) = omega arith

flag_mask-below : (f : Option Bool) → flag_mask f ≤ 1
flag_mask-below None = omega arith
flag_mask-below (Some b) = omega arith

-- the permission is the highest field of the mask
pub mask-bits : (m n : Selection) → mask_of m ≡ mask_of n → bits_of m.permission ≡ bits_of n.permission
mask-bits m n e =
    omega (arith, e, net_mask-below m.net, net_mask-below n.net, flag_mask-below m.explicit, flag_mask-below n.explicit, flag_mask-below m.guarded, flag_mask-below n.guarded)

pub own-needed : (f : Selector Permission) (x : Permission) → is_own f ≡ true → needed f x ≡ x
own-needed Unstated x h = absurd (false≢true h)
own-needed OfItem x h = refl
own-needed (OfRow value) x h = absurd (false≢true h)
