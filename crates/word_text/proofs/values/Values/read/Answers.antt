use Rattle.std.proofs.Common.{refl, rules}
use Rattle.word_text.proofs.values.Values.read.Goals as goal

pub returns-in_ok-self-in-Name : goal.returns-in_ok-self-in-Name
returns-in_ok-self-in-Name c = rw c.in-Name.is (c.in_ok-self-in-Name.field-0, c.in_ok-self-in-Name.ensures, refl)

pub returns-in_ok-self-in-Other : goal.returns-in_ok-self-in-Other
returns-in_ok-self-in-Other c = rw c.in-Other.is (c.in_ok-self-in-Other.field-0, c.in_ok-self-in-Other.ensures, refl)

pub returns-in_ok-self-in-Index : goal.returns-in_ok-self-in-Index
returns-in_ok-self-in-Index c = rw c.in-Index.is (c.in_ok-self-in-Index.field-0, c.in_ok-self-in-Index.ensures, refl)

pub returns-in_ok-self-in-Net : goal.returns-in_ok-self-in-Net
returns-in_ok-self-in-Net c = rw c.in-Net.is (c.in_ok-self-in-Net.field-0, c.in_ok-self-in-Net.ensures, refl)

pub returns-in_ok-self-in-Rank : goal.returns-in_ok-self-in-Rank
returns-in_ok-self-in-Rank c = rw c.in-Rank.is (c.in_ok-self-in-Rank.field-0, c.in_ok-self-in-Rank.ensures, refl)

pub returns-in_ok-self-in-Table : goal.returns-in_ok-self-in-Table
returns-in_ok-self-in-Table c = rw c.in-Table.is (c.in_ok-self-in-Table.field-0, c.in_ok-self-in-Table.ensures, refl)

pub returns-in_ok-self-in-Permission : goal.returns-in_ok-self-in-Permission
returns-in_ok-self-in-Permission c = rw c.in-Permission.is (c.in_ok-self-in-Permission.field-0, c.in_ok-self-in-Permission.ensures, refl)

pub returns-in_ok-self-in-Uid : goal.returns-in_ok-self-in-Uid
returns-in_ok-self-in-Uid c = rw c.in-Uid.is (c.in_ok-self-in-Uid.field-0, c.in_ok-self-in-Uid.ensures, refl)

pub returns-in_ok-self-in-Mark : goal.returns-in_ok-self-in-Mark
returns-in_ok-self-in-Mark c = rw c.in-Mark.is (c.in_ok-self-in-Mark.field-0, c.in_ok-self-in-Mark.ensures, refl)

pub returns-in_ok-self-in-Range : goal.returns-in_ok-self-in-Range
returns-in_ok-self-in-Range c = rw c.in-Range.is (c.in_ok-self-in-Range.field-0, c.in_ok-self-in-Range.ensures, refl)

pub returns-in_ok-self-in-Addr : goal.returns-in_ok-self-in-Addr
returns-in_ok-self-in-Addr c = rw c.in-Addr.is (c.in_ok-self-in-Addr.field-0, c.in_ok-self-in-Addr.ensures, refl)

pub returns-in_ok-self-in-Prefix : goal.returns-in_ok-self-in-Prefix
returns-in_ok-self-in-Prefix c = rw c.in-Prefix.is (c.in_ok-self-in-Prefix.field-0, c.in_ok-self-in-Prefix.ensures, refl)

pub returns-in_err-self-in-Uid : goal.returns-in_err-self-in-Uid
returns-in_err-self-in-Uid c = rw (c.in-Uid.is, c.from_residual-in_err-self-in-Uid.ensures) c.in_err-self-in-Uid.ensures

pub returns-else-not-are_ranges : goal.returns-else-not-are_ranges
returns-else-not-are_ranges c = let yes = c.are_ranges.ensures.0 (search rules) in rw c.in-Ranges.is (yes.0, yes.1, refl)
