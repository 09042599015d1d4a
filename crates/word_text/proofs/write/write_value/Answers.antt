use Rattle.std.proofs.Common.{rules}
use Rattle.word_text.proofs.write.write_value.Goals as goal

pub returns-in-Name : goal.returns-in-Name
returns-in-Name c = rw c.in-Name.is (search rules)

pub returns-in-Other : goal.returns-in-Other
returns-in-Other c = rw c.in-Other.is (search rules)

pub returns-in-Index : goal.returns-in-Index
returns-in-Index c = rw c.in-Index.is (search rules)

pub returns-in-Net : goal.returns-in-Net
returns-in-Net c = rw c.in-Net.is (search rules)

pub returns-in-Rank : goal.returns-in-Rank
returns-in-Rank c = rw c.in-Rank.is (search rules)

pub returns-in-Table : goal.returns-in-Table
returns-in-Table c = rw c.in-Table.is (search rules)

pub returns-in-Permission : goal.returns-in-Permission
returns-in-Permission c = rw c.in-Permission.is (search rules)

pub returns-in-Uid : goal.returns-in-Uid
returns-in-Uid c = rw c.in-Uid.is (search rules)

pub returns-in-Mark : goal.returns-in-Mark
returns-in-Mark c = rw c.in-Mark.is (search rules)

pub returns-in-Range : goal.returns-in-Range
returns-in-Range c = rw c.in-Range.is (search rules)

pub returns-in-Ranges : goal.returns-in-Ranges
returns-in-Ranges c = rw c.in-Ranges.is (search rules)

pub returns-in-Addr : goal.returns-in-Addr
returns-in-Addr c = rw c.in-Addr.is (search rules)

pub returns-in-Prefix : goal.returns-in-Prefix
returns-in-Prefix c = rw c.in-Prefix.is (search rules)
