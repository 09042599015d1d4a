use Rattle.word_text.specs.Grammar.{addr, count, index, link, mark, named, net, other, permission, prefix, range, rank, table, uid}
use Rattle.word_text.proofs.Fitting.{fits_where}
use Rattle.word_text.proofs.kind.Kind.fits.Goals as goal

pub returns-in-Name : goal.returns-in-Name
returns-in-Name c = rw c.in-Name.is (fits_where (named link) _ c.read_name.result c.is_some.result c.read_name.ensures c.is_some.ensures)

pub returns-in-Other : goal.returns-in-Other
returns-in-Other c = rw c.in-Other.is (fits_where (named other) _ c.read_name-in-Other.result c.is_some-in-Other.result c.read_name-in-Other.ensures c.is_some-in-Other.ensures)

pub returns-in-Index : goal.returns-in-Index
returns-in-Index c = rw c.in-Index.is (fits_where (count index) _ c.read_index.result c.is_some-in-Index.result c.read_index.ensures c.is_some-in-Index.ensures)

pub returns-in-Net : goal.returns-in-Net
returns-in-Net c = rw c.in-Net.is (fits_where (count net) _ c.read_net.result c.is_some-in-Net.result c.read_net.ensures c.is_some-in-Net.ensures)

pub returns-in-Rank : goal.returns-in-Rank
returns-in-Rank c = rw c.in-Rank.is (fits_where (count rank) _ c.read_rank.result c.is_some-in-Rank.result c.read_rank.ensures c.is_some-in-Rank.ensures)

pub returns-in-Table : goal.returns-in-Table
returns-in-Table c = rw c.in-Table.is (fits_where (count table) _ c.read_table.result c.is_some-in-Table.result c.read_table.ensures c.is_some-in-Table.ensures)

pub returns-in-Permission : goal.returns-in-Permission
returns-in-Permission c = rw c.in-Permission.is (fits_where permission _ c.read_permission.result c.is_some-in-Permission.result c.read_permission.ensures c.is_some-in-Permission.ensures)

pub returns-in-Uid : goal.returns-in-Uid
returns-in-Uid c = rw c.in-Uid.is (fits_where uid _ c.read_uid.result c.is_some-in-Uid.result c.read_uid.ensures c.is_some-in-Uid.ensures)

pub returns-in-Mark : goal.returns-in-Mark
returns-in-Mark c = rw c.in-Mark.is (fits_where mark _ c.read_mark.result c.is_some-in-Mark.result c.read_mark.ensures c.is_some-in-Mark.ensures)

pub returns-in-Range : goal.returns-in-Range
returns-in-Range c = rw c.in-Range.is (fits_where range _ c.read_range.result c.is_some-in-Range.result c.read_range.ensures c.is_some-in-Range.ensures)

pub returns-in-Addr : goal.returns-in-Addr
returns-in-Addr c = rw c.in-Addr.is (fits_where addr _ c.read_address.result c.is_some-in-Addr.result c.read_address.ensures c.is_some-in-Addr.ensures)

pub returns-in-Prefix : goal.returns-in-Prefix
returns-in-Prefix c = rw c.in-Prefix.is (fits_where prefix _ c.read_destination.result c.is_some-in-Prefix.result c.read_destination.ensures c.is_some-in-Prefix.ensures)

pub returns-in-Ranges : goal.returns-in-Ranges
returns-in-Ranges c = rw c.in-Ranges.is c.are_ranges.ensures
