-- The kinds of words by short names, for the rows of a language.
use Rattle.std.specs.Prelude.{ℕ, List}
use Rattle.word_text.specs.Grammar as of

abbrev pub word : List ℕ → of.Kind
word text = of.literal text

abbrev pub link : of.Kind
link = of.valued (of.named of.link)

abbrev pub other : of.Kind
other = of.valued (of.named of.other)

abbrev pub index : of.Kind
index = of.valued (of.count of.index)

abbrev pub net : of.Kind
net = of.valued (of.count of.net)

abbrev pub rank : of.Kind
rank = of.valued (of.count of.rank)

abbrev pub table : of.Kind
table = of.valued (of.count of.table)

abbrev pub permission : of.Kind
permission = of.valued of.permission

abbrev pub uid : of.Kind
uid = of.valued of.uid

abbrev pub mark : of.Kind
mark = of.valued of.mark

abbrev pub range : of.Kind
range = of.valued of.range

abbrev pub ranges : of.Kind
ranges = of.valued of.ranges

abbrev pub addr : of.Kind
addr = of.valued of.addr

abbrev pub prefix : of.Kind
prefix = of.valued of.prefix
