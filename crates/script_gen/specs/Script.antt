-- A script made from a seed.
use Rattle.std.specs.Prelude.{ℕ, zero, suc, List, [], ◌++◌, codes}
use Rattle.script_gen.specs.Lines.{line_after, line_text}

-- three links of physical and two of virtual networks
abbrev pub first_lines : List ℕ
first_lines = codes "link add w0 2\nlink add w1 3\nlink add w2 4\nlink add t0 5\nlink add t1 6\n"
    ++ codes "network create 100 physical none\nnetwork create 101 physical network\n"
    ++ codes "network create 200 virtual secure\nnetwork create 201 virtual bypassable\n"
    ++ codes "interface add 100 w0\ninterface add 101 w1\ninterface add 99 w2\ninterface add 200 t0\ninterface add 201 t1\n"
    ++ codes "default set 100\n"

-- so many lines, the first of which is drawn from this number
abbrev pub lines_from : ℕ → ℕ → List ℕ
lines_from x zero = []
lines_from x (suc n) = line_text x ++ lines_from (line_after x) n

abbrev pub script_text : ℕ → ℕ → List ℕ
script_text seed count = first_lines ++ lines_from seed count
