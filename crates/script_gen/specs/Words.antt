-- The words of a made script, by the numbers that are drawn for them.
use Rattle.std.specs.Prelude.{ℕ, ◌+◌, ◌*◌, ◌==◌, List, ◌++◌, codes, if◌then◌else◌}
use Rattle.std.specs.Fmt.{decimal}

-- an interface of the first lines with its network
abbrev pub pair_words : ℕ → List ℕ
pair_words n =
    if n == 0 then codes "100 w0" else (if n == 1 then codes "101 w1" else (if n == 2 then codes "99 w2"
    else (if n == 3 then codes "200 t0" else codes "201 t1")))

-- a permission, and a line feed
abbrev pub permission_words : ℕ → List ℕ
permission_words n = if n == 0 then codes "none\n" else (if n == 1 then codes "network\n" else codes "system\n")

-- no network; the four of the first lines; one of them explicitly; protected
abbrev pub mark_words : ℕ → List ℕ
mark_words n =
    if n == 0 then codes "0x0" else (if n == 1 then codes "0x64" else (if n == 2 then codes "0x65"
    else (if n == 3 then codes "0xc8" else (if n == 4 then codes "0xc9" else (if n == 5 then codes "0x10064" else codes "0x20000")))))

-- an address within 10.0.0.0/8, and what follows its second octet
abbrev pub subnet_text : ℕ → List ℕ → List ℕ
subnet_text octet ending = codes " 10." ++ decimal octet ++ ending

-- a hundred users from 10000 + 100 n on, and a line feed
abbrev pub block_text : ℕ → List ℕ
block_text n = decimal (10000 + 100 * n) ++ codes "-" ++ decimal (10000 + 100 * n + 99) ++ codes "\n"
