-- The lines that are drawn: each by the generator's number from which its draws begin, in the order in which they stand here.
use Rattle.std.specs.Prelude.{ℕ, ◌+◌, ◌==◌, List, ◌++◌, codes, if◌then◌else◌}
use Rattle.std.specs.Fmt.{decimal}
use Rattle.script_gen.specs.Draws.{after_draw, drawn}
use Rattle.script_gen.specs.Words.{block_text, mark_words, pair_words, permission_words, subnet_text}

-- an interface with its network, and a prefix
abbrev pub route_text : List ℕ → ℕ → List ℕ
route_text verb x = verb ++ pair_words (drawn x 5) ++ subnet_text (drawn (after_draw x) 256) (codes ".0.0/16\n")

abbrev pub words_and_number : List ℕ → ℕ → List ℕ
words_and_number words n = words ++ decimal n ++ codes " "

-- a virtual network, and a block of users
abbrev pub users_text : List ℕ → ℕ → List ℕ
users_text verb x = words_and_number verb (200 + drawn x 2) ++ block_text (drawn (after_draw x) 50)

abbrev pub lockdown_text : List ℕ → ℕ → List ℕ
lockdown_text verb x = verb ++ block_text (drawn x 50)

-- a physical network
abbrev pub default_text : ℕ → List ℕ
default_text x = codes "default set " ++ decimal (100 + drawn x 2) ++ codes "\n"

-- a physical network, and a permission
abbrev pub permission_text : ℕ → List ℕ
permission_text x =
    words_and_number (codes "permission network ") (100 + drawn x 2) ++ permission_words (drawn (after_draw x) 3)

-- a user, a mark, and an address
abbrev pub packet_text : ℕ → List ℕ
packet_text x =
    words_and_number (codes "packet ") (10000 + drawn x 5000) ++ mark_words (drawn (after_draw x) 7)
    ++ subnet_text (drawn (after_draw (after_draw x)) 256) (codes ".0.1\n")

-- whether it goes or comes, and an interface with its network
abbrev pub interface_text : ℕ → List ℕ
interface_text x =
    (if drawn x 2 == 1 then codes "interface add " else codes "interface remove ") ++ pair_words (drawn (after_draw x) 5) ++ codes "\n"

-- the line of a form, and the generator's number after it
abbrev pub form_text : ℕ → ℕ → List ℕ
form_text form x =
    if form == 0 then route_text (codes "route add ") x
    else (if form == 1 then route_text (codes "route remove ") x
    else (if form == 2 then users_text (codes "users add ") x
    else (if form == 3 then users_text (codes "users remove ") x
    else (if form == 4 then lockdown_text (codes "lockdown add ") x
    else (if form == 5 then lockdown_text (codes "lockdown remove ") x
    else (if form == 6 then default_text x
    else (if form == 7 then permission_text x
    else (if form == 8 then packet_text x
    else interface_text x))))))))

abbrev pub form_after : ℕ → ℕ → ℕ
form_after form x =
    if form == 4 then after_draw x
    else (if form == 5 then after_draw x
    else (if form == 6 then after_draw x
    else (if form == 8 then after_draw (after_draw (after_draw x))
    else after_draw (after_draw x))))

-- a line begins with the draw of its form
abbrev pub line_text : ℕ → List ℕ
line_text x = form_text (drawn x 10) (after_draw x)

abbrev pub line_after : ℕ → ℕ
line_after x = form_after (drawn x 10) (after_draw x)
