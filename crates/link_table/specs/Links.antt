-- Links by their names and their indices, each of which only one link has, as `ip link` shows them.
use Rattle.std.specs.Prelude.{ℕ, ◌==◌, ◌||◌, Bool, not, List, [], ◌∷◌, Option, codes}
use Rattle.std.specs.List.{list_any, find}
use Rattle.std.specs.Option.{option_map}
use Rattle.std.specs.Str.{bytes_eq}
use Rattle.list_lemmas.specs.Pairwise.{pairwise}
use Rattle.link_table.specs.declared.link.Link.{Link}

-- the index of the link of this name
abbrev pub index_of : List ℕ → List Link → Option ℕ
index_of name links = option_map (λ l. l.index) (find (λ l. bytes_eq l.name name) links)

-- the name of the link of this index
abbrev pub name_of : ℕ → List Link → Option (List ℕ)
name_of index links = option_map (λ l. l.name) (find (λ l. l.index == index) links)

-- a link has the name or the index
abbrev pub is_taken : List ℕ → ℕ → List Link → Bool
is_taken name index links = list_any (λ l. bytes_eq l.name name || l.index == index) links

-- the two links have one name or one index
abbrev pub clash : Link → Link → Bool
clash a b = bytes_eq a.name b.name || a.index == b.index

-- no two links have one name or one index
abbrev pub are_apart : List Link → Bool
are_apart links = pairwise (λ a b. not (clash a b)) links

-- the loopback link, which a device has from the start
abbrev pub lo_alone : List Link
lo_alone = record { name = codes "lo"; index = 1 } ∷ []
