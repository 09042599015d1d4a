-- A table of links that finds them by name and by index.
use Rattle.std.specs.Prelude.{◌≡◌, ℕ, ◌-◌, List, true, min, nat_eq, vec_len, vec_capacity}
use Rattle.std.specs.Map.{lookup}
use Rattle.std.specs.Str.{bytes_eq}
use Rattle.std.specs.declared.vec.Vec.{Vec}
use Rattle.indexmap.specs.IndexMap.{IndexMap, spare}
use Rattle.link_table.specs.Links.{index_of, name_of, are_apart}
use Rattle.link_table.specs.declared.link.Link.{Link}

pub record LinkTableView : Type 0 where
  pub links : List Link
  -- how many links may be added without memory
  pub room : ℕ

-- the least of what is left in the list and in both maps
abbrev pub room_of : {A S T : Type 0} → Vec Link A → IndexMap (List ℕ) ℕ S → IndexMap ℕ (List ℕ) T → ℕ
room_of links names indices = min (vec_capacity links - vec_len links) (min (spare names) (spare indices))

-- the maps answer what a search of the list would
pub record AreIndexed (links : List Link) (names : List (List ℕ × ℕ)) (indices : List (ℕ × List ℕ)) : Type 0 where
  pub by_name : (name : List ℕ) → lookup (bytes_eq name) names ≡ index_of name links
  pub by_index : (index : ℕ) → lookup (nat_eq index) indices ≡ name_of index links
  pub apart : are_apart links ≡ true
