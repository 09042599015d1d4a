-- Networks, as they are printed.
use Rattle.std.specs.Prelude.{ℕ, ◌==◌, Bool, if◌then◌else◌, List, [], ◌∷◌, ◌++◌, codes, flat_map, length, map}
use Rattle.std.specs.Fmt.{decimal}
use Rattle.networks.specs.declared.kind.Kind.{Kind}
use Rattle.networks.specs.declared.kind.Kind.TheVariants as kind
use Rattle.networks.specs.declared.network.Network.{Network}
use Rattle.policy_state.specs.View.{StateView}
use Rattle.word_text.specs.Texts.{line_feed, range_text}
use Rattle.word_text.specs.Grammar.{permission_text}
use Rattle.policy_state.specs.Rows.{is_default}
use Rattle.uid_ranges.specs.declared.ranked.Ranked.{Ranked}
use Rattle.report_text.specs.Links.{link_text}
use Rattle.report_text.specs.Lists.{listed}

-- the names of these links
abbrev pub names_text : StateView → List ℕ → List ℕ
names_text state links = listed (map (link_text state) links)

-- a rank other than 0
abbrev pub rank_text : ℕ → List ℕ
rank_text rank = if rank == 0 then [] else codes "@" ++ decimal rank

abbrev pub ranked_text : Ranked → List ℕ
ranked_text range = range_text range.users.first range.users.last ++ rank_text range.rank

abbrev pub ranges_text : List Ranked → List ℕ
ranges_text ranges = listed (map ranked_text ranges)

-- whether a VPN leaves its users no other way
abbrev pub security_text : Bool → List ℕ
security_text secure = if secure then codes "secure" else codes "bypassable"

abbrev pub default_text : Bool → List ℕ
default_text is_default = if is_default then codes " default" else []

-- the apps that a physical network is preferred for, where there are some
abbrev pub apps_text : List Ranked → List ℕ
apps_text [] = []
apps_text (range ∷ ranges) = codes " apps " ++ ranges_text (range ∷ ranges)

-- what a network is for, and whose it is
abbrev pub kind_text : Bool → Kind → List ℕ
kind_text is_default kind.Local = codes "local"
kind_text is_default (kind.Physical permission apps) = codes "physical " ++ permission_text permission ++ default_text is_default ++ apps_text apps
kind_text is_default (kind.Virtual secure users) = codes "virtual " ++ security_text secure ++ codes " users " ++ ranges_text users

abbrev pub network_text : StateView → Network → List ℕ
network_text state network =
    decimal network.id ++ codes " " ++ kind_text (is_default state.default network.id) network.kind ++ codes " interfaces " ++ names_text state network.interfaces

-- a line of a network
abbrev pub network_line : StateView → Network → List ℕ
network_line state network = codes "  " ++ network_text state network ++ line_feed ∷ []

-- how many networks there are, and each of them in its line, in the order of their creation
abbrev pub networks_text : StateView → List ℕ
networks_text state = decimal (length state.networks) ++ codes " networks" ++ line_feed ∷ [] ++ flat_map (network_line state) state.networks
