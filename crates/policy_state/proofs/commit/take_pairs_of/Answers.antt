use Rattle.std.proofs.Common.{◌≡◌, ◌∙◌, false, List, [], ◌∷◌, Some, None, filter, ap, not, refl, rules}
use Rattle.std.specs.Prelude.{Option}
use Rattle.std.proofs.lemmas.Fn.{filter_same}
use Rattle.network_store.specs.Stored.{net_of}
use Rattle.networks.specs.Network.{has_link}
use Rattle.policy_state.specs.View.{Network, TetherPair}
use Rattle.policy_state.proofs.commit.take_pairs_of.Goals as goal

-- the pairs that don't go out by an interface of the network
abbrev left : Option Network → List TetherPair → List TetherPair
left found pairs = filter (λ p. not (elim found [ Some n ↦ has_link n p.out | None ↦ false ])) pairs

all_stay : (pairs : List TetherPair) → pairs ≡ left None pairs
all_stay [] = refl
all_stay (p ∷ ps) = ap (λ rest. p ∷ rest) (all_stay ps)

pub returns-in_default : goal.returns-in_default
returns-in_default c = all_stay c.args.pairs.now.items ∙ ap (λ found. left found c.args.pairs.now.items) c.in_default.ensures

pub returns : goal.returns
returns c =
    filter_same _ (λ p. not (has_link (net_of c.in-Some.network.now) p.out)) _ (λ x b f' k. search rules) c.args.pairs.now.items c.retain.new.self.items c.retain.ensures.filtered
    ∙ ap (λ found. left found c.args.pairs.now.items) c.in-Some.ensures
