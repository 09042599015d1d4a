-- The first state is good; and so is one that has something for each row, which shows that the conditions can be met.
use Rattle.std.proofs.Common.{[], refl, lit≤, arith}
use Rattle.policy_state.specs.Counts.{rule_count}
use Rattle.policy_state.specs.Good.{IsWellFormed, IsGood}
use Rattle.policy_state.specs.View.{start}
use Rattle.networks.specs.Network.{local_network}

pub formed-start : IsWellFormed start
formed-start = record {
  links = record { others = []; loopback_first = refl; from_two = tt; names_distinct = refl; indices_distinct = refl; few = omega arith };
  networks = record {
    each = (
      record {
        id_above = omega arith;
        id_fits = omega arith;
        interfaces_differ = refl;
        interfaces_above = refl;
        few_interfaces = omega arith;
        ranked = refl;
        few_ranges = omega arith;
        routes_belong = tt;
        keys_distinct = λ link. refl;
        few_routes = λ link. omega arith;
      },
      tt,
    );
    differ = refl;
    local_first = record { local = local_network; others = []; first = refl; is_local = refl; id_is = refl; by_link = refl; few_routes = omega arith; others_created = refl };
    few = omega arith;
  };
  interfaces = refl;
  users = record { permissions_differ = refl; few_permissions = omega arith; protectable_differ = refl; few_protectable = omega arith };
  lockdown_disjoint = refl;
  lockdown_few = omega arith;
  pairs = record { each = refl; differ = refl; few = omega arith };
  default = refl;
}

pub good-start : IsGood start
unfolding rule_count
good-start = record { formed = formed-start; few_rules = lit≤ tt }
