-- What a network is picked by is its id and what tests say of its kind.
use Rattle.std.proofs.Common.{◌≡◌, ◌∙◌, ℕ, Option, ap}
use Rattle.std.specs.Prelude.{◌&&◌, ◌==◌}
use Rattle.networks.specs.Kinds.{class_of, is_free, is_secure, is_bypass, permission_of}
use Rattle.networks.specs.declared.kind.Kind.{Kind}
use Rattle.networks.specs.declared.network.Network.{Network}
use Rattle.policy_state.specs.Rows.{is_default, picks}
use Rattle.policy_state.specs.declared.row.NetworkSet.{NetworkSet}
use Rattle.policy_state.specs.declared.row.NetworkSet.TheVariants.{OfLocal, OfPhysical, OfFree, OfDefault, OfVirtual, OfSecure, OfBypass}

-- the kinds may differ in their ranges
pub record IsLike (j k : Kind) : Type 0 where
  pub class : class_of j ≡ class_of k
  pub permission : permission_of j ≡ permission_of k
  pub free : is_free j ≡ is_free k
  pub secure : is_secure j ≡ is_secure k
  pub bypass : is_bypass j ≡ is_bypass k

pub picks-alike : (pick : NetworkSet) (d : Option ℕ) (m n : Network) → m.id ≡ n.id → IsLike m.kind n.kind → picks pick d m ≡ picks pick d n
picks-alike OfLocal d m n id like = ap (λ (c : ℕ). c == 0) like.class
picks-alike OfPhysical d m n id like = ap (λ (c : ℕ). c == 1) like.class
picks-alike OfFree d m n id like = like.free
picks-alike OfDefault d m n id like = ap (λ (c : ℕ). (c == 1) && is_default d m.id) like.class ∙ ap (λ (i : ℕ). (class_of n.kind == 1) && is_default d i) id
picks-alike OfVirtual d m n id like = ap (λ (c : ℕ). c == 2) like.class
picks-alike OfSecure d m n id like = like.secure
picks-alike OfBypass d m n id like = like.bypass

pub picks-same : (pick : NetworkSet) (d : Option ℕ) (m n : Network) → m.id ≡ n.id → m.kind ≡ n.kind → picks pick d m ≡ picks pick d n
picks-same pick d m n id kind =
    picks-alike pick d m n id (record { class = ap class_of kind; permission = ap permission_of kind; free = ap is_free kind; secure = ap is_secure kind; bypass = ap is_bypass kind })
