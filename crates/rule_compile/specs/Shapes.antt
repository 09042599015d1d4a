-- What the shape of a network stands for.
use Rattle.std.specs.Prelude.{[]}
use Rattle.networks.specs.declared.kind.Kind.{Kind}
use Rattle.networks.specs.declared.kind.Kind.TheVariants as kind
use Rattle.networks.specs.declared.network.Network.{Network}
use Rattle.rule_compile.specs.declared.shape.Shape.{Shape}
use Rattle.rule_compile.specs.declared.shape.ShapeKind.{ShapeKind}
use Rattle.rule_compile.specs.declared.shape.ShapeKind.TheVariants as shape

abbrev pub shape_kind : ShapeKind → Kind
shape_kind shape.Local = kind.Local
shape_kind (shape.Physical permission apps) = kind.Physical permission apps.now
shape_kind (shape.Virtual secure users) = kind.Virtual secure users.now

abbrev pub shape_net : Shape → Network
shape_net s = record { id = s.id; kind = shape_kind s.kind; interfaces = s.links.now; routes = [] }

-- the rows of the rule table don't ask for routes
abbrev pub unrouted : Network → Network
unrouted n = record n { routes = [] }
