use Rattle.std.proofs.Common.{◌∙◌, ap}
use Rattle.networks.specs.Lists.{find_id}
use Rattle.networks.proofs.Entries.{lookup-find}
use Rattle.networks.proofs.networks_by_id.Networks.get.Goals as goal

pub returns : goal.returns
returns c = c.get.ensures.value ∙ lookup-find c.args.id c.self.inside.by_id.entries c.self.invariant ∙ ap (find_id c.args.id) c.self.view_is
