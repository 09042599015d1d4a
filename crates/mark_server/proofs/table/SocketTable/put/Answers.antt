use Rattle.std.proofs.Common.{◌∙◌, sym, ap}
use Rattle.std.specs.Map.{set_value}
use Rattle.std.specs.Str.{bytes_eq}
use Rattle.mark_server.proofs.Entries.{set-none}
use Rattle.mark_server.proofs.table.SocketTable.put.Goals as goal

-- where there is no socket of the name, nothing is put
pub returns-in_default-clause-sockets : goal.returns-in_default-clause-sockets
returns-in_default-clause-sockets c =
    ap (λ m. m.entries) c.get_mut.follows.holds-at-none
    ∙ set-none (bytes_eq c.args.name.now) c.self.inside.by_name.entries c.args.socket (sym c.in_default.ensures.value)
    ∙ ap (λ es. set_value (bytes_eq c.args.name.now) es c.args.socket) c.self.view_is
