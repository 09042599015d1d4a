use Rattle.std.proofs.Common.{◌≡◌, ◌∙◌, ◌++◌, ◌∷◌, [], false, is_some, sym, ap, subst}
use Rattle.std.specs.Map.{lookup}
use Rattle.std.specs.Str.{bytes_eq}
use Rattle.indexmap.proofs.CallerLemmas.{insert_entry-new}
use Rattle.mark_server.proofs.Entries.{none-there}
use Rattle.mark_server.proofs.table.SocketTable.push.Goals as goal

-- a new name comes last
pub returns-clause-pushed : goal.returns-clause-pushed
returns-clause-pushed c =
    let none = none-there (lookup (bytes_eq c.args.name) c.self.inside.by_name.entries) (subst (λ es. is_some (lookup (bytes_eq c.args.name) es) ≡ false) (sym c.self.view_is) c.requires) in
    c.in_ok-insert.ensures.entries ∙ insert_entry-new bytes_eq c.self.inside.by_name c.args.name c.args.socket none
    ∙ ap (λ es. es ++ (c.args.name, c.args.socket) ∷ []) c.self.view_is
