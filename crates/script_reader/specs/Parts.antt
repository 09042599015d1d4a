-- The form of each line, and its values.
use Rattle.std.specs.Prelude.{◌≡◌, ◌⊎◌, zero, suc, true, false, List, None, Some, Option}
use Rattle.std.proofs.Common.{Bor, refl, inl, inr}
use Rattle.uid_ranges.specs.declared.range.UidRange.{UidRange}
use Rattle.script_reader.specs.declared.form.Form.{Form}
use Rattle.script_reader.specs.declared.form.Form.TheVariants as form
use Rattle.script_reader.specs.declared.line.Line.{Line}
use Rattle.script_reader.specs.declared.line.Line.TheVariants as line
use Rattle.script_reader.specs.declared.line.ShowLine.TheVariants as show
use Rattle.script_reader.specs.declared.line.SocketLine.TheVariants as socket
use Rattle.script_reader.specs.declared.line.TraceLine.TheVariants as trace
use Rattle.commands.specs.declared.command.Command.TheVariants as command
use Rattle.commands.specs.declared.command.Way.TheVariants as way
use Rattle.prefixes.specs.declared.addr.Family.TheVariants as family
use Rattle.word_text.specs.declared.values.Values.{Values as Slots}
use Rattle.word_text.specs.Grammar.{Values}
use Rattle.script_reader.specs.Rows.{kinds_of, line_with}
use Rattle.word_text.specs.Slots.{filled, list_in, nothing, picked}

-- a line is of a form, with its values: they say the line, and they stand in the places of their kinds
pub record Parts (l : Line) : Type 0 where
  pub form : Form
  pub values : Values (kinds_of form)
  pub same : l ≡ line_with form values
  pub kept : picked (kinds_of form) (filled (kinds_of form) values nothing) (list_in (kinds_of form) values) ≡ values

abbrev of : {l : Line} → (form : Form) (values : Values (kinds_of form)) → l ≡ line_with form values →
    picked (kinds_of form) (filled (kinds_of form) values nothing) (list_in (kinds_of form) values) ≡ values → (l ≡ line.Blank) ⊎ Parts l
of form values same kept = inr (record { form = form; values = values; same = same; kept = kept })

abbrev pub parts_of : (l : Line) → (l ≡ line.Blank) ⊎ Parts l
parts_of line.Blank = inl refl
parts_of (line.Trace (trace.Made user bits to None)) = of form.Packet (tt, (user, (bits, (to, tt)))) refl refl
parts_of (line.Trace (trace.Made user bits to (Some n))) = of form.PacketOn (tt, (user, (bits, (to, (tt, (n, tt)))))) refl refl
parts_of (line.Trace (trace.Trace n to)) = of form.Trace (tt, (n, (to, tt))) refl refl
parts_of (line.Trace (trace.Passed n to)) = of form.Passed (tt, (n, (to, tt))) refl refl
parts_of (line.Control (command.RouteAdd id n dest way.Direct)) = of form.RouteAdd (tt, (tt, (id, (n, (dest, tt))))) refl refl
parts_of (line.Control (command.RouteAdd id n dest (way.Via to))) = of form.RouteAddVia (tt, (tt, (id, (n, (dest, (tt, (to, tt))))))) refl refl
parts_of (line.Control (command.RouteAdd id n dest way.Unreachable)) = of form.RouteAddUnreachable (tt, (tt, (id, (n, (dest, (tt, tt)))))) refl refl
parts_of (line.Control (command.RouteAdd id n dest way.Throw)) = of form.RouteAddThrow (tt, (tt, (id, (n, (dest, (tt, tt)))))) refl refl
parts_of (line.Control (command.RouteRemove id n dest false)) = of form.RouteRemove (tt, (tt, (id, (n, (dest, tt))))) refl refl
parts_of (line.Control (command.RouteRemove id n dest true)) = of form.RouteRemoveSpecial (tt, (tt, (id, (n, (dest, (tt, tt)))))) refl refl
parts_of (line.Control (command.LockdownAdd users)) = of form.LockdownAdd (tt, (tt, (users, tt))) refl refl
parts_of (line.Control (command.LockdownRemove users)) = of form.LockdownRemove (tt, (tt, (users, tt))) refl refl
parts_of (line.Control (command.UsersAdd id zero list)) = of form.UsersAdd (tt, (tt, (id, (list, tt)))) refl refl
parts_of (line.Control (command.UsersAdd id (suc place) list)) = of form.UsersAddRank (tt, (tt, (id, (tt, (suc place, (list, tt)))))) refl refl
parts_of (line.Control (command.UsersRemove id list)) = of form.UsersRemove (tt, (tt, (id, (list, tt)))) refl refl
parts_of (line.Control (command.AppAdd id place list)) = of form.AppAdd (tt, (tt, (id, (place, (list, tt))))) refl refl
parts_of (line.Control (command.AppRemove id list)) = of form.AppRemove (tt, (tt, (id, (list, tt)))) refl refl
parts_of (line.Control (command.InterfaceAdd id n)) = of form.InterfaceAdd (tt, (tt, (id, (n, tt)))) refl refl
parts_of (line.Control (command.InterfaceRemove id n)) = of form.InterfaceRemove (tt, (tt, (id, (n, tt)))) refl refl
parts_of (line.Control (command.DefaultSet id)) = of form.DefaultSet (tt, (tt, (id, tt))) refl refl
parts_of (line.Control command.DefaultClear) = of form.DefaultClear (tt, (tt, tt)) refl refl
parts_of (line.Control (command.PermissionNetwork id need)) = of form.PermissionNetwork (tt, (tt, (id, (need, tt)))) refl refl
parts_of (line.Control (command.PermissionUser user need)) = of form.PermissionUser (tt, (tt, (user, (need, tt)))) refl refl
parts_of (line.Control (command.PermissionClear user)) = of form.PermissionClear (tt, (tt, (user, tt))) refl refl
parts_of (line.Socket (socket.Open n user)) = of form.SocketOpen (tt, (tt, (n, (user, tt)))) refl refl
parts_of (line.Socket (socket.Close n)) = of form.SocketClose (tt, (tt, (n, tt))) refl refl
parts_of (line.Socket (socket.Bind n m)) = of form.SocketBind (tt, (tt, (n, (m, tt)))) refl refl
parts_of (line.Socket (socket.Unbind n)) = of form.SocketUnbind (tt, (tt, (n, tt))) refl refl
parts_of (line.Socket (socket.Connect n)) = of form.SocketConnect (tt, (tt, (n, tt))) refl refl
parts_of (line.Socket (socket.Accept n user m)) = of form.SocketAccept (tt, (tt, (n, (user, (m, tt))))) refl refl
parts_of (line.Socket (socket.Select n id)) = of form.SocketSelect (tt, (tt, (n, (id, tt)))) refl refl
parts_of (line.Socket (socket.Protect n)) = of form.SocketProtect (tt, (tt, (n, tt))) refl refl
parts_of (line.Socket (socket.SelectFor n user)) = of form.SocketSelectFor (tt, (tt, (n, (user, tt)))) refl refl
parts_of (line.Socket (socket.Access user id)) = of form.Access (tt, (user, (id, tt))) refl refl
parts_of (line.Control (command.LinkAdd n i)) = of form.LinkAdd (tt, (tt, (n, (i, tt)))) refl refl
parts_of (line.Control (command.LinkRemove n)) = of form.LinkRemove (tt, (tt, (n, tt))) refl refl
parts_of (line.Control (command.CreatePhysical id need)) = of form.CreatePhysical (tt, (tt, (id, (tt, (need, tt))))) refl refl
parts_of (line.Control (command.CreateVirtual id true)) = of form.CreateSecure (tt, (tt, (id, (tt, (tt, tt))))) refl refl
parts_of (line.Control (command.CreateVirtual id false)) = of form.CreateBypassable (tt, (tt, (id, (tt, (tt, tt))))) refl refl
parts_of (line.Control (command.Destroy id)) = of form.Destroy (tt, (tt, (id, tt))) refl refl
parts_of (line.Control (command.ProtectAllow user)) = of form.ProtectAllow (tt, (tt, (user, tt))) refl refl
parts_of (line.Control (command.ProtectDeny user)) = of form.ProtectDeny (tt, (tt, (user, tt))) refl refl
parts_of (line.Control (command.TetherAdd n m)) = of form.TetherAdd (tt, (tt, (n, (m, tt)))) refl refl
parts_of (line.Control (command.TetherRemove n m)) = of form.TetherRemove (tt, (tt, (n, (m, tt)))) refl refl
parts_of (line.Trace trace.WatchOff) = of form.WatchOff (tt, (tt, tt)) refl refl
parts_of (line.Trace (trace.Watch n to)) = of form.Watch (tt, (n, (to, tt))) refl refl
parts_of (line.Show (show.Rules family.V4)) = of form.ShowRules4 (tt, (tt, (tt, tt))) refl refl
parts_of (line.Show (show.Rules family.V6)) = of form.ShowRules6 (tt, (tt, (tt, tt))) refl refl
parts_of (line.Show (show.Table number)) = of form.ShowTable (tt, (tt, (number, tt))) refl refl
parts_of (line.Show show.Networks) = of form.ShowNetworks (tt, (tt, tt)) refl refl
parts_of (line.Show show.Sockets) = of form.ShowSockets (tt, (tt, tt)) refl refl

-- the same as the code has it
abbrev pub AreParts : {l : Line} → (l ≡ line.Blank) ⊎ Parts l → Option (Form × Slots × Bor (List UidRange)) → Type 0
AreParts (inl blank) got = got ≡ None
AreParts (inr parts) None = ⊥
AreParts (inr parts) (Some got) = (got.0 ≡ parts.form) × (got.1 ≡ filled (kinds_of parts.form) parts.values nothing) × (got.2.now ≡ list_in (kinds_of parts.form) parts.values)

abbrev pub IsPartsOf : Line → Option (Form × Slots × Bor (List UidRange)) → Type 0
IsPartsOf l got = AreParts (parts_of l) got
