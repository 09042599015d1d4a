-- The forms of lines: the kinds of their words, and the line that values of these say.
use Rattle.std.specs.Prelude.{true, false, List, [], ◌∷◌, codes, map, None, Some}
use Rattle.commands.specs.declared.command.Command.TheVariants as command
use Rattle.commands.specs.declared.command.Way.TheVariants as way
use Rattle.prefixes.specs.declared.addr.Family.TheVariants as family
use Rattle.uid_ranges.specs.declared.range.UidRange.{UidRange}
use Rattle.word_text.specs.Grammar.{Kind, Values}
use Rattle.word_text.specs.Vocabulary as a
use Rattle.word_text.specs.Slots.{filled, list_in, nothing}
use Rattle.word_text.specs.declared.values.Values.{Values as Slots}
use Rattle.script_reader.specs.declared.form.Form.{Form}
use Rattle.script_reader.specs.declared.form.Form.TheVariants as form
use Rattle.script_reader.specs.declared.form.TheConstants.{FORMS}
use Rattle.script_reader.specs.declared.line.Line.{Line}
use Rattle.script_reader.specs.declared.line.Line.TheVariants as line
use Rattle.script_reader.specs.declared.line.ShowLine.TheVariants as show
use Rattle.script_reader.specs.declared.line.SocketLine.TheVariants as socket
use Rattle.script_reader.specs.declared.line.TraceLine.TheVariants as trace

pub record Row : Type 0 where
  pub kinds : List Kind
  pub says : Slots → List UidRange → Line

abbrev row : List Kind → (Slots → List UidRange → Line) → Row
row kinds says = record { kinds = kinds; says = says }

abbrev pub row_of : Form → Row
row_of form.Packet = row (a.word (codes "packet") ∷ a.uid ∷ a.mark ∷ a.addr ∷ []) (λ v list. line.Trace (trace.Made v.uid v.mark v.addr None))
row_of form.PacketOn = row (a.word (codes "packet") ∷ a.uid ∷ a.mark ∷ a.addr ∷ a.word (codes "on") ∷ a.link ∷ []) (λ v list. line.Trace (trace.Made v.uid v.mark v.addr (Some v.name)))
row_of form.Trace = row (a.word (codes "trace") ∷ a.link ∷ a.addr ∷ []) (λ v list. line.Trace (trace.Trace v.name v.addr))
row_of form.Passed = row (a.word (codes "passed") ∷ a.link ∷ a.addr ∷ []) (λ v list. line.Trace (trace.Passed v.name v.addr))
row_of form.RouteAdd = row (a.word (codes "route") ∷ a.word (codes "add") ∷ a.net ∷ a.link ∷ a.prefix ∷ []) (λ v list. line.Control (command.RouteAdd v.net v.name v.prefix way.Direct))
row_of form.RouteAddVia = row (a.word (codes "route") ∷ a.word (codes "add") ∷ a.net ∷ a.link ∷ a.prefix ∷ a.word (codes "via") ∷ a.addr ∷ []) (λ v list. line.Control (command.RouteAdd v.net v.name v.prefix (way.Via v.addr)))
row_of form.RouteAddUnreachable = row (a.word (codes "route") ∷ a.word (codes "add") ∷ a.net ∷ a.link ∷ a.prefix ∷ a.word (codes "unreachable") ∷ []) (λ v list. line.Control (command.RouteAdd v.net v.name v.prefix way.Unreachable))
row_of form.RouteAddThrow = row (a.word (codes "route") ∷ a.word (codes "add") ∷ a.net ∷ a.link ∷ a.prefix ∷ a.word (codes "throw") ∷ []) (λ v list. line.Control (command.RouteAdd v.net v.name v.prefix way.Throw))
row_of form.RouteRemove = row (a.word (codes "route") ∷ a.word (codes "remove") ∷ a.net ∷ a.link ∷ a.prefix ∷ []) (λ v list. line.Control (command.RouteRemove v.net v.name v.prefix false))
row_of form.RouteRemoveSpecial = row (a.word (codes "route") ∷ a.word (codes "remove") ∷ a.net ∷ a.link ∷ a.prefix ∷ a.word (codes "special") ∷ []) (λ v list. line.Control (command.RouteRemove v.net v.name v.prefix true))
row_of form.LockdownAdd = row (a.word (codes "lockdown") ∷ a.word (codes "add") ∷ a.range ∷ []) (λ v list. line.Control (command.LockdownAdd v.range))
row_of form.LockdownRemove = row (a.word (codes "lockdown") ∷ a.word (codes "remove") ∷ a.range ∷ []) (λ v list. line.Control (command.LockdownRemove v.range))
row_of form.UsersAdd = row (a.word (codes "users") ∷ a.word (codes "add") ∷ a.net ∷ a.ranges ∷ []) (λ v list. line.Control (command.UsersAdd v.net 0 list))
row_of form.UsersAddRank = row (a.word (codes "users") ∷ a.word (codes "add") ∷ a.net ∷ a.word (codes "rank") ∷ a.rank ∷ a.ranges ∷ []) (λ v list. line.Control (command.UsersAdd v.net v.rank list))
row_of form.UsersRemove = row (a.word (codes "users") ∷ a.word (codes "remove") ∷ a.net ∷ a.ranges ∷ []) (λ v list. line.Control (command.UsersRemove v.net list))
row_of form.AppAdd = row (a.word (codes "app") ∷ a.word (codes "add") ∷ a.net ∷ a.rank ∷ a.ranges ∷ []) (λ v list. line.Control (command.AppAdd v.net v.rank list))
row_of form.AppRemove = row (a.word (codes "app") ∷ a.word (codes "remove") ∷ a.net ∷ a.ranges ∷ []) (λ v list. line.Control (command.AppRemove v.net list))
row_of form.InterfaceAdd = row (a.word (codes "interface") ∷ a.word (codes "add") ∷ a.net ∷ a.link ∷ []) (λ v list. line.Control (command.InterfaceAdd v.net v.name))
row_of form.InterfaceRemove = row (a.word (codes "interface") ∷ a.word (codes "remove") ∷ a.net ∷ a.link ∷ []) (λ v list. line.Control (command.InterfaceRemove v.net v.name))
row_of form.DefaultSet = row (a.word (codes "default") ∷ a.word (codes "set") ∷ a.net ∷ []) (λ v list. line.Control (command.DefaultSet v.net))
row_of form.DefaultClear = row (a.word (codes "default") ∷ a.word (codes "clear") ∷ []) (λ v list. line.Control command.DefaultClear)
row_of form.PermissionNetwork = row (a.word (codes "permission") ∷ a.word (codes "network") ∷ a.net ∷ a.permission ∷ []) (λ v list. line.Control (command.PermissionNetwork v.net v.permission))
row_of form.PermissionUser = row (a.word (codes "permission") ∷ a.word (codes "user") ∷ a.uid ∷ a.permission ∷ []) (λ v list. line.Control (command.PermissionUser v.uid v.permission))
row_of form.PermissionClear = row (a.word (codes "permission") ∷ a.word (codes "clear") ∷ a.uid ∷ []) (λ v list. line.Control (command.PermissionClear v.uid))
row_of form.SocketOpen = row (a.word (codes "socket") ∷ a.word (codes "open") ∷ a.link ∷ a.uid ∷ []) (λ v list. line.Socket (socket.Open v.name v.uid))
row_of form.SocketClose = row (a.word (codes "socket") ∷ a.word (codes "close") ∷ a.link ∷ []) (λ v list. line.Socket (socket.Close v.name))
row_of form.SocketBind = row (a.word (codes "socket") ∷ a.word (codes "bind") ∷ a.link ∷ a.other ∷ []) (λ v list. line.Socket (socket.Bind v.name v.other))
row_of form.SocketUnbind = row (a.word (codes "socket") ∷ a.word (codes "unbind") ∷ a.link ∷ []) (λ v list. line.Socket (socket.Unbind v.name))
row_of form.SocketConnect = row (a.word (codes "socket") ∷ a.word (codes "connect") ∷ a.link ∷ []) (λ v list. line.Socket (socket.Connect v.name))
row_of form.SocketAccept = row (a.word (codes "socket") ∷ a.word (codes "accept") ∷ a.link ∷ a.uid ∷ a.other ∷ []) (λ v list. line.Socket (socket.Accept v.name v.uid v.other))
row_of form.SocketSelect = row (a.word (codes "socket") ∷ a.word (codes "select") ∷ a.link ∷ a.net ∷ []) (λ v list. line.Socket (socket.Select v.name v.net))
row_of form.SocketProtect = row (a.word (codes "socket") ∷ a.word (codes "protect") ∷ a.link ∷ []) (λ v list. line.Socket (socket.Protect v.name))
row_of form.SocketSelectFor = row (a.word (codes "socket") ∷ a.word (codes "selectfor") ∷ a.link ∷ a.uid ∷ []) (λ v list. line.Socket (socket.SelectFor v.name v.uid))
row_of form.Access = row (a.word (codes "access") ∷ a.uid ∷ a.net ∷ []) (λ v list. line.Socket (socket.Access v.uid v.net))
row_of form.LinkAdd = row (a.word (codes "link") ∷ a.word (codes "add") ∷ a.link ∷ a.index ∷ []) (λ v list. line.Control (command.LinkAdd v.name v.index))
row_of form.LinkRemove = row (a.word (codes "link") ∷ a.word (codes "remove") ∷ a.link ∷ []) (λ v list. line.Control (command.LinkRemove v.name))
row_of form.CreatePhysical = row (a.word (codes "network") ∷ a.word (codes "create") ∷ a.net ∷ a.word (codes "physical") ∷ a.permission ∷ []) (λ v list. line.Control (command.CreatePhysical v.net v.permission))
row_of form.CreateSecure = row (a.word (codes "network") ∷ a.word (codes "create") ∷ a.net ∷ a.word (codes "virtual") ∷ a.word (codes "secure") ∷ []) (λ v list. line.Control (command.CreateVirtual v.net true))
row_of form.CreateBypassable = row (a.word (codes "network") ∷ a.word (codes "create") ∷ a.net ∷ a.word (codes "virtual") ∷ a.word (codes "bypassable") ∷ []) (λ v list. line.Control (command.CreateVirtual v.net false))
row_of form.Destroy = row (a.word (codes "network") ∷ a.word (codes "destroy") ∷ a.net ∷ []) (λ v list. line.Control (command.Destroy v.net))
row_of form.ProtectAllow = row (a.word (codes "protect") ∷ a.word (codes "allow") ∷ a.uid ∷ []) (λ v list. line.Control (command.ProtectAllow v.uid))
row_of form.ProtectDeny = row (a.word (codes "protect") ∷ a.word (codes "deny") ∷ a.uid ∷ []) (λ v list. line.Control (command.ProtectDeny v.uid))
row_of form.TetherAdd = row (a.word (codes "tether") ∷ a.word (codes "add") ∷ a.link ∷ a.other ∷ []) (λ v list. line.Control (command.TetherAdd v.name v.other))
row_of form.TetherRemove = row (a.word (codes "tether") ∷ a.word (codes "remove") ∷ a.link ∷ a.other ∷ []) (λ v list. line.Control (command.TetherRemove v.name v.other))
row_of form.WatchOff = row (a.word (codes "watch") ∷ a.word (codes "off") ∷ []) (λ v list. line.Trace trace.WatchOff)
row_of form.Watch = row (a.word (codes "watch") ∷ a.link ∷ a.addr ∷ []) (λ v list. line.Trace (trace.Watch v.name v.addr))
row_of form.ShowRules4 = row (a.word (codes "show") ∷ a.word (codes "rules") ∷ a.word (codes "4") ∷ []) (λ v list. line.Show (show.Rules family.V4))
row_of form.ShowRules6 = row (a.word (codes "show") ∷ a.word (codes "rules") ∷ a.word (codes "6") ∷ []) (λ v list. line.Show (show.Rules family.V6))
row_of form.ShowTable = row (a.word (codes "show") ∷ a.word (codes "table") ∷ a.table ∷ []) (λ v list. line.Show (show.Table v.table))
row_of form.ShowNetworks = row (a.word (codes "show") ∷ a.word (codes "networks") ∷ []) (λ v list. line.Show show.Networks)
row_of form.ShowSockets = row (a.word (codes "show") ∷ a.word (codes "sockets") ∷ []) (λ v list. line.Show show.Sockets)

abbrev pub kinds_of : Form → List Kind
kinds_of form = (row_of form).kinds

abbrev pub says : Form → Slots → List UidRange → Line
says form = (row_of form).says

-- the line of a form with these values
abbrev pub line_with : (form : Form) → Values (kinds_of form) → Line
line_with form values = says form (filled (kinds_of form) values nothing) (list_in (kinds_of form) values)

-- the forms, in the order in which they are tried
abbrev pub forms : List Form
forms = map (λ entry. entry.form) FORMS
