use Rattle.std.proofs.Common.{Some, subst, sym}
use Rattle.script_reader.specs.Parts.{IsPartsOf}
use Rattle.script_reader.specs.declared.line.Line.{Line}
use Rattle.script_reader.proofs.say.parts.Goals as goal

pub returns-in-Control : goal.returns-in-Control
returns-in-Control c = subst (λ (l : Line). IsPartsOf l (Some c.command_parts.result)) (sym c.in-Control.is) c.command_parts.ensures

pub returns-in-Socket : goal.returns-in-Socket
returns-in-Socket c = subst (λ (l : Line). IsPartsOf l (Some c.socket_parts.result)) (sym c.in-Socket.is) c.socket_parts.ensures

pub returns-in-Trace : goal.returns-in-Trace
returns-in-Trace c = subst (λ (l : Line). IsPartsOf l (Some c.trace_parts.result)) (sym c.in-Trace.is) c.trace_parts.ensures

pub returns-in-Show : goal.returns-in-Show
returns-in-Show c = subst (λ (l : Line). IsPartsOf l (Some c.show_parts.result)) (sym c.in-Show.is) c.show_parts.ensures
