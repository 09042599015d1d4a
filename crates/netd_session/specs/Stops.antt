-- The ways in which a session stops, and the exit status of each.
use Rattle.std.specs.Prelude.{ℕ, Bool, true, false, Result, Ok, Err}
use Rattle.line_input.specs.declared.input.InputFault.{InputFault}
use Rattle.line_input.specs.declared.input.InputFault.TheVariants as input
use Rattle.net_io.specs.declared.streams.WriteFault.{WriteFault}
use Rattle.net_io.specs.declared.streams.WriteFault.TheVariants as write
use Rattle.netd_session.specs.declared.end.Status.{Status}
use Rattle.netd_session.specs.declared.end.Status.TheVariants as status
use Rattle.netd_session.specs.declared.end.Stop.{Stop}
use Rattle.netd_session.specs.declared.end.Stop.TheVariants as stop

-- how a session goes on or ends: it goes on, or reads its input to the end; or it stops
abbrev pub End : Type 0
End = Result (Unit {0}) Stop

abbrev pub goes_on : End
goes_on = Ok tt

abbrev pub after_write : WriteFault → Stop
after_write write.Failed = stop.WriteFault
after_write (write.Memory e) = stop.Memory

abbrev pub after_input : InputFault → Stop
after_input input.Read = stop.ReadFault
after_input input.TooLong = stop.TooLong

abbrev pub status_of : End → Status
status_of (Ok u) = status.Finished
status_of (Err s) = status.Stopped s

-- with these statuses the input ended, and every line before was answered
abbrev pub ends_with_input : Status → Bool
ends_with_input status.Finished = true
ends_with_input (status.Stopped stop.ReadFault) = true
ends_with_input (status.Stopped stop.TooLong) = true
ends_with_input _ = false

abbrev pub stop_number : Stop → ℕ
stop_number stop.BadLine = 3
stop_number stop.ReadFault = 4
stop_number stop.WriteFault = 5
stop_number stop.Memory = 6
stop_number stop.Halted = 7
stop_number stop.StartRefused = 8
stop_number stop.TooLong = 9

abbrev pub number_of : Status → ℕ
number_of status.Finished = 0
number_of status.BadWords = 2
number_of (status.Stopped s) = stop_number s
