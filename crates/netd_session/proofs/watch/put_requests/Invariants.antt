use Rattle.std.proofs.Common.{◌≡◌, ◌≤◌, ◌+◌, ◌*◌, ◌++◌, length, take, vec_capacity, vec_len}
use Rattle.packet_trace.specs.Changes.{changes_since}
use Rattle.turn_text.specs.Texts.{answer_room}
use Rattle.netd_session.specs.Watches.{noted_text, request_room}
use Rattle.netd_session.proofs.watch.put_requests.Given as goal

abbrev pub invariant-loop-place : goal.invariant-loop-place
invariant-loop-place g l = record {
  text : l.out.items ≡ l.initial.out.items ++ noted_text l.number l.state (take l.place (changes_since l.watched.packet l.watched.since (g.K.Kernel.seen l.watched.inner.now).journal));
  room : vec_len l.out + length (changes_since l.watched.packet l.watched.since (g.K.Kernel.seen l.watched.inner.now).journal) * request_room + answer_room
      ≤ vec_capacity l.out + l.place * request_room;
}
