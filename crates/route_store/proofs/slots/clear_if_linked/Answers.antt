use Rattle.std.proofs.Common.{◌∙◌, Some, ap}
use Rattle.std.proofs.lemmas.Option.{slice_get_read}
use Rattle.route_store.proofs.slots.clear_if_linked.Goals as goal

pub clear_slot-requires-clause-there : goal.clear_slot-requires-clause-there
clear_slot-requires-clause-there c = (
  c.in-Some.route,
  slice_get_read c.args.slots.now.items _ c.args.place c.index.result.now c.args.slots.now.ok.0 c.requires.within c.index.ensures ∙ ap (λ slot. Some slot) c.in-Some.is,
  c.of.ensures,
)
