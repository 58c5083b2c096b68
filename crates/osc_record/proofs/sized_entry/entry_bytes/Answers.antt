use Rattle.std.proofs.Common.{arith}
use Rattle.osc_record.specs.Shown.{event_of, answer_of}
use Rattle.osc_model.proofs.Sizes.{sizes_are}
use Rattle.osc_record.proofs.sized_entry.entry_bytes.Goals as goal

pub entry_size-requires : goal.entry_size-requires
entry_size-requires c = omega (arith, sizes_are c.args.caller (event_of c.args.event) (answer_of c.args.answer) c.requires.lawful.fits)

pub append_recorded-requires-clause-room : goal.append_recorded-requires-clause-room
append_recorded-requires-clause-room c =
    let size = sizes_are c.args.caller (event_of c.args.event) (answer_of c.args.answer) c.requires.lawful.fits in
    omega (arith, size, c.entry_size.ensures, c.in_ok-out.ensures.len, c.in_ok-out.ensures.capacity)
