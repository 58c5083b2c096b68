use Rattle.std.proofs.Common.{refl}
use Rattle.std.specs.Fmt.{digits}
use Rattle.hex.proofs.OnLiterals.{hex_on_literals}
use Rattle.osc_message.specs.Reading.{message_read}
use Rattle.osc_pattern.specs.Reading.{read_part}
use Rattle.osc_print.specs.Dates.{year_of, month_of}
use Rattle.osc_print.proofs.laws.examples.Goals as goal

pub returns : goal.returns
unfolding digits hex_on_literals message_read read_part year_of month_of
returns c = record {
  number = refl;
  list = refl;
  method = refl;
  callers_full = refl;
  queued = refl;
  late = refl;
  units_full = refl;
  pool_full = refl;
  added = refl;
  taken = refl;
  under_method = refl;
  is_container = refl;
  methods_full = refl;
  nodes_full = refl;
  removed = refl;
  not_there = refl;
  ticked = refl;
  clock_back = refl;
  released = refl;
  call = refl;
  fault = refl;
  link_fault = refl;
  first_second = refl;
  last_second = refl;
  unix_epoch = refl;
  leap_day = refl;
  dump = refl;
  discards = refl;
}
