use Rattle.std.proofs.Common.{refl}
use Rattle.std.specs.Fmt.{digits}
use Rattle.std.specs.Str.{chars, is_utf8}
use Rattle.hex.proofs.OnLiterals.{hex_on_literals}
use Rattle.osc_shown.specs.Numbers.{two, three}
use Rattle.osc_shown.specs.Refusals.{fault_words}
use Rattle.osc_shown.specs.Times.{millis_of, shown_millis}
use Rattle.osc_shown.proofs.laws.examples.Goals as goal

pub returns : goal.returns
unfolding digits chars is_utf8 hex_on_literals two three millis_of shown_millis fault_words lib.Utf8.encode
returns c = record {
  few = refl;
  thousands = refl;
  billions = refl;
  time = refl;
  nearest = refl;
  ahead = refl;
  utc = refl;
  east = refl;
  west = refl;
  quotes = refl;
  letters = refl;
  bytes = refl;
  cut = refl;
  whole = refl;
  all_called = refl;
  waits = refl;
  too_late = refl;
  played_late = refl;
  no_room = refl;
  line = refl;
  since = refl;
  caller = refl;
  coloured = refl;
  refusal = refl;
}
