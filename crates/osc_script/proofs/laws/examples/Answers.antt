use Rattle.std.proofs.Common.{refl}
use Rattle.std.specs.Fmt.{digits}
use Rattle.hex.proofs.OnLiterals.{hex_on_literals}
use Rattle.osc_script.specs.Acts.{act_of, served_of}
use Rattle.osc_script.specs.Draws.{following}
use Rattle.osc_script.specs.Generated.{first_acts, drawn_acts}
use Rattle.osc_script.proofs.laws.examples.Goals as goal

pub returns : goal.returns
unfolding act_of served_of hex_on_literals digits following first_acts drawn_acts
returns c = record {
  address = refl;
  word = refl;
  odd = refl;
  digits = refl;
  few = refl;
  many = refl;
  unknown = refl;
  skipped = refl;
  bare = refl;
  second = refl;
  read = refl;
  lanes = refl;
  no_lane = refl;
  above = refl;
  zeros = refl;
  alone = refl;
  served = refl;
  not_here = refl;
  undigested = refl;
  uncounted = refl;
  generated = refl;
  drawn = refl;
}
