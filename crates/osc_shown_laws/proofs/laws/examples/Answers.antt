use Rattle.std.proofs.Common.{refl, []}
use Rattle.std.specs.Prelude.{codes}
use Rattle.std.specs.Float.{float_is_finite}
use Rattle.std.proofs.lemmas.Float.Parse.{parse_float_on_literals}
use Rattle.hex.proofs.OnLiterals.{hex_on_literals}
use Rattle.osc_message.specs.Reading.{message_read}
use Rattle.std.specs.Fmt.{digits}
use Rattle.osc_pattern.specs.Reading.{read_part}
use Rattle.osc_shown_laws.proofs.laws.examples.Goals as goal

pub returns : goal.returns
unfolding hex_on_literals parse_float_on_literals float_is_finite lib.Ieee.to_bits read_part message_read digits
returns c = record {
  time = refl;
  said = refl;
  shown = record { said = codes " 7"; known = λ none. (codes "7", [], refl, refl, refl); unknown = λ some. absurd (cc some); text = refl };
  sheet = λ date offset. refl;
  double = refl;
  cut = refl;
}
