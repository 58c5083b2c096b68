use Rattle.std.proofs.Common.{is_ok, ap}
use Rattle.std.specs.Prelude.{find, option_and_then}
use Rattle.osc_message.specs.Tags.{is_unknown}
use Rattle.osc_message.specs.Messages.{bare, known, unknown}
use Rattle.osc_message.proofs.MessageLaws.{limited_again}
use Rattle.osc_message.proofs.TextLaws.{pattern_again, tags_again, unknown_again, bare_arguments, known_arguments_again, unknown_arguments_again}
use Rattle.osc_message.specs.Messages.{message_text}
use Rattle.std.proofs.Common.{refl}
use Rattle.osc_message.proofs.laws.written_is_read_again.Goals as goal

pub returns-clause-accepted : goal.returns-clause-accepted
returns-clause-accepted c form most lawful short = ap is_ok (limited_again most (message_text form) form lawful refl short)

pub returns-clause-of_bare : goal.returns-clause-of_bare
returns-clause-of_bare c pattern lawful = (
  pattern_again (bare pattern) lawful,
  tags_again (bare pattern) lawful,
  bare_arguments pattern lawful,
  ap (option_and_then (λ tags. find is_unknown tags))
      (tags_again (bare pattern) lawful),
)

pub returns-clause-of_known : goal.returns-clause-of_known
returns-clause-of_known c pattern listed lawful = (
  pattern_again (known pattern listed) lawful,
  tags_again
      (known pattern listed) lawful,
  known_arguments_again pattern listed lawful,
  unknown_again pattern listed lawful,
)

pub returns-clause-of_unknown : goal.returns-clause-of_unknown
returns-clause-of_unknown c pattern tags rest lawful = (
  pattern_again (unknown pattern tags rest) lawful,
  tags_again (unknown pattern tags rest) lawful,
  unknown_arguments_again pattern tags rest lawful,
  ap
      (option_and_then (λ tags. find is_unknown tags)) (tags_again (unknown pattern tags rest) lawful),
)
