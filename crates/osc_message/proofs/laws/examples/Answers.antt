use Rattle.std.proofs.Common.{refl}
use Rattle.osc_pattern.specs.Reading.{read_part}
use Rattle.osc_message.specs.Reading.{message_read}
use Rattle.osc_message.proofs.laws.examples.Goals as goal

pub returns-clause-open_pattern : goal.returns-clause-open_pattern
unfolding message_read read_part
returns-clause-open_pattern c = refl

pub returns-clause-lawful_pattern : goal.returns-clause-lawful_pattern
unfolding message_read read_part
returns-clause-lawful_pattern c = refl

pub returns-clause-no_comma : goal.returns-clause-no_comma
unfolding message_read read_part
returns-clause-no_comma c = refl

pub returns-clause-stray_bracket : goal.returns-clause-stray_bracket
unfolding message_read read_part
returns-clause-stray_bracket c = refl

pub returns-clause-open_bracket : goal.returns-clause-open_bracket
unfolding message_read read_part
returns-clause-open_bracket c = refl

pub returns-clause-more_bytes : goal.returns-clause-more_bytes
unfolding message_read read_part
returns-clause-more_bytes c = refl

pub returns-clause-unknown_tag : goal.returns-clause-unknown_tag
unfolding message_read read_part
returns-clause-unknown_tag c = refl
