-- The words of a message's arguments.
use Rattle.std.specs.Prelude.{ℕ, List, [], if◌then◌else◌}
use Rattle.osc_atoms.specs.declared.limits.TheConstants.{MAX_PACKET}
use Rattle.osc_message.specs.Reading.{is_message}
use Rattle.osc_message.specs.Arguments.{message_arguments}
use Rattle.osc_print.specs.Words.{argument_words}

-- a space and a word for each argument of a message, as they are printed; none of bytes that are no
-- message
abbrev pub words_of : List ℕ → List ℕ
words_of message =
    if is_message MAX_PACKET message then argument_words (message_arguments message) else []
