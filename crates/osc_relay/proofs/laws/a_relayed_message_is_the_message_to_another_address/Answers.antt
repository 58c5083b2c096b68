use Rattle.std.proofs.Common.{[], ◌++◌, sym, ◌∙◌, map}
use Rattle.std.specs.List.{flat_map}
use Rattle.std.proofs.Common.{refl}
use Rattle.std.proofs.lemmas.List.{append-nil}
use Rattle.osc_atoms.specs.Atoms.{string}
use Rattle.osc_message.specs.Messages.{bare, known, unknown, tag_of, atom_of, tag_string, message_text}
use Rattle.osc_message.specs.Reading.{pattern_of}
use Rattle.osc_relay.proofs.Addressing.{after_address}
use Rattle.osc_relay.proofs.laws.a_relayed_message_is_the_message_to_another_address.Goals as goal

pub returns-clause-text : goal.returns-clause-text
returns-clause-text c (bare pattern) address lawful =
    after_address (string pattern) pattern address [] (sym (append-nil (string pattern))) (pattern_of (string pattern))
    (c.written_is_read_again.ensures.of_bare pattern lawful).0
    ∙ append-nil (string address)
returns-clause-text c (known pattern arguments) address lawful =
    after_address (message_text (known pattern arguments)) pattern address (tag_string (map tag_of arguments) ++ flat_map atom_of arguments) refl
    (pattern_of (message_text (known pattern arguments)))
    (c.written_is_read_again.ensures.of_known pattern arguments lawful).0
returns-clause-text c (unknown pattern tags rest) address lawful =
    after_address (message_text (unknown pattern tags rest)) pattern address (tag_string tags ++ rest) refl
    (pattern_of (message_text (unknown pattern tags rest)))
    (c.written_is_read_again.ensures.of_unknown pattern tags rest lawful).0
