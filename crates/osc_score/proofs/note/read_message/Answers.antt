use Rattle.std.proofs.Common.{◌≡◌, true, false, is_ok, subst, rules}
use Rattle.osc_message.specs.Reading.{brackets_read}
use Rattle.osc_pattern.specs.Addresses.{IsAddress}
use Rattle.osc_script.specs.Words.{words_of}
use Rattle.osc_score.specs.ArgumentWords.{arguments_read}
use Rattle.osc_score.proofs.Messages.{begun, address_nonzero, tags_nonzero, unbalanced, told, is_one}
use Rattle.osc_score.proofs.note.read_message.Goals as goal

pub returns-then-not-are_balanced-clause-read : goal.returns-then-not-are_balanced-clause-read
returns-then-not-are_balanced-clause-read c tag =
    let test : is_ok (brackets_read 0 0 c.put_words.new.tags.items 0) ≡ false = search rules in
    unbalanced tag c.args.address.now c.put_words.new.tags.items c.put_words.new.atoms.items (arguments_read (words_of c.args.words.now))
    (begun c.in_ok-tags.tags.items c.new-atoms.result.items c.put_words.new.tags.items c.put_words.new.atoms.items (arguments_read (words_of c.args.words.now))
    c.in_ok-tags.ensures.items c.new-atoms.ensures.items c.in_default.ensures)
    test

pub message_bytes-requires-clause-pattern : goal.message_bytes-requires-clause-pattern
message_bytes-requires-clause-pattern c =
    address_nonzero c.an_address_is_a_pattern.ensures.lawful c.bytes.result.now c.bytes.ensures.lawful

pub message_bytes-requires-clause-tags : goal.message_bytes-requires-clause-tags
message_bytes-requires-clause-tags c =
    rw c.deref-2.ensures.value
    (tags_nonzero c.put_words.new.tags.items c.put_words.new.atoms.items (arguments_read (words_of c.args.words.now))
    (begun c.in_ok-tags.tags.items c.new-atoms.result.items c.put_words.new.tags.items c.put_words.new.atoms.items (arguments_read (words_of c.args.words.now))
    c.in_ok-tags.ensures.items c.new-atoms.ensures.items c.in_default.ensures))

pub returns-clause-read : goal.returns-clause-read
returns-clause-read c tag =
    let test : is_ok (brackets_read 0 0 c.put_words.new.tags.items 0) ≡ true = search rules in
    told tag c.args.address.now c.put_words.new.tags.items c.put_words.new.atoms.items c.of.result (arguments_read (words_of c.args.words.now))
    (begun c.in_ok-tags.tags.items c.new-atoms.result.items c.put_words.new.tags.items c.put_words.new.atoms.items (arguments_read (words_of c.args.words.now))
    c.in_ok-tags.ensures.items c.new-atoms.ensures.items c.in_default.ensures)
    test (search rules)

pub returns-clause-message : goal.returns-clause-message
returns-clause-message c =
    let test : is_ok (brackets_read 0 0 c.put_words.new.tags.items 0) ≡ true = search rules in
    is_one c.written_is_read_again.ensures.accepted c.an_address_is_a_pattern.ensures.lawful c.args.words.now c.args.address.now c.put_words.new.tags.items
    c.put_words.new.atoms.items c.of.result c.requires (subst IsAddress c.bytes.ensures.value c.bytes.ensures.lawful)
    (begun c.in_ok-tags.tags.items c.new-atoms.result.items c.put_words.new.tags.items c.put_words.new.atoms.items (arguments_read (words_of c.args.words.now))
    c.in_ok-tags.ensures.items c.new-atoms.ensures.items c.in_default.ensures)
    test (search rules)
