use Rattle.osc_message.proofs.LawfulPatterns.{pattern_nonzero}
use Rattle.osc_relay.proofs.relay.write_start.Goals as goal

pub write_string-requires-clause-no_zero : goal.write_string-requires-clause-no_zero
write_string-requires-clause-no_zero c =
    pattern_nonzero c.args.address.now (c.an_address_is_a_pattern.ensures.lawful c.args.address.now c.requires.address)
