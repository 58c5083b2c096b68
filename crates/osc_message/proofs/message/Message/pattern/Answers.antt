-- The pattern that was read has no fault.
use Rattle.std.proofs.Common.{◌≤◌, ◌∙◌, length, arith}
use Rattle.osc_message.specs.Seen.{seen}
use Rattle.osc_message.proofs.Patterns.{pattern_read, pattern_lawful, pattern_short}
use Rattle.osc_message.proofs.message.Message.pattern.Goals as goal

pub known-requires-clause-test : goal.known-requires-clause-test
known-requires-clause-test c = pattern_lawful c.self.inside.bytes.now (seen c.self.inside.slices) c.self.invariant.0.read

pub known-requires-clause-small : goal.known-requires-clause-small
known-requires-clause-small c =
    let short : length c.self.inside.slices.pattern.now ≤ length c.self.inside.bytes.now =
    pattern_short c.self.inside.bytes.now (seen c.self.inside.slices) c.self.invariant.0.read in
    let small = c.self.invariant.0.small in
    omega arith

pub returns : goal.returns
returns c =
    rw (← c.self.view_is) (c.known.ensures ∙ pattern_read c.self.inside.bytes.now (seen c.self.inside.slices) c.self.invariant.0.read)
