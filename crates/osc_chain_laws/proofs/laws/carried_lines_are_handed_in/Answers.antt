use Rattle.std.proofs.Common.{sym, ◌∙◌}
use Rattle.osc_model.specs.State.{opening}
use Rattle.osc_model.specs.History.{after}
use Rattle.osc_carry.specs.Carried.{carried, carried_acts}
use Rattle.osc_carry.specs.Leading.{with_room}
use Rattle.osc_chain_laws.proofs.Lines.{opening_acts, acts_are, carried_adds}
use Rattle.osc_chain_laws.proofs.Silent.{lines_silent, carried_none}
use Rattle.osc_chain_laws.proofs.laws.carried_lines_are_handed_in.Goals as goal

pub returns-clause-acts : goal.returns-clause-acts
returns-clause-acts g c caps history relays at =
    opening_acts (after (opening caps) history) relays at ∙ sym (acts_are 1 (carried_acts (after (opening caps) history)))

pub returns-clause-addresses : goal.returns-clause-addresses
returns-clause-addresses g c caps history = carried_adds (after (opening caps) history)

pub returns-clause-silent : goal.returns-clause-silent
returns-clause-silent g c caps history room =
    lines_silent (opening (with_room caps room)) (carried caps history) (carried_none (after (opening caps) history))
