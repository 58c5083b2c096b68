use Rattle.std.proofs.Common.{Some, Option, sym, subst}
use Rattle.osc_c.specs.declared.state.State.{State}
use Rattle.osc_c.specs.Held.{NextOf}
use Rattle.osc_c.specs.Reading.{TellsNext, left_of}
use Rattle.osc_c.proofs.calls.osc_server_next_call.Goals as goal

pub returns-clause-next : goal.returns-clause-next
returns-clause-next c =
    let status = c.next_in-status.result in
    let given = c.args.call.now in
    let call = c.next_in-status.new.call in
    let before = c.args.buffer.now in
    let buffer = c.next_in-status.new.buffer in
    let after = c.next_in-status.new.state in
    let next : TellsNext (left_of c.in-Some.state.value) (left_of after) status given call before buffer =
    subst (λ (s : State). TellsNext (left_of s) (left_of after) status given call before buffer) c.deref_mut.ensures.value c.next_in-status.ensures.next in
    subst (λ (h : Option State). NextOf h c.put.new.handle.spot.held status given call before buffer) c.in-Some.ensures.taken
    (subst (λ (h : Option State). NextOf (Some c.in-Some.state.value) h status given call before buffer) (sym c.put.ensures) next)
