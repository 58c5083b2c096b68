use Rattle.std.proofs.Common.{◌≡◌, ◌+◌, ℕ, Bool, false, length, ap, sym, subst, ◌∙◌, arith}
use Rattle.osc_packet.specs.Units.{TimedUnit}
use Rattle.osc_queue.specs.Timed.{TimedQueue}
use Rattle.osc_model.specs.State.{State, Queued}
use Rattle.osc_model.specs.Events.{release, adds_entry}
use Rattle.osc_model.specs.Step.{step, calls_of_unit}
use Rattle.osc_replay.specs.Calls.{call_lines}
use Rattle.osc_replay.specs.Playing.{EntersRelease, IsReached}
use Rattle.osc_replay.proofs.Entering.{server_state, release_full, release_enters}
use Rattle.osc_replay.proofs.Reached.{hits_fit}
use Rattle.osc_replay.proofs.server.Server.release.Goals as goal

pub returns-then-size-self-clause-releases : goal.returns-then-size-self-clause-releases
returns-then-size-self-clause-releases c =
    let s = c.self.inside in
    let unit : Queued = (c.in-Some.field-0-0, c.in-Some.unit, c.in-Some.taken) in
    let old = server_state s.tree s.queue s.blocks s.clock s.next_id s.next_unit s.callers s.caller_limit s.recorded s.record_limit s.late in
    subst (λ (old : State). adds_entry (step old release).answer ≡ false) c.self.view_is
    (release_full old unit c.take_due.new.self.items c.find_calls.new.calls.hits.items c.in-Some.ensures.taken c.in-Some.ensures.due
    c.in_ok-find_calls.ensures.hits
    (omega (arith, c.if-size-self.true, c.len.ensures)))

pub returns-clause-releases : goal.returns-clause-releases
returns-clause-releases c =
    let s = c.self.inside in
    let unit : Queued = (c.in-Some.field-0-0, c.in-Some.unit, c.in-Some.taken) in
    let calls = c.find_calls.new.calls in
    let hits = calls.hits.items in
    let with : TimedQueue TimedUnit → ℕ
    → State = λ queue recorded. server_state s.tree queue s.blocks s.clock s.next_id s.next_unit s.callers s.caller_limit recorded s.record_limit s.late in
    let old = with s.queue s.recorded in
    let long : c.len.result ≡ length hits = omega (arith, c.len.ensures) in
    let new = λ (n : ℕ). with c.take_due.new.self (s.recorded + (44 + n)) in
    let limited =
    λ (n : ℕ). record old { caps = record old.caps { units = n }; queue = c.take_due.new.self.items; recorded = s.recorded + (44 + length hits) } in
    let reached : IsReached old = subst IsReached (sym c.self.view_is) c.requires in
    let made : calls.lines ≡ call_lines calls.prints c.in-Some.unit (calls_of_unit s.tree.methods unit) =
    c.in_ok-find_calls.ensures.lines
    ∙ ap (λ (b : Bool). call_lines b c.in-Some.unit (calls_of_unit s.tree.methods unit)) (sym c.find_calls.ensures.prints) in
    subst (λ (old : State). EntersRelease c.in-Some.unit calls old (new c.len.result))
    c.self.view_is
    (release_enters old (new c.len.result) unit c.take_due.new.self.items hits calls.lines calls.prints c.in-Some.ensures.taken c.in-Some.ensures.due
    c.in_ok-find_calls.ensures.hits made
    (hits_fit c.a_server_stays_sound.ensures.after c.a_legal_history_is_recordable.ensures.next old reached)
    (omega (arith, c.if-size-self.false, c.len.ensures)) (ap new long ∙ ap limited c.in-Some.ensures.limit))
