use Rattle.std.proofs.Common.{◌≡◌, suc, length, ap, arith}
use Rattle.osc_core.specs.Invoked.{calls_left, shown}
use Rattle.osc_core.proofs.Telling.{call_next}
use Rattle.osc_core.proofs.called.CallsIterator.next.Goals as goal

pub returns-clause-steps : goal.returns-clause-steps
returns-clause-steps c =
    let s = c.args.self.now in
    call_next s.unit s.starts.now s.bytes.now s.hits.now c.in_ok-index.index c.in_ok-index.method c.in_ok-index.rest.now c.message_at.result.now
    c.in_ok-index.ensures c.message_at.ensures

pub returns-clause-goes : goal.returns-clause-goes
returns-clause-goes c =
    let s = c.args.self.now in
    let next = call_next s.unit s.starts.now s.bytes.now s.hits.now c.in_ok-index.index c.in_ok-index.method c.in_ok-index.rest.now c.message_at.result.now
    c.in_ok-index.ensures c.message_at.ensures in
    let size : length (calls_left s)
    ≡ suc (length (calls_left (record { unit = s.unit; hits = c.in_ok-index.rest; bytes = s.bytes; starts = s.starts }))) = ap length next in
    record { on = λ f. (tt, tt, omega (arith, size)); keeps = tt; rests = λ f. tt }
