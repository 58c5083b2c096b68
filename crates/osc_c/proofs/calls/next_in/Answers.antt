use Rattle.std.proofs.Common.{◌≡◌, ℕ, ◌+◌, List, ◌∷◌, ◌++◌, drop, length, sym, ap, ◌∙◌, arith}
use Rattle.osc_core.specs.Invoked.{last_calls, shown, calls_left}
use Rattle.osc_c.proofs.Reading.{short_at, follows, tells}
use Rattle.osc_c.proofs.calls.next_in.Goals as goal

pub overflow_cast-call : goal.overflow_cast-call
overflow_cast-call c =
    let state = c.args.state.now in
    let is : drop state.read (last_calls state.core.performance) ≡ shown c.in-Some.next ∷ calls_left c.next.new.self =
    sym c.calls_from-left.ensures ∙ c.in-Some.ensures.steps in
    omega (arith, short_at state.read (last_calls state.core.performance) (shown c.in-Some.next) (calls_left c.next.new.self) state.short is)

pub returns-clause-next : goal.returns-clause-next
returns-clause-next c =
    let state = c.args.state.now in
    let calls = last_calls state.core.performance in
    let message = c.in-Some.next.message.now in
    let rest = drop (length message) c.args.buffer.now in
    let is : drop state.read calls ≡ shown c.in-Some.next ∷ calls_left c.next.new.self = sym c.calls_from-left.ensures ∙ c.in-Some.ensures.steps in
    tells (shown c.in-Some.next) (calls_left c.next.new.self) c.args.call.now c.args.buffer.now (c.copy_from_slice.new.self ++ rest)
    (drop state.read calls) (drop (state.read + 1) calls) is (follows state.read calls (shown c.in-Some.next) (calls_left c.next.new.self) is).are
    (omega (arith, c.if-buffer-message.false)) (ap (λ (l : List ℕ). l ++ rest) c.copy_from_slice.ensures.after)
