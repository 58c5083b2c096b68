use Rattle.std.proofs.Common.{◌≡◌, ℕ, suc, ◌+◌, ◌≤◌, ◌-◌, vec_len, vec_capacity, All}
use Rattle.osc_turn.specs.Passes.{view}
use Rattle.osc_live.specs.Seen.{IsTokenOf, past_of}
use Rattle.osc_live.specs.Closing.{known}
use Rattle.osc_live.specs.Resuming.{first_resumed, others_resumed}
use Rattle.osc_live.proofs.live.Live.hand_tokens.Given as goal

-- the tokens so far, without the first one
abbrev pub invariant-loop-number : goal.invariant-loop-number
invariant-loop-number g l = record {
  ours : IsTokenOf l.self.turn l.self.caps l.pass;
  first : view l.pass ≡ first_resumed l.self.caps (past_of l.self.turn) l.number;
  from : (1 ≤ l.number) × (l.number ≤ l.count);
  tokens : (k : ℕ) × (l.number ≡ suc k) × (known l.callers.items ≡ others_resumed l.self.caps (past_of l.self.turn) 1 k);
  each : All (λ caller. IsTokenOf l.self.turn l.self.caps caller.pass) l.callers.items;
  room : (l.count ≤ vec_capacity l.callers) × (vec_len l.callers + 1 ≡ l.number);
}

abbrev pub decreases-loop-number : goal.decreases-loop-number
decreases-loop-number g l = l.count - l.number
