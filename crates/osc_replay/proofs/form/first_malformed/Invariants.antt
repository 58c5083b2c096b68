use Rattle.std.proofs.Common.{ℕ, length}
use Rattle.osc_replay.specs.Formed.{EndsFormed, IsStuckAt}
use Rattle.osc_replay.proofs.form.first_malformed.Given as goal

-- what comes of the entries that are left comes of all
abbrev pub invariant-loop-malformed : goal.invariant-loop-malformed
invariant-loop-malformed l = record {
  ends : EndsFormed l.unread → EndsFormed l.initial.unread;
  stuck : (at : ℕ) → IsStuckAt l.unread at → IsStuckAt l.initial.unread at;
}

abbrev pub decreases-loop-malformed : goal.decreases-loop-malformed
decreases-loop-malformed l = length l.unread.rest
