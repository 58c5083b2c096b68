-- Last lines of a program.
use Rattle.std.proofs.Common.{◌≡◌, ℕ, List, subst}
use Rattle.osc_ends.specs.Ends.{EndsLine}
use Rattle.osc_ends.specs.Sinks.{SinkChange}

pub line_text : (decided status : ℕ) (text text' : List ℕ) (out : SinkChange) → text ≡ text' → EndsLine decided status text out
    → EndsLine decided status text' out
line_text decided status text text' out same ends = subst (λ (t : List ℕ). EndsLine decided status t out) same ends
