use Rattle.std.proofs.Common.{◌≡◌, None, drop}
use Rattle.std.specs.Prelude.{option_map}
use Rattle.osc_cues.specs.Guesses.{best_from}
use Rattle.osc_cues.proofs.guess.best_of.Given as goal

abbrev pub invariant-loop-method : goal.invariant-loop-method
invariant-loop-method l =
    best_from (option_map (λ guess. (guess.0, guess.1.now)) l.best) l.word (drop l.method-index l.methods) ≡ best_from None l.word l.methods
