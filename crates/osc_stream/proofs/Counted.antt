-- How many bytes were taken, after a call.
use Rattle.std.proofs.Common.{◌≡◌, ◌∙◌, ℕ, ◌+◌, ◌≤◌, List, ◌++◌, length, take, ap, arith, length-append}
use Rattle.std.proofs.lemmas.List.{length-take-le}
use Rattle.osc_stream.specs.declared.fed.Fed.{Fed}
use Rattle.osc_stream.specs.declared.fed.Fed.TheVariants.{More, Ready, Broken}
use Rattle.osc_stream.specs.Feeding.{StreamView, IsFed, taken}

pub taken_counted : (fed : Fed) (count : ℕ) (piece : List ℕ) (old new : StreamView) → count ≤ length piece → IsFed fed count piece old new
    → taken new ≡ taken old + count
taken_counted More count piece old new within f = ap taken f.2 ∙ omega (arith, length-append old.held piece, f.0)
taken_counted Ready count piece old new within f =
    ap taken f.3 ∙ omega (arith, f.2, length-append old.held (take count piece), length-take-le count piece within)
taken_counted (Broken at size) count piece old new within f =
    ap taken f.3 ∙ omega (arith, length-append old.held (take count piece), length-take-le count piece within)
