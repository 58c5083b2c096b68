use Rattle.std.proofs.Common.{◌<◌, ◌∙◌, ℕ, List, length, sym, ap, arith}
use Rattle.std.proofs.lemmas.Bool.Decides.{nat_tests}
use Rattle.osc_score.specs.ArgumentWords.{text_read}
use Rattle.osc_score.proofs.Texts.{after_front, byte_on}
use Rattle.osc_score.proofs.text.read_text.Goals as goal

pub loop-rest-preserved : goal.loop-rest-preserved
loop-rest-preserved c =
    let some : 0 < length c.loop-rest.rest.now = grind (arith, nat_tests) in
    ap (λ (l : List ℕ). after_front l (text_read c.in-Some.after.now)) c.in_ok-push-in-Some.ensures.items
    ∙ byte_on c.loop-rest.rest.now c.in-Some.byte c.in-Some.after.now c.loop-rest.text.items some (sym c.in-Some.ensures.value) c.in-Some.ensures.shorter
    ∙ c.loop-rest.invariant
