use Rattle.std.proofs.Common.{◌≡◌, ◌<◌, ◌≤◌, ◌∙◌, ℕ, List, length, IsTrue, sym, ap, subst, arith}
use Rattle.std.proofs.lemmas.Bool.Decides.{nat_tests}
use Rattle.osc_atoms.specs.Atoms.{has_no_zero}
use Rattle.osc_cues.specs.Quoted.{text_read}
use Rattle.osc_cues.proofs.Texts.{onto, byte_on, text_done}
use Rattle.osc_cues.proofs.quoted.read_text.Goals as goal

pub loop-rest-preserved : goal.loop-rest-preserved
loop-rest-preserved c =
    let some : 0 < length c.loop-rest.rest.now = grind (arith, nat_tests) in
    record {
      read = ap (λ l. onto l (text_read c.args.quoted c.args.end c.in-Ok.after.now)) c.in_ok-add_byte-in-Ok.ensures
          ∙ byte_on c.args.quoted c.args.end c.in-Ok.byte c.loop-rest.rest.now c.in-Ok.after.now c.loop-rest.bytes.items some
          (sym c.in-Ok.ensures.value) c.in-Ok.ensures.shorter
          ∙ c.loop-rest.invariant.read;
      few = omega (arith, c.loop-rest.invariant.few, c.in-Ok.ensures.shorter);
    }

pub returns-clause-no_zero : goal.returns-clause-no_zero
returns-clause-no_zero c =
    let none : length c.loop-rest.rest.now ≡ 0 = grind (arith, nat_tests) in
    let is = text_done c.args.quoted c.args.end c.args.text.now c.loop-rest.rest.now c.loop-rest.bytes.items none
    c.loop-rest.invariant.read in
    subst (λ (l : List ℕ). IsTrue (has_no_zero l)) (sym c.of.ensures) is.no_zero

pub returns-clause-short : goal.returns-clause-short
returns-clause-short c =
    let none : length c.loop-rest.rest.now ≡ 0 = grind (arith, nat_tests) in
    let is = text_done c.args.quoted c.args.end c.args.text.now c.loop-rest.rest.now c.loop-rest.bytes.items none
    c.loop-rest.invariant.read in
    subst (λ (l : List ℕ). length l ≤ length c.args.text.now) (sym c.of.ensures) is.short
