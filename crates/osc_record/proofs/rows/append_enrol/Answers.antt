use Rattle.std.proofs.Common.{◌≡◌, ◌++◌, ◌∷◌, [], codes, pos, to_z, of_z, w32, arith, ◌∙◌}
use Rattle.std.proofs.lemmas.Int.{to_z_pos, to_z-of_z}
use Rattle.osc_message.specs.Messages.{integer}
use Rattle.osc_model.specs.Recordings.{sized, row_text}
use Rattle.osc_record.proofs.rows.append_enrol.Goals as goal

pub returns-clause-out : goal.returns-clause-out
returns-clause-out c =
    let caller : to_z w32 c.args.caller ≡ pos c.args.caller = to_z_pos w32 c.args.caller (omega (arith, c.requires.fits.0)) in
    let answer : to_z w32 (of_z w32 c.args.answer) ≡ c.args.answer = to_z-of_z w32 c.args.answer c.requires.fits.1.0 in
    c.append_message.ensures.out
    ∙ (λ i. c.args.out.now.items ++ sized (row_text (record { address = codes "/osc/enrol"; arguments = integer (caller i) ∷ integer (answer i) ∷ [] })))
