use Rattle.std.proofs.Common.{◌≡◌, ◌++◌, ◌∷◌, [], codes, pos, to_z, w32, arith, ap, ◌∙◌}
use Rattle.std.proofs.lemmas.Int.{to_z_pos}
use Rattle.osc_message.specs.Messages.{integer}
use Rattle.osc_model.specs.Recordings.{late_code, sized, row_text}
use Rattle.osc_record.proofs.rows.append_header.Goals as goal

pub returns-clause-out : goal.returns-clause-out
returns-clause-out c =
    let units : to_z w32 c.units.result ≡ pos c.args.caps.units = to_z_pos w32 c.units.result (omega (arith, c.units.ensures.range.units.below))
    ∙ ap pos c.units.ensures.value in
    let blocks : to_z w32 c.blocks-2.result ≡ pos c.args.caps.blocks =
    to_z_pos w32 c.blocks-2.result (omega (arith, c.blocks-2.ensures.range.blocks.below)) ∙ ap pos c.blocks-2.ensures.value in
    let methods : to_z w32 c.methods.result ≡ pos c.args.caps.methods =
    to_z_pos w32 c.methods.result (omega (arith, c.methods.ensures.range.methods.below)) ∙ ap pos c.methods.ensures.value in
    let nodes : to_z w32 c.nodes.result ≡ pos c.args.caps.nodes = to_z_pos w32 c.nodes.result (omega (arith, c.nodes.ensures.range.nodes.below))
    ∙ ap pos c.nodes.ensures.value in
    let callers : to_z w32 c.callers.result ≡ pos c.args.caps.callers =
    to_z_pos w32 c.callers.result (omega (arith, c.callers.ensures.range.callers.below)) ∙ ap pos c.callers.ensures.value in
    let recording : to_z w32 c.recording.result ≡ pos c.args.caps.recording =
    to_z_pos w32 c.recording.result (omega (arith, c.recording.ensures.range.recording.below)) ∙ ap pos c.recording.ensures.value in
    let late : to_z w32 c.late_code.result ≡ pos (late_code c.args.caps.late) =
    to_z_pos w32 c.late_code.result (omega (arith, c.late_code.ensures.small)) ∙ ap pos (c.late_code.ensures.value ∙ ap late_code c.late.ensures.value) in
    c.append_message.ensures.out
    ∙ (λ i. c.args.out.now.items
    ++ sized (row_text
    (record {
      address = codes "/osc/rec";
      arguments = integer (pos 2) ∷ integer (units i) ∷ integer (blocks i) ∷ integer (methods i) ∷ integer (nodes i) ∷ integer (callers i)
          ∷ integer (recording i) ∷ integer (late i) ∷ [];
    })))
