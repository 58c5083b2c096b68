use Rattle.std.proofs.Common.{◌∙◌, ◌++◌, ℕ, length, length-append, replicate, ap, arith}
use Rattle.std.proofs.lemmas.List.{length-replicate}
use Rattle.osc_atoms.specs.Atoms.{blob_end}
use Rattle.osc_record.proofs.Submits.{submit_shape}
use Rattle.osc_record.proofs.rows.append_submit.Goals as goal

pub returns-clause-out : goal.returns-clause-out
returns-clause-out c =
    let packet = c.args.packet.now in
    let padding = blob_end (length packet) in
    c.append_submit_row.ensures.out
    ∙ ap (λ l. c.args.out.now.items ++ l)
    (submit_shape c.args.caller packet c.args.answer.code c.args.answer.first c.args.answer.second c.args.answer.third _
    (omega (arith, c.blob_size.ensures, length-append packet (replicate padding 0), length-replicate {A = ℕ} padding 0)))
