-- The text and then its end are the string.
use Rattle.std.proofs.Common.{ℕ, List, length, replicate, ◌∙◌, ap, arith, length-append}
use Rattle.osc_atoms.specs.Atoms.{with_atom, string_end}
use Rattle.osc_atoms.proofs.Writings.{both_written, zeros_of}
use Rattle.osc_atoms.proofs.writes.write_string.Goals as goal

pub returns-clause-out : goal.returns-clause-out
returns-clause-out c =
    let text = c.args.text.now in
    let end : List ℕ = replicate (string_end (length text)) 0 in
    let zeros = zeros_of c.string_end.result c.string_end.ensures.below ∙ ap (λ (n : ℕ). replicate n 0) c.string_end.ensures.value in
    both_written c.args.out.now c.args.at c.write_bytes-end.result text end _ _ c.write_bytes-end.ensures.out c.write_bytes-end.ensures.next
    (c.write_bytes.ensures.out ∙ ap (with_atom c.write_bytes-end.new.out c.write_bytes-end.result) zeros)
    (omega (arith, c.requires.fits, length-append text end))
