-- The count, the bytes and then their padding are the blob.
use Rattle.std.proofs.Common.{◌≡◌, ℕ, ◌+◌, ◌≤◌, List, ◌++◌, length, replicate, ◌∙◌, ap, arith, length-append}
use Rattle.osc_atoms.specs.Atoms.{with_atom, word, blob_end}
use Rattle.osc_atoms.proofs.Writings.{both_written, zeros_of}
use Rattle.osc_atoms.proofs.writes.write_blob.Goals as goal

pub returns-clause-out : goal.returns-clause-out
returns-clause-out c =
    let content = c.args.blob.now in
    let count : List ℕ = word (length content) in
    let end : List ℕ = replicate (blob_end (length content)) 0 in
    let zeros = zeros_of c.blob_end.result (omega arith) ∙ ap (λ (n : ℕ). replicate n 0) c.blob_end.ensures.value in
    let fits : c.args.at + (4 + length content + length end) ≤ length c.args.out.now = omega (arith, c.requires.fits, length-append content end) in
    let front : c.write_bytes-end.new.out ≡ with_atom c.args.out.now c.args.at (count ++ content) =
    both_written c.args.out.now c.args.at c.write_word-start.result count content _ _ c.write_word-start.ensures.out c.write_word-start.ensures.next
    c.write_bytes-end.ensures.out (omega arith) in
    both_written c.args.out.now c.args.at c.write_bytes-end.result (count ++ content) end _ _ front (omega arith)
    (c.write_bytes.ensures.out ∙ ap (with_atom c.write_bytes-end.new.out c.write_bytes-end.result) zeros)
    (omega arith)
