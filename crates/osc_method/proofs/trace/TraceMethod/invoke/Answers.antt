use Rattle.std.proofs.Common.{List, ℕ, Some, length, ap, ◌∙◌, ◌++◌}
use Rattle.circular_buffer.specs.Buffer.{Buffer}
use Rattle.osc_atoms.specs.Atoms.{word, tag}
use Rattle.osc_method.specs.Heard.{last_of}
use Rattle.osc_method.proofs.Kept.{appended-appended}
use Rattle.osc_method.proofs.trace.TraceMethod.invoke.Goals as goal

pub returns-clause-heard : goal.returns-clause-heard
returns-clause-heard c =
    let old = c.args.self.now.bytes in
    let call = c.args.call.now in
    let head = c.head_of-head.result in
    let message = c.bytes-message.result.now in
    let both = appended-appended old _ _ head message c.extend_from_slice.ensures c.extend_from_slice-2.ensures in
    ap (λ (b : Buffer ℕ). Some b.items) both
    ∙ ap (λ (l : List ℕ). Some (last_of old.capacity (old.items ++ (l ++ message)))) c.head_of-head.ensures
    ∙ ap (λ (l : List ℕ). Some (last_of old.capacity (old.items ++ ((tag call.unit ++ (word call.index ++ word (length l))) ++ l))))
    c.bytes-message.ensures.value
