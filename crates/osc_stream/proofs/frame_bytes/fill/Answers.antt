use Rattle.std.proofs.Common.{◌≡◌, ℕ, ◌+◌, ◌-◌, List, ◌++◌, length, take, drop, ap, ◌∙◌, subst, sym, min, length-drop}
use Rattle.std.proofs.lemmas.List.{take_rest}
use Rattle.osc_stream.specs.Frames.{wanted, front}
use Rattle.osc_stream.specs.Feeding.{HasFilled}
use Rattle.osc_stream.proofs.Fills.{filled_whole}
use Rattle.osc_stream.proofs.frame_bytes.fill.Goals as goal

pub returns-clause-filled : goal.returns-clause-filled
returns-clause-filled c =
    let piece = c.args.piece.now in
    let mid = c.grow-first.new.bytes.items in
    let first = c.grow-first.result in
    let second = c.grow-second.result in
    let counted : second ≡ min (wanted mid) (length piece - first) =
    c.grow-second.ensures.count ∙ ap (min (wanted mid)) (ap length (take_rest piece first) ∙ length-drop first piece) in
    let made : c.grow-second.new.bytes.items ≡ mid ++ take second (drop first piece) =
    c.grow-second.ensures.items ∙ ap (λ (r : List ℕ). mid ++ take second r) (take_rest piece first) in
    subst (λ f. HasFilled f (first + second) piece c.args.bytes.now.items c.grow-second.new.bytes.items)
    (sym (c.front_of.ensures ∙ ap front c.deref.ensures.value))
    (filled_whole c.args.bytes.now.items piece mid c.grow-second.new.bytes.items first second c.requires.held c.grow-first.ensures.count
    c.grow-first.ensures.items counted made)
