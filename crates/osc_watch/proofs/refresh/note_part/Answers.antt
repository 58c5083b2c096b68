use Rattle.std.proofs.Common.{◌≡◌, ℕ, ◌+◌, ◌-◌, List, ◌++◌, length, refl, ap, sym, ◌∙◌}
use Rattle.osc_model.specs.Limits.{header_size}
use Rattle.osc_watch.specs.Notes.{place_in}
use Rattle.osc_watch.specs.Watching.{noted}
use Rattle.osc_watch.proofs.PartsRead.{part_notes}
use Rattle.osc_watch.proofs.refresh.note_part.Goals as goal

pub note_all-stop-requires-clause-within : goal.note_all-stop-requires-clause-within
note_all-stop-requires-clause-within c =
    let (caps, stand) = c.requires.within in (
      caps,
      c.args.part.now,
      record { lawful = stand.lawful; header_is = refl; within = stand.within },
      c.as_slice.ensures.value ∙ (c.in-Ok.ensures ∙ ap (λ (l : List ℕ). l ++ c.args.part.now) stand.header_is),
    )

pub returns-clause-part : goal.returns-clause-part
returns-clause-part c =
    let len : length c.as_slice.result.now ≡ c.len.result = ap length c.as_slice.ensures.value ∙ (sym c.in-Ok.bytes.ok.0 ∙ sym c.len.ensures) in
    part_notes c.args.header.now c.args.part.now c.as_slice.result.now c.args.board.now.at _ (noted c.args.board.now) (noted c.note_all-stop.new.board)
    c.note_all-stop.result (c.as_slice.ensures.value ∙ c.in-Ok.ensures) c.requires.header c.note_all-stop.ensures.place
    (ap (λ n. c.note_all-stop.new.board.at + (n - header_size)) (c.place_in.ensures ∙ ap (λ n. place_in n c.note_all-stop.result) (sym len))
    ∙ ap (λ n. n + (place_in (length c.as_slice.result.now) c.note_all-stop.result - header_size)) (sym c.note_all-stop.ensures.board.1))
    c.note_all-stop.ensures.notes
