use Rattle.std.proofs.Common.{◌≡◌, ◌++◌, take}
use Rattle.osc_notes.specs.Notes.{score_text, notes_of}
use Rattle.osc_notes.proofs.note.add_lines.Given as goal

abbrev pub invariant-loop-method : goal.invariant-loop-method
invariant-loop-method l =
    l.text ≡ l.initial.text ++ score_text (notes_of l.moment l.message (take l.method-index l.methods))
