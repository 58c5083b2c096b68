use Rattle.std.proofs.Common.{◌≡◌, ◌++◌, length}
use Rattle.osc_picture.specs.Headings.{notes_text, after_notes}
use Rattle.osc_picture.proofs.heading.add_notes.Given as goal

-- what is added, and what the rest adds, is all
abbrev pub invariant-loop-note : goal.invariant-loop-note
invariant-loop-note l = record {
  text : l.out.items ++ notes_text l.y l.rest ≡ l.initial.out.items ++ notes_text l.begin l.notes;
  end : after_notes l.y l.rest ≡ after_notes l.begin l.notes;
}

abbrev pub decreases-loop-note : goal.decreases-loop-note
decreases-loop-note l = length l.rest
