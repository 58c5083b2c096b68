use Rattle.osc_notes.specs.Cued.{cued_notes}
use Rattle.osc_notes.proofs.Lawful.{ReadsAgain, cued_lawful, cued_ordered}
use Rattle.osc_notes.proofs.Again.{notes_again}
use Rattle.osc_notes.proofs.laws.a_sheet_is_read_again.Goals as goal

pub returns : goal.returns
returns c addresses cues all each ordered short =
    let again = c.written_is_read_again.ensures in
    let reads : ReadsAgain = record {
      of_bare = λ pattern lawful. (again.of_bare pattern lawful).2;
      of_known = λ pattern arguments lawful. (again.of_known pattern arguments lawful).2;
      of_unknown = λ pattern tags rest lawful. (again.of_unknown pattern tags rest lawful).3;
    } in
    notes_again c.tests_are_exact.ensures.address (cued_notes addresses cues) (cued_lawful reads addresses cues all each)
    (cued_ordered 2 addresses cues ordered) short
