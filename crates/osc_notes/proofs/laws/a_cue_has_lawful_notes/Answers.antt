use Rattle.osc_notes.proofs.Lawful.{ReadsAgain, cue_lawful, known_again, bare_again}
use Rattle.osc_notes.proofs.laws.a_cue_has_lawful_notes.Goals as goal

pub returns : goal.returns
returns c =
    let again = c.written_is_read_again.ensures in
    let reads : ReadsAgain = record {
      of_bare = λ pattern lawful. (again.of_bare pattern lawful).2;
      of_known = λ pattern arguments lawful. (again.of_known pattern arguments lawful).2;
      of_unknown = λ pattern tags rest lawful. (again.of_unknown pattern tags rest lawful).3;
    } in
    record { lawful = cue_lawful reads; tagged = known_again reads; bare = bare_again reads }
