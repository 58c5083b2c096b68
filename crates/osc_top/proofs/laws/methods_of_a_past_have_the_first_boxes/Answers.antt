use Rattle.osc_top.proofs.OldMarks.{first_boxes}
use Rattle.osc_top.proofs.laws.methods_of_a_past_have_the_first_boxes.Goals as goal

pub returns : goal.returns
returns g c =
    first_boxes g.M.Method.keep g.M.Method.heard c.a_server_stays_sound.ensures.step c.a_server_stays_sound.ensures.opening
    (record {
      all = c.a_legal_history_is_recordable.ensures.all;
      within = c.a_legal_history_is_recordable.ensures.within;
      again = c.a_written_entry_is_read_again.ensures;
    })
