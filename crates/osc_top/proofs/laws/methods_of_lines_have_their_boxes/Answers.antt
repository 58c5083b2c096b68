use Rattle.osc_top.proofs.LineMarks.{new_boxes, later_boxes}
use Rattle.osc_top.proofs.laws.methods_of_lines_have_their_boxes.Goals as goal

pub returns-clause-new : goal.returns-clause-new
returns-clause-new g c =
    new_boxes g.M.Method.keep g.M.Method.heard
    (record {
      all = c.a_legal_history_is_recordable.ensures.all;
      within = c.a_legal_history_is_recordable.ensures.within;
      again = c.a_written_entry_is_read_again.ensures;
    })

pub returns-clause-later : goal.returns-clause-later
returns-clause-later g c =
    later_boxes g.M.Method.keep g.M.Method.heard c.a_server_stays_sound.ensures.step c.a_server_stays_sound.ensures.opening
    (record {
      all = c.a_legal_history_is_recordable.ensures.all;
      within = c.a_legal_history_is_recordable.ensures.within;
      again = c.a_written_entry_is_read_again.ensures;
    })
