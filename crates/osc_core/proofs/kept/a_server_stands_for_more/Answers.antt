use Rattle.osc_core.proofs.Texts.{TextLaws, same_next, called_next, fewer_next, more_next}
use Rattle.osc_core.proofs.kept.a_server_stands_for_more.Goals as goal

pub returns : goal.returns
returns c =
    let laws : TextLaws =
    record {
      all = c.a_legal_history_is_recordable.ensures.all;
      within = c.a_legal_history_is_recordable.ensures.within;
      again = c.a_written_entry_is_read_again.ensures;
    } in
    let legal = c.a_performance_goes_on.ensures.legal in
    record {
      same = λ performance caller event boxes texts stands enrolled lawful heard.
          same_next laws performance caller event boxes texts stands (legal performance caller event stands.legal enrolled lawful) heard;
      called = λ performance caller event invocations boxes texts stands enrolled lawful heard.
          called_next laws performance caller event invocations boxes texts stands (legal performance caller event stands.legal enrolled lawful) heard;
      fewer = λ performance caller event id boxes texts stands enrolled lawful heard.
          fewer_next laws performance caller event id boxes texts stands (legal performance caller event stands.legal enrolled lawful) heard;
      more = λ performance caller event told boxes texts stands enrolled lawful is heard.
          more_next laws performance caller event told boxes texts stands (legal performance caller event stands.legal enrolled lawful) is heard;
    }
