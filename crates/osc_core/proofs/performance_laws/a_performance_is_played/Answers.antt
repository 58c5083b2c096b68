use Rattle.osc_core.proofs.Played.{Laws, are_small, is_full, is_played, is_refused}
use Rattle.osc_core.proofs.performance_laws.a_performance_is_played.Goals as goal

pub returns : goal.returns
returns c =
    let laws : Laws = record {
      sound = c.a_server_stays_sound.ensures.after;
      counted = c.a_server_stays_sound.ensures.counted;
      legal = c.a_performance_goes_on.ensures.legal;
      state = c.a_performance_goes_on.ensures.state;
      next = c.a_legal_history_is_recordable.ensures.next;
      recorded = c.a_legal_history_is_recordable.ensures.recorded;
      full = c.a_full_recording_refuses.ensures.full;
      room = c.a_full_recording_refuses.ensures.room;
      sizes = c.sizes.ensures.entry;
    } in
    record { small = are_small laws; full = is_full laws; played = is_played laws; refused = is_refused laws }
