use Rattle.osc_carry.proofs.Carrying.{OfRecordings}
use Rattle.osc_chain_laws.proofs.Turned.{stage_turned}
use Rattle.osc_chain_laws.proofs.laws.a_stage_turns_over.Goals as goal

pub returns : goal.returns
returns g c =
    let known : OfRecordings = record {
      all = c.a_legal_history_is_recordable.ensures.all;
      within = c.a_legal_history_is_recordable.ensures.within;
      apart = c.texts_differ.ensures;
    } in
    stage_turned _ _ _ _ _ _ known c.a_carried_script_leads_there.ensures c.the_limits_are_room_enough.ensures
