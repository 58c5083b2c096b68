use Rattle.osc_carry.proofs.Carrying.{OfRecordings}
use Rattle.osc_chain_laws.proofs.Continuing.{history_of, stage_recorded}
use Rattle.osc_chain_laws.proofs.Shown.{same_history}
use Rattle.osc_chain_laws.proofs.laws.a_stage_has_one_history.Goals as goal

pub returns : goal.returns
returns g c stage clock staged rec is records =
    let known : OfRecordings = record {
      all = c.a_legal_history_is_recordable.ensures.all;
      within = c.a_legal_history_is_recordable.ensures.within;
      apart = c.texts_differ.ensures;
    } in
    same_history known stage.caps (history_of _ _ _ _ stage clock staged is) records.history staged.recording.items
    (stage_recorded _ _ _ _ stage clock staged is) records.legal records.recording
