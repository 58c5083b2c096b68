use Rattle.osc_carry.proofs.Carrying.{OfRecordings}
use Rattle.osc_chain_laws.proofs.Shown.{show_chain}
use Rattle.osc_chain_laws.proofs.laws.a_show_is_a_chain.Goals as goal

pub returns : goal.returns
returns g c first scenes is show =
    let known : OfRecordings = record {
      all = c.a_legal_history_is_recordable.ensures.all;
      within = c.a_legal_history_is_recordable.ensures.within;
      apart = c.texts_differ.ensures;
    } in
    show_chain _ _ _ _ known c.a_history_is_carried_on.ensures c.chained_recordings_play_as_one.ensures first scenes is show
