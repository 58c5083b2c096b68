use Rattle.osc_replay.proofs.OneDisagreement.{one_disagrees, formed_there}
use Rattle.osc_replay.proofs.Replayed.{none_disagrees}
use Rattle.osc_replay.proofs.laws.a_disagreeing_entry_is_the_only_one.Goals as goal

pub returns : goal.returns
returns c = record {
  entry = one_disagrees;
  formed = formed_there;
  none = none_disagrees c.a_legal_history_is_recordable.ensures.all c.a_legal_history_is_recordable.ensures.within;
}
