use Rattle.osc_replay.proofs.OldFormed.{old_formed}
use Rattle.osc_replay.proofs.laws.an_old_history_is_formed.Goals as goal

pub returns : goal.returns
returns c =
    old_formed
    (record {
      answers = record {
        spelled = c.tests_are_exact.ensures.address;
        exactly = record { listed = c.the_matching_methods_ascend.ensures.exactly; decides = c.tests_are_exact.ensures.whole };
      };
      opens = c.a_server_stays_sound.ensures.opening;
      steps = c.a_server_stays_sound.ensures.step;
      delivers = c.all_are_delivered.ensures.none;
    })
