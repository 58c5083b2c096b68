use Rattle.osc_model.proofs.Recordable.{next_fits, all_fit, all_recorded, all_within}
use Rattle.osc_model.proofs.laws.a_legal_history_is_recordable.Goals as goal

pub returns-clause-next : goal.returns-clause-next
returns-clause-next c =
    next_fits (record {
      answers = record {
        spelled = c.tests_are_exact.ensures.address;
        exactly = record { listed = c.the_matching_methods_ascend.ensures.exactly; decides = c.tests_are_exact.ensures.whole };
      };
      sound = c.a_server_stays_sound.ensures.after;
      counted = c.a_server_stays_sound.ensures.counted;
    })

pub returns-clause-all : goal.returns-clause-all
returns-clause-all c =
    all_fit (record {
      answers = record {
        spelled = c.tests_are_exact.ensures.address;
        exactly = record { listed = c.the_matching_methods_ascend.ensures.exactly; decides = c.tests_are_exact.ensures.whole };
      };
      sound = c.a_server_stays_sound.ensures.after;
      counted = c.a_server_stays_sound.ensures.counted;
    })

pub returns-clause-recorded : goal.returns-clause-recorded
returns-clause-recorded c =
    all_recorded
    (record {
      answers = record {
        spelled = c.tests_are_exact.ensures.address;
        exactly = record { listed = c.the_matching_methods_ascend.ensures.exactly; decides = c.tests_are_exact.ensures.whole };
      };
      sound = c.a_server_stays_sound.ensures.after;
      counted = c.a_server_stays_sound.ensures.counted;
    })

pub returns-clause-within : goal.returns-clause-within
returns-clause-within c =
    all_within (record {
      answers = record {
        spelled = c.tests_are_exact.ensures.address;
        exactly = record { listed = c.the_matching_methods_ascend.ensures.exactly; decides = c.tests_are_exact.ensures.whole };
      };
      sound = c.a_server_stays_sound.ensures.after;
      counted = c.a_server_stays_sound.ensures.counted;
    })
