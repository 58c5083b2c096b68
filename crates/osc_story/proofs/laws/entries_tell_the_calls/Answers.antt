use Rattle.std.proofs.Common.{refl}
use Rattle.osc_model.specs.State.{opening}
use Rattle.osc_story.specs.Standings.{opened}
use Rattle.osc_story.proofs.Telling.{history_told}
use Rattle.osc_story.proofs.laws.entries_tell_the_calls.Goals as goal

pub returns : goal.returns
returns c = λ caps history legal.
    history_told (record {
      matches = record { listed = c.the_matching_methods_ascend.ensures.exactly; decides = c.tests_are_exact.ensures.whole };
      found = c.methods_stay_lawful.ensures.found;
      sound = c.a_server_stays_sound.ensures.step;
    }) (opening caps) (opened caps.late) history legal.1 (c.a_server_stays_sound.ensures.opening caps legal.0)
    (record { late = refl; clock = refl; methods = refl; queue = refl })
