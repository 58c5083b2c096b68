use Rattle.osc_laws.proofs.Exact.{all_exact}
use Rattle.osc_laws.proofs.laws.each_release_calls_exactly_what_matches.Goals as goal

pub returns : goal.returns
returns c = all_exact (record {
  least = c.a_release_takes_the_least_unit.ensures.after;
  exactly = record { listed = c.the_matching_methods_ascend.ensures.exactly; decides = c.tests_are_exact.ensures.whole };
  ascends = c.the_matching_methods_ascend.ensures.ascending;
  opens = c.a_server_stays_sound.ensures.opening;
  stays = c.a_server_stays_sound.ensures.step;
  sound = c.a_server_stays_sound.ensures.after;
})
