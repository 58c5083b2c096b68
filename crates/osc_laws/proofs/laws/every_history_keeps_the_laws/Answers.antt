use Rattle.osc_laws.proofs.laws.every_history_keeps_the_laws.Goals as goal

pub returns : goal.returns
returns c caps history legal = record {
  consecutive = c.the_calls_of_a_unit_stand_together.ensures caps history legal;
  in_time = c.no_unit_is_released_before_its_tag.ensures caps history legal;
  exact = c.each_release_calls_exactly_what_matches.ensures caps history legal;
  once = c.every_unit_is_released_once_or_waits.ensures caps history legal;
}
