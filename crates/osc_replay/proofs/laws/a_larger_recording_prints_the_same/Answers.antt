use Rattle.osc_replay.proofs.Roomier.{prints_the_same_in, refused_with_one, not_with_two}
use Rattle.osc_replay.proofs.laws.a_larger_recording_prints_the_same.Goals as goal

pub returns : goal.returns
returns c = record { same = prints_the_same_in; one_caller = refused_with_one; two_callers = not_with_two }
