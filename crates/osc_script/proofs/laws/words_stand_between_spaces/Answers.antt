use Rattle.osc_script.proofs.Cutting.{space_tells_nothing, space_ends, last_word}
use Rattle.osc_script.proofs.laws.words_stand_between_spaces.Goals as goal

pub returns : goal.returns
returns c = record { spaced = space_tells_nothing; word = space_ends; last = last_word }
