use Rattle.osc_pattern.specs.Views.{is_place_of}
use Rattle.osc_pattern.proofs.Reaches.{any_rest-first}
use Rattle.osc_pattern.proofs.matcher.first_place.Goals as goal

pub returns : goal.returns
returns c test name = any_rest-first test (is_place_of c.none-first.result) (is_place_of c.add.new.self) c.none-first.ensures c.add.ensures name
