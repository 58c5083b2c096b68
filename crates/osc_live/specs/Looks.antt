-- What a token knows that only looks.
use Rattle.std.specs.Prelude.{◌≡◌}
use Rattle.osc_turn.specs.declared.view.View.{View}
use Rattle.osc_turn.specs.History.{StartsWith, own}
use Rattle.osc_turn.specs.Rule.{number_of}

-- It was only read and told of what others have seen, as often as may be: what is seen goes on from
-- what was seen, with no further own entry, and nothing else is known but how that came about.
pub record HasLooked (v w : View) : Type 0 where
  pub same : w ≡ record v { seen = w.seen; olds = w.olds; words = w.words; taken = w.taken }
  pub goes_on : StartsWith w.seen v.seen
  pub own_same : own (number_of v) w.seen ≡ own (number_of v) v.seen
