-- What a token knows that only looks.
use Rattle.std.proofs.Common.{◌≡◌, ℕ, refl, sym, ap, subst, ◌∙◌}
use Rattle.osc_turn.specs.declared.view.View.{View}
use Rattle.osc_turn.specs.History.{StartsWith, own}
use Rattle.osc_turn.specs.Rule.{number_of}
use Rattle.osc_turn.proofs.Histories.{starts_here, starts_on}
use Rattle.osc_live.specs.Calls.{TakesTurn}
use Rattle.osc_live.specs.Looks.{HasLooked}

-- it has the number that it had
pub same_number : (v w : View) → HasLooked v w → number_of w ≡ number_of v
same_number v w looked = ap number_of looked.same

-- at first
pub looked_here : (v : View) → HasLooked v v
looked_here v = record { same = refl; goes_on = starts_here v.seen; own_same = refl }

-- and again
pub looked_on : (v w u : View) → HasLooked v w → HasLooked w u → HasLooked v u
looked_on v w u first next = record {
  same = next.same ∙ ap (λ (z : View). record z { seen = u.seen; olds = u.olds; words = u.words; taken = u.taken }) first.same;
  goes_on = starts_on u.seen w.seen v.seen next.goes_on first.goes_on;
  own_same = subst (λ (n : ℕ). own n u.seen ≡ own n w.seen) (same_number v w first) next.own_same ∙ first.own_same;
}

-- a read that took the turn
pub looked_once : (v w : View) → TakesTurn v w → StartsWith w.seen v.seen → own (number_of v) w.seen ≡ own (number_of v) v.seen → HasLooked v w
looked_once v w once starts own_same = record {
  same = once ∙ (λ i. record v { seen = w.seen; olds = w.olds; words = w.words; taken = sym (ap (λ (z : View). z.taken) once) i });
  goes_on = starts;
  own_same = own_same;
}
