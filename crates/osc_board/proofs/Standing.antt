-- What stands is what osc_story has.
use Rattle.std.proofs.Common.{◌≡◌, List, [], ◌∷◌, refl, sym, subst}
use Rattle.osc_model.specs.Limits.{Limits}
use Rattle.osc_model.specs.Events.{Entry}
use Rattle.osc_model.specs.State.{State}
use Rattle.osc_story.specs.Standings.{Standing, Shows, standing_after}
use Rattle.osc_story.specs.Standings as story
use Rattle.osc_board.specs.Sights.{Sight, seen, seen_all, sight_after}

same : (sight : Sight) (entries : List Entry) → (seen_all sight entries).standing ≡ story.seen_all sight.standing entries
same sight [] = refl
same sight (entry ∷ entries) = same (seen sight entry) entries

pub shows : (caps : Limits) (history : List Entry) (state : State) → Shows (standing_after caps.late history) state → Shows (sight_after caps.late history).standing state
shows caps history state so =
    subst (λ (s : Standing). Shows s state) (sym (same (record { standing = story.opened caps.late; lasts = [] }) history)) so
