-- What a history comes to at whose end nothing is due.
use Rattle.std.proofs.Common.{◌≡◌, ℕ, Bool, true, false, cond, List, [], ◌∷◌, ◌++◌, get_or, All, Option, Some, None, refl, sym, ap, subst}
use Rattle.std.proofs.Common.{◌∙◌}
use Rattle.std.specs.Prelude.{MatchOption}
use Rattle.osc_method.specs.Heard.{Fixed}
use Rattle.osc_model.specs.Events.{Answer, Room, release, nothing_due, record_full, room_in}
use Rattle.osc_model.specs.History.{stepped_in}
use Rattle.osc_turn.specs.declared.view.Entry.{Entry as Seen}
use Rattle.osc_turn.specs.History.{StartsWith, texts}
use Rattle.osc_turn.proofs.Histories.{starts_here, starts_on}
use Rattle.osc_live.specs.Seen.{performance_in}
use Rattle.osc_links.specs.declared.served.TickerEnd.TheVariants.{Done}
use Rattle.osc_links.specs.Hosts.{IsSettled}
use Rattle.osc_life.specs.Holders.{Holder}
use Rattle.osc_lanes.specs.Shares.{Answered, Account, then_told, ended, EndsPump, Plays}
use Rattle.osc_links.specs.Ticks.{ClockRead, is_later, last_after, tick_line, pump_line, round_lines, PlaysRound, PlaysRounds, EndsTicks, Ticks}
use Rattle.osc_links.proofs.Opening.{counts_plays}

none_appended : {X : Type 0} (xs ys : List X) → xs ++ ys ≡ [] → ys ≡ []
none_appended [] ys is = is
none_appended (x ∷ xs) ys is = absurd (cc)

module _ {M : Type 0} (keep : M → Fixed) (heard : M → Option (List ℕ)) (holder : Holder) where
  -- a pump that ends with room leaves nothing that is due
  pump_settles : (here there : List Seen) → Plays keep heard holder (pump_line ∷ []) [] (ended [] None) here there → IsSettled holder.caps there
  pump_settles here there (left, first, place, (same, count, middle, answer, releases, a, ends, is), more) = go answer first.stop is refl a ends more where
    go : (answer : Answer) (stop : Option Room) → first ≡ ended [] (room_in answer) → first.stop ≡ stop → Answered holder release answer middle place
        → EndsPump answer
        → MatchOption stop ((rest : Account M) × (ended [] None ≡ then_told first rest) × Plays keep heard holder [] left rest place there)
        (λ room. (ended [] None ≡ then_told first (ended left (Some room))) × (there ≡ place))
        → IsSettled holder.caps there
    go (nothing_due next) None is stop_is a ends (rest, told_is, (rest_is, same)) = (
      next,
      a.decided ∙ ap (λ (l : List Seen). (stepped_in (performance_in holder.caps (texts l)) release).answer) (sym (same ∙ a.then_seen)),
    )
    go answer (Some room) is stop_is a ends (told_is, same) = let none = ap (λ (one : Account M). one.stop) told_is in absurd (cc)
    go (record_full room) None is stop_is a ends more = let some = ap (λ (one : Account M). one.stop) is in absurd (cc)
    go _ None is stop_is a ends more = absurd ends

  -- what is told after nothing, where it comes to nothing
  rest_ended : (first rest : Account M) → ended [] None ≡ then_told first rest → rest ≡ ended [] None
  rest_ended first rest is =
      λ i. record {
        faults = none_appended first.faults rest.faults (sym (ap (λ (one : Account M). one.faults) is)) i;
        removed = none_appended first.removed rest.removed (sym (ap (λ (one : Account M). one.removed) is)) i;
        back = none_appended first.back rest.back (sym (ap (λ (one : Account M). one.back) is)) i;
        stop = sym (ap (λ (one : Account M). one.stop) is) i;
      }

  round_settles : (last : Option ℕ) (moment : ℕ) (here there : List Seen) → PlaysRound keep heard holder last moment None here there
      → IsSettled holder.caps there
  round_settles last moment here there plays = go (is_later last moment) plays where
    go : (t : Bool) → Plays keep heard holder (cond t (tick_line moment ∷ pump_line ∷ []) (pump_line ∷ [])) [] (ended [] None) here there
        → IsSettled holder.caps there
    go false plays = pump_settles here there plays
    go true (left, first, place, one, more) = rest_after first.stop more where
      rest_after : (stop : Option Room)
          → MatchOption stop ((rest : Account M) × (ended [] None ≡ then_told first rest) × Plays keep heard holder (pump_line ∷ []) left rest place there)
          (λ room. (ended [] None ≡ then_told first (ended left (Some room))) × (there ≡ place))
          → IsSettled holder.caps there
      rest_after None (rest, told_is, plays) =
          let same : left ≡ [] = one.0 in
          let is : rest ≡ ended [] None = rest_ended first rest told_is in
          pump_settles place there
          (subst (λ (q : List M × Account M). Plays keep heard holder (pump_line ∷ []) q.0 q.1 place there) (λ i. (same i, is i)) plays)
      rest_after (Some room) (told_is, same) = let none = ap (λ (one : Account M). one.stop) told_is in absurd (cc)

  -- the ticker's rounds go on from what it had seen
  rounds_start : (first : Option ℕ) (moments : List ℕ) (last : Option ℕ) (here there : List Seen)
      → PlaysRounds keep heard holder first moments last here there → StartsWith there here
  rounds_start first [] last here there (is, same) = subst (λ (l : List Seen). StartsWith l here) (sym same) (starts_here here)
  rounds_start first (moment ∷ moments) last here there (place, one, more) =
      starts_on there place here (rounds_start (last_after first moment) moments last place there more)
      (counts_plays holder keep heard (round_lines first moment) [] (ended [] None) here place one).0

  -- After its last round the ticker has seen all that it and the links had seen, and nothing is due.
  pub done_settles : (tokens : List (List Seen)) (clock : ClockRead) (here there : List Seen) → Ticks keep heard holder tokens clock Done here there
      → StartsWith there here × All (StartsWith there) tokens × IsSettled holder.caps there
  done_settles tokens clock here there ticks = go ticks.ends where
    go : EndsTicks keep heard holder ticks.last tokens ticks.between clock Done ticks.place there
        → StartsWith there here × All (StartsWith there) tokens × IsSettled holder.caps there
    go (steady, (moment, start, gives, on, all, plays)) =
        let starts = (counts_plays holder keep heard (round_lines ticks.last moment) [] (ended [] None) start there plays).0 in (
          starts_on there start here starts
              (starts_on start ticks.place here on.0 (rounds_start None ticks.moments ticks.last here ticks.place ticks.rounds)),
          λ k d within. starts_on there start (get_or tokens k d) starts (all k d within),
          round_settles ticks.last moment start there plays,
        )
