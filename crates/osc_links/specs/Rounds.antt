-- Inside the crate: the rounds of the ticker.
use Rattle.std.specs.Prelude.{◌≡◌, ◌≢◌, ℕ, List, [], Option, None}
use Rattle.osc_edge.specs.declared.clock.Moment.TheVariants.{At}
use Rattle.osc_edge.specs.Clock.{GivesMoment}
use Rattle.osc_method.specs.Heard.{Fixed}
use Rattle.osc_turn.specs.declared.view.Entry.{Entry as Seen}
use Rattle.osc_turn.specs.declared.view.View.{View}
use Rattle.osc_turn.specs.History.{StartsWith}
use Rattle.osc_links.specs.declared.served.TickerEnd.{TickerEnd}
use Rattle.osc_links.specs.declared.served.TickerEnd.TheVariants.{Done}
use Rattle.osc_links.specs.declared.ticker.Round.{Round}
use Rattle.osc_links.specs.declared.ticker.Round.TheVariants.{Played, Over}
use Rattle.osc_life.specs.Holders.{Holder, Onward}
use Rattle.osc_links.specs.Ticks.{last_after, Reads, ClockRead, PlaysRound, PlaysRounds, EndsTicks}
use Rattle.osc_links.specs.Ticks.{Ticks}

module _ {M : Type 0} (keep : M → Fixed) (heard : M → Option (List ℕ)) where
  -- one round was played, or the ticker has ended in it
  abbrev pub IsRound : Holder → Option ℕ → ClockRead → Round → List Seen → List Seen → Type 0
  IsRound holder last clock (Played after) here there =
      (clock.now ≡ clock.faults) × (moment : ℕ) × GivesMoment clock.before clock.after (At moment)
      × PlaysRound keep heard holder last moment None here there × (after ≡ last_after last moment)
  IsRound holder last clock (Over end) here there =
      (end ≢ Done) × EndsTicks keep heard holder last [] clock.before clock end here there

  -- rounds were played, or the ticker has ended in one
  abbrev pub TicksMeanwhile : Holder → ClockRead → Round → List Seen → List Seen → Type 0
  TicksMeanwhile holder clock (Played last) here there =
      (clock.now ≡ clock.faults) × (moments : List ℕ) × Reads clock.before moments clock.after
      × PlaysRounds keep heard holder None moments last here there
  TicksMeanwhile holder clock (Over end) here there =
      (end ≢ Done) × Ticks keep heard holder [] clock end here there

  -- Whatever comes of further rounds comes of all.
  abbrev pub RoundsGoOn : Holder → Option (List ℕ) → List Seen → Option ℕ → Option (List ℕ)
      → List Seen → Type 0
  RoundsGoOn holder start here last left now =
      (more : List ℕ) (later : Option ℕ) (after : Option (List ℕ)) (there : List Seen)
      → Reads left more after → PlaysRounds keep heard holder last more later now there
      → (all : List ℕ) × Reads start all after
      × PlaysRounds keep heard holder None all later here there

  -- rounds were played, and more may be, or the ticker has ended in one
  abbrev pub HasTicked : Holder → ClockRead → Round → List Seen → List Seen → Type 0
  HasTicked holder clock (Played last) here there =
      (clock.now ≡ clock.faults) × RoundsGoOn holder clock.before here last clock.after there
  HasTicked holder clock (Over end) here there = TicksMeanwhile holder clock (Over end) here there

  -- the ticker ended so, and its token was told no more than what others have done
  abbrev pub HasEnded : Holder → List (List Seen) → ClockRead → TickerEnd → List Seen → List Seen
      → Type 0
  HasEnded holder tokens clock end here now =
      (there : List Seen) × Ticks keep heard holder tokens clock end here there
      × Onward holder.token there now × (end ≡ Done → now ≡ there)

-- how the ticker has ended, once this was the result of its last round
abbrev pub end_of : Round → TickerEnd
end_of (Played last) = Done
end_of (Over end) = end

-- the token has seen no less, and made none
pub record Keeps (v w : View) : Type 0 where
  pub starts : StartsWith w.seen v.seen
  pub made : w.made ≡ v.made
