-- The ticker's share of a history.
use Rattle.std.specs.Prelude.{◌≡◌, ℕ, Bool, true, nat_lt, if◌then◌else◌, List, [], ◌∷◌, All, Option}
use Rattle.std.specs.Prelude.{Some, None}
use Rattle.osc_edge.specs.declared.clock.Moment.TheVariants.{At, Failed}
use Rattle.osc_edge.specs.Clock.{GivesMoment}
use Rattle.osc_edge.specs.Faults.{Rose}
use Rattle.osc_method.specs.Heard.{Fixed}
use Rattle.osc_model.specs.Events.{Room}
use Rattle.osc_record.specs.Shown.{room_of}
use Rattle.osc_script.specs.declared.act.Act.TheVariants.{Tick, Pump}
use Rattle.osc_script.specs.declared.line.Line.{Line}
use Rattle.osc_turn.specs.declared.view.Entry.{Entry as Seen}
use Rattle.osc_turn.specs.History.{StartsWith, own}
use Rattle.osc_links.specs.declared.served.TickerEnd.{TickerEnd}
use Rattle.osc_links.specs.declared.served.TickerEnd.TheVariants.{Done, ClockFailed, Full}
use Rattle.osc_life.specs.Holders.{Holder, Onward}
use Rattle.osc_lanes.specs.Shares.{ended, Plays}

-- a moment is handed in if it is the first, or greater than the last one that was
abbrev pub is_later : Option ℕ → ℕ → Bool
is_later None moment = true
is_later (Some last) moment = nat_lt last moment

-- the last moment that was handed in, after a round that reads this one
abbrev pub last_after : Option ℕ → ℕ → Option ℕ
last_after last moment = if is_later last moment then Some moment else last

abbrev pub tick_line : ℕ → Line
tick_line moment = record { number = 0; lane = 0; act = Tick moment }

abbrev pub pump_line : Line
pump_line = record { number = 0; lane = 0; act = Pump }

-- what a round plays that reads this moment
abbrev pub round_lines : Option ℕ → ℕ → List Line
round_lines last moment =
    if is_later last moment then tick_line moment ∷ pump_line ∷ [] else pump_line ∷ []

-- a clock gives these moments, one a call, and then has this left, where it tells
abbrev pub Reads : Option (List ℕ) → List ℕ → Option (List ℕ) → Type 0
Reads before [] after = after ≡ before
Reads before (moment ∷ moments) after =
    (between : Option (List ℕ)) × GivesMoment before between (At moment)
    × Reads between moments after

-- what a clock has left before and after, where it tells, and its counts of faults
pub record ClockRead : Type 0 where
  pub before : Option (List ℕ)
  pub after : Option (List ℕ)
  pub faults : ℕ
  pub now : ℕ

-- what a clock is read of, by what it has left and how often it has failed
abbrev pub clock_read : {C : Type 0} → (C → Option (List ℕ)) → (C → ℕ) → C → C → ClockRead
clock_read left faults before after =
    record {
      before = left before;
      after = left after;
      faults = faults before;
      now = faults after;
    }

module _ {M : Type 0} (keep : M → Fixed) (heard : M → Option (List ℕ)) where
  -- one round is played between two places, up to the first event that finds no room
  abbrev pub PlaysRound : Holder → Option ℕ → ℕ → Option Room → List Seen → List Seen → Type 0
  PlaysRound holder last moment stop here there =
      Plays keep heard holder (round_lines last moment) [] (ended [] stop) here there

  -- rounds that read these moments, one after another, each of which finds room
  abbrev pub PlaysRounds : Holder → Option ℕ → List ℕ → Option ℕ → List Seen → List Seen
      → Type 0
  PlaysRounds holder first [] last here there = (last ≡ first) × (there ≡ here)
  PlaysRounds holder first (moment ∷ moments) last here there =
      (place : List Seen) × PlaysRound holder first moment None here place
      × PlaysRounds holder (last_after first moment) moments last place there

  -- One more round, at a place that goes on from what was seen.
  abbrev pub PlaysLast : Holder → Option ℕ → Option Room → List (List Seen) → Option (List ℕ)
      → Option (List ℕ) → List Seen → List Seen → Type 0
  PlaysLast holder last stop tokens before after here there =
      (moment : ℕ) × (start : List Seen) × GivesMoment before after (At moment)
      × Onward holder.token here start × All (StartsWith start) tokens
      × PlaysRound holder last moment stop start there

  -- How a ticker ends after its rounds. Done, it plays one more, which begins after all that these
  -- tokens have seen. It ends earlier where the clock fails, whose count of faults rose, or where a
  -- round finds no room.
  abbrev pub EndsTicks : Holder → Option ℕ → List (List Seen) → Option (List ℕ) → ClockRead
      → TickerEnd → List Seen → List Seen → Type 0
  EndsTicks holder last tokens before clock Done here there = (clock.now ≡ clock.faults)
      × PlaysLast holder last None tokens before clock.after here there
  EndsTicks holder last tokens before clock ClockFailed here there =
      Rose clock.faults clock.now × GivesMoment before clock.after Failed
      × Onward holder.token here there
  EndsTicks holder last tokens before clock (Full room) here there =
      (clock.now ≡ clock.faults)
      × PlaysLast holder last (Some (room_of room)) [] before clock.after here there

  -- The ticker plays rounds between two places, one for each moment that the clock gives, and then
  -- ends.
  pub record Ticks (holder : Holder) (tokens : List (List Seen)) (clock : ClockRead)
      (end : TickerEnd) (here there : List Seen) : Type 0 where
    pub moments : List ℕ
    pub last : Option ℕ
    pub between : Option (List ℕ)
    pub place : List Seen
    pub reads : Reads clock.before moments between
    pub rounds : PlaysRounds holder None moments last here place
    pub ends : EndsTicks holder last tokens between clock end place there

  -- The ticker's share of a history: its rounds were played from where its token came in, and the
  -- history has no other entry of it.
  abbrev pub TickOf : Holder → List (List Seen) → ClockRead → TickerEnd → List Seen → Type 0
  TickOf holder tokens clock end history =
      (here : List Seen) × (there : List Seen) × (own holder.token here ≡ [])
      × Ticks holder tokens clock end here there × Onward holder.token there history
