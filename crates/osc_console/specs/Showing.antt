-- What a link shows: the lines of a datagram, and of the units that were called since.
use Rattle.std.specs.Prelude.{◌≡◌, ◌⊎◌, ℕ, ◌==◌, if◌then◌else◌, List, [], ◌++◌, codes}
use Rattle.std.specs.Prelude.{Option, None, Some}
use Rattle.std.specs.Fmt.{decimal}
use Rattle.osc_atoms.specs.declared.limits.TheConstants.{MAX_PACKET}
use Rattle.osc_ends.specs.Sinks.{SinkChange, GainsAll, IsUntouched}
use Rattle.osc_packet.specs.Reading.{packet_fault, units_read}
use Rattle.osc_model.specs.declared.late.Late.{Late}
use Rattle.osc_shown.specs.declared.look.Look.{Look}
use Rattle.osc_shown.specs.declared.route.Route.{Route}
use Rattle.osc_shown.specs.Days.{AddsDay}
use Rattle.osc_console.specs.declared.lines.Came.{Came}
use Rattle.osc_console.specs.Agenda.{Waiter, after_datagram, AddsCalled}
use Rattle.osc_console.specs.Datagrams.{AddsDatagram}

-- how many datagrams weren't shown, if there are any
abbrev pub unshown_text : ℕ → List ℕ
unshown_text count =
    if count == 0 then []
    else codes "-- " ++ decimal count ++ codes " datagrams were not shown\n"

-- the line of the day of a moment, or none
abbrev pub IsDayOrNone : Look → ℕ → List ℕ → List ℕ → Type 0
IsDayOrNone look moment before after = (after ≡ before) ⊎ AddsDay look moment before after

-- the lines, after how many datagrams weren't shown, and after the line of a day or none
pub record PutsTogether (look : Look) (moment unshown : ℕ) (lines page : List ℕ) : Type 0 where
  pub front : List ℕ
  pub dated : IsDayOrNone look moment (unshown_text unshown) front
  pub whole : page ≡ front ++ lines

module _ (look : Look) (late : Late) (routes : List Route) where
  -- the lines of what came, if anything did
  abbrev pub AddsCame : Option Came → List ℕ → Type 0
  AddsCame None lines = lines ≡ []
  AddsCame (Some came) lines =
      AddsDatagram look late routes came.arrival came.datagram.now came.submission [] lines

  -- what waits then
  abbrev pub after_came : Option Came → List Waiter → List Waiter
  after_came None waiters = waiters
  after_came (Some came) waiters =
      after_datagram late (packet_fault MAX_PACKET came.datagram.now) came.submission
      came.arrival.sender (units_read came.datagram.now) waiters

  -- the lines of what came, and then of the units that were called up to a round of this moment
  pub record MakesLines (came : Option Came) (round : ℕ) (before after : List Waiter)
      (lines : List ℕ) : Type 0 where
    pub mid : List ℕ
    pub adds : AddsCame came mid
    pub called : AddsCalled look routes round (after_came came before) after mid lines

  -- The sink has gained these lines, after how many datagrams weren't shown and the line of a day,
  -- where it is another day; and nothing where there is no line.
  pub record Shows (came : Option Came) (round : ℕ) (before after : List Waiter)
      (sink : SinkChange) : Type 0 where
    pub lines : List ℕ
    pub makes : MakesLines came round before after lines
    pub written : ((lines ≡ []) × IsUntouched sink)
        ⊎ ((moment : ℕ) × (unshown : ℕ) × (page : List ℕ)
        × PutsTogether look moment unshown lines page × GainsAll sink page)
