-- What a link that is shown keeps, and what it shows.
use Rattle.std.specs.Prelude.{◌≡◌, ℕ, List, take, Option, Some, option_map}
use Rattle.osc_edge.specs.declared.link.Datagram.{Datagram}
use Rattle.osc_edge.specs.declared.link.Datagram.TheVariants.{Got}
use Rattle.osc_ends.specs.Sinks.{SinkChange}
use Rattle.osc_console.specs.declared.lines.Came.{Came}
use Rattle.osc_console.specs.declared.shown_link.Pending.{Pending}
use Rattle.osc_console.specs.declared.view.View.{View}
use Rattle.osc_console.specs.Agenda.{Waiter}
use Rattle.osc_console.specs.Showing.{Shows}

-- the datagram that waits to be shown
abbrev pub waiting : Option Pending → List ℕ → Option (List ℕ)
waiting pending space = option_map (λ one. take one.size space) pending

-- the bytes of a datagram that came
abbrev pub came_bytes : Option Came → Option (List ℕ)
came_bytes came = option_map (λ one. one.datagram.now) came

-- a datagram that was got waits then
abbrev pub Keeps : Datagram → Option (List ℕ) → List ℕ → Type 0
Keeps (Got count) then into = then ≡ Some (take count into)
Keeps _ then into = Unit {0}

-- The lines of a datagram, if one came, and of what was called up to a round. When it came, from
-- whom, and what was answered to it are those of the link's clock, the link, and the gate; the round
-- is the last that the ticker has played.
pub record ShowsPending (view : View) (datagram : Option (List ℕ)) (before after : List Waiter)
    (sink : SinkChange) : Type 0 where
  pub came : Option Came
  pub bytes : came_bytes came ≡ datagram
  pub round : ℕ
  pub shows : Shows view.look view.late view.routes.now came round before after sink
