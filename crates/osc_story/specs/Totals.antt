-- How much entries told.
use Rattle.std.specs.Prelude.{ℕ, ◌+◌, ◌-◌, ◌^◌, ◌==◌, min, Bool, false, if◌then◌else◌, List, []}
use Rattle.std.specs.Prelude.{◌∷◌, length, Option, Some, None}
use Rattle.osc_packet.specs.Units.{TimedUnit}
use Rattle.osc_model.specs.declared.late.Late.{Late}
use Rattle.osc_model.specs.Events.{Answer, Hit, queued, units_full}
use Rattle.osc_model.specs.Events.{pool_full, released}
use Rattle.osc_model.specs.Step.{is_kept}
use Rattle.osc_story.specs.declared.totals.Totals.{Totals}

-- nothing was told
abbrev pub none : Totals
none = record { entries = 0; messages = 0; calls = 0; unheard = 0; discarded = 0; refused = 0 }

-- so many more; a count stays at the greatest number of 64 bits
abbrev pub more : ℕ → ℕ → ℕ
more count number = min (count + number) (2 ^ 64 - 1)

-- what one told and what another told
abbrev pub both : Totals → Totals → Totals
both one other = record {
  entries = more one.entries other.entries;
  messages = more one.messages other.messages;
  calls = more one.calls other.calls;
  unheard = more one.unheard other.unheard;
  discarded = more one.discarded other.discarded;
  refused = more one.refused other.refused;
}

-- the messages of those units that aren't kept
abbrev pub more_discarded : Late → ℕ → ℕ → List TimedUnit → ℕ
more_discarded late clock count [] = count
more_discarded late clock count (unit ∷ units) =
    more_discarded late clock
    (if is_kept late clock unit then count else more count (length unit.messages)) units

-- the messages of all units
abbrev pub more_refused : ℕ → List TimedUnit → ℕ
more_refused count [] = count
more_refused count (unit ∷ units) = more_refused (more count (length unit.messages)) units

-- whether there is one, and it is that
abbrev pub is_same : Option ℕ → Option ℕ → Bool
is_same (Some one) (Some other) = one == other
is_same _ _ = false

-- in how many messages hits are, where those of a message stand together, after a hit of this one
abbrev pub heard_after : Option ℕ → List Hit → ℕ
heard_after before [] = 0
heard_after before (hit ∷ hits) =
    (if is_same before (Some hit.index) then 0 else 1) + heard_after (Some hit.index) hits

abbrev pub heard_in : List Hit → ℕ
heard_in hits = heard_after None hits

-- one entry more
abbrev pub with_entry : Totals → Totals
with_entry totals = record totals { entries = more totals.entries 1 }

-- a packet, by its answer
abbrev pub with_packet : Totals → Late → ℕ → List TimedUnit → Answer → Totals
with_packet totals late clock units (queued first count dropped) =
    record totals { discarded = more_discarded late clock totals.discarded units }
with_packet totals late clock units (units_full room) =
    record totals { refused = more_refused totals.refused units }
with_packet totals late clock units (pool_full room) =
    record totals { refused = more_refused totals.refused units }
with_packet totals late clock units _ = totals

-- a release, of a unit with so many messages
abbrev pub with_release : Totals → ℕ → Answer → Totals
with_release totals count (released unit hits) = record totals {
  messages = more totals.messages count;
  calls = more totals.calls (length hits);
  unheard = more totals.unheard (count - heard_in hits);
}
with_release totals count _ = totals
