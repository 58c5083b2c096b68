-- What is marked of a recording: calls, messages that weren't called, what waits, and methods.
use Rattle.std.specs.Prelude.{ℕ, ◌+◌, ◌==◌, ◌&&◌, not, Bool, if◌then◌else◌, List}
use Rattle.std.specs.Prelude.{[], ◌∷◌, ◌++◌, find, filter, Option, option_map, is_none}
use Rattle.std.specs.List.{list_any}
use Rattle.osc_message.specs.Arguments.{unknown_of}
use Rattle.osc_message.specs.Reading.{pattern_of}
use Rattle.osc_pattern.specs.Addresses.{is_address}
use Rattle.osc_pattern.specs.Methods.{Method}
use Rattle.osc_pattern.specs.Patterns.{matches}
use Rattle.osc_model.specs.Events.{Call}
use Rattle.osc_drawing.specs.declared.arrival.Arrival.{Arrival}
use Rattle.osc_drawing.specs.declared.mark.Draft.{Draft}
use Rattle.osc_drawing.specs.declared.mark.Mark.{Mark}
use Rattle.osc_drawing.specs.declared.mark.Owner.{Owner}
use Rattle.osc_drawing.specs.declared.mark.Owner.TheVariants as owner
use Rattle.osc_drawing.specs.declared.mark.Stamp.{Stamp}
use Rattle.osc_drawing.specs.Carried.{nothing, carried_of}

-- a mark that carries nothing
abbrev pub mark_of : Draft → Owner → List ℕ → Mark
mark_of draft owner address = record {
  form = draft.form;
  owner = owner;
  address = address;
  carried = nothing;
  came = draft.came;
  at = draft.at;
}

-- whether a message is to a method at an address
abbrev pub meets : List ℕ → List ℕ → Bool
meets message address =
    is_none (unknown_of message) && is_address address && matches (pattern_of message) address

-- a mark at a method, if a message is to it
abbrev pub met_mark : Draft → List ℕ → Method → List Mark
met_mark draft message method =
    if meets message method.address
    then mark_of draft owner.Method method.address ∷ [] else []

abbrev pub met_marks : Draft → List ℕ → List Method → List Mark
met_marks draft message [] = []
met_marks draft message (method ∷ methods) =
    met_mark draft message method ++ met_marks draft message methods

-- a mark at the pattern of a message
abbrev pub pattern_marks : Draft → List ℕ → List Mark
pattern_marks draft message = mark_of draft owner.Pattern (pattern_of message) ∷ []

abbrev pub or_else : List Mark → List Mark → List Mark
or_else [] others = others
or_else (first ∷ rest) others = first ∷ rest

-- a mark at each method that a message is to, or at its pattern, where it is to none
abbrev pub target_marks : Draft → List Method → List ℕ → List Mark
target_marks draft methods message =
    or_else (met_marks draft message methods) (pattern_marks draft message)

-- those of all messages of a unit
abbrev pub all_targets : Draft → List Method → List (List ℕ) → List Mark
all_targets draft methods [] = []
all_targets draft methods (message ∷ messages) =
    target_marks draft methods message ++ all_targets draft methods messages

-- the mark of a call
abbrev pub call_mark : Draft → Call → Mark
call_mark draft call =
    record (mark_of draft owner.Method call.address) { carried = carried_of call.message }

abbrev pub call_marks : Draft → Call → List Mark
call_marks draft call = call_mark draft call ∷ []

-- whether a message of a unit is called
abbrev pub is_heard : List Call → ℕ → Bool
is_heard calls index = list_any (λ call. call.index == index) calls

-- a mark at the pattern of a message of a unit, if it isn't called
abbrev pub unheard_mark : Draft → List Call → ℕ → List ℕ → List Mark
unheard_mark draft calls index message =
    if is_heard calls index then [] else pattern_marks draft message

-- those of messages, counted from an index on
abbrev pub unheard_marks : Draft → List Call → ℕ → List (List ℕ) → List Mark
unheard_marks draft calls index [] = []
unheard_marks draft calls index (message ∷ messages) =
    unheard_mark draft calls index message ++ unheard_marks draft calls (index + 1) messages

-- when what has a number came, where that is kept
abbrev pub arrival_of : ℕ → List Arrival → Option Stamp
arrival_of number arrivals =
    option_map (λ arrival. arrival.at) (find (λ arrival. arrival.number == number) arrivals)

abbrev pub without : ℕ → List Arrival → List Arrival
without number arrivals = filter (λ arrival. not (arrival.number == number)) arrivals
