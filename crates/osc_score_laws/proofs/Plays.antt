-- What acts lead to, one after another.
use Rattle.std.proofs.Common.{◌≡◌, ℕ, Bool, true, cond, List, [], ◌∷◌, ◌++◌, map, Option, Some, None, refl, sym, ap, ◌∙◌, subst, append_assoc}
use Rattle.std.specs.Option.{option_or}
use Rattle.std.proofs.lemmas.List.{map-append}
use Rattle.osc_model.specs.State.{State}
use Rattle.osc_model.specs.Events.{Event, Entry, Invocation, Room, adds_entry}
use Rattle.osc_model.specs.Refusals.{IsRefusal}
use Rattle.osc_model.specs.Step.{Stepped, step}
use Rattle.osc_model.specs.History.{after, invocations}
use Rattle.osc_script.specs.declared.act.Act.{Act}
use Rattle.osc_model.specs.Events.{room_in}
use Rattle.osc_player.specs.Plain.{entry_of, entry_if, stop_at, entries_of, stop_of}
use Rattle.osc_score_laws.proofs.Lists.{all_on}
use Rattle.osc_score_laws.proofs.Playing.{history_from, stop_from}
use Rattle.osc_score_laws.specs.Heard.{Sound, sound_at, sounds, at_clock, NoneIsRefused}

-- from a state acts lead to another, and this is heard
pub record Plays (state : State) (acts : List Act) (to : State) (sounded : List Sound) : Type 0 where
  pub ends : after state (history_from state acts) ≡ to
  pub heard : sounds state (history_from state acts) ≡ sounded
  pub accepted : NoneIsRefused (history_from state acts)
  pub goes_on : stop_from state acts ≡ None

pub none_plays : (state : State) → Plays state [] state []
none_plays state = record { ends = refl; heard = refl; accepted = tt; goes_on = refl }

pub after_on : (state : State) (first more : List Entry) → after state (first ++ more) ≡ after (after state first) more
after_on state [] more = refl
after_on state (entry ∷ first) more = after_on (step state entry.event).state first more

pub sounds_on : (state : State) (first more : List Entry) → sounds state (first ++ more) ≡ sounds state first ++ sounds (after state first) more
sounds_on state [] more = refl
sounds_on state (entry ∷ first) more =
    ap (λ (l : List Sound). map (sound_at state.clock) (step state entry.event).invocations ++ l) (sounds_on (step state entry.event).state first more)
    ∙ sym (append_assoc (map (sound_at state.clock) (step state entry.event).invocations) (sounds (step state entry.event).state first)
    (sounds (after (step state entry.event).state first) more))

history_on : (state : State) (first more : List Act)
    → history_from state (first ++ more) ≡ history_from state first ++ history_from (after state (history_from state first)) more
history_on state [] more = refl
history_on state (act ∷ first) more =
    let here : List Entry = entries_of state act in
    let there : State = after state here in
    let later : List Entry = history_from there first in
    ap (λ (l : List Entry). here ++ l) (history_on there first more)
    ∙ sym (append_assoc here later (history_from (after there later) more))
    ∙ ap (λ (s : State). (here ++ later) ++ history_from s more) (sym (after_on state here later))

or_on : (a b c : Option Room) → option_or a (option_or b c) ≡ option_or (option_or a b) c
or_on None b c = refl
or_on (Some x) b c = refl

stop_on : (state : State) (first more : List Act)
    → stop_from state (first ++ more) ≡ option_or (stop_from state first) (stop_from (after state (history_from state first)) more)
stop_on state [] more = refl
stop_on state (act ∷ first) more =
    let here : List Entry = entries_of state act in
    let there : State = after state here in
    let later : List Entry = history_from there first in
    ap (λ (o : Option Room). option_or (stop_of state act) o) (stop_on there first more)
    ∙ or_on (stop_of state act) (stop_from there first) (stop_from (after there later) more)
    ∙ ap (λ (s : State). option_or (option_or (stop_of state act) (stop_from there first)) (stop_from s more)) (sym (after_on state here later))

pub plays_on : (state middle to : State) (first more : List Act) (one two : List Sound) → Plays state first middle one → Plays middle more to two
    → Plays state (first ++ more) to (one ++ two)
plays_on state middle to first more one two p q =
    let here : List Entry = history_from state first in
    let whole : history_from state (first ++ more) ≡ here ++ history_from middle more =
    history_on state first more ∙ ap (λ (s : State). here ++ history_from s more) p.ends in
    record {
      ends = ap (after state) whole ∙ after_on state here (history_from middle more)
          ∙ ap (λ (s : State). after s (history_from middle more)) p.ends ∙ q.ends;
      heard = ap (sounds state) whole ∙ sounds_on state here (history_from middle more)
          ∙ ap (λ (s : State). sounds state here ++ sounds s (history_from middle more)) p.ends
          ∙ ap (λ (l : List Sound). l ++ sounds middle (history_from middle more)) p.heard ∙ ap (λ (l : List Sound). one ++ l) q.heard;
      accepted = subst NoneIsRefused (sym whole) (all_on (λ (entry : Entry). IsRefusal entry.answer → ⊥) here (history_from middle more) p.accepted q.accepted);
      goes_on = stop_on state first more ∙ ap (λ (s : State). option_or (stop_from state first) (stop_from s more)) p.ends
          ∙ ap (λ (o : Option Room). option_or o (stop_from middle more)) p.goes_on ∙ q.goes_on;
    }

-- an event that is accepted, of which nothing is heard
pub record IsQuiet (stepped : Stepped) : Type 0 where
  pub adds : adds_entry stepped.answer ≡ true
  pub fine : IsRefusal stepped.answer → ⊥
  pub room : room_in stepped.answer ≡ None
  pub silent : stepped.invocations ≡ []

pub one_plays : (state : State) (act : Act) (event : Event) (d : Stepped) → entries_of state act ≡ entry_if state event
    → stop_of state act ≡ stop_at state event → step state event ≡ d → IsQuiet d → Plays state (act ∷ []) d.state []
one_plays state act event d entries stop is quiet =
    let whole : history_from state (act ∷ []) ≡ entry_of state event ∷ [] =
    ap (λ (l : List Entry). l ++ history_from (after state l) []) entries
    ∙ ap (λ (t : Bool). cond t (entry_of state event ∷ []) [] ++ [])
    (ap (λ (s : Stepped). adds_entry s.answer) is ∙ quiet.adds) in
    record {
      ends = ap (after state) whole ∙ ap (λ (s : Stepped). s.state) is;
      heard = ap (sounds state) whole ∙ ap (λ (s : Stepped). map (sound_at state.clock) s.invocations ++ []) is
          ∙ ap (λ (l : List Invocation). map (sound_at state.clock) l ++ []) quiet.silent;
      accepted = subst NoneIsRefused (sym whole) (subst (λ (s : Stepped). IsRefusal s.answer → ⊥) (sym is) quiet.fine, tt);
      goes_on = ap (λ (o : Option Room). option_or o None) (stop ∙ ap (λ (s : Stepped). room_in s.answer) is ∙ quiet.room);
    }

-- what is heard, at one clock

same_sounds : (clock own : ℕ) (calls : List Invocation) → map (at_clock clock) (map (sound_at own) calls) ≡ map (sound_at clock) calls
same_sounds clock own [] = refl
same_sounds clock own (call ∷ calls) = ap (λ (l : List Sound). sound_at clock call ∷ l) (same_sounds clock own calls)

pub heard_is : (state : State) (history : List Entry) (clock : ℕ)
    → map (at_clock clock) (sounds state history) ≡ map (sound_at clock) (invocations state history)
heard_is state [] clock = refl
heard_is state (entry ∷ entries) clock =
    let calls : List Invocation = (step state entry.event).invocations in
    let there : State = (step state entry.event).state in
    map-append (at_clock clock) (map (sound_at state.clock) calls) (sounds there entries)
    ∙ ap (λ (l : List Sound). l ++ map (at_clock clock) (sounds there entries)) (same_sounds clock state.clock calls)
    ∙ ap (λ (l : List Sound). map (sound_at clock) calls ++ l) (heard_is there entries clock)
    ∙ sym (map-append (sound_at clock) calls (invocations there entries))
