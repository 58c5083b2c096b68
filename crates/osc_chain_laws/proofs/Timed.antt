-- Servers that are alike invoke at the same moments.
use Rattle.std.proofs.Common.{◌≡◌, ℕ, List, [], ◌∷◌, ◌++◌, map, None, refl, sym, ap, ◌∙◌, append_assoc}
use Rattle.std.proofs.lemmas.List.{map-append}
use Rattle.osc_model.specs.State.{State, AreNumbered}
use Rattle.osc_model.specs.Events.{Event, Entry, Invocation, room_in}
use Rattle.osc_model.specs.History.{after, invocations}
use Rattle.osc_model.specs.Step.{step, decided}
use Rattle.osc_alike.specs.Alike.{bare_call, AreAlike, StepAlike, HaveRoom, ideal_after}
use Rattle.osc_alike.proofs.Steps.{ideal_numbers, real_numbers}
use Rattle.osc_chain_laws.specs.Moments.{Moment, calls_at, bare_moment, moments, event_moments, ideal_moments}
use Rattle.osc_chain_laws.specs.Reels.{events_of}

-- what is known of one event on servers that are alike
abbrev pub StepsAlike : Type 0
StepsAlike =
    (ideal real : State) (event : Event) → AreNumbered ideal.next_unit ideal.queue → AreNumbered real.next_unit real.queue → AreAlike ideal real
    → room_in (step real event).answer ≡ None → StepAlike event (decided ideal event) (step real event)

pub entries_moments : (state : State) (entries : List Entry) → event_moments state (events_of entries) ≡ moments state entries
entries_moments state [] = refl
entries_moments state (entry ∷ entries) =
    ap (λ (l : List Moment). calls_at state.clock (step state entry.event).invocations ++ l) (entries_moments (step state entry.event).state entries)

pub moments_more : (state : State) (first more : List Entry) → moments state (first ++ more) ≡ moments state first ++ moments (after state first) more
moments_more state [] more = refl
moments_more state (entry ∷ first) more =
    let next : State = (step state entry.event).state in
    let here : List Moment = calls_at state.clock (step state entry.event).invocations in
    ap (λ (l : List Moment). here ++ l) (moments_more next first more) ∙ sym (append_assoc here (moments next first) (moments (after next first) more))

pub ideal_moments_more : (state : State) (first more : List Event)
    → ideal_moments state (first ++ more) ≡ ideal_moments state first ++ ideal_moments (ideal_after state first) more
ideal_moments_more state [] more = refl
ideal_moments_more state (event ∷ first) more =
    let next : State = (decided state event).state in
    let here : List Moment = calls_at state.clock (decided state event).invocations in
    ap (λ (l : List Moment). here ++ l) (ideal_moments_more next first more)
    ∙ sym (append_assoc here (ideal_moments next first) (ideal_moments (ideal_after next first) more))

-- what invokes nothing invokes it at no moment
both_none : (first more : List Invocation) → first ++ more ≡ [] → (first ≡ []) × (more ≡ [])
both_none [] more none = (refl, none)
both_none (call ∷ first) more none = absurd (cc)

pub silent_moments : (state : State) (entries : List Entry) → invocations state entries ≡ [] → moments state entries ≡ []
silent_moments state [] none = refl
silent_moments state (entry ∷ entries) none =
    let next : State = (step state entry.event).state in
    let both = both_none (step state entry.event).invocations (invocations next entries) none in
    ap (λ (l : List Invocation). calls_at state.clock l ++ moments next entries) both.0 ∙ silent_moments next entries both.1

bare_at : (clock : ℕ) (calls : List Invocation) → map bare_moment (calls_at clock calls) ≡ calls_at clock (map bare_call calls)
bare_at clock [] = refl
bare_at clock (call ∷ calls) = ap (λ (l : List Moment). record { clock = clock; call = bare_call call } ∷ l) (bare_at clock calls)

pub alike_moments : StepsAlike → (ideal real : State) (events : List Event) → AreNumbered ideal.next_unit ideal.queue → AreNumbered real.next_unit real.queue
    → AreAlike ideal real → HaveRoom real events → map bare_moment (ideal_moments ideal events) ≡ map bare_moment (event_moments real events)
alike_moments steps ideal real [] n1 n2 alike room = refl
alike_moments steps ideal real (event ∷ events) n1 n2 alike room =
    let here : StepAlike event (decided ideal event) (step real event) = steps ideal real event n1 n2 alike room.0 in
    let one : State = (decided ideal event).state in
    let other : State = (step real event).state in
    let ideal_calls : List Invocation = (decided ideal event).invocations in
    let real_calls : List Invocation = (step real event).invocations in
    let rest = alike_moments steps one other events (ideal_numbers ideal (event ∷ []) n1) (real_numbers real (event ∷ []) n2) here.state room.1 in
    map-append bare_moment (calls_at ideal.clock ideal_calls) (ideal_moments one events)
    ∙ ap (λ (l : List Moment). l ++ map bare_moment (ideal_moments one events))
    (bare_at ideal.clock ideal_calls
    ∙ ap (calls_at ideal.clock) here.invocations
    ∙ ap (λ (n : ℕ). calls_at n (map bare_call real_calls)) alike.clock
    ∙ sym (bare_at real.clock real_calls))
    ∙ ap (λ (l : List Moment). map bare_moment (calls_at real.clock real_calls) ++ l) rest
    ∙ sym (map-append bare_moment (calls_at real.clock real_calls) (event_moments other events))
