-- A chain of recordings plays what one server without end plays.
use Rattle.std.proofs.Common.{◌≡◌, ℕ, suc, ◌+◌, List, [], ◌∷◌, ◌++◌, length, map, refl, sym, ap, ◌∙◌, subst, arith, append_assoc}
use Rattle.std.proofs.lemmas.List.{map-append}
use Rattle.osc_model.specs.State.{State, Queued, AreNumbered}
use Rattle.osc_model.specs.Events.{Event, Invocation}
use Rattle.osc_model.specs.Step.{decided}
use Rattle.osc_alike.specs.Alike.{address_of, bare_unit, Bare, bare_call, AreAlike, HaveRoom, invoked_by, after_events, ideal_by, ideal_after, PlaysAlike}
use Rattle.osc_alike.proofs.Steps.{ideal_numbers}
use Rattle.osc_carry.specs.Carried.{renumbered, renewed}
use Rattle.osc_carry.specs.Chains.{Part, all_events, HaveRooms, chain_invoked, chain_after, ChainsAlike}
use Rattle.osc_carry.proofs.Methods.{from_addresses}

-- what is known of servers that are alike
abbrev pub StayAlike : Type 0
StayAlike =
    (ideal real : State) (events : List Event) → AreNumbered ideal.next_unit ideal.queue → AreNumbered real.next_unit real.queue → AreAlike ideal real
    → HaveRoom real events → PlaysAlike ideal real events

bare_again : (next : ℕ) (queue : List Queued) → map bare_unit queue ≡ map bare_unit (renumbered next queue)
bare_again next [] = refl
bare_again next (unit ∷ queue) = ap (λ (l : List Bare). bare_unit unit ∷ l) (bare_again (next + 1) queue)

pub renewed_alike : (room : ℕ) (state : State) → AreAlike state (renewed room state)
renewed_alike room state = record {
  caps = refl;
  methods = sym (from_addresses 0 (map address_of state.methods));
  queue = bare_again 0 state.queue;
  clock = refl;
}

below_more : (n m : ℕ) (queue : List Queued) → n ≡ m → AreNumbered n queue → AreNumbered m queue
below_more n m queue same below = subst (λ (k : ℕ). AreNumbered k queue) same below

numbered_again : (next : ℕ) (queue : List Queued) → AreNumbered (next + length queue) (renumbered next queue)
numbered_again next [] = tt
numbered_again next (unit ∷ queue) =
    let same : next + 1 + length queue ≡ next + suc (length queue) = omega arith in
    (omega arith, below_more (next + 1 + length queue) (next + suc (length queue)) (renumbered (next + 1) queue) same (numbered_again (next + 1) queue))

pub renewed_numbers : (room : ℕ) (state : State) → AreNumbered (renewed room state).next_unit (renewed room state).queue
renewed_numbers room state =
    let same : 0 + length state.queue ≡ length state.queue = omega arith in
    below_more (0 + length state.queue) (length state.queue) (renumbered 0 state.queue) same (numbered_again 0 state.queue)

alike_on : (one two three : State) → AreAlike one two → AreAlike two three → AreAlike one three
alike_on one two three p q =
    record { caps = p.caps ∙ q.caps; methods = p.methods ∙ q.methods; queue = p.queue ∙ q.queue; clock = p.clock ∙ q.clock }

ideal_on : (state : State) (first more : List Event) → ideal_by state (first ++ more) ≡ ideal_by state first ++ ideal_by (ideal_after state first) more
ideal_on state [] more = refl
ideal_on state (event ∷ first) more =
    ap (λ (l : List Invocation). (decided state event).invocations ++ l) (ideal_on (decided state event).state first more)
    ∙ sym (append_assoc (decided state event).invocations (ideal_by (decided state event).state first)
    (ideal_by (ideal_after (decided state event).state first) more))

ideal_there : (state : State) (first more : List Event) → ideal_after state (first ++ more) ≡ ideal_after (ideal_after state first) more
ideal_there state [] more = refl
ideal_there state (event ∷ first) more = ideal_there (decided state event).state first more

pub chains_alike : StayAlike → (ideal real : State) (parts : List Part) → AreNumbered ideal.next_unit ideal.queue → AreAlike ideal real → HaveRooms real parts
    → ChainsAlike ideal real parts
chains_alike stay ideal real [] numbers alike room = record { invocations = refl; state = alike }
chains_alike stay ideal real (part ∷ parts) numbers alike room =
    let start : State = renewed part.room real in
    let there : State = after_events start part.events in
    let middle : State = ideal_after ideal part.events in
    let one : PlaysAlike ideal start part.events =
    stay ideal start part.events numbers (renewed_numbers part.room real) (alike_on ideal real start alike (renewed_alike part.room real)) room.0 in
    let rest : ChainsAlike middle there parts =
    chains_alike stay middle there parts (ideal_numbers ideal part.events numbers) one.state room.1 in
    record {
      invocations = ap (map bare_call) (ideal_on ideal part.events (all_events parts))
          ∙ map-append bare_call (ideal_by ideal part.events) (ideal_by middle (all_events parts))
          ∙ ap (λ (l : List Invocation). l ++ map bare_call (ideal_by middle (all_events parts))) one.invocations
          ∙ ap (λ (l : List Invocation). map bare_call (invoked_by start part.events) ++ l) rest.invocations
          ∙ sym (map-append bare_call (invoked_by start part.events) (chain_invoked there parts));
      state = subst (λ (s : State). AreAlike s (chain_after there parts)) (sym (ideal_there ideal part.events (all_events parts))) rest.state;
    }
