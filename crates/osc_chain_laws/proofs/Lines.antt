-- The lines of an opening that carries a server on.
use Rattle.std.proofs.Common.{◌≡◌, ℕ, ◌+◌, Bool, true, false, cond, nat_lt, min, not, List, [], ◌∷◌, ◌++◌, map, filter, refl, ap, ◌∙◌}
use Rattle.std.proofs.lemmas.List.{map-append}
use Rattle.std.specs.List.{filter_map}
use Rattle.std.proofs.lemmas.List.{append-nil}
use Rattle.std.proofs.lemmas.List.Elements.{filter_map-append}
use Rattle.osc_queue.specs.Timed.{due_of}
use Rattle.osc_model.specs.State.{State, Queued}
use Rattle.osc_script.specs.declared.act.Act.{Act}
use Rattle.osc_script.specs.declared.act.Act.TheVariants.{Add, Send, Tick}
use Rattle.osc_script.specs.declared.line.Line.{Line}
use Rattle.osc_script.specs.Adds.{is_add}
use Rattle.osc_script.specs.Written.{numbered}
use Rattle.osc_score.proofs.Acts.{adds}
use Rattle.osc_carry.specs.Carried.{packet_of, ticks_to, queue_acts, carried_acts}
use Rattle.osc_alike.specs.Alike.{address_of}
use Rattle.osc_relay.specs.declared.outlet.Outlet.{Ghosts}
use Rattle.osc_relay.specs.declared.relay.Relay.{Relay}
use Rattle.osc_stage.specs.Stages.{add_line, is_other, carried_on}
use Rattle.osc_stage.specs.Lines.{acts_of, added_by, added_in}
use Rattle.osc_chain_laws.specs.Openings.{StandAt}

-- whether an act adds no method
abbrev is_no_add : Act → Bool
is_no_add act = not (is_add act)

-- the acts of lines that aren't left out are those that aren't
others_acts : (number : ℕ) (acts : List Act) → acts_of (filter is_other (numbered number acts)) ≡ filter is_no_add acts
others_acts number [] = refl
others_acts number (act ∷ acts) = go (not (is_add act)) (others_acts (number + 1) acts) where
  line : Line
  line = record { number = number; lane = 0; act = act }

  rest : List Line
  rest = filter is_other (numbered (number + 1) acts)

  go : (t : Bool) → acts_of rest ≡ filter is_no_add acts → acts_of (cond t (line ∷ rest) rest) ≡ cond t (act ∷ filter is_no_add acts) (filter is_no_add acts)
  go true so = ap (λ (l : List Act). act ∷ l) so
  go false so = so

-- the adds are left out, and what adds nothing stays
adds_leave : (addresses : List (List ℕ)) (acts : List Act) → filter is_no_add (adds addresses ++ acts) ≡ filter is_no_add acts
adds_leave [] acts = refl
adds_leave (address ∷ addresses) acts = adds_leave addresses acts

ticks_stay : (now moment : ℕ) (acts : List Act) → filter is_no_add (ticks_to now moment ++ acts) ≡ ticks_to now moment ++ filter is_no_add acts
ticks_stay now moment acts = go (nat_lt now moment) where
  go : (t : Bool) → filter is_no_add (cond t (Tick moment ∷ []) [] ++ acts) ≡ cond t (Tick moment ∷ []) [] ++ filter is_no_add acts
  go true = refl
  go false = refl

queue_stays : (now clock : ℕ) (units : List Queued) → filter is_no_add (queue_acts now clock units) ≡ queue_acts now clock units
queue_stays now clock [] = go (nat_lt now clock) where
  go : (t : Bool) → filter is_no_add (cond t (Tick clock ∷ []) []) ≡ cond t (Tick clock ∷ []) []
  go true = refl
  go false = refl
queue_stays now clock (unit ∷ units) =
    let moment : ℕ = min (due_of unit) clock in
    ticks_stay now moment (Send (packet_of unit.2) ∷ queue_acts moment clock units)
    ∙ ap (λ (l : List Act). ticks_to now moment ++ Send (packet_of unit.2) ∷ l) (queue_stays moment clock units)

module _ {O : Type 0} {G : Ghosts O} where
  adds_are : (relays : List (Relay O G)) → acts_of (map add_line relays) ≡ adds (map (λ relay. relay.address) relays)
  adds_are [] = refl
  adds_are (relay ∷ relays) = ap (λ (l : List Act). Add relay.address ∷ l) (adds_are relays)

  pub opening_acts : (state : State) (relays : List (Relay O G)) → StandAt relays state
      → acts_of (carried_on relays (numbered 1 (carried_acts state))).lines ≡ carried_acts state
  opening_acts state relays at =
      let addresses : List (List ℕ) = map address_of state.methods in
      let waits : List Act = queue_acts 1 state.clock state.queue in
      map-append (λ (line : Line). line.act) (map add_line relays) (filter is_other (numbered 1 (carried_acts state)))
      ∙ ap (λ (l : List Act). l ++ acts_of (filter is_other (numbered 1 (carried_acts state)))) (adds_are relays ∙ ap adds at)
      ∙ ap (λ (l : List Act). adds addresses ++ l)
      (others_acts 1 (carried_acts state) ∙ adds_leave addresses waits ∙ queue_stays 1 state.clock state.queue)

pub acts_are : (number : ℕ) (acts : List Act) → acts_of (numbered number acts) ≡ acts
acts_are number [] = refl
acts_are number (act ∷ acts) = ap (λ (l : List Act). act ∷ l) (acts_are (number + 1) acts)

-- The addresses that lines add.

added_on : (first more : List Act) → filter_map added_by (first ++ more) ≡ filter_map added_by first ++ filter_map added_by more
added_on first more = filter_map-append added_by first more

adds_added : (addresses : List (List ℕ)) → filter_map added_by (adds addresses) ≡ addresses
adds_added [] = refl
adds_added (address ∷ addresses) = ap (λ (l : List (List ℕ)). address ∷ l) (adds_added addresses)

ticks_add_none : (now moment : ℕ) (acts : List Act) → filter_map added_by (ticks_to now moment ++ acts) ≡ filter_map added_by acts
ticks_add_none now moment acts = go (nat_lt now moment) where
  go : (t : Bool) → filter_map added_by (cond t (Tick moment ∷ []) [] ++ acts) ≡ filter_map added_by acts
  go true = refl
  go false = refl

queue_adds_none : (now clock : ℕ) (units : List Queued) → filter_map added_by (queue_acts now clock units) ≡ []
queue_adds_none now clock [] = go (nat_lt now clock) where
  go : (t : Bool) → filter_map added_by (cond t (Tick clock ∷ []) []) ≡ []
  go true = refl
  go false = refl
queue_adds_none now clock (unit ∷ units) =
    let moment : ℕ = min (due_of unit) clock in
    ticks_add_none now moment (Send (packet_of unit.2) ∷ queue_acts moment clock units) ∙ queue_adds_none moment clock units

pub carried_adds : (state : State) → added_in (numbered 1 (carried_acts state)) ≡ map address_of state.methods
carried_adds state =
    let addresses : List (List ℕ) = map address_of state.methods in
    let waits : List Act = queue_acts 1 state.clock state.queue in
    ap (filter_map added_by) (acts_are 1 (carried_acts state))
    ∙ added_on (adds addresses) waits
    ∙ ap (λ (l : List (List ℕ)). l ++ filter_map added_by waits) (adds_added addresses)
    ∙ ap (λ (l : List (List ℕ)). addresses ++ l) (queue_adds_none 1 state.clock state.queue)
    ∙ append-nil addresses
