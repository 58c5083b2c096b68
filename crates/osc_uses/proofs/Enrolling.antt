-- Why a second or a third caller isn't enrolled.
use Rattle.std.proofs.Common.{◌≡◌, ◌⊎◌, inl, inr, ℕ, ◌+◌, ◌<◌, ◌≤◌, ◌==◌, Bool, true, false, cond, List, [], ◌∷◌, Some, refl, sym, ap, subst, ◌∙◌}
use Rattle.std.proofs.Common.{arith, eqb-true, ltb-true}
use Rattle.std.specs.Prelude.{nat_lt}
use Rattle.std.specs.List.{cons_option, filter_map}
use Rattle.osc_model.specs.Limits.{Limits}
use Rattle.osc_model.specs.Events.{Entry, Room, adds_entry, callers_full, enrol, number, record_full}
use Rattle.osc_model.specs.State.{State, opening}
use Rattle.osc_model.specs.Counts.{free_bytes}
use Rattle.osc_model.specs.Step.{Stepped, leaves, step}
use Rattle.osc_model.specs.History.{after}
use Rattle.osc_record.specs.Reading.{entry_in}

-- an enrolment, by whether there are as many callers as there may be, and whether its entry has no room

abbrev enrolled_by : State → Bool → Stepped
enrolled_by state full = cond full (leaves state callers_full) (leaves (record state { callers = state.callers + 1 }) (number state.callers))

abbrev recorded_by : State → Bool → Stepped → Stepped
recorded_by state short stepped =
    cond short (leaves state (record_full (record { need = 28; free = free_bytes state })))
    (record stepped { state = record stepped.state { recorded = state.recorded + 28 } })

abbrev stepped_by : State → Bool → Bool → Stepped
stepped_by state full short =
    cond (adds_entry (enrolled_by state full).answer) (recorded_by state short (enrolled_by state full)) (enrolled_by state full)

-- it leaves one caller more at most, and one entry
record Leaves (state later : State) : Type 0 where
  pub caps : later.caps ≡ state.caps
  pub callers : later.callers ≤ state.callers + 1
  pub recorded : later.recorded ≤ state.recorded + 28

enrol_leaves : (state : State) → Leaves state (step state enrol).state
enrol_leaves state = go (state.callers == state.caps.callers) (nat_lt (free_bytes state) 28) where
  go : (full short : Bool) → Leaves state (stepped_by state full short).state
  go true true = record { caps = refl; callers = omega arith; recorded = omega arith }
  go true false = record { caps = refl; callers = omega arith; recorded = omega arith }
  go false true = record { caps = refl; callers = omega arith; recorded = omega arith }
  go false false = record { caps = refl; callers = omega arith; recorded = omega arith }

full_cause : (state : State) → callers_full ≡ (step state enrol).answer → state.callers ≡ state.caps.callers
full_cause state is = go (state.callers == state.caps.callers) (nat_lt (free_bytes state) 28) refl is where
  go : (full short : Bool) → state.callers == state.caps.callers ≡ full → callers_full ≡ (stepped_by state full short).answer
      → state.callers ≡ state.caps.callers
  go true short same is = eqb-true state.callers state.caps.callers same
  go false true same is = absurd (cc)
  go false false same is = absurd (cc)

-- the room that is lacking
abbrev short_of : State → Room
short_of state = record { need = 28; free = free_bytes state }

room_cause : (state : State) (room : Room) → record_full room ≡ (step state enrol).answer → (room ≡ short_of state) × (free_bytes state < 28)
room_cause state room is = go (state.callers == state.caps.callers) (nat_lt (free_bytes state) 28) refl is where
  go : (full short : Bool) → nat_lt (free_bytes state) 28 ≡ short → record_full room ≡ (stepped_by state full short).answer
      → (room ≡ short_of state) × (free_bytes state < 28)
  go true true less is = (cc (is), ltb-true (free_bytes state) 28 less)
  go false true less is = (cc (is), ltb-true (free_bytes state) 28 less)
  go true false less is = absurd (cc)
  go false false less is = absurd (cc)

-- a history of one enrolment at most
abbrev HasOneAtMost : List Entry → Type 0
HasOneAtMost history = (history ≡ []) ⊎ ((one : Entry) × (one.event ≡ enrol) × (history ≡ one ∷ []))

after_few : (caps : Limits) (history : List Entry) → HasOneAtMost history → Leaves (opening caps) (after (opening caps) history)
after_few caps history (inl none) =
    subst (λ (h : List Entry). Leaves (opening caps) (after (opening caps) h)) (sym none)
    (record { caps = refl; callers = omega arith; recorded = omega arith })
after_few caps history (inr (one, enrols, is)) =
    subst (λ (h : List Entry). Leaves (opening caps) (after (opening caps) h)) (sym is)
    (subst (λ event. Leaves (opening caps) (step (opening caps) event).state) (sym enrols) (enrol_leaves (opening caps)))

-- the texts of one
abbrev pub AreFew : List (List ℕ) → Type 0
AreFew texts = (texts ≡ []) ⊎ ((text : List ℕ) × (one : Entry) × (one.event ≡ enrol) × (entry_in text ≡ Some one) × (texts ≡ text ∷ []))

few_read : (texts : List (List ℕ)) → AreFew texts → HasOneAtMost (filter_map entry_in texts)
few_read texts (inl none) = inl (ap (filter_map entry_in) none)
few_read texts (inr (text, one, enrols, read, is)) = inr (one, enrols, ap (filter_map entry_in) is ∙ ap (λ found. cons_option found []) read)

-- after one enrolment at most, too many callers are three or fewer
pub full_for : (caps : Limits) (texts : List (List ℕ)) → AreFew texts
    → callers_full ≡ (step (after (opening caps) (filter_map entry_in texts)) enrol).answer → caps.callers < 3
full_for caps texts few is =
    let left = after_few caps (filter_map entry_in texts) (few_read texts few) in
    omega (arith, left.callers, full_cause (after (opening caps) (filter_map entry_in texts)) is, ap (λ (limits : Limits). limits.callers) left.caps)

-- and the room that is lacking is what is left after the header and one enrolment at most
pub room_for : (caps : Limits) (texts : List (List ℕ)) (room : Room) → AreFew texts
    → record_full room ≡ (step (after (opening caps) (filter_map entry_in texts)) enrol).answer
    → (room.need ≡ 28) × (room.free < 28) × (caps.recording ≤ 60 + 28 + room.free)
room_for caps texts room few is =
    let state = after (opening caps) (filter_map entry_in texts) in
    let left = after_few caps (filter_map entry_in texts) (few_read texts few) in
    let cause = room_cause state room is in
    let free : room.free ≡ free_bytes state = ap (λ (r : Room). r.free) cause.0 in (
      ap (λ (r : Room). r.need) cause.0,
      omega (arith, free, cause.1),
      omega (arith, free, left.recorded, ap (λ (limits : Limits). limits.recording) left.caps),
    )
