-- What a submit is answered.
use Rattle.std.proofs.Common.{◌≡◌, ℕ, ◌+◌, ◌<◌, ◌≤◌, nat_lt, true, false, List, [], ◌∷◌, length, refl, ap, ◌∙◌, arith}
use Rattle.std.proofs.lemmas.Bool.Decides.{nat_tests}
use Rattle.osc_packet.specs.Units.{TimedUnit, blocks, blocks_of}
use Rattle.osc_model.specs.State.{State, Queued}
use Rattle.osc_model.specs.Counts.{queued_blocks, free_places, free_blocks}
use Rattle.osc_model.specs.Events.{queued, pool_full}
use Rattle.osc_model.specs.Step.{waiting, is_kept, kept_numbered, enter_all, submit_units, kept_units, late_count, leaves, after_submit}

pub finds_the_pool_full : (state : State) (units : List TimedUnit) (places free : ℕ) → places ≡ free_places state → free ≡ free_blocks state
    → length (kept_units state units) ≤ places → free < blocks_of (kept_units state units)
    → submit_units state units ≡ leaves state (pool_full (record { need = blocks_of (kept_units state units); free = free }))
finds_the_pool_full state units places free p f fit full =
    let a : nat_lt (free_places state) (length (kept_units state units)) ≡ false = grind (arith, nat_tests) in
    let b : nat_lt (free_blocks state) (blocks_of (kept_units state units)) ≡ true = grind (arith, nat_tests) in
    rw (a, b, f) refl

pub queues_the_units : (state : State) (units : List TimedUnit) (places free : ℕ) → places ≡ free_places state → free ≡ free_blocks state
    → length (kept_units state units) ≤ places → blocks_of (kept_units state units) ≤ free
    → submit_units state units ≡ leaves (after_submit state units) (queued state.next_unit (length units) (late_count state units))
queues_the_units state units places free p f fit room =
    let a : nat_lt (free_places state) (length (kept_units state units)) ≡ false = grind (arith, nat_tests) in
    let b : nat_lt (free_blocks state) (blocks_of (kept_units state units)) ≡ false = grind (arith, nat_tests) in
    rw (a, b) refl

-- a message that waits alone is queued as any unit
pub stands_queued : (state : State) (units : List TimedUnit) (unit : TimedUnit) → units ≡ unit ∷ [] → is_kept state.caps.late state.clock unit ≡ true
    → state.queue ≡ [] → 0 < state.caps.units → 0 < state.caps.blocks → blocks unit ≡ 1
    → submit_units state units
    ≡ leaves (record state { queue = waiting state.clock state.next_unit unit ∷ []; next_unit = state.next_unit + 1 }) (queued state.next_unit 1 0)
stands_queued state units unit only keeps none place block one =
    let first = waiting state.clock state.next_unit unit in
    let kept_is : kept_units state units ≡ unit ∷ [] = ap (kept_units state) only ∙ rw keeps refl in
    let fits : length (kept_units state units) ≤ free_places state = omega (arith, ap length kept_is, ap length none, place) in
    let room : blocks_of (kept_units state units) ≤ free_blocks state = omega (arith, ap blocks_of kept_is, ap queued_blocks none, one, block) in
    let numbered : kept_numbered state.caps.late state.clock state.next_unit units ≡ first ∷ [] =
    ap (kept_numbered state.caps.late state.clock state.next_unit) only ∙ rw keeps refl in
    let queue : enter_all (kept_numbered state.caps.late state.clock state.next_unit units) state.queue ≡ first ∷ [] =
    ap (λ (l : List Queued). enter_all l state.queue) numbered ∙ ap (enter_all (first ∷ [])) none in
    let late : late_count state units ≡ 0 = omega (arith, ap length kept_is, ap length only) in
    queues_the_units state units (free_places state) (free_blocks state) refl refl fits room
    ∙ ap (λ (q : List Queued). leaves (record state { queue = q; next_unit = state.next_unit + length units })
    (queued state.next_unit (length units) (late_count state units))) queue
    ∙ ap (λ (n : ℕ). leaves (record state { queue = first ∷ []; next_unit = state.next_unit + n }) (queued state.next_unit n (late_count state units)))
    (ap length only)
    ∙ ap (λ (n : ℕ). leaves (record state { queue = first ∷ []; next_unit = state.next_unit + 1 }) (queued state.next_unit 1 n)) late
