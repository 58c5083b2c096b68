-- The bundles of a batch are sent: each is one unit, which waits behind those before it.
use Rattle.std.proofs.Common.{◌≡◌, ℕ, suc, ◌+◌, ◌-◌, ◌*◌, ◌<◌, ◌≤◌, ◌==◌, ◌||◌, ◌&&◌, max, Bool, true, false, cond, not, nat_lt, List, [], ◌∷◌, ◌++◌, length, insert, refl, sym, ap, ◌∙◌, subst, subst₂}
use Rattle.std.proofs.Common.{append_assoc, append-nil, length-append, arith}
use Rattle.std.specs.List.{AllByRecursion, position_or_len}
use Rattle.std.proofs.lemmas.Bool.Decides.{nat_tests}
use Rattle.std.proofs.lemmas.List.Edits.{insert_end}
use Rattle.osc_atoms.specs.Atoms.{blob_end}
use Rattle.osc_pattern.specs.Methods.{Method}
use Rattle.osc_packet.specs.Units.{TimedUnit, blocks, blocks_of}
use Rattle.osc_queue.specs.Timed.{is_before, enter}
use Rattle.osc_model.specs.declared.late.Late.{Late}
use Rattle.osc_model.specs.declared.late.Late.TheVariants.{Deliver, Discard}
use Rattle.osc_model.specs.Limits.{Limits}
use Rattle.osc_model.specs.State.{State, Queued}
use Rattle.osc_model.specs.Counts.{queued_blocks, free_places, free_blocks}
use Rattle.osc_model.specs.Events.{submit, queued, units_full, pool_full}
use Rattle.osc_model.specs.Step.{Stepped, step, decided, leaves, waiting, is_kept, enter_all, submit_units}
use Rattle.osc_model.proofs.Stepping.{noted}
use Rattle.osc_script.specs.declared.act.Act.TheVariants.{Send}
use Rattle.osc_score.specs.Scores.{Group, bundle_text}
use Rattle.osc_score.proofs.Acts.{sends}
use Rattle.osc_player.specs.Plain.{sent, stop_sent}
use Rattle.osc_score_laws.specs.Known.{Known}
use Rattle.osc_score_laws.specs.Heard.{IsRoomy}
use Rattle.osc_score_laws.proofs.Steps.{step_is, has_room}
use Rattle.osc_score_laws.proofs.Plays.{Plays, none_plays, plays_on, one_plays}
use Rattle.osc_score_laws.proofs.Adds.{server}
use Rattle.osc_score_laws.proofs.Grouped.{Rises}
use Rattle.osc_score_laws.proofs.Bundles.{IsPlayable, unit_of_run, run_units, run_accepted, run_blocks}

-- the unit of a run, under its number
abbrev pub queued_at : ℕ → Group → Queued
queued_at number group = (group.tag, number, unit_of_run group)

-- the units of runs, under the numbers from one on
abbrev pub queue_from : ℕ → List Group → List Queued
queue_from number [] = []
queue_from number (group ∷ groups) = queued_at number group ∷ queue_from (number + 1) groups

-- how many bytes are recorded of a bundle that is sent
abbrev pub send_size : Group → ℕ
send_size group = 52 + (length (bundle_text group) + blob_end (length (bundle_text group)))

abbrev pub sends_size : List Group → ℕ
sends_size [] = 0
sends_size (group ∷ groups) = send_size group + sends_size groups

-- all units of the queue are taken before the item
abbrev AreBehind : Queued → List Queued → Type 0
AreBehind item items = AllByRecursion (λ other. is_before item other ≡ false) items

none_before : (item : Queued) (items : List Queued) → AreBehind item items → position_or_len (is_before item) items ≡ length items
none_before item [] all = refl
none_before item (other ∷ items) all =
    ap (λ (t : Bool). cond (not t) (1 + position_or_len (is_before item) items) 0) all.0
    ∙ omega (arith, none_before item items all.1)

enter_last : (item : Queued) (items : List Queued) → AreBehind item items → enter item items ≡ items ++ item ∷ []
enter_last item items all = ap (λ (n : ℕ). insert items n item) (none_before item items all) ∙ insert_end items item

later : (m n a b : ℕ) → n < m → (nat_lt m n || (m == n && nat_lt a b)) ≡ false
later m n a b less = grind (arith, nat_tests)

-- the last of runs whose tags rise is above the others
pub above_all : (below : ℕ) (done : List Group) (group : Group) (more : List Group) → Rises below (done ++ group ∷ more) → below < group.tag
above_all below [] group more rises = rises.0
above_all below (first ∷ done) group more rises = let up = rises.0 in omega (arith, above_all first.tag done group more rises.1)

all_behind : (below number own : ℕ) (done : List Group) (group : Group) (more : List Group) → Rises below (done ++ group ∷ more)
    → AreBehind (queued_at own group) (queue_from number done)
all_behind below number own [] group more rises = tt
all_behind below number own (first ∷ done) group more rises =
    (later group.tag first.tag own number (above_all first.tag done group more rises.1), all_behind first.tag (number + 1) own done group more rises.1)

pub queue_length : (number : ℕ) (groups : List Group) → length (queue_from number groups) ≡ length groups
queue_length number [] = refl
queue_length number (group ∷ groups) = ap suc (queue_length (number + 1) groups)

few_blocks : (number : ℕ) (groups : List Group) → AllByRecursion IsPlayable groups → queued_blocks (queue_from number groups) ≤ 1024 * length groups
few_blocks number [] all = omega arith
few_blocks number (group ∷ groups) all = omega (arith, run_blocks group (all.0).short, few_blocks (number + 1) groups all.1)

pub queue_on : (number : ℕ) (done : List Group) (group : Group) → queue_from number done ++ queued_at (number + length done) group ∷ [] ≡ queue_from number (done ++ group ∷ [])
queue_on number [] group = let same : number + 0 ≡ number = omega arith in ap (λ (n : ℕ). queued_at n group ∷ []) same
queue_on number (first ∷ done) group =
    let same : number + suc (length done) ≡ number + 1 + length done = omega arith in
    ap (λ (n : ℕ). queued_at number first ∷ (queue_from (number + 1) done ++ queued_at n group ∷ [])) same
    ∙ ap (λ (l : List Queued). queued_at number first ∷ l) (queue_on (number + 1) done group)

max_is : (m n : ℕ) → n < m → max m n ≡ m
max_is m n less = omega arith

-- a unit is never late whose tag is above the clock
on_time : (tag clock : ℕ) → clock < tag → not (not (tag == 1) && nat_lt tag clock) ≡ true
on_time tag clock above = grind (arith, nat_tests)

is_kept_above : (late : Late) (clock : ℕ) (unit : TimedUnit) → clock < unit.tag → is_kept late clock unit ≡ true
is_kept_above Deliver clock unit above = refl
is_kept_above Discard clock unit above = on_time unit.tag clock above

-- a unit takes the next number, and is queued or not
abbrev with_one : State → TimedUnit → Bool → Stepped
with_one state unit t =
    leaves (record state {
      queue = enter_all (cond t (waiting state.clock state.next_unit unit ∷ []) []) state.queue;
      next_unit = state.next_unit + 1;
    })
    (queued state.next_unit 1 (1 - length (cond t (unit ∷ []) [])))

-- it is queued where there is room for it
abbrev submits_one : State → TimedUnit → Bool → Stepped
submits_one state unit t =
    let keeps : List TimedUnit = cond t (unit ∷ []) [] in
    cond (nat_lt (free_places state) (length keeps)) (leaves state (units_full (record { need = length keeps; free = free_places state })))
    (cond (nat_lt (free_blocks state) (blocks_of keeps)) (leaves state (pool_full (record { need = blocks_of keeps; free = free_blocks state })))
    (with_one state unit t))

abbrev queues : State → TimedUnit → Stepped
queues state unit =
    leaves (record state { queue = enter (waiting state.clock state.next_unit unit) state.queue; next_unit = state.next_unit + 1 }) (queued state.next_unit 1 0)

-- one unit that isn't late is queued where there is room for it
one_queued : (state : State) (unit : TimedUnit) → state.clock < unit.tag → length state.queue + 1 ≤ state.caps.units
    → queued_blocks state.queue + blocks unit ≤ state.caps.blocks → submit_units state (unit ∷ []) ≡ queues state unit
one_queued state unit above place room =
    let done : Stepped = queues state unit in
    ap (submits_one state unit) (is_kept_above state.caps.late state.clock unit above)
    ∙ ap (λ (t : Bool). cond t (leaves state (units_full (record { need = 1; free = free_places state })))
    (cond (nat_lt (free_blocks state) (blocks unit + 0)) (leaves state (pool_full (record { need = blocks unit + 0; free = free_blocks state }))) done))
    (has_room state.caps.units (length state.queue) 1 place)
    ∙ ap (λ (t : Bool). cond t (leaves state (pool_full (record { need = blocks unit + 0; free = free_blocks state }))) done)
    (has_room state.caps.blocks (queued_blocks state.queue) (blocks unit + 0) (omega arith))

pub sends_play : Known → (caps : Limits) (size : ℕ) → IsRoomy caps size → (methods : List Method) (done more : List Group) (clock next recorded : ℕ)
    → AllByRecursion IsPlayable done → AllByRecursion IsPlayable more → Rises clock (done ++ more) → length done + length more ≤ 16
    → recorded + sends_size more ≤ caps.recording
    → Plays (server caps methods (queue_from next done) clock (next + length done) recorded) (sends more)
    (server caps methods (queue_from next (done ++ more)) clock (next + length (done ++ more)) (recorded + sends_size more)) []
sends_play known caps size roomy methods done [] clock next recorded all others rises few fits =
    let same : recorded ≡ recorded + 0 = omega arith in
    let here : State = server caps methods (queue_from next done) clock (next + length done) recorded in
    subst₂ (λ (l : List Group) (n : ℕ). Plays here [] (server caps methods (queue_from next l) clock (next + length l) n) [])
    (sym (append-nil done)) same (none_plays here)
sends_play known caps size roomy methods done (group ∷ more) clock next recorded all others rises few fits =
    let number : ℕ = next + length done in
    let state : State = server caps methods (queue_from next done) clock number recorded in
    let unit : TimedUnit = unit_of_run group in
    let packet : List ℕ = bundle_text group in
    let accepted = run_accepted known group others.0 in
    let units = roomy.units in
    let blocks_there = roomy.blocks in
    let above : clock < group.tag = above_all clock done group more rises in
    let decides : decided state (submit packet) ≡ queues state unit =
    ap (submit_units state) (run_units known group others.0)
    ∙ one_queued state unit above (omega (arith, queue_length next done))
    (omega (arith, few_blocks next done all, run_blocks group (others.0).short)) in
    let after : Stepped = noted state (send_size group) (queues state unit) in
    let is : step state (submit packet) ≡ after =
    step_is state (submit packet) (queues state unit) decides refl (omega arith) in
    let one : Plays state (Send packet ∷ []) after.state [] =
    one_plays state (Send packet) (submit packet) after (ap (sent state packet) accepted) (ap (stop_sent state packet) accepted) is
    (record { adds = refl; fine = λ no. no; room = refl; silent = refl }) in
    let more_done : List Group = done ++ group ∷ [] in
    let queue : enter (waiting clock number unit) (queue_from next done) ≡ queue_from next more_done =
    ap (λ (n : ℕ). enter (n, number, unit) (queue_from next done)) (max_is group.tag clock above)
    ∙ enter_last (queued_at number group) (queue_from next done) (all_behind clock next number done group more rises)
    ∙ queue_on next done group in
    let count : number + 1 ≡ next + length more_done = omega (arith, length-append done (group ∷ [])) in
    let there : State = server caps methods (queue_from next more_done) clock (next + length more_done) (recorded + send_size group) in
    let moved : Plays state (Send packet ∷ []) there [] =
    subst₂ (λ (q : List Queued) (n : ℕ). Plays state (Send packet ∷ []) (record there { queue = q; next_unit = n }) []) queue count one in
    let whole : more_done ++ more ≡ done ++ group ∷ more = append_assoc done (group ∷ []) more in
    let sum : recorded + send_size group + sends_size more ≡ recorded + (send_size group + sends_size more) = omega arith in
    let rest : Plays there (sends more)
    (server caps methods (queue_from next (more_done ++ more)) clock (next + length (more_done ++ more)) (recorded + send_size group + sends_size more)) [] =
    sends_play known caps size roomy methods more_done more clock next (recorded + send_size group) (all_on done all others.0) others.1
    (subst (Rises clock) (sym whole) rises) (omega (arith, length-append done (group ∷ []))) (omega arith) in
    plays_on state there
    (server caps methods (queue_from next (done ++ group ∷ more)) clock (next + length (done ++ group ∷ more)) (recorded + (send_size group + sends_size more)))
    (Send packet ∷ []) (sends more) [] [] moved
    (subst₂ (λ (l : List Group) (n : ℕ). Plays there (sends more) (server caps methods (queue_from next l) clock (next + length l) n) []) whole sum rest) where
      all_on : (groups : List Group) → AllByRecursion IsPlayable groups → IsPlayable group → AllByRecursion IsPlayable (groups ++ group ∷ [])
      all_on [] all one = (one, tt)
      all_on (first ∷ groups) all one = (all.0, all_on groups all.1 one)
