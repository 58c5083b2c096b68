-- A batch is played: the clock is set to each run's tag, and a pump releases just that run.
use Rattle.std.proofs.Common.{◌≡◌, ℕ, zero, suc, ◌+◌, ◌*◌, ◌<◌, ◌≤◌, Bool, true, false, cond, nat_lt, nat_le, List, [], ◌∷◌, ◌++◌, length, map, Option, Some, None, refl, sym, ap, ◌∙◌, subst, arith, append-nil}
use Rattle.std.specs.Option.{option_or}
use Rattle.std.specs.List.{AllByRecursion, flat_map}
use Rattle.std.proofs.lemmas.Bool.Decides.{nat_tests}
use Rattle.std.proofs.lemmas.List.{length-map}
use Rattle.osc_pattern.specs.Methods.{Method, IsMethodList}
use Rattle.osc_model.specs.Limits.{Limits}
use Rattle.osc_model.specs.State.{State, Queued}
use Rattle.osc_model.specs.Recordings.{entry_size}
use Rattle.osc_model.specs.Events.{tick, release, ticked, clock_back, nothing_due, Entry, Call, Hit, adds_entry}
use Rattle.osc_model.specs.Refusals.{IsRefusal}
use Rattle.osc_model.specs.Step.{Stepped, step, leaves, releases, recorded_as, calls_of_unit, hits_of}
use Rattle.osc_model.specs.History.{after}
use Rattle.osc_model.proofs.Stepping.{noted}
use Rattle.osc_script.specs.declared.act.Act.TheVariants.{Tick, Pump}
use Rattle.osc_score.specs.Scores.{Group}
use Rattle.osc_score.proofs.Acts.{ticks}
use Rattle.osc_model.specs.Events.{room_in}
use Rattle.osc_player.specs.Plain.{entry_of, is_released, pumped, pump}
use Rattle.osc_score_laws.proofs.Playing.{history_from}
use Rattle.osc_score_laws.specs.Known.{Known}
use Rattle.osc_score_laws.specs.Heard.{Sound, sound_at, sounds, NoneIsRefused}
use Rattle.osc_score_laws.proofs.Steps.{step_is}
use Rattle.osc_score_laws.proofs.Plays.{Plays, none_plays, plays_on, one_plays}
use Rattle.osc_score_laws.proofs.Adds.{server}
use Rattle.osc_score_laws.proofs.Grouped.{Rises, run_sounds}
use Rattle.osc_score_laws.proofs.Bundles.{IsPlayable}
use Rattle.osc_score_laws.proofs.Sends.{queued_at, queue_from}
use Rattle.osc_score_laws.proofs.Calls.{HasMethod, unit_heard, unit_called}

-- how many bytes are recorded of a run that is played
abbrev pub tick_size : Group → ℕ
tick_size group = 48 + (44 + 8 * length group.notes)

abbrev pub ticks_size : List Group → ℕ
ticks_size [] = 0
ticks_size (group ∷ groups) = tick_size group + ticks_size groups

-- there is a method at each address of a run
abbrev pub HasMethods : List Method → Group → Type 0
HasMethods methods group = AllByRecursion (λ note. HasMethod methods note.address) group.notes

-- the tag of the last run
abbrev pub last_tag : ℕ → List Group → ℕ
last_tag clock [] = clock
last_tag clock (group ∷ groups) = last_tag group.tag groups

-- nothing is due in a state
abbrev FindsNone : State → Type 0
FindsNone state = (next : Option ℕ) × (step state release ≡ leaves state (nothing_due next))

due_later : (m n : ℕ) → n < m → nat_le m n ≡ false
due_later m n less = grind (arith, nat_tests)

due_now : (m : ℕ) → nat_le m m ≡ true
due_now m = grind (arith, nat_tests)

not_back : (m n : ℕ) → n < m → nat_lt m n ≡ false
not_back m n less = grind (arith, nat_tests)

-- where the runs that wait are later, nothing is due
finds_none : (caps : Limits) (methods : List Method) (number clock next recorded : ℕ) (groups : List Group) → Rises clock groups
    → FindsNone (server caps methods (queue_from number groups) clock next recorded)
finds_none caps methods number clock next recorded [] rises = (None, refl)
finds_none caps methods number clock next recorded (group ∷ groups) rises =
    let state : State = server caps methods (queue_from number (group ∷ groups)) clock next recorded in (
      Some group.tag,
      ap (λ (t : Bool).
          let d : Stepped = cond t (releases state (queued_at number group) (queue_from (number + 1) groups)) (leaves state (nothing_due (Some group.tag))) in
          cond (adds_entry d.answer) (recorded_as state (entry_size release d.answer) d) d)
          (due_later group.tag clock rises.0),
    )

none_pumped : (most : ℕ) (state : State) → FindsNone state → pumped most state ≡ []
none_pumped zero state none = refl
none_pumped (suc most) state (next, is) =
    ap (λ (s : Stepped). cond (is_released s.answer) (entry_of state release ∷ pumped most (step state release).state) []) is

-- a pump that releases one unit
pub pump_plays : (state : State) (most : ℕ) (d : Stepped) (heard : List Sound) → length state.queue ≡ suc most → step state release ≡ d → is_released d.answer ≡ true
    → FindsNone d.state → (IsRefusal d.answer → ⊥) → map (sound_at state.clock) d.invocations ≡ heard → Plays state (Pump ∷ []) d.state heard
pump_plays state most d heard count is goes none fine sounded =
    let one : List Entry = entry_of state release ∷ [] in
    let pumps : pump state ≡ one =
    ap (λ (n : ℕ). pumped n state) count
    ∙ ap (λ (s : Stepped). cond (is_released s.answer) (entry_of state release ∷ pumped most s.state) []) is
    ∙ ap (λ (t : Bool). cond t (entry_of state release ∷ pumped most d.state) []) goes
    ∙ ap (λ (l : List Entry). entry_of state release ∷ l) (none_pumped most d.state none) in
    let whole : history_from state (Pump ∷ []) ≡ one = ap (λ (l : List Entry). l ++ history_from (after state l) []) pumps in
    let ended : after state (pump state) ≡ d.state = ap (after state) pumps ∙ ap (λ (s : Stepped). s.state) is in
    record {
      ends = ap (after state) whole ∙ ap (λ (s : Stepped). s.state) is;
      heard = ap (sounds state) whole ∙ ap (λ (s : Stepped). map (sound_at state.clock) s.invocations ++ []) is
          ∙ ap (λ (l : List Sound). l ++ []) sounded ∙ append-nil heard;
      accepted = subst NoneIsRefused (sym whole) (subst (λ (s : Stepped). IsRefusal s.answer → ⊥) (sym is) fine, tt);
      goes_on = ap (λ (s : State). option_or (room_in (step s release).answer) None) ended
          ∙ ap (λ (s : Stepped). option_or (room_in s.answer) None) none.1;
    }

pub ticks_play : Known → (caps : Limits) (methods : List Method) → IsMethodList methods → (groups : List Group) (number clock next recorded : ℕ)
    → AllByRecursion IsPlayable groups → AllByRecursion (HasMethods methods) groups → Rises clock groups → recorded + ticks_size groups ≤ caps.recording
    → Plays (server caps methods (queue_from number groups) clock next recorded) (ticks groups)
    (server caps methods [] (last_tag clock groups) next (recorded + ticks_size groups)) (flat_map run_sounds groups)
ticks_play known caps methods list [] number clock next recorded all have rises fits =
    let same : recorded ≡ recorded + 0 = omega arith in
    subst (λ (n : ℕ). Plays (server caps methods [] clock next recorded) [] (server caps methods [] clock next n) []) same
    (none_plays (server caps methods [] clock next recorded))
ticks_play known caps methods list (group ∷ groups) number clock next recorded all have rises fits =
    let first : Queued = queued_at number group in
    let others : List Queued = queue_from (number + 1) groups in
    let state : State = server caps methods (first ∷ others) clock next recorded in
    let moved : Stepped = leaves (record state { clock = group.tag }) ticked in
    let ticked_is : step state (tick group.tag) ≡ noted state 48 moved =
    step_is state (tick group.tag) moved
    (ap (λ (t : Bool). cond t (leaves state (clock_back clock)) moved) (not_back group.tag clock rises.0)) refl (omega arith) in
    let then : State = server caps methods (first ∷ others) group.tag next (recorded + 48) in
    let one : Plays state (Tick group.tag ∷ []) then [] =
    one_plays state (Tick group.tag) (tick group.tag) (noted state 48 moved) refl refl ticked_is
    (record { adds = refl; fine = λ no. no; room = refl; silent = refl }) in
    let calls : List Call = calls_of_unit methods first in
    let size : ℕ = 44 + 8 * length (hits_of calls) in
    let count : length (hits_of calls) ≡ length group.notes =
    length-map calls (λ (call : Call). let h : Hit = record { index = call.index; id = call.id } in h)
    ∙ unit_called known methods 0 group.notes list ((all.0).run).lawful have.0 in
    let taken : Stepped = releases then first others in
    let released_is : step then release ≡ noted then size taken =
    step_is then release taken (ap (λ (t : Bool). cond t taken (leaves then (nothing_due (Some group.tag)))) (due_now group.tag)) refl (omega arith) in
    let two : Plays then (Pump ∷ []) (noted then size taken).state (run_sounds group) =
    pump_plays then (length others) (noted then size taken) (run_sounds group) refl released_is refl
    (finds_none caps methods (number + 1) group.tag next (recorded + 48 + size) groups rises.1) (λ no. no)
    (unit_heard known methods 0 group.tag number group.notes list ((all.0).run).lawful have.0) in
    let sum : recorded + 48 + size ≡ recorded + tick_size group = omega arith in
    let there : State = server caps methods others group.tag next (recorded + tick_size group) in
    let two_there : Plays then (Pump ∷ []) there (run_sounds group) =
    subst (λ (n : ℕ). Plays then (Pump ∷ []) (record there { recorded = n }) (run_sounds group)) sum two in
    let total : recorded + tick_size group + ticks_size groups ≡ recorded + (tick_size group + ticks_size groups) = omega arith in
    let rest : Plays there (ticks groups) (server caps methods [] (last_tag group.tag groups) next (recorded + tick_size group + ticks_size groups))
    (flat_map run_sounds groups) =
    ticks_play known caps methods list groups (number + 1) group.tag next (recorded + tick_size group) all.1 have.1 rises.1 (omega arith) in
    let end : State = server caps methods [] (last_tag group.tag groups) next (recorded + (tick_size group + ticks_size groups)) in
    plays_on state then end (Tick group.tag ∷ []) (Pump ∷ ticks groups) [] (run_sounds group ++ flat_map run_sounds groups) one
    (plays_on then there end (Pump ∷ []) (ticks groups) (run_sounds group) (flat_map run_sounds groups) two_there
    (subst (λ (n : ℕ). Plays there (ticks groups) (server caps methods [] (last_tag group.tag groups) next n) (flat_map run_sounds groups)) total rest))
