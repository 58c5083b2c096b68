-- Batches are played one after another.
use Rattle.std.proofs.Common.{◌≡◌, ℕ, zero, suc, ◌+◌, ◌≤◌, List, [], ◌∷◌, ◌++◌, length, take, drop, sym, ap, ◌∙◌, subst, subst₂, arith, take-append-drop}
use Rattle.std.proofs.Common.{length-drop, length-take}
use Rattle.std.specs.List.{AllByRecursion, flat_map}
use Rattle.std.proofs.lemmas.List.Concat.{flat_map-append}
use Rattle.osc_pattern.specs.Methods.{Method, IsMethodList}
use Rattle.osc_model.specs.Limits.{Limits}
use Rattle.osc_model.specs.State.{State}
use Rattle.osc_script.specs.declared.act.Act.{Act}
use Rattle.osc_score.specs.Scores.{Group}
use Rattle.osc_score.specs.Scripted.{batch, batches}
use Rattle.osc_score.proofs.Acts.{sends, ticks}
use Rattle.osc_score_laws.specs.Known.{Known}
use Rattle.osc_score_laws.specs.Heard.{Sound, IsRoomy}
use Rattle.osc_score_laws.proofs.Lists.{all_front, all_back}
use Rattle.osc_score_laws.proofs.Plays.{Plays, none_plays, plays_on}
use Rattle.osc_score_laws.proofs.Adds.{server}
use Rattle.osc_score_laws.proofs.Grouped.{Rises, run_sounds}
use Rattle.osc_score_laws.proofs.Bundles.{IsPlayable}
use Rattle.osc_score_laws.proofs.Sends.{queue_from, send_size, sends_size, sends_play}
use Rattle.osc_score_laws.proofs.Releases.{tick_size, ticks_size, HasMethods, last_tag, ticks_play}

-- how many bytes are recorded of runs
abbrev pub runs_size : List Group → ℕ
runs_size [] = 0
runs_size (group ∷ groups) = send_size group + tick_size group + runs_size groups

both_sizes : (groups : List Group) → sends_size groups + ticks_size groups ≡ runs_size groups
both_sizes [] = omega arith
both_sizes (group ∷ groups) = omega (arith, both_sizes groups)

sizes_on : (first more : List Group) → runs_size (first ++ more) ≡ runs_size first + runs_size more
sizes_on [] more = omega arith
sizes_on (group ∷ first) more = omega (arith, sizes_on first more)

rises_front : (clock : ℕ) (first more : List Group) → Rises clock (first ++ more) → Rises clock first
rises_front clock [] more rises = tt
rises_front clock (group ∷ first) more rises = (rises.0, rises_front group.tag first more rises.1)

rises_back : (clock : ℕ) (first more : List Group) → Rises clock (first ++ more) → Rises (last_tag clock first) more
rises_back clock [] more rises = rises
rises_back clock (group ∷ first) more rises = rises_back group.tag first more rises.1

-- a batch of at most 16 runs
batch_plays : Known → (caps : Limits) (size : ℕ) → IsRoomy caps size → (methods : List Method) → IsMethodList methods → (groups : List Group)
    (clock next recorded : ℕ) → length groups ≤ 16 → AllByRecursion IsPlayable groups → AllByRecursion (HasMethods methods) groups → Rises clock groups
    → recorded + runs_size groups ≤ caps.recording
    → Plays (server caps methods [] clock next recorded) (batch groups)
    (server caps methods [] (last_tag clock groups) (next + length groups) (recorded + runs_size groups)) (flat_map run_sounds groups)
batch_plays known caps size roomy methods list groups clock next recorded few all have rises fits =
    let none : next + 0 ≡ next = omega arith in
    let sum : recorded + sends_size groups + ticks_size groups ≡ recorded + runs_size groups = omega (arith, both_sizes groups) in
    let state : State = server caps methods [] clock next recorded in
    let middle : State = server caps methods (queue_from next groups) clock (next + length groups) (recorded + sends_size groups) in
    let end : State = server caps methods [] (last_tag clock groups) (next + length groups) (recorded + runs_size groups) in
    let one : Plays state (sends groups) middle [] =
    subst (λ (n : ℕ). Plays (server caps methods [] clock n recorded) (sends groups) middle []) none
    (sends_play known caps size roomy methods [] groups clock next recorded tt all rises (omega arith) (omega (arith, both_sizes groups))) in
    let two : Plays middle (ticks groups) end (flat_map run_sounds groups) =
    subst (λ (n : ℕ). Plays middle (ticks groups) (server caps methods [] (last_tag clock groups) (next + length groups) n) (flat_map run_sounds groups)) sum
    (ticks_play known caps methods list groups next clock (next + length groups) (recorded + sends_size groups) all have rises (omega (arith, both_sizes groups))) in
    plays_on state middle end (sends groups) (ticks groups) [] (flat_map run_sounds groups) one two

-- batches lead to a server with an empty queue, and the runs are heard
pub record BatchesPlay (state : State) (acts : List Act) (caps : Limits) (methods : List Method) (recorded : ℕ) (heard : List Sound) : Type 0 where
  pub clock : ℕ
  pub next : ℕ
  pub plays : Plays state acts (server caps methods [] clock next recorded) heard

pub batches_play : Known → (caps : Limits) (size : ℕ) → IsRoomy caps size → (methods : List Method) → IsMethodList methods → (count : ℕ) (groups : List Group)
    (clock next recorded : ℕ) → length groups ≤ count → AllByRecursion IsPlayable groups → AllByRecursion (HasMethods methods) groups → Rises clock groups
    → recorded + runs_size groups ≤ caps.recording
    → BatchesPlay (server caps methods [] clock next recorded) (batches count groups) caps methods (recorded + runs_size groups) (flat_map run_sounds groups)
batches_play known caps size roomy methods list zero [] clock next recorded few all have rises fits =
    let same : recorded ≡ recorded + 0 = omega arith in
    record {
      clock = clock;
      next = next;
      plays = subst (λ (n : ℕ). Plays (server caps methods [] clock next recorded) [] (server caps methods [] clock next n) []) same
          (none_plays (server caps methods [] clock next recorded));
    }
batches_play known caps size roomy methods list zero (group ∷ groups) clock next recorded few all have rises fits = absurd (omega arith)
batches_play known caps size roomy methods list (suc count) groups clock next recorded few all have rises fits =
    let first : List Group = take 16 groups in
    let more : List Group = drop 16 groups in
    let whole : first ++ more ≡ groups = take-append-drop 16 groups in
    let all_whole : AllByRecursion IsPlayable (first ++ more) = subst (AllByRecursion IsPlayable) (sym whole) all in
    let have_whole : AllByRecursion (HasMethods methods) (first ++ more) = subst (AllByRecursion (HasMethods methods)) (sym whole) have in
    let rises_whole : Rises clock (first ++ more) = subst (Rises clock) (sym whole) rises in
    let sum : runs_size first + runs_size more ≡ runs_size groups = sym (sizes_on first more) ∙ ap runs_size whole in
    let state : State = server caps methods [] clock next recorded in
    let middle : State = server caps methods [] (last_tag clock first) (next + length first) (recorded + runs_size first) in
    let one : Plays state (batch first) middle (flat_map run_sounds first) =
    batch_plays known caps size roomy methods list first clock next recorded (omega (arith, length-take 16 groups))
    (all_front IsPlayable first more all_whole) (all_front (HasMethods methods) first more have_whole) (rises_front clock first more rises_whole) (omega arith) in
    let two : BatchesPlay middle (batches count more) caps methods (recorded + runs_size first + runs_size more) (flat_map run_sounds more) =
    batches_play known caps size roomy methods list count more (last_tag clock first) (next + length first) (recorded + runs_size first)
    (omega (arith, length-drop 16 groups)) (all_back IsPlayable first more all_whole) (all_back (HasMethods methods) first more have_whole)
    (rises_back clock first more rises_whole) (omega arith) in
    let total : recorded + runs_size first + runs_size more ≡ recorded + runs_size groups = omega arith in
    let heard : flat_map run_sounds first ++ flat_map run_sounds more ≡ flat_map run_sounds groups =
    sym (flat_map-append run_sounds first more) ∙ ap (flat_map run_sounds) whole in
    record {
      clock = two.clock;
      next = two.next;
      plays = subst₂ (λ (n : ℕ) (l : List Sound). Plays state (batch first ++ batches count more) (server caps methods [] two.clock two.next n) l) total heard
          (plays_on state middle (server caps methods [] two.clock two.next (recorded + runs_size first + runs_size more)) (batch first) (batches count more)
          (flat_map run_sounds first) (flat_map run_sounds more) one two.plays);
    }
