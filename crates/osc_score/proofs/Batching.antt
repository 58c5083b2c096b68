-- A batch of runs is taken off, and the rest goes on.
use Rattle.std.proofs.Common.{◌≡◌, ℕ, zero, suc, ◌<◌, ◌≤◌, min, List, [], ◌∷◌, ◌++◌, length, take, drop, map, refl, sym, ap, ◌∙◌, arith}
use Rattle.std.proofs.Common.{append_assoc, length-drop}
use Rattle.std.proofs.lemmas.Grind.{common_steps}
use Rattle.std.proofs.lemmas.List.Concat.{flat_map-append}
use Rattle.osc_script.specs.declared.act.Act.{Act}
use Rattle.osc_script.specs.declared.act.Act.TheVariants.{Send, Tick, Pump}
use Rattle.osc_script.specs.Written.{act_line, written}
use Rattle.osc_score.specs.declared.run.Run.{Run}
use Rattle.osc_score.specs.Scores.{Note, Group, groups_of, bundle_text, addresses_of}
use Rattle.osc_score.specs.Scripted.{batch, batches, score_script}
use Rattle.osc_score.proofs.Acts.{adds, sends, ticks}
use Rattle.osc_score.specs.Plans.{run_of, plan_of, run_sends, run_ticks, run_batch, run_batches, plan_script}

none_taken : (n : ℕ) → take {A = Run} n [] ≡ []
none_taken zero = refl
none_taken (suc n) = refl

none_dropped : (n : ℕ) → drop {A = Run} n [] ≡ []
none_dropped zero = refl
none_dropped (suc n) = refl

none_left : (n : ℕ) → run_batches n [] ≡ []
none_left zero = refl
none_left (suc n) =
    ap (λ (l : List Run). run_batch l ++ run_batches n (drop 16 [])) (none_taken 16)
    ∙ ap (λ (l : List Run). run_batches n l) (none_dropped 16) ∙ none_left n

-- it doesn't matter how many batches there may be, where there may be enough
enough : (m n : ℕ) (runs : List Run) → length runs ≤ m → length runs ≤ n → run_batches m runs ≡ run_batches n runs
enough m n [] few also = none_left m ∙ sym (none_left n)
enough zero n (run ∷ runs) few also = absurd (omega arith)
enough (suc m) zero (run ∷ runs) few also = absurd (omega arith)
enough (suc m) (suc n) (run ∷ runs) few also =
    let more : List Run = drop 16 (run ∷ runs) in
    ap (λ (l : List Act). run_batch (take 16 (run ∷ runs)) ++ l)
    (enough m n more (omega (arith, length-drop 16 (run ∷ runs))) (omega (arith, length-drop 16 (run ∷ runs))))

step : (runs : List Run) → 0 < length runs
    → run_batches (length runs) runs ≡ run_batch (take 16 runs) ++ run_batches (length (drop 16 runs)) (drop 16 runs)
step [] some = absurd (omega arith)
step (run ∷ runs) some =
    ap (λ (l : List Act). run_batch (take 16 (run ∷ runs)) ++ l)
    (enough (length runs) (length (drop 16 (run ∷ runs))) (drop 16 (run ∷ runs)) (omega (arith, length-drop 16 (run ∷ runs))) (omega arith))

taken_same : (n : ℕ) (runs : List Run) → n ≡ min (length runs) 16 → take n runs ≡ take 16 runs
taken_same n runs is = grind (arith, common_steps)

dropped_same : (n : ℕ) (runs : List Run) → n ≡ min (length runs) 16 → drop n runs ≡ drop 16 runs
dropped_same n runs is = grind (arith, common_steps)

-- the lines of a batch, and those of the rest
pub batch_off : (runs front back : List Run) (n : ℕ) (before after whole : List ℕ) → 0 < length runs → n ≡ min (length runs) 16 → front ≡ take n runs
    → back ≡ drop n runs
    → after ≡ before ++ written (run_batch front) → before ++ written (run_batches (length runs) runs) ≡ whole
    → after ++ written (run_batches (length back) back) ≡ whole
batch_off runs front back n before after whole some is front_is back_is added so =
    let first : front ≡ take 16 runs = front_is ∙ taken_same n runs is in
    let more : back ≡ drop 16 runs = back_is ∙ dropped_same n runs is in
    ap (λ (l : List ℕ). l ++ written (run_batches (length back) back)) added
    ∙ append_assoc before (written (run_batch front)) (written (run_batches (length back) back))
    ∙ ap (λ (l : List ℕ). before ++ l) (sym (flat_map-append act_line (run_batch front) (run_batches (length back) back)))
    ∙ ap (λ (l : List Run). before ++ written (run_batch l ++ run_batches (length back) back)) first
    ∙ ap (λ (l : List Run). before ++ written (run_batch (take 16 runs) ++ run_batches (length l) l)) more
    ∙ ap (λ (l : List Act). before ++ written l) (sym (step runs some)) ∙ so

-- What is kept of notes plays them.

sends_same : (groups : List Group) → run_sends (map run_of groups) ≡ sends groups
sends_same [] = refl
sends_same (group ∷ groups) = ap (λ (l : List Act). Send (bundle_text group) ∷ l) (sends_same groups)

ticks_same : (groups : List Group) → run_ticks (map run_of groups) ≡ ticks groups
ticks_same [] = refl
ticks_same (group ∷ groups) = ap (λ (l : List Act). Tick group.tag ∷ Pump ∷ l) (ticks_same groups)

take_map : (n : ℕ) (groups : List Group) → take n (map run_of groups) ≡ map run_of (take n groups)
take_map zero groups = refl
take_map (suc n) [] = refl
take_map (suc n) (group ∷ groups) = ap (λ (l : List Run). run_of group ∷ l) (take_map n groups)

drop_map : (n : ℕ) (groups : List Group) → drop n (map run_of groups) ≡ map run_of (drop n groups)
drop_map zero groups = refl
drop_map (suc n) [] = refl
drop_map (suc n) (group ∷ groups) = drop_map n groups

batches_same : (count : ℕ) (groups : List Group) → run_batches count (map run_of groups) ≡ batches count groups
batches_same zero groups = refl
batches_same (suc count) groups =
    ap (λ (l : List Run). run_batch l ++ run_batches count (drop 16 (map run_of groups))) (take_map 16 groups)
    ∙ ap (λ (l : List Run). run_batch (map run_of (take 16 groups)) ++ run_batches count l) (drop_map 16 groups)
    ∙ ap (λ (l : List Act). (l ++ run_ticks (map run_of (take 16 groups))) ++ run_batches count (map run_of (drop 16 groups))) (sends_same (take 16 groups))
    ∙ ap (λ (l : List Act). (sends (take 16 groups) ++ l) ++ run_batches count (map run_of (drop 16 groups))) (ticks_same (take 16 groups))
    ∙ ap (λ (l : List Act). batch (take 16 groups) ++ l) (batches_same count (drop 16 groups))

as_many : (groups : List Group) → length (map run_of groups) ≡ length groups
as_many [] = refl
as_many (group ∷ groups) = ap suc (as_many groups)

pub plan_plays : (notes : List Note) → plan_script (plan_of notes) ≡ score_script notes
plan_plays notes =
    ap (λ (n : ℕ). written (adds (addresses_of notes) ++ run_batches n (map run_of (groups_of notes)))) (as_many (groups_of notes))
    ∙ ap (λ (l : List Act). written (adds (addresses_of notes) ++ l)) (batches_same (length (groups_of notes)) (groups_of notes))
