-- One line more, and those after it.
use Rattle.std.proofs.Common.{◌≡◌, ◌∙◌, ℕ, suc, ◌+◌, ◌-◌, ◌<◌, ◌≤◌, ◌/◌, ◌%◌, List, ◌++◌, sym, ap, arith, append_assoc, append-nil}
use Rattle.osc_script.specs.Draws.{after, drawn}
use Rattle.osc_script.specs.declared.act.Act.TheVariants.{Add}
use Rattle.osc_script.specs.Written.{act_line, written}
use Rattle.osc_script.specs.Generated.{member_of, act_of_kind, draws_of, drawn_acts, first_acts, kind_of, moment_after}

first_step : (n k : ℕ) (before : List ℕ)
    → (before ++ act_line (Add (member_of (k % 8) (k / 8)))) ++ written (first_acts n (k + 1)) ≡ before ++ written (first_acts (suc n) k)
unfolding first_acts
first_step n k before = append_assoc before (act_line (Add (member_of (k % 8) (k / 8)))) (written (first_acts n (k + 1)))

pub first_more : (lines k : ℕ) (before : List ℕ) → k < lines
    → (before ++ act_line (Add (member_of (k % 8) (k / 8)))) ++ written (first_acts (lines - (k + 1)) (k + 1)) ≡ before ++ written (first_acts (lines - k) k)
first_more lines k before lt =
    let left : lines - k ≡ suc (lines - (k + 1)) = omega arith in
    first_step (lines - (k + 1)) k before ∙ ap (λ (n : ℕ). before ++ written (first_acts n k)) (sym left)

pub first_end : (lines k : ℕ) (before : List ℕ) → lines ≤ k → before ++ written (first_acts (lines - k) k) ≡ before
unfolding first_acts
first_end lines k before le =
    let none : lines - k ≡ 0 = omega arith in
    ap (λ (n : ℕ). before ++ written (first_acts n k)) none ∙ append-nil before

drawn_step : (n moment number : ℕ) (before : List ℕ)
    → (before ++ act_line (act_of_kind (kind_of (drawn 1 32 number)) moment (after 1 number)))
    ++ written (drawn_acts n (moment_after (kind_of (drawn 1 32 number)) moment (after 1 number))
    (after (draws_of (kind_of (drawn 1 32 number))) (after 1 number)))
    ≡ before ++ written (drawn_acts (suc n) moment number)
unfolding drawn_acts
drawn_step n moment number before = append_assoc before (act_line (act_of_kind (kind_of (drawn 1 32 number)) moment (after 1 number))) _

pub drawn_more : (lines k moment number : ℕ) (before : List ℕ) → k < lines
    → (before ++ act_line (act_of_kind (kind_of (drawn 1 32 number)) moment (after 1 number)))
    ++ written (drawn_acts (lines - (k + 1)) (moment_after (kind_of (drawn 1 32 number)) moment (after 1 number))
    (after (draws_of (kind_of (drawn 1 32 number))) (after 1 number)))
    ≡ before ++ written (drawn_acts (lines - k) moment number)
drawn_more lines k moment number before lt =
    let left : lines - k ≡ suc (lines - (k + 1)) = omega arith in
    drawn_step (lines - (k + 1)) moment number before ∙ ap (λ (n : ℕ). before ++ written (drawn_acts n moment number)) (sym left)

pub drawn_end : (lines k moment number : ℕ) (before : List ℕ) → lines ≤ k → before ++ written (drawn_acts (lines - k) moment number) ≡ before
unfolding drawn_acts
drawn_end lines k moment number before le =
    let none : lines - k ≡ 0 = omega arith in
    ap (λ (n : ℕ). before ++ written (drawn_acts n moment number)) none ∙ append-nil before
