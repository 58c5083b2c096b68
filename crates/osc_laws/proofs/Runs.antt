-- Invocations that stand in runs, one for each unit and in order, are consecutive.
use Rattle.std.proofs.Common.{◌≡◌, ◌≢◌, ◌⊎◌, inl, inr, ℕ, List, [], ◌∷◌, ◌++◌, refl, sym, subst}
use Rattle.std.specs.List.{AllByRecursion}
use Rattle.osc_model.specs.Events.{Call, Invocation}
use Rattle.osc_model.specs.Step.{invocations_of}
use Rattle.osc_laws.specs.Consecutive.{ComesBefore, AreConsecutive}
use Rattle.osc_laws.specs.Exactly.{AreInOrder}
use Rattle.osc_laws.proofs.Places.{all_split}

-- behind an invocation stand more calls of its unit, in order, and then none
abbrev Follows : Invocation → List Invocation → Type 0
Follows one [] = Unit {0}
Follows one (other ∷ others) = ((other.unit ≡ one.unit) × ComesBefore one.call other.call × Follows one others)
    ⊎ AllByRecursion (λ later. later.unit ≢ one.unit) (other ∷ others)

-- so does it behind each
abbrev pub AreRuns : List Invocation → Type 0
AreRuns [] = Unit {0}
AreRuns (one ∷ others) = Follows one others × AreRuns others

run_follows : (number : ℕ) (call : Call) (calls : List Call) (later : List Invocation) → AllByRecursion (ComesBefore call) calls
    → AllByRecursion (λ other. other.unit ≢ number) later
    → Follows (record { unit = number; call = call }) (invocations_of number calls ++ later)
run_follows number call [] [] before others = tt
run_follows number call [] (one ∷ later) before others = inr others
run_follows number call (next ∷ calls) later before others = inl (refl, before.0, run_follows number call calls later before.1 others)

-- a unit's calls in order, and then runs of other units
pub one_run : (number : ℕ) (calls : List Call) (later : List Invocation) → AreInOrder calls → AllByRecursion (λ other. other.unit ≢ number) later
    → AreRuns later → AreRuns (invocations_of number calls ++ later)
one_run number [] later ordered others runs = runs
one_run number (call ∷ calls) later ordered others runs =
    (run_follows number call calls later ordered.0 others, one_run number calls later ordered.1 others runs)

-- What stands between two invocations of a unit.

abbrev IsWithinRun : Invocation → List Invocation → Invocation → Type 0
IsWithinRun one between other = AllByRecursion (λ call. call.unit ≡ one.unit) between × ComesBefore one.call other.call

within_run : (one : Invocation) (between : List Invocation) (other : Invocation) (later : List Invocation) → Follows one (between ++ other ∷ later)
    → other.unit ≡ one.unit → IsWithinRun one between other
within_run one [] other later (inl (same, before, rest)) is = (tt, before)
within_run one [] other later (inr none) is = absurd (none.0 is)
within_run one (next ∷ between) other later (inl (same, before, rest)) is = let more = within_run one between other later rest is in ((same, more.0), more.1)
within_run one (next ∷ between) other later (inr none) is =
    absurd ((all_split (λ (call : Invocation). call.unit ≢ one.unit) (next ∷ between) (other ∷ later) none).1.0 is)

runs_behind : (before later : List Invocation) → AreRuns (before ++ later) → AreRuns later
runs_behind [] later runs = runs
runs_behind (one ∷ before) later runs = runs_behind before later runs.1

pub are_consecutive : (all : List Invocation) → AreRuns all → AreConsecutive all
are_consecutive all runs =
    record {
      together = λ one other between stand same.
          (within_run one between other stand.1 (after one other between stand.0 stand.1 (subst AreRuns stand.2 runs)) (sym same)).0;
      in_order = λ one other between stand same.
          (within_run one between other stand.1 (after one other between stand.0 stand.1 (subst AreRuns stand.2 runs)) (sym same)).1;
    }
  where
    after : (one other : Invocation) (between before later : List Invocation) → AreRuns (before ++ one ∷ (between ++ other ∷ later))
        → Follows one (between ++ other ∷ later)
    after one other between before later runs = (runs_behind before (one ∷ (between ++ other ∷ later)) runs).0
