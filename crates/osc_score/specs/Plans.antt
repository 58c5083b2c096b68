-- What is kept of a score, and the script that plays it.
use Rattle.osc_score.specs.declared.limits.TheConstants.{BATCH_SIZE}
use Rattle.std.specs.Prelude.{ℕ, zero, suc, List, [], ◌∷◌, ◌++◌, length, map, take, drop}
use Rattle.osc_script.specs.declared.act.Act.{Act}
use Rattle.osc_script.specs.declared.act.Act.TheVariants.{Add, Send, Tick, Pump}
use Rattle.osc_script.specs.Written.{written}
use Rattle.osc_score.specs.declared.run.Run.{Run}
use Rattle.osc_score.specs.Scores.{Note, Group, groups_of, bundle_text, addresses_of}

-- the distinct addresses in the order of their first use, and the runs
pub record Plan : Type 0 where
  pub addresses : List (List ℕ)
  pub runs : List Run

-- a run's tag and bundle
abbrev pub run_of : Group → Run
run_of group = record { tag = group.tag; bundle = bundle_text group }

-- what is kept of notes
abbrev pub plan_of : List Note → Plan
plan_of notes = record { addresses = addresses_of notes; runs = map run_of (groups_of notes) }

abbrev pub run_sends : List Run → List Act
run_sends [] = []
run_sends (run ∷ runs) = Send run.bundle ∷ run_sends runs

abbrev pub run_ticks : List Run → List Act
run_ticks [] = []
run_ticks (run ∷ runs) = Tick run.tag ∷ Pump ∷ run_ticks runs

abbrev pub run_batch : List Run → List Act
run_batch runs = run_sends runs ++ run_ticks runs

abbrev pub run_batches : ℕ → List Run → List Act
run_batches zero runs = []
run_batches (suc count) runs =
    run_batch (take BATCH_SIZE runs) ++ run_batches count (drop BATCH_SIZE runs)

-- the acts that play what is kept
abbrev pub plan_acts : Plan → List Act
plan_acts plan = map Add plan.addresses ++ run_batches (length plan.runs) plan.runs

-- the script that plays it
abbrev pub plan_script : Plan → List ℕ
plan_script plan = written (plan_acts plan)
