-- The script that plays a score.
use Rattle.osc_score.specs.declared.limits.TheConstants.{BATCH_SIZE}
use Rattle.std.specs.Prelude.{ℕ, zero, suc, List, [], ◌∷◌, ◌++◌, length, map, take, drop}
use Rattle.std.specs.List.{flat_map}
use Rattle.osc_script.specs.declared.act.Act.{Act}
use Rattle.osc_script.specs.declared.act.Act.TheVariants.{Add, Send, Tick, Pump}
use Rattle.osc_script.specs.Written.{written}
use Rattle.osc_score.specs.Scores.{Note, Group, groups_of, bundle_text, addresses_of}

-- a batch is sent, a `send` of each run's bundle, and then played, a `tick` to each run's tag and a
-- `pump`
abbrev pub batch : List Group → List Act
batch groups = map (λ group. Send (bundle_text group)) groups
    ++ flat_map (λ group. Tick group.tag ∷ Pump ∷ []) groups

-- so many batches, one after another
abbrev pub batches : ℕ → List Group → List Act
batches zero groups = []
batches (suc count) groups =
    batch (take BATCH_SIZE groups) ++ batches count (drop BATCH_SIZE groups)

-- the acts that play a score: its addresses are added, and its runs are played in batches, as many
-- as there are runs at most
abbrev pub score_acts : List Note → List Act
score_acts notes =
    map Add (addresses_of notes) ++ batches (length (groups_of notes)) (groups_of notes)

-- the script that plays a score, a line for each act
abbrev pub score_script : List Note → List ℕ
score_script notes = written (score_acts notes)
