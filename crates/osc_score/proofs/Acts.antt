-- The acts of a score by their kind.
use Rattle.std.proofs.Common.{ℕ, List, [], ◌∷◌, map}
use Rattle.std.specs.List.{flat_map}
use Rattle.osc_script.specs.declared.act.Act.{Act}
use Rattle.osc_script.specs.declared.act.Act.TheVariants.{Add, Send, Tick, Pump}
use Rattle.osc_score.specs.Scores.{Group, bundle_text}

abbrev pub adds : List (List ℕ) → List Act
adds addresses = map Add addresses

abbrev pub sends : List Group → List Act
sends groups = map (λ group. Send (bundle_text group)) groups

abbrev pub ticks : List Group → List Act
ticks groups = flat_map (λ group. Tick group.tag ∷ Pump ∷ []) groups
