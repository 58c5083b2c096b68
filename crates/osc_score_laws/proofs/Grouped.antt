-- The runs of a score: they are lawful, their tags rise, and they hold its notes.
use Rattle.std.proofs.Common.{◌≡◌, ℕ, ◌<◌, ◌≤◌, ◌^◌, ◌==◌, Bool, true, false, cond, List, [], ◌∷◌, length, map, Some, refl, sym, ap, ◌∙◌, arith}
use Rattle.std.specs.List.{AllByRecursion, flat_map}
use Rattle.std.proofs.lemmas.Bool.Decides.{nat_tests}
use Rattle.osc_message.specs.Messages.{tag_of}
use Rattle.osc_score.specs.Scores.{Note, Group, alone, joined, groups_of, IsNote, IsOrdered}
use Rattle.osc_score_laws.specs.Heard.{Sound, sound_of}

-- a run has a note, and all of it is lawful
pub record IsRun (group : Group) : Type 0 where
  pub fits : group.tag < 2 ^ 64
  pub some : 1 ≤ length group.notes
  pub lawful : AllByRecursion IsNote group.notes

-- each tag is above the one before
abbrev pub Rises : ℕ → List Group → Type 0
Rises below [] = Unit {0}
Rises below (group ∷ groups) = (below < group.tag) × Rises group.tag groups

-- no tag is below this one, and each is above the one before
abbrev RisesFrom : ℕ → List Group → Type 0
RisesFrom least [] = Unit {0}
RisesFrom least (group ∷ groups) = (least ≤ group.tag) × Rises group.tag groups

same : (m n : ℕ) → (m == n) ≡ true → m ≡ n
same m n e = grind (arith, nat_tests)

other : (m n : ℕ) → m ≤ n → (m == n) ≡ false → m < n
other m n few e = grind (arith, nat_tests)

joined_rises : (least : ℕ) (note : Note) (groups : List Group) → least ≤ note.tag → RisesFrom note.tag groups → RisesFrom least (joined note groups)
joined_rises least note [] from rises = (from, tt)
joined_rises least note (group ∷ groups) from rises = go (note.tag == group.tag) refl where
  go : (t : Bool) → (note.tag == group.tag) ≡ t
      → RisesFrom least (cond t (record { tag = group.tag; notes = note ∷ group.notes } ∷ groups) (alone note ∷ group ∷ groups))
  go true e = let above = rises.0 in (omega arith, rises.1)
  go false e = (from, (other note.tag group.tag rises.0 e, rises.1))

rises_from : (least : ℕ) (notes : List Note) → IsOrdered least notes → RisesFrom least (groups_of notes)
rises_from least [] ordered = tt
rises_from least (note ∷ notes) ordered = joined_rises least note (groups_of notes) ordered.0 (rises_from note.tag notes ordered.1)

above_one : (groups : List Group) → RisesFrom 2 groups → Rises 1 groups
above_one [] rises = tt
above_one (group ∷ groups) rises = let above = rises.0 in (omega arith, rises.1)

pub groups_rise : (notes : List Note) → IsOrdered 2 notes → Rises 1 (groups_of notes)
groups_rise notes ordered = above_one (groups_of notes) (rises_from 2 notes ordered)

joined_runs : (note : Note) (groups : List Group) → IsNote note → AllByRecursion IsRun groups → AllByRecursion IsRun (joined note groups)
joined_runs note [] lawful runs = (record { fits = lawful.fits; some = omega arith; lawful = (lawful, tt) }, tt)
joined_runs note (group ∷ groups) lawful runs = go (note.tag == group.tag) where
  go : (t : Bool) → AllByRecursion IsRun (cond t (record { tag = group.tag; notes = note ∷ group.notes } ∷ groups) (alone note ∷ group ∷ groups))
  go true = (record { fits = (runs.0).fits; some = omega arith; lawful = (lawful, (runs.0).lawful) }, runs.1)
  go false = (record { fits = lawful.fits; some = omega arith; lawful = (lawful, tt) }, runs)

pub groups_run : (notes : List Note) → AllByRecursion IsNote notes → AllByRecursion IsRun (groups_of notes)
groups_run [] lawful = tt
groups_run (note ∷ notes) lawful = joined_runs note (groups_of notes) lawful.0 (groups_run notes lawful.1)

-- what a note lets be heard at a clock
abbrev pub sound_in : ℕ → Note → Sound
sound_in clock note = record { clock = clock; address = note.address; tags = Some (map tag_of note.arguments); arguments = note.arguments }

-- what a run lets be heard
abbrev pub run_sounds : Group → List Sound
run_sounds group = map (sound_in group.tag) group.notes

joined_sounds : (note : Note) (groups : List Group) → flat_map run_sounds (joined note groups) ≡ sound_of note ∷ flat_map run_sounds groups
joined_sounds note [] = refl
joined_sounds note (group ∷ groups) = go (note.tag == group.tag) refl where
  go : (t : Bool) → (note.tag == group.tag) ≡ t
      → flat_map run_sounds (cond t (record { tag = group.tag; notes = note ∷ group.notes } ∷ groups) (alone note ∷ group ∷ groups))
      ≡ sound_of note ∷ flat_map run_sounds (group ∷ groups)
  go true e = ap (λ (n : ℕ). sound_in n note ∷ flat_map run_sounds (group ∷ groups)) (sym (same note.tag group.tag e))
  go false e = refl

pub groups_heard : (notes : List Note) → flat_map run_sounds (groups_of notes) ≡ map sound_of notes
groups_heard [] = refl
groups_heard (note ∷ notes) =
    joined_sounds note (groups_of notes) ∙ ap (λ (l : List Sound). sound_of note ∷ l) (groups_heard notes)
