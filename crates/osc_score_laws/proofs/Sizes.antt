-- What is recorded of a score is at most 16 bytes for each of its lines' bytes.
use Rattle.std.proofs.Common.{◌≡◌, ℕ, ◌+◌, ◌*◌, ◌≤◌, ◌==◌, Bool, true, false, cond, List, [], ◌∷◌, ◌++◌, length, arith}
use Rattle.std.specs.List.{list_any}
use Rattle.std.specs.Str.{bytes_eq}
use Rattle.osc_atoms.specs.Atoms.{string}
use Rattle.osc_message.specs.Messages.{message_text}
use Rattle.osc_packet.specs.Units.{stored_size}
use Rattle.osc_score.specs.Scores.{Note, Group, alone, joined, groups_of, message_of, first_uses, addresses_of, bundle_text, score_size}
use Rattle.osc_score.proofs.Lengths.{string_few, padding_few, text_few}
use Rattle.osc_score_laws.proofs.Adds.{adds_size}
use Rattle.osc_score_laws.proofs.Bundles.{texts_of, stored_is}
use Rattle.osc_score_laws.proofs.Sends.{send_size}
use Rattle.osc_score_laws.proofs.Releases.{tick_size}
use Rattle.osc_score_laws.proofs.Batches.{runs_size}

-- what is recorded of a note's message
abbrev note_cost : Note → ℕ
note_cost note = 12 + length (message_text (message_of note))

abbrev notes_cost : List Note → ℕ
notes_cost [] = 0
notes_cost (note ∷ notes) = note_cost note + notes_cost notes

-- of runs, at most
abbrev runs_cost : List Group → ℕ
runs_cost [] = 0
runs_cost (group ∷ groups) = 163 + notes_cost group.notes + runs_cost groups

stored_cost : (notes : List Note) → stored_size (texts_of notes) + 8 * length notes ≡ notes_cost notes
stored_cost [] = omega arith
stored_cost (note ∷ notes) = omega (arith, stored_cost notes)

run_few : (group : Group) → send_size group + tick_size group ≤ 163 + notes_cost group.notes
run_few group = omega (arith, stored_is group.notes, stored_cost group.notes, padding_few (length (bundle_text group)))

runs_few : (groups : List Group) → runs_size groups ≤ runs_cost groups
runs_few [] = omega arith
runs_few (group ∷ groups) = omega (arith, run_few group, runs_few groups)

joined_cost : (note : Note) (groups : List Group) → runs_cost (joined note groups) ≤ 163 + note_cost note + runs_cost groups
joined_cost note [] = omega arith
joined_cost note (group ∷ groups) = go (note.tag == group.tag) where
  go : (t : Bool) → runs_cost (cond t (record { tag = group.tag; notes = note ∷ group.notes } ∷ groups) (alone note ∷ group ∷ groups))
      ≤ 163 + note_cost note + runs_cost (group ∷ groups)
  go true = omega arith
  go false = omega arith

-- of a note alone in its run, at an address of its own
abbrev whole_cost : List Note → ℕ
whole_cost [] = 0
whole_cost (note ∷ notes) = 163 + note_cost note + (40 + length (string note.address)) + whole_cost notes

abbrev addresses_cost : List Note → ℕ
addresses_cost [] = 0
addresses_cost (note ∷ notes) = 40 + length (string note.address) + addresses_cost notes

uses_few : (before : List (List ℕ)) (notes : List Note) → adds_size (first_uses before notes) ≤ addresses_cost notes
uses_few before [] = omega arith
uses_few before (note ∷ notes) = go (list_any (bytes_eq note.address) before) (uses_few before notes) (uses_few (before ++ note.address ∷ []) notes) where
  go : (t : Bool) → adds_size (first_uses before notes) ≤ addresses_cost notes
      → adds_size (first_uses (before ++ note.address ∷ []) notes) ≤ addresses_cost notes
      → adds_size (cond t (first_uses before notes) (note.address ∷ first_uses (before ++ note.address ∷ []) notes)) ≤ addresses_cost (note ∷ notes)
  go true old new = omega arith
  go false old new = omega arith

cost_is : (notes : List Note) → addresses_cost notes + runs_cost (groups_of notes) ≤ whole_cost notes
cost_is [] = omega arith
cost_is (note ∷ notes) = omega (arith, cost_is notes, joined_cost note (groups_of notes))

whole_few : (notes : List Note) → whole_cost notes ≤ 16 * score_size notes
whole_few [] = omega arith
whole_few (note ∷ notes) = omega (arith, whole_few notes, text_few note, string_few note.address)

pub score_few : (notes : List Note) → adds_size (addresses_of notes) + runs_size (groups_of notes) ≤ 16 * score_size notes
score_few notes = omega (arith, uses_few [] notes, runs_few (groups_of notes), cost_is notes, whole_few notes)
