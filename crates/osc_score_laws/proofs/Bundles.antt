-- The bundle of a run: a valid packet of one unit.
use Rattle.osc_atoms.specs.declared.limits.TheConstants.{MAX_PACKET}
use Rattle.std.proofs.Common.{◌≡◌, ℕ, ◌+◌, ◌/◌, ◌≤◌, max, true, List, [], ◌∷◌, length, refl, ap, ◌∙◌, arith, length-append}
use Rattle.std.specs.List.{AllByRecursion}
use Rattle.osc_message.specs.Messages.{message_text, IsLawful}
use Rattle.osc_packet.specs.Packets.{elements_text, elements_depth, AreLawfulIn, IsValid}
use Rattle.osc_packet.specs.Units.{TimedUnit, own_messages, enclosed_units, stored_size, blocks}
use Rattle.osc_packet.specs.Reading.{units_read, is_packet}
use Rattle.osc_score.specs.Scores.{Note, Group, message_of, elements_of, bundle_of, bundle_text, IsNote, IsShort}
use Rattle.osc_score_laws.specs.Known.{Known}
use Rattle.osc_score_laws.proofs.Grouped.{IsRun}

-- a run whose bundle may be sent
pub record IsPlayable (group : Group) : Type 0 where
  pub run : IsRun group
  pub short : IsShort group

pub all_playable : (groups : List Group) → AllByRecursion IsRun groups → AllByRecursion IsShort groups → AllByRecursion IsPlayable groups
all_playable [] runs short = tt
all_playable (group ∷ groups) runs short = (record { run = runs.0; short = short.0 }, all_playable groups runs.1 short.1)

-- the messages of notes
abbrev pub texts_of : List Note → List (List ℕ)
texts_of notes = own_messages (elements_of notes)

-- the unit of a run
abbrev pub unit_of_run : Group → TimedUnit
unit_of_run group = record { tag = group.tag; messages = texts_of group.notes }

pub note_lawful : Known → (note : Note) → IsNote note → IsLawful (message_of note)
note_lawful known note is = (known.pattern note.address is.address, is.arguments, is.balanced)

elements_lawful : Known → (outer : ℕ) (notes : List Note) → AllByRecursion IsNote notes → AreLawfulIn outer (elements_of notes)
elements_lawful known outer [] all = tt
elements_lawful known outer (note ∷ notes) all = (note_lawful known note all.0, elements_lawful known outer notes all.1)

shallow : (notes : List Note) → elements_depth (elements_of notes) ≡ 0
shallow [] = refl
shallow (note ∷ notes) = ap (λ (n : ℕ). max 0 n) (shallow notes)

none_enclosed : (outer : ℕ) (notes : List Note) → enclosed_units outer (elements_of notes) ≡ []
none_enclosed outer [] = refl
none_enclosed outer (note ∷ notes) = none_enclosed outer notes

pub run_valid : Known → (group : Group) → IsPlayable group → IsValid MAX_PACKET (bundle_of group)
run_valid known group is = record {
  short = is.short;
  shallow = omega (arith, shallow group.notes);
  lawful = ((is.run).fits, tt, elements_lawful known group.tag group.notes (is.run).lawful);
}

pub run_units : Known → (group : Group) → IsPlayable group → units_read (bundle_text group) ≡ unit_of_run group ∷ []
run_units known group is =
    known.units (bundle_of group) (run_valid known group is) ∙ ap (λ (l : List TimedUnit). unit_of_run group ∷ l) (none_enclosed group.tag group.notes)

pub run_accepted : Known → (group : Group) → IsPlayable group → is_packet MAX_PACKET (bundle_text group) ≡ true
run_accepted known group is = known.accepted (bundle_of group) (run_valid known group is)

pub stored_is : (notes : List Note) → stored_size (texts_of notes) ≡ length (elements_text (elements_of notes))
stored_is [] = refl
stored_is (note ∷ notes) =
    let text : List ℕ = message_text (message_of note) in
    omega (arith, stored_is notes, length-append text (elements_text (elements_of notes)))

pub run_blocks : (group : Group) → IsShort group → blocks (unit_of_run group) ≤ 1024
run_blocks group short = few (stored_size (texts_of group.notes)) (omega (arith, stored_is group.notes)) where
  few : (n : ℕ) → n ≤ 65488 → (n + 63) / 64 ≤ 1024
  few n small = omega arith
