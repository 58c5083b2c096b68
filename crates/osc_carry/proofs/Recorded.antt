-- The packets of a recording that is of bytes are of bytes.
use Rattle.std.proofs.Common.{ℕ, List, [], ◌∷◌, ◌++◌, length, map, Option, Some, None, replicate}
use Rattle.std.specs.Prelude.{option_map, pos}
use Rattle.std.specs.List.{AllByRecursion, flat_map}
use Rattle.std.specs.Option.{option_map_or}
use Rattle.osc_atoms.specs.Atoms.{AreBytes, word, string, blob, blob_end}
use Rattle.osc_message.specs.Messages.{Argument, tag_of, atom_of, tag_string, content, long}
use Rattle.osc_model.specs.Limits.{Limits}
use Rattle.osc_model.specs.Events.{Event, enrol, submit, add, remove, tick, release, Answer, Entry}
use Rattle.osc_model.specs.Recordings.{Row, int, submitted, submit_row, row_of, row_text, sized, entry_text, header_text, record_text, FitsRow, IsRecordable}
use Rattle.osc_carry.specs.Waiting.{IsOfBytes, AreOfBytes}
use Rattle.osc_carry.proofs.Bytes.{fore_bytes, back_bytes}

-- the packet in a submit's message, after its size, its address, its tags and the caller's number
packet_within : (caller : ℕ) (packet : List ℕ) (answer : ℕ × ℕ × ℕ × ℕ) → AreBytes (sized (row_text (submit_row caller packet answer))) → AreBytes packet
packet_within caller packet answer all =
    let row : Row = submit_row caller packet answer in
    let tags : List ℕ = tag_string (map tag_of row.arguments) in
    let atoms : List ℕ = flat_map atom_of row.arguments in
    let zeros : List ℕ = replicate (blob_end (length packet)) 0 in
    let number : List ℕ = atom_of (int caller) in
    let later : List Argument = int answer.0 ∷ long (pos answer.1) ∷ int answer.2 ∷ int answer.3 ∷ [] in
    let rest : List ℕ = flat_map atom_of (content packet ∷ later) in
    let text : AreBytes (row_text row) = back_bytes (word (length (row_text row))) (row_text row) all in
    let tagged : AreBytes (tags ++ atoms) = back_bytes (string row.address) (tags ++ atoms) text in
    let after : AreBytes rest = back_bytes number rest (back_bytes tags atoms tagged) in
    let blobbed : AreBytes (blob packet) = fore_bytes (blob packet) (flat_map atom_of later) after in
    fore_bytes packet zeros (back_bytes (word (length packet)) (packet ++ zeros) blobbed)

event_bytes : (caller : ℕ) (event : Event) (answer : Answer) → FitsRow (row_of caller event answer) → AreBytes (entry_text caller event answer)
    → IsOfBytes event
event_bytes caller (submit packet) answer fits all = go (submitted answer) fits all where
  go : (told : Option (ℕ × ℕ × ℕ × ℕ)) → FitsRow (option_map (submit_row caller packet) told)
      → AreBytes (option_map_or (λ row. sized (row_text row)) (option_map (submit_row caller packet) told) []) → AreBytes packet
  go None fits all = absurd fits
  go (Some answer) fits all = packet_within caller packet answer all
event_bytes caller enrol answer fits all = tt
event_bytes caller (add address) answer fits all = tt
event_bytes caller (remove address) answer fits all = tt
event_bytes caller (tick now) answer fits all = tt
event_bytes caller release answer fits all = tt

abbrev text_of : Entry → List ℕ
text_of entry = entry_text entry.caller entry.event entry.answer

entries_bytes : (history : List Entry) → AllByRecursion (λ entry. IsRecordable entry.caller entry.event entry.answer) history
    → AreBytes (flat_map text_of history) → AreOfBytes history
entries_bytes [] each all = tt
entries_bytes (entry ∷ entries) each all = (
  event_bytes entry.caller entry.event entry.answer (each.0).fits (fore_bytes (text_of entry) (flat_map text_of entries) all),
  entries_bytes entries each.1 (back_bytes (text_of entry) (flat_map text_of entries) all),
)

pub recorded_bytes : (caps : Limits) (history : List Entry) → AllByRecursion (λ entry. IsRecordable entry.caller entry.event entry.answer) history
    → AreBytes (record_text caps history) → AreOfBytes history
recorded_bytes caps history each all = entries_bytes history each (back_bytes (header_text caps) (flat_map text_of history) all)
