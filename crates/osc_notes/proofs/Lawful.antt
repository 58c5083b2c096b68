-- The notes of a cue are lawful.
use Rattle.std.proofs.Common.{◌≡◌, ◌∙◌, ℕ, suc, ◌^◌, ◌<◌, ◌≤◌, Bool, true, false, cond, ◌||◌, List, [], ◌∷◌, ◌++◌, map, length, replicate}
use Rattle.std.proofs.Common.{Some, None, refl, sym, ap, subst, arith}
use Rattle.std.specs.Prelude.{filter, find}
use Rattle.std.specs.List.{AllByRecursion, flat_map, list_any}
use Rattle.hex.specs.Hex.{IsBytes}
use Rattle.osc_atoms.specs.Atoms.{word, string, string_end, blob_end}
use Rattle.osc_pattern.specs.Addresses.{IsAddress}
use Rattle.osc_pattern.specs.Patterns.{matches}
use Rattle.osc_message.specs.Tags.{is_unknown, Balanced}
use Rattle.osc_message.specs.Messages.{Argument, integer, float, text, content, long, time, double, symbol, character, rgba, midi, true_}
use Rattle.osc_message.specs.Messages.{false_, nil, infinitum}
use Rattle.osc_message.specs.Messages.{array_start, array_end, tag_of, atom_of, tag_string, AllFit, Form, bare, known, unknown, IsLawful}
use Rattle.osc_message.specs.Messages.{IsMessage, message_text}
use Rattle.osc_message.specs.Reading.{pattern_of}
use Rattle.osc_message.specs.Arguments.{unknown_of, message_arguments}
use Rattle.osc_score.specs.Scores.{Note, IsNote, IsOfBytes, IsOrdered, message_of}
use Rattle.osc_score.proofs.Read.{brackets_ok}
use Rattle.osc_notes.specs.Notes.{note_for, notes_of}
use Rattle.osc_notes.specs.Cued.{cued_notes, IsSayable, AreInOrder}
use Rattle.osc_notes.proofs.Printed.{byte_first}

-- what is written as a message is read again
pub record ReadsAgain : Type 0 where
  pub of_bare : (pattern : List ℕ) → IsLawful (bare pattern) → message_arguments (message_text (bare pattern)) ≡ []
  pub of_known : (pattern : List ℕ) (arguments : List Argument) → IsLawful (known pattern arguments)
      → message_arguments (message_text (known pattern arguments)) ≡ arguments
  pub of_unknown : (pattern tags rest : List ℕ) → IsLawful (unknown pattern tags rest)
      → unknown_of (message_text (unknown pattern tags rest)) ≡ find is_unknown tags

-- Bytes.

front_bytes : (front back : List ℕ) → IsBytes (front ++ back) → IsBytes front
front_bytes [] back each = λ k. omega arith
front_bytes (byte ∷ front) back each = byte_first byte front (each 0) (front_bytes front back (λ k. each (suc k)))

back_bytes : (front back : List ℕ) → IsBytes (front ++ back) → IsBytes back
back_bytes [] back each = each
back_bytes (byte ∷ front) back each = back_bytes front back (λ k. each (suc k))

atom_bytes : (argument : Argument) → IsBytes (atom_of argument) → IsOfBytes argument
atom_bytes (integer number) each = tt
atom_bytes (float bits) each = tt
atom_bytes (text bytes) each = front_bytes bytes (replicate (string_end (length bytes)) 0) each
atom_bytes (content bytes) each =
    let padding : List ℕ = replicate (blob_end (length bytes)) 0 in
    front_bytes bytes padding (back_bytes (word (length bytes)) (bytes ++ padding) each)
atom_bytes (long number) each = tt
atom_bytes (time number) each = tt
atom_bytes (double bits) each = tt
atom_bytes (symbol bytes) each = front_bytes bytes (replicate (string_end (length bytes)) 0) each
atom_bytes (character number) each = tt
atom_bytes (rgba number) each = tt
atom_bytes (midi number) each = tt
atom_bytes true_ each = tt
atom_bytes false_ each = tt
atom_bytes nil each = tt
atom_bytes infinitum each = tt
atom_bytes array_start each = tt
atom_bytes array_end each = tt

atoms_bytes : (arguments : List Argument) → IsBytes (flat_map atom_of arguments) → AllByRecursion IsOfBytes arguments
atoms_bytes [] each = tt
atoms_bytes (argument ∷ arguments) each =
    let rest : List ℕ = flat_map atom_of arguments in
    (atom_bytes argument (front_bytes (atom_of argument) rest each), atoms_bytes arguments (back_bytes (atom_of argument) rest each))

-- Arguments.

record AreLawful (arguments : List Argument) : Type 0 where
  fit : AllFit arguments
  bytes : AllByRecursion IsOfBytes arguments
  balanced : Balanced (map tag_of arguments)

found : (tags : List ℕ) → list_any is_unknown tags ≡ true → find is_unknown tags ≡ None → ⊥
found [] some none = absurd (cc)
found (tag ∷ tags) some none = go (is_unknown tag) some none (found tags) where
  go : (t : Bool) → (t || list_any is_unknown tags) ≡ true → cond t (Some tag) (find is_unknown tags) ≡ None
      → (list_any is_unknown tags ≡ true → find is_unknown tags ≡ None → ⊥) → ⊥
  go true some none later = absurd (cc)
  go false some none later = later some none

form_lawful : ReadsAgain → (form : Form) → IsLawful form → IsBytes (message_text form) → unknown_of (message_text form) ≡ None
    → AreLawful (message_arguments (message_text form))
form_lawful reads (bare pattern) lawful each none =
    subst AreLawful (sym (reads.of_bare pattern lawful)) (record { fit = tt; bytes = tt; balanced = brackets_ok [] refl })
form_lawful reads (known pattern arguments) lawful each none =
    let tags : List ℕ = tag_string (map tag_of arguments) in
    let atoms : List ℕ = flat_map atom_of arguments in
    subst AreLawful (sym (reads.of_known pattern arguments lawful))
    (record {
      fit = lawful.1;
      bytes = atoms_bytes arguments (back_bytes tags atoms (back_bytes (string pattern) (tags ++ atoms) each));
      balanced = lawful.2;
    })
form_lawful reads (unknown pattern tags rest) lawful each none =
    absurd (found tags lawful.2 (sym (reads.of_unknown pattern tags rest lawful) ∙ none))

message_lawful : ReadsAgain → (most : ℕ) (message : List ℕ) → IsMessage most message → IsBytes message → unknown_of message ≡ None
    → AreLawful (message_arguments message)
message_lawful reads most message is each none =
    subst (λ (bytes : List ℕ). AreLawful (message_arguments bytes)) (sym is.spelled)
    (form_lawful reads is.form is.lawful (subst IsBytes is.spelled each)
    (subst (λ (bytes : List ℕ). unknown_of bytes ≡ None) is.spelled none))

notes_lawful : (moment : ℕ) (message : List ℕ) → moment < 2 ^ 64 → AreLawful (message_arguments message) → (addresses : List (List ℕ))
    → AllByRecursion IsAddress addresses → AllByRecursion IsNote (notes_of moment message addresses)
notes_lawful moment message small are [] all = tt
notes_lawful moment message small are (address ∷ addresses) all =
    go (matches (pattern_of message) address) (notes_lawful moment message small are addresses all.1) where
      rest : List (List ℕ)
      rest = filter (matches (pattern_of message)) addresses

      one : IsNote (note_for moment message address)
      one = record { fits = small; address = all.0; arguments = are.fit; bytes = are.bytes; balanced = are.balanced }

      go : (t : Bool) → AllByRecursion IsNote (map (note_for moment message) rest)
          → AllByRecursion IsNote (map (note_for moment message) (cond t (address ∷ rest) rest))
      go true more = (one, more)
      go false more = more

pub cue_lawful : ReadsAgain → (most moment : ℕ) (message : List ℕ) (addresses : List (List ℕ)) → IsMessage most message → IsBytes message
    → unknown_of message ≡ None → moment < 2 ^ 64 → AllByRecursion IsAddress addresses
    → AllByRecursion IsNote (notes_of moment message addresses)
cue_lawful reads most moment message addresses is each none small all =
    notes_lawful moment message small (message_lawful reads most message is each none) addresses all

-- Messages.

pub known_again : ReadsAgain → (moment : ℕ) (pattern address : List ℕ) (arguments : List Argument) → IsLawful (known pattern arguments)
    → message_text (message_of (note_for moment (message_text (known pattern arguments)) address)) ≡ message_text (known address arguments)
known_again reads moment pattern address arguments lawful =
    ap (λ (all : List Argument). message_text (known address all)) (reads.of_known pattern arguments lawful)

pub bare_again : ReadsAgain → (moment : ℕ) (pattern address : List ℕ) → IsLawful (bare pattern)
    → message_text (message_of (note_for moment (message_text (bare pattern)) address)) ≡ message_text (known address [])
bare_again reads moment pattern address lawful =
    ap (λ (all : List Argument). message_text (known address all)) (reads.of_bare pattern lawful)

-- Sheets.

all_on : (first more : List Note) → AllByRecursion IsNote first → AllByRecursion IsNote more → AllByRecursion IsNote (first ++ more)
all_on [] more one two = two
all_on (note ∷ first) more one two = (one.0, all_on first more one.1 two)

pub cued_lawful : ReadsAgain → (addresses : List (List ℕ)) (cues : List (ℕ × List ℕ)) → AllByRecursion IsAddress addresses
    → AllByRecursion IsSayable cues → AllByRecursion IsNote (cued_notes addresses cues)
cued_lawful reads addresses [] all each = tt
cued_lawful reads addresses (cue ∷ cues) all each =
    let one : IsSayable cue = each.0 in
    all_on (notes_of cue.0 cue.1 addresses) (cued_notes addresses cues)
    (cue_lawful reads 65504 cue.0 cue.1 addresses one.message one.bytes one.known one.fits all)
    (cued_lawful reads addresses cues all each.1)

ordered_from : (least moment : ℕ) (notes : List Note) → least ≤ moment → IsOrdered moment notes → IsOrdered least notes
ordered_from least moment [] later ordered = tt
ordered_from least moment (note ∷ notes) later ordered = let first = ordered.0 in (omega arith, ordered.1)

ordered_on : (least moment : ℕ) (message : List ℕ) (addresses : List (List ℕ)) (more : List Note) → least ≤ moment → IsOrdered moment more
    → IsOrdered least (notes_of moment message addresses ++ more)
ordered_on least moment message [] more later ordered = ordered_from least moment more later ordered
ordered_on least moment message (address ∷ addresses) more later ordered =
    go (matches (pattern_of message) address) (ordered_on least moment message addresses more later ordered)
    (ordered_on moment moment message addresses more (omega arith) ordered) where
      rest : List (List ℕ)
      rest = filter (matches (pattern_of message)) addresses

      go : (t : Bool) → IsOrdered least (map (note_for moment message) rest ++ more)
          → IsOrdered moment (map (note_for moment message) rest ++ more)
          → IsOrdered least (map (note_for moment message) (cond t (address ∷ rest) rest) ++ more)
      go true without with_one = (later, with_one)
      go false without with_one = without

pub cued_ordered : (least : ℕ) (addresses : List (List ℕ)) (cues : List (ℕ × List ℕ)) → AreInOrder least cues
    → IsOrdered least (cued_notes addresses cues)
cued_ordered least addresses [] ordered = tt
cued_ordered least addresses (cue ∷ cues) ordered =
    ordered_on least cue.0 cue.1 addresses (cued_notes addresses cues) ordered.0 (cued_ordered cue.0 addresses cues ordered.1)
