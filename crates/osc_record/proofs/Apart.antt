-- Entries have their own texts: one text is of one entry, and no text is the front of another.
use Rattle.std.proofs.Common.{◌≡◌, ℕ, ◌+◌, true, List, [], ◌∷◌, ◌++◌, length, drop, map, Option, Some, None, Ok, Result, refl, sym, ap, ◌∙◌, append_assoc}
use Rattle.std.specs.Option.{option_map_or}
use Rattle.std.specs.List.{flat_map}
use Rattle.std.proofs.lemmas.List.{append_cancel_left, append-nil}
use Rattle.std.proofs.lemmas.Option.{same_Some}
use Rattle.osc_atoms.specs.Atoms.{string, has_no_zero}
use Rattle.osc_atoms.specs.Reading.{string_read}
use Rattle.osc_atoms.specs.declared.fault.Fault.{Fault}
use Rattle.osc_atoms.proofs.Strings.{string_again}
use Rattle.osc_message.specs.ArgumentReading.{argument_read}
use Rattle.osc_message.proofs.ArgumentAtoms.{argument_again}
use Rattle.osc_message.proofs.LawfulPatterns.{pattern_nonzero}
use Rattle.osc_message.proofs.MessageLaws.{nonzero_tags}
use Rattle.osc_message.specs.Reading.{pattern_of}
use Rattle.osc_message.specs.Arguments.{message_arguments}
use Rattle.osc_message.proofs.TextLaws.{pattern_again, known_arguments_again}
use Rattle.osc_message.specs.Messages.{Argument, Fits, AllFit, tag_of, atom_of, tag_string, known, IsLawful}
use Rattle.osc_model.specs.Events.{Entry as Recorded}
use Rattle.osc_model.specs.Recordings.{Row, row_of, row_text, sized, entry_text, FitsRow, IsRecordable}
use Rattle.osc_record.specs.declared.version.Version.TheVariants.{Second}
use Rattle.osc_record.specs.Reading.{row_read}
use Rattle.osc_record.proofs.Lawful.{LawfulRow, ReadAs, row_lawful, entry_again}

-- Two strings, arguments and messages of which one is the front of the other are one.

strings_apart : (one other x y : List ℕ) → has_no_zero one ≡ true → has_no_zero other ≡ true → string one ++ x ≡ string other ++ y → (one ≡ other) × (x ≡ y)
strings_apart one other x y nonzero nonzero_other same =
    let bytes : List ℕ = string one ++ x in
    let first : string_read bytes 0 ≡ Ok (one, 0 + length (string one)) =
    string_again bytes 0 one (record { no_zero = nonzero; written = record { rest = x; parts = refl } }) in
    let second : string_read bytes 0 ≡ Ok (other, 0 + length (string other)) =
    string_again bytes 0 other (record { no_zero = nonzero_other; written = record { rest = y; parts = same } }) in
    let text : one ≡ other = read_is (one, 0 + length (string one)) (other, 0 + length (string other)) (sym first ∙ second) in
    (text, append_cancel_left (string one) x y (same ∙ ap (λ (t : List ℕ). string t ++ y) (sym text)))
  where
    read_is : (p q : List ℕ × ℕ) → ◌≡◌ {A = Result (List ℕ × ℕ) Fault} (Ok p) (Ok q) → p.0 ≡ q.0
    read_is p q e = let pairs : p ≡ q = cc in ap (λ (r : List ℕ × ℕ). r.0) pairs

argument_apart : (one other : Argument) (x y : List ℕ) → Fits one → Fits other → tag_of one ≡ tag_of other → atom_of one ++ x ≡ atom_of other ++ y
    → (one ≡ other) × (x ≡ y)
argument_apart one other x y fits fits_other tags same =
    let bytes : List ℕ = atom_of one ++ x in
    let first : argument_read (tag_of one) bytes 0 ≡ Ok (one, 0 + length (atom_of one)) =
    argument_again bytes 0 one (record { fits = fits; written = record { rest = x; parts = refl } }) in
    let second : argument_read (tag_of other) bytes 0 ≡ Ok (other, 0 + length (atom_of other)) =
    argument_again bytes 0 other (record { fits = fits_other; written = record { rest = y; parts = same } }) in
    let argument : one ≡ other = read_is (one, 0 + length (atom_of one)) (other, 0 + length (atom_of other))
    (sym first ∙ ap (λ (n : ℕ). argument_read n bytes 0) tags ∙ second) in
    (argument, append_cancel_left (atom_of one) x y (same ∙ ap (λ (a : Argument). atom_of a ++ y) (sym argument)))
  where
    read_is : (p q : Argument × ℕ) → ◌≡◌ {A = Result (Argument × ℕ) Fault} (Ok p) (Ok q) → p.0 ≡ q.0
    read_is p q e = let pairs : p ≡ q = cc in ap (λ (r : Argument × ℕ). r.0) pairs

arguments_apart : (one other : List Argument) (x y : List ℕ) → AllFit one → AllFit other → map tag_of one ≡ map tag_of other
    → flat_map atom_of one ++ x ≡ flat_map atom_of other ++ y → (one ≡ other) × (x ≡ y)
arguments_apart [] [] x y fit fit_other tags same = (refl, same)
arguments_apart [] (b ∷ other) x y fit fit_other tags same = absurd (cc)
arguments_apart (a ∷ one) [] x y fit fit_other tags same = absurd (cc)
arguments_apart (a ∷ one) (b ∷ other) x y fit fit_other tags same =
    let tag : tag_of a ≡ tag_of b = cc in
    let behind : map tag_of one ≡ map tag_of other = cc in
    let parts : atom_of a ++ (flat_map atom_of one ++ x) ≡ atom_of b ++ (flat_map atom_of other ++ y) =
    sym (append_assoc (atom_of a) (flat_map atom_of one) x) ∙ same ∙ append_assoc (atom_of b) (flat_map atom_of other) y in
    let head = argument_apart a b (flat_map atom_of one ++ x) (flat_map atom_of other ++ y) fit.0 fit_other.0 tag parts in
    let more = arguments_apart one other x y fit.1 fit_other.1 behind head.1 in
    ((λ i. head.0 i ∷ more.0 i), more.1)

rows_apart : (one other : Row) (x y : List ℕ) → IsLawful (known one.address one.arguments) → IsLawful (known other.address other.arguments)
    → row_text one ++ x ≡ row_text other ++ y → (one ≡ other) × (x ≡ y)
rows_apart one other x y lawful lawful_other same =
    let address = strings_apart one.address other.address (behind one x) (behind other y) (pattern_nonzero one.address lawful.0)
    (pattern_nonzero other.address lawful_other.0) (sym (in_parts one x) ∙ same ∙ in_parts other y) in
    let tags = strings_apart (44 ∷ map tag_of one.arguments) (44 ∷ map tag_of other.arguments) (flat_map atom_of one.arguments ++ x)
    (flat_map atom_of other.arguments ++ y) (nonzero_tags one.arguments) (nonzero_tags other.arguments) address.1 in
    let listed = arguments_apart one.arguments other.arguments x y lawful.1 lawful_other.1 (tail_is 44 _ _ tags.0) tags.1 in
    ((λ i. record { address = address.0 i; arguments = listed.0 i }), listed.1)
  where
    behind : Row → List ℕ → List ℕ
    behind row rest = tag_string (map tag_of row.arguments) ++ (flat_map atom_of row.arguments ++ rest)

    in_parts : (row : Row) (rest : List ℕ) → row_text row ++ rest ≡ string row.address ++ behind row rest
    in_parts row rest =
        append_assoc (string row.address) (tag_string (map tag_of row.arguments) ++ flat_map atom_of row.arguments) rest
        ∙ ap (λ (l : List ℕ). string row.address ++ l) (append_assoc (tag_string (map tag_of row.arguments)) (flat_map atom_of row.arguments) rest)

    tail_is : (n : ℕ) (s t : List ℕ) → n ∷ s ≡ n ∷ t → s ≡ t
    tail_is n s t e = cc

-- Entries.

-- the text of an entry
abbrev pub text_of : Recorded → List ℕ
text_of entry = entry_text entry.caller entry.event entry.answer

abbrev pub CanBeRecorded : Recorded → Type 0
CanBeRecorded entry = IsRecordable entry.caller entry.event entry.answer

-- the entry that stands behind a size, whatever the size is
abbrev behind_size : List ℕ → Option Recorded
behind_size text = row_read Second (pattern_of (drop 4 text)) (message_arguments (drop 4 text))

text_again : (entry : Recorded) → CanBeRecorded entry → behind_size (text_of entry) ≡ Some entry
text_again entry is =
    go (row_of entry.caller entry.event entry.answer) is.fits (row_lawful entry.caller entry.event entry.answer is.fits)
    (entry_again entry.caller entry.event entry.answer is.sound) where
      go : (o : Option Row) → FitsRow o → LawfulRow o → ReadAs Second entry o → behind_size (option_map_or (λ row. sized (row_text row)) o []) ≡ Some entry
      go None fits lawful read = absurd fits
      go (Some row) fits lawful read =
          (λ i. row_read Second (pattern_again (known row.address row.arguments) lawful i) (known_arguments_again row.address row.arguments lawful i)) ∙ read

pub one_text : (one other : Recorded) → CanBeRecorded one → CanBeRecorded other → text_of one ≡ text_of other → one ≡ other
one_text one other is is_other same = same_Some one other (sym (text_again one is) ∙ ap behind_size same ∙ text_again other is_other)

-- so is the text of an entry that another's begins with
pub no_more : (one other : Recorded) (rest : List ℕ) → CanBeRecorded one → CanBeRecorded other → text_of one ≡ text_of other ++ rest → rest ≡ []
no_more one other rest is is_other same =
    go (row_of one.caller one.event one.answer) (row_of other.caller other.event other.answer) is.fits is_other.fits
    (row_lawful one.caller one.event one.answer is.fits) (row_lawful other.caller other.event other.answer is_other.fits) same
  where
    go : (o p : Option Row) → FitsRow o → FitsRow p → LawfulRow o → LawfulRow p
        → option_map_or (λ row. sized (row_text row)) o [] ≡ option_map_or (λ row. sized (row_text row)) p [] ++ rest → rest ≡ []
    go None p fits fits_other lawful lawful_other e = absurd fits
    go (Some row) None fits fits_other lawful lawful_other e = absurd fits_other
    go (Some row) (Some other) fits fits_other lawful lawful_other e =
        sym (rows_apart row other [] rest lawful lawful_other (append-nil (row_text row) ∙ ap (drop 4) e)).1
