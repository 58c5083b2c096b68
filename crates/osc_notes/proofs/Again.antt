-- A note's line is read as the note, and a score as its notes.
use Rattle.osc_atoms.specs.declared.limits.TheConstants.{MAX_PACKET}
use Rattle.osc_score.specs.declared.limits.TheConstants.{MAX_SCORE}
use Rattle.std.proofs.Common.{◌≡◌, ◌∙◌, ℕ, ◌+◌, ◌≤◌, Bool, true, false, cond, nat_lt, List, [], ◌∷◌, ◌++◌, map, length, fold, Option}
use Rattle.std.proofs.Common.{Some, None, Result, Ok, Err, is_ok, ok_or, refl, sym, ap, subst}
use Rattle.std.proofs.Common.{append_assoc, append-nil}
use Rattle.std.specs.Prelude.{option_map, option_and_then}
use Rattle.std.specs.List.{AllByRecursion}
use Rattle.std.proofs.lemmas.Bool.{le-ltb}
use Rattle.hex.specs.Hex.{encode_lower}
use Rattle.osc_atoms.specs.Atoms.{tag}
use Rattle.osc_pattern.specs.Addresses.{is_address}
use Rattle.osc_message.specs.Tags.{Balanced}
use Rattle.osc_message.specs.Messages.{Argument, tag_of, AllFit}
use Rattle.osc_message.proofs.ArrayBrackets.{balance_again}
use Rattle.osc_print.specs.Words.{argument_word}
use Rattle.osc_tree.specs.Adding.{Refusal, taken, under_method, is_container, methods_full, nodes_full, add_refusal}
use Rattle.osc_script.specs.Words.{words_of, lines_of}
use Rattle.osc_script.specs.Acts.{and_then}
use Rattle.osc_script.proofs.Inked.{address_inked}
use Rattle.osc_score.specs.declared.fault.ScoreFault.{ScoreFault}
use Rattle.osc_score.specs.declared.fault.ScoreFaultKind.{ScoreFaultKind}
use Rattle.osc_score.specs.declared.fault.ScoreFaultKind.TheVariants as kinds
use Rattle.osc_score.specs.Kinds.{kind_number}
use Rattle.osc_score.specs.Scores.{Note, groups_of, bundle_text, tree_of, IsNote, IsOfBytes, IsOrdered, IsScore}
use Rattle.osc_score.specs.ArgumentWords.{arguments_read}
use Rattle.osc_score.specs.Reading.{are_balanced, balanced_note, note_at, note_read, least_of, run_with, unless_refused, note_added}
use Rattle.osc_score.specs.Reading.{words_read, line_read, lines_read, score_of}
use Rattle.osc_score.proofs.Read.{TestsAddresses}
use Rattle.osc_notes.specs.Notes.{note_text, score_text, notes_added}
use Rattle.osc_notes.proofs.Printed.{word_again, read_64}
use Rattle.osc_notes.proofs.Spaced.{IsCut, AreCut, note_cut, lines_cut}
use Rattle.osc_notes.proofs.Fronts.{one_behind, last_before, front_score, score_added}

words_again : (arguments : List Argument) → AllFit arguments → AllByRecursion IsOfBytes arguments
    → arguments_read (map argument_word arguments) ≡ Some arguments
words_again [] fit bytes = refl
words_again (argument ∷ arguments) fit bytes =
    ap (option_and_then (λ (first : Argument). option_map (λ (rest : List Argument). first ∷ rest)
    (arguments_read (map argument_word arguments))))
    (word_again argument fit.0 bytes.0)
    ∙ ap (option_map (λ (rest : List Argument). argument ∷ rest)) (words_again arguments fit.1 bytes.1)

balanced_again : (arguments : List Argument) → Balanced (map tag_of arguments) → are_balanced arguments ≡ true
balanced_again arguments is = ap is_ok (balance_again 0 (map tag_of arguments) is)

at_again : (least : ℕ) (note : Note) → IsNote note → is_address note.address ≡ true → least ≤ note.tag
    → note_at least note.tag note.address (map argument_word note.arguments) ≡ Ok note
at_again least note is address later =
    ap (λ (t : Bool). cond {A = Result Note ScoreFaultKind} t (Err kinds.Order)
    (cond (is_address note.address) (and_then (ok_or (arguments_read (map argument_word note.arguments)) kinds.Arg)
    (balanced_note note.tag note.address)) (Err kinds.Address)))
    (le-ltb note.tag least later)
    ∙ ap (λ (t : Bool). cond {A = Result Note ScoreFaultKind} t
    (and_then (ok_or (arguments_read (map argument_word note.arguments)) kinds.Arg) (balanced_note note.tag note.address))
    (Err kinds.Address)) address
    ∙ ap (λ (o : Option (List Argument)). and_then (ok_or o kinds.Arg) (balanced_note note.tag note.address))
    (words_again note.arguments is.arguments is.bytes)
    ∙ ap (λ (t : Bool). cond {A = Result Note ScoreFaultKind} t (Ok note) (Err kinds.Brackets)) (balanced_again note.arguments is.balanced)

note_again : (least : ℕ) (note : Note) → IsNote note → is_address note.address ≡ true → least ≤ note.tag
    → note_read least (encode_lower (tag note.tag)) note.address (map argument_word note.arguments) ≡ Ok note
note_again least note is address later =
    ap (λ (o : Option ℕ). and_then (ok_or o kinds.Tag)
    (λ (moment : ℕ). note_at least moment note.address (map argument_word note.arguments)))
    (read_64 note.tag is.fits)
    ∙ at_again least note is address later

pub cut_again : TestsAddresses → (note : Note) → IsNote note → IsCut note
cut_again tests note is =
    let inked = address_inked note.address ((tests note.address).1 is.address) in
    note_cut note inked.0 inked.1 is.arguments is.bytes

pub line_again : TestsAddresses → (notes : List Note) (note : Note) → IsNote note → least_of notes ≤ note.tag
    → line_read notes (note_text note) ≡ note_added notes note
line_again tests notes note is later =
    let cut : IsCut note = cut_again tests note is in
    ap (λ (t : Bool). cond {A = Result (List Note) ScoreFaultKind} t (Ok notes) (words_read notes (words_of (note_text note)))) cut.mark
    ∙ ap (words_read notes) cut.words
    ∙ ap (λ (r : Result Note ScoreFaultKind). and_then r (note_added notes))
    (note_again (least_of notes) note is ((tests note.address).1 is.address) later)

-- Scores.

all_cut : TestsAddresses → (notes : List Note) → AllByRecursion IsNote notes → AreCut notes
all_cut tests [] all = tt
all_cut tests (note ∷ notes) all = (cut_again tests note all.0, all_cut tests notes all.1)

lines_again : TestsAddresses → (number : ℕ) (front back : List Note) → IsScore (front ++ back)
    → lines_read number front (map note_text back) ≡ Ok (front ++ back)
lines_again tests number front [] is = ap Ok (sym (append-nil front))
lines_again tests number front (note ∷ back) is =
    let whole : IsScore ((front ++ note ∷ []) ++ back) = subst IsScore (sym (append_assoc front (note ∷ []) back)) is in
    ap (λ (r : Result (List Note) ScoreFaultKind). elim r as (λ x. Result (List Note) ScoreFault) [
      | Ok more ↦ lines_read (number + 1) more (map note_text back)
      | Err kind ↦ Err (record { line = number; kind = kind_number kind })
    ])
    (line_again tests front note (one_behind IsNote front note back is.lawful) (last_before 2 front note back is.ordered)
    ∙ score_added front note (front_score (front ++ note ∷ []) back whole))
    ∙ lines_again tests (number + 1) (front ++ note ∷ []) back whole
    ∙ ap Ok (append_assoc front (note ∷ []) back)

pub score_again : TestsAddresses → (notes : List Note) → IsScore notes → length (score_text notes) ≤ MAX_SCORE
    → score_of (score_text notes) ≡ Ok notes
score_again tests notes is short =
    ap (λ (t : Bool). cond {A = Result (List Note) ScoreFault} t (Err (record { line = 0; kind = kind_number kinds.TooLong }))
    (lines_read 1 [] (lines_of (score_text notes))))
    (le-ltb MAX_SCORE (length (score_text notes)) short)
    ∙ ap (lines_read 1 []) (lines_cut notes (all_cut tests notes is.lawful))
    ∙ lines_again tests 1 [] notes is

-- Notes that may be no score.

last_tag : (least : ℕ) (notes : List Note) (note : Note)
    → fold (λ (last : ℕ) (other : Note). other.tag) least (notes ++ note ∷ []) ≡ note.tag
last_tag least [] note = refl
last_tag least (first ∷ notes) note = last_tag first.tag notes note

added_last : (notes : List Note) (note : Note) (more : List Note) → note_added notes note ≡ Ok more → least_of more ≡ note.tag
added_last notes note more is =
    go (nat_lt MAX_PACKET (length (bundle_text (run_with (groups_of notes) note)))) (add_refusal (tree_of notes) note.address) is where
      last : (read : Result (List Note) ScoreFaultKind) → read ≡ Ok (notes ++ note ∷ []) → read ≡ Ok more → least_of more ≡ note.tag
      last read one other =
          let same : notes ++ note ∷ [] ≡ more = cc in
          ap least_of (sym same) ∙ last_tag 2 notes note

      go : (t : Bool) (o : Option Refusal) → cond {A = Result (List Note) ScoreFaultKind} t (Err kinds.Bundle)
          (unless_refused o (notes ++ note ∷ [])) ≡ Ok more
          → least_of more ≡ note.tag
      go true o so = absurd (cc)
      go false None so = last (Ok (notes ++ note ∷ [])) refl so
      go false (Some (taken id)) so = last (Ok (notes ++ note ∷ [])) refl so
      go false (Some (under_method id)) so = absurd (cc)
      go false (Some is_container) so = absurd (cc)
      go false (Some (methods_full limit)) so = absurd (cc)
      go false (Some (nodes_full need free)) so = absurd (cc)

lines_added : TestsAddresses → (number : ℕ) (before notes : List Note) → AllByRecursion IsNote notes → IsOrdered (least_of before) notes
    → lines_read number before (map note_text notes) ≡ notes_added number before notes
lines_added tests number before [] all ordered = refl
lines_added tests number before (note ∷ notes) all ordered =
    ap (λ (r : Result (List Note) ScoreFaultKind). elim r as (λ x. Result (List Note) ScoreFault) [
      | Ok more ↦ lines_read (number + 1) more (map note_text notes)
      | Err kind ↦ Err (record { line = number; kind = kind_number kind })
    ]) (line_again tests before note all.0 ordered.0)
    ∙ go (note_added before note) (λ more is. added_last before note more is)
    (λ more is. lines_added tests (number + 1) more notes all.1 (subst (λ (n : ℕ). IsOrdered n notes) (sym is) ordered.1)) where
      go : (r : Result (List Note) ScoreFaultKind) → ((more : List Note) → r ≡ Ok more → least_of more ≡ note.tag)
          → ((more : List Note) → least_of more ≡ note.tag
          → lines_read (number + 1) more (map note_text notes) ≡ notes_added (number + 1) more notes)
          → elim r as (λ x. Result (List Note) ScoreFault) [
            | Ok more ↦ lines_read (number + 1) more (map note_text notes)
            | Err kind ↦ Err (record { line = number; kind = kind_number kind })
          ] ≡ elim r as (λ x. Result (List Note) ScoreFault) [
            | Ok more ↦ notes_added (number + 1) more notes
            | Err kind ↦ Err (record { line = number; kind = kind_number kind })
          ]
      go (Ok more) last later = later more (last more refl)
      go (Err kind) last later = refl

pub notes_again : TestsAddresses → (notes : List Note) → AllByRecursion IsNote notes → IsOrdered 2 notes
    → length (score_text notes) ≤ MAX_SCORE
    → score_of (score_text notes) ≡ notes_added 1 [] notes
notes_again tests notes all ordered short =
    ap (λ (t : Bool). cond {A = Result (List Note) ScoreFault} t (Err (record { line = 0; kind = kind_number kinds.TooLong }))
    (lines_read 1 [] (lines_of (score_text notes))))
    (le-ltb MAX_SCORE (length (score_text notes)) short)
    ∙ ap (lines_read 1 []) (lines_cut notes (all_cut tests notes all))
    ∙ lines_added tests 1 [] notes all ordered
