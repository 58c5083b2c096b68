-- The words of a note's line: bytes above the space, at least one in each.
use Rattle.std.proofs.Common.{◌≡◌, ◌∙◌, ℕ, suc, ◌^◌, ◌<◌, Bool, true, false, cond, List, [], ◌∷◌, ◌++◌, map, length, refl, ap, ap₂, arith}
use Rattle.std.proofs.Common.{codes}
use Rattle.std.proofs.Common.{append_assoc, append-nil}
use Rattle.std.specs.Prelude.{ℤ, pos, negsuc, ◌&&◌, nat_eq, FitsSigned}
use Rattle.std.specs.Char.{is_ascii_digit}
use Rattle.std.specs.Fmt.{decimal, signed_decimal}
use Rattle.std.specs.Int.{w32, w64}
use Rattle.std.specs.List.{AllByRecursion, flat_map, list_all, starts_with}
use Rattle.std.proofs.lemmas.Bool.{and_parts}
use Rattle.std.proofs.lemmas.Bool.Decides.{nat_tests}
use Rattle.std.proofs.lemmas.List.Folds.{list_all-append}
use Rattle.std.proofs.lemmas.List.Sums.{list_all-from_AllPass}
use Rattle.hex.specs.Hex.{IsBytes, encode_lower, lower_digits, is_hex_digit}
use Rattle.hex.proofs.HexLemmas.{decode_of-encode_lower, decode_of-ok, length-encode_with}
use Rattle.osc_atoms.specs.Atoms.{word, tag}
use Rattle.osc_message.specs.Messages.{Argument, integer, float, text, content, long, time, double, symbol, character, rgba, midi, true_}
use Rattle.osc_message.specs.Messages.{false_, nil, infinitum}
use Rattle.osc_message.specs.Messages.{array_start, array_end, Fits, AllFit}
use Rattle.osc_print.specs.Words.{spaced, argument_word, argument_words, is_shown, shown_byte}
use Rattle.osc_script.specs.Words.{words_of, lines_of}
use Rattle.osc_script.proofs.Cutting.{feed_ends, space_ends, last_word}
use Rattle.osc_script.proofs.Inked.{is_inked, is_inside, all_more, all_inside, no_spaces, no_feeds, kept_whole, digits_inked, moment_bytes}
use Rattle.osc_score.specs.Scores.{Note, IsOfBytes}
use Rattle.osc_notes.specs.Notes.{note_text, score_text}
use Rattle.osc_notes.proofs.Printed.{digits_are, bytes_small, byte_first}

-- a word of bytes above the space
abbrev IsInked : List ℕ → Type 0
IsInked word = (list_all is_inked word ≡ true) × (0 < length word)

-- Numbers.

digit_inked : (digit : ℕ) → is_ascii_digit digit ≡ true → is_inked digit ≡ true
digit_inked digit is = grind (arith, nat_tests)

decimal_inked : (number : ℕ) → number < 2 ^ 64 → list_all is_inked (decimal number) ≡ true
decimal_inked number small = all_more is_ascii_digit is_inked digit_inked (decimal number) (digits_are number small).all

signed_inked : (number : ℤ) → FitsSigned w64 number → list_all is_inked (signed_decimal number) ≡ true
signed_inked (pos number) fits = decimal_inked number (omega (arith, fits.sfits))
signed_inked (negsuc number) fits = decimal_inked (suc number) (omega (arith, fits.sfits))

short_inked : (number : ℤ) → FitsSigned w32 number → list_all is_inked (signed_decimal number) ≡ true
short_inked (pos number) fits = decimal_inked number (omega (arith, fits.sfits))
short_inked (negsuc number) fits = decimal_inked (suc number) (omega (arith, fits.sfits))

-- Texts.

plain_inked : (byte : ℕ) → is_shown byte ≡ true → is_inked byte ≡ true
plain_inked byte is = grind (arith, nat_tests)

byte_inked : (byte : ℕ) → byte < 256 → (t : Bool) → is_shown byte ≡ t
    → list_all is_inked (cond t (byte ∷ []) (92 ∷ 120 ∷ encode_lower (byte ∷ []))) ≡ true
byte_inked byte small true is = ap (λ (b : Bool). b && true) (plain_inked byte is)
byte_inked byte small false is = digits_inked (byte ∷ []) (byte_first byte [] small (λ k. omega arith))

text_inked : (bytes : List ℕ) → IsBytes bytes → list_all is_inked (flat_map shown_byte bytes) ≡ true
text_inked [] each = refl
text_inked (byte ∷ bytes) each =
    list_all-append is_inked (shown_byte byte) (flat_map shown_byte bytes)
    ∙ ap₂ (λ a b. a && b) (byte_inked byte (each 0) (is_shown byte) refl) (text_inked bytes (λ k. each (suc k)))

-- All kinds.

word_inked : (argument : Argument) → Fits argument → IsOfBytes argument → IsInked (argument_word argument)
word_inked (integer number) fits bytes = (short_inked number fits, omega arith)
word_inked (float bits) fits bytes = (digits_inked (word bits) (bytes_small 4 bits), omega arith)
word_inked (text chars) fits bytes = (text_inked chars bytes, omega arith)
word_inked (content chars) fits bytes = (digits_inked chars bytes, omega arith)
word_inked (long number) fits bytes = (signed_inked number fits, omega arith)
word_inked (time number) fits bytes = (digits_inked (tag number) (moment_bytes number), omega arith)
word_inked (double bits) fits bytes = (digits_inked (tag bits) (moment_bytes bits), omega arith)
word_inked (symbol chars) fits bytes = (text_inked chars bytes, omega arith)
word_inked (character number) fits bytes = (digits_inked (word number) (bytes_small 4 number), omega arith)
word_inked (rgba number) fits bytes = (digits_inked (word number) (bytes_small 4 number), omega arith)
word_inked (midi number) fits bytes = (digits_inked (word number) (bytes_small 4 number), omega arith)
word_inked true_ fits bytes = (refl, omega arith)
word_inked false_ fits bytes = (refl, omega arith)
word_inked nil fits bytes = (refl, omega arith)
word_inked infinitum fits bytes = (refl, omega arith)
word_inked array_start fits bytes = (refl, omega arith)
word_inked array_end fits bytes = (refl, omega arith)

-- Words with a space before each.

words_cut : (word : List ℕ) → IsInked word → (arguments : List Argument) → AllFit arguments → AllByRecursion IsOfBytes arguments
    → words_of (word ++ argument_words arguments) ≡ word ∷ map argument_word arguments
words_cut word is [] fit bytes = ap words_of (append-nil word) ∙ last_word word (no_spaces word is.0) is.1
words_cut word is (argument ∷ arguments) fit bytes =
    space_ends word (argument_word argument ++ argument_words arguments) (no_spaces word is.0) is.1
    ∙ ap (λ words. word ∷ words) (words_cut (argument_word argument) (word_inked argument fit.0 bytes.0) arguments fit.1 bytes.1)

words_inside : (arguments : List Argument) → AllFit arguments → AllByRecursion IsOfBytes arguments
    → list_all is_inside (argument_words arguments) ≡ true
words_inside [] fit bytes = refl
words_inside (argument ∷ arguments) fit bytes =
    list_all-append is_inside (spaced (argument_word argument)) (argument_words arguments)
    ∙ ap₂ (λ a b. a && b) (all_inside (argument_word argument) (word_inked argument fit.0 bytes.0).0) (words_inside arguments fit.1 bytes.1)

-- A line begins with a digit.

other : (digit : ℕ) → is_hex_digit digit ≡ true → nat_eq 35 digit ≡ false
other digit is = grind (arith, nat_tests)

no_mark : (digits rest : List ℕ) → list_all is_hex_digit digits ≡ true → 0 < length digits
    → starts_with nat_eq (digits ++ rest) (codes "#") ≡ false
no_mark [] rest all some = absurd (omega arith)
no_mark (digit ∷ digits) rest all some = ap (λ (b : Bool). b && true)
    (other digit (and_parts (is_hex_digit digit) (list_all is_hex_digit digits) all).0)

all_digits : (bytes : List ℕ) → IsBytes bytes → list_all is_hex_digit (encode_lower bytes) ≡ true
all_digits bytes are =
    list_all-from_AllPass is_hex_digit (encode_lower bytes) (decode_of-ok (encode_lower bytes) bytes (decode_of-encode_lower bytes are)).1

-- what is cut out of a note's line
pub record IsCut (note : Note) : Type 0 where
  pub words : words_of (note_text note) ≡ encode_lower (tag note.tag) ∷ note.address ∷ map argument_word note.arguments
  pub inside : list_all is_inside (note_text note) ≡ true
  pub mark : starts_with nat_eq (note_text note) (codes "#") ≡ false

pub note_cut : (note : Note) → list_all is_inked note.address ≡ true → 0 < length note.address → AllFit note.arguments
    → AllByRecursion IsOfBytes note.arguments
    → IsCut note
note_cut note inked some fit bytes =
    let moment : List ℕ = encode_lower (tag note.tag) in
    let rest : List ℕ = note.address ++ argument_words note.arguments in
    let long : 0 < length moment = omega (arith, length-encode_with lower_digits (tag note.tag)) in
    let is : list_all is_inked moment ≡ true = digits_inked (tag note.tag) (moment_bytes note.tag) in
    record {
      words = space_ends moment rest (no_spaces moment is) long
          ∙ ap (λ words. moment ∷ words) (words_cut note.address (inked, some) note.arguments fit bytes);
      inside = list_all-append is_inside moment (32 ∷ rest)
          ∙ ap₂ (λ a b. a && b) (all_inside moment is)
          (list_all-append is_inside note.address (argument_words note.arguments)
          ∙ ap₂ (λ a b. a && b) (all_inside note.address inked) (words_inside note.arguments fit bytes));
      mark = no_mark moment (32 ∷ rest) (all_digits (tag note.tag) (moment_bytes note.tag)) long;
    }

-- Lines.

abbrev pub AreCut : List Note → Type 0
AreCut notes = AllByRecursion IsCut notes

pub lines_cut : (notes : List Note) → AreCut notes → lines_of (score_text notes) ≡ map note_text notes
lines_cut [] all = refl
lines_cut (note ∷ notes) all =
    ap lines_of (append_assoc (note_text note) (10 ∷ []) (score_text notes))
    ∙ feed_ends (note_text note) (score_text notes) (no_feeds (note_text note) (all.0).inside)
    ∙ ap₂ (λ line lines. line ∷ lines) (kept_whole (note_text note) (all.0).inside) (lines_cut notes all.1)
