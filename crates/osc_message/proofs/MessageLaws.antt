-- A message that is written is read again.
use Rattle.std.proofs.Common.{◌≡◌, ℕ, ◌+◌, ◌%◌, ◌<◌, ◌≤◌, Bool, true, false, ◌||◌, List, [], ◌∷◌, ◌++◌, length, drop, map, Option, Some, None, Result, Ok, Err}
use Rattle.std.proofs.Common.{refl, sym, ◌∙◌, ap, subst, arith, length-append, eqb-true, eq-eqb, le-leb}
use Rattle.std.specs.Prelude.{slice_index}
use Rattle.std.specs.List.{list_any, flat_map}
use Rattle.std.specs.Result.{result_ok}
use Rattle.std.proofs.lemmas.List.{append-nil}
use Rattle.std.proofs.lemmas.Bool.{cond-true, cond-false, ne_eqb}
use Rattle.osc_atoms.specs.declared.fault.Fault.{Fault}
use Rattle.osc_atoms.specs.Atoms.{string, has_no_zero}
use Rattle.osc_atoms.specs.Reading.{and_then}
use Rattle.osc_atoms.proofs.Strings.{string_again}
use Rattle.osc_atoms.proofs.Paddings.{after_place}
use Rattle.osc_pattern.specs.declared.faults.PatternFault.{PatternFault}
use Rattle.osc_pattern.specs.Patterns.{IsPattern}
use Rattle.osc_pattern.proofs.PatternLaws.{IsPattern-read}
use Rattle.osc_message.specs.Tags.{is_unknown}
use Rattle.osc_message.specs.Messages.{Argument, integer, float, text, content, long, time, double, symbol, character, rgba, midi, true_, false_, nil}
use Rattle.osc_message.specs.Messages.{infinitum, array_start, array_end, tag_of, atom_of, AllFit, Form, bare, known, unknown, IsLawful, tag_string}
use Rattle.osc_message.specs.Messages.{message_text}
use Rattle.osc_message.specs.Wants.{StartsWithArgument}
use Rattle.osc_message.specs.ArgumentReading.{argument_read, arguments_of}
use Rattle.osc_message.specs.Reading.{Parts, begins, arguments_read, tags_read, comma_read, unless_fault, lawful_read, message_read, limited_read, parts_of}
use Rattle.osc_message.proofs.LawfulPatterns.{pattern_nonzero, pattern_first}
use Rattle.osc_message.proofs.ArrayBrackets.{balance_again}
use Rattle.osc_message.proofs.ArgumentAtoms.{argument_again, atom_fours, string_fours}
use Rattle.osc_message.proofs.Steps.{Placed, placed_on, ends_there, message_slash, comma_ends, comma_goes_on, tagged_again, arguments_step}

-- the arguments that stand at a place up to the end are read
pub arguments_again : (bytes : List ℕ) (at : ℕ) (listed : List Argument) → Placed bytes at → AllFit listed → drop at bytes ≡ flat_map atom_of listed
    → (arguments_read bytes (map tag_of listed) at ≡ Ok tt) × (arguments_of (map tag_of listed) bytes at ≡ listed)
arguments_again bytes at [] placed fit parts = (cond-true _ _ _ (eq-eqb at (length bytes) (ends_there bytes at placed parts)), refl)
arguments_again bytes at (argument ∷ listed) placed fit parts =
    let next = at + length (atom_of argument) in
    let rest = flat_map atom_of listed in
    let stands : StartsWithArgument bytes at argument = record { fits = fit.0; written = record { rest = rest; parts = parts } } in
    let read : argument_read (tag_of argument) bytes at ≡ Ok (argument, next) = argument_again bytes at argument stands in
    let behind : drop next bytes ≡ rest = after_place bytes at (length (atom_of argument)) (atom_of argument) rest parts refl in
    let more = arguments_again bytes next listed (placed_on bytes at (atom_of argument) rest placed parts (atom_fours argument)) fit.1 behind in (
      arguments_step bytes (tag_of argument) (map tag_of listed) at next argument read
          ∙ more.0,
      first_of (argument_read (tag_of argument) bytes at) read (ap (λ (l : List Argument). argument ∷ l) more.1),
    )
  where
    listed_in : Result (Argument × ℕ) Fault → List Argument
    listed_in (Ok x) = x.0 ∷ arguments_of (map tag_of listed) bytes x.1
    listed_in (Err f) = []

    first_of : (r : Result (Argument × ℕ) Fault) → r ≡ Ok (argument, at + length (atom_of argument))
        → argument ∷ arguments_of (map tag_of listed) bytes (at + length (atom_of argument)) ≡ argument ∷ listed → listed_in r ≡ argument ∷ listed
    first_of r is same = ap listed_in is ∙ same

known_tag : (argument : Argument) → is_unknown (tag_of argument) ≡ false
known_tag (integer number) = refl
known_tag (float bits) = refl
known_tag (text bytes) = refl
known_tag (content bytes) = refl
known_tag (long number) = refl
known_tag (time number) = refl
known_tag (double bits) = refl
known_tag (symbol bytes) = refl
known_tag (character number) = refl
known_tag (rgba number) = refl
known_tag (midi number) = refl
known_tag true_ = refl
known_tag false_ = refl
known_tag nil = refl
known_tag infinitum = refl
known_tag array_start = refl
known_tag array_end = refl

pub known_tags : (listed : List Argument) → list_any is_unknown (map tag_of listed) ≡ false
known_tags [] = refl
known_tags (argument ∷ listed) =
    no_other (is_unknown (tag_of argument)) (list_any is_unknown (map tag_of listed)) (known_tag argument) (known_tags listed) where
      no_other : (a b : Bool) → a ≡ false → b ≡ false → (a || b) ≡ false
      no_other a b p q = rw (p, q) refl

nonzero_tag : (argument : Argument) (tags : List ℕ) → has_no_zero tags ≡ true → has_no_zero (tag_of argument ∷ tags) ≡ true
nonzero_tag (integer number) tags is = is
nonzero_tag (float bits) tags is = is
nonzero_tag (text bytes) tags is = is
nonzero_tag (content bytes) tags is = is
nonzero_tag (long number) tags is = is
nonzero_tag (time number) tags is = is
nonzero_tag (double bits) tags is = is
nonzero_tag (symbol bytes) tags is = is
nonzero_tag (character number) tags is = is
nonzero_tag (rgba number) tags is = is
nonzero_tag (midi number) tags is = is
nonzero_tag true_ tags is = is
nonzero_tag false_ tags is = is
nonzero_tag nil tags is = is
nonzero_tag infinitum tags is = is
nonzero_tag array_start tags is = is
nonzero_tag array_end tags is = is

pub nonzero_tags : (listed : List Argument) → has_no_zero (map tag_of listed) ≡ true
nonzero_tags [] = refl
nonzero_tags (argument ∷ listed) = nonzero_tag argument (map tag_of listed) (nonzero_tags listed)

-- the parts of a form that stands at a place
abbrev pub parts_in : ℕ → Form → Parts
parts_in at (bare name) = record { pattern = name; tags = None; place = at + length (string name) }
parts_in at (known name listed) =
    record { pattern = name; tags = Some (map tag_of listed); place = at + length (string name) + length (tag_string (map tag_of listed)) }
parts_in at (unknown name tags rest) = record { pattern = name; tags = Some tags; place = at + length (string name) + length (tag_string tags) }

-- what follows a tag string is read, whatever is read there
with_tags : (bytes pattern : List ℕ) (at : ℕ) (tags rest : List ℕ) → has_no_zero tags ≡ true → drop at bytes ≡ tag_string tags ++ rest
    → tags_read bytes (at + 1) tags (at + length (tag_string tags)) ≡ Ok tt
    → comma_read bytes pattern at ≡ Ok (record { pattern = pattern; tags = Some tags; place = at + length (tag_string tags) })
with_tags bytes pattern at tags rest no_zero parts read =
    comma_goes_on bytes pattern at _ parts
    ∙ tagged_again bytes pattern at tags (record { no_zero = no_zero; written = record { rest = rest; parts = parts } })
    ∙ ap (λ r. and_then r (λ _. Ok (record { pattern = pattern; tags = Some tags; place = at + length (tag_string tags) }))) read

-- what follows the pattern
after_again : (bytes : List ℕ) (at : ℕ) (name rest : List ℕ) → Placed bytes at → IsPattern name → drop at bytes ≡ string name ++ rest → (parts : Parts)
    → comma_read bytes name (at + length (string name)) ≡ Ok parts → message_read bytes at ≡ Ok parts
after_again bytes at name rest placed lawful parts all read =
    message_slash bytes at (ap (begins 47) parts ∙ pattern_first name rest lawful)
    ∙ ap (λ r. and_then r (λ string. lawful_read bytes at string.0 string.1))
    (string_again bytes at name (record { no_zero = pattern_nonzero name lawful; written = record { rest = rest; parts = parts } }))
    ∙ ap (λ (o : Option PatternFault). unless_fault at o (comma_read bytes name (at + length (string name)))) (IsPattern-read name lawful)
    ∙ read

-- where the arguments stand
pub behind_tags : (bytes : List ℕ) (at : ℕ) (name tags rest : List ℕ) → Placed bytes at → drop at bytes ≡ string name ++ (tag_string tags ++ rest)
    → Placed bytes (at + length (string name) + length (tag_string tags)) × (drop (at + length (string name) + length (tag_string tags)) bytes ≡ rest)
behind_tags bytes at name tags rest placed parts =
    let end = at + length (string name) in
    let there = placed_on bytes at (string name) (tag_string tags ++ rest) placed parts (string_fours name) in
    let behind : drop end bytes ≡ tag_string tags ++ rest = after_place bytes at (length (string name)) (string name) (tag_string tags ++ rest) parts refl in (
      placed_on bytes end (tag_string tags) rest there behind (string_fours (44 ∷ tags)),
      after_place bytes end (length (tag_string tags))
          (tag_string tags) rest behind refl,
    )

pub message_again : (bytes : List ℕ) (at : ℕ) (form : Form) → Placed bytes at → IsLawful form → drop at bytes ≡ message_text form
    → message_read bytes at ≡ Ok (parts_in at form)
message_again bytes at (bare name) placed lawful parts =
    let whole : drop at bytes ≡ string name ++ [] = parts ∙ sym (append_nil (string name)) in
    let end = at + length (string name) in
    let behind : drop end bytes ≡ [] = after_place bytes at (length (string name)) (string name) [] whole refl in
    after_again bytes at name [] placed lawful whole (parts_in at (bare name))
    (comma_ends bytes name end (ends_there bytes end (placed_on bytes at (string name) [] placed whole (string_fours name)) behind))
  where
    append_nil : (l : List ℕ) → l ++ [] ≡ l
    append_nil [] = refl
    append_nil (x ∷ l) = ap (λ (r : List ℕ). x ∷ r) (append_nil l)
message_again bytes at (known name listed) placed lawful parts =
    let tags = map tag_of listed in
    let rest = flat_map atom_of listed in
    let end = at + length (string name) in
    let place = end + length (tag_string tags) in
    let behind : drop end bytes ≡ tag_string tags ++ rest = after_place bytes at (length (string name)) (string name) (tag_string tags ++ rest) parts refl in
    let last = behind_tags bytes at name tags rest placed parts in
    let read = (arguments_again bytes place listed last.0 lawful.1 last.1).0 in
    let balanced = balance_again (end + 1) tags lawful.2 in
    let tags_are : tags_read bytes (end + 1) tags place ≡ Ok tt =
    cond-false _ _ _ (known_tags listed) ∙ ap (λ r. and_then r (λ _. arguments_read bytes tags place)) balanced ∙ read in
    after_again bytes at name (tag_string tags ++ rest) placed lawful.0 parts (parts_in at (known name listed))
    (with_tags bytes name end tags rest (nonzero_tags listed) behind tags_are)
message_again bytes at (unknown name tags rest) placed lawful parts =
    let end = at + length (string name) in
    let behind : drop end bytes ≡ tag_string tags ++ rest = after_place bytes at (length (string name)) (string name) (tag_string tags ++ rest) parts refl in
    after_again bytes at name (tag_string tags ++ rest) placed lawful.0 parts (parts_in at (unknown name tags rest))
    (with_tags bytes name end tags rest lawful.1 behind (cond-true _ _ _ lawful.2))

pub all_fours : (listed : List Argument) → length (flat_map atom_of listed) % 4 ≡ 0
all_fours [] = refl
all_fours (argument ∷ listed) = let a = atom_fours argument in let b = all_fours listed in
    omega (arith, length-append (atom_of argument) (flat_map atom_of listed))

-- every message has some bytes, and four by four
pub text_fours : (form : Form) → IsLawful form → length (message_text form) % 4 ≡ 0
text_fours (bare name) lawful = string_fours name
text_fours (known name listed) lawful =
    let a = string_fours name in
    let b = string_fours (44 ∷ map tag_of listed) in
    let c = all_fours listed in
    omega (
      arith,
      length-append (string name) (tag_string (map tag_of listed) ++ flat_map atom_of listed),
      length-append (tag_string (map tag_of listed))
          (flat_map atom_of listed),
    )
text_fours (unknown name tags rest) lawful =
    let a = string_fours name in
    let b = string_fours (44 ∷ tags) in
    let c = lawful.3 in
    omega (arith, length-append (string name) (tag_string tags ++ rest), length-append (tag_string tags) rest)

slash_alone : (name : List ℕ) → IsPattern name → begins 47 (string name) ≡ true
slash_alone name lawful = ap (begins 47) (sym (append-nil (string name))) ∙ pattern_first name [] lawful

begins_some : (byte : ℕ) (bytes : List ℕ) → begins byte bytes ≡ true → 0 < length bytes
begins_some byte [] is = absurd (cc)
begins_some byte (x ∷ bytes) is = omega arith

pub text_some : (form : Form) → IsLawful form → 0 < length (message_text form)
text_some (bare name) lawful = begins_some 47 (string name) (slash_alone name lawful)
text_some (known name listed) lawful = begins_some 47 _ (pattern_first name _ lawful.0)
text_some (unknown name tags rest) lawful = begins_some 47 _ (pattern_first name _ lawful.0)

begins_at : (byte : ℕ) (bytes : List ℕ) → begins byte bytes ≡ true → slice_index bytes 0 ≡ byte
begins_at byte [] is = absurd (cc)
begins_at byte (x ∷ bytes) is = eqb-true x byte is

pub text_first : (form : Form) → IsLawful form → slice_index (message_text form) 0 ≡ 47
text_first (bare name) lawful = begins_at 47 (string name) (slash_alone name lawful)
text_first (known name listed) lawful =
    begins_at 47 (message_text (known name listed)) (pattern_first name (tag_string (map tag_of listed) ++ flat_map atom_of listed) lawful.0)
text_first (unknown name tags rest) lawful = begins_at 47 (message_text (unknown name tags rest)) (pattern_first name (tag_string tags ++ rest) lawful.0)

pub placed_first : (bytes : List ℕ) → length bytes % 4 ≡ 0 → Placed bytes 0
placed_first bytes four = record { inside = omega arith; whole = four }

-- a message of at most so many bytes is read
pub limited_again : (most : ℕ) (bytes : List ℕ) (form : Form) → IsLawful form → bytes ≡ message_text form → length bytes ≤ most
    → limited_read most bytes ≡ Ok (parts_in 0 form)
limited_again most bytes form lawful spelled short =
    let some : 0 < length bytes = subst (λ (l : List ℕ). 0 < length l) (sym spelled) (text_some form lawful) in
    let four : length bytes % 4 ≡ 0 = subst (λ (l : List ℕ). length l % 4 ≡ 0) (sym spelled) (text_fours form lawful) in
    cond-false _ _ _ (ne_eqb (length bytes) 0 (λ e. omega arith))
    ∙ cond-true _ _ _ (le-leb (length bytes) most short)
    ∙ cond-true _ _ _ (eq-eqb (length bytes % 4) 0 four)
    ∙ message_again bytes 0 form (placed_first bytes four) lawful spelled

-- the parts of what is written
pub parts_again : (form : Form) → IsLawful form → parts_of (message_text form) ≡ Some (parts_in 0 form)
parts_again form lawful =
    let four = text_fours form lawful in
    cond-true _ _ _ (eq-eqb (length (message_text form) % 4) 0 four)
    ∙ ap result_ok (message_again (message_text form) 0 form (placed_first (message_text form) four) lawful refl)
