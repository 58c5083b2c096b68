-- The arguments of a message stand after its pattern and its tag string, and within its bytes.
use Rattle.std.proofs.Common.{◌≡◌, ℕ, ◌+◌, ◌≤◌, List, [], ◌∷◌, ◌++◌, map, length, ap, ◌∙◌, arith, length-append}
use Rattle.std.proofs.lemmas.List.{length-map}
use Rattle.std.specs.Prelude.{Option, Some, None}
use Rattle.std.specs.List.{flat_map}
use Rattle.osc_atoms.specs.Atoms.{string}
use Rattle.osc_atoms.proofs.Strings.{length-string}
use Rattle.osc_message.specs.Messages.{Argument, Form, bare, known, unknown, IsLawful, IsMessage, message_text, tag_of, atom_of, tag_string}
use Rattle.osc_message.specs.Reading.{pattern_of}
use Rattle.osc_message.specs.Arguments.{tags_of, message_arguments}
use Rattle.osc_message.proofs.TextLaws.{pattern_again, tags_again, bare_arguments, known_arguments_again, unknown_arguments_again}
use Rattle.osc_c.specs.Arguments.{first_place, tags_size}

pub record Fits (bytes : List ℕ) (most : ℕ) : Type 0 where
  pub place : first_place bytes ≤ most
  pub inside : first_place bytes + length (flat_map atom_of (message_arguments bytes)) ≤ most
  pub few : length (message_arguments bytes) ≤ most

place_of : (bytes pattern : List ℕ) (tags : Option (List ℕ)) → pattern_of bytes ≡ pattern → tags_of bytes ≡ tags
    → first_place bytes ≡ length (string pattern) + tags_size tags
place_of bytes pattern tags p t = λ i. length (string (p i)) + tags_size (t i)

pub fits : (most : ℕ) (bytes : List ℕ) → IsMessage most bytes → Fits bytes most
fits most bytes is = go is.form is.lawful is.spelled where
  go : (form : Form) → IsLawful form → bytes ≡ message_text form → Fits bytes most
  go (bare pattern) lawful e =
      let size : length bytes ≡ length (string pattern) = ap length e in
      let place : first_place bytes ≡ length (string pattern) + 0 =
      place_of bytes pattern None (ap pattern_of e ∙ pattern_again (bare pattern) lawful) (ap tags_of e ∙ tags_again (bare pattern) lawful) in
      let none : message_arguments bytes ≡ [] = ap message_arguments e ∙ bare_arguments pattern lawful in
      let atoms : length (flat_map atom_of (message_arguments bytes)) ≡ 0 = ap (λ (l : List Argument). length (flat_map atom_of l)) none in
      record {
        place = omega (arith, is.short, size, place);
        inside = omega (arith, is.short, size, place, atoms);
        few = omega (arith, ap length none);
      }
  go (known pattern arguments) lawful e =
      let tags = map tag_of arguments in
      let atoms = flat_map atom_of arguments in
      let size : length bytes ≡ length (string pattern) + (length (tag_string tags) + length atoms) =
      ap length e ∙ length-append (string pattern) (tag_string tags ++ atoms) ∙ ap (λ (n : ℕ). length (string pattern) + n) (length-append (tag_string tags) atoms) in
      let place : first_place bytes ≡ length (string pattern) + length (tag_string tags) =
      place_of bytes pattern (Some tags) (ap pattern_of e ∙ pattern_again (known pattern arguments) lawful) (ap tags_of e ∙ tags_again (known pattern arguments) lawful) in
      let same : message_arguments bytes ≡ arguments = ap message_arguments e ∙ known_arguments_again pattern arguments lawful in
      let sizes : length (flat_map atom_of (message_arguments bytes)) ≡ length atoms = ap (λ (l : List Argument). length (flat_map atom_of l)) same in
      record {
        place = omega (arith, is.short, size, place);
        inside = omega (arith, is.short, size, place, sizes);
        few = omega (arith, is.short, size, ap length same, length-string (44 ∷ tags), length-map arguments tag_of);
      }
  go (unknown pattern tags rest) lawful e =
      let size : length bytes ≡ length (string pattern) + (length (tag_string tags) + length rest) =
      ap length e ∙ length-append (string pattern) (tag_string tags ++ rest) ∙ ap (λ (n : ℕ). length (string pattern) + n) (length-append (tag_string tags) rest) in
      let place : first_place bytes ≡ length (string pattern) + length (tag_string tags) =
      place_of bytes pattern (Some tags) (ap pattern_of e ∙ pattern_again (unknown pattern tags rest) lawful) (ap tags_of e ∙ tags_again (unknown pattern tags rest) lawful) in
      let none : message_arguments bytes ≡ [] = ap message_arguments e ∙ unknown_arguments_again pattern tags rest lawful in
      let atoms : length (flat_map atom_of (message_arguments bytes)) ≡ 0 = ap (λ (l : List Argument). length (flat_map atom_of l)) none in
      record {
        place = omega (arith, is.short, size, place);
        inside = omega (arith, is.short, size, place, atoms);
        few = omega (arith, ap length none);
      }
