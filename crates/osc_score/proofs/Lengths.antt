-- Atoms and messages are short: at most 16 bytes for each byte of the words.
use Rattle.std.proofs.Common.{ℕ, ◌+◌, ◌*◌, ◌≤◌, List, [], ◌∷◌, ◌++◌, length, map, replicate, arith, length-append}
use Rattle.std.specs.List.{flat_map}
use Rattle.std.proofs.lemmas.List.{length-replicate, length-map}
use Rattle.osc_atoms.specs.Atoms.{string, string_end, blob, blob_end, word}
use Rattle.osc_message.specs.Messages.{Argument, integer, float, text, content, long, time, double, symbol, character, rgba, midi, true_, false_, nil}
use Rattle.osc_message.specs.Messages.{infinitum}
use Rattle.osc_message.specs.Messages.{array_start, array_end, tag_of, atom_of, tag_string, message_text}
use Rattle.osc_score.specs.Scores.{Note, message_of, word_size, words_size}

pub string_few : (bytes : List ℕ) → length (string bytes) ≤ length bytes + 4
string_few bytes = omega (arith, length-append bytes (replicate (string_end (length bytes)) 0), length-replicate {A = ℕ} (string_end (length bytes)) 0)

pub padding_few : (n : ℕ) → blob_end n ≤ 3
padding_few n = omega arith

pub blob_length : (bytes : List ℕ) → length (blob bytes) ≤ length bytes + 7
blob_length bytes =
    let zeros : List ℕ = replicate (blob_end (length bytes)) 0 in
    omega (
      arith,
      length-append (word (length bytes)) (bytes ++ zeros),
      length-append bytes zeros,
      length-replicate {A = ℕ} (blob_end (length bytes)) 0,
      padding_few (length bytes),
    )

atom_few : (argument : Argument) → 1 + length (atom_of argument) ≤ 16 * (1 + word_size argument)
atom_few (integer number) = omega arith
atom_few (float bits) = omega arith
atom_few (text bytes) = omega (arith, string_few bytes)
atom_few (content bytes) = omega (arith, blob_length bytes)
atom_few (long number) = omega arith
atom_few (time number) = omega arith
atom_few (double bits) = omega arith
atom_few (symbol bytes) = omega (arith, string_few bytes)
atom_few (character number) = omega arith
atom_few (rgba number) = omega arith
atom_few (midi number) = omega arith
atom_few true_ = omega arith
atom_few false_ = omega arith
atom_few nil = omega arith
atom_few infinitum = omega arith
atom_few array_start = omega arith
atom_few array_end = omega arith

atoms_few : (arguments : List Argument) → length arguments + length (flat_map atom_of arguments) ≤ 16 * words_size arguments
atoms_few [] = omega arith
atoms_few (argument ∷ arguments) =
    omega (arith, atom_few argument, atoms_few arguments, length-append (atom_of argument) (flat_map atom_of arguments))

pub text_few : (note : Note) → length (message_text (message_of note)) ≤ length note.address + 9 + 16 * words_size note.arguments
text_few note =
    let tags : List ℕ = map tag_of note.arguments in
    let atoms : List ℕ = flat_map atom_of note.arguments in
    omega (
      arith,
      length-append (string note.address) (tag_string tags ++ atoms),
      length-append (tag_string tags) atoms,
      string_few note.address,
      string_few (44 ∷ tags),
      length-map note.arguments tag_of,
      atoms_few note.arguments,
    )
