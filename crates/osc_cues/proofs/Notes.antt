-- The message of a cue is one.
use Rattle.std.proofs.Common.{◌≡◌, ℕ, true, List, [], ◌∷◌, ◌++◌, length, map, None, Result, Ok, Err, IfOk, IsTrue, refl, sym, ap, ◌∙◌}
use Rattle.std.proofs.Common.{arith}
use Rattle.std.specs.List.{flat_map}
use Rattle.osc_atoms.specs.Atoms.{string}
use Rattle.osc_pattern.specs.Patterns.{is_pattern}
use Rattle.osc_pattern.proofs.PatternLaws.{is_pattern-sound}
use Rattle.osc_message.specs.Messages.{Argument, tag_of, atom_of, AllFit, known, message_text, IsMessage}
use Rattle.osc_packet.specs.Bundling.{IsSpelled}
use Rattle.osc_cues.specs.declared.fault.WordFault.{WordFault}
use Rattle.osc_cues.specs.declared.scan.Span.{Span}
use Rattle.osc_cues.specs.Cues.{arguments_at, brackets_fault}
use Rattle.osc_cues.specs.LineAnswers.{onto, ArguesAll}
use Rattle.osc_cues.proofs.BracketWords.{balanced}

abbrev of_ok : Result (List ℕ × List ℕ) WordFault → List ℕ × List ℕ
of_ok (Ok read) = read
of_ok (Err wrong) = ([], [])

-- an address, tags and atoms that stand for the arguments of words
pub note_is : (line : List ℕ) (spans : List Span) (address old_tags old_atoms new_tags new_atoms tags atoms bytes : List ℕ)
    → old_tags ≡ 44 ∷ [] → old_atoms ≡ [] → ArguesAll (Ok tt) (arguments_at line spans) old_tags old_atoms new_tags new_atoms
    → brackets_fault line spans ≡ None → IsTrue (is_pattern address) → tags ≡ new_tags → atoms ≡ new_atoms
    → bytes ≡ string address ++ (string tags ++ atoms) → IsSpelled bytes
note_is line spans address old_tags old_atoms new_tags new_atoms tags atoms bytes first none argued even lawful tags_are atoms_are are =
    go (arguments_at line spans) refl so argued.1 where
      so : onto (44 ∷ []) [] (arguments_at line spans) ≡ Ok (tags, atoms)
      so = ap (λ (l : List ℕ). onto l [] (arguments_at line spans)) (sym first)
          ∙ ap (λ (l : List ℕ). onto old_tags l (arguments_at line spans)) (sym none)
          ∙ argued.0 ∙ ap (λ (l : List ℕ). Ok (l, new_atoms)) (sym tags_are) ∙ ap (λ (l : List ℕ). Ok (tags, l)) (sym atoms_are)

      go : (read : Result (List Argument) WordFault) → arguments_at line spans ≡ read → onto (44 ∷ []) [] read ≡ Ok (tags, atoms)
          → IfOk read AllFit
          → IsSpelled bytes
      go (Err wrong) is read_is fit = absurd (cc)
      go (Ok arguments) is read_is fit =
          let of_tags : 44 ∷ map tag_of arguments ≡ tags = ap (λ (r : Result (List ℕ × List ℕ) WordFault). (of_ok r).0) read_is in
          let of_atoms : flat_map atom_of arguments ≡ atoms = ap (λ (r : Result (List ℕ × List ℕ) WordFault). (of_ok r).1) read_is in
          record {
            form = known address arguments;
            lawful = (is_pattern-sound address lawful, fit, balanced line spans arguments is even);
            spelled = are ∙ ap (λ (l : List ℕ). string address ++ (string l ++ atoms)) (sym of_tags)
                ∙ ap (λ (l : List ℕ). string address ++ (string (44 ∷ map tag_of arguments) ++ l)) (sym of_atoms);
            short = omega arith;
          }
