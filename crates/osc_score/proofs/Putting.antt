-- The arguments of words, one after another.
use Rattle.std.proofs.Common.{◌≡◌, ℕ, ◌≤◌, List, [], ◌∷◌, ◌++◌, length, map, Option, Some, None, option_map, option_and_then, Ok, Err, refl, sym, ap, ◌∙◌}
use Rattle.std.proofs.Common.{append_assoc, append-nil, arith}
use Rattle.std.specs.List.{flat_map}
use Rattle.osc_message.specs.Messages.{Argument, tag_of, atom_of}
use Rattle.osc_script.specs.Words.{words_of}
use Rattle.osc_script.specs.declared.fault.LineRefusal.{LineRefusal}
use Rattle.osc_script.specs.declared.fault.LineRefusal.TheVariants.{Kind, NoMemory}
use Rattle.osc_score.specs.declared.fault.ScoreFaultKind.{ScoreFaultKind}
use Rattle.osc_score.specs.ArgumentWords.{argument_read, arguments_read}
use Rattle.osc_score.specs.Argued.{Argues, arguments_onto, ArguesAll}
use Rattle.osc_score.proofs.Arguments.{spaced_size}
use Rattle.osc_score.proofs.Lines.{words_short}

-- the word that is cut off is no longer than the text
pub word_few : (text word after : List ℕ) → words_of text ≡ word ∷ words_of after → length word ≤ length text
word_few text word after cut = omega (arith, words_short text, ap (λ (l : List (List ℕ)). spaced_size l) cut)

onto_one : (tags atoms : List ℕ) (argument : Argument) (read : Option (List Argument))
    → arguments_onto (tags ++ tag_of argument ∷ []) (atoms ++ atom_of argument) read ≡ arguments_onto tags atoms
    (option_map (λ arguments. argument ∷ arguments) read)
onto_one tags atoms argument None = refl
onto_one tags atoms argument (Some arguments) =
    ap (λ (l : List ℕ). Some (l, (atoms ++ atom_of argument) ++ flat_map atom_of arguments)) (append_assoc tags (tag_of argument ∷ []) (map tag_of arguments))
    ∙ ap (λ (l : List ℕ). Some (tags ++ tag_of argument ∷ map tag_of arguments, l)) (append_assoc atoms (atom_of argument) (flat_map atom_of arguments))

-- a word's argument stands after those before, and the rest is read on
pub word_on : (text word after tags atoms more_tags more_atoms : List ℕ) → words_of text ≡ word ∷ words_of after
    → Argues (Ok tt) (argument_read word) tags atoms more_tags more_atoms
    → arguments_onto more_tags more_atoms (arguments_read (words_of after)) ≡ arguments_onto tags atoms (arguments_read (words_of text))
word_on text word after tags atoms more_tags more_atoms cut argued =
    go (argument_read word) argued ∙ ap (λ (l : List (List ℕ)). arguments_onto tags atoms (arguments_read l)) (sym cut) where
      rest : Option (List Argument)
      rest = arguments_read (words_of after)

      go : (o : Option Argument) → Argues (Ok tt) o tags atoms more_tags more_atoms
          → arguments_onto more_tags more_atoms (arguments_read (words_of after))
          ≡ arguments_onto tags atoms (option_and_then (λ argument. option_map (λ arguments. argument ∷ arguments) (arguments_read (words_of after))) o)
      go None so = absurd so
      go (Some argument) so =
          ap (λ (l : List ℕ). arguments_onto l more_atoms rest) so.0
          ∙ ap (λ (l : List ℕ). arguments_onto (tags ++ tag_of argument ∷ []) l rest) so.1
          ∙ onto_one tags atoms argument rest

onto_none : (tags atoms : List ℕ) (read : Option (List Argument)) → None ≡ arguments_onto tags atoms read → read ≡ None
onto_none tags atoms None is = refl
onto_none tags atoms (Some arguments) is = absurd (cc)

-- a word that is no argument
pub word_refused : (words text word after old_tags old_atoms tags atoms new_tags new_atoms last_tags last_atoms : List ℕ) (refusal : LineRefusal ScoreFaultKind)
    → arguments_onto tags atoms (arguments_read (words_of text)) ≡ arguments_onto old_tags old_atoms (arguments_read (words_of words))
    → words_of text ≡ word ∷ words_of after → Argues (Err refusal) (argument_read word) tags atoms new_tags new_atoms
    → ArguesAll (Err refusal) (arguments_read (words_of words)) old_tags old_atoms last_tags last_atoms
word_refused words text word after old_tags old_atoms tags atoms new_tags new_atoms last_tags last_atoms NoMemory so_far cut argued = tt
word_refused words text word after old_tags old_atoms tags atoms new_tags new_atoms last_tags last_atoms (Kind kind) so_far cut argued =
    let none : arguments_read (words_of text) ≡ None =
    ap (λ (l : List (List ℕ)). arguments_read l) cut
    ∙ ap (λ (o : Option Argument). option_and_then (λ argument. option_map (λ arguments. argument ∷ arguments) (arguments_read (words_of after))) o) argued.0
    in (
      onto_none old_tags old_atoms (arguments_read (words_of words))
          (ap (λ (o : Option (List Argument)). arguments_onto tags atoms o) (sym none) ∙ so_far),
      argued.1,
    )

-- no word is left
pub words_done : (words text old_tags old_atoms tags atoms : List ℕ)
    → arguments_onto tags atoms (arguments_read (words_of text)) ≡ arguments_onto old_tags old_atoms (arguments_read (words_of words)) → words_of text ≡ []
    → arguments_onto old_tags old_atoms (arguments_read (words_of words)) ≡ Some (tags, atoms)
words_done words text old_tags old_atoms tags atoms so_far none =
    sym so_far ∙ ap (λ (l : List (List ℕ)). arguments_onto tags atoms (arguments_read l)) none
    ∙ ap (λ (l : List ℕ). Some (l, atoms ++ [])) (append-nil tags)
    ∙ ap (λ (l : List ℕ). Some (tags, l)) (append-nil atoms)
