-- The arguments of words, one after another.
use Rattle.std.proofs.Common.{◌≡◌, ℕ, List, [], ◌∷◌, ◌++◌, map, Result, Ok, Err, IfOk, refl, sym, ap, ◌∙◌, subst, append_assoc, append-nil}
use Rattle.std.specs.List.{flat_map}
use Rattle.osc_message.specs.Messages.{Argument, tag_of, atom_of, AllFit}
use Rattle.osc_cues.specs.declared.fault.WordFault.{WordFault}
use Rattle.osc_cues.specs.declared.fault.WordError.{WordError}
use Rattle.osc_cues.specs.declared.fault.WordError.TheVariants.{NoMemory, Wrong}
use Rattle.osc_cues.specs.declared.scan.Span.{Span}
use Rattle.osc_cues.specs.Faults.{made}
use Rattle.osc_cues.specs.Cues.{and_then, argument_at, arguments_at}
use Rattle.osc_cues.specs.Answers.{Argues}
use Rattle.osc_cues.specs.LineAnswers.{onto, ArguesAll}

onto_one : (tags atoms : List ℕ) (argument : Argument) (read : Result (List Argument) WordFault)
    → onto (tags ++ tag_of argument ∷ []) (atoms ++ atom_of argument) read ≡ onto tags atoms (made (λ arguments. argument ∷ arguments) read)
onto_one tags atoms argument (Err wrong) = refl
onto_one tags atoms argument (Ok arguments) =
    ap (λ (l : List ℕ). Ok (l, (atoms ++ atom_of argument) ++ flat_map atom_of arguments))
    (append_assoc tags (tag_of argument ∷ []) (map tag_of arguments))
    ∙ ap (λ (l : List ℕ). Ok (tags ++ tag_of argument ∷ map tag_of arguments, l))
    (append_assoc atoms (atom_of argument) (flat_map atom_of arguments))

-- a word's argument stands after those before, and the rest is read on
pub word_on : (line : List ℕ) (span : Span) (spans : List Span) (tags atoms more_tags more_atoms : List ℕ)
    → Argues (Ok tt) (argument_at line span) tags atoms more_tags more_atoms
    → onto more_tags more_atoms (arguments_at line spans) ≡ onto tags atoms (arguments_at line (span ∷ spans))
word_on line span spans tags atoms more_tags more_atoms argued = go (argument_at line span) argued where
  rest : Result (List Argument) WordFault
  rest = arguments_at line spans

  go : (o : Result Argument WordFault) → Argues (Ok tt) o tags atoms more_tags more_atoms
      → onto more_tags more_atoms (arguments_at line spans)
      ≡ onto tags atoms (and_then o (λ argument. made (λ arguments. argument ∷ arguments) (arguments_at line spans)))
  go (Err wrong) so = absurd so
  go (Ok argument) so =
      ap (λ (l : List ℕ). onto l more_atoms rest) so.0
      ∙ ap (λ (l : List ℕ). onto (tags ++ tag_of argument ∷ []) l rest) so.1
      ∙ onto_one tags atoms argument rest

-- all fit, where the rest do
pub fit_on : (line : List ℕ) (span : Span) (spans : List Span) (tags atoms more_tags more_atoms : List ℕ)
    → Argues (Ok tt) (argument_at line span) tags atoms more_tags more_atoms
    → IfOk (arguments_at line spans) AllFit → IfOk (arguments_at line (span ∷ spans)) AllFit
fit_on line span spans tags atoms more_tags more_atoms argued fit = go (argument_at line span) (arguments_at line spans) argued fit where
  go : (o : Result Argument WordFault) (read : Result (List Argument) WordFault) → Argues (Ok tt) o tags atoms more_tags more_atoms
      → IfOk read AllFit
      → IfOk (and_then o (λ argument. made (λ arguments. argument ∷ arguments) read)) AllFit
  go (Err wrong) read so fit = tt
  go (Ok argument) (Err wrong) so fit = tt
  go (Ok argument) (Ok arguments) so fit = (so.2, fit)

-- the same fault, of arguments
abbrev no_arguments : Result (List ℕ × List ℕ) WordFault → Result (List Argument) WordFault
no_arguments (Ok read) = Ok []
no_arguments (Err wrong) = Err wrong

onto_wrong : (tags atoms : List ℕ) (wrong : WordFault) (read : Result (List Argument) WordFault) → Err wrong ≡ onto tags atoms read
    → read ≡ Err wrong
onto_wrong tags atoms wrong (Err other) is = sym (ap no_arguments is)
onto_wrong tags atoms wrong (Ok arguments) is = absurd (cc)

-- a word that is wrong
pub word_wrong : (line : List ℕ) (span : Span) (spans all : List Span) (error : WordError)
    (old_tags old_atoms tags atoms new_tags new_atoms last_tags last_atoms : List ℕ)
    → onto tags atoms (arguments_at line (span ∷ spans)) ≡ onto old_tags old_atoms (arguments_at line all)
    → Argues (Err error) (argument_at line span) tags atoms new_tags new_atoms
    → ArguesAll (Err error) (arguments_at line all) old_tags old_atoms last_tags last_atoms
word_wrong line span spans all NoMemory old_tags old_atoms tags atoms new_tags new_atoms last_tags last_atoms so_far argued = tt
word_wrong line span spans all (Wrong wrong) old_tags old_atoms tags atoms new_tags new_atoms last_tags last_atoms so_far argued =
    onto_wrong old_tags old_atoms wrong (arguments_at line all)
    (ap (λ (o : Result Argument WordFault).
    onto tags atoms (and_then o (λ argument. made (λ arguments. argument ∷ arguments) (arguments_at line spans)))) (sym argued)
    ∙ so_far)

-- no word is left
pub words_done : (line : List ℕ) (spans all : List Span) (old_tags old_atoms tags atoms : List ℕ) → spans ≡ []
    → onto tags atoms (arguments_at line spans) ≡ onto old_tags old_atoms (arguments_at line all)
    → (IfOk (arguments_at line spans) AllFit → IfOk (arguments_at line all) AllFit)
    → ArguesAll (Ok tt) (arguments_at line all) old_tags old_atoms tags atoms
words_done line spans all old_tags old_atoms tags atoms none so_far fit = (
  sym so_far ∙ ap (λ (l : List Span). onto tags atoms (arguments_at line l)) none
      ∙ ap (λ (l : List ℕ). Ok (l, atoms ++ [])) (append-nil tags)
      ∙ ap (λ (l : List ℕ). Ok (tags, l)) (append-nil atoms),
  fit (subst (λ (l : List Span). IfOk (arguments_at line l) AllFit) (sym none) tt),
)
