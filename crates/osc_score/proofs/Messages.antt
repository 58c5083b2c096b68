-- The message of what is read.
use Rattle.osc_atoms.specs.declared.limits.TheConstants.{MAX_BYTES}
use Rattle.osc_score.specs.declared.limits.TheConstants.{MAX_SCORE}
use Rattle.std.proofs.Common.{◌≡◌, ℕ, ◌≤◌, ◌<◌, ◌^◌, Bool, true, false, cond, IsTrue, List, [], ◌∷◌, ◌++◌, length, map, Option, Some, None, Result, Ok, Err}
use Rattle.std.proofs.Common.{is_ok, ok_or, IfSome, refl, sym, ap, ◌∙◌, subst, arith}
use Rattle.std.specs.List.{flat_map}
use Rattle.osc_atoms.specs.Atoms.{string, has_no_zero}
use Rattle.osc_pattern.specs.Addresses.{IsAddress}
use Rattle.osc_pattern.specs.Patterns.{IsPattern}
use Rattle.osc_message.specs.Messages.{Argument, tag_of, atom_of, known, message_text, IsLawful, Form}
use Rattle.osc_message.specs.Reading.{brackets_read, is_message}
use Rattle.osc_message.proofs.LawfulPatterns.{pattern_nonzero}
use Rattle.osc_message.proofs.MessageLaws.{nonzero_tags}
use Rattle.osc_script.specs.Words.{words_of}
use Rattle.osc_script.specs.Acts.{and_then}
use Rattle.osc_score.specs.declared.fault.ScoreFaultKind.{ScoreFaultKind}
use Rattle.osc_score.specs.declared.fault.ScoreFaultKind.TheVariants as kinds
use Rattle.osc_score.specs.ArgumentWords.{arguments_read}
use Rattle.osc_score.specs.Scores.{Note}
use Rattle.osc_score.specs.Reading.{are_balanced, balanced_note}
use Rattle.osc_score.specs.Argued.{arguments_onto, IsReadAs}
use Rattle.osc_score.proofs.Arguments.{AreSaid, spaced_size, arguments_said}
use Rattle.osc_message.proofs.Bracketing.{read_closes}
use Rattle.osc_score.proofs.Lengths.{text_few}
use Rattle.osc_score.proofs.Lines.{words_short}
use Rattle.osc_score.proofs.Read.{brackets_ok}

-- arguments are read, and these are their tags after a comma, and their atoms
record ArePut (tags atoms : List ℕ) (read : Option (List Argument)) : Type 0 where
  arguments : List Argument
  is : read ≡ Some arguments
  tags_are : tags ≡ 44 ∷ map tag_of arguments
  atoms_are : atoms ≡ flat_map atom_of arguments

put_in : (tags atoms : List ℕ) (read : Option (List Argument)) → arguments_onto (44 ∷ []) [] read ≡ Some (tags, atoms) → ArePut tags atoms read
put_in tags atoms None is = absurd (cc)
put_in tags atoms (Some arguments) is =
    let same : ◌≡◌ {A = List ℕ × List ℕ} (44 ∷ map tag_of arguments, flat_map atom_of arguments) (tags, atoms) = cc in
    record {
      arguments = arguments;
      is = refl;
      tags_are = sym (ap (λ (p : List ℕ × List ℕ). p.0) same);
      atoms_are = sym (ap (λ (p : List ℕ × List ℕ). p.1) same);
    }

text_is : (address tags atoms : List ℕ) (read : Option (List Argument)) (put : ArePut tags atoms read)
    → string address ++ (string tags ++ atoms) ≡ message_text (known address put.arguments)
text_is address tags atoms read put =
    ap (λ (l : List ℕ). string address ++ (string l ++ atoms)) put.tags_are
    ∙ ap (λ (l : List ℕ). string address ++ (string (44 ∷ map tag_of put.arguments) ++ l)) put.atoms_are

-- tags and atoms that begin with a comma and nothing
pub begun : (tags atoms new_tags new_atoms : List ℕ) (read : Option (List Argument)) → tags ≡ 44 ∷ [] → atoms ≡ []
    → arguments_onto tags atoms read ≡ Some (new_tags, new_atoms) → arguments_onto (44 ∷ []) [] read ≡ Some (new_tags, new_atoms)
begun tags atoms new_tags new_atoms read comma none is =
    ap (λ (l : List ℕ). arguments_onto l [] read) (sym comma) ∙ ap (λ (l : List ℕ). arguments_onto tags l read) (sym none) ∙ is

-- strings without a zero byte

pub address_nonzero : ((a : List ℕ) → IsAddress a → IsPattern a) → (address : List ℕ) → IsAddress address → IsTrue (has_no_zero address)
address_nonzero lawful address is = pattern_nonzero address (lawful address is)

pub tags_nonzero : (tags atoms : List ℕ) (read : Option (List Argument)) → arguments_onto (44 ∷ []) [] read ≡ Some (tags, atoms) → IsTrue (has_no_zero tags)
tags_nonzero tags atoms read is =
    let put : ArePut tags atoms read = put_in tags atoms read is in
    ap has_no_zero put.tags_are ∙ nonzero_tags put.arguments

-- the brackets don't balance

balance_is : (tags : List ℕ) (arguments : List Argument) (t : Bool) → tags ≡ 44 ∷ map tag_of arguments → is_ok (brackets_read 0 0 tags 0) ≡ t
    → are_balanced arguments ≡ t
balance_is tags arguments t tags_are is =
    read_closes 0 0 (map tag_of arguments) 0 ∙ sym (read_closes 0 0 (44 ∷ map tag_of arguments) 0)
    ∙ ap (λ (l : List ℕ). is_ok (brackets_read 0 0 l 0)) (sym tags_are) ∙ is

pub unbalanced : (tag : ℕ) (address tags atoms : List ℕ) (read : Option (List Argument)) → arguments_onto (44 ∷ []) [] read ≡ Some (tags, atoms)
    → is_ok (brackets_read 0 0 tags 0) ≡ false → and_then (ok_or read kinds.Arg) (balanced_note tag address) ≡ Err kinds.Brackets
unbalanced tag address tags atoms read is test =
    let put : ArePut tags atoms read = put_in tags atoms read is in
    let arguments : List Argument = put.arguments in
    ap (λ (o : Option (List Argument)). and_then (ok_or o kinds.Arg) (balanced_note tag address)) put.is
    ∙ ap (λ (t : Bool). cond {A = Result Note ScoreFaultKind} t (Ok (record { tag = tag; address = address; arguments = arguments })) (Err kinds.Brackets))
    (balance_is tags arguments false put.tags_are test)

-- they balance

pub told : (tag : ℕ) (address tags atoms message : List ℕ) (read : Option (List Argument)) → arguments_onto (44 ∷ []) [] read ≡ Some (tags, atoms)
    → is_ok (brackets_read 0 0 tags 0) ≡ true → message ≡ string address ++ (string tags ++ atoms)
    → IsReadAs tag address message (and_then (ok_or read kinds.Arg) (balanced_note tag address))
told tag address tags atoms message read is test text =
    let put : ArePut tags atoms read = put_in tags atoms read is in
    let arguments : List Argument = put.arguments in
    record {
      arguments = arguments;
      is = ap (λ (o : Option (List Argument)). and_then (ok_or o kinds.Arg) (balanced_note tag address)) put.is
          ∙ ap (λ (t : Bool). cond {A = Result Note ScoreFaultKind} t (Ok (record { tag = tag; address = address; arguments = arguments }))
          (Err kinds.Brackets))
          (balance_is tags arguments true put.tags_are test);
      text = text ∙ text_is address tags atoms read put;
    }

-- some word is no argument
pub no_argument : (tag : ℕ) (address : List ℕ) (read : Option (List Argument)) (kind : ScoreFaultKind) → read ≡ None → kind ≡ kinds.Arg
    → and_then (ok_or read kinds.Arg) (balanced_note tag address) ≡ Err kind
no_argument tag address read kind none is =
    ap (λ (o : Option (List Argument)). and_then (ok_or o kinds.Arg) (balanced_note tag address)) none
    ∙ ap (λ (k : ScoreFaultKind). let r : Result Note ScoreFaultKind = Err k in r) (sym is)

-- it is a message

abbrev pub Accepts : Type 0
Accepts = (form : Form) (most : ℕ) → IsLawful form → length (message_text form) ≤ most → IsTrue (is_message most (message_text form))

pub is_one : Accepts → ((a : List ℕ) → IsAddress a → IsPattern a) → (words address tags atoms message : List ℕ) → length words ≤ MAX_SCORE → IsAddress address
    → arguments_onto (44 ∷ []) [] (arguments_read (words_of words)) ≡ Some (tags, atoms) → is_ok (brackets_read 0 0 tags 0) ≡ true
    → message ≡ string address ++ (string tags ++ atoms) → IsTrue (is_message MAX_BYTES message)
is_one accepts lawful words address tags atoms message few is_lawful is test text =
    let read : Option (List Argument) = arguments_read (words_of words) in
    let put : ArePut tags atoms read = put_in tags atoms read is in
    let arguments : List Argument = put.arguments in
    let note : Note = record { tag = 2; address = address; arguments = arguments } in
    let size : ℕ = spaced_size (words_of words) in
    let small : size < 2 ^ 31 = omega (arith, words_short words) in
    let said : AreSaid size arguments = subst (λ (o : Option (List Argument)). IfSome o (AreSaid size)) put.is (arguments_said (words_of words) small) in
    let short = said.short in
    let within = is_lawful.short in
    let same : message ≡ message_text (known address arguments) =
    text ∙ text_is address tags atoms read put in
    subst (λ (l : List ℕ). IsTrue (is_message MAX_BYTES l)) (sym same)
    (accepts (known address arguments) MAX_BYTES
    (lawful address is_lawful, said.fit, brackets_ok (map tag_of arguments) (balance_is tags arguments true put.tags_are test))
    (omega (arith, text_few note, words_short words)))
