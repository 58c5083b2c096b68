-- What is read is a score, and its lines are no longer than the input.
use Rattle.osc_atoms.specs.declared.limits.TheConstants.{MAX_PACKET}
use Rattle.osc_score.specs.declared.limits.TheConstants.{MAX_SCORE}
use Rattle.std.proofs.Common.{◌≡◌, ◌↔◌, ℕ, ◌+◌, ◌<◌, ◌≤◌, ◌^◌, Bool, true, false, cond, nat_lt, IsTrue, List, [], ◌∷◌, ◌++◌, length, map, Option, Some, None}
use Rattle.std.proofs.Common.{Result, Ok, Err, is_ok, ok_or, IfSome, IfOk, inl, inr, codes, refl, sym, ap, subst, arith}
use Rattle.std.specs.Prelude.{nat_eq}
use Rattle.std.specs.List.{AllByRecursion, starts_with}
use Rattle.std.proofs.lemmas.Bool.{ltb-false}
use Rattle.osc_pattern.specs.Addresses.{IsAddress, is_address}
use Rattle.osc_message.specs.Tags.{Balanced}
use Rattle.osc_message.specs.Messages.{Argument, tag_of}
use Rattle.osc_message.specs.Reading.{brackets_read}
use Rattle.osc_message.proofs.ArrayBrackets.{balance_seen, bracket_fault_again}
use Rattle.osc_tree.specs.Registry.{IsLawful}
use Rattle.osc_tree.specs.Adding.{Refusal, taken, under_method, is_container, methods_full, nodes_full, add_refusal}
use Rattle.osc_script.specs.Words.{words_of, lines_of}
use Rattle.osc_script.specs.Acts.{and_then}
use Rattle.osc_score.specs.declared.fault.ScoreFault.{ScoreFault}
use Rattle.osc_score.specs.declared.fault.ScoreFaultKind.{ScoreFaultKind}
use Rattle.osc_score.specs.declared.fault.ScoreFaultKind.TheVariants as kinds
use Rattle.osc_score.specs.Kinds.{kind_number}
use Rattle.osc_score.specs.Scores.{Note, groups_of, bundle_text, IsShort, tree_of, IsNote, IsOrdered, IsScore, note_size, score_size}
use Rattle.osc_score.specs.ArgumentWords.{tag_read, arguments_read}
use Rattle.osc_score.specs.Reading.{are_balanced, balanced_note, note_at, note_read, least_of, run_with, unless_refused, note_added, words_read, line_read}
use Rattle.osc_score.specs.Reading.{lines_read, score_of, IsScored}
use Rattle.osc_score.proofs.Arguments.{AreSaid, IsWord, spaced_size, tag_small, arguments_said}
use Rattle.osc_score.proofs.Grouping.{short_on, ordered_on, lawful_on}
use Rattle.osc_score.proofs.Trees.{tree_same, tree_more}
use Rattle.osc_score.proofs.Lines.{words_short, lines_size, lines_short}

-- the test of addresses answers the relation
abbrev pub TestsAddresses : Type 0
TestsAddresses = (bytes : List ℕ) → (IsTrue (is_address bytes) ↔ IsAddress bytes)

-- what holds of the notes so far
pub record IsGood (notes : List Note) : Type 0 where
  pub lawful : AllByRecursion IsNote notes
  pub ordered : IsOrdered 2 notes
  pub short : AllByRecursion IsShort (groups_of notes)
  pub tree : IsLawful (tree_of notes)

step_ok : {X Y K : Type 0} (read : Result X K) (next : X → Result Y K) (value : Y) → and_then read next ≡ Ok value
    → (x : X) × (read ≡ Ok x) × (next x ≡ Ok value)
step_ok (Ok x) next value is = (x, refl, is)
step_ok (Err kind) next value is = absurd (cc)

some_ok : {X : Type 0} (o : Option X) (kind : ScoreFaultKind) (x : X) → ok_or {E = ScoreFaultKind} o kind ≡ Ok x → o ≡ Some x
some_ok None kind x is = absurd (cc)
some_ok (Some y) kind x is = let same : y ≡ x = cc in ap Some same

pub brackets_ok : (tags : List ℕ) → is_ok (brackets_read 0 0 tags 0) ≡ true → Balanced tags
brackets_ok tags ok = elim (balance_seen 0 tags) [
  | inl balanced ↦ balanced
  | inr found ↦
      let fault : brackets_read 0 0 tags 0 ≡ Err found.0 = bracket_fault_again 0 tags found.0 found.1 in
      let failed : is_ok (brackets_read 0 0 tags 0) ≡ false = ap is_ok fault in
      absurd (cc)
]

-- what a note says, that stands after tags of at least this, with so many bytes after its moment
record IsNoted (least size : ℕ) (note : Note) : Type 0 where
  later : least ≤ note.tag
  lawful : IsNote note
  short : note_size note ≤ 17 + size

balanced_is : (tag : ℕ) (address : List ℕ) (arguments : List Argument) (note : Note) → balanced_note tag address arguments ≡ Ok note
    → (note ≡ record { tag = tag; address = address; arguments = arguments }) × Balanced (map tag_of arguments)
balanced_is tag address arguments note is = go (are_balanced arguments) refl is where
  go : (t : Bool) → are_balanced arguments ≡ t
      → cond {A = Result Note ScoreFaultKind} t (Ok (record { tag = tag; address = address; arguments = arguments })) (Err kinds.Brackets) ≡ Ok note
      → (note ≡ record { tag = tag; address = address; arguments = arguments }) × Balanced (map tag_of arguments)
  go true e so =
      let this : Note = record { tag = tag; address = address; arguments = arguments } in
      let same : this ≡ note = cc in (sym same, brackets_ok (map tag_of arguments) e)
  go false e so = absurd (cc)

at_noted : TestsAddresses → (least tag : ℕ) (address : List ℕ) (words : List (List ℕ)) (note : Note) → tag < 2 ^ 64 → spaced_size words < 2 ^ 31
    → note_at least tag address words ≡ Ok note → IsNoted least (length address + spaced_size words) note
at_noted tests least tag address words note small few is = go (nat_lt tag least) refl (is_address address) refl is where
  go : (t : Bool) → nat_lt tag least ≡ t → (u : Bool) → is_address address ≡ u
      → cond {A = Result Note ScoreFaultKind} t (Err kinds.Order)
      (cond {A = Result Note ScoreFaultKind} u (and_then (ok_or (arguments_read words) kinds.Arg) (balanced_note tag address)) (Err kinds.Address)) ≡ Ok note
      → IsNoted least (length address + spaced_size words) note
  go true early u e so = absurd (cc)
  go false early false e so = absurd (cc)
  go false early true e so =
      let got = step_ok (ok_or (arguments_read words) kinds.Arg) (balanced_note tag address) note so in
      let arguments : List Argument = got.0 in
      let said : AreSaid (spaced_size words) arguments =
      subst (λ (o : Option (List Argument)). IfSome o (AreSaid (spaced_size words))) (some_ok (arguments_read words) kinds.Arg arguments got.1)
      (arguments_said words few) in
      let made = balanced_is tag address arguments note got.2 in
      let least_is : least ≤ tag = ltb-false _ _ early in
      let short = said.short in
      let this : IsNoted least (length address + spaced_size words) (record { tag = tag; address = address; arguments = arguments }) = record {
        later = least_is;
        lawful = record { fits = small; address = (tests address).0 e; arguments = said.fit; bytes = said.bytes; balanced = made.1 };
        short = omega arith;
      } in
      subst (IsNoted least (length address + spaced_size words)) (sym made.0) this

read_noted : TestsAddresses → (least : ℕ) (moment address : List ℕ) (words : List (List ℕ)) (note : Note) → spaced_size words < 2 ^ 31
    → note_read least moment address words ≡ Ok note → IsNoted least (length address + spaced_size words) note × (length moment ≡ 16)
read_noted tests least moment address words note few is =
    let got = step_ok (ok_or (tag_read moment) kinds.Tag) (λ tag. note_at least tag address words) note is in
    let small : IsWord (length moment) 64 got.0 =
    subst (λ (o : Option ℕ). IfSome o (IsWord (length moment) 64)) (some_ok (tag_read moment) kinds.Tag got.0 got.1) (tag_small moment) in
    let long = small.long in
    (at_noted tests least got.0 address words note small.small few got.2, omega arith)

-- one more note

pub record IsMore (notes : List Note) (size : ℕ) (more : List Note) : Type 0 where
  pub good : IsGood more
  pub short : score_size more ≤ score_size notes + size

size_on : (notes : List Note) (note : Note) → score_size (notes ++ note ∷ []) ≡ score_size notes + note_size note
size_on [] note = omega arith
size_on (first ∷ notes) note = omega (arith, size_on notes note)

added_good : (notes : List Note) (note : Note) (size : ℕ) (more : List Note) → IsGood notes → IsNote note → least_of notes ≤ note.tag → note_size note ≤ size
    → note_added notes note ≡ Ok more → IsMore notes size more
added_good notes note size more good lawful later few is = go (nat_lt MAX_PACKET (length (bundle_text (run_with (groups_of notes) note)))) refl is where
  after : List Note
  after = notes ++ note ∷ []

  go : (t : Bool) → nat_lt MAX_PACKET (length (bundle_text (run_with (groups_of notes) note))) ≡ t
      → cond {A = Result (List Note) ScoreFaultKind} t (Err kinds.Bundle)
      (unless_refused (add_refusal (tree_of notes) note.address) (notes ++ note ∷ [])) ≡ Ok more
      → IsMore notes size more
  go true e so = absurd (cc)
  go false e so = case (add_refusal (tree_of notes) note.address) refl so where
    done : IsLawful (tree_of (notes ++ note ∷ [])) → ◌≡◌ {A = Result (List Note) ScoreFaultKind} (Ok (notes ++ note ∷ [])) (Ok more) → IsMore notes size more
    done tree same =
        let is_more : notes ++ note ∷ [] ≡ more = cc in
        let fits : length (bundle_text (run_with (groups_of notes) note)) ≤ MAX_PACKET = ltb-false _ _ e in
        subst (IsMore notes size) is_more (record {
          good = record {
            lawful = lawful_on notes note good.lawful lawful;
            ordered = ordered_on 2 notes note good.ordered later;
            short = short_on notes note good.short fits;
            tree = tree;
          };
          short = omega (arith, size_on notes note);
        })

    case : (o : Option Refusal) → add_refusal (tree_of notes) note.address ≡ o → unless_refused o (notes ++ note ∷ []) ≡ Ok more → IsMore notes size more
    case None is same = done (tree_more notes note good.tree lawful.address is) same
    case (Some (taken id)) is same = done (tree_same notes note id good.tree is) same
    case (Some (under_method id)) is same = absurd (cc)
    case (Some is_container) is same = absurd (cc)
    case (Some (methods_full limit)) is same = absurd (cc)
    case (Some (nodes_full need free)) is same = absurd (cc)

same_more : (notes : List Note) (size : ℕ) (more : List Note) → IsGood notes
    → ◌≡◌ {A = Result (List Note) ScoreFaultKind} (Ok notes) (Ok more) → IsMore notes size more
same_more notes size more good is =
    let same : notes ≡ more = cc in subst (IsMore notes size) same (record { good = good; short = omega arith })

words_good : TestsAddresses → (notes : List Note) (words : List (List ℕ)) (size : ℕ) (more : List Note) → IsGood notes → spaced_size words ≤ size + 1
    → size < 2 ^ 31
    → words_read notes words ≡ Ok more → IsMore notes size more
words_good tests notes [] size more good fits few is = same_more notes size more good is
words_good tests notes (word ∷ []) size more good fits few is = absurd (cc)
words_good tests notes (moment ∷ address ∷ words) size more good fits few is =
    let got = step_ok (note_read (least_of notes) moment address words) (note_added notes) more is in
    let note : Note = got.0 in
    let noted = read_noted tests (least_of notes) moment address words note (omega arith) got.1 in
    let short = (noted.0).short in
    let long = noted.1 in
    added_good notes note size more good (noted.0).lawful (noted.0).later (omega arith) got.2

pub line_good : TestsAddresses → (notes : List Note) (text : List ℕ) (more : List Note) → IsGood notes → length text < 2 ^ 31
    → line_read notes text ≡ Ok more → IsMore notes (length text) more
line_good tests notes text more good few is = go (starts_with nat_eq text (codes "#")) is where
  go : (t : Bool) → cond {A = Result (List Note) ScoreFaultKind} t (Ok notes) (words_read notes (words_of text)) ≡ Ok more → IsMore notes (length text) more
  go true so = same_more notes (length text) more good so
  go false so = words_good tests notes (words_of text) (length text) more good (words_short text) few so

lines_good : TestsAddresses → (number : ℕ) (notes : List Note) (texts : List (List ℕ)) → IsGood notes → lines_size texts < 2 ^ 31
    → IfOk (lines_read number notes texts) (IsMore notes (lines_size texts))
lines_good tests number notes [] good few = record { good = good; short = omega arith }
lines_good tests number notes (text ∷ texts) good few =
    go (line_read notes text) refl (λ more is. lines_good tests (number + 1) more texts is (omega arith)) where
      on : (size rest : ℕ) (more : List Note) → IsMore notes size more → (r : Result (List Note) ScoreFault) → IfOk r (IsMore more rest)
          → IfOk r (IsMore notes (size + rest))
      on size rest more one (Err fault) two = tt
      on size rest more one (Ok last) two =
          let first = one.short in let second = two.short in record { good = two.good; short = omega arith }

      go : (r : Result (List Note) ScoreFaultKind) → line_read notes text ≡ r
          → ((more : List Note) → IsGood more → IfOk (lines_read (number + 1) more texts) (IsMore more (lines_size texts)))
          → IfOk (elim r as (λ x. Result (List Note) ScoreFault) [
            | Ok more ↦ lines_read (number + 1) more texts
            | Err kind ↦ Err (record { line = number; kind = kind_number kind })
          ]) (IsMore notes (length text + lines_size texts))
      go (Err kind) is later = tt
      go (Ok more) is later =
          let one : IsMore notes (length text) more = line_good tests notes text more good (omega arith) is in
          on (length text) (lines_size texts) more one (lines_read (number + 1) more texts) (later more one.good)

pub none_good : IsLawful (tree_of []) → IsGood []
none_good empty = record { lawful = tt; ordered = tt; short = tt; tree = empty }

good_score : (notes : List Note) → IsGood notes → IsScore notes
good_score notes good = record { lawful = good.lawful; ordered = good.ordered; short = good.short; tree = good.tree }

pub score_good : TestsAddresses → IsLawful (tree_of []) → (bytes : List ℕ) → IfOk (score_of bytes) (IsScored (length bytes))
score_good tests empty bytes = go (nat_lt MAX_SCORE (length bytes)) refl where
  last : (size : ℕ) (notes : List Note) → IsMore [] size notes → size ≤ length bytes → length bytes ≤ MAX_SCORE → IsScored (length bytes) notes
  last size notes more few within =
      let short = more.short in record { score = good_score notes more.good; short = omega arith; within = within }

  each : (r : Result (List Note) ScoreFault) → IfOk r (IsMore [] (lines_size (lines_of bytes))) → length bytes ≤ MAX_SCORE → IfOk r (IsScored (length bytes))
  each (Err fault) more within = tt
  each (Ok notes) more within = last (lines_size (lines_of bytes)) notes more (lines_short bytes) within

  go : (t : Bool) → nat_lt MAX_SCORE (length bytes) ≡ t
      → IfOk (cond {A = Result (List Note) ScoreFault} t (Err (record { line = 0; kind = kind_number kinds.TooLong })) (lines_read 1 [] (lines_of bytes)))
      (IsScored (length bytes))
  go true e = tt
  go false e =
      let within : length bytes ≤ MAX_SCORE = ltb-false _ _ e in
      each (lines_read 1 [] (lines_of bytes)) (lines_good tests 1 [] (lines_of bytes) (none_good empty) (omega (arith, lines_short bytes))) within

pub none_tree : IsLawful (tree_of [])
none_tree = record {
  list = record {
    ids = λ i j d less below. absurd (omega arith);
    lawful = λ i d below. absurd (omega arith);
    addresses = λ i j d less below. absurd (omega arith);
    apart = λ i j d less below. absurd (omega arith);
  };
  few_methods = omega arith;
  few_nodes = omega arith;
}
