-- The words of array brackets, and that those of a line balance.
use Rattle.std.proofs.Common.{◌≡◌, ℕ, zero, suc, ◌+◌, ◌-◌, ◌==◌, ◌||◌, ◌⊎◌, inl, inr, Bool, true, false, cond, List, [], ◌∷◌, map}
use Rattle.std.proofs.Common.{codes, Option, Some, None, Result, Ok, Err, IfOk, refl, sym, ap, ◌∙◌, subst}
use Rattle.std.specs.Prelude.{bytes_eq}
use Rattle.std.proofs.lemmas.Bool.{cond-true, cond-false}
use Rattle.std.proofs.lemmas.Slice.Eq.{bytes_eq-Decides}
use Rattle.osc_atoms.specs.declared.fault.Fault.{Fault as ReadFault}
use Rattle.osc_message.specs.Messages.{Argument, tag_of, integer, float, text, content, long, time, double, symbol, character, rgba}
use Rattle.osc_message.specs.Messages.{midi, true_, false_, nil, infinitum}
use Rattle.osc_message.specs.Messages.{array_start, array_end}
use Rattle.osc_message.specs.Tags.{Balanced}
use Rattle.osc_message.specs.Reading.{brackets_read}
use Rattle.osc_message.specs.Wants.{ClosesNothing, NeverCloses}
use Rattle.osc_message.proofs.ArrayBrackets.{balance_seen, bracket_fault_again}
use Rattle.osc_cues.specs.declared.fault.Fault.TheVariants.{NotCharacter, NotEight, NotSixteen, OpenBracket}
use Rattle.osc_cues.specs.declared.fault.WordFault.{WordFault}
use Rattle.osc_cues.specs.declared.scan.Span.{Span}
use Rattle.osc_cues.specs.declared.brackets.Brackets.{Brackets}
use Rattle.osc_cues.specs.Words.{word_at}
use Rattle.osc_cues.specs.Faults.{wrong_at, made}
use Rattle.osc_cues.specs.Numbers.{is_whole, int_read, long_read, float_read, double_read, eight_read, sixteen_read, decimal_float}
use Rattle.osc_cues.specs.Quoted.{has_quote, quoted_read, value_text}
use Rattle.osc_cues.specs.Arguments.{is_either, bracket_of, name_read, value_or, character_read, tagged_read, blob_read, value_read}
use Rattle.osc_cues.specs.Arguments.{has_comma, begins_number, number_read, said_read, word_or, argument_read}
use Rattle.osc_cues.specs.Cues.{and_then, moved, argument_at, arguments_at, bracketed, brackets_in, opened_at, closed_at, opened_from}
use Rattle.osc_cues.specs.Cues.{first_of, fault_in, brackets_fault, unopened}

-- an argument that is no bracket
record IsPlain (argument : Argument) : Type 0 where
  opens : (tag_of argument == 91) ≡ false
  closes : (tag_of argument == 93) ≡ false

-- one of two readings
pick : {X E : Type 0} (P : X → Type 0) (t : Bool) (x y : Result X E) → IfOk x P → IfOk y P → IfOk (cond t x y) P
pick P true x y one two = one
pick P false x y one two = two

plain : {X : Type 0} (f : X → Argument) (read : Result X WordFault) → ((x : X) → IsPlain (f x)) → IfOk (made f read) IsPlain
plain f (Ok x) each = each x
plain f (Err wrong) each = tt

tagged_plain : (tag : ℕ) (value : List ℕ) → IfOk (tagged_read tag value) IsPlain
tagged_plain tag value =
    pick IsPlain (tag == 105) _ _ (plain integer (int_read 2 value) (λ x. record { opens = refl; closes = refl }))
    (pick IsPlain (tag == 104) _ _ (plain long (long_read 2 value) (λ x. record { opens = refl; closes = refl }))
    (pick IsPlain (tag == 102) _ _ (plain float (float_read 2 value) (λ x. record { opens = refl; closes = refl }))
    (pick IsPlain (tag == 100) _ _ (plain double (double_read 2 value) (λ x. record { opens = refl; closes = refl }))
    (pick IsPlain (tag == 99) _ _
    (plain character (value_or NotCharacter (character_read value)) (λ x. record { opens = refl; closes = refl }))
    (pick IsPlain (tag == 114) _ _ (plain rgba (value_or NotEight (eight_read value)) (λ x. record { opens = refl; closes = refl }))
    (pick IsPlain (tag == 109) _ _ (plain midi (value_or NotEight (eight_read value)) (λ x. record { opens = refl; closes = refl }))
    (pick IsPlain (tag == 116) _ _
    (plain time (value_or NotSixteen (sixteen_read value)) (λ x. record { opens = refl; closes = refl })) tt)))))))

value_plain : (tag : ℕ) (value : List ℕ) → IfOk (value_read tag value) IsPlain
value_plain tag value =
    pick IsPlain (tag == 115) _ _ (plain text (value_text 2 value) (λ x. record { opens = refl; closes = refl }))
    (pick IsPlain (tag == 83) _ _ (plain symbol (value_text 2 value) (λ x. record { opens = refl; closes = refl }))
    (pick IsPlain (tag == 98) _ _ (plain content (blob_read value) (λ x. record { opens = refl; closes = refl })) (tagged_plain tag value)))

number_plain : (word : List ℕ) → IfOk (number_read word) IsPlain
number_plain word =
    pick IsPlain (has_comma word) _ _ tt
    (pick IsPlain (is_whole word) _ _ (plain integer (int_read 0 word) (λ x. record { opens = refl; closes = refl }))
    (pick IsPlain (begins_number word) _ _ (plain float (decimal_float 0 word) (λ x. record { opens = refl; closes = refl })) tt))

said_plain : (word : List ℕ) → IfOk (said_read word) IsPlain
said_plain [] = number_plain []
said_plain (first ∷ []) = number_plain (first ∷ [])
said_plain (first ∷ colon ∷ value) = pick IsPlain (colon == 58) _ _ (value_plain first value) (number_plain (first ∷ colon ∷ value))

unnamed_plain : (word : List ℕ) → IfOk (word_or None word) IsPlain
unnamed_plain word =
    pick IsPlain (has_quote word) _ _ (plain text (quoted_read 0 word) (λ x. record { opens = refl; closes = refl })) (said_plain word)

-- one of two names
pick_name : (t : Bool) (x y : Option Argument) (word : List ℕ) → IfOk (word_or x word) IsPlain → IfOk (word_or y word) IsPlain
    → IfOk (word_or (cond t x y) word) IsPlain
pick_name true x y word one two = one
pick_name false x y word one two = two

no_bracket : (s t : Bool) (word : List ℕ) → s ≡ false → t ≡ false
    → IfOk (word_or (cond (s || t) (Some (bracket_of word)) None) word) IsPlain
no_bracket true t word one two = absurd (cc)
no_bracket false true word one two = absurd (cc)
no_bracket false false word one two = unnamed_plain word

-- a word that is no bracket
word_plain : (word : List ℕ) → bytes_eq word (codes "[") ≡ false → bytes_eq word (codes "]") ≡ false → IfOk (argument_read word) IsPlain
word_plain word one two =
    pick_name (is_either (codes "true") (codes "T") word) _ _ word (record { opens = refl; closes = refl })
    (pick_name (is_either (codes "false") (codes "F") word) _ _ word (record { opens = refl; closes = refl })
    (pick_name (is_either (codes "nil") (codes "N") word) _ _ word (record { opens = refl; closes = refl })
    (pick_name (is_either (codes "infinitum") (codes "I") word) _ _ word (record { opens = refl; closes = refl })
    (no_bracket (bytes_eq word (codes "[")) (bytes_eq word (codes "]")) word one two))))

-- the tag is that of a bracket where the word is one
record IsFair (word : List ℕ) (argument : Argument) : Type 0 where
  opens : (tag_of argument == 91) ≡ bytes_eq word (codes "[")
  closes : (tag_of argument == 93) ≡ bytes_eq word (codes "]")

fair_open : (argument : Argument) → argument_read (codes "[") ≡ Ok argument → IsFair (codes "[") argument
fair_open argument is =
    let same : array_start ≡ argument = cc in subst (IsFair (codes "[")) same (record { opens = refl; closes = refl })

fair_close : (argument : Argument) → argument_read (codes "]") ≡ Ok argument → IsFair (codes "]") argument
fair_close argument is =
    let same : array_end ≡ argument = cc in subst (IsFair (codes "]")) same (record { opens = refl; closes = refl })

fair : (word : List ℕ) (argument : Argument) → argument_read word ≡ Ok argument → IsFair word argument
fair word argument is = go (bytes_eq word (codes "[")) (bytes_eq word (codes "]")) refl refl where
  go : (s t : Bool) → bytes_eq word (codes "[") ≡ s → bytes_eq word (codes "]") ≡ t → IsFair word argument
  go true t one two =
      let same : codes "[" ≡ word = sym ((bytes_eq-Decides word (codes "[")).0 one) in
      subst (λ (w : List ℕ). argument_read w ≡ Ok argument → IsFair w argument) same (fair_open argument) is
  go false true one two =
      let same : codes "]" ≡ word = sym ((bytes_eq-Decides word (codes "]")).0 two) in
      subst (λ (w : List ℕ). argument_read w ≡ Ok argument → IsFair w argument) same (fair_close argument) is
  go false false one two =
      let all = subst (λ (r : Result Argument WordFault). IfOk r IsPlain) is (word_plain word one two) in
      record { opens = all.opens ∙ sym one; closes = all.closes ∙ sym two }

-- a bracket that closes none stays so
stays : (line : List ℕ) (spans : List Span) (b : Brackets) (place : ℕ) → b.closing ≡ Some place
    → (brackets_in line b spans).closing ≡ Some place
stays line [] b place is = is
stays line (span ∷ spans) b place is = stays line spans (bracketed b span.from (word_at line span)) place
    (one (bytes_eq (word_at line span) (codes "[")) (bytes_eq (word_at line span) (codes "]")) (b.depth == 0)) where
      one : (s t u : Bool)
          → (cond s (opened_at b span.from)
          (cond t (cond u (record b { closing = Some (first_of b.closing span.from) }) (record b { depth = b.depth - 1 })) b)).closing
          ≡ Some place
      one true t u = is
      one false true true = ap (λ (c : Option ℕ). Some (first_of c span.from)) is
      one false true false = is
      one false false u = is

-- the brackets among arguments, where none closes nothing and none stays clear
balances : (line : List ℕ) (spans : List Span) (arguments : List Argument) (b : Brackets) (outer place : ℕ)
    → arguments_at line spans ≡ Ok arguments
    → b.closing ≡ None → fault_in (brackets_in line b spans) (brackets_in line b spans).closing ≡ None
    → brackets_read b.depth outer (map tag_of arguments) place ≡ Ok tt
balances line [] arguments b outer place are clear none = go (b.depth == 0) refl where
  no_more : [] ≡ arguments
  no_more = cc

  go : (t : Bool) → (b.depth == 0) ≡ t → brackets_read b.depth outer (map tag_of arguments) place ≡ Ok tt
  go true even = subst (λ (l : List Argument). brackets_read b.depth outer (map tag_of l) place ≡ Ok tt) no_more (cond-true _ _ _ even)
  go false some = absurd (
      let fault : fault_in b None ≡ None = ap (λ (c : Option ℕ). fault_in b c) (sym clear) ∙ none in
      let known : fault_in b None ≡ Some (record { at = b.opened; fault = OpenBracket }) = cond-false _ _ _ some in
      cc (fault, known)
      )
balances line (span ∷ spans) arguments b outer place are clear none =
    go (argument_read (word_at line span)) refl are
    (λ after out at rest others shut fault. balances line spans rest after out at others shut fault) where
      Later : Type 0
      Later = (after : Brackets) (out at : ℕ) (rest : List Argument) → arguments_at line spans ≡ Ok rest → after.closing ≡ None
          → fault_in (brackets_in line after spans) (brackets_in line after spans).closing ≡ None
          → brackets_read after.depth out (map tag_of rest) at ≡ Ok tt

      more : (argument : Argument) (rest : List Argument) → argument_read (word_at line span) ≡ Ok argument
          → arguments_at line spans ≡ Ok rest → Later
          → brackets_read b.depth outer (map tag_of (argument ∷ rest)) place ≡ Ok tt
      more argument rest is others later =
          let even = fair (word_at line span) argument is in
          turn (bytes_eq (word_at line span) (codes "[")) (bytes_eq (word_at line span) (codes "]"))
          (b.depth == 0) refl refl refl even.opens even.closes where
            next : Brackets → Type 0
            next after = fault_in (brackets_in line after spans) (brackets_in line after spans).closing ≡ None

            turn : (s t u : Bool) → bytes_eq (word_at line span) (codes "[") ≡ s → bytes_eq (word_at line span) (codes "]") ≡ t
                → (b.depth == 0) ≡ u
                → (tag_of argument == 91)
                ≡ bytes_eq (word_at line span) (codes "[") → (tag_of argument == 93) ≡ bytes_eq (word_at line span) (codes "]")
                → brackets_read b.depth outer (map tag_of (argument ∷ rest)) place ≡ Ok tt
            turn true t u one two three opens closes =
                cond-true _ _ _ (opens ∙ one)
                ∙ later (opened_at b span.from) (cond (b.depth == 0) place outer) (place + 1) rest others clear
                (subst next (cond-true _ _ _ one) none)
            turn false true true one two three opens closes = absurd (
                let after : Brackets = record b { closing = Some (first_of b.closing span.from) } in
                let is : bracketed b span.from (word_at line span) ≡ after = cond-false _ _ _ one ∙ cond-true _ _ _ two
                ∙ cond-true _ _ _ three in
                let stuck : (brackets_in line after spans).closing
                ≡ Some (first_of b.closing span.from) = stays line spans after (first_of b.closing span.from) refl in
                let fault : fault_in (brackets_in line after spans) (Some (first_of b.closing span.from)) ≡ None =
                ap (λ (c : Option ℕ). fault_in (brackets_in line after spans) c) (sym stuck) ∙ subst next is none in
                cc (fault)
                )
            turn false true false one two three opens closes =
                cond-false _ _ _ (opens ∙ one) ∙ cond-true _ _ _ (closes ∙ two) ∙ cond-false _ _ _ three
                ∙ later (record b { depth = b.depth - 1 }) outer (place + 1) rest others clear
                (subst next (cond-false _ _ _ one ∙ cond-true _ _ _ two ∙ cond-false _ _ _ three) none)
            turn false false u one two three opens closes =
                cond-false _ _ _ (opens ∙ one) ∙ cond-false _ _ _ (closes ∙ two)
                ∙ later b outer (place + 1) rest others clear (subst next (cond-false _ _ _ one ∙ cond-false _ _ _ two) none)

      goes : (argument : Argument) (read : Result (List Argument) WordFault) → argument_read (word_at line span) ≡ Ok argument
          → arguments_at line spans ≡ read → Later
          → made (λ others. argument ∷ others) read ≡ Ok arguments → brackets_read b.depth outer (map tag_of arguments) place ≡ Ok tt
      goes argument (Err wrong) is others later all = absurd (cc)
      goes argument (Ok rest) is others later all =
          let same : argument ∷ rest ≡ arguments = cc in
          subst (λ (l : List Argument). brackets_read b.depth outer (map tag_of l) place ≡ Ok tt) same (more argument rest is others later)

      go : (o : Result Argument WordFault) → argument_read (word_at line span) ≡ o
          → and_then (moved span.from o) (λ argument. made (λ others. argument ∷ others) (arguments_at line spans)) ≡ Ok arguments → Later
          → brackets_read b.depth outer (map tag_of arguments) place ≡ Ok tt
      go (Err wrong) is all later = absurd (cc)
      go (Ok argument) is all later = goes argument (arguments_at line spans) is refl later all

-- the tags of a line's arguments
pub balanced : (line : List ℕ) (spans : List Span) (arguments : List Argument) → arguments_at line spans ≡ Ok arguments
    → brackets_fault line spans ≡ None → Balanced (map tag_of arguments)
balanced line spans arguments are none = go (balance_seen 0 (map tag_of arguments)) where
  read : brackets_read 0 0 (map tag_of arguments) 0 ≡ Ok tt
  read = balances line spans arguments unopened 0 0 are refl none

  go : Balanced (map tag_of arguments)
      ⊎ ((fault : ReadFault) × (ClosesNothing 0 (map tag_of arguments) fault ⊎ NeverCloses 0 (map tag_of arguments) fault))
      → Balanced (map tag_of arguments)
  go (inl even) = even
  go (inr wrong) = absurd (let found = bracket_fault_again 0 (map tag_of arguments) wrong.0 wrong.1 in cc (found, read))
