-- The bytes of a text, one after another.
use Rattle.std.proofs.Common.{◌≡◌, ℕ, zero, suc, ◌-◌, ◌<◌, ◌≤◌, ◌==◌, ◌&&◌, ◌||◌, Bool, true, false, cond, not, IsTrue, List, [], ◌∷◌}
use Rattle.std.proofs.Common.{◌++◌, length, Option, Some, None, Result, Ok, Err, IfOk, refl, sym, ap, ◌∙◌, subst, arith}
use Rattle.std.proofs.Common.{append_assoc, append-nil}
use Rattle.std.proofs.lemmas.Bool.Decides.{nat_tests}
use Rattle.osc_atoms.specs.Atoms.{has_no_zero}
use Rattle.osc_cues.specs.declared.fault.Fault.{Fault}
use Rattle.osc_cues.specs.declared.fault.Fault.TheVariants.{PlainByte, ZeroByte, InnerQuote, QuotedEscape, PlainEscape}
use Rattle.osc_cues.specs.declared.fault.WordFault.{WordFault}
use Rattle.osc_cues.specs.Faults.{wrong_at, made, before}
use Rattle.osc_cues.specs.Quoted.{pair_read, byte_or, escape_read, marked_read, quoted_first, is_plain, plain_first, first_read}
use Rattle.osc_cues.specs.Quoted.{then_text, text_within, text_read}

either : {X E : Type 0} (P : X → Type 0) (t : Bool) (x y : Result X E) → IfOk x P → IfOk y P → IfOk (cond t x y) P
either P true x y one two = one
either P false x y one two = two

-- a byte that isn't 0 is cut off
record IsFirst (size : ℕ) (cut : ℕ × List ℕ) : Type 0 where
  some : (cut.0 == 0) ≡ false
  shorter : length cut.1 < size

weaker : {E : Type 0} (m n : ℕ) (o : Result (ℕ × List ℕ) E) → m ≤ n → IfOk o (IsFirst m) → IfOk o (IsFirst n)
weaker m n (Err e) few is = tt
weaker m n (Ok cut) few is = let shorter = is.shorter in record { some = is.some; shorter = omega arith }

byte_first : (fault : Fault) (rest : List ℕ) (size : ℕ) (o : Option ℕ) → length rest < size → IfOk (byte_or fault rest o) (IsFirst size)
byte_first fault rest size None few = tt
byte_first fault rest size (Some byte) few = go (byte == 0) refl where
  go : (t : Bool) → (byte == 0) ≡ t → IfOk (cond t (Err ZeroByte) (Ok (byte, rest))) (IsFirst size)
  go true e = tt
  go false e = record { some = e; shorter = few }

escape_first : (fault : Fault) (text : List ℕ) → IfOk (escape_read fault text) (IsFirst (length text))
escape_first fault [] = tt
escape_first fault (first ∷ []) = tt
escape_first fault (first ∷ high ∷ []) = tt
escape_first fault (first ∷ high ∷ low ∷ rest) =
    let size : ℕ = length (first ∷ high ∷ low ∷ rest) in
    either (IsFirst size) (first == 120) (byte_or fault rest (pair_read high low)) (Err fault)
    (byte_first fault rest size (pair_read high low) (omega arith)) tt

marked_first : (text : List ℕ) → IfOk (marked_read text) (IsFirst (length text))
marked_first [] = tt
marked_first (first ∷ rest) = go (first == 34 || first == 92) refl where
  go : (t : Bool) → (first == 34 || first == 92) ≡ t
      → IfOk (cond t (Ok (first, rest)) (escape_read QuotedEscape (first ∷ rest))) (IsFirst (suc (length rest)))
  go true e = record { some = grind (arith, nat_tests); shorter = omega arith }
  go false e = escape_first QuotedEscape (first ∷ rest)

quoted_is : (text : List ℕ) → IfOk (quoted_first text) (IsFirst (length text))
quoted_is [] = tt
quoted_is (byte ∷ rest) =
    either (IsFirst (suc (length rest))) (byte == 92) (marked_read rest)
    (cond (byte == 34) (Err InnerQuote) (cond (byte == 0) (Err ZeroByte) (Ok (byte, rest))))
    (weaker (length rest) (suc (length rest)) (marked_read rest) (omega arith) (marked_first rest))
    (either (IsFirst (suc (length rest))) (byte == 34) (Err InnerQuote) (cond (byte == 0) (Err ZeroByte) (Ok (byte, rest))) tt
    (byte_first ZeroByte rest (suc (length rest)) (Some byte) (omega arith)))

plain_is : (text : List ℕ) → IfOk (plain_first text) (IsFirst (length text))
plain_is [] = tt
plain_is (byte ∷ rest) =
    either (IsFirst (suc (length rest))) (byte == 92) (escape_read PlainEscape rest)
    (cond (is_plain byte) (Ok (byte, rest)) (Err PlainByte))
    (weaker (length rest) (suc (length rest)) (escape_read PlainEscape rest) (omega arith) (escape_first PlainEscape rest))
    (go (is_plain byte) refl) where
      go : (t : Bool) → is_plain byte ≡ t → IfOk (cond t (Ok (byte, rest)) (Err PlainByte)) (IsFirst (suc (length rest)))
      go true e = record { some = grind (arith, nat_tests); shorter = omega arith }
      go false e = tt

first_is : (quoted : Bool) (text : List ℕ) → IfOk (first_read quoted text) (IsFirst (length text))
first_is true text = quoted_is text
first_is false text = plain_is text

-- it doesn't matter how many bytes there may be, where there may be enough
enough : (quoted : Bool) (end m n : ℕ) (word : List ℕ) → length word ≤ m → length word ≤ n
    → text_within quoted end m word ≡ text_within quoted end n word
enough quoted end m n [] few also = both m n where
  both : (m n : ℕ) → text_within quoted end m [] ≡ text_within quoted end n []
  both m n = refl
enough quoted end zero n (byte ∷ word) few also = absurd (omega arith)
enough quoted end (suc m) zero (byte ∷ word) few also = absurd (omega arith)
enough quoted end (suc m) (suc n) (byte ∷ word) few also =
    go (first_read quoted (byte ∷ word)) (first_is quoted (byte ∷ word))
    (λ rest short. enough quoted end m n rest (omega arith) (omega arith)) where
      go : (o : Result (ℕ × List ℕ) Fault) → IfOk o (IsFirst (suc (length word)))
          → ((rest : List ℕ) → length rest < suc (length word) → text_within quoted end m rest ≡ text_within quoted end n rest)
          → then_text (end - suc (length word)) (λ text. text_within quoted end m text) o
          ≡ then_text (end - suc (length word)) (λ text. text_within quoted end n text) o
      go (Err fault) is more = refl
      go (Ok cut) is more = ap (λ (t : Result (List ℕ) WordFault). before cut.0 t) (more cut.1 is.shorter)

-- what is read after other bytes
abbrev pub onto : List ℕ → Result (List ℕ) WordFault → Result (List ℕ) WordFault
onto front read = made (λ bytes. front ++ bytes) read

onto_one : (front : List ℕ) (byte : ℕ) (read : Result (List ℕ) WordFault) → onto (front ++ byte ∷ []) read ≡ onto front (before byte read)
onto_one front byte (Err e) = refl
onto_one front byte (Ok bytes) = ap (λ (l : List ℕ). Ok l) (append_assoc front (byte ∷ []) bytes)

-- a byte is read, and the rest is read on
pub byte_on : (quoted : Bool) (end byte : ℕ) (word rest front : List ℕ) → 0 < length word → first_read quoted word ≡ Ok (byte, rest)
    → length rest < length word → onto (front ++ byte ∷ []) (text_read quoted end rest) ≡ onto front (text_read quoted end word)
byte_on quoted end byte [] rest front some is short = absurd (omega arith)
byte_on quoted end byte (first ∷ word) rest front some is short =
    onto_one front byte (text_read quoted end rest)
    ∙ ap (λ (t : Result (List ℕ) WordFault). onto front (before byte t))
    (enough quoted end (length rest) (length word) rest (omega arith) (omega arith))
    ∙ ap (λ (o : Result (ℕ × List ℕ) Fault). onto front
    (then_text (end - suc (length word)) (λ text. text_within quoted end (length word) text) o)) (sym is)

-- a byte that isn't read
pub byte_wrong : (quoted : Bool) (end : ℕ) (word front : List ℕ) (fault : Fault) → 0 < length word → first_read quoted word ≡ Err fault
    → onto front (text_read quoted end word) ≡ wrong_at (end - length word) fault
byte_wrong quoted end [] front fault some is = absurd (omega arith)
byte_wrong quoted end (first ∷ word) front fault some is =
    ap (λ (o : Result (ℕ × List ℕ) Fault). onto front
    (then_text (end - suc (length word)) (λ text. text_within quoted end (length word) text) o)) is

-- a text has no zero byte, and isn't longer than what it is read from
pub record IsText (size : ℕ) (bytes : List ℕ) : Type 0 where
  pub no_zero : IsTrue (has_no_zero bytes)
  pub short : length bytes ≤ size

text_short : (quoted : Bool) (end most : ℕ) (word : List ℕ) → IfOk (text_within quoted end most word) (IsText (length word))
text_short quoted end most [] = record { no_zero = refl; short = omega arith }
text_short quoted end zero (byte ∷ rest) = record { no_zero = refl; short = omega arith }
text_short quoted end (suc most) (byte ∷ rest) =
    go (first_read quoted (byte ∷ rest)) (first_is quoted (byte ∷ rest)) (λ text. text_short quoted end most text) where
      one : (first : ℕ) (after : List ℕ) (read : Result (List ℕ) WordFault) → (first == 0) ≡ false → length after < suc (length rest)
          → IfOk read (IsText (length after)) → IfOk (before first read) (IsText (suc (length rest)))
      one first after (Err e) some few is = tt
      one first after (Ok bytes) some few is =
          let short = is.short in record { no_zero = ap (λ (t : Bool). not t && has_no_zero bytes) some ∙ is.no_zero; short = omega arith }

      go : (o : Result (ℕ × List ℕ) Fault) → IfOk o (IsFirst (suc (length rest)))
          → ((text : List ℕ) → IfOk (text_within quoted end most text) (IsText (length text)))
          → IfOk (then_text (end - suc (length rest)) (λ text. text_within quoted end most text) o) (IsText (suc (length rest)))
      go (Err fault) is more = tt
      go (Ok cut) is more = one cut.0 cut.1 (text_within quoted end most cut.1) is.some is.shorter (more cut.1)

-- all is read
pub text_done : (quoted : Bool) (end : ℕ) (text rest bytes : List ℕ) → length rest ≡ 0
    → onto bytes (text_read quoted end rest) ≡ text_read quoted end text → IsText (length text) bytes
text_done quoted end text (byte ∷ rest) bytes none so = absurd (omega arith)
text_done quoted end text [] bytes none so =
    subst (IsText (length text)) (append-nil bytes)
    (subst (λ (o : Result (List ℕ) WordFault). IfOk o (IsText (length text))) (sym so) (text_short quoted end (length text) text))
