-- The bytes of a text, one after another.
use Rattle.std.proofs.Common.{◌≡◌, ℕ, zero, suc, ◌<◌, ◌≤◌, List, [], ◌∷◌, ◌++◌, length, Option, Some, None, option_map, option_and_then, IfSome, refl, sym, ap}
use Rattle.std.proofs.Common.{◌∙◌, arith}
use Rattle.std.proofs.Common.{append_assoc}
use Rattle.osc_score.specs.ArgumentWords.{first_byte, text_within, text_read}
use Rattle.osc_score.proofs.Arguments.{first_shorter}

-- it doesn't matter how many bytes there may be, where there may be enough
enough : (m n : ℕ) (word : List ℕ) → length word ≤ m → length word ≤ n → text_within m word ≡ text_within n word
enough m n [] few also = both m n where
  both : (m n : ℕ) → text_within m [] ≡ text_within n []
  both m n = refl
enough zero n (byte ∷ word) few also = absurd (omega arith)
enough (suc m) zero (byte ∷ word) few also = absurd (omega arith)
enough (suc m) (suc n) (byte ∷ word) few also =
    go (first_byte (byte ∷ word)) (first_shorter (byte ∷ word)) (λ rest short. enough m n rest (omega arith) (omega arith)) where
      go : (o : Option (ℕ × List ℕ)) → IfSome o (λ cut. length cut.1 < length (byte ∷ word))
          → ((rest : List ℕ) → length rest < length (byte ∷ word) → text_within m rest ≡ text_within n rest)
          → option_and_then (λ cut. option_map (λ bytes. cut.0 ∷ bytes) (text_within m cut.1)) o
          ≡ option_and_then (λ cut. option_map (λ bytes. cut.0 ∷ bytes) (text_within n cut.1)) o
      go None short more = refl
      go (Some cut) short more = ap (λ (t : Option (List ℕ)). option_map (λ bytes. cut.0 ∷ bytes) t) (more cut.1 short)

-- what is read after other bytes
abbrev pub after_front : List ℕ → Option (List ℕ) → Option (List ℕ)
after_front front read = option_map (λ bytes. front ++ bytes) read

after_on : (front : List ℕ) (byte : ℕ) (read : Option (List ℕ)) → after_front (front ++ byte ∷ []) read ≡ after_front front (option_map (λ bytes. byte ∷ bytes) read)
after_on front byte None = refl
after_on front byte (Some bytes) = ap (λ (l : List ℕ). Some l) (append_assoc front (byte ∷ []) bytes)

-- a byte is read, and the rest is read on
pub byte_on : (word : List ℕ) (byte : ℕ) (rest front : List ℕ) → 0 < length word → first_byte word ≡ Some (byte, rest) → length rest < length word
    → after_front (front ++ byte ∷ []) (text_read rest) ≡ after_front front (text_read word)
byte_on [] byte rest front some is short = absurd (omega arith)
byte_on (first ∷ word) byte rest front some is short =
    after_on front byte (text_read rest)
    ∙ ap (λ (t : Option (List ℕ)). after_front front (option_map (λ bytes. byte ∷ bytes) t)) (enough (length rest) (length word) rest (omega arith) (omega arith))
    ∙ ap (λ (o : Option (ℕ × List ℕ)). after_front front (option_and_then (λ cut. option_map (λ bytes. cut.0 ∷ bytes) (text_within (length word) cut.1)) o)) (sym is)

-- no byte is read
pub byte_none : (word front : List ℕ) → 0 < length word → first_byte word ≡ None → after_front front (text_read word) ≡ None
byte_none [] front some is = absurd (omega arith)
byte_none (first ∷ word) front some is =
    ap (λ (o : Option (ℕ × List ℕ)). after_front front (option_and_then (λ cut. option_map (λ bytes. cut.0 ∷ bytes) (text_within (length word) cut.1)) o)) is
