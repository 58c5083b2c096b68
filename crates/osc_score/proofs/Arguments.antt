-- What words that are arguments stand for: it fits, and is no longer than the word.
use Rattle.std.proofs.Common.{◌≡◌, ℕ, zero, suc, ◌+◌, ◌-◌, ◌*◌, ◌/◌, ◌<◌, ◌≤◌, ◌^◌, ◌==◌, ◌&&◌, Bool, true, false, cond, not, nat_le, ℤ, pos, negsuc}
use Rattle.std.proofs.Common.{FitsSigned, IsTrue, List, [], ◌∷◌, length, Option, Some, None, Result, Ok, Err, IfSome, option_map, option_and_then, refl, sym}
use Rattle.std.proofs.Common.{ap, ◌∙◌, subst, arith}
use Rattle.std.specs.Int.{w32, w64, from_be_bytes}
use Rattle.std.specs.Result.{result_ok}
use Rattle.std.specs.List.{AllByRecursion}
use Rattle.std.proofs.lemmas.Bool.Decides.{nat_tests}
use Rattle.hex.specs.Hex.{IsBytes, decode_of, decode_sized}
use Rattle.hex.specs.declared.error.FromHexError.{FromHexError}
use Rattle.hex.proofs.HexLemmas.{decode_of-ok, decode_sized-ok, decode_sized-twice}
use Rattle.osc_atoms.specs.declared.limits.TheConstants.{MAX_BYTES}
use Rattle.osc_atoms.specs.Atoms.{has_no_zero, blob}
use Rattle.osc_message.specs.Messages.{Argument, integer, float, text, content, long, time, double, symbol, character, rgba, midi, Fits, AllFit}
use Rattle.osc_score.specs.Scores.{IsOfBytes, word_size, words_size}
use Rattle.osc_score.specs.ArgumentWords.{natural_read, number_in, is_decimal, below_zero, signed_read, word_read, tag_read, is_plain, unless_zero, escape_read}
use Rattle.osc_score.specs.ArgumentWords.{first_byte, text_within, text_read, bare_read, number_read, value_read, argument_read, arguments_read}
use Rattle.osc_score.proofs.Lengths.{blob_length}

-- it fits, and is no longer than a word of so many bytes
pub record IsSaid (size : ℕ) (argument : Argument) : Type 0 where
  pub fits : Fits argument
  pub bytes : IsOfBytes argument
  pub short : word_size argument ≤ size

either : {X : Type 0} (P : X → Type 0) (t : Bool) (x y : Option X) → IfSome x P → IfSome y P → IfSome (cond t x y) P
either P true x y one two = one
either P false x y one two = two

mapped : {X Y : Type 0} (Q : X → Type 0) (P : Y → Type 0) (f : X → Y) → ((x : X) → Q x → P (f x)) → (o : Option X) → IfSome o Q → IfSome (option_map f o) P
mapped Q P f each None holds = tt
mapped Q P f each (Some x) holds = each x holds

bound : {X Y : Type 0} (Q : X → Type 0) (P : Y → Type 0) (f : X → Option Y) → ((x : X) → Q x → IfSome (f x) P) → (o : Option X) → IfSome o Q
    → IfSome (option_and_then f o) P
bound Q P f each None holds = tt
bound Q P f each (Some x) holds = each x holds

-- Numbers.

abbrev IsAtMost : ℕ → ℕ → Type 0
IsAtMost most number = number ≤ most

natural_small : (most : ℕ) (word : List ℕ) → IfSome (natural_read most word) (IsAtMost most)
natural_small most word = go (is_decimal word) (nat_le (number_in word) most) refl where
  go : (t u : Bool) → nat_le (number_in word) most ≡ u → IfSome (cond (t && u) (Some (number_in word)) None) (IsAtMost most)
  go false u e = tt
  go true false e = tt
  go true true e = grind (arith, nat_tests)

-- a number in a range around zero
abbrev IsIn : ℕ → ℤ → Type 0
IsIn bound (pos n) = n < bound
IsIn bound (negsuc n) = n < bound

record IsRange (size bound : ℕ) (number : ℤ) : Type 0 where
  within : IsIn bound number
  some : 1 ≤ size

below_in : (size bound number : ℕ) → 1 ≤ size → number ≤ bound → IfSome (below_zero number) (IsRange size bound)
below_in size bound number some few = go (number == 0) refl where
  go : (t : Bool) → (number == 0) ≡ t → IfSome (cond t None (Some (negsuc (number - 1)))) (IsRange size bound)
  go true e = tt
  go false e = let positive : 1 ≤ number = grind (arith, nat_tests) in record { within = omega arith; some = some }

signed_in : (bound : ℕ) (word : List ℕ) → 1 ≤ bound → IfSome (signed_read bound word) (IsRange (length word) bound)
signed_in b [] positive = tt
signed_in b (first ∷ word) positive =
    either (IsRange (length (first ∷ word)) b) (first == 45) (option_and_then below_zero (natural_read b word))
    (option_map pos (natural_read (b - 1) (first ∷ word)))
    (bound (IsAtMost b) (IsRange (length (first ∷ word)) b) below_zero (λ n few. below_in (length (first ∷ word)) b n (omega arith) few) (natural_read b word)
    (natural_small b word))
    (mapped (IsAtMost (b - 1)) (IsRange (length (first ∷ word)) b) pos
    (λ n few. let least : n < b = omega arith in record { within = least; some = omega arith }) (natural_read (b - 1) (first ∷ word))
    (natural_small (b - 1) (first ∷ word)))

fits_32 : (number : ℤ) → IsIn (2 ^ 31) number → FitsSigned w32 number
fits_32 (pos n) within = omega arith
fits_32 (negsuc n) within = omega arith

fits_64 : (number : ℤ) → IsIn (2 ^ 63) number → FitsSigned w64 number
fits_64 (pos n) within = omega arith
fits_64 (negsuc n) within = omega arith

-- Digits.

four_bytes : (bytes : List ℕ) → IsBytes bytes → from_be_bytes w32 bytes < 2 ^ 32
four_bytes bytes each = omega (arith, each 0, each 1, each 2, each 3)

eight_bytes : (bytes : List ℕ) → IsBytes bytes → from_be_bytes w64 bytes < 2 ^ 64
eight_bytes bytes each = omega (arith, each 0, each 1, each 2, each 3, each 4, each 5, each 6, each 7)

record IsDigits (digits bytes : List ℕ) : Type 0 where
  twice : length digits ≡ 2 * length bytes
  each : IsBytes bytes

ok_then : {X : Type 0} (P : X → Type 0) (read : Result X FromHexError) → ((x : X) → read ≡ Ok x → P x) → IfSome (result_ok read) P
ok_then P (Ok x) holds = holds x refl
ok_then P (Err e) holds = tt

decoded : (digits : List ℕ) → IfSome (result_ok (decode_of digits)) (IsDigits digits)
decoded digits = ok_then (IsDigits digits) (decode_of digits) (λ bytes is.
    let parts = decode_of-ok digits bytes is in record { twice = parts.2; each = parts.3 })

record IsSized (digits : List ℕ) (size : ℕ) (bytes : List ℕ) : Type 0 where
  long : length digits ≡ 2 * size
  each : IsBytes bytes

sized : (digits : List ℕ) (size : ℕ) → IfSome (result_ok (decode_sized digits size)) (IsSized digits size)
sized digits size = ok_then (IsSized digits size) (decode_sized digits size) (λ bytes is.
    let long : length digits ≡ 2 * size = decode_sized-ok digits size bytes is in
    let parts = decode_of-ok digits bytes (sym (decode_sized-twice digits size long) ∙ is) in
    record { long = long; each = parts.3 })

pub record IsWord (size bits number : ℕ) : Type 0 where
  pub long : size ≡ bits / 4
  pub small : number < 2 ^ bits

word_small : (digits : List ℕ) → IfSome (word_read digits) (IsWord (length digits) 32)
word_small digits =
    mapped (IsSized digits 4) (IsWord (length digits) 32) (from_be_bytes w32)
    (λ bytes is. let long = is.long in record { long = omega arith; small = four_bytes bytes is.each })
    (result_ok (decode_sized digits 4)) (sized digits 4)

pub tag_small : (digits : List ℕ) → IfSome (tag_read digits) (IsWord (length digits) 64)
tag_small digits =
    mapped (IsSized digits 8) (IsWord (length digits) 64) (from_be_bytes w64)
    (λ bytes is. let long = is.long in record { long = omega arith; small = eight_bytes bytes is.each })
    (result_ok (decode_sized digits 8)) (sized digits 8)

-- Texts.

record IsFirst (size : ℕ) (cut : ℕ × List ℕ) : Type 0 where
  small : cut.0 < 256
  some : (cut.0 == 0) ≡ false
  shorter : length cut.1 < size

record IsByte (byte : ℕ) : Type 0 where
  small : byte < 256
  some : (byte == 0) ≡ false

one_byte : (bytes : List ℕ) → IsBytes bytes → IfSome (unless_zero bytes) IsByte
one_byte [] each = tt
one_byte (byte ∷ next ∷ bytes) each = tt
one_byte (byte ∷ []) each = go (byte == 0) refl where
  go : (t : Bool) → (byte == 0) ≡ t → IfSome (cond t None (Some byte)) IsByte
  go true e = tt
  go false e = record { small = each 0; some = e }

escape_first : (rest : List ℕ) → IfSome (escape_read rest) (IsFirst (suc (length rest)))
escape_first [] = tt
escape_first (first ∷ []) = tt
escape_first (first ∷ high ∷ []) = tt
escape_first (first ∷ high ∷ low ∷ rest) =
    let size : ℕ = suc (length (first ∷ high ∷ low ∷ rest)) in
    let digits : List ℕ = high ∷ low ∷ [] in
    either (IsFirst size) (first == 120) (option_map (λ byte. (byte, rest)) (option_and_then unless_zero (result_ok (decode_of digits)))) None
    (mapped IsByte (IsFirst size) (λ byte. (byte, rest)) (λ byte is. record { small = is.small; some = is.some; shorter = omega arith })
    (option_and_then unless_zero (result_ok (decode_of digits)))
    (bound (IsDigits digits) IsByte unless_zero (λ bytes is. one_byte bytes is.each) (result_ok (decode_of digits)) (decoded digits)))
    tt

plain_byte : (byte : ℕ) → is_plain byte ≡ true → IsByte byte
plain_byte byte e = record { small = grind (arith, nat_tests); some = grind (arith, nat_tests) }

first_is : (word : List ℕ) → IfSome (first_byte word) (IsFirst (length word))
first_is [] = tt
first_is (byte ∷ rest) =
    either (IsFirst (suc (length rest))) (byte == 92) (escape_read rest) (cond (is_plain byte) (Some (byte, rest)) None) (escape_first rest)
    (go (is_plain byte) refl) where
      go : (t : Bool) → is_plain byte ≡ t → IfSome (cond t (Some (byte, rest)) None) (IsFirst (suc (length rest)))
      go true e = let is = plain_byte byte e in record { small = is.small; some = is.some; shorter = omega arith }
      go false e = tt

pub first_shorter : (word : List ℕ) → IfSome (first_byte word) (λ cut. length cut.1 < length word)
first_shorter word = go (first_byte word) (first_is word) where
  go : (o : Option (ℕ × List ℕ)) → IfSome o (IsFirst (length word)) → IfSome o (λ cut. length cut.1 < length word)
  go None is = tt
  go (Some cut) is = is.shorter

record IsText (size : ℕ) (bytes : List ℕ) : Type 0 where
  no_zero : IsTrue (has_no_zero bytes)
  each : IsBytes bytes
  short : length bytes ≤ size

more_bytes : (byte : ℕ) (bytes : List ℕ) → byte < 256 → IsBytes bytes → IsBytes (byte ∷ bytes)
more_bytes byte bytes small each zero = small
more_bytes byte bytes small each (suc k) = each k

text_short : (most : ℕ) (word : List ℕ) → IfSome (text_within most word) (IsText (length word))
text_short most [] = record { no_zero = refl; each = λ k. omega arith; short = omega arith }
text_short zero (byte ∷ rest) = tt
text_short (suc most) (byte ∷ rest) =
    let word : List ℕ = byte ∷ rest in
    bound (IsFirst (length word)) (IsText (length word)) (λ cut. option_map (λ bytes. cut.0 ∷ bytes) (text_within most cut.1))
    (λ cut is.
    mapped (IsText (length cut.1)) (IsText (length word)) (λ bytes. cut.0 ∷ bytes)
    (λ bytes more. let short = more.short in let shorter = is.shorter in record {
      no_zero = ap (λ (t : Bool). not t && has_no_zero bytes) is.some ∙ more.no_zero;
      each = more_bytes cut.0 bytes is.small more.each;
      short = omega arith;
    }) (text_within most cut.1) (text_short most cut.1))
    (first_byte word) (first_is word)

-- Arguments.

number_said : (tag : ℕ) (value : List ℕ) → IfSome (number_read tag value) (IsSaid (2 + length value))
number_said tag value =
    let P : Argument → Type 0 = IsSaid (2 + length value) in
    let of_word : (f : ℕ → Argument) → ((n : ℕ) → IsWord (length value) 32 n → P (f n)) → IfSome (option_map f (word_read value)) P =
    λ f each. mapped (IsWord (length value) 32) P f each (word_read value) (word_small value) in
    let of_tag : (f : ℕ → Argument) → ((n : ℕ) → IsWord (length value) 64 n → P (f n)) → IfSome (option_map f (tag_read value)) P =
    λ f each. mapped (IsWord (length value) 64) P f each (tag_read value) (tag_small value) in
    either P (tag == 105) _ _ (mapped (IsRange (length value) (2 ^ 31)) P integer
    (λ n is. let some = is.some in record { fits = fits_32 n is.within; bytes = tt; short = omega arith }) (signed_read (2 ^ 31) value)
    (signed_in (2 ^ 31) value (omega arith)))
    (either P (tag == 104) _ _ (mapped (IsRange (length value) (2 ^ 63)) P long
    (λ n is. let some = is.some in record { fits = fits_64 n is.within; bytes = tt; short = omega arith }) (signed_read (2 ^ 63) value)
    (signed_in (2 ^ 63) value (omega arith)))
    (either P (tag == 102) _ _ (of_word float (λ n is. let long = is.long in record { fits = is.small; bytes = tt; short = omega arith }))
    (either P (tag == 99) _ _ (of_word character (λ n is. let long = is.long in record { fits = is.small; bytes = tt; short = omega arith }))
    (either P (tag == 114) _ _ (of_word rgba (λ n is. let long = is.long in record { fits = is.small; bytes = tt; short = omega arith }))
    (either P (tag == 109) _ _ (of_word midi (λ n is. let long = is.long in record { fits = is.small; bytes = tt; short = omega arith }))
    (either P (tag == 116) _ _ (of_tag time (λ n is. let long = is.long in record { fits = is.small; bytes = tt; short = omega arith }))
    (either P (tag == 100) _ _ (of_tag double (λ n is. let long = is.long in record { fits = is.small; bytes = tt; short = omega arith }))
    tt)))))))

value_said : (tag : ℕ) (value : List ℕ) → length value < 2 ^ 31 → IfSome (value_read tag value) (IsSaid (2 + length value))
value_said tag value few =
    let P : Argument → Type 0 = IsSaid (2 + length value) in
    let of_text : (f : List ℕ → Argument) → ((l : List ℕ) → IsText (length value) l → P (f l)) → IfSome (option_map f (text_read value)) P =
    λ f each. mapped (IsText (length value)) P f each (text_read value) (text_short (length value) value) in
    either P (tag == 98) _ _ (mapped (IsDigits value) P content
    (λ l is. let twice = is.twice in record { fits = omega arith; bytes = is.each; short = omega arith }) (result_ok (decode_of value)) (decoded value))
    (either P (tag == 115) _ _ (of_text text (λ l is. let short = is.short in record { fits = is.no_zero; bytes = is.each; short = omega arith }))
    (either P (tag == 83) _ _ (of_text symbol (λ l is. let short = is.short in record { fits = is.no_zero; bytes = is.each; short = omega arith }))
    (number_said tag value)))

bare_said : (tag : ℕ) → IfSome (bare_read tag) (IsSaid 1)
bare_said tag =
    let P : Argument → Type 0 = IsSaid 1 in
    either P (tag == 84) _ _ (record { fits = tt; bytes = tt; short = omega arith })
    (either P (tag == 70) _ _ (record { fits = tt; bytes = tt; short = omega arith })
    (either P (tag == 78) _ _ (record { fits = tt; bytes = tt; short = omega arith })
    (either P (tag == 73) _ _ (record { fits = tt; bytes = tt; short = omega arith })
    (either P (tag == 91) _ _ (record { fits = tt; bytes = tt; short = omega arith })
    (either P (tag == 93) _ _ (record { fits = tt; bytes = tt; short = omega arith }) tt)))))

argument_said : (word : List ℕ) → length word < 2 ^ 31 → IfSome (argument_read word) (IsSaid (length word))
argument_said [] few = tt
argument_said (tag ∷ []) few = bare_said tag
argument_said (tag ∷ colon ∷ value) few =
    let same : 2 + length value ≡ length (tag ∷ colon ∷ value) = omega arith in
    either (IsSaid (length (tag ∷ colon ∷ value))) (colon == 58) (value_read tag value) None
    (subst (λ (n : ℕ). IfSome (value_read tag value) (IsSaid n)) same (value_said tag value (omega arith))) tt

-- the words and the spaces before them
abbrev pub spaced_size : List (List ℕ) → ℕ
spaced_size [] = 0
spaced_size (word ∷ words) = 1 + length word + spaced_size words

pub record AreSaid (size : ℕ) (arguments : List Argument) : Type 0 where
  pub fit : AllFit arguments
  pub bytes : AllByRecursion IsOfBytes arguments
  pub short : words_size arguments ≤ size

pub arguments_said : (words : List (List ℕ)) → spaced_size words < 2 ^ 31 → IfSome (arguments_read words) (AreSaid (spaced_size words))
arguments_said [] few = record { fit = tt; bytes = tt; short = omega arith }
arguments_said (word ∷ words) few =
    let P : List Argument → Type 0 = AreSaid (spaced_size (word ∷ words)) in
    bound (IsSaid (length word)) P (λ argument. option_map (λ arguments. argument ∷ arguments) (arguments_read words))
    (λ argument one.
    mapped (AreSaid (spaced_size words)) P (λ arguments. argument ∷ arguments)
    (λ arguments more. let first = one.short in let others = more.short in record {
      fit = (one.fits, more.fit);
      bytes = (one.bytes, more.bytes);
      short = omega arith;
    }) (arguments_read words) (arguments_said words (omega arith)))
    (argument_read word) (argument_said word (omega arith))

-- a text that is read

pub record IsShortText (size : ℕ) (bytes : List ℕ) : Type 0 where
  pub no_zero : IsTrue (has_no_zero bytes)
  pub short : length bytes ≤ size

pub text_is : (word bytes : List ℕ) → Some bytes ≡ text_read word → IsShortText (length word) bytes
text_is word bytes is =
    let found : IsText (length word) bytes = subst (λ (o : Option (List ℕ)). IfSome o (IsText (length word))) (sym is) (text_short (length word) word) in
    record { no_zero = found.no_zero; short = found.short }

-- atoms are short

pub blob_few : (digits bytes : List ℕ) → decode_of digits ≡ Ok bytes → length digits ≤ 1048576 → length (blob bytes) ≤ MAX_BYTES
blob_few digits bytes is few = let parts = decode_of-ok digits bytes is in omega (arith, blob_length bytes, parts.2)
