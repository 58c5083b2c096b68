-- Bytes that are shown as two digits each.
use Rattle.std.proofs.Common.{◌≡◌, ℕ, zero, suc, ◌^◌, ◌<◌, true, false, List, [], ◌∷◌, ◌++◌, Some, None, Result, Ok, Err, refl, ap, ◌∙◌}
use Rattle.std.proofs.Common.{arith}
use Rattle.std.specs.Prelude.{option_map}
use Rattle.std.specs.Int.{w32, w64, byte_at, bytes_high_first, from_be_bytes}
use Rattle.std.specs.List.{AllPass}
use Rattle.std.specs.Result.{result_ok}
use Rattle.std.proofs.lemmas.List.Elements.{All-head, All-tail}
use Rattle.std.proofs.lemmas.Nat.{from_be_bytes-to_be_bytes_4, from_be_bytes-to_be_bytes_8}
use Rattle.hex.specs.declared.error.FromHexError.{FromHexError}
use Rattle.hex.specs.Hex.{IsBytes, encode_lower, decode_of, is_hex_digit}
use Rattle.hex.proofs.HexLemmas.{decode_of-encode_lower, decode_sized-encode_lower, decode_of-ok}
use Rattle.osc_atoms.specs.Atoms.{word, tag, AreBytes}
use Rattle.osc_cues.specs.declared.fault.Fault.TheVariants.{NotBlob}
use Rattle.osc_cues.specs.Faults.{wrong_at}
use Rattle.osc_cues.specs.Numbers.{eight_read, sixteen_read}
use Rattle.osc_cues.specs.Arguments.{blob_read, value_or}

byte_first : (byte : ℕ) (bytes : List ℕ) → byte < 256 → IsBytes bytes → IsBytes (byte ∷ bytes)
byte_first byte bytes small each zero = small
byte_first byte bytes small each (suc k) = each k

byte_small : (k number : ℕ) → byte_at k number < 256
byte_small zero number = omega arith
byte_small (suc k) number = omega arith

pub bytes_small : (count number : ℕ) → IsBytes (bytes_high_first count number)
bytes_small zero number = λ k. omega arith
bytes_small (suc count) number = byte_first (byte_at count number) (bytes_high_first count number) (byte_small count number) (bytes_small count number)

pub eight_again : (number : ℕ) → number < 2 ^ 32 → eight_read (encode_lower (word number)) ≡ Some number
eight_again number small =
    ap (λ read. option_map (from_be_bytes w32) (result_ok read)) (decode_sized-encode_lower (word number) 4 refl (bytes_small 4 number))
    ∙ ap Some (from_be_bytes-to_be_bytes_4 number small)

pub sixteen_again : (number : ℕ) → number < 2 ^ 64 → sixteen_read (encode_lower (tag number)) ≡ Some number
sixteen_again number small =
    ap (λ read. option_map (from_be_bytes w64) (result_ok read)) (decode_sized-encode_lower (tag number) 8 refl (bytes_small 8 number))
    ∙ ap Some (from_be_bytes-to_be_bytes_8 number small)

pub blob_whole : (bytes : List ℕ) → AreBytes bytes → blob_read (encode_lower bytes) ≡ Ok bytes
blob_whole bytes each = ap (λ read. value_or NotBlob (result_ok read)) (decode_of-encode_lower bytes each)

-- a byte that stands among digits is one
abbrev IsDigit : ℕ → Type 0
IsDigit byte = is_hex_digit byte ≡ true

pub inside : (front rest : List ℕ) (byte : ℕ) → AllPass is_hex_digit (front ++ byte ∷ rest) → is_hex_digit byte ≡ true
inside [] rest byte all = All-head IsDigit byte rest all
inside (first ∷ front) rest byte all = inside front rest byte (All-tail IsDigit first (front ++ byte ∷ rest) all)

-- what has a byte that is no digit isn't read
pub not_decoded : (front rest : List ℕ) (byte : ℕ) → is_hex_digit byte ≡ false → result_ok (decode_of (front ++ byte ∷ rest)) ≡ None
not_decoded front rest byte isnt = go (decode_of (front ++ byte ∷ rest)) refl where
  go : (read : Result (List ℕ) FromHexError) → decode_of (front ++ byte ∷ rest) ≡ read → result_ok read ≡ None
  go (Ok bytes) is = absurd (
      let all = (decode_of-ok (front ++ byte ∷ rest) bytes is).1 in
      let one = inside front rest byte all in
      cc (one, isnt)
      )
  go (Err error) is = refl

pub blob_cut : (front rest : List ℕ) → blob_read (front ++ 46 ∷ rest) ≡ wrong_at 2 NotBlob
blob_cut front rest = ap (value_or NotBlob) (not_decoded front rest 46 refl)
