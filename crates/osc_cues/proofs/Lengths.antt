-- The bytes of texts and blobs are few.
use Rattle.std.proofs.Common.{◌≡◌, ℕ, ◌+◌, ◌≤◌, List, ◌++◌, length, replicate, Ok, arith, length-append}
use Rattle.std.proofs.lemmas.List.{length-replicate}
use Rattle.hex.specs.Hex.{decode_of}
use Rattle.hex.proofs.HexLemmas.{decode_of-ok}
use Rattle.osc_atoms.specs.Atoms.{string, string_end, blob, blob_end, word}

pub string_few : (bytes : List ℕ) → length (string bytes) ≤ length bytes + 4
string_few bytes = omega
    (arith, length-append bytes (replicate (string_end (length bytes)) 0), length-replicate {A = ℕ} (string_end (length bytes)) 0)

padding_few : (n : ℕ) → blob_end n ≤ 3
padding_few n = omega arith

pub blob_few : (bytes : List ℕ) → length (blob bytes) ≤ length bytes + 7
blob_few bytes =
    let zeros : List ℕ = replicate (blob_end (length bytes)) 0 in
    omega (
      arith,
      length-append (word (length bytes)) (bytes ++ zeros),
      length-append bytes zeros,
      length-replicate {A = ℕ} (blob_end (length bytes)) 0,
      padding_few (length bytes),
    )

-- a blob is shorter than its digits
pub decoded_few : (digits bytes : List ℕ) → decode_of digits ≡ Ok bytes → length bytes ≤ length digits
decoded_few digits bytes is = let parts = decode_of-ok digits bytes is in omega (arith, parts.2)
