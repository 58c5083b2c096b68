-- What stands at a place of given bytes: an atom, or the first fault of one.
use Rattle.std.specs.Prelude.{◌≡◌, ◌≢◌, ◌⊎◌, ℕ, ◌+◌, ◌<◌, ◌≤◌, ◌^◌, IsTrue, List, ◌∷◌, ◌++◌, length}
use Rattle.std.specs.Prelude.{drop, replicate}
use Rattle.osc_atoms.specs.declared.fault.Fault.{Fault}
use Rattle.osc_atoms.specs.Atoms.{word, tag, string, string_end, has_no_zero, blob, blob_end}
use Rattle.osc_atoms.specs.Faults.{unterminated, padding, blob_size, short}

-- the bytes from a place on are an atom's, and then any others
pub record StartsWith (bytes : List ℕ) (at : ℕ) (atom : List ℕ) : Type 0 where
  pub rest : List ℕ
  pub parts : drop at bytes ≡ atom ++ rest

-- a word stands at the place
pub record StartsWithWord (bytes : List ℕ) (at number : ℕ) : Type 0 where
  pub fits : number < 2 ^ 32
  pub written : StartsWith bytes at (word number)

-- a tag stands at the place
pub record StartsWithTag (bytes : List ℕ) (at number : ℕ) : Type 0 where
  pub fits : number < 2 ^ 64
  pub written : StartsWith bytes at (tag number)

-- the string of a text stands at the place
pub record StartsWithString (bytes : List ℕ) (at : ℕ) (text : List ℕ) : Type 0 where
  pub no_zero : IsTrue (has_no_zero text)
  pub written : StartsWith bytes at (string text)

-- the blob of a content stands at the place; its count is an int32
pub record StartsWithBlob (bytes : List ℕ) (at : ℕ) (content : List ℕ) : Type 0 where
  pub fits : length content < 2 ^ 31
  pub written : StartsWith bytes at (blob content)

-- fewer bytes are left than a number of this size has
pub record NamesShort (size : ℕ) (bytes : List ℕ) (at : ℕ) (fault : Fault) : Type 0 where
  pub few : length (drop at bytes) < size
  pub named : fault ≡ short at

-- no byte is left that could end a string
pub record NamesUnterminated (bytes : List ℕ) (at : ℕ) (fault : Fault) : Type 0 where
  pub no_zero : IsTrue (has_no_zero (drop at bytes))
  pub named : fault ≡ unterminated at

-- a text, at least one zero byte and fewer than end it, and a byte that isn't zero
pub record NamesStringPadding (bytes : List ℕ) (at : ℕ) (fault : Fault) : Type 0 where
  pub text : List ℕ
  pub zeros : ℕ
  pub byte : ℕ
  pub rest : List ℕ
  pub no_zero : IsTrue (has_no_zero text)
  pub ended : 0 < zeros
  pub within : zeros < string_end (length text)
  pub other : byte ≢ 0
  pub parts : drop at bytes ≡ text ++ (replicate zeros 0 ++ byte ∷ rest)
  pub named : fault ≡ padding (at + length text + zeros)

-- the first fault of a string at the place
abbrev pub NamesStringFault : List ℕ → ℕ → Fault → Type 0
NamesStringFault bytes at fault = NamesUnterminated bytes at fault
    ⊎ NamesStringPadding bytes at fault

-- a count that is negative as an int32, or whose bytes and padding are more than what is left after
-- it
pub record NamesBlobSize (bytes : List ℕ) (at : ℕ) (fault : Fault) : Type 0 where
  pub count : ℕ
  pub rest : List ℕ
  pub fits : count < 2 ^ 32
  pub parts : drop at bytes ≡ word count ++ rest
  pub beyond : (2 ^ 31 ≤ count) ⊎ (length rest < count + blob_end count)
  pub named : fault ≡ blob_size at

-- a count whose bytes and padding are left, the bytes, fewer zero bytes than pad them, and a byte
-- that isn't zero
pub record NamesBlobPadding (bytes : List ℕ) (at : ℕ) (fault : Fault) : Type 0 where
  pub content : List ℕ
  pub zeros : ℕ
  pub byte : ℕ
  pub rest : List ℕ
  pub fits : length content < 2 ^ 31
  pub within : zeros < blob_end (length content)
  pub other : byte ≢ 0
  pub parts : drop at bytes ≡ word (length content)
      ++ (content ++ (replicate zeros 0 ++ byte ∷ rest))
  pub named : fault ≡ padding (at + 4 + length content + zeros)

-- the first fault of a blob at the place
abbrev pub NamesBlobFault : List ℕ → ℕ → Fault → Type 0
NamesBlobFault bytes at fault = NamesShort 4 bytes at fault ⊎ NamesBlobSize bytes at fault
    ⊎ NamesBlobPadding bytes at fault
