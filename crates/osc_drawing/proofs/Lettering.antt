-- Bytes that are no text.
use Rattle.std.proofs.Common.{◌≡◌, ℕ, false, List, inl, inr}
use Rattle.std.proofs.lemmas.Bool.{cases_Bool}
use Rattle.std.proofs.lemmas.Str.{IsUtf8-from_is_utf8}
use Rattle.std.specs.Prelude.{IsUtf8}
use Rattle.std.specs.Str.{is_utf8}

pub is_none : (bytes : List ℕ) → (IsUtf8 bytes → ⊥) → is_utf8 bytes ≡ false
is_none bytes isnt = elim (cases_Bool (is_utf8 bytes)) [
  | inl is ↦ absurd (isnt (IsUtf8-from_is_utf8 bytes is))
  | inr is ↦ is
]
