-- Bytes as they are shown.
use Rattle.std.proofs.Common.{◌≡◌, ℕ, Bool, List, sym, ap, ◌∙◌, inl, inr}
use Rattle.std.proofs.lemmas.Bool.{cases_Bool}
use Rattle.std.proofs.lemmas.Str.{IsUtf8-from_is_utf8, is_utf8-from_IsUtf8}
use Rattle.std.specs.Prelude.{if◌then◌else◌, IsUtf8, codes}
use Rattle.std.specs.Str.{is_utf8}
use Rattle.osc_page.specs.States.{told}

-- a text is shown as it is
pub as_text : (bytes text : List ℕ) → text ≡ bytes → IsUtf8 bytes → text ≡ told bytes
as_text bytes text same is =
    same ∙ sym (ap (λ (b : Bool). if b then bytes else codes "?") (is_utf8-from_IsUtf8 bytes is))

-- any other bytes aren't
pub as_mark : (bytes : List ℕ) → (IsUtf8 bytes → ⊥) → codes "?" ≡ told bytes
as_mark bytes isnt = elim (cases_Bool (is_utf8 bytes)) [
  | inl is ↦ absurd (isnt (IsUtf8-from_is_utf8 bytes is))
  | inr is ↦ sym (ap (λ (b : Bool). if b then bytes else codes "?") is)
]
