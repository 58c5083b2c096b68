-- Type tags.
use Rattle.std.specs.Prelude.{◌≡◌, ℕ, ◌≤◌, Bool, not, ◌||◌, ◌==◌, List, ◌++◌, count_by}

-- i f c r m: four bytes
abbrev pub is_word_tag : ℕ → Bool
is_word_tag tag = tag == 105 || tag == 102 || tag == 99 || tag == 114 || tag == 109

-- h t d: eight bytes
abbrev pub is_long_tag : ℕ → Bool
is_long_tag tag = tag == 104 || tag == 116 || tag == 100

-- s S: a string
abbrev pub is_text_tag : ℕ → Bool
is_text_tag tag = tag == 115 || tag == 83

-- b: a blob
abbrev pub is_blob_tag : ℕ → Bool
is_blob_tag tag = tag == 98

-- T F N I and the array brackets: no bytes
abbrev pub is_bare_tag : ℕ → Bool
is_bare_tag tag = tag == 84 || tag == 70 || tag == 78 || tag == 73 || tag == 91 || tag == 93

-- any other byte
abbrev pub is_unknown : ℕ → Bool
is_unknown tag =
    not (is_word_tag tag || is_long_tag tag || is_text_tag tag || is_blob_tag tag
    || is_bare_tag tag)

-- how many array brackets are opened
abbrev pub opens : List ℕ → ℕ
opens tags = count_by (λ tag. tag == 91) tags

-- how many are closed
abbrev pub closes : List ℕ → ℕ
closes tags = count_by (λ tag. tag == 93) tags

-- each prefix has at least as many `[` as `]`
abbrev pub ClosesOpenOnes : List ℕ → Type 0
ClosesOpenOnes tags = (front back : List ℕ) → tags ≡ front ++ back → closes front ≤ opens front

-- and the whole has as many
pub record Balanced (tags : List ℕ) : Type 0 where
  pub nested : ClosesOpenOnes tags
  pub even : closes tags ≡ opens tags
