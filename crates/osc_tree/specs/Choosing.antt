-- Patterns that are plain but for one choice of plain texts, and the addresses that these make.
use Rattle.std.specs.Prelude.{◌≡◌, ℕ, Bool, true, false, ◌||◌, List, [], ◌∷◌, ◌++◌}
use Rattle.std.specs.List.{list_any, slice_split}
use Rattle.std.specs.Str.{bytes_eq}
use Rattle.osc_pattern.specs.Items.{is_comma, is_choice_end, is_slash}
use Rattle.osc_pattern.specs.Patterns.{is_special}
use Rattle.osc_tree.specs.Walking.{is_ahead}

-- a byte that no name has
abbrev pub is_odd : ℕ → Bool
is_odd byte = is_special byte || is_slash byte

-- the address that a text makes in the place of a choice
abbrev pub spelled : List ℕ → List ℕ → List ℕ → List ℕ
spelled front back text = front ++ (text ++ back)

-- whether one of the texts makes the address
abbrev pub is_chosen : List ℕ → List ℕ → List (List ℕ) → List ℕ → Bool
is_chosen front back texts address =
    list_any (λ text. bytes_eq address (spelled front back text)) texts

-- a text with what follows it is before the next, and so on
abbrev pub IsChain : List ℕ → List ℕ → List (List ℕ) → Type 0
IsChain back text [] = Unit {0}
IsChain back text (next ∷ texts) = (is_ahead (text ++ back) next ≡ true) × IsChain back next texts

-- each text with what follows it is before the next
abbrev pub AreInOrder : List ℕ → List (List ℕ) → Type 0
AreInOrder back [] = Unit {0}
AreInOrder back (text ∷ texts) = IsChain back text texts

-- the pattern is plain but for the texts of a choice, which are plain too, and in order
pub record IsPlainChoice (pattern front texts back : List ℕ) : Type 0 where
  pub is : pattern ≡ front ++ 123 ∷ (texts ++ 125 ∷ back)
  pub before : list_any is_special front ≡ false
  pub closed : list_any is_choice_end texts ≡ false
  pub plain : list_any is_odd texts ≡ false
  pub behind : list_any is_special back ≡ false
  pub order : AreInOrder back (slice_split is_comma texts)

-- a text is a star and a tail without a special byte and a slash
pub record IsPlainStar (text tail : List ℕ) : Type 0 where
  pub is : text ≡ 42 ∷ tail
  pub even : list_any is_odd tail ≡ false
