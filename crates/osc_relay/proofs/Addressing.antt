-- A message to another address.
use Rattle.std.proofs.Common.{◌≡◌, ℕ, List, ◌++◌, length, drop, refl, ◌∙◌, ap}
use Rattle.std.proofs.lemmas.List.{drop_at}
use Rattle.osc_atoms.specs.Atoms.{string}

-- what follows a pattern follows the address that takes its place
pub after_address : (bytes pattern address rest : List ℕ) → bytes ≡ string pattern ++ rest → (found : List ℕ) → found ≡ pattern
    → string address ++ drop (length (string found)) bytes ≡ string address ++ rest
after_address bytes pattern address rest parts found is =
    ap (λ (l : List ℕ). string address ++ drop (length (string l)) bytes) is
    ∙ ap (λ (l : List ℕ). string address ++ drop (length (string pattern)) l) parts
    ∙ ap (λ (l : List ℕ). string address ++ l) (drop_at (string pattern) rest (length (string pattern)) refl)
