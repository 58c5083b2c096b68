-- Turns of a link in memory.
use Rattle.std.proofs.Common.{sym, ◌∙◌}
use Rattle.std.specs.Prelude.{◌≡◌, ℕ, ◌≤◌, true, ltb, List, length, get_or, All, Option, Some}
use Rattle.std.proofs.lemmas.Bool.{ltb-true}
use Rattle.std.proofs.lemmas.List.Elements.{All-get_or}
use Rattle.osc_edge.specs.declared.limits.TheConstants.{MAX_DATAGRAM}
use Rattle.osc_edge.specs.Link.{IsShortTurn}

-- a datagram among short turns is short
pub short_at : (turns : List (Option (List ℕ))) (at : ℕ) (turn : Option (List ℕ)) (datagram : List ℕ) → All IsShortTurn turns
    → true ≡ ltb at (length turns) → turn ≡ get_or turns at turn → turn ≡ Some datagram → length datagram ≤ MAX_DATAGRAM
short_at turns at turn datagram short within found is =
    All-get_or IsShortTurn turns at turn (ltb-true _ _ (sym within)) short datagram (sym found ∙ is)
