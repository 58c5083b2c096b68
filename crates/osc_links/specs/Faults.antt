-- Which link failed, by the links before and after.
use Rattle.std.specs.Prelude.{ℕ, List, slice_get, IsSomeAnd}
use Rattle.osc_edge.specs.Faults.{Rose}

-- the count of faults rose of the link in this place
abbrev pub HasLinkRisen : {L : Type 0} → (L → ℕ) → ℕ → List L → List L → Type 0
HasLinkRisen faults link links links_after =
    IsSomeAnd (slice_get links link) (λ before. IsSomeAnd (slice_get links_after link)
    (λ after. Rose (faults before) (faults after)))
