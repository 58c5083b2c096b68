-- The runs, with one more note.
use Rattle.std.proofs.Common.{◌≡◌, ℕ, ◌≤◌, ◌==◌, Bool, true, false, cond, List, [], ◌∷◌, ◌++◌, fold, refl, sym, ap, ◌∙◌, subst, arith}
use Rattle.std.specs.List.{AllByRecursion}
use Rattle.std.proofs.lemmas.Bool.Decides.{nat_tests}
use Rattle.osc_score.specs.Scores.{Note, Group, alone, joined, groups_of, IsNote, IsOrdered, IsShort}
use Rattle.osc_score.specs.Reading.{run_with, extended}

same : (m n : ℕ) → (m == n) ≡ true → m ≡ n
same m n e = grind (arith, nat_tests)

-- a note before, and one after, in either order
both_ways : (first : Note) (groups : List Group) (note : Note) → joined first (extended groups note) ≡ extended (joined first groups) note
both_ways first [] note = go (first.tag == note.tag) refl where
  go : (t : Bool) → (first.tag == note.tag) ≡ t
      → cond t (record { tag = note.tag; notes = first ∷ note ∷ [] } ∷ []) (alone first ∷ alone note ∷ [])
      ≡ cond t (record { tag = first.tag; notes = first ∷ note ∷ [] } ∷ []) (alone first ∷ alone note ∷ [])
  go true e = ap (λ (n : ℕ). let g : Group = record { tag = n; notes = first ∷ note ∷ [] } in g ∷ []) (sym (same first.tag note.tag e))
  go false e = refl
both_ways first (group ∷ []) note = go (group.tag == note.tag) refl (first.tag == group.tag) refl where
  go : (t : Bool) → (group.tag == note.tag) ≡ t → (u : Bool) → (first.tag == group.tag) ≡ u
      → joined first (cond t (record { tag = group.tag; notes = group.notes ++ note ∷ [] } ∷ []) (group ∷ alone note ∷ []))
      ≡ extended (cond u (record { tag = group.tag; notes = first ∷ group.notes } ∷ []) (alone first ∷ group ∷ [])) note
  go true e true f =
      ap (λ (u : Bool). cond u (record { tag = group.tag; notes = first ∷ (group.notes ++ note ∷ []) } ∷ [])
      (alone first ∷ record { tag = group.tag; notes = group.notes ++ note ∷ [] } ∷ [])) f
      ∙ ap (λ (t : Bool). cond t (record { tag = group.tag; notes = first ∷ (group.notes ++ note ∷ []) } ∷ [])
      (record { tag = group.tag; notes = first ∷ group.notes } ∷ alone note ∷ [])) (sym e)
  go true e false f =
      ap (λ (u : Bool). cond u (record { tag = group.tag; notes = first ∷ (group.notes ++ note ∷ []) } ∷ [])
      (alone first ∷ record { tag = group.tag; notes = group.notes ++ note ∷ [] } ∷ [])) f
      ∙ ap (λ (t : Bool). alone first ∷ cond t (record { tag = group.tag; notes = group.notes ++ note ∷ [] } ∷ []) (group ∷ alone note ∷ [])) (sym e)
  go false e true f =
      ap (λ (u : Bool). cond u (record { tag = group.tag; notes = first ∷ group.notes } ∷ alone note ∷ []) (alone first ∷ group ∷ alone note ∷ [])) f
      ∙ ap (λ (t : Bool). cond t (record { tag = group.tag; notes = first ∷ (group.notes ++ note ∷ []) } ∷ [])
      (record { tag = group.tag; notes = first ∷ group.notes } ∷ alone note ∷ [])) (sym e)
  go false e false f =
      ap (λ (u : Bool). cond u (record { tag = group.tag; notes = first ∷ group.notes } ∷ alone note ∷ []) (alone first ∷ group ∷ alone note ∷ [])) f
      ∙ ap (λ (t : Bool). alone first ∷ cond t (record { tag = group.tag; notes = group.notes ++ note ∷ [] } ∷ []) (group ∷ alone note ∷ [])) (sym e)
both_ways first (group ∷ next ∷ groups) note = go (first.tag == group.tag) where
  go : (u : Bool)
      → cond u (record { tag = group.tag; notes = first ∷ group.notes } ∷ extended (next ∷ groups) note) (alone first ∷ group ∷ extended (next ∷ groups) note)
      ≡ extended (cond u (record { tag = group.tag; notes = first ∷ group.notes } ∷ next ∷ groups) (alone first ∷ group ∷ next ∷ groups)) note
  go true = refl
  go false = refl

pub groups_on : (notes : List Note) (note : Note) → groups_of (notes ++ note ∷ []) ≡ extended (groups_of notes) note
groups_on [] note = refl
groups_on (first ∷ notes) note = ap (joined first) (groups_on notes note) ∙ both_ways first (groups_of notes) note

extended_short : (groups : List Group) (note : Note) → AllByRecursion IsShort groups → IsShort (run_with groups note)
    → AllByRecursion IsShort (extended groups note)
extended_short [] note all one = (one, tt)
extended_short (group ∷ []) note all one = go (group.tag == note.tag) one where
  go : (t : Bool) → IsShort (cond t (record { tag = group.tag; notes = group.notes ++ note ∷ [] }) (alone note))
      → AllByRecursion IsShort (cond t (record { tag = group.tag; notes = group.notes ++ note ∷ [] } ∷ []) (group ∷ alone note ∷ []))
  go true short = (short, tt)
  go false short = (all.0, (short, tt))
extended_short (group ∷ next ∷ groups) note all one = (all.0, extended_short (next ∷ groups) note all.1 one)

pub short_on : (notes : List Note) (note : Note) → AllByRecursion IsShort (groups_of notes) → IsShort (run_with (groups_of notes) note)
    → AllByRecursion IsShort (groups_of (notes ++ note ∷ []))
short_on notes note all one = subst (AllByRecursion IsShort) (sym (groups_on notes note)) (extended_short (groups_of notes) note all one)

-- One more note after others.

pub ordered_on : (least : ℕ) (notes : List Note) (note : Note) → IsOrdered least notes → fold (λ (last : ℕ) (other : Note). other.tag) least notes ≤ note.tag
    → IsOrdered least (notes ++ note ∷ [])
ordered_on least [] note ordered later = (later, tt)
ordered_on least (first ∷ notes) note ordered later = (ordered.0, ordered_on first.tag notes note ordered.1 later)

pub lawful_on : (notes : List Note) (note : Note) → AllByRecursion IsNote notes → IsNote note → AllByRecursion IsNote (notes ++ note ∷ [])
lawful_on [] note all one = (one, tt)
lawful_on (first ∷ notes) note all one = (all.0, lawful_on notes note all.1 one)
