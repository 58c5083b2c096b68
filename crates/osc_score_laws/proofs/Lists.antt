-- What holds of each of a list, and of each of its parts.
use Rattle.std.proofs.Common.{List, [], ◌∷◌, ◌++◌}
use Rattle.std.specs.List.{AllByRecursion}

module _ {X : Type 0} (P : X → Type 0) where
  pub all_on : (first more : List X) → AllByRecursion P first → AllByRecursion P more → AllByRecursion P (first ++ more)
  all_on [] more one two = two
  all_on (x ∷ first) more one two = (one.0, all_on first more one.1 two)

  pub all_front : (first more : List X) → AllByRecursion P (first ++ more) → AllByRecursion P first
  all_front [] more all = tt
  all_front (x ∷ first) more all = (all.0, all_front first more all.1)

  pub all_back : (first more : List X) → AllByRecursion P (first ++ more) → AllByRecursion P more
  all_back [] more all = all
  all_back (x ∷ first) more all = all_back first more all.1
