-- What the code tests, to tell that an address lies under another.
use Rattle.std.proofs.Common.{◌≡◌, ℕ, ◌&&◌, nat_eq, nat_lt, List, [], ◌∷◌, length, get_or, refl, arith}
use Rattle.std.specs.List.{starts_with}
use Rattle.std.proofs.lemmas.Bool.Decides.{nat_tests}
use Rattle.osc_pattern.specs.Addresses.{is_proper_prefix}

pub above_is : (prefix address : List ℕ)
    → is_proper_prefix prefix address
    ≡ (nat_lt (length prefix) (length address) && nat_eq (get_or address (length prefix) 0) 47 && starts_with nat_eq address prefix)
above_is [] [] = refl
above_is [] (x ∷ address) = grind (arith, nat_tests)
above_is (a ∷ prefix) [] = grind (arith, nat_tests)
above_is (a ∷ prefix) (x ∷ address) = let more = above_is prefix address in grind (arith, nat_tests)
