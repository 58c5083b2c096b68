-- What the code tests, to tell that an address lies below another.
use Rattle.std.proofs.Common.{◌≡◌, ℕ, zero, suc, ◌<◌, ◌&&◌, true, false, nat_eq, nat_lt, List, [], ◌∷◌, length, take, get_or, refl, ap, ◌∙◌, arith}
use Rattle.std.specs.List.{starts_with}
use Rattle.std.proofs.lemmas.Bool.Decides.{nat_tests}
use Rattle.osc_pattern.specs.Addresses.{is_proper_prefix}
use Rattle.osc_pattern.specs.Items.{is_slash}

pub above_is : (prefix address : List ℕ)
    → is_proper_prefix prefix address
    ≡ (nat_lt (length prefix) (length address) && nat_eq (get_or address (length prefix) 0) 47 && starts_with nat_eq address prefix)
above_is [] [] = refl
above_is [] (x ∷ address) = grind (arith, nat_tests)
above_is (a ∷ prefix) [] = grind (arith, nat_tests)
above_is (a ∷ prefix) (x ∷ address) = let more = above_is prefix address in grind (arith, nat_tests)

-- what an address has before a slash is above it
pub cut_above : (address : List ℕ) (end : ℕ) → end < length address → is_slash (get_or address end 0) ≡ true
    → is_proper_prefix (take end address) address ≡ true
cut_above [] end lt e = absurd (omega arith)
cut_above (x ∷ address) zero lt e = grind (arith, nat_tests)
cut_above (x ∷ address) (suc end) lt e = let more = cut_above address end (omega arith) e in grind (arith, nat_tests)

-- what is above an address is what that has before a slash
pub above_cut : (prefix address : List ℕ) → is_proper_prefix prefix address ≡ true
    → (length prefix < length address) × (is_slash (get_or address (length prefix) 0) ≡ true) × (take (length prefix) address ≡ prefix)
above_cut [] [] e = absurd (cc)
above_cut [] (x ∷ address) e = (omega arith, grind (arith, nat_tests), refl)
above_cut (a ∷ prefix) [] e = absurd (cc)
above_cut (a ∷ prefix) (x ∷ address) e =
    let same : x ≡ a = grind (arith, nat_tests) in
    let rest : is_proper_prefix prefix address ≡ true = grind (arith, nat_tests) in
    let more = above_cut prefix address rest in
    (let lt = more.0 in omega arith, more.1, ap (λ (n : ℕ). n ∷ take (length prefix) address) same ∙ ap (λ l. a ∷ l) more.2)

-- what lies below a prefix begins with it
pub above_begins : (prefix address : List ℕ) → is_proper_prefix prefix address ≡ true → starts_with nat_eq address prefix ≡ true
above_begins [] address e = refl
above_begins (a ∷ prefix) [] e = absurd (cc)
above_begins (a ∷ prefix) (x ∷ address) e = let more = above_begins prefix address in grind (arith, nat_tests)

-- of two that are above an address one is above the other, unless they are the same
pub above_both : (a b address : List ℕ) → is_proper_prefix a address ≡ true → is_proper_prefix b address ≡ true → is_proper_prefix a b ≡ false
    → is_proper_prefix b a ≡ false → a ≡ b
above_both [] [] address e f g h = refl
above_both [] (y ∷ b) [] e f g h = absurd (cc)
above_both [] (y ∷ b) (z ∷ address) e f g h = let is : is_proper_prefix [] (y ∷ b) ≡ true = grind (arith, nat_tests) in absurd (cc)
above_both (x ∷ a) [] [] e f g h = absurd (cc)
above_both (x ∷ a) [] (z ∷ address) e f g h = let is : is_proper_prefix [] (x ∷ a) ≡ true = grind (arith, nat_tests) in absurd (cc)
above_both (x ∷ a) (y ∷ b) [] e f g h = absurd (cc)
above_both (x ∷ a) (y ∷ b) (z ∷ address) e f g h =
    let same : x ≡ y = grind (arith, nat_tests) in
    let first : is_proper_prefix a address ≡ true = grind (arith, nat_tests) in
    let second : is_proper_prefix b address ≡ true = grind (arith, nat_tests) in
    let above : is_proper_prefix a b ≡ false = grind (arith, nat_tests) in
    let below : is_proper_prefix b a ≡ false = grind (arith, nat_tests) in
    ap (λ (n : ℕ). n ∷ a) same ∙ ap (λ l. y ∷ l) (above_both a b address first second above below)
