-- The number that digits are, digit by digit.
use Rattle.std.proofs.Common.{◌≡◌, ℕ, suc, ◌+◌, ◌/◌, ◌<◌, ◌≤◌, Bool, true, false, cond, nat_le, List, [], ◌∷◌, length, drop, get_or, fold, Some, None, refl}
use Rattle.std.proofs.Common.{sym, ap, ◌∙◌, arith, drop-cons}
use Rattle.std.proofs.lemmas.Bool.Decides.{nat_tests}
use Rattle.osc_score.specs.ArgumentWords.{with_digit, number_in}

-- more digits make no less of a number
grows : (number : ℕ) (digits : List ℕ) → number ≤ fold with_digit number digits
grows number [] = omega arith
grows number (digit ∷ digits) = omega (arith, grows (with_digit number digit) digits)

digit_step : (digits : List ℕ) (k number : ℕ) → k < length digits
    → fold with_digit number (drop k digits) ≡ fold with_digit (with_digit number (get_or digits k 0)) (drop (k + 1) digits)
digit_step digits k number below =
    let next : suc k ≡ k + 1 = omega arith in
    ap (λ (l : List ℕ). fold with_digit number l) (drop-cons digits k 0 below)
    ∙ ap (λ (n : ℕ). fold with_digit (with_digit number (get_or digits k 0)) (drop n digits)) next

too_big : (number most : ℕ) → most < number → cond (nat_le number most) (Some number) None ≡ None
too_big number most is = go (nat_le number most) refl where
  go : (t : Bool) → nat_le number most ≡ t → cond t (Some number) None ≡ None
  go true e = absurd (let few : number ≤ most = grind (arith, nat_tests) in omega arith)
  go false e = refl

-- the number with one more digit is too big

over : (digits : List ℕ) (k number most : ℕ) → fold with_digit number (drop k digits) ≡ number_in digits → most < number
    → None ≡ cond (nat_le (number_in digits) most) (Some (number_in digits)) None
over digits k number most so is =
    sym (too_big (number_in digits) most (omega (arith, so, grows number (drop k digits))))

pub over_more : (digits : List ℕ) (k number next most : ℕ) → fold with_digit number (drop k digits) ≡ number_in digits → k < length digits
    → next ≡ with_digit number (get_or digits k 0) → most < next → None ≡ cond (nat_le (number_in digits) most) (Some (number_in digits)) None
over_more digits k number next most so below is big =
    over digits (k + 1) (with_digit number (get_or digits k 0)) most (sym (digit_step digits k number below) ∙ so) (omega arith)

pub over_next : (digits : List ℕ) (k number most : ℕ) → fold with_digit number (drop k digits) ≡ number_in digits → k < length digits
    → most / 10 < number → None ≡ cond (nat_le (number_in digits) most) (Some (number_in digits)) None
over_next digits k number most so below big =
    over_more digits k number (with_digit number (get_or digits k 0)) most so below refl (omega arith)
