-- What the modes Lanes and Serve read.
use Rattle.std.proofs.Common.{◌≡◌, ℕ, zero, suc, ◌+◌, ◌-◌, ◌*◌, ◌<◌, ◌≤◌, Bool, true, false, cond, eqb, nat_lt, List, [], ◌∷◌, length, Option, Some, None}
use Rattle.std.proofs.Common.{ok_or, Result, Err, codes, refl, sym, ap, subst, ◌∙◌, arith}
use Rattle.std.specs.Str.{bytes_eq}
use Rattle.std.specs.Char.{is_ascii_digit}
use Rattle.std.specs.Fmt.{decimal, digits}
use Rattle.std.proofs.lemmas.Fmt.{decimal_digit}
use Rattle.std.proofs.lemmas.Bool.{ltb-true}
use Rattle.std.proofs.lemmas.Bool.Decides.{nat_tests}
use Rattle.osc_script.specs.declared.act.Act.{Act}
use Rattle.osc_script.specs.declared.fault.ScriptFaultKind.{ScriptFaultKind}
use Rattle.osc_script.specs.declared.fault.ScriptFaultKind.TheVariants as kinds
use Rattle.osc_script.specs.declared.mode.Mode.TheVariants.{Lanes}
use Rattle.osc_script.specs.Lanes.{digit_of, two_digits, number_of, within_lanes, lane_of}
use Rattle.osc_script.specs.Acts.{and_then, act_of, is_known, has_count, served_of}
use Rattle.osc_script.specs.Scripts.{on_lane, in_lane, said_of}
use Rattle.osc_script.proofs.Operands.{unknown_word, wrong_count}

pub no_lane : (word : List ℕ) (words : List (List ℕ)) → lane_of word ≡ None → said_of Lanes word words ≡ Err kinds.Lane
no_lane word words none = ap (λ read. and_then (ok_or read kinds.Lane) (λ lane. in_lane lane words)) none

pub bare_lane : (word : List ℕ) (lane : ℕ) → lane_of word ≡ Some lane → said_of Lanes word [] ≡ Err kinds.Count
bare_lane word lane is = ap (λ read. and_then (ok_or read kinds.Lane) (λ lane. in_lane lane [])) is

pub after_lane : (word next : List ℕ) (words : List (List ℕ)) (lane : ℕ) → lane_of word ≡ Some lane
    → said_of Lanes word (next ∷ words) ≡ on_lane lane (act_of next words)
after_lane word next words lane is = ap (λ read. and_then (ok_or read kinds.Lane) (λ lane. in_lane lane (next ∷ words))) is

pub lane_again : (lane : ℕ) → lane < 16 → lane_of (decimal lane) ≡ Some lane
unfolding digits
lane_again zero small = refl
lane_again (suc zero) small = refl
lane_again (suc (suc zero)) small = refl
lane_again (suc (suc (suc zero))) small = refl
lane_again (suc (suc (suc (suc zero)))) small = refl
lane_again (suc (suc (suc (suc (suc zero))))) small = refl
lane_again (suc (suc (suc (suc (suc (suc zero)))))) small = refl
lane_again (suc (suc (suc (suc (suc (suc (suc zero))))))) small = refl
lane_again (suc (suc (suc (suc (suc (suc (suc (suc zero)))))))) small = refl
lane_again (suc (suc (suc (suc (suc (suc (suc (suc (suc zero))))))))) small = refl
lane_again (suc (suc (suc (suc (suc (suc (suc (suc (suc (suc zero)))))))))) small = refl
lane_again (suc (suc (suc (suc (suc (suc (suc (suc (suc (suc (suc zero))))))))))) small = refl
lane_again (suc (suc (suc (suc (suc (suc (suc (suc (suc (suc (suc (suc zero)))))))))))) small = refl
lane_again (suc (suc (suc (suc (suc (suc (suc (suc (suc (suc (suc (suc (suc zero))))))))))))) small = refl
lane_again (suc (suc (suc (suc (suc (suc (suc (suc (suc (suc (suc (suc (suc (suc zero)))))))))))))) small = refl
lane_again (suc (suc (suc (suc (suc (suc (suc (suc (suc (suc (suc (suc (suc (suc (suc zero))))))))))))))) small = refl
lane_again (suc (suc (suc (suc (suc (suc (suc (suc (suc (suc (suc (suc (suc (suc (suc (suc more)))))))))))))))) small = absurd (omega (arith, small))

-- a digit's byte
digit_is : (byte digit : ℕ) → digit_of byte ≡ Some digit → (digit < 10) × (byte ≡ 48 + digit)
digit_is byte digit is = go (is_ascii_digit byte) refl is where
  go : (t : Bool) → is_ascii_digit byte ≡ t → cond t (Some (byte - 48)) None ≡ Some digit → (digit < 10) × (byte ≡ 48 + digit)
  go true passes so =
      let same : byte - 48 ≡ digit = cc in
      let low : 48 ≤ byte = grind (arith, nat_tests) in
      let high : byte ≤ 57 = grind (arith, nat_tests) in
      (omega (arith, same, low, high), omega (arith, same, low, high))
  go false fails so = absurd (cc)

within_is : (number : Option ℕ) (lane : ℕ) → within_lanes number ≡ Some lane → (lane < 16) × (number ≡ Some lane)
within_is None lane is = absurd (cc)
within_is (Some number) lane is = go (nat_lt number 16) refl is where
  go : (t : Bool) → nat_lt number 16 ≡ t → cond t (Some number) None ≡ Some lane → (lane < 16) × (Some number ≡ Some lane)
  go true small so = let same : number ≡ lane = cc in (subst (λ n. n < 16) same (ltb-true number 16 small), so)
  go false small so = absurd (cc)

teen : (k : ℕ) → k < 6 → decimal (10 + k) ≡ 49 ∷ (48 + k) ∷ []
unfolding digits
teen zero small = refl
teen (suc zero) small = refl
teen (suc (suc zero)) small = refl
teen (suc (suc (suc zero))) small = refl
teen (suc (suc (suc (suc zero)))) small = refl
teen (suc (suc (suc (suc (suc zero))))) small = refl
teen (suc (suc (suc (suc (suc (suc more)))))) small = absurd (omega (arith, small))

two_are : (tens ones : Option ℕ) (lane : ℕ) → two_digits tens ones ≡ Some lane
    → (t : ℕ) × (o : ℕ) × (tens ≡ Some t) × (ones ≡ Some o) × (10 * t + o ≡ lane)
two_are None ones lane is = absurd (cc)
two_are (Some tens) None lane is = absurd (cc)
two_are (Some tens) (Some ones) lane is = (tens, ones, refl, refl, cc)

two_written : (tens ones lane : ℕ) → eqb tens 48 ≡ false → two_digits (digit_of tens) (digit_of ones) ≡ Some lane → lane < 16
    → tens ∷ ones ∷ [] ≡ decimal lane
two_written tens ones lane some is small =
    let two = two_are (digit_of tens) (digit_of ones) lane is in
    let first = digit_is tens two.0 two.2 in
    let second = digit_is ones two.1 two.3 in
    go two.0 two.1 first.1 second.1 two.4 where
      go : (t o : ℕ) → tens ≡ 48 + t → ones ≡ 48 + o → 10 * t + o ≡ lane → tens ∷ ones ∷ [] ≡ decimal lane
      go zero o first second sum = let bad : true ≡ false = subst (λ n. eqb n 48 ≡ false) first some in absurd (cc)
      go (suc zero) o first second sum =
          ap (λ byte. byte ∷ ones ∷ []) first ∙ ap (λ byte. 49 ∷ byte ∷ []) second ∙ sym (teen o (omega (arith, sum, small))) ∙ ap decimal sum
      go (suc (suc t)) o first second sum = absurd (omega (arith, sum, small))

number_written : (word : List ℕ) (lane : ℕ) → number_of word ≡ Some lane → lane < 16 → word ≡ decimal lane
number_written [] lane is small = absurd (cc)
number_written (ones ∷ []) lane is small =
    let digit = digit_is ones lane is in
    ap (λ byte. byte ∷ []) digit.1 ∙ sym (decimal_digit lane digit.0)
number_written (tens ∷ ones ∷ []) lane is small = go (eqb tens 48) refl is where
  go : (t : Bool) → eqb tens 48 ≡ t → cond t None (two_digits (digit_of tens) (digit_of ones)) ≡ Some lane → tens ∷ ones ∷ [] ≡ decimal lane
  go true none so = absurd (cc)
  go false some so = two_written tens ones lane some so small
number_written (first ∷ second ∷ third ∷ more) lane is small = absurd (cc)

pub lane_written : (word : List ℕ) (lane : ℕ) → lane_of word ≡ Some lane → (lane < 16) × (word ≡ decimal lane)
lane_written word lane is =
    let within = within_is (number_of word) lane is in
    (within.0, number_written word lane within.1 within.0)

pub add_served : (word : List ℕ) (operands : List (List ℕ)) → bytes_eq word (codes "add") ≡ true → served_of word operands ≡ act_of word operands
unfolding served_of
add_served word operands is = rw is refl

-- the mode's rule, by its three tests
abbrev served : (adds known counted : Bool) → List ℕ → List (List ℕ) → Result Act ScriptFaultKind
served adds known counted word operands =
    cond adds (act_of word operands) (cond known (cond {A = Result Act ScriptFaultKind} counted (Err kinds.NotHere) (Err kinds.Count)) (Err kinds.Word))

pub unknown_served : (word : List ℕ) (operands : List (List ℕ)) → is_known word ≡ false → served_of word operands ≡ Err kinds.Word
unfolding served_of
unknown_served word operands unknown = go (bytes_eq word (codes "add")) where
  go : (adds : Bool) → served adds (is_known word) (has_count word (length operands)) word operands ≡ Err kinds.Word
  go true = unknown_word word operands unknown
  go false = ap (λ known. served false known (has_count word (length operands)) word operands) unknown

pub miscounted_served : (word : List ℕ) (operands : List (List ℕ)) → is_known word ≡ true → has_count word (length operands) ≡ false
    → served_of word operands ≡ Err kinds.Count
unfolding served_of
miscounted_served word operands known many = go (bytes_eq word (codes "add")) where
  go : (adds : Bool) → served adds (is_known word) (has_count word (length operands)) word operands ≡ Err kinds.Count
  go true = wrong_count word operands known many
  go false =
      ap (λ known. served false known (has_count word (length operands)) word operands) known
      ∙ ap (λ counted. served false true counted word operands) many

pub other_served : (word : List ℕ) (operands : List (List ℕ)) → is_known word ≡ true → has_count word (length operands) ≡ true
    → bytes_eq word (codes "add") ≡ false → served_of word operands ≡ Err kinds.NotHere
unfolding served_of
other_served word operands known many other =
    ap (λ adds. served adds (is_known word) (has_count word (length operands)) word operands) other
    ∙ ap (λ known. served false known (has_count word (length operands)) word operands) known
    ∙ ap (λ counted. served false true counted word operands) many
