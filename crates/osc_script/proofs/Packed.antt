-- Patterns have no zero byte, and packets are small.
use Rattle.std.proofs.Common.{◌≡◌, ◌∙◌, ℕ, ◌+◌, ◌<◌, ◌≤◌, ◌^◌, ◌%◌, ◌==◌, true, List, [], ◌∷◌, ◌++◌, length, refl, ap, ap₂, arith, codes, replicate}
use Rattle.std.proofs.Common.{length-append}
use Rattle.std.specs.Prelude.{not, ◌&&◌}
use Rattle.std.specs.Fmt.{decimal}
use Rattle.std.proofs.lemmas.Bool.Decides.{nat_tests}
use Rattle.std.proofs.lemmas.Fmt.{decimal_by_steps, length-decimal-le}
use Rattle.std.proofs.lemmas.List.{length-replicate}
use Rattle.std.proofs.lemmas.List.Folds.{list_all-append}
use Rattle.osc_atoms.specs.Atoms.{has_no_zero, string, string_end, word, tag}
use Rattle.osc_script.specs.Generated.{member_of, all_of, any_with, message, element, bundle}

digit : (d : ℕ) → not ((48 + d) == 0) ≡ true
digit d = grind (arith, nat_tests)

no_zero_append : (xs ys : List ℕ) → has_no_zero xs ≡ true → has_no_zero ys ≡ true → has_no_zero (xs ++ ys) ≡ true
no_zero_append xs ys p q = list_all-append (λ byte. not (byte == 0)) xs ys ∙ ap₂ (λ a b. a && b) p q

pub no_zero_decimal : (n : ℕ) → n < 2 ^ 64 → has_no_zero (decimal n) ≡ true
no_zero_decimal = decimal_by_steps (λ n ds. has_no_zero ds ≡ true) (λ n lt. ap (λ b. b && true) (digit n))
    (λ n ds le h. no_zero_append ds ((48 + n % 10) ∷ []) h (ap (λ b. b && true) (digit (n % 10))))

pub plain_member : (a b : ℕ) → a < 2 ^ 64 → b < 2 ^ 64 → has_no_zero (member_of a b) ≡ true
plain_member a b p q = no_zero_append (decimal a) (codes "/n" ++ decimal b) (no_zero_decimal a p) (no_zero_decimal b q)

pub plain_all : (a : ℕ) → a < 2 ^ 64 → has_no_zero (all_of a) ≡ true
plain_all a p = no_zero_append (decimal a) (codes "/*") (no_zero_decimal a p) refl

pub plain_any : (b : ℕ) → b < 2 ^ 64 → has_no_zero (any_with b) ≡ true
plain_any b q = no_zero_decimal b q

decimal_short : (n : ℕ) → n < 2 ^ 64 → length (decimal n) ≤ 20
decimal_short n lt = length-decimal-le 20 n (omega arith) (omega arith) lt

pub short_member : (a b : ℕ) → a < 2 ^ 64 → b < 2 ^ 64 → length (member_of a b) ≤ 60
short_member a b p q = omega (arith, length-append (decimal a) (codes "/n" ++ decimal b), decimal_short a p, decimal_short b q)

pub short_all : (a : ℕ) → a < 2 ^ 64 → length (all_of a) ≤ 60
short_all a p = omega (arith, length-append (decimal a) (codes "/*"), decimal_short a p)

pub short_any : (b : ℕ) → b < 2 ^ 64 → length (any_with b) ≤ 60
short_any b q = omega (arith, decimal_short b q)

string_short : (text : List ℕ) → length (string text) ≤ length text + 4
string_short text = omega (arith, length-append text (replicate (string_end (length text)) 0), length-replicate {A = ℕ} (string_end (length text)) 0)

pub small_message : (pattern : List ℕ) (value : ℕ) → length pattern ≤ 60 → length (message pattern value) ≤ 80
small_message pattern value short =
    let rest : length (string (codes ",i") ++ word value) ≡ 8 = refl in
    omega (arith, length-append (string pattern) (string (codes ",i") ++ word value), string_short pattern)

pub small_bundle : (moment : ℕ) (packet : List ℕ) → length packet ≤ 80 → length (bundle moment (element packet)) ≤ 120
small_bundle moment packet small =
    let head : length (string (codes "#bundle") ++ (tag moment ++ (word (length packet) ++ packet))) ≡ 20 + length packet =
    omega (arith, length-append (tag moment) (word (length packet) ++ packet), length-append (word (length packet)) packet) in
    omega arith

pub ruleset patterns = (plain_member, plain_all, plain_any, short_member, short_all, short_any)
