-- Words of plain bytes: none is a blank, ends a line or begins a comment.
use Rattle.std.proofs.Common.{◌≡◌, ℕ, zero, suc, ◌-◌, ◌<◌, ◌==◌, ◌^◌, Bool, true, false, cond, nat_lt, nat_eq, nat_le, not, ◌&&◌, ◌||◌, List, [], ◌∷◌, length}
use Rattle.std.proofs.Common.{take, drop, Some, refl, ap, ap₂, arith}
use Rattle.std.proofs.Common.{slice_index_or, codes, decimal, find, is_none}
use Rattle.std.specs.List.{All, list_all, list_any, slice_split, onto_first}
use Rattle.std.specs.Char.{is_ascii_digit}
use Rattle.std.specs.Cmp.Lexicographic.{pointwise}
use Rattle.std.proofs.lemmas.Bool.{and_parts, not-true, or_parts}
use Rattle.std.proofs.lemmas.Bool.Decides.{nat_tests}
use Rattle.std.proofs.lemmas.List.Sums.{AllPass-from_list_all}
use Rattle.std.proofs.lemmas.Fmt.{digits_decimal, decimal_nonempty}
use Rattle.osc_pattern.specs.Addresses.{is_address, is_bad_byte, breaks, address_rules}
use Rattle.osc_pattern.specs.declared.faults.AddressFault.{AddressFault}
use Rattle.osc_pattern.specs.declared.faults.AddressFault.TheVariants.{NoSlash, EmptyName, BadByte}
use Rattle.osc_pattern.specs.Items.{is_slash}
use Rattle.osc_patch.specs.Words.{is_blank, is_line_feed, is_word, is_said, without_return}
use Rattle.osc_patch.specs.Hosts.{is_numeric, is_dot, is_dotted, is_name, is_name_byte, is_host}
use Rattle.osc_patch.proofs.Ports.{digits}

-- a byte above the space, and no `#`
abbrev pub is_plain : ℕ → Bool
is_plain byte = nat_lt 32 byte && not (byte == 35)

-- a byte that ends no line
abbrev pub is_inside : ℕ → Bool
is_inside byte = not (byte == 10) && not (byte == 13)

all_more : (p q : ℕ → Bool) → ((b : ℕ) → p b ≡ true → q b ≡ true) → (xs : List ℕ) → list_all p xs ≡ true → list_all q xs ≡ true
all_more p q more [] all = refl
all_more p q more (x ∷ xs) all = let parts = and_parts (p x) (list_all p xs) all in ap₂ (λ a b. a && b) (more x parts.0) (all_more p q more xs parts.1)

inside : (b : ℕ) → is_plain b ≡ true → is_inside b ≡ true
inside b plain = grind (arith, nat_tests)

pub all_inside : (xs : List ℕ) → list_all is_plain xs ≡ true → list_all is_inside xs ≡ true
all_inside = all_more is_plain is_inside inside

no_blank : (b : ℕ) → is_plain b ≡ true → is_blank b ≡ false
no_blank b plain = grind (arith, nat_tests)

no_feed : (b : ℕ) → is_inside b ≡ true → is_line_feed b ≡ false
no_feed b is = grind (arith, nat_tests)

pub no_blanks : (xs : List ℕ) → list_all is_plain xs ≡ true → All (λ b. is_blank b ≡ false) xs
no_blanks xs all = λ k d lt. no_blank (slice_index_or xs k d) (AllPass-from_list_all is_plain xs all k d lt)

pub no_feeds : (xs : List ℕ) → list_all is_inside xs ≡ true → All (λ b. is_line_feed b ≡ false) xs
no_feeds xs all = λ k d lt. no_feed (slice_index_or xs k d) (AllPass-from_list_all is_inside xs all k d lt)

all_drop : (p : ℕ → Bool) (n : ℕ) (xs : List ℕ) → list_all p xs ≡ true → list_all p (drop n xs) ≡ true
all_drop p zero xs all = all
all_drop p (suc n) [] all = refl
all_drop p (suc n) (x ∷ xs) all = all_drop p n xs (and_parts (p x) (list_all p xs) all).1

no_return : (ys : List ℕ) → list_all is_inside ys ≡ true → pointwise nat_eq (13 ∷ []) ys ≡ false
no_return [] all = refl
no_return (y ∷ ys) all =
    let other : nat_eq 13 y ≡ false = differs y (and_parts (is_inside y) (list_all is_inside ys) all).0 in
    ap (λ b. b && pointwise nat_eq [] ys) other
  where
    differs : (y : ℕ) → is_inside y ≡ true → nat_eq 13 y ≡ false
    differs y is = grind (arith, nat_tests)

pub kept_whole : (line : List ℕ) → list_all is_inside line ≡ true → without_return line ≡ line
kept_whole line all =
    ap (λ b. cond b (take (length line - 1) line) line) (no_return (drop (length line - 1) line) (all_drop is_inside (length line - 1) line all))

-- a word of plain bytes
pub record IsToken (word : List ℕ) : Type 0 where
  pub plain : list_all is_plain word ≡ true
  pub some : is_word word ≡ true
  pub said : is_said word ≡ true

pub token : (word : List ℕ) → list_all is_plain word ≡ true → 0 < length word → IsToken word
token [] all some = absurd (omega arith)
token (first ∷ word) all some = record {
  plain = all;
  some = refl_if (length word);
  said = ap (λ b. not (b && true)) (other first (and_parts (is_plain first) (list_all is_plain word) all).0);
} where
  refl_if : (n : ℕ) → not (suc n == 0) ≡ true
  refl_if n = grind (arith, nat_tests)

  other : (b : ℕ) → is_plain b ≡ true → nat_eq 35 b ≡ false
  other b is = grind (arith, nat_tests)

-- numbers
digit : (b : ℕ) → is_ascii_digit b ≡ true → is_plain b ≡ true
digit b is = grind (arith, nat_tests)

pub number_token : (n : ℕ) → n < 65536 → IsToken (decimal n)
number_token n low =
    let small : n < 2 ^ 64 = omega arith in
    token (decimal n) (all_more is_ascii_digit is_plain digit (decimal n) (digits_decimal digits n small)) (decimal_nonempty n small)

-- hosts
name_byte : (b : ℕ) → is_name_byte b ≡ true → is_plain b ≡ true
name_byte b is = grind (arith, nat_tests)

numeric_byte : (b : ℕ) → (is_ascii_digit b || is_dot b) ≡ true → is_plain b ≡ true
numeric_byte b is = grind (arith, nat_tests)

host_plain : (word : List ℕ) → is_host word ≡ true → list_all is_plain word ≡ true
host_plain word is = go (is_numeric word) refl is where
  go : (t : Bool) → is_numeric word ≡ t → cond t (is_dotted word) (is_name word) ≡ true → list_all is_plain word ≡ true
  go true numeric dotted = all_more (λ byte. is_ascii_digit byte || is_dot byte) is_plain numeric_byte word numeric
  go false numeric name = all_more is_name_byte is_plain name_byte word (and_parts (nat_le (length word) 253) (list_all is_name_byte word) name).1

pub host_token : (word : List ℕ) → is_host word ≡ true → IsToken word
host_token [] is = absurd (cc)
host_token (first ∷ word) is = token (first ∷ word) (host_plain (first ∷ word) is) (omega arith)

-- addresses
good : (b : ℕ) → is_bad_byte b ≡ false → is_plain b ≡ true
good b is =
    let parts = or_parts (not (nat_le 33 b && nat_le b 126)) (list_any (λ other. b == other) (codes "#*,?[]{}")) is in
    within b parts.0 (or_parts (b == 35) (list_any (λ other. b == other) (codes "*,?[]{}")) parts.1).0
  where
    within : (b : ℕ) → not (nat_le 33 b && nat_le b 126) ≡ false → (b == 35) ≡ false → is_plain b ≡ true
    within b is other = grind (arith, nat_tests)

none_breaks : (p : AddressFault → Bool) (rules : List AddressFault) → is_none (find p rules) ≡ true → list_all (λ r. not (p r)) rules ≡ true
none_breaks p [] none = refl
none_breaks p (r ∷ rules) none = go (p r) none (none_breaks p rules)
  where
    go : (b : Bool) → is_none (cond b (Some r) (find p rules)) ≡ true → (is_none (find p rules) ≡ true → list_all (λ r. not (p r)) rules ≡ true)
        → (not b && list_all (λ r. not (p r)) rules) ≡ true
    go true e later = absurd (cc)
    go false e later = later e

-- a text is plain where its parts between slashes have no bad byte
parts_plain : (xs : List ℕ) → list_any (list_any is_bad_byte) (slice_split is_slash xs) ≡ false → list_all is_plain xs ≡ true
parts_plain [] parts = refl
parts_plain (x ∷ xs) parts = go (is_slash x) refl (slice_split is_slash xs) parts (parts_plain xs)
  where
    slash : (x : ℕ) → is_slash x ≡ true → is_plain x ≡ true
    slash x is = grind (arith, nat_tests)

    onto : (pieces : List (List ℕ)) → list_any (list_any is_bad_byte) (onto_first x pieces) ≡ false → (is_bad_byte x ≡ false)
        × (list_any (list_any is_bad_byte) pieces ≡ false)
    onto [] e = ((or_parts (is_bad_byte x) false (or_parts (is_bad_byte x || false) false e).0).0, refl)
    onto (piece ∷ pieces) e =
        let both = or_parts (is_bad_byte x || list_any is_bad_byte piece) (list_any (list_any is_bad_byte) pieces) e in
        let first = or_parts (is_bad_byte x) (list_any is_bad_byte piece) both.0 in
        (first.0, ap₂ (λ a b. a || b) first.1 both.1)

    go : (b : Bool) → is_slash x ≡ b → (pieces : List (List ℕ)) → list_any (list_any is_bad_byte) (cond b ([] ∷ pieces) (onto_first x pieces)) ≡ false
        → (list_any (list_any is_bad_byte) pieces ≡ false → list_all is_plain xs ≡ true) → (is_plain x && list_all is_plain xs) ≡ true
    go true is pieces e later = ap₂ (λ a b. a && b) (slash x is) (later e)
    go false is pieces e later = let split = onto pieces e in ap₂ (λ a b. a && b) (good x split.0) (later split.1)

pub address_token : (address : List ℕ) → is_address address ≡ true → IsToken address
address_token [] is = absurd (cc)
address_token (first ∷ rest) is =
    let rules = none_breaks (breaks (first ∷ rest)) address_rules is in
    let after_slash = and_parts (not (breaks (first ∷ rest) NoSlash)) _ rules in
    let after_named = and_parts (not (breaks (first ∷ rest) EmptyName)) _ after_slash.1 in
    let spelled = and_parts (not (breaks (first ∷ rest) BadByte)) _ after_named.1 in
    token (first ∷ rest) (ap₂ (λ a b. a && b) (slash first (not-true (not (is_slash first)) after_slash.0))
    (parts_plain rest (not-true (breaks (first ∷ rest) BadByte) spelled.0))) (omega arith)
  where
    slash : (x : ℕ) → not (is_slash x) ≡ false → is_plain x ≡ true
    slash x is = grind (arith, nat_tests)
