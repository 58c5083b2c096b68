-- Hosts of digits and dots are IPv4 addresses.
use Rattle.std.proofs.Common.{◌≡◌, ◌∙◌, ℕ, ◌<◌, ◌==◌, ◌^◌, ◌&&◌, ◌||◌, not, Bool, true, false, nat_lt, List, [], ◌∷◌, ◌++◌, length, All, refl, sym, ap, arith}
use Rattle.std.proofs.Common.{decimal, append_assoc}
use Rattle.std.proofs.Common.{slice_index, slice_index_or, inl, inr, Result, Ok, Err, is_ok}
use Rattle.std.specs.List.{slice_split, list_all, join_with_byte}
use Rattle.std.specs.Char.{is_ascii_digit}
use Rattle.std.specs.Str.Parse.{digits_value}
use Rattle.std.specs.Net.Text.{dotted_text}
use Rattle.std.specs.Net.Grammar.{IsDotted, IsIpv4Text, Parses}
use Rattle.std.specs.Net.Addr.{ipv4_octets}
use Rattle.std.specs.declared.net.ipv4_addr.Ipv4Addr.{Ipv4Addr}
use Rattle.std.proofs.lemmas.Bool.{and_parts, cases_lt}
use Rattle.std.proofs.lemmas.Bool.Decides.{nat_tests}
use Rattle.std.proofs.lemmas.List.Sums.{AllPass-from_list_all}
use Rattle.std.proofs.lemmas.List.Splits.{slice_split_at, slice_split_none, join_with_byte-slice_split}
use Rattle.std.proofs.lemmas.Fmt.{decimal_digit, first_decimal, decimal_nonempty, digits_decimal, digits_value-decimal, decimal-digits_value}
use Rattle.osc_patch.specs.Hosts.{all_digits, is_dot, is_octet, is_dotted}
use Rattle.osc_patch.proofs.Ports.{digits}

-- A number below 256 is an octet as it is written.

no_dot : (byte : ℕ) → is_ascii_digit byte ≡ true → is_dot byte ≡ false
no_dot byte is = grind (arith, nat_tests)

no_dots : (part : List ℕ) → all_digits part ≡ true → All (λ byte. is_dot byte ≡ false) part
no_dots part are = λ k d lt. no_dot (slice_index_or part k d) (AllPass-from_list_all is_ascii_digit part are k d lt)

octet_if : (part : List ℕ) → all_digits part ≡ true → 0 < length part → (length part == 1 || not (slice_index part 0 == 48)) ≡ true
    → digits_value 10 part < 256 → is_octet part ≡ true
octet_if part are some plain low = grind (arith, nat_tests)

plain_if : (part : List ℕ) (n : ℕ) → (length part ≡ 1) → (length part == 1 || not (slice_index part 0 == 48)) ≡ true
plain_if part n one = grind (arith, nat_tests)

plain_else : (part : List ℕ) → 48 < slice_index part 0 → (length part == 1 || not (slice_index part 0 == 48)) ≡ true
plain_else part more = grind (arith, nat_tests)

written : (n : ℕ) → n < 256 → is_octet (decimal n) ≡ true
written n low =
    let small : n < 2 ^ 64 = omega arith in
    let value = digits_value-decimal digits n small in
    octet_if (decimal n) (digits_decimal digits n small) (decimal_nonempty n small)
    (elim (cases_lt n 10) [
      | inl one ↦ plain_if (decimal n) n (ap length (decimal_digit n one))
      | inr more ↦ plain_else (decimal n) (first_decimal n (omega arith) small)
    ]) (omega (arith, value))

split_first : (n : ℕ) (rest : List ℕ) → n < 256 → slice_split is_dot (decimal n ++ 46 ∷ rest) ≡ decimal n ∷ slice_split is_dot rest
split_first n rest low = slice_split_at is_dot (decimal n) 46 rest (no_dots (decimal n) (digits_decimal digits n (omega arith))) refl

split_last : (n : ℕ) → n < 256 → slice_split is_dot (decimal n) ≡ decimal n ∷ []
split_last n low = slice_split_none is_dot (decimal n) (no_dots (decimal n) (digits_decimal digits n (omega arith)))

abbrev are_four : List (List ℕ) → Bool
are_four parts = length parts == 4 && list_all is_octet parts

-- dots between, the first number first
plain : (a b c d : ℕ) → dotted_text a b c d ≡ decimal a ++ 46 ∷ (decimal b ++ 46 ∷ (decimal c ++ 46 ∷ decimal d))
plain a b c d = simp append_assoc

four_parts : (a b c d : ℕ) → a < 256 → b < 256 → c < 256 → d < 256
    → slice_split is_dot (dotted_text a b c d) ≡ decimal a ∷ decimal b ∷ decimal c ∷ decimal d ∷ []
four_parts a b c d fa fb fc fd =
    ap (slice_split is_dot) (plain a b c d) ∙ split_first a (decimal b ++ 46 ∷ (decimal c ++ 46 ∷ decimal d)) fa
    ∙ ap (λ l. decimal a ∷ l) (split_first b (decimal c ++ 46 ∷ decimal d) fb
    ∙ ap (λ l. decimal b ∷ l) (split_first c (decimal d) fc ∙ ap (λ l. decimal c ∷ l) (split_last d fd)))

all_four : (a b c d : List ℕ) → is_octet a ≡ true → is_octet b ≡ true → is_octet c ≡ true → is_octet d ≡ true → are_four (a ∷ b ∷ c ∷ d ∷ []) ≡ true
all_four a b c d fa fb fc fd = rw (fa, fb, fc, fd) refl

pub dotted_if : (text octets : List ℕ) → IsDotted text octets → is_dotted text ≡ true
dotted_if text octets is =
    ap is_dotted is.spelled ∙ ap are_four (four_parts is.a is.b is.c is.d is.fit.0 is.fit.1 is.fit.2 is.fit.3)
    ∙ all_four (decimal is.a) (decimal is.b) (decimal is.c) (decimal is.d) (written is.a is.fit.0) (written is.b is.fit.1) (written is.c is.fit.2) (written is.d is.fit.3)

-- And what is an octet is so written.

record Octet (part : List ℕ) : Type 0 where
  low : digits_value 10 part < 256
  spelled : decimal (digits_value 10 part) ≡ part

plain_first : (part : List ℕ) → (length part == 1 || not (slice_index part 0 == 48)) ≡ true → slice_index part 0 ≡ 48 → length part ≡ 1
plain_first part plain zero = grind (arith, nat_tests)

low_if : (n : ℕ) → nat_lt n 256 ≡ true → n < 256
low_if n lt = grind (arith, nat_tests)

some_if : (n : ℕ) → nat_lt 0 n ≡ true → 0 < n
some_if n lt = grind (arith, nat_tests)

octet_is : (part : List ℕ) → is_octet part ≡ true → Octet part
octet_is part is =
    let most = and_parts (all_digits part && nat_lt 0 (length part) && (length part == 1 || not (slice_index part 0 == 48))) (nat_lt (digits_value 10 part) 256) is in
    let more = and_parts (all_digits part && nat_lt 0 (length part)) (length part == 1 || not (slice_index part 0 == 48)) most.0 in
    let first = and_parts (all_digits part) (nat_lt 0 (length part)) more.0 in
    let low : digits_value 10 part < 256 = low_if (digits_value 10 part) most.1 in
    record {
      low = low;
      spelled = decimal-digits_value digits part first.0 (some_if (length part) first.1) (plain_first part more.1) (omega (arith, low));
    }

abbrev joined : List (List ℕ) → List ℕ
joined parts = join_with_byte 46 parts

so_many : (parts : List (List ℕ)) → are_four parts ≡ true → length parts ≡ 4
so_many parts are = four (length parts) (and_parts (length parts == 4) (list_all is_octet parts) are).0 where
  four : (n : ℕ) → (n == 4) ≡ true → n ≡ 4
  four n is = grind (arith, nat_tests)

joined_is : (a b c d : List ℕ) → joined (a ∷ b ∷ c ∷ d ∷ []) ≡ a ++ 46 ∷ (b ++ 46 ∷ (c ++ 46 ∷ d))
joined_is a b c d = refl

-- four parts, by their number
record Address (text : List ℕ) : Type 0 where
  address : Ipv4Addr
  is : IsIpv4Text text address

of_four : (text : List ℕ) (parts : List (List ℕ)) → joined parts ≡ text → are_four parts ≡ true → Address text
of_four text [] join are = absurd (cc)
of_four text (a ∷ []) join are = absurd (cc)
of_four text (a ∷ b ∷ []) join are = absurd (cc)
of_four text (a ∷ b ∷ c ∷ []) join are = absurd (cc)
of_four text (a ∷ b ∷ c ∷ d ∷ e ∷ more) join are = absurd (omega (arith, so_many (a ∷ b ∷ c ∷ d ∷ e ∷ more) are))
of_four text (a ∷ b ∷ c ∷ d ∷ []) join are =
    let first = and_parts (is_octet a) (is_octet b && (is_octet c && (is_octet d && true))) are in
    let second = and_parts (is_octet b) (is_octet c && (is_octet d && true)) first.1 in
    let third = and_parts (is_octet c) (is_octet d && true) second.1 in
    let fourth = and_parts (is_octet d) true third.1 in
    let oa = octet_is a first.0 in
    let ob = octet_is b second.0 in
    let oc = octet_is c third.0 in
    let od = octet_is d fourth.0 in
    record {
      address = record { octets = digits_value 10 a ∷ digits_value 10 b ∷ digits_value 10 c ∷ digits_value 10 d ∷ [] };
      is = record {
        a = digits_value 10 a;
        b = digits_value 10 b;
        c = digits_value 10 c;
        d = digits_value 10 d;
        fit = (oa.low, ob.low, oc.low, od.low);
        value = refl;
        spelled = sym join ∙ sym (plain (digits_value 10 a) (digits_value 10 b) (digits_value 10 c) (digits_value 10 d) ∙ rw (oa.spelled, ob.spelled, oc.spelled, od.spelled) (sym (joined_is a b c d)));
      };
    }

pub dotted_is : (text : List ℕ) → is_dotted text ≡ true → (address : Ipv4Addr) × IsIpv4Text text address
dotted_is text is =
    let found = of_four text (slice_split is_dot text) (join_with_byte-slice_split 46 text) is in
    (found.address, found.is)

unpassed : (b : Bool) → ¬ (b ≡ true) → b ≡ false
unpassed true passed = absurd (passed refl)
unpassed false passed = refl

pub parsed : {E : Type 0} (text : List ℕ) (r : Result Ipv4Addr E) → Parses IsIpv4Text text r → is_ok r ≡ is_dotted text
parsed text (Ok address) is = sym (dotted_if text (ipv4_octets address) is)
parsed text (Err fault) none = sym (unpassed (is_dotted text) (λ yes. let found = dotted_is text yes in none found.0 found.1))

pub dotted_so : (text : List ℕ) (address : Ipv4Addr) → IsIpv4Text text address → is_dotted text ≡ true
dotted_so text address is = dotted_if text (ipv4_octets address) is
