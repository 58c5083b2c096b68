-- An address is lawful exactly where it breaks no rule.
use Rattle.std.proofs.Common.{◌≡◌, ℕ, Bool, true, false, cond, nat_lt, Option, Some, None, List, length, refl, arith, ap}
use Rattle.std.specs.Prelude.{◌↔◌, IsTrue, is_none}
use Rattle.std.specs.List.{list_any}
use Rattle.std.proofs.lemmas.List.Folds.{list_any_none}
use Rattle.std.proofs.lemmas.Bool.Decides.{nat_tests}
use Rattle.std.proofs.lemmas.Bool.{not-false}
use Rattle.osc_pattern.specs.declared.faults.AddressFault.TheVariants.{NoSlash, EmptyName, BadByte, NameLong, AddressLong, TooManyParts}
use Rattle.osc_pattern.specs.declared.faults.AddressFault.{AddressFault}
use Rattle.osc_pattern.specs.Patterns.{begins_with_slash, parts_of}
use Rattle.osc_pattern.specs.Addresses.{IsAddress, breaks, address_fault, is_address, is_bad_byte}
use Rattle.osc_pattern.proofs.Cutting.{All-none}

-- no rule is broken
none_broken : (a b c d e f : Bool) (p q r s t u : AddressFault)
    → cond a (Some p) (cond b (Some q) (cond c (Some r) (cond d (Some s) (cond e (Some t) (cond f (Some u) None))))) ≡ None
    → (a ≡ false) × (b ≡ false) × (c ≡ false) × (d ≡ false) × (e ≡ false) × (f ≡ false)
none_broken true b c d e f p q r s t u h = absurd (cc)
none_broken false true c d e f p q r s t u h = absurd (cc)
none_broken false false true d e f p q r s t u h = absurd (cc)
none_broken false false false true e f p q r s t u h = absurd (cc)
none_broken false false false false true f p q r s t u h = absurd (cc)
none_broken false false false false false true p q r s t u h = absurd (cc)
none_broken false false false false false false p q r s t u h = (refl, refl, refl, refl, refl, refl)

pub address_fault-none : (bytes : List ℕ) → address_fault bytes ≡ None → IsAddress bytes
address_fault-none bytes none =
    let kept_all = none_broken (breaks bytes NoSlash) (breaks bytes EmptyName) (breaks bytes BadByte) (breaks bytes NameLong) (breaks bytes AddressLong)
    (breaks bytes TooManyParts) NoSlash EmptyName BadByte NameLong AddressLong TooManyParts none in
    let named = All-none (λ name. nat_lt (length name) 1) (parts_of bytes) kept_all.1 in
    let long = All-none (λ name. nat_lt 63 (length name)) (parts_of bytes) kept_all.3 in
    let size = kept_all.4 in
    let count = kept_all.5 in
    record {
      slash = not-false (begins_with_slash bytes) kept_all.0;
      named = λ k d below. (let h = named k d below in grind (arith, nat_tests));
      spelled = All-none (list_any is_bad_byte) (parts_of bytes) kept_all.2;
      names_short = λ k d below. (let h = long k d below in grind (arith, nat_tests));
      short = grind (arith, nat_tests);
      few = grind (arith, nat_tests);
    }

pub IsAddress-read : (bytes : List ℕ) → IsAddress bytes → address_fault bytes ≡ None
IsAddress-read bytes lawful =
    let named = list_any_none (λ name. nat_lt (length name) 1) (parts_of bytes) (λ k d below. (let h = lawful.named k d below in grind (arith, nat_tests))) in
    let spelled = list_any_none (list_any is_bad_byte) (parts_of bytes) lawful.spelled in
    let long = list_any_none (λ name. nat_lt 63 (length name)) (parts_of bytes)
    (λ k d below. (let h = lawful.names_short k d below in grind (arith, nat_tests))) in
    let size : nat_lt 255 (length bytes) ≡ false = (let h = lawful.short in grind (arith, nat_tests)) in
    let count : nat_lt 16 (length (parts_of bytes)) ≡ false = (let h = lawful.few in grind (arith, nat_tests)) in
    rw (lawful.slash, named, spelled, long, size, count) refl

pub is_address-sound : (bytes : List ℕ) → is_address bytes ≡ true → IsAddress bytes
is_address-sound bytes h = address_fault-none bytes (go (address_fault bytes) h) where
  go : (o : Option AddressFault) → is_none o ≡ true → o ≡ None
  go None h = refl
  go (Some fault) h = absurd (cc)

pub is_address-exact : (bytes : List ℕ) → (IsTrue (is_address bytes) ↔ IsAddress bytes)
is_address-exact bytes = (is_address-sound bytes, λ lawful. ap is_none (IsAddress-read bytes lawful))
