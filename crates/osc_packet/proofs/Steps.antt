-- The reading of elements, one after another.
use Rattle.std.proofs.Common.{◌≡◌, ℕ, zero, suc, ◌+◌, ◌-◌, ◌<◌, ◌≤◌, Bool, true, false, cond, ◌==◌, List, [], ◌∷◌, length, take, slice_index, not, nat_lt}
use Rattle.std.proofs.Common.{Result, drop, Option, Some, None, Ok, Err, refl, sym, ◌∙◌, ap, arith, length-drop}
use Rattle.std.specs.Option.{option_or}
use Rattle.std.specs.List.{starts_with}
use Rattle.std.proofs.Math.Numerals.{sub-one}
use Rattle.std.proofs.lemmas.Bool.{cond-true, cond-false}
use Rattle.std.proofs.lemmas.Bool.Decides.{nat_tests}
use Rattle.osc_atoms.specs.declared.fault.Fault.{Fault}
use Rattle.osc_packet.specs.Packets.{bundle_word, effective_tag}
use Rattle.osc_atoms.specs.Faults.{start}
use Rattle.osc_packet.specs.Faults.{no_bundle_word, no_bundle_head, too_deep, element_size}
use Rattle.osc_packet.specs.Reading.{first_size, first_element, after_first, begins_with_size, size_read, elements_fault, body_fault, element_fault, fault_with}
use Rattle.osc_packet.specs.Reading.{fault_or, message_fault_at, is_bundle, head_read, elements_of, elements_in, messages_in, bundle_tag, bundle_read}
use Rattle.osc_packet.specs.Reading.{enclosed_read}

pub some_none : {X : Type 0} {x : X} → ◌≡◌ {A = Option X} (Some x) None → ⊥
some_none e = cc

-- what a reading of elements gives, by that of the first and that of the rest
abbrev pub joined : (ℕ → List ℕ → Option Fault) → ℕ → List ℕ → Option Fault → Option Fault
joined fault_of at bytes rest = cond (begins_with_size bytes) (option_or (fault_of (at + 4) (first_element bytes)) rest) (Some (element_size at))

any_fuel : (f : ℕ → List ℕ → Option Fault) (n m at : ℕ) (bytes : List ℕ) → length bytes ≤ n → length bytes ≤ m
    → elements_fault f n at bytes ≡ elements_fault f m at bytes
unfolding elements_fault
any_fuel f zero zero at bytes a b = refl
any_fuel f zero (suc m) at [] a b = refl
any_fuel f zero (suc m) at (x ∷ bytes) a b = absurd (omega arith)
any_fuel f (suc n) zero at [] a b = refl
any_fuel f (suc n) zero at (x ∷ bytes) a b = absurd (omega arith)
any_fuel f (suc n) (suc m) at bytes a b =
    let short : length (after_first bytes) ≤ length bytes - 1 = omega (arith, length-drop (first_size bytes) (drop 4 bytes), length-drop 4 bytes) in
    ap (λ (r : Option Fault). cond (length bytes == 0) None (joined f at bytes r))
    (any_fuel f n m (at + 4 + first_size bytes) (after_first bytes) (omega arith) (omega arith))

not_none : (n : ℕ) → 0 < n → (n == 0) ≡ false
not_none n some = grind (arith, nat_tests)

step_at : (f : ℕ → List ℕ → Option Fault) (at n : ℕ) (bytes : List ℕ) → length bytes ≡ n → 0 < n
    → elements_fault f n at bytes ≡ joined f at bytes (body_fault f (at + 4 + first_size bytes) (after_first bytes))
unfolding elements_fault
step_at f at zero bytes is some = absurd (omega arith)
step_at f at (suc n) bytes is some =
    let short : length (after_first bytes) ≤ n = omega (arith, length-drop (first_size bytes) (drop 4 bytes), length-drop 4 bytes) in
    cond-false _ _ _ (not_none (length bytes) (omega arith))
    ∙ ap (joined f at bytes) (any_fuel f n (length (after_first bytes)) (at + 4 + first_size bytes) (after_first bytes) short (omega arith))

-- the first element, then those after it
pub body_step : (f : ℕ → List ℕ → Option Fault) (at : ℕ) (bytes : List ℕ) → 0 < length bytes
    → body_fault f at bytes ≡ joined f at bytes (body_fault f (at + 4 + first_size bytes) (after_first bytes))
body_step f at bytes some = step_at f at (length bytes) bytes refl some

-- no element is left
pub body_end : (f : ℕ → List ℕ → Option Fault) (at : ℕ) (bytes : List ℕ) → length bytes ≡ 0 → body_fault f at bytes ≡ None
unfolding elements_fault
body_end f at [] none = refl
body_end f at (b ∷ bytes) none = absurd (omega arith)

is_ok : (test : Bool) (size n : ℕ) (fault : Fault) → cond test (Ok n) (Err fault) ≡ Ok size → (test ≡ true) × (size ≡ n)
is_ok true size n fault e = (refl, cc)
is_ok false size n fault e = absurd (cc)

is_err : (test : Bool) (n : ℕ) (fault other : Fault) → cond test (Ok n) (Err fault) ≡ Err other → (test ≡ false) × (other ≡ fault)
is_err true n fault other e = absurd (cc)
is_err false n fault other e = (refl, cc)

-- a first element without a fault
pub step_on : (f : ℕ → List ℕ → Option Fault) (at size : ℕ) (bytes : List ℕ) → 0 < length bytes → size_read at bytes ≡ Ok size
    → f (at + 4) (take size (drop 4 bytes)) ≡ None → body_fault f at bytes ≡ body_fault f (at + (4 + size)) (drop size (drop 4 bytes))
step_on f at size bytes some read fine =
    let ok = is_ok (begins_with_size bytes) size (first_size bytes) (element_size at) read in
    let same : size ≡ first_size bytes = ok.1 in
    let fine_here : f (at + 4) (first_element bytes) ≡ None = ap (λ (n : ℕ). f (at + 4) (take n (drop 4 bytes))) (sym same) ∙ fine in
    body_step f at bytes some
    ∙ cond-true _ _ _ ok.0
    ∙ ap (λ (o : Option Fault). option_or o (body_fault f (at + 4 + first_size bytes) (after_first bytes))) fine_here
    ∙ ap (λ (n : ℕ). body_fault f (at + 4 + n) (drop n (drop 4 bytes))) (sym same)
    ∙ ap (λ (n : ℕ). body_fault f n (drop size (drop 4 bytes))) (omega arith)

-- a bad size
pub step_size : (f : ℕ → List ℕ → Option Fault) (at : ℕ) (bytes : List ℕ) (fault : Fault) → 0 < length bytes → size_read at bytes ≡ Err fault
    → body_fault f at bytes ≡ Some fault
step_size f at bytes fault some read =
    let bad = is_err (begins_with_size bytes) (first_size bytes) (element_size at) fault read in
    body_step f at bytes some ∙ cond-false _ _ _ bad.0 ∙ ap (λ (x : Fault). Some x) (sym bad.1)

-- a first element with a fault
pub step_fault : (f : ℕ → List ℕ → Option Fault) (at size : ℕ) (bytes : List ℕ) (fault : Fault) → 0 < length bytes → size_read at bytes ≡ Ok size
    → f (at + 4) (take size (drop 4 bytes)) ≡ Some fault → body_fault f at bytes ≡ Some fault
step_fault f at size bytes fault some read bad =
    let ok = is_ok (begins_with_size bytes) size (first_size bytes) (element_size at) read in
    let bad_here : f (at + 4) (first_element bytes) ≡ Some fault = ap (λ (n : ℕ). f (at + 4) (take n (drop 4 bytes))) (sym ok.1) ∙ bad in
    body_step f at bytes some
    ∙ cond-true _ _ _ ok.0
    ∙ ap (λ (o : Option Fault). option_or o (body_fault f (at + 4 + first_size bytes) (after_first bytes))) bad_here

never : (a b : Bool) (x y z : Fault) (f g : ℕ → Option Fault)
    → fault_or (cond a (Err x) (cond b (Err y) (Err z))) f ≡ fault_or (cond a (Err x) (cond b (Err y) (Err z))) g
never true b x y z f g = refl
never false true x y z f g = refl
never false false x y z f g = refl

-- where no bundle may be opened, nothing is read in one
no_room : (inner : ℕ → Option Fault) (outer : Option ℕ) (at : ℕ) (bytes : List ℕ)
    → fault_with (λ effective. None) 0 outer at bytes ≡ fault_with inner 0 outer at bytes
no_room inner outer at bytes =
    ap (λ (r : Option Fault). cond (slice_index bytes 0 == 47) (message_fault_at at bytes) (cond (is_bundle bytes) r (Some (start at))))
    (never (not (starts_with ◌==◌ bytes bundle_word)) (nat_lt (length bytes) 16) (no_bundle_word at) (no_bundle_head (at + 8)) (too_deep at)
    (λ effective. None) inner)

-- the reading of an element, whatever may still be opened
pub element_fault_is : (left : ℕ) (outer : Option ℕ) (at : ℕ) (bytes : List ℕ)
    → element_fault left outer at bytes
    ≡ fault_with (λ effective. body_fault (element_fault (left - 1) (Some effective)) (at + 16) (drop 16 bytes)) left outer at bytes
unfolding element_fault
element_fault_is zero outer at bytes = no_room (λ effective. body_fault (element_fault 0 (Some effective)) (at + 16) (drop 16 bytes)) outer at bytes
element_fault_is (suc left) outer at bytes = rw (sub-one (suc left)) refl

-- a bundle with a lawful head has the faults of its elements
pub inside_bundle : (left : ℕ) (outer : Option ℕ) (at tag : ℕ) (bytes : List ℕ) → slice_index bytes 0 ≡ 35 → head_read left outer at bytes ≡ Ok tag
    → element_fault left outer at bytes ≡ body_fault (element_fault (left - 1) (Some tag)) (at + 16) (drop 16 bytes)
inside_bundle left outer at tag bytes hash head =
    let no_slash : (slice_index bytes 0 == 47) ≡ false = grind (arith, nat_tests) in
    let yes_hash : (slice_index bytes 0 == 35) ≡ true = grind (arith, nat_tests) in
    element_fault_is left outer at bytes
    ∙ cond-false _ _ _ no_slash
    ∙ cond-true _ _ _ yes_hash
    ∙ ap (λ (r : Result ℕ Fault). fault_or r (λ effective. body_fault (element_fault (left - 1) (Some effective)) (at + 16) (drop 16 bytes))) head

more_fuel : (n m : ℕ) (bytes : List ℕ) → length bytes ≤ n → length bytes ≤ m → elements_of n bytes ≡ elements_of m bytes
unfolding elements_of
more_fuel zero zero bytes a b = refl
more_fuel zero (suc m) [] a b = refl
more_fuel zero (suc m) (x ∷ bytes) a b = absurd (omega arith)
more_fuel (suc n) zero [] a b = refl
more_fuel (suc n) zero (x ∷ bytes) a b = absurd (omega arith)
more_fuel (suc n) (suc m) bytes a b =
    let short : length (after_first bytes) ≤ length bytes - 1 = omega (arith, length-drop (first_size bytes) (drop 4 bytes), length-drop 4 bytes) in
    ap (λ (l : List (List ℕ)). cond (length bytes == 0) [] (first_element bytes ∷ l)) (more_fuel n m (after_first bytes) (omega arith) (omega arith))

split_at : (n : ℕ) (bytes : List ℕ) → length bytes ≡ n → 0 < n → elements_of n bytes ≡ first_element bytes ∷ elements_in (after_first bytes)
unfolding elements_of
split_at zero bytes is some = absurd (omega arith)
split_at (suc n) bytes is some =
    let short : length (after_first bytes) ≤ n = omega (arith, length-drop (first_size bytes) (drop 4 bytes), length-drop 4 bytes) in
    cond-false _ _ _ (not_none (length bytes) (omega arith))
    ∙ ap (λ (l : List (List ℕ)). first_element bytes ∷ l) (more_fuel n (length (after_first bytes)) (after_first bytes) short (omega arith))

-- the first element, and those after it
pub in_step : (bytes : List ℕ) → 0 < length bytes → elements_in bytes ≡ first_element bytes ∷ elements_in (after_first bytes)
in_step bytes some = split_at (length bytes) bytes refl some

pub in_end : (bytes : List ℕ) → length bytes ≡ 0 → elements_in bytes ≡ []
unfolding elements_of
in_end [] none = refl
in_end (b ∷ bytes) none = absurd (omega arith)

-- a bundle's unit, and those of the bundles in it
pub bundle_step : (left : ℕ) (outer : Option ℕ) (bytes : List ℕ) → 0 < left
    → bundle_read left outer bytes ≡ record { tag = effective_tag outer (bundle_tag bytes); messages = messages_in (drop 16 bytes) }
    ∷ enclosed_read (left - 1) (effective_tag outer (bundle_tag bytes)) (drop 16 bytes)
unfolding bundle_read
bundle_step zero outer bytes some = absurd (omega arith)
bundle_step (suc left) outer bytes some = rw (sub-one (suc left)) refl
