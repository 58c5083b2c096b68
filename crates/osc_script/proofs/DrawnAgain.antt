-- A script that is drawn from a seed is read as the acts that were drawn.
use Rattle.osc_script.specs.declared.script.TheConstants.{MAX_SCRIPT}
use Rattle.osc_script.specs.declared.drawn_script.TheConstants.{MAX_GENERATED_LINES}
use Rattle.std.proofs.Common.{◌≡◌, ◌∙◌, ℕ, zero, suc, ◌+◌, ◌-◌, ◌*◌, ◌/◌, ◌%◌, ◌<◌, ◌≤◌, ◌^◌, min, Bool, true, false, nat_lt, nat_eq, List, [], ◌∷◌, ◌++◌, map}
use Rattle.std.proofs.Common.{length, replicate, refl, ap, ap₂, arith, length-append, codes, Ok}
use Rattle.std.specs.Prelude.{◌&&◌}
use Rattle.std.specs.Fmt.{digits}
use Rattle.std.specs.List.{AllByRecursion, flat_map, list_all}
use Rattle.std.specs.Int.{byte_at, bytes_high_first}
use Rattle.std.proofs.lemmas.Bool.{and_parts, ltb-true}
use Rattle.std.proofs.lemmas.Bool.Decides.{nat_tests}
use Rattle.std.proofs.lemmas.List.Folds.{list_all-append}
use Rattle.hex.specs.Hex.{IsBytes}
use Rattle.osc_atoms.specs.Atoms.{string, string_end, word, tag}
use Rattle.osc_pattern.specs.Addresses.{is_address}
use Rattle.osc_script.specs.Scripts.{script_of}
use Rattle.osc_script.specs.declared.act.Act.{Act}
use Rattle.osc_script.specs.declared.act.Act.TheVariants.{Add, Send}
use Rattle.osc_script.specs.declared.mode.Mode.TheVariants.{Plain}
use Rattle.hex.specs.Hex.{lower_digits}
use Rattle.hex.proofs.HexLemmas.{length-encode_with}
use Rattle.std.proofs.lemmas.Grind.{flat_map-append}
use Rattle.std.proofs.lemmas.List.{map-append}
use Rattle.osc_script.specs.Written.{IsWritable, act_line, act_text, numbered, written}
use Rattle.osc_script.proofs.Again.{script_again}
use Rattle.osc_script.specs.declared.line_kind.LineKind.{LineKind}
use Rattle.osc_script.specs.declared.line_kind.LineKind.TheVariants as kind
use Rattle.osc_script.specs.Generated.{act_of_kind, draws_of, kind_of, moment_after, drawn_acts, first_acts, generated_acts, generated_script}
use Rattle.osc_script.proofs.Packed.{short_member, short_all, short_any, small_message, small_bundle}
use Rattle.osc_script.specs.Draws.{after, drawn}
use Rattle.osc_script.specs.Generated.{member_of, all_of, any_with, message, element, bundle, drawn_address, to_one, to_all, to_any, two_of, nested_of, at_once}

-- what holds below a number, tried one by one
abbrev all_below : ℕ → (ℕ → Bool) → Bool
all_below zero p = true
all_below (suc n) p = p n && all_below n p

below : (n : ℕ) (p : ℕ → Bool) → all_below n p ≡ true → (k : ℕ) → k < n → p k ≡ true
below zero p all k lt = absurd (omega arith)
below (suc n) p all k lt = go (nat_eq k n) refl (below n p (and_parts (p n) (all_below n p) all).1 k)
  where
    go : (b : Bool) → nat_eq k n ≡ b → (k < n → p k ≡ true) → p k ≡ true
    go true is later = let same : k ≡ n = grind (arith, nat_tests) in ap p same ∙ (and_parts (p n) (all_below n p) all).0
    go false is later = let other : k < n = grind (arith, nat_tests) in later other

abbrev is_byte : ℕ → Bool
is_byte byte = nat_lt byte 256

lawful_table : all_below 8 (λ a. all_below 16 (λ b. is_address (member_of a b))) ≡ true
unfolding digits
lawful_table = refl

address_table : all_below 8 (λ a. all_below 16 (λ b. list_all is_byte (member_of a b))) ≡ true
unfolding digits
address_table = refl

all_table : all_below 8 (λ a. list_all is_byte (all_of a)) ≡ true
unfolding digits
all_table = refl

any_table : all_below 16 (λ b. list_all is_byte (any_with b)) ≡ true
unfolding digits
any_table = refl

lawful_address : (a b : ℕ) → a < 8 → b < 16 → is_address (member_of a b) ≡ true
lawful_address a b p q = below 16 (λ b. is_address (member_of a b)) (below 8 (λ a. all_below 16 (λ b. is_address (member_of a b))) lawful_table a p) b q

address_bytes : (a b : ℕ) → a < 8 → b < 16 → list_all is_byte (member_of a b) ≡ true
address_bytes a b p q =
    below 16 (λ b. list_all is_byte (member_of a b)) (below 8 (λ a. all_below 16 (λ b. list_all is_byte (member_of a b))) address_table a p) b q

all_bytes : (a : ℕ) → a < 8 → list_all is_byte (all_of a) ≡ true
all_bytes a p = below 8 (λ a. list_all is_byte (all_of a)) all_table a p

any_bytes : (b : ℕ) → b < 16 → list_all is_byte (any_with b) ≡ true
any_bytes b p = below 16 (λ b. list_all is_byte (any_with b)) any_table b p

-- bytes of packets
both : (xs ys : List ℕ) → list_all is_byte xs ≡ true → list_all is_byte ys ≡ true → list_all is_byte (xs ++ ys) ≡ true
both xs ys p q = list_all-append is_byte xs ys ∙ ap₂ (λ a b. a && b) p q

zeros : (n : ℕ) → list_all is_byte (replicate n 0) ≡ true
zeros zero = refl
zeros (suc n) = zeros n

string_bytes_ : (text : List ℕ) → list_all is_byte text ≡ true → list_all is_byte (string text) ≡ true
string_bytes_ text p = both text (replicate (string_end (length text)) 0) p (zeros (string_end (length text)))

byte_is : (i n : ℕ) → is_byte (byte_at i n) ≡ true
byte_is i n = let small : byte_at i n < 256 = byte_small i n in grind (arith, nat_tests)
  where
    byte_small : (i n : ℕ) → byte_at i n < 256
    byte_small zero n = omega arith
    byte_small (suc i) n = omega arith

high_bytes : (k n : ℕ) → list_all is_byte (bytes_high_first k n) ≡ true
high_bytes zero n = refl
high_bytes (suc k) n = ap₂ (λ a b. a && b) (byte_is k n) (high_bytes k n)

message_bytes : (pattern : List ℕ) (value : ℕ) → list_all is_byte pattern ≡ true → list_all is_byte (message pattern value) ≡ true
message_bytes pattern value p =
    both (string pattern) (string (codes ",i") ++ word value) (string_bytes_ pattern p) (both (string (codes ",i")) (word value) refl (high_bytes 4 value))

element_bytes : (packet : List ℕ) → list_all is_byte packet ≡ true → list_all is_byte (element packet) ≡ true
element_bytes packet p = both (word (length packet)) packet (high_bytes 4 (length packet)) p

bundle_bytes : (moment : ℕ) (elements : List ℕ) → list_all is_byte elements ≡ true → list_all is_byte (bundle moment elements) ≡ true
bundle_bytes moment elements p = both (string (codes "#bundle")) (tag moment ++ elements) refl (both (tag moment) elements (high_bytes 8 moment) p)

are_bytes : (xs : List ℕ) → list_all is_byte xs ≡ true → IsBytes xs
are_bytes [] all i = omega arith
are_bytes (x ∷ xs) all zero = ltb-true x 256 (and_parts (is_byte x) (list_all is_byte xs) all).0
are_bytes (x ∷ xs) all (suc i) = are_bytes xs (and_parts (is_byte x) (list_all is_byte xs) all).1 i

-- packets that are drawn
one_bytes : (x : ℕ) → list_all is_byte (to_one x) ≡ true
one_bytes x = message_bytes (drawn_address x) (drawn 3 1000000 x) (address_bytes (drawn 1 8 x) (drawn 2 16 x) (omega arith) (omega arith))

to_all_bytes : (x : ℕ) → list_all is_byte (to_all x) ≡ true
to_all_bytes x = message_bytes (all_of (drawn 1 8 x)) (drawn 2 1000000 x) (all_bytes (drawn 1 8 x) (omega arith))

to_any_bytes : (x : ℕ) → list_all is_byte (to_any x) ≡ true
to_any_bytes x = message_bytes (any_with (drawn 1 16 x)) (drawn 2 1000000 x) (any_bytes (drawn 1 16 x) (omega arith))

once_bytes : (x : ℕ) → list_all is_byte (at_once x) ≡ true
unfolding at_once
once_bytes x = bundle_bytes 1 (element (to_one x)) (element_bytes (to_one x) (one_bytes x))

two_bytes : (moment x : ℕ) → list_all is_byte (two_of moment x) ≡ true
unfolding two_of
two_bytes moment x =
    bundle_bytes (moment + drawn 1 4096 x) (element (to_one (after 1 x)) ++ element (to_any (after 4 x)))
    (both (element (to_one (after 1 x))) (element (to_any (after 4 x))) (element_bytes (to_one (after 1 x)) (one_bytes (after 1 x)))
    (element_bytes (to_any (after 4 x)) (to_any_bytes (after 4 x))))

nested_bytes : (moment x : ℕ) → list_all is_byte (nested_of moment x) ≡ true
unfolding nested_of
nested_bytes moment x =
    bundle_bytes (moment + drawn 1 4096 x) (element (to_one (after 1 x)) ++ element (at_once (after 4 x)))
    (both (element (to_one (after 1 x))) (element (at_once (after 4 x))) (element_bytes (to_one (after 1 x)) (one_bytes (after 1 x)))
    (element_bytes (at_once (after 4 x)) (once_bytes (after 4 x))))

-- ---- each act that is drawn can be written, in a line of at most 500 bytes

one_small : (x : ℕ) → (0 < length (to_one x)) × (length (to_one x) ≤ 80)
one_small x =
    let pattern = short_member (drawn 1 8 x) (drawn 2 16 x) (omega arith) (omega arith) in
    (omega arith, small_message (drawn_address x) (drawn 3 1000000 x) pattern)

all_small : (x : ℕ) → (0 < length (to_all x)) × (length (to_all x) ≤ 80)
all_small x =
    let pattern = short_all (drawn 1 8 x) (omega arith) in
    (omega arith, small_message (all_of (drawn 1 8 x)) (drawn 2 1000000 x) pattern)

any_small : (x : ℕ) → length (to_any x) ≤ 80
any_small x = small_message (any_with (drawn 1 16 x)) (drawn 2 1000000 x) (short_any (drawn 1 16 x) (omega arith))

once_small : (x : ℕ) → length (at_once x) ≤ 120
unfolding at_once
once_small x = small_bundle 1 (to_one x) (one_small x).1

element_size : (packet : List ℕ) → length (element packet) ≡ 4 + length packet
element_size packet = omega arith

bundle_size : (moment : ℕ) (elements : List ℕ) → length (bundle moment elements) ≡ 16 + length elements
bundle_size moment elements = omega arith

two_small : (moment x : ℕ) → (0 < length (two_of moment x)) × (length (two_of moment x) ≤ 220)
unfolding two_of
two_small moment x =
    let a = element (to_one (after 1 x)) in
    let b = element (to_any (after 4 x)) in
    let size = bundle_size (moment + drawn 1 4096 x) (a ++ b) in (
      omega (arith, size),
      omega (
        arith,
        size,
        length-append a b,
        element_size (to_one (after 1 x)),
        element_size (to_any (after 4 x)),
        (one_small (after 1 x)).1,
        any_small
            (after 4 x),
      ),
    )

nested_small : (moment x : ℕ) → (0 < length (nested_of moment x)) × (length (nested_of moment x) ≤ 230)
unfolding nested_of
nested_small moment x =
    let a = element (to_one (after 1 x)) in
    let b = element (at_once (after 4 x)) in
    let size = bundle_size (moment + drawn 1 4096 x) (a ++ b) in (
      omega (arith, size),
      omega (
        arith,
        size,
        length-append a b,
        element_size (to_one (after 1 x)),
        element_size (at_once (after 4 x)),
        (one_small (after 1 x)).1,
        once_small
            (after 4 x),
      ),
    )

pub writable : (line : LineKind) (moment x : ℕ) → moment < 2 ^ 63 → IsWritable (act_of_kind line moment x)
writable kind.Add moment x lt = lawful_address (drawn 1 8 x) (drawn 2 16 x) (omega arith) (omega arith)
writable kind.Remove moment x lt = lawful_address (drawn 1 8 x) (drawn 2 16 x) (omega arith) (omega arith)
writable kind.Tick moment x lt = omega arith
writable kind.Pump moment x lt = tt
writable kind.One moment x lt = (are_bytes (to_one x) (one_bytes x), (one_small x).0)
writable kind.All moment x lt = (are_bytes (to_all x) (to_all_bytes x), (all_small x).0)
writable kind.Two moment x lt = (are_bytes (two_of moment x) (two_bytes moment x), (two_small moment x).0)
writable kind.Nested moment x lt = (are_bytes (nested_of moment x) (nested_bytes moment x), (nested_small moment x).0)

send_size : (packet : List ℕ) → length packet ≤ 230 → length (act_line (Send packet)) ≤ 500
send_size packet small = omega (arith, length-append (act_text (Send packet)) (10 ∷ []), length-encode_with lower_digits packet)

address_size : (a b : ℕ) → a < 8 → b < 16 → length (member_of a b) ≤ 60
address_size a b p q = short_member a b (omega arith) (omega arith)

pub line_size : (line : LineKind) (moment x : ℕ) → length (act_line (act_of_kind line moment x)) ≤ 500
line_size kind.Add moment x =
    omega (arith, length-append (act_text (act_of_kind kind.Add moment x)) (10 ∷ []), address_size (drawn 1 8 x) (drawn 2 16 x) (omega arith) (omega arith))
line_size kind.Remove moment x =
    omega (arith, length-append (act_text (act_of_kind kind.Remove moment x)) (10 ∷ []), address_size (drawn 1 8 x) (drawn 2 16 x) (omega arith) (omega arith))
line_size kind.Tick moment x =
    omega (arith, length-append (act_text (act_of_kind kind.Tick moment x)) (10 ∷ []), length-encode_with lower_digits (tag (moment + drawn 1 1024 x)))
line_size kind.Pump moment x = omega arith
line_size kind.One moment x = send_size (to_one x) (omega (arith, one_small x))
line_size kind.All moment x = send_size (to_all x) (omega (arith, all_small x))
line_size kind.Two moment x = send_size (two_of moment x) (omega (arith, two_small moment x))
line_size kind.Nested moment x = send_size (nested_of moment x) (omega (arith, nested_small moment x))

rises : (line : LineKind) (moment x : ℕ) → moment_after line moment x ≤ moment + 1024
rises kind.Add moment x = omega arith
rises kind.Remove moment x = omega arith
rises kind.Tick moment x = omega arith
rises kind.Pump moment x = omega arith
rises kind.One moment x = omega arith
rises kind.All moment x = omega arith
rises kind.Two moment x = omega arith
rises kind.Nested moment x = omega arith

-- ---- the whole script

drawn_writable : (lines moment x : ℕ) → moment + 1024 * lines < 2 ^ 63 → AllByRecursion IsWritable (drawn_acts lines moment x)
unfolding drawn_acts
drawn_writable zero moment x lt = tt
drawn_writable (suc lines) moment x lt =
    let line = kind_of (drawn 1 32 x) in
    let next = after 1 x in (
      writable line moment next (omega arith),
      drawn_writable lines (moment_after line moment next) (after (draws_of line) next)
          (omega (arith, rises line moment next)),
    )

drawn_size : (lines moment x : ℕ) → length (flat_map act_line (drawn_acts lines moment x)) ≤ 500 * lines
unfolding drawn_acts
drawn_size zero moment x = omega arith
drawn_size (suc lines) moment x =
    let line = kind_of (drawn 1 32 x) in
    let next = after 1 x in
    let rest = flat_map act_line (drawn_acts lines (moment_after line moment next) (after (draws_of line) next)) in
    omega (
      arith,
      length-append (act_line (act_of_kind line moment next)) rest,
      line_size line moment next,
      drawn_size lines (moment_after line moment next)
          (after (draws_of line) next),
    )

first_writable : (lines k : ℕ) → k + lines ≤ 64 → AllByRecursion IsWritable (first_acts lines k)
unfolding first_acts
first_writable zero k le = tt
first_writable (suc lines) k le = (lawful_address (k % 8) (k / 8) (omega arith) (omega arith), first_writable lines (k + 1) (omega arith))

first_size : (lines k : ℕ) → k + lines ≤ 64 → length (flat_map act_line (first_acts lines k)) ≤ 500 * lines
unfolding first_acts
first_size zero k le = omega arith
first_size (suc lines) k le =
    let rest = flat_map act_line (first_acts lines (k + 1)) in
    omega (
      arith,
      length-append (act_line (Add (member_of (k % 8) (k / 8)))) rest,
      length-append (act_text (Add (member_of (k % 8) (k / 8)))) (10 ∷ []),
      address_size (k % 8) (k / 8) (omega arith) (omega arith),
      first_size lines (k + 1) (omega arith),
    )

all_append : (xs ys : List Act) → AllByRecursion IsWritable xs → AllByRecursion IsWritable ys → AllByRecursion IsWritable (xs ++ ys)
all_append [] ys p q = q
all_append (x ∷ xs) ys p q = (p.0, all_append xs ys p.1 q)

pub drawn_again : (seed lines : ℕ) → lines ≤ MAX_GENERATED_LINES
    → script_of Plain (generated_script seed lines) ≡ Ok (numbered 1 (generated_acts seed lines))
drawn_again seed lines few =
    let first = first_acts (min lines 64) 0 in
    let later = drawn_acts (lines - 64) 2 seed in
    let all : AllByRecursion IsWritable (first ++ later) =
    all_append first later (first_writable (min lines 64) 0 (omega arith)) (drawn_writable (lines - 64) 2 seed (omega arith)) in
    let size : length (written (first ++ later)) ≤ MAX_SCRIPT =
    omega (
      arith,
      ap length (flat_map-append act_line first later),
      length-append (written first) (written later),
      first_size (min lines 64) 0 (omega arith),
      drawn_size (lines - 64) 2 seed,
    ) in
    script_again (first ++ later) all size

first_many : (lines k : ℕ) → length (first_acts lines k) ≡ lines
unfolding first_acts
first_many zero k = refl
first_many (suc lines) k = ap suc (first_many lines (k + 1))

drawn_many : (lines moment x : ℕ) → length (drawn_acts lines moment x) ≡ lines
unfolding drawn_acts
drawn_many zero moment x = refl
drawn_many (suc lines) moment x =
    let line = kind_of (drawn 1 32 x) in
    let next = after 1 x in
    ap suc (drawn_many lines (moment_after line moment next) (after (draws_of line) next))

pub so_many : (seed lines : ℕ) → length (generated_acts seed lines) ≡ lines
so_many seed lines =
    omega (arith, length-append (first_acts (min lines 64) 0) (drawn_acts (lines - 64) 2 seed), first_many (min lines 64) 0, drawn_many (lines - 64) 2 seed)
