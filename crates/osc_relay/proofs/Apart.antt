-- Calls with the same bytes have the same messages.
use Rattle.std.proofs.Common.{◌≡◌, ℕ, ◌-◌, ◌<◌, ◌≤◌, ◌^◌, List, [], ◌∷◌, ◌++◌, length, take, drop, refl, sym, ap, ◌∙◌, subst, arith, length-drop}
use Rattle.std.specs.Int.{w32, from_be_bytes}
use Rattle.std.specs.List.{AllByRecursion}
use Rattle.std.proofs.lemmas.List.{append_cancel_left, take_at}
use Rattle.std.proofs.lemmas.Nat.{from_be_bytes-to_be_bytes_4}
use Rattle.osc_atoms.specs.Atoms.{word}
use Rattle.osc_method.specs.Heard.{last_of}
use Rattle.osc_relay.specs.Sent.{Called, IsShort, called_text, calls_text, messages_of}

word_apart : (a b : ℕ) (x y : List ℕ) → a < 2 ^ 32 → b < 2 ^ 32 → word a ++ x ≡ word b ++ y → (a ≡ b) × (x ≡ y)
word_apart a b x y fits fits_other same =
    let front : word a ≡ word b = ap (take 4) same in
    (sym (from_be_bytes-to_be_bytes_4 a fits) ∙ ap (from_be_bytes w32) front ∙ from_be_bytes-to_be_bytes_4 b fits_other, ap (drop 4) same)

-- of two calls' texts none is the front of the other, unless they have one message
call_apart : (one other : Called) (x y : List ℕ) → IsShort one → IsShort other → called_text one ++ x ≡ called_text other ++ y
    → (one.message ≡ other.message) × (x ≡ y)
call_apart one other x y short short_other same =
    let sized : word (length one.message) ++ (one.message ++ x) ≡ word (length other.message) ++ (other.message ++ y) = ap (drop 12) same in
    let sizes = word_apart (length one.message) (length other.message) (one.message ++ x) (other.message ++ y) short short_other sized in
    let messages : one.message ≡ other.message =
    sym (take_at one.message x (length one.message) refl) ∙ ap (take (length one.message)) sizes.1
    ∙ take_at other.message y (length one.message) (sym sizes.0) in
    (messages, append_cancel_left one.message x y (sizes.1 ∙ ap (λ (m : List ℕ). m ++ y) (sym messages)))

abbrev is_empty : List ℕ → Type 0
is_empty [] = Unit {0}
is_empty (byte ∷ bytes) = ⊥

none_has_text : (call : Called) (rest : List ℕ) → [] ≡ called_text call ++ rest → ⊥
none_has_text call rest same = subst is_empty same tt

calls_apart : (one other : List Called) → AllByRecursion IsShort one → AllByRecursion IsShort other → calls_text one ≡ calls_text other
    → messages_of one ≡ messages_of other
calls_apart [] [] short short_other same = refl
calls_apart [] (b ∷ other) short short_other same = absurd (none_has_text b (calls_text other) same)
calls_apart (a ∷ one) [] short short_other same = absurd (none_has_text a (calls_text one) (sym same))
calls_apart (a ∷ one) (b ∷ other) short short_other same =
    let first = call_apart a b (calls_text one) (calls_text other) short.0 short_other.0 same in
    ap (λ (m : List ℕ). m ∷ messages_of one) first.0
    ∙ ap (λ (l : List (List ℕ)). b.message ∷ l) (calls_apart one other short.1 short_other.1 first.1)

last_of-all : (keep : ℕ) (bytes : List ℕ) → length bytes ≤ keep → last_of keep bytes ≡ bytes
last_of-all keep bytes few = let none : length bytes - keep ≡ 0 = omega arith in ap (λ (n : ℕ). drop n bytes) none

-- bytes of which fewer than are kept are the last ones are all
few_are_all : (keep : ℕ) (one other : List ℕ) → length one < keep → last_of keep one ≡ last_of keep other → one ≡ other
few_are_all keep one other few same =
    let whole : last_of keep one ≡ one = last_of-all keep one (omega (arith, few)) in
    let sizes : length one ≡ length other - (length other - keep) = sym (ap length whole) ∙ ap length same ∙ length-drop (length other - keep) other in
    sym whole ∙ same ∙ last_of-all keep other (omega (arith, few, sizes))

pub called_alike : (keep : ℕ) (calls others : List Called) → AllByRecursion IsShort calls → AllByRecursion IsShort others
    → length (calls_text calls) < keep → last_of keep (calls_text calls) ≡ last_of keep (calls_text others) → messages_of others ≡ messages_of calls
called_alike keep calls others short short_others few same =
    sym (calls_apart calls others short short_others (few_are_all keep (calls_text calls) (calls_text others) few same))
