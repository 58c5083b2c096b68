-- A unit's calls stand in order: message by message, and within a message by their addresses.
use Rattle.std.proofs.Common.{◌≡◌, ◌≢◌, inl, inr, ℕ, ◌+◌, ◌<◌, ◌≤◌, Bool, true, false, cond, List, [], ◌∷◌, ◌++◌, map, Option, Some, None, is_some, Ordering}
use Rattle.std.proofs.Common.{Less, Equal, Greater, refl, sym, ap, ◌∙◌, arith}
use Rattle.std.specs.List.{AllByRecursion, AllPairs}
use Rattle.std.specs.Ordering.{is_lt, is_eq, ordering_reverse, nat_cmp}
use Rattle.std.specs.Cmp.Lexicographic.{slice_cmp}
use Rattle.std.specs.Str.{bytes_eq}
use Rattle.std.proofs.lemmas.Cmp.{nat_list_cmp_total}
use Rattle.std.proofs.lemmas.Map.Text.{is_eq-slice_cmp}
use Rattle.std.proofs.lemmas.List.Kept.{AllPairs-filter}
use Rattle.std.proofs.lemmas.Slice.Eq.{bytes_eq-Decides}
use Rattle.osc_message.specs.Reading.{pattern_of}
use Rattle.osc_message.specs.Arguments.{unknown_of}
use Rattle.osc_pattern.specs.Methods.{Method}
use Rattle.osc_pattern.specs.Patterns.{matches}
use Rattle.osc_tree.specs.Matching.{is_below, matched, matching, IsAscending}
use Rattle.osc_model.specs.Events.{Call}
use Rattle.osc_model.specs.Step.{matching_calls, calls_of, calls_from}
use Rattle.osc_model.proofs.Calls.{MatchesExactly, all_more, all_append}
use Rattle.osc_laws.specs.Consecutive.{IsBelow, ComesBefore}
use Rattle.osc_laws.specs.Exactly.{AreInOrder}
use Rattle.osc_laws.proofs.Tallies.{times, times_permuted, none_from, none_behind, at_most_one}
use Rattle.osc_laws.proofs.ExactCalls.{called}

-- the methods that are called ascend
abbrev pub Ascends : Type 0
Ascends = (pattern : List ℕ) (methods : List Method) → IsAscending (matching pattern methods)

-- of two addresses that differ the one is below, where the other isn't
is_below_other : (one other : List ℕ) → is_lt (slice_cmp nat_cmp other one) ≡ false → bytes_eq other one ≡ false → IsBelow one other
is_below_other one other above differ = go (slice_cmp nat_cmp other one) refl where
  go : (r : Ordering) → slice_cmp nat_cmp other one ≡ r → IsBelow one other
  go Less e = absurd (let no : is_lt (slice_cmp nat_cmp other one) ≡ true = ap is_lt e in cc)
  go Equal e = absurd (let no : bytes_eq other one ≡ true = sym (is_eq-slice_cmp other one) ∙ ap is_eq e in cc)
  go Greater e = ap is_lt (nat_list_cmp_total.antisymm one other ∙ ap ordering_reverse e)

-- the test of an address
abbrev has_address : List ℕ → Method → Bool
has_address address method = bytes_eq method.address address

-- each address is that of one method at most
abbrev AreApart : List Method → Type 0
AreApart methods = (address : List ℕ) → times (has_address address) methods ≤ 1

other_address : (one other address : List ℕ) → bytes_eq one address ≡ true → one ≢ other → bytes_eq other address ≡ false
other_address one other address is differ = go (bytes_eq other address) refl where
  go : (t : Bool) → bytes_eq other address ≡ t → bytes_eq other address ≡ false
  go false e = e
  go true e = absurd (differ ((bytes_eq-Decides one address).0 is ∙ sym ((bytes_eq-Decides other address).0 e)))

matching_apart : MatchesExactly → (pattern : List ℕ) (methods : List Method) → AllPairs (λ a b. a.address ≢ b.address) methods
    → AreApart (matching pattern methods)
matching_apart exactly pattern methods pairs address =
    let differ : Method → Method → Type 0 = λ a b. a.address ≢ b.address in
    let kept = AllPairs-filter differ (λ method. matches pattern method.address) methods pairs in
    let few = at_most_one differ (has_address address) (matched pattern methods) (λ a b is apart. other_address a.address b.address address is apart) kept in
    let same = times_permuted (has_address address) (matched pattern methods) (matching pattern methods) (exactly.listed pattern methods) in
    omega (arith, few, same)

-- Within a message.

-- the calls of methods behind a lower one come after its own
behind_call : (index : ℕ) (message : List ℕ) (method : Method) (methods : List Method) → AllByRecursion (λ other. is_below other method ≡ false) methods
    → AllByRecursion (λ other. has_address method.address other ≡ false) methods
    → AllByRecursion (ComesBefore (called index message method)) (map (called index message) methods)
behind_call index message method [] above differ = tt
behind_call index message method (other ∷ methods) above differ =
    (inr (refl, is_below_other method.address other.address above.0 differ.0), behind_call index message method methods above.1 differ.1)

rising_calls : (index : ℕ) (message : List ℕ) (methods : List Method) → IsAscending methods → AreApart methods → AreInOrder (map (called index message) methods)
rising_calls index message [] ascending apart = tt
rising_calls index message (method ∷ methods) ascending apart =
    let itself : has_address method.address method ≡ true = (bytes_eq-Decides method.address method.address).1 refl in
    let differ = none_from (has_address method.address) methods (none_behind (has_address method.address) method methods itself (apart method.address)) in
    let rest : AreApart methods = λ address. fewer address (apart address) in
    (behind_call index message method methods ascending.0 differ, rising_calls index message methods ascending.1 rest)
  where
    fewer : (address : List ℕ) → times (has_address address) (method ∷ methods) ≤ 1 → times (has_address address) methods ≤ 1
    fewer address most = omega arith

message_in_order : MatchesExactly → Ascends → (methods : List Method) (index : ℕ) (message : List ℕ) → AllPairs (λ a b. a.address ≢ b.address) methods
    → AreInOrder (calls_of methods index message)
message_in_order exactly ascends methods index message pairs = go (unknown_of message) where
  go : (tag : Option ℕ) → AreInOrder (cond (is_some tag) [] (matching_calls methods index message))
  go (Some tag) = tt
  go None = rising_calls index message (matching (pattern_of message) methods) (ascends (pattern_of message) methods)
      (matching_apart exactly (pattern_of message) methods pairs)

-- From message to message.

all_called : (index : ℕ) (message : List ℕ) (methods : List Method) → AllByRecursion (λ call. call.index ≡ index) (map (called index message) methods)
all_called index message [] = tt
all_called index message (method ∷ methods) = (refl, all_called index message methods)

all_at : (methods : List Method) (index : ℕ) (message : List ℕ) → AllByRecursion (λ call. call.index ≡ index) (calls_of methods index message)
all_at methods index message = go (unknown_of message) where
  go : (tag : Option ℕ) → AllByRecursion (λ call. call.index ≡ index) (cond (is_some tag) [] (matching_calls methods index message))
  go (Some tag) = tt
  go None = all_called index message (matching (pattern_of message) methods)

all_from : (methods : List Method) (index : ℕ) (messages : List (List ℕ)) → AllByRecursion (λ call. index ≤ call.index) (calls_from methods index messages)
all_from methods index [] = tt
all_from methods index (message ∷ messages) =
    all_append _ (calls_of methods index message) (calls_from methods (index + 1) messages)
    (all_more _ _ (λ (call : Call) is. here call.index is) (calls_of methods index message) (all_at methods index message))
    (all_more _ _ (λ (call : Call) more. behind call.index more) (calls_from methods (index + 1) messages) (all_from methods (index + 1) messages))
  where
    here : (n : ℕ) → n ≡ index → index ≤ n
    here n is = omega arith

    behind : (n : ℕ) → index + 1 ≤ n → index ≤ n
    behind n more = omega arith

-- calls of one message stand before those of later ones
joined_in_order : (index : ℕ) (calls more : List Call) → AreInOrder calls → AllByRecursion (λ call. call.index ≡ index) calls → AreInOrder more
    → AllByRecursion (λ call. index + 1 ≤ call.index) more → AreInOrder (calls ++ more)
joined_in_order index [] more ordered at behind later = behind
joined_in_order index (call ∷ calls) more ordered at behind later = (
  all_append _ calls more ordered.0 (all_more _ _ (λ (other : Call) above. inl (lower call.index other.index at.0 above)) more later),
  joined_in_order index
      calls more ordered.1 at.1 behind later,
)
  where
    lower : (m n : ℕ) → m ≡ index → index + 1 ≤ n → m < n
    lower m n is above = omega arith

pub calls_in_order : MatchesExactly → Ascends → (methods : List Method) (index : ℕ) (messages : List (List ℕ)) → AllPairs (λ a b. a.address ≢ b.address) methods
    → AreInOrder (calls_from methods index messages)
calls_in_order exactly ascends methods index [] pairs = tt
calls_in_order exactly ascends methods index (message ∷ messages) pairs =
    joined_in_order index (calls_of methods index message) (calls_from methods (index + 1) messages)
    (message_in_order exactly ascends methods index message pairs) (all_at methods index message)
    (calls_in_order exactly ascends methods (index + 1) messages pairs) (all_from methods (index + 1) messages)
