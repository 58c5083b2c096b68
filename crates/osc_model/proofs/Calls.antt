-- The calls of a unit are of registered methods whose addresses match.
use Rattle.std.proofs.Common.{◌≡◌, ◌↔◌, ℕ, suc, ◌+◌, ◌<◌, Bool, true, false, cond, IsTrue, List, [], ◌∷◌, ◌++◌, map, length, Option, Some, None, is_some}
use Rattle.std.proofs.Common.{slice_index_or, refl, sym, subst, arith, zero-add, add-zero}
use Rattle.std.specs.List.{AllByRecursion, Contains}
use Rattle.std.specs.List.Sorted.{IsPermutation}
use Rattle.std.proofs.lemmas.List.Elements.{All-from_recursion, recursion_from_All}
use Rattle.std.proofs.lemmas.List.Sorted.{All-permutation}
use Rattle.osc_message.specs.Reading.{pattern_of}
use Rattle.osc_message.specs.Arguments.{unknown_of}
use Rattle.osc_pattern.specs.Methods.{Method}
use Rattle.osc_pattern.specs.Patterns.{matches, Match}
use Rattle.osc_queue.specs.Timed.{unit_of}
use Rattle.osc_tree.specs.Matching.{matched, matching}
use Rattle.osc_model.specs.State.{Queued, State}
use Rattle.osc_model.specs.Events.{Call, Invocation}
use Rattle.osc_model.specs.Step.{matching_calls, calls_of, calls_from, calls_of_unit, invocations_of}
use Rattle.osc_model.specs.Releases.{IsCallIn}

-- the methods that are called are exactly those that match, by a test that decides the relation
pub record MatchesExactly : Type 0 where
  pub listed : (pattern : List ℕ) (methods : List Method) → IsPermutation (matched pattern methods) (matching pattern methods)
  pub decides : (pattern address : List ℕ) → IsTrue (matches pattern address) ↔ Match pattern address

pub all_more : {X : Type 0} (P Q : X → Type 0) → ((x : X) → P x → Q x) → (xs : List X) → AllByRecursion P xs → AllByRecursion Q xs
all_more P Q f [] all = tt
all_more P Q f (x ∷ xs) all = (f x all.0, all_more P Q f xs all.1)

all_map : {X Y : Type 0} (P : Y → Type 0) (f : X → Y) (xs : List X) → AllByRecursion (λ x. P (f x)) xs → AllByRecursion P (map f xs)
all_map P f [] all = tt
all_map P f (x ∷ xs) all = (all.0, all_map P f xs all.1)

pub all_append : {X : Type 0} (P : X → Type 0) (xs ys : List X) → AllByRecursion P xs → AllByRecursion P ys → AllByRecursion P (xs ++ ys)
all_append P [] ys all more = more
all_append P (x ∷ xs) ys all more = (all.0, all_append P xs ys all.1 more)

-- a method that is among others and whose address the pattern matches
abbrev IsMatchOf : List ℕ → List Method → Method → Type 0
IsMatchOf pattern methods method = Contains methods method × IsTrue (matches pattern method.address)

one_behind : (pattern : List ℕ) (first : Method) (methods : List Method) (method : Method) → IsMatchOf pattern methods method
    → IsMatchOf pattern (first ∷ methods) method
one_behind pattern first methods method is = ((suc is.0.0, omega (arith, is.0.1), is.0.2), is.1)

all_matched : (pattern : List ℕ) (methods : List Method) → AllByRecursion (IsMatchOf pattern methods) (matched pattern methods)
all_matched pattern [] = tt
all_matched pattern (method ∷ methods) =
    go (matches pattern method.address) refl (all_more _ _ (one_behind pattern method methods) (matched pattern methods) (all_matched pattern methods)) where
      go : (t : Bool) → matches pattern method.address ≡ t → AllByRecursion (IsMatchOf pattern (method ∷ methods)) (matched pattern methods)
          → AllByRecursion (IsMatchOf pattern (method ∷ methods)) (cond t (method ∷ matched pattern methods) (matched pattern methods))
      go true e more = (((0, omega arith, refl), e), more)
      go false e more = more

all_matching : MatchesExactly → (pattern : List ℕ) (methods : List Method) → AllByRecursion (IsMatchOf pattern methods) (matching pattern methods)
all_matching exactly pattern methods =
    recursion_from_All (IsMatchOf pattern methods) (matching pattern methods)
    (All-permutation (IsMatchOf pattern methods) (matched pattern methods) (matching pattern methods) (exactly.listed pattern methods)
    (All-from_recursion (IsMatchOf pattern methods) (matched pattern methods) (all_matched pattern methods)))

-- the messages are those of a whole list from a place on
abbrev StandFrom : List (List ℕ) → ℕ → List (List ℕ) → Type 0
StandFrom whole index messages = (k : ℕ) → k < length messages
    → (index + k < length whole) × (slice_index_or whole (index + k) [] ≡ slice_index_or messages k [])

abbrev StandsAt : List (List ℕ) → ℕ → List ℕ → Type 0
StandsAt whole index message = (index < length whole) × (slice_index_or whole index [] ≡ message)

first_stands : (whole : List (List ℕ)) (index : ℕ) (message : List ℕ) (messages : List (List ℕ)) → StandFrom whole index (message ∷ messages)
    → StandsAt whole index message
first_stands whole index message messages stand = subst (λ (n : ℕ). StandsAt whole n message) (add-zero index) (stand 0 (omega arith))

others_stand : (whole : List (List ℕ)) (index : ℕ) (message : List ℕ) (messages : List (List ℕ)) → StandFrom whole index (message ∷ messages)
    → StandFrom whole (index + 1) messages
others_stand whole index message messages stand k within =
    let place : index + suc k ≡ index + 1 + k = omega arith in
    subst (λ (n : ℕ). StandsAt whole n (slice_index_or messages k [])) place (stand (suc k) (omega arith))

all_stand : (messages : List (List ℕ)) → StandFrom messages 0 messages
all_stand messages k within = subst (λ (n : ℕ). StandsAt messages n (slice_index_or messages k [])) (sym (zero-add k)) (within, refl)

abbrev invocation : ℕ → Call → Invocation
invocation number call = record { unit = number; call = call }

-- the calls of the unit's message at an index
message_calls : MatchesExactly → (state : State) (unit : Queued) (index : ℕ) (message : List ℕ) → StandsAt unit.2.messages index message
    → AllByRecursion (λ call. IsCallIn state unit (invocation (unit_of unit) call)) (calls_of state.methods index message)
message_calls exactly state unit index message stands = go (unknown_of message) refl where
  one : unknown_of message ≡ None → (method : Method) → IsMatchOf (pattern_of message) state.methods method
      → IsCallIn state unit (invocation (unit_of unit) (record { index = index; id = method.id; address = method.address; message = message }))
  one known method is = record {
    of_unit = refl;
    within = stands.0;
    message = stands.1;
    known = known;
    registered = is.0;
    matched = (exactly.decides (pattern_of message) method.address).0 is.1;
  }

  go : (tag : Option ℕ) → unknown_of message ≡ tag
      → AllByRecursion (λ call. IsCallIn state unit (invocation (unit_of unit) call)) (cond (is_some tag) [] (matching_calls state.methods index message))
  go (Some tag) is = tt
  go None is =
      all_map (λ call. IsCallIn state unit (invocation (unit_of unit) call))
      (λ method. record { index = index; id = method.id; address = method.address; message = message }) (matching (pattern_of message) state.methods)
      (all_more _ _ (one is) (matching (pattern_of message) state.methods) (all_matching exactly (pattern_of message) state.methods))

-- the calls of the unit's messages from an index on
calls_behind : MatchesExactly → (state : State) (unit : Queued) (index : ℕ) (messages : List (List ℕ)) → StandFrom unit.2.messages index messages
    → AllByRecursion (λ call. IsCallIn state unit (invocation (unit_of unit) call)) (calls_from state.methods index messages)
calls_behind exactly state unit index [] stand = tt
calls_behind exactly state unit index (message ∷ messages) stand =
    all_append _ (calls_of state.methods index message) (calls_from state.methods (index + 1) messages)
    (message_calls exactly state unit index message (first_stands unit.2.messages index message messages stand))
    (calls_behind exactly state unit (index + 1) messages (others_stand unit.2.messages index message messages stand))

-- the invocations of a unit are calls of it
pub unit_calls : MatchesExactly → (state : State) (unit : Queued)
    → AllByRecursion (IsCallIn state unit) (invocations_of (unit_of unit) (calls_of_unit state.methods unit))
unit_calls exactly state unit =
    all_map (IsCallIn state unit) (invocation (unit_of unit)) (calls_of_unit state.methods unit)
    (calls_behind exactly state unit 0 unit.2.messages (all_stand unit.2.messages))
