-- A unit's calls are exactly those of its messages on the methods that match, in order.
use Rattle.std.proofs.Common.{◌≡◌, ◌⊎◌, inl, inr, ℕ, zero, suc, ◌+◌, Bool, true, cond, IsTrue, List, [], ◌∷◌, Option, Some, None, is_some, slice_get, refl, sym}
use Rattle.std.proofs.Common.{ap, subst, ◌∙◌, arith}
use Rattle.std.specs.List.{Contains}
use Rattle.std.proofs.lemmas.List.Elements.{Contains-append_left, Contains-append_right, Contains-append_cases}
use Rattle.std.proofs.lemmas.List.Sorted.{IsPermutation-sym, Contains-permutation}
use Rattle.osc_message.specs.Reading.{pattern_of}
use Rattle.osc_message.specs.Arguments.{unknown_of}
use Rattle.osc_pattern.specs.Methods.{Method}
use Rattle.osc_pattern.specs.Patterns.{matches}
use Rattle.osc_tree.specs.Matching.{matched, matching}
use Rattle.osc_model.specs.Events.{Call}
use Rattle.osc_model.specs.Step.{matching_calls, calls_of, calls_from}
use Rattle.osc_model.proofs.Calls.{MatchesExactly}
use Rattle.osc_laws.proofs.Members.{none_in, passed, passes, sent, sent_from}

-- a method's call
abbrev pub called : ℕ → List ℕ → Method → Call
called index message method = record { index = index; id = method.id; address = method.address; message = message }

abbrev pub method_of : Call → Method
method_of call = record { id = call.id; address = call.address }

-- a call of a message at an index, on one of the methods that match
record IsOneCall (methods : List Method) (index : ℕ) (message : List ℕ) (call : Call) : Type 0 where
  index_is : call.index ≡ index
  message_is : call.message ≡ message
  known : unknown_of call.message ≡ None
  registered : Contains methods (method_of call)
  matched : IsTrue (matches (pattern_of call.message) call.address)

-- a call of one of the messages that stand from an index on
pub record IsCallFrom (methods : List Method) (index : ℕ) (messages : List (List ℕ)) (call : Call) : Type 0 where
  pub place : ℕ
  pub index_is : call.index ≡ index + place
  pub message_is : slice_get messages place ≡ Some call.message
  pub known : unknown_of call.message ≡ None
  pub registered : Contains methods (method_of call)
  pub matched : IsTrue (matches (pattern_of call.message) call.address)

one_call : MatchesExactly → (methods : List Method) (index : ℕ) (message : List ℕ) (call : Call) → Contains (calls_of methods index message) call
    → IsOneCall methods index message call
one_call exactly methods index message call held = go (unknown_of message) refl held where
  test : Method → Bool
  test method = matches (pattern_of message) method.address

  go : (tag : Option ℕ) → unknown_of message ≡ tag → Contains (cond (is_some tag) [] (matching_calls methods index message)) call
      → IsOneCall methods index message call
  go (Some tag) e held = absurd (none_in call held)
  go None e held =
      let from = sent_from (called index message) (matching (pattern_of message) methods) call held in
      let back = IsPermutation-sym (matched (pattern_of message) methods) (matching (pattern_of message) methods)
      (exactly.listed (pattern_of message) methods) in
      let among = passed test methods from.0
      (Contains-permutation (matching (pattern_of message) methods) (matched (pattern_of message) methods) from.0 back from.1) in
      subst (IsOneCall methods index message) from.2 (record { index_is = refl; message_is = refl; known = e; registered = among.0; matched = among.1 })

call_one : MatchesExactly → (methods : List Method) (index : ℕ) (message : List ℕ) (call : Call) → IsOneCall methods index message call
    → Contains (calls_of methods index message) call
call_one exactly methods index message call is = go (unknown_of message) refl where
  test : Method → Bool
  test method = matches (pattern_of message) method.address

  known : unknown_of message ≡ None
  known = ap unknown_of (sym is.message_is) ∙ is.known

  go : (tag : Option ℕ) → unknown_of message ≡ tag → Contains (cond (is_some tag) [] (matching_calls methods index message)) call
  go (Some tag) e = absurd (let no : None ≡ Some tag = sym known ∙ e in cc)
  go None e =
      let matched_is : test (method_of call) ≡ true = ap (λ (m : List ℕ). matches (pattern_of m) call.address) (sym is.message_is) ∙ is.matched in
      let among = Contains-permutation (matched (pattern_of message) methods) (matching (pattern_of message) methods) (method_of call)
      (exactly.listed (pattern_of message) methods) (passes test methods (method_of call) is.registered matched_is) in
      let same : called index message (method_of call) ≡ call =
      λ i. record { index = sym is.index_is i; id = call.id; address = call.address; message = sym is.message_is i } in
      subst (Contains (matching_calls methods index message)) same (sent (called index message) (matching (pattern_of message) methods) (method_of call) among)

pub calls_are : MatchesExactly → (methods : List Method) (index : ℕ) (messages : List (List ℕ)) (call : Call)
    → Contains (calls_from methods index messages) call → IsCallFrom methods index messages call
calls_are exactly methods index [] call held = absurd (none_in call held)
calls_are exactly methods index (message ∷ messages) call held =
    go (Contains-append_cases (calls_of methods index message) (calls_from methods (index + 1) messages) call held)
    (calls_are exactly methods (index + 1) messages call)
  where
    go : Contains (calls_of methods index message) call ⊎ Contains (calls_from methods (index + 1) messages) call
        → (Contains (calls_from methods (index + 1) messages) call → IsCallFrom methods (index + 1) messages call)
        → IsCallFrom methods index (message ∷ messages) call
    go (inl here) rest =
        let is = one_call exactly methods index message call here in
        let index_is = is.index_is in
        record {
          place = 0;
          index_is = omega (arith, index_is);
          message_is = ap Some (sym is.message_is);
          known = is.known;
          registered = is.registered;
          matched = is.matched;
        }
    go (inr behind) rest =
        let is = rest behind in
        let index_is = is.index_is in
        record {
          place = suc is.place;
          index_is = omega (arith, index_is);
          message_is = is.message_is;
          known = is.known;
          registered = is.registered;
          matched = is.matched;
        }

-- a call of one of the messages is among them, by its place
placed_call : MatchesExactly → (methods : List Method) (index : ℕ) (messages : List (List ℕ)) (call : Call) (place : ℕ) → call.index ≡ index + place
    → slice_get messages place ≡ Some call.message → unknown_of call.message ≡ None
    → Contains methods (method_of call) → IsTrue (matches (pattern_of call.message) call.address) → Contains (calls_from methods index messages) call
placed_call exactly methods index [] call zero index_is message_is known registered matched = absurd (cc)
placed_call exactly methods index [] call (suc place) index_is message_is known registered matched = absurd (cc)
placed_call exactly methods index (message ∷ messages) call zero index_is message_is known registered matched =
    let same : message ≡ call.message = cc in
    Contains-append_left (calls_of methods index message) (calls_from methods (index + 1) messages) call
    (call_one exactly methods index message call
    (record { index_is = omega (arith, index_is); message_is = sym same; known = known; registered = registered; matched = matched }))
placed_call exactly methods index (message ∷ messages) call (suc place) index_is message_is known registered matched =
    Contains-append_right (calls_of methods index message) (calls_from methods (index + 1) messages) call
    (placed_call exactly methods (index + 1) messages call place (omega (arith, index_is)) message_is known registered matched)

pub are_calls : MatchesExactly → (methods : List Method) (index : ℕ) (messages : List (List ℕ)) (call : Call) → IsCallFrom methods index messages call
    → Contains (calls_from methods index messages) call
are_calls exactly methods index messages call is =
    placed_call exactly methods index messages call is.place is.index_is is.message_is is.known is.registered is.matched
