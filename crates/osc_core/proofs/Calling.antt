-- Methods by their ids, and the calls of the methods that match.
use Rattle.std.proofs.Common.{◌≡◌, ℕ, suc, ◌+◌, Bool, true, false, cond, List, [], ◌∷◌, ◌++◌, length, length-append, map, is_some, Some, All, refl}
use Rattle.std.proofs.Common.{sym, ap, ◌∙◌, arith}
use Rattle.std.proofs.lemmas.Bool.{cond-false}
use Rattle.std.proofs.lemmas.List.{append-nil, length-map}
use Rattle.osc_pattern.specs.Methods.{Method}
use Rattle.osc_tree.specs.Registry.{address_by_id}
use Rattle.osc_tree.specs.Matching.{matching, matching_ids}
use Rattle.osc_method.specs.declared.call.Call.{Call as CodeCall}
use Rattle.osc_message.specs.Reading.{pattern_of}
use Rattle.osc_message.specs.Arguments.{unknown_of}
use Rattle.osc_model.specs.Step.{calls_of, calls_from, matching_calls, hits_of, invocations_of}
use Rattle.osc_model.specs.Events.{Call, Hit, Invocation}
use Rattle.osc_model.specs.Calls.{call_by}
use Rattle.osc_model.proofs.ByIds.{called}
use Rattle.osc_core.specs.Calls.{invocation_by, invoked_ids}

-- the invocations of the methods that a message invokes are those of its calls
pub invoked : (methods : List Method) (call : CodeCall) (ids : List ℕ)
    → map (invocation_by methods call) ids ≡ invocations_of call.unit (map (call_by methods call.index call.message) ids)
invoked methods call [] = refl
invoked methods call (id ∷ ids) = ap (λ (l : List Invocation). invocation_by methods call id ∷ l) (invoked methods call ids)

pub hit : (methods : List Method) (call : CodeCall) (ids : List ℕ)
    → map (λ id. record { index = call.index; id = id }) ids ≡ hits_of (map (call_by methods call.index call.message) ids)
hit methods call [] = refl
hit methods call (id ∷ ids) = ap (λ (l : List Hit). record { index = call.index; id = id } ∷ l) (hit methods call ids)

-- a message's calls are those of the ids that it invokes
pub calls_by_ids : (methods : List Method) (index : ℕ) (message : List ℕ) → is_some (unknown_of message) ≡ false
    → All (λ method. address_by_id methods method.id ≡ Some method.address) (matching (pattern_of message) methods)
    → map (call_by methods index message) (matching_ids (pattern_of message) methods) ≡ calls_of methods index message
calls_by_ids methods index message known own =
    called methods (matching (pattern_of message) methods) index message own
    ∙ sym (cond-false (is_some (unknown_of message)) [] (matching_calls methods index message) known)

-- as many calls as ids
pub as_many_calls : (methods : List Method) (index : ℕ) (message : List ℕ) → length (calls_of methods index message) ≡ length (invoked_ids methods message)
as_many_calls methods index message = go (is_some (unknown_of message)) where
  go : (t : Bool) → length (cond t [] (matching_calls methods index message)) ≡ length (cond t [] (matching_ids (pattern_of message) methods))
  go true = refl
  go false = length-map (matching (pattern_of message) methods)
      (λ method. record { index = index; id = method.id; address = method.address; message = message })
      ∙ sym (length-map (matching (pattern_of message) methods) (λ (method : Method). method.id))

pub length-hits_of : (calls : List Call) → length (hits_of calls) ≡ length calls
length-hits_of [] = refl
length-hits_of (call ∷ calls) = ap suc (length-hits_of calls)

pub hits_in_two : (first more : List Call) → hits_of (first ++ more) ≡ hits_of first ++ hits_of more
hits_in_two [] more = refl
hits_in_two (call ∷ first) more = ap (λ (l : List Hit). record { index = call.index; id = call.id } ∷ l) (hits_in_two first more)

pub invocations_in_two : (unit : ℕ) (first more : List Call) → invocations_of unit (first ++ more) ≡ invocations_of unit first ++ invocations_of unit more
invocations_in_two unit [] more = refl
invocations_in_two unit (call ∷ first) more = ap (λ (l : List Invocation). record { unit = unit; call = call } ∷ l) (invocations_in_two unit first more)

-- how many calls there are doesn't hang on where the messages stand
pub same_many : (methods : List Method) (i j : ℕ) (messages : List (List ℕ)) → length (calls_from methods i messages) ≡ length (calls_from methods j messages)
same_many methods i j [] = refl
same_many methods i j (message ∷ messages) =
    omega (
      arith,
      length-append (calls_of methods i message) (calls_from methods (i + 1) messages),
      length-append (calls_of methods j message)
          (calls_from methods (j + 1) messages),
      as_many_calls methods i message,
      as_many_calls methods j message,
      same_many methods (i + 1) (j + 1) messages,
    )

-- a message with an unknown tag makes no call
pub no_calls : (methods : List Method) (index : ℕ) (message : List ℕ) → is_some (unknown_of message) ≡ true → calls_of methods index message ≡ []
no_calls methods index message is = rw is refl

-- the calls of the only message
pub only_calls : (methods : List Method) (message : List ℕ) (messages : List (List ℕ)) → messages ≡ message ∷ []
    → calls_from methods 0 messages ≡ calls_of methods 0 message
only_calls methods message messages only = ap (calls_from methods 0) only ∙ append-nil (calls_of methods 0 message)
