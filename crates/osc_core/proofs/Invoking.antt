-- A unit's messages, invoked one after another.
use Rattle.std.proofs.Common.{◌≡◌, ℕ, ◌+◌, ◌≤◌, List, [], ◌∷◌, length, length-append, sym, ap, ◌∙◌, arith}
use Rattle.osc_pattern.specs.Methods.{Method}
use Rattle.osc_model.specs.Events.{Call, Invocation}
use Rattle.osc_model.specs.Heard.{Told, all_hear}
use Rattle.osc_model.specs.Step.{calls_of, calls_from, hits_of, invocations_of}
use Rattle.osc_record.specs.Writing.{Recording}
use Rattle.osc_core.specs.Calls.{invoked_ids}
use Rattle.osc_core.specs.Recorded.{owed_by, with_hits}
use Rattle.osc_core.proofs.Calling.{as_many_calls, hits_in_two, invocations_in_two, length-hits_of, same_many}
use Rattle.osc_core.proofs.Hearing.{all_hear_on, none_to_hear}
use Rattle.osc_core.proofs.Recorded.{owed_left, with_more}

module _ (methods : List Method) (index : ℕ) (message : List ℕ) (left rest : List (List ℕ)) (is : left ≡ message ∷ rest) where
  abbrev first : List Call
  first = calls_of methods index message

  abbrev more : List Call
  more = calls_from methods (index + 1) rest

  pub unit_put : (old new : Recording) → new ≡ with_hits old (hits_of (calls_of methods index message))
      → with_hits new (hits_of (calls_from methods (index + 1) rest)) ≡ with_hits old (hits_of (calls_from methods index left))
  unit_put old new put =
      ap (λ (r : Recording). with_hits r (hits_of more)) put
      ∙ sym (with_more old (hits_of first) (hits_of more))
      ∙ ap (with_hits old) (sym (hits_in_two first more))
      ∙ ap (λ (l : List (List ℕ)). with_hits old (hits_of (calls_from methods index l))) (sym is)

  pub unit_owes : (recorder : Recording) → owed_by recorder ≡ length (calls_from methods index left)
      → length (calls_of methods index message) ≤ owed_by recorder
  unit_owes recorder owed = omega (arith, owed, ap (λ (l : List (List ℕ)). length (calls_from methods index l)) is, length-append first more)

  pub unit_owed : (old new : Recording) → new ≡ with_hits old (hits_of (calls_of methods index message)) → owed_by old ≡ length (calls_from methods index left)
      → owed_by new ≡ length (calls_from methods (index + 1) rest)
  unit_owed old new put owed =
      omega (
        arith,
        ap owed_by put,
        owed_left old (hits_of first),
        length-hits_of first,
        ap
            (λ (l : List (List ℕ)). length (calls_from methods index l)) is,
        length-append first more,
      )

  pub unit_heard : (unit : ℕ) (old new : List Told) → new ≡ all_hear (invocations_of unit (calls_of methods index message)) old
      → all_hear (invocations_of unit (calls_from methods (index + 1) rest)) new ≡ all_hear (invocations_of unit (calls_from methods index left)) old
  unit_heard unit old new heard =
      ap (all_hear (invocations_of unit more)) heard
      ∙ all_hear_on (invocations_of unit first) (invocations_of unit more) old
      ∙ ap (λ (l : List Invocation). all_hear l old) (sym (invocations_in_two unit first more))
      ∙ ap (λ (l : List (List ℕ)). all_hear (invocations_of unit (calls_from methods index l)) old) (sym is)

  pub unit_counted : (count hits all : ℕ) → count + length (calls_from methods 0 left) ≡ all → hits ≡ length (invoked_ids methods message)
      → (count + hits) + length (calls_from methods 0 rest) ≡ all
  unit_counted count hits all counted many =
      omega (
        arith,
        ap (λ (l : List (List ℕ)). length (calls_from methods 0 l)) is,
        length-append (calls_of methods 0 message)
            (calls_from methods (0 + 1) rest),
        as_many_calls methods 0 message,
        same_many methods (0 + 1) 0 rest,
      )

pub none_put : (methods : List Method) (index : ℕ) (left : List (List ℕ)) (recorder : Recording) → left ≡ []
    → recorder ≡ with_hits recorder (hits_of (calls_from methods index left))
none_put methods index left recorder none = ap (λ (l : List (List ℕ)). with_hits recorder (hits_of (calls_from methods index l))) (sym none)

pub none_heard : (methods : List Method) (index unit : ℕ) (left : List (List ℕ)) (boxes : List Told) → left ≡ []
    → boxes ≡ all_hear (invocations_of unit (calls_from methods index left)) boxes
none_heard methods index unit left boxes none =
    sym (none_to_hear boxes) ∙ ap (λ (l : List (List ℕ)). all_hear (invocations_of unit (calls_from methods index l)) boxes) (sym none)
