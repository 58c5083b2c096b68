-- Each release makes exactly the calls that its unit has to make.
use Rattle.std.proofs.Common.{◌≡◌, ◌↔◌, inl, inr, ℕ, ◌+◌, ◌≤◌, ◌==◌, Bool, true, false, List, [], ◌∷◌, ◌++◌, map, filter, slice_get, Some, refl, sym, ap, subst}
use Rattle.std.proofs.Common.{◌∙◌, append_assoc, arith}
use Rattle.std.specs.List.{AllByRecursion, Contains}
use Rattle.std.proofs.lemmas.Bool.Decides.{nat_tests}
use Rattle.std.proofs.lemmas.List.{map-append, append-nil}
use Rattle.std.proofs.lemmas.List.Elements.{filter-append}
use Rattle.osc_message.specs.Reading.{pattern_of}
use Rattle.osc_pattern.specs.Methods.{Method}
use Rattle.osc_queue.specs.Timed.{unit_of, due_of}
use Rattle.osc_model.specs.Limits.{Limits, AreInRange}
use Rattle.osc_model.specs.State.{State, Queued, opening}
use Rattle.osc_model.specs.Events.{release, released, Hit, Call, Invocation, Entry}
use Rattle.osc_model.specs.Step.{step, calls_of_unit, hits_of, invocations_of}
use Rattle.osc_model.specs.Releases.{ReleasesLeast, TakesLeast}
use Rattle.osc_model.specs.Passing.{released_in}
use Rattle.osc_model.specs.History.{LegalFrom, Legal, IsSound, after, invocations}
use Rattle.osc_model.proofs.Calls.{MatchesExactly}
use Rattle.osc_model.proofs.Onward.{invoked_more, legal_split}
use Rattle.osc_laws.specs.Facts.{IsRegistered, IsUnitOf, clock_in}
use Rattle.osc_laws.specs.Exactly.{IsCallOf, CallsExactly, AreExact, calls_of_number}
use Rattle.osc_laws.specs.Consecutive.{AreConsecutive}
use Rattle.osc_laws.specs.Once.{numbers_released}
use Rattle.osc_laws.proofs.ReadOff.{clock_is}
use Rattle.osc_laws.proofs.Units.{units_are}
use Rattle.osc_laws.proofs.InTime.{TakesTheLeast, taken_waits}
use Rattle.osc_laws.proofs.Given.{all_once}
use Rattle.osc_laws.proofs.Methods.{StaysSound, methods_are}
use Rattle.osc_laws.proofs.Tallies.{tally, times, times_append}
use Rattle.osc_laws.proofs.ExactCalls.{IsCallFrom, calls_are, are_calls}
use Rattle.osc_laws.proofs.OrderedCalls.{Ascends, calls_in_order}
use Rattle.osc_laws.proofs.Runs.{are_consecutive}
use Rattle.osc_laws.proofs.Released.{AreOnce, none_invoked, released_once, history_runs}

-- what is known of a server, and of the methods that match
pub record OfServer : Type 0 where
  pub least : TakesTheLeast
  pub exactly : MatchesExactly
  pub ascends : Ascends
  pub opens : (caps : Limits) → AreInRange caps → IsSound (opening caps)
  pub stays : StaysSound
  pub sound : (caps : Limits) (history : List Entry) → Legal caps history → IsSound (after (opening caps) history)

-- The calls of a number.

calls_append : (number : ℕ) (first more : List Invocation)
    → calls_of_number number (first ++ more) ≡ calls_of_number number first ++ calls_of_number number more
calls_append number first more =
    let mine : Invocation → Bool = λ (i : Invocation). i.unit == number in
    ap (map (λ (i : Invocation). i.call)) (filter-append mine first more) ∙ map-append (λ (i : Invocation). i.call) (filter mine first) (filter mine more)

calls_none : (number : ℕ) (others : List Invocation) → AllByRecursion (λ i. (i.unit == number) ≡ false) others → calls_of_number number others ≡ []
calls_none number [] none = refl
calls_none number (one ∷ others) none = rw none.0 (calls_none number others none.1)

calls_one : (number : ℕ) (calls : List Call) → calls_of_number number (invocations_of number calls) ≡ calls
calls_one number [] = refl
calls_one number (call ∷ calls) = let itself : (number == number) ≡ true = grind (arith, nat_tests) in
    rw itself (ap (λ (l : List Call). call ∷ l) (calls_one number calls))

numbers_append : (first more : List Entry) → numbers_released (first ++ more) ≡ numbers_released first ++ numbers_released more
numbers_append [] more = refl
numbers_append (entry ∷ first) more =
    ap (λ (l : List ℕ). released_in entry.answer ++ l) (numbers_append first more)
    ∙ sym (append_assoc (released_in entry.answer) (numbers_released first) (numbers_released more))

-- a unit that is released at one place is released nowhere else
record IsOnlyHere (before later : List Entry) (number : ℕ) : Type 0 where
  not_before : times (λ m. m == number) (numbers_released before) ≡ 0
  not_later : times (λ m. m == number) (numbers_released later) ≡ 0

only_here : (before later : List Entry) (caller number : ℕ) (hits : List Hit)
    → AreOnce (before ++ record { caller = caller; event = release; answer = released number hits } ∷ later) → IsOnlyHere before later number
only_here before later caller number hits once =
    let test : ℕ → Bool = λ (m : ℕ). m == number in
    let entry : Entry = record { caller = caller; event = release; answer = released number hits } in
    let few = once number in
    let parts : times test (numbers_released (before ++ entry ∷ later))
    ≡ times test (numbers_released before) + (tally test number + times test (numbers_released later)) =
    ap (times test) (numbers_append before (entry ∷ later)) ∙ times_append test (numbers_released before) (number ∷ numbers_released later) in
    let itself : (number == number) ≡ true = grind (arith, nat_tests) in
    let counts : tally test number ≡ 1 = rw itself refl in
    record { not_before = omega (arith, few, parts, counts); not_later = omega (arith, few, parts, counts) }

-- the calls of a unit that is released at a place are those of that release
calls_there : (state : State) (before later : List Entry) (caller number : ℕ) (hits : List Hit) (calls : List Call)
    → LegalFrom state (before ++ record { caller = caller; event = release; answer = released number hits } ∷ later)
    → IsOnlyHere before later number → (step (after state before) release).invocations ≡ invocations_of number calls
    → calls_of_number number (invocations state (before ++ record { caller = caller; event = release; answer = released number hits } ∷ later)) ≡ calls
calls_there state before later caller number hits calls legal only invoked =
    let entry : Entry = record { caller = caller; event = release; answer = released number hits } in
    let here = (step (after state before) release).invocations in
    let next = (step (after state before) release).state in
    let parts = legal_split state before (entry ∷ later) legal in
    let first : calls_of_number number (invocations state before) ≡ [] =
    calls_none number (invocations state before) (none_invoked number state before parts.0 only.not_before) in
    let last : calls_of_number number (invocations next later) ≡ [] =
    calls_none number (invocations next later) (none_invoked number next later parts.1.4 only.not_later) in
    let middle : calls_of_number number here ≡ calls = ap (calls_of_number number) invoked ∙ calls_one number calls in
    ap (calls_of_number number) (invoked_more state before (entry ∷ later))
    ∙ calls_append number (invocations state before) (here ++ invocations next later)
    ∙ ap (λ (l : List Call). l ++ calls_of_number number (here ++ invocations next later)) first
    ∙ calls_append number here (invocations next later)
    ∙ (λ i. middle i ++ last i)
    ∙ append-nil calls

-- A release.

unit_calls_exactly : OfServer → (caps : Limits) (history : List Entry) → Legal caps history → (unit : Queued) (call : Call)
    → Contains (calls_of_unit (after (opening caps) history).methods unit) call ↔ IsCallOf history unit.2 call
unit_calls_exactly of caps history legal unit call =
    (λ held. there (calls_are of.exactly methods 0 unit.2.messages call held), λ is. are_calls of.exactly methods 0 unit.2.messages call (back is)) where
      methods : List Method
      methods = (after (opening caps) history).methods

      read : Contains methods (record { id = call.id; address = call.address }) ↔ IsRegistered history call.id call.address
      read = methods_are of.stays of.opens caps history legal (record { id = call.id; address = call.address })

      there : IsCallFrom methods 0 unit.2.messages call → IsCallOf history unit.2 call
      there is =
          let index_is = is.index_is in
          let place : is.place ≡ call.index = omega (arith, index_is) in
          record {
            message = subst (λ (n : ℕ). slice_get unit.2.messages n ≡ Some call.message) place is.message_is;
            known = is.known;
            registered = read.0 is.registered;
            matched = (of.exactly.decides (pattern_of call.message) call.address).0 is.matched;
          }

      back : IsCallOf history unit.2 call → IsCallFrom methods 0 unit.2.messages call
      back is = record {
        place = call.index;
        index_is = omega arith;
        message_is = is.message;
        known = is.known;
        registered = read.1 is.registered;
        matched = (of.exactly.decides (pattern_of call.message) call.address).1 is.matched;
      }

taken_exactly : OfServer → (caps : Limits) (before later : List Entry) (caller number : ℕ) (hits : List Hit)
    → Legal caps (before ++ record { caller = caller; event = release; answer = released number hits } ∷ later)
    → TakesLeast (after (opening caps) before) (step (after (opening caps) before) release)
    → CallsExactly before number hits
    (calls_of_number number (invocations (opening caps) (before ++ record { caller = caller; event = release; answer = released number hits } ∷ later)))
taken_exactly of caps before later caller number hits legal taken =
    let state = after (opening caps) before in
    let entry : Entry = record { caller = caller; event = release; answer = released number hits } in
    let parts = legal_split (opening caps) before (entry ∷ later) legal.1 in
    let begun : Legal caps before = (legal.0, parts.0) in
    let calls = calls_of_unit state.methods taken.unit in
    let whole : released number hits ≡ released (unit_of taken.unit) (hits_of calls) = parts.1.3 ∙ taken.answer in
    let number_is : number ≡ unit_of taken.unit = cc in
    let hits_is : hits ≡ hits_of calls = cc in
    let invoked : (step state release).invocations ≡ invocations_of number calls = taken.invoked ∙ ap (λ (n : ℕ). invocations_of n calls) (sym number_is) in
    let only = only_here before later caller number hits
    (released_once caps.late (before ++ entry ∷ later) _ (all_once caps (before ++ entry ∷ later) legal)) in
    let made = calls_there (opening caps) before later caller number hits calls legal.1 only invoked in
    let waits = taken_waits before state (step state release) taken (units_are caps before begun) in
    subst (CallsExactly before number hits) (sym made)
    (record {
      unit = taken.unit.2;
      unit_is = subst (λ (n : ℕ). IsUnitOf before n taken.unit.2) (sym number_is) waits.0;
      in_time = in_time taken.unit.2.tag (due_of taken.unit) state.clock (clock_in before) waits.1 taken.due (clock_is caps before begun);
      exactly = unit_calls_exactly of caps before begun taken.unit;
      in_order = calls_in_order of.exactly of.ascends state.methods 0 taken.unit.2.messages (of.sound caps before begun).methods.list.addresses;
      told = hits_is;
    })
  where
    in_time : (tag due clock read : ℕ) → tag ≤ due → due ≤ clock → clock ≡ read → tag ≤ read
    in_time tag due clock read one two three = omega arith

release_exactly : OfServer → (caps : Limits) (before later : List Entry) (caller number : ℕ) (hits : List Hit)
    → Legal caps (before ++ record { caller = caller; event = release; answer = released number hits } ∷ later)
    → CallsExactly before number hits
    (calls_of_number number (invocations (opening caps) (before ++ record { caller = caller; event = release; answer = released number hits } ∷ later)))
release_exactly of caps before later caller number hits legal = go (of.least caps before (legal.0, parts.0)) where
  entry : Entry
  entry = record { caller = caller; event = release; answer = released number hits }

  parts : LegalFrom (opening caps) before × LegalFrom (after (opening caps) before) (entry ∷ later)
  parts = legal_split (opening caps) before (entry ∷ later) legal.1

  go : ReleasesLeast (after (opening caps) before) (step (after (opening caps) before) release)
      → CallsExactly before number hits (calls_of_number number (invocations (opening caps) (before ++ entry ∷ later)))
  go (inl taken) = taken_exactly of caps before later caller number hits legal taken
  go (inr (inl none)) = absurd (let no = parts.1.3 ∙ none.answer in cc)
  go (inr (inr full)) = absurd (let no = parts.1.3 ∙ full.answer in cc)

pub all_exact : OfServer → (caps : Limits) (history : List Entry) → Legal caps history → AreExact history (invocations (opening caps) history)
all_exact of caps history legal before later number hits (caller, place) =
    subst (λ (h : List Entry). CallsExactly before number hits (calls_of_number number (invocations (opening caps) h))) (sym place)
    (release_exactly of caps before later caller number hits (subst (Legal caps) place legal))

pub all_consecutive : OfServer → (caps : Limits) (history : List Entry) → Legal caps history → AreConsecutive (invocations (opening caps) history)
all_consecutive of caps history legal =
    are_consecutive (invocations (opening caps) history)
    (history_runs of.exactly of.ascends of.stays (opening caps) history legal.1 (of.opens caps legal.0)
    (released_once caps.late history _ (all_once caps history legal)))
