-- What the boxes of registered methods have heard, one event on.
use Rattle.std.proofs.Common.{◌≡◌, inl, inr, ℕ, ◌-◌, ◌<◌, ◌==◌, Bool, true, false, not, cond, List, [], ◌∷◌, ◌++◌, map, filter, Option, Some, None, All, refl}
use Rattle.std.proofs.Common.{sym, ap, subst, ◌∙◌, arith}
use Rattle.std.specs.Option.{option_map}
use Rattle.std.specs.List.{AllByRecursion, flat_map}
use Rattle.std.proofs.lemmas.Bool.Decides.{nat_tests}
use Rattle.std.proofs.lemmas.List.{append-nil, map-append, drop_all}
use Rattle.std.proofs.lemmas.List.Elements.{recursion_from_All}
use Rattle.osc_pattern.specs.Methods.{Method}
use Rattle.osc_tree.proofs.Lists.{all_filter}
use Rattle.osc_method.specs.Heard.{last_of, after_call}
use Rattle.osc_model.specs.Limits.{Limits}
use Rattle.osc_model.specs.State.{State}
use Rattle.osc_model.specs.Events.{Event, add, remove, release, added, removed, Invocation, Entry}
use Rattle.osc_model.specs.Step.{step}
use Rattle.osc_model.specs.Heard.{Told, bytes_of, heard_of, reset, hear, hear_all, all_hear, without_id}
use Rattle.osc_model.specs.History.{Legal, IsSound, Performance, state_of, invoked_in, stepped_in, onward, HasHeard, HaveHeard}
use Rattle.osc_model.proofs.Calls.{all_append}
use Rattle.osc_model.proofs.Hearing.{fresh_heard, heard_on}
use Rattle.osc_model.proofs.Onward.{onward_state, onward_invoked}
use Rattle.osc_model.proofs.Changes.{Changes, AddsMethod, tells_change, changes}
use Rattle.osc_model.proofs.Silence.{left}
use Rattle.osc_model.proofs.Leaving.{filter_ids}

abbrev id_of : Method → ℕ
id_of method = method.id

-- boxes that have heard what was invoked on methods
record HearCalls (methods : List Method) (calls : List Invocation) (boxes : List Told) : Type 0 where
  pub ids : map (λ box. box.id) boxes ≡ map (λ method. method.id) methods
  pub heard : AllByRecursion (HasHeard calls) boxes

-- a performance goes on, and its boxes have heard what was invoked before and in the step
went_on : (performance : Performance) (caller : ℕ) (event : Event) (boxes : List Told)
    → HearCalls (stepped_in performance event).state.methods (invoked_in performance ++ (stepped_in performance event).invocations) boxes
    → HaveHeard (onward performance caller event) boxes
went_on performance caller event boxes hear =
    record {
      ids = hear.ids ∙ sym (ap (λ (s : State). map id_of s.methods) (onward_state performance caller event));
      heard = subst (λ (l : List Invocation). AllByRecursion (HasHeard l) boxes) (sym (onward_invoked performance caller event)) hear.heard;
    }

-- where a step invokes nothing, boxes have heard what they had
nothing_more : (calls more : List Invocation) (boxes : List Told) → more ≡ [] → AllByRecursion (HasHeard calls) boxes
    → AllByRecursion (HasHeard (calls ++ more)) boxes
nothing_more calls more boxes none heard =
    subst (λ (l : List Invocation). AllByRecursion (HasHeard l) boxes) (sym (ap (λ (l : List Invocation). calls ++ l) none ∙ append-nil calls)) heard

pub others_hear : (performance : Performance) (caller : ℕ) (event : Event) (boxes : List Told) → HaveHeard performance boxes
    → (stepped_in performance event).state.methods ≡ (state_of performance).methods → (stepped_in performance event).invocations ≡ []
    → HaveHeard (onward performance caller event) boxes
others_hear performance caller event boxes have methods none =
    went_on performance caller event boxes
    (record {
      ids = have.ids ∙ sym (ap (map id_of) methods);
      heard = nothing_more (invoked_in performance) (stepped_in performance event).invocations boxes none have.heard;
    })

-- A method that is added.

pub adds : (state : State) (address : List ℕ) (id : ℕ) → (step state (add address)).answer ≡ added id
    → AddsMethod state (add address) (step state (add address))
adds state address id is = go (changes state (add address)) where
  go : Changes state (add address) (step state (add address)) → AddsMethod state (add address) (step state (add address))
  go (inl kept) = let yes : tells_change (step state (add address)).answer ≡ true = ap tells_change is in let no = kept.answer in absurd (cc)
  go (inr (inl more)) = more
  go (inr (inr fewer)) = let other = fewer.event_is in absurd (cc)

pub none_called : (id : ℕ) (calls : List Invocation) → AllByRecursion (λ call. call.call.id < id) calls → filter (λ call. call.call.id == id) calls ≡ []
none_called id [] below = refl
none_called id (call ∷ calls) below =
    let less = below.0 in
    let other : (call.call.id == id) ≡ false = grind (arith, nat_tests) in
    ap (λ (t : Bool). cond t (call ∷ filter (λ other. other.call.id == id) calls) (filter (λ other. other.call.id == id) calls)) other
    ∙ none_called id calls below.1

-- a box of an id that no call has yet has heard nothing
fresh_heard_none : (calls : List Invocation) (told : Told) → AllByRecursion (λ call. call.call.id < told.id) calls → HasHeard calls (reset told)
fresh_heard_none calls told below =
    let nothing : heard_of calls told.id told.keep.most ≡ [] =
    ap (λ (l : List Invocation). last_of told.keep.most (flat_map bytes_of l)) (none_called told.id calls below) ∙ drop_all (0 - told.keep.most) [] (omega arith) in
    go told.heard ∙ sym (ap (λ (l : List ℕ). option_map (λ _. l) (reset told).heard) nothing)
  where
    go : (heard : Option (List ℕ)) → option_map (λ (_ : List ℕ). let none : List ℕ = [] in none) heard
        ≡ option_map (λ _. []) (option_map (λ (_ : List ℕ). let none : List ℕ = [] in none) heard)
    go None = refl
    go (Some bytes) = refl

-- every id that was called was given
abbrev pub CallsGiven : Type 0
CallsGiven = (caps : Limits) (history : List Entry) → Legal caps history
    → All (λ invocation. invocation.call.id < (state_of (record { caps = caps; history = history })).next_id)
    (invoked_in (record { caps = caps; history = history }))

pub added_hears : CallsGiven → (performance : Performance) (caller : ℕ) (address : List ℕ) (told : Told) (boxes : List Told)
    → Legal performance.caps performance.history → HaveHeard performance boxes
    → (stepped_in performance (add address)).answer ≡ added told.id → HaveHeard (onward performance caller (add address)) (boxes ++ reset told ∷ [])
added_hears given performance caller address told boxes legal have is =
    let state = state_of performance in
    let more = adds state address told.id is in
    let same : state.next_id ≡ told.id = let both : added state.next_id ≡ added told.id = sym more.answer ∙ is in cc in
    let calls = invoked_in performance in
    let below = recursion_from_All (λ invocation. invocation.call.id < state.next_id) calls (given performance.caps performance.history legal) in
    let fresh = fresh_heard_none calls told (subst (λ (n : ℕ). AllByRecursion (λ call. call.call.id < n) calls) same below) in
    let new : Method = record { id = state.next_id; address = more.address } in
    went_on performance caller (add address) (boxes ++ reset told ∷ [])
    (record {
      ids = map-append (λ box. box.id) boxes (reset told ∷ [])
          ∙ ap (λ (l : List ℕ). l ++ told.id ∷ []) have.ids
          ∙ ap (λ (n : ℕ). map id_of state.methods ++ n ∷ []) (sym same)
          ∙ sym (map-append id_of state.methods (new ∷ []))
          ∙ ap (map id_of) (sym more.methods);
      heard = nothing_more calls (stepped_in performance (add address)).invocations (boxes ++ reset told ∷ []) more.silent
          (all_append (HasHeard calls) boxes (reset told ∷ []) have.heard (fresh, tt));
    })

-- A method that leaves.

pub others_left : (performance : Performance) (caller id : ℕ) (address : List ℕ) (boxes : List Told) → IsSound (state_of performance)
    → HaveHeard performance boxes
    → (stepped_in performance (remove address)).answer ≡ removed id → HaveHeard (onward performance caller (remove address)) (without_id id boxes)
others_left performance caller id address boxes sound have is =
    let state = state_of performance in
    let gone = left state (remove address) id sound is in
    went_on performance caller (remove address) (without_id id boxes)
    (record {
      ids = filter_ids (λ (box : Told). box.id) id boxes ∙ ap (filter (λ n. not (n == id))) have.ids ∙ sym (filter_ids id_of id state.methods)
          ∙ ap (map id_of) (sym gone.methods);
      heard = nothing_more (invoked_in performance) (stepped_in performance (remove address)).invocations (without_id id boxes) gone.silent
          (all_filter (HasHeard (invoked_in performance)) (λ box. not (box.id == id)) boxes have.heard);
    })

-- A release.

-- a box that hears a call
abbrev pub hearing : Told → Invocation → Told
hearing box call = record box { heard = after_call box.keep.most (bytes_of call) box.heard }

hear_id : (box : Told) (call : Invocation) → (hear box call).id ≡ box.id
hear_id box call = go (call.call.id == box.id) where
  go : (t : Bool) → (cond t (hearing box call) box).id ≡ box.id
  go true = refl
  go false = refl

pub same_id : (calls : List Invocation) (box : Told) → (hear_all calls box).id ≡ box.id
same_id [] box = refl
same_id (call ∷ calls) box = same_id calls (hear box call) ∙ hear_id box call

same_ids : (calls : List Invocation) (boxes : List Told) → map (λ box. box.id) (all_hear calls boxes) ≡ map (λ box. box.id) boxes
same_ids calls [] = refl
same_ids calls (box ∷ boxes) = λ i. same_id calls box i ∷ same_ids calls boxes i

-- a box that was reset has heard what it hears then
reset_heard : (calls : List Invocation) (box : Told) → HasHeard calls (hear_all calls (reset box))
reset_heard calls box =
    subst (HasHeard calls) (sym (fresh_heard box calls)) (go box.heard)
  where
    go : (heard : Option (List ℕ)) → option_map (λ _. heard_of calls box.id box.keep.most) heard
        ≡ option_map (λ _. heard_of calls box.id box.keep.most) (option_map (λ _. heard_of calls box.id box.keep.most) heard)
    go None = refl
    go (Some bytes) = refl

one_hears : (calls more : List Invocation) (box : Told) → HasHeard calls box → HasHeard (calls ++ more) (hear_all more box)
one_hears calls more box heard =
    let before : hear_all calls (reset box) ≡ box = fresh_heard box calls ∙ sym (ap (λ (h : Option (List ℕ)). record box { heard = h }) heard) in
    subst (HasHeard (calls ++ more)) (heard_on (reset box) calls more ∙ ap (hear_all more) before) (reset_heard (calls ++ more) box)

each_hears : (calls more : List Invocation) (boxes : List Told) → AllByRecursion (HasHeard calls) boxes
    → AllByRecursion (HasHeard (calls ++ more)) (all_hear more boxes)
each_hears calls more [] heard = tt
each_hears calls more (box ∷ boxes) heard = (one_hears calls more box heard.0, each_hears calls more boxes heard.1)

pub release_keeps : (state : State) → (step state release).state.methods ≡ state.methods
release_keeps state = go (changes state release) where
  go : Changes state release (step state release) → (step state release).state.methods ≡ state.methods
  go (inl kept) = kept.methods
  go (inr (inl more)) = let other = more.event_is in absurd (cc)
  go (inr (inr fewer)) = let other = fewer.event_is in absurd (cc)

pub all_released : (performance : Performance) (caller : ℕ) (boxes : List Told) → HaveHeard performance boxes
    → HaveHeard (onward performance caller release) (all_hear (stepped_in performance release).invocations boxes)
all_released performance caller boxes have =
    let more = (stepped_in performance release).invocations in
    went_on performance caller release (all_hear more boxes)
    (record {
      ids = same_ids more boxes ∙ have.ids ∙ sym (ap (map id_of) (release_keeps (state_of performance)));
      heard = each_hears (invoked_in performance) more boxes have.heard;
    })
