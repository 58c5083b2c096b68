-- What boxes hear of calls.
use Rattle.std.proofs.Common.{◌≡◌, ◌≢◌, ℕ, zero, suc, ◌+◌, ◌<◌, ◌≤◌, true, false, ◌==◌, nat_lt, List, [], ◌∷◌, ◌++◌, length, map, drop, get_or}
use Rattle.std.proofs.Common.{Option, refl, sym, ap, subst, ◌∙◌, arith}
use Rattle.std.specs.List.{list_all, AllByRecursion, slice_set}
use Rattle.std.proofs.lemmas.Bool.Decides.{nat_tests}
use Rattle.std.proofs.lemmas.Bool.{and_parts}
use Rattle.std.proofs.lemmas.List.{length-map, map-set, get_or-map, set-get_or, drop_more}
use Rattle.std.proofs.lemmas.Simd.{map-map}
use Rattle.osc_method.specs.Heard.{Fixed, after_call}
use Rattle.osc_model.specs.Events.{Invocation}
use Rattle.osc_model.specs.Heard.{Told, bytes_of, hear, hear_all, all_hear}
use Rattle.osc_pattern.specs.Methods.{Method}
use Rattle.osc_method.specs.declared.call.Call.{Call as CodeCall}
use Rattle.osc_core.specs.Calls.{invocation_by}
use Rattle.osc_core.specs.Ids.{is_ascending}
use Rattle.osc_core.proofs.Ascents.{greater_are_others, rising}

pub heard_one : (told : Told) (invocation : Invocation) (keep : Fixed) (heard : Option (List ℕ)) → told.id ≡ invocation.call.id → keep ≡ told.keep
    → heard ≡ after_call told.keep.most (bytes_of invocation) told.heard → record { id = told.id; keep = keep; heard = heard } ≡ hear told invocation
heard_one told invocation keep heard same k h = let e : (invocation.call.id == told.id) ≡ true = grind (arith, nat_tests) in rw (e, k, h) refl

hears_other : (told : Told) (invocation : Invocation) → told.id ≢ invocation.call.id → hear told invocation ≡ told
hears_other told invocation other = let e : (invocation.call.id == told.id) ≡ false = grind (arith, nat_tests) in rw e refl

-- where no box has the call's id, none hears it
pub none_hears : (boxes : List Told) (invocation : Invocation) → AllByRecursion (λ other. other ≢ invocation.call.id) (map (λ told. told.id) boxes)
    → map (λ told. hear told invocation) boxes ≡ boxes
none_hears [] invocation none = refl
none_hears (told ∷ boxes) invocation none =
    ap (λ (one : Told). one ∷ map (λ told. hear told invocation) boxes) (hears_other told invocation none.0)
    ∙ ap (λ (l : List Told). told ∷ l) (none_hears boxes invocation none.1)

-- the box in the place of the call's id hears it, and no other
one_hears : (boxes : List Told) (place : ℕ) (one : Told) (invocation : Invocation) → is_ascending (map (λ told. told.id) boxes) ≡ true → place < length boxes
    → get_or (map (λ told. told.id) boxes) place 0 ≡ invocation.call.id → one ≡ hear (get_or boxes place one) invocation
    → slice_set boxes place one ≡ map (λ told. hear told invocation) boxes
one_hears [] place one invocation ascending within at is = absurd (omega arith)
one_hears (told ∷ boxes) zero one invocation ascending within at is =
    let p = and_parts (list_all (nat_lt told.id) (map (λ told. told.id) boxes)) (is_ascending (map (λ told. told.id) boxes)) ascending in
    let none = subst (λ (n : ℕ). AllByRecursion (λ other. other ≢ n) (map (λ (one : Told). one.id) boxes)) at
    (greater_are_others told.id (map (λ told. told.id) boxes) p.0) in
    ap (λ (t : Told). t ∷ boxes) is ∙ ap (λ (l : List Told). hear told invocation ∷ l) (sym (none_hears boxes invocation none))
one_hears (told ∷ boxes) (suc place) one invocation ascending within at is =
    let p = and_parts (list_all (nat_lt told.id) (map (λ told. told.id) boxes)) (is_ascending (map (λ told. told.id) boxes)) ascending in
    let lt : told.id < get_or (map (λ (one : Told). one.id) boxes) place 0 =
    rising (told.id ∷ map (λ told. told.id) boxes) 0 (suc place) ascending (omega arith) (omega (arith, length-map boxes (λ (one : Told). one.id))) in
    let other : told.id ≢ invocation.call.id = λ (same : told.id ≡ invocation.call.id). omega arith in
    ap (λ (l : List Told). told ∷ l) (one_hears boxes place one invocation p.1 (omega arith) at is)
    ∙ ap (λ (t : Told). t ∷ map (λ told. hear told invocation) boxes) (sym (hears_other told invocation other))

pub all_hear_more : (invocation : Invocation) (invocations : List Invocation) (boxes : List Told)
    → all_hear invocations (map (λ told. hear told invocation) boxes) ≡ all_hear (invocation ∷ invocations) boxes
all_hear_more invocation invocations [] = refl
all_hear_more invocation invocations (told ∷ boxes) =
    ap (λ (l : List Told). hear_all invocations (hear told invocation) ∷ l) (all_hear_more invocation invocations boxes)

pub none_to_hear : (boxes : List Told) → all_hear [] boxes ≡ boxes
none_to_hear [] = refl
none_to_hear (told ∷ boxes) = ap (λ (l : List Told). told ∷ l) (none_to_hear boxes)

module _ {X : Type 0} (view : X → Told) where
  -- the same, of boxes by what is seen of them
  pub one_hears_of : (boxes : List X) (place : ℕ) (old one : X) (invocation : Invocation) → is_ascending (map (λ box. (view box).id) boxes) ≡ true
      → place < length boxes → get_or (map (λ box. (view box).id) boxes) place 0 ≡ invocation.call.id → old ≡ get_or boxes place old
      → view one ≡ hear (view old) invocation → map view (slice_set boxes place one) ≡ map (λ told. hear told invocation) (map view boxes)
  one_hears_of boxes place old one invocation ascending within at is heard =
      let ids : map (λ told. told.id) (map view boxes) ≡ map (λ box. (view box).id) boxes = map-map (λ (told : Told). told.id) view boxes in
      let there : get_or (map view boxes) place (view one) ≡ view old = get_or-map view boxes place old (view one) within ∙ ap view (sym is) in
      map-set view boxes place one
      ∙ one_hears (map view boxes) place (view one) invocation
      (ap is_ascending ids ∙ ascending)
      (omega (arith, length-map boxes view))
      (ap (λ (l : List ℕ). get_or l place 0) ids ∙ at)
      (heard ∙ ap (λ (t : Told). hear t invocation) (sym there))

  pub none_hears_of : (boxes : List X) (invocation : Invocation) → AllByRecursion (λ other. other ≢ invocation.call.id) (map (λ box. (view box).id) boxes)
      → map view boxes ≡ map (λ told. hear told invocation) (map view boxes)
  none_hears_of boxes invocation none =
      sym (none_hears (map view boxes) invocation
      (subst (AllByRecursion (λ other. other ≢ invocation.call.id)) (sym (map-map (λ (told : Told). told.id) view boxes)) none))

-- an element that keeps its key keeps the keys
pub keys_stay : {X : Type 0} (key : X → ℕ) (xs : List X) (place : ℕ) (old one : X) → place < length (map key xs) → old ≡ get_or xs place old → key one ≡ key old
    → map key (slice_set xs place one) ≡ map key xs
keys_stay key xs place old one within is same =
    let there : place < length xs = omega (arith, length-map xs key) in
    map-set key xs place one
    ∙ ap (slice_set (map key xs) place) (same ∙ ap key is ∙ sym (get_or-map key xs place old 0 there))
    ∙ set-get_or (map key xs) place 0

pub dropped : {X : Type 0} (xs : List X) (n : ℕ) → length xs ≤ n → drop n xs ≡ []
dropped [] zero le = refl
dropped [] (suc n) le = refl
dropped (x ∷ xs) zero le = absurd (omega arith)
dropped (x ∷ xs) (suc n) le = dropped xs n (omega arith)

-- one call more is made
pub one_call_more : (invocation : Invocation) (invocations : List Invocation) (old new : List Told) → new ≡ map (λ told. hear told invocation) old
    → all_hear invocations new ≡ all_hear (invocation ∷ invocations) old
one_call_more invocation invocations old new heard = ap (all_hear invocations) heard ∙ all_hear_more invocation invocations old

-- calls in two goes
hear_on : (first more : List Invocation) (told : Told) → hear_all (first ++ more) told ≡ hear_all more (hear_all first told)
hear_on [] more told = refl
hear_on (invocation ∷ first) more told = hear_on first more (hear told invocation)

pub all_hear_on : (first more : List Invocation) (boxes : List Told) → all_hear more (all_hear first boxes) ≡ all_hear (first ++ more) boxes
all_hear_on first more [] = refl
all_hear_on first more (told ∷ boxes) =
    ap (λ (t : Told). t ∷ all_hear more (all_hear first boxes)) (sym (hear_on first more told))
    ∙ ap (λ (l : List Told). hear_all (first ++ more) told ∷ l) (all_hear_on first more boxes)

-- ids whose calls are made one after another
pub call_made : (invocation_of : ℕ → Invocation) (ids : List ℕ) (i : ℕ) (old new : List Told) → i < length ids
    → new ≡ map (λ told. hear told (invocation_of (get_or ids i 0))) old
    → all_hear (map invocation_of (drop (i + 1) ids)) new ≡ all_hear (map invocation_of (drop i ids)) old
call_made invocation_of ids i old new within heard =
    one_call_more (invocation_of (get_or ids i 0)) (map invocation_of (drop (i + 1) ids)) old new heard
    ∙ ap (λ (l : List ℕ). all_hear (map invocation_of l) old) (sym (drop_more ids i 0 within))

pub calls_all_made : (invocation_of : ℕ → Invocation) (ids : List ℕ) (i : ℕ) (boxes : List Told) → length ids ≤ i
    → boxes ≡ all_hear (map invocation_of (drop i ids)) boxes
calls_all_made invocation_of ids i boxes past = sym (none_to_hear boxes) ∙ ap (λ (l : List ℕ). all_hear (map invocation_of l) boxes) (sym (dropped ids i past))

pub hears_nothing : (invocations : List Invocation) (boxes : List Told) → [] ≡ invocations → boxes ≡ all_hear invocations boxes
hears_nothing invocations boxes none = sym (none_to_hear boxes) ∙ ap (λ (l : List Invocation). all_hear l boxes) none

-- the element in the place of a key has it
pub key_there : {X : Type 0} (key : X → ℕ) (xs : List X) (place : ℕ) (old : X) (n : ℕ) → place < length (map key xs) → old ≡ get_or xs place old
    → get_or (map key xs) place 0 ≡ n → key old ≡ n
key_there key xs place old n within is at =
    let there : place < length xs = omega (arith, length-map xs key) in
    ap key is ∙ sym (get_or-map key xs place old 0 there) ∙ at

pub hear_by : (told : Told) (methods : List Method) (call : CodeCall) (m n : ℕ) → m ≡ n
    → hear told (invocation_by methods call m) ≡ hear told (invocation_by methods call n)
hear_by told methods call m n same = ap (λ (k : ℕ). hear told (invocation_by methods call k)) same

pub hear_same : (old new : List Told) (first second : List Invocation) → new ≡ all_hear first old → first ≡ second → new ≡ all_hear second old
hear_same old new first second heard same = heard ∙ ap (λ (l : List Invocation). all_hear l old) same
