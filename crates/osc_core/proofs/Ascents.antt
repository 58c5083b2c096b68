-- Ids that ascend.
use Rattle.std.proofs.Common.{◌≡◌, ◌≢◌, ℕ, zero, suc, ◌+◌, ◌<◌, ◌≤◌, Bool, true, false, ◌==◌, nat_lt, not, cond, List, [], ◌∷◌, ◌++◌, length, map, filter}
use Rattle.std.proofs.Common.{get_or, refl, sym, ap, subst, ◌∙◌, arith}
use Rattle.std.specs.List.{list_all, All, AllByRecursion, Contains, remove}
use Rattle.std.proofs.lemmas.Bool.Decides.{nat_tests}
use Rattle.std.proofs.lemmas.Bool.{and_parts}
use Rattle.std.proofs.lemmas.List.{length-map, get_or-map}
use Rattle.osc_pattern.specs.Methods.{Method}
use Rattle.osc_core.specs.Ids.{is_ascending, IsFirstFrom, without}

all_above : (id : ℕ) (ids : List ℕ) (k : ℕ) → list_all (nat_lt id) ids ≡ true → k < length ids → id < get_or ids k 0
all_above id [] k all within = absurd (omega arith)
all_above id (other ∷ ids) zero all within = let p = and_parts (nat_lt id other) (list_all (nat_lt id) ids) all in grind (arith, nat_tests, p.0)
all_above id (other ∷ ids) (suc k) all within = let p = and_parts (nat_lt id other) (list_all (nat_lt id) ids) all in all_above id ids k p.1 (omega arith)

pub rising : (ids : List ℕ) (k m : ℕ) → is_ascending ids ≡ true → k < m → m < length ids → get_or ids k 0 < get_or ids m 0
rising [] k m ascending lt within = absurd (omega arith)
rising (id ∷ ids) k zero ascending lt within = absurd (omega arith)
rising (id ∷ ids) zero (suc m) ascending lt within = all_above id ids m (and_parts (list_all (nat_lt id) ids) (is_ascending ids) ascending).0 (omega arith)
rising (id ∷ ids) (suc k) (suc m) ascending lt within =
    rising ids k m (and_parts (list_all (nat_lt id) ids) (is_ascending ids) ascending).1 (omega arith) (omega arith)

pub still_below : (ids : List ℕ) (middle id : ℕ) → is_ascending ids ≡ true → middle < length ids → get_or ids middle 0 < id → (k : ℕ) → k < middle + 1
    → get_or ids k 0 < id
still_below ids middle id ascending within below k lt = go (nat_lt k middle) refl where
  go : (t : Bool) → nat_lt k middle ≡ t → get_or ids k 0 < id
  go true e = let l : k < middle = grind (arith, nat_tests) in let r = rising ids k middle ascending l within in omega arith
  go false e = let same : k ≡ middle = grind (arith, nat_tests) in subst (λ (n : ℕ). get_or ids n 0 < id) (sym same) below

pub still_above : (ids : List ℕ) (middle id : ℕ) → is_ascending ids ≡ true → id ≤ get_or ids middle 0 → (k : ℕ) → middle ≤ k → k < length ids
    → id ≤ get_or ids k 0
still_above ids middle id ascending above k le within = go (nat_lt middle k) refl where
  go : (t : Bool) → nat_lt middle k ≡ t → id ≤ get_or ids k 0
  go true e = let l : middle < k = grind (arith, nat_tests) in let r = rising ids middle k ascending l within in omega arith
  go false e = let same : middle ≡ k = grind (arith, nat_tests) in subst (λ (n : ℕ). id ≤ get_or ids n 0) same above

-- what holds in each place holds of each
none_by_places : (id : ℕ) (ids : List ℕ) → ((k : ℕ) → k < length ids → get_or ids k 0 ≢ id) → AllByRecursion (λ other. other ≢ id) ids
none_by_places id [] each = tt
none_by_places id (other ∷ ids) each = (each 0 (omega arith), none_by_places id ids (λ k lt. each (suc k) (omega arith)))

pub nowhere : (ids : List ℕ) (place id : ℕ) → is_ascending ids ≡ true → IsFirstFrom place id ids → (place < length ids → get_or ids place 0 ≢ id)
    → AllByRecursion (λ other. other ≢ id) ids
nowhere ids place id ascending first other = none_by_places id ids each where
  each : (k : ℕ) → k < length ids → get_or ids k 0 ≢ id
  each k lt same = go (nat_lt k place) (nat_lt place k) refl refl where
    go : (s t : Bool) → nat_lt k place ≡ s → nat_lt place k ≡ t → ⊥
    go true t e f = let l : k < place = grind (arith, nat_tests) in let r = first.below k l in omega arith
    go false true e f = let l : place < k = grind (arith, nat_tests) in let r = rising ids place k ascending l lt in
        let q = first.above place (omega arith) (omega arith) in omega arith
    go false false e f = let at : k ≡ place = grind (arith, nat_tests) in other (omega arith) (subst (λ (n : ℕ). get_or ids n 0 ≡ id) at same)

-- an id that none is can't be there
pub not_there : (ids : List ℕ) (id : ℕ) → AllByRecursion (λ other. other ≢ id) ids → Contains ids id → ⊥
not_there [] id none (k, lt, at) = omega arith
not_there (other ∷ ids) id none (zero, lt, at) = none.0 at
not_there (other ∷ ids) id none (suc k, lt, at) = not_there ids id none.1 (k, omega arith, at)

-- those above an id are others
pub greater_are_others : (id : ℕ) (ids : List ℕ) → list_all (nat_lt id) ids ≡ true → AllByRecursion (λ other. other ≢ id) ids
greater_are_others id [] all = tt
greater_are_others id (other ∷ ids) all =
    let p = and_parts (nat_lt id other) (list_all (nat_lt id) ids) all in
    (λ (same : other ≡ id). grind (arith, nat_tests, p.0), greater_are_others id ids p.1)

-- an id that is above all enters after them
pub ascending_pushed : (ids : List ℕ) (id : ℕ) → is_ascending ids ≡ true → ((k : ℕ) → k < length ids → get_or ids k 0 < id)
    → is_ascending (ids ++ id ∷ []) ≡ true
ascending_pushed [] id ascending below = refl
ascending_pushed (first ∷ ids) id ascending below =
    let p = and_parts (list_all (nat_lt first) ids) (is_ascending ids) ascending in
    let q = ascending_pushed ids id p.1 (λ k lt. below (suc k) (omega arith)) in
    rw (pushed ids p.0, q) refl
  where
    pushed : (others : List ℕ) → list_all (nat_lt first) others ≡ true → list_all (nat_lt first) (others ++ id ∷ []) ≡ true
    pushed [] all = let l : first < id = below 0 (omega arith) in grind (arith, nat_tests)
    pushed (other ∷ others) all =
        let p = and_parts (nat_lt first other) (list_all (nat_lt first) others) all in
        rw (p.0, pushed others p.1) refl

-- ids of which some are left out ascend
pub ascending_without : (id : ℕ) (ids : List ℕ) → is_ascending ids ≡ true → is_ascending (without id ids) ≡ true
ascending_without id [] ascending = refl
ascending_without id (first ∷ ids) ascending =
    let p = and_parts (list_all (nat_lt first) ids) (is_ascending ids) ascending in
    go (not (first == id)) p.0 (ascending_without id ids p.1)
  where
    left : (others : List ℕ) → list_all (nat_lt first) others ≡ true → list_all (nat_lt first) (without id others) ≡ true
    left [] all = refl
    left (other ∷ others) all = let p = and_parts (nat_lt first other) (list_all (nat_lt first) others) all in
        step (not (other == id)) p.0 (left others p.1) where
          step : (t : Bool) → nat_lt first other ≡ true → list_all (nat_lt first) (without id others) ≡ true
              → list_all (nat_lt first) (cond t (other ∷ without id others) (without id others)) ≡ true
          step true e more = rw (e, more) refl
          step false e more = more

    go : (t : Bool) → list_all (nat_lt first) ids ≡ true → is_ascending (without id ids) ≡ true
        → is_ascending (cond t (first ∷ without id ids) (without id ids)) ≡ true
    go true all more = rw (left ids all, more) refl
    go false all more = more

-- elements with keys that ascend
module _ {X : Type 0} (key : X → ℕ) where
  none_left_out : (id : ℕ) (xs : List X) → AllByRecursion (λ other. other ≢ id) (map key xs) → filter (λ x. not (key x == id)) xs ≡ xs
  none_left_out id [] none = refl
  none_left_out id (x ∷ xs) none = let e : not (key x == id) ≡ true = differs (key x) id none.0 in
      rw e (ap (λ (l : List X). x ∷ l) (none_left_out id xs none.1)) where
        differs : (a b : ℕ) → a ≢ b → not (a == b) ≡ true
        differs a b n = grind (arith, nat_tests)

  -- the element in the place of an id is the one that is left out
  pub left_out : (xs : List X) (place id : ℕ) → is_ascending (map key xs) ≡ true → place < length xs → get_or (map key xs) place 0 ≡ id
      → remove xs place ≡ filter (λ x. not (key x == id)) xs
  left_out [] place id ascending within at = absurd (omega arith)
  left_out (x ∷ xs) zero id ascending within at =
      let p = and_parts (list_all (nat_lt (key x)) (map key xs)) (is_ascending (map key xs)) ascending in
      let e : not (key x == id) ≡ false = same (key x) id at in
      let none = subst (λ (n : ℕ). AllByRecursion (λ other. other ≢ n) (map key xs)) at (greater_are_others (key x) (map key xs) p.0) in
      rw e (sym (none_left_out id xs none))
    where
      same : (a b : ℕ) → a ≡ b → not (a == b) ≡ false
      same a b e = grind (arith, nat_tests)
  left_out (x ∷ xs) (suc place) id ascending within at =
      let p = and_parts (list_all (nat_lt (key x)) (map key xs)) (is_ascending (map key xs)) ascending in
      let lt : key x < get_or (map key xs) place 0 = all_above (key x) (map key xs) place p.0 (omega (arith, length-map xs key)) in
      let e : not (key x == id) ≡ true = lower (key x) id (omega arith) in
      rw e (ap (λ (l : List X). x ∷ l) (left_out xs place id p.1 (omega arith) at))
    where
      lower : (a b : ℕ) → a < b → not (a == b) ≡ true
      lower a b l = grind (arith, nat_tests)

pub filter-map : {X Y : Type 0} (view : X → Y) (test : Y → Bool) (xs : List X) → map view (filter (λ x. test (view x)) xs) ≡ filter test (map view xs)
filter-map view test [] = refl
filter-map view test (x ∷ xs) = go (test (view x)) (filter-map view test xs) where
  go : (t : Bool) → map view (filter (λ x. test (view x)) xs) ≡ filter test (map view xs)
      → map view (cond t (x ∷ filter (λ x. test (view x)) xs) (filter (λ x. test (view x)) xs))
      ≡ cond t (view x ∷ filter test (map view xs)) (filter test (map view xs))
  go true more = ap (λ l. view x ∷ l) more
  go false more = more

-- the element that is taken out of its place leaves the others
pub viewed_without : {X Y : Type 0} (key : Y → ℕ) (view : X → Y) (xs new : List X) (place id : ℕ) → new ≡ remove xs place
    → is_ascending (map (λ x. key (view x)) xs) ≡ true → (place < length (map (λ x. key (view x)) xs)) × (get_or (map (λ x. key (view x)) xs) place 0 ≡ id)
    → map view new ≡ filter (λ y. not (key y == id)) (map view xs)
viewed_without key view xs new place id is ascending at =
    ap (map view) is
    ∙ ap (map view) (left_out (λ x. key (view x)) xs place id ascending (omega (arith, length-map xs (λ x. key (view x)), at.0)) at.1)
    ∙ filter-map view (λ y. not (key y == id)) xs

pub ids_below : (methods : List Method) (id : ℕ) → All (λ method. method.id < id) methods → (k : ℕ) → k < length (map (λ method. method.id) methods)
    → get_or (map (λ method. method.id) methods) k 0 < id
ids_below methods id all k lt =
    let within : k < length methods = omega (arith, length-map methods (λ (method : Method). method.id)) in
    let d : Method = record { id = 0; address = [] } in
    subst (λ (n : ℕ). n < id) (sym (get_or-map (λ (method : Method). method.id) methods k d 0 within)) (all k d within)
