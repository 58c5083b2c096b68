-- What the tables of servers say that are alike.
use Rattle.std.proofs.Common.{◌≡◌, ℕ, ◌+◌, ◌<◌, ◌==◌, ◌||◌, ◌&&◌, nat_lt, max, Bool, true, false, cond, not, filter, fold, List, [], ◌∷◌, ◌++◌, length, map}
use Rattle.std.proofs.Common.{insert, Option, Some, None, refl, sym, ap, ◌∙◌, arith}
use Rattle.std.specs.Prelude.{flat_map, find, option_map}
use Rattle.std.specs.List.{list_any, position_or_len}
use Rattle.std.specs.Str.{bytes_eq}
use Rattle.std.specs.Ordering.{is_lt, nat_cmp}
use Rattle.std.specs.Cmp.Lexicographic.{slice_cmp}
use Rattle.std.proofs.lemmas.Bool.Decides.{nat_tests}
use Rattle.std.proofs.lemmas.List.{length-map, map-append, append-nil}
use Rattle.std.proofs.Common.{one-add}
use Rattle.osc_pattern.specs.Addresses.{is_proper_prefix}
use Rattle.osc_pattern.specs.Patterns.{matches}
use Rattle.osc_pattern.specs.Methods.{Method, nodes, distinct, prefixes_of}
use Rattle.osc_packet.specs.Units.{TimedUnit, blocks}
use Rattle.osc_tree.specs.Registry.{id_at, id_above, without}
use Rattle.osc_tree.specs.Nodes.{new_nodes}
use Rattle.osc_tree.specs.Matching.{is_below, matched, in_place, matching}
use Rattle.osc_tree.proofs.Counts.{one_more_method}
use Rattle.osc_tree.proofs.Lists.{insert-map, position-map}
use Rattle.osc_tree.proofs.Prefixes.{list_any-map}
use Rattle.osc_queue.specs.Timed.{due_of, unit_of, is_before, enter}
use Rattle.osc_model.specs.declared.late.Late.{Late}
use Rattle.osc_model.specs.State.{Queued, AreNumbered}
use Rattle.osc_model.specs.Counts.{queued_blocks}
use Rattle.osc_model.specs.Step.{waiting, is_kept, kept, kept_numbered, enter_all}
use Rattle.osc_model.proofs.Queues.{one_numbered}
use Rattle.osc_alike.specs.Alike.{address_of, Bare, bare_unit}

filter-map : {X Y : Type 0} (view : X → Y) (test : Y → Bool) (xs : List X) → map view (filter (λ x. test (view x)) xs) ≡ filter test (map view xs)
filter-map view test [] = refl
filter-map {X} {Y} view test (x ∷ xs) = go (test (view x)) (filter-map view test xs) where
  go : (t : Bool) → map view (filter (λ y. test (view y)) xs) ≡ filter test (map view xs)
      → map view (cond t (x ∷ filter (λ y. test (view y)) xs) (filter (λ y. test (view y)) xs)) ≡ cond t (view x ∷ filter test (map view xs)) (filter test
      (map view xs))
  go true same = ap (λ (l : List Y). view x ∷ l) same
  go false same = same

-- Methods.

abbrev pub Same : List Method → List Method → Type 0
Same xs ys = map address_of xs ≡ map address_of ys

pub same_length : (xs ys : List Method) → Same xs ys → length xs ≡ length ys
same_length xs ys same = sym (length-map xs address_of) ∙ ap length same ∙ length-map ys address_of

prefixes_in : (xs : List Method) → flat_map (λ (m : Method). prefixes_of m.address) xs ≡ flat_map prefixes_of (map address_of xs)
prefixes_in [] = refl
prefixes_in (x ∷ xs) = ap (λ (l : List (List ℕ)). prefixes_of x.address ++ l) (prefixes_in xs)

pub same_nodes : (xs ys : List Method) → Same xs ys → nodes xs ≡ nodes ys
same_nodes xs ys same =
    ap (λ (l : List (List ℕ)). length (distinct l)) (prefixes_in xs ∙ ap (flat_map prefixes_of) same ∙ sym (prefixes_in ys))

pub same_on : (xs ys : List Method) (one other : Method) → Same xs ys → one.address ≡ other.address → Same (xs ++ one ∷ []) (ys ++ other ∷ [])
same_on xs ys one other same is =
    map-append address_of xs (one ∷ []) ∙ ap (λ (l : List (List ℕ)). l ++ one.address ∷ []) same
    ∙ ap (λ (a : List ℕ). map address_of ys ++ a ∷ []) is ∙ sym (map-append address_of ys (other ∷ []))

new_is : (xs : List Method) (address : List ℕ) → nodes (xs ++ record { id = 0; address = address } ∷ []) ≡ nodes xs + new_nodes xs address
new_is xs address =
    let method : Method = record { id = 0; address = address } in
    one_more_method method xs [] ∙ ap (λ (l : List Method). nodes l + new_nodes l address) (append-nil xs)

pub same_new : (xs ys : List Method) (address : List ℕ) → Same xs ys → new_nodes xs address ≡ new_nodes ys address
same_new xs ys address same =
    let method : Method = record { id = 0; address = address } in
    omega (
      arith,
      new_is xs address,
      new_is ys address,
      same_nodes xs ys same,
      same_nodes (xs ++ method ∷ []) (ys ++ method ∷ []) (same_on xs ys method method same refl),
    )

-- which address passes a test first

abbrev some_zero : Bool → Option ℕ
some_zero true = Some 0
some_zero false = None

found_is : (test : List ℕ → Bool) (xs : List Method)
    → option_map (λ (id : ℕ). 0) (option_map (λ (m : Method). m.id) (find (λ (m : Method). test m.address) xs)) ≡ some_zero (list_any test (map address_of xs))
found_is test [] = refl
found_is test (x ∷ xs) = go (test x.address) (found_is test xs) where
  go : (t : Bool)
      → option_map (λ (id : ℕ). 0) (option_map (λ (m : Method). m.id) (find (λ (m : Method). test m.address) xs)) ≡ some_zero (list_any test
      (map address_of xs))
      → option_map (λ (id : ℕ). 0) (option_map (λ (m : Method). m.id) (cond t (Some x) (find (λ (m : Method). test m.address) xs)))
      ≡ some_zero (t || list_any test (map address_of xs))
  go true same = refl
  go false same = same

abbrev pub blank : Option ℕ → Option ℕ
blank found = option_map (λ (id : ℕ). 0) found

pub same_at : (xs ys : List Method) (address : List ℕ) → Same xs ys → blank (id_at xs address) ≡ blank (id_at ys address)
same_at xs ys address same =
    found_is (λ (a : List ℕ). bytes_eq a address) xs ∙ ap (λ (l : List (List ℕ)). some_zero (list_any (λ (a : List ℕ). bytes_eq a address) l)) same
    ∙ sym (found_is (λ (a : List ℕ). bytes_eq a address) ys)

pub same_above : (xs ys : List Method) (address : List ℕ) → Same xs ys → blank (id_above xs address) ≡ blank (id_above ys address)
same_above xs ys address same =
    found_is (λ (a : List ℕ). is_proper_prefix a address) xs
    ∙ ap (λ (l : List (List ℕ)). some_zero (list_any (λ (a : List ℕ). is_proper_prefix a address) l)) same
    ∙ sym (found_is (λ (a : List ℕ). is_proper_prefix a address) ys)

pub same_any : (test : List ℕ → Bool) (xs ys : List Method) → Same xs ys
    → list_any (λ (m : Method). test m.address) xs ≡ list_any (λ (m : Method). test m.address) ys
same_any test xs ys same = sym (list_any-map address_of test xs) ∙ ap (list_any test) same ∙ list_any-map address_of test ys

pub same_without : (xs ys : List Method) (address : List ℕ) → Same xs ys → Same (without xs address) (without ys address)
same_without xs ys address same =
    let test : List ℕ → Bool = λ a. not (bytes_eq a address) in
    filter-map address_of test xs ∙ ap (filter test) same ∙ sym (filter-map address_of test ys)

-- which addresses a pattern matches

abbrev place : List (List ℕ) → List ℕ → List (List ℕ)
place addresses address = insert addresses (position_or_len (λ (b : List ℕ). is_lt (slice_cmp nat_cmp address b)) addresses) address

placed : (methods : List Method) (method : Method) → map address_of (in_place methods method) ≡ place (map address_of methods) method.address
placed methods method =
    insert-map address_of (position_or_len (is_below method) methods) method methods
    ∙ ap (λ (n : ℕ). insert (map address_of methods) n method.address)
    (sym (position-map address_of (λ (b : List ℕ). is_lt (slice_cmp nat_cmp method.address b)) methods))

folded : (start methods : List Method) → map address_of (fold in_place start methods) ≡ fold place (map address_of start) (map address_of methods)
folded start [] = refl
folded start (method ∷ methods) =
    folded (in_place start method) methods ∙ ap (λ (l : List (List ℕ)). fold place l (map address_of methods)) (placed start method)

pub same_matching : (pattern : List ℕ) (xs ys : List Method) → Same xs ys → Same (matching pattern xs) (matching pattern ys)
same_matching pattern xs ys same =
    let found : map address_of (matched pattern xs) ≡ map address_of (matched pattern ys) =
    filter-map address_of (matches pattern) xs ∙ ap (filter (matches pattern)) same ∙ sym (filter-map address_of (matches pattern) ys) in
    folded [] (matched pattern xs) ∙ ap (fold place []) found ∙ sym (folded [] (matched pattern ys))

-- Units.

abbrev pub SameUnits : List Queued → List Queued → Type 0
SameUnits xs ys = map bare_unit xs ≡ map bare_unit ys

pub units_length : (xs ys : List Queued) → SameUnits xs ys → length xs ≡ length ys
units_length xs ys same = sym (length-map xs bare_unit) ∙ ap length same ∙ length-map ys bare_unit

abbrev bare_blocks : List Bare → ℕ
bare_blocks [] = 0
bare_blocks (bare ∷ bares) = blocks bare.unit + bare_blocks bares

blocks_in : (xs : List Queued) → queued_blocks xs ≡ bare_blocks (map bare_unit xs)
blocks_in [] = refl
blocks_in (x ∷ xs) = ap (λ (n : ℕ). blocks x.2 + n) (blocks_in xs)

pub units_blocks : (xs ys : List Queued) → SameUnits xs ys → queued_blocks xs ≡ queued_blocks ys
units_blocks xs ys same = blocks_in xs ∙ ap bare_blocks same ∙ sym (blocks_in ys)

-- a unit enters before the first that is due later
abbrev enters : Bare → List Bare → List Bare
enters bare [] = bare ∷ []
enters bare (other ∷ bares) = cond (nat_lt bare.due other.due) (bare ∷ other ∷ bares) (other ∷ enters bare bares)

last_number : (due other number own : ℕ) → own < number → (nat_lt due other || (due == other && nat_lt number own)) ≡ nat_lt due other
last_number due other number own below = grind (arith, nat_tests)

entered : (due next : ℕ) (unit : TimedUnit) (queue : List Queued) → AreNumbered next queue
    → map bare_unit (enter (due, next, unit) queue) ≡ enters (record { due = due; unit = unit }) (map bare_unit queue)
entered due next unit [] below = refl
entered due next unit (other ∷ queue) below =
    go (is_before (due, next, unit) other) (nat_lt due (due_of other)) (last_number due (due_of other) next (unit_of other) below.0)
    (entered due next unit queue below.1) where
      item : Queued
      item = (due, next, unit)

      bare : Bare
      bare = record { due = due; unit = unit }

      places : (n : ℕ) → insert (other ∷ queue) (1 + n) item ≡ other ∷ insert queue n item
      places n = rw one-add refl

      go : (t u : Bool) → t ≡ u → map bare_unit (enter item queue) ≡ enters bare (map bare_unit queue)
          → map bare_unit (insert (other ∷ queue) (cond (not t) (1 + position_or_len (is_before item) queue) 0) item)
          ≡ cond u (bare ∷ bare_unit other ∷ map bare_unit queue) (bare_unit other ∷ enters bare (map bare_unit queue))
      go true true e same = refl
      go false false e same =
          ap (map bare_unit) (places (position_or_len (is_before item) queue)) ∙ ap (λ (l : List Bare). bare_unit other ∷ l) same
      go true false e same = absurd (cc)
      go false true e same = absurd (cc)

-- units that are kept enter one after another
abbrev enters_all : ℕ → List TimedUnit → List Bare → List Bare
enters_all clock [] bares = bares
enters_all clock (unit ∷ units) bares = enters_all clock units (enters (record { due = max unit.tag clock; unit = unit }) bares)

later_numbers : (next : ℕ) (queue : List Queued) → AreNumbered next queue → AreNumbered (next + 1) queue
later_numbers next [] below = tt
later_numbers next (unit ∷ queue) below = (later (unit_of unit) below.0, later_numbers next queue below.1) where
  later : (n : ℕ) → n < next → n < next + 1
  later n less = omega arith

all_entered : (late : Late) (clock next : ℕ) (units : List TimedUnit) (queue : List Queued) → AreNumbered next queue
    → map bare_unit (enter_all (kept_numbered late clock next units) queue) ≡ enters_all clock (kept late clock units) (map bare_unit queue)
all_entered late clock next [] queue below = refl
all_entered late clock next (unit ∷ units) queue below =
    go (is_kept late clock unit) (all_entered late clock (next + 1) units queue (later_numbers next queue below))
    (all_entered late clock (next + 1) units (enter (waiting clock next unit) queue) (one_numbered clock next unit queue below)) where
      items : List Queued
      items = kept_numbered late clock (next + 1) units

      keeps : List TimedUnit
      keeps = kept late clock units

      go : (t : Bool) → map bare_unit (enter_all items queue) ≡ enters_all clock keeps (map bare_unit queue)
          → map bare_unit (enter_all items (enter (waiting clock next unit) queue)) ≡ enters_all clock keeps (map bare_unit (enter
          (waiting clock next unit) queue))
          → map bare_unit (enter_all (cond t (waiting clock next unit ∷ items) items) queue)
          ≡ enters_all clock (cond t (unit ∷ keeps) keeps) (map bare_unit queue)
      go true without with = with ∙ ap (enters_all clock keeps) (entered (max unit.tag clock) next unit queue below)
      go false without with = without

pub same_entered : (late : Late) (clock next number : ℕ) (units : List TimedUnit) (xs ys : List Queued) → AreNumbered next xs → AreNumbered number ys
    → SameUnits xs ys → SameUnits (enter_all (kept_numbered late clock next units) xs) (enter_all (kept_numbered late clock number units) ys)
same_entered late clock next number units xs ys one two same =
    all_entered late clock next units xs one ∙ ap (enters_all clock (kept late clock units)) same ∙ sym (all_entered late clock number units ys two)
