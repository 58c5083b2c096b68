-- Units that enter the queue.
use Rattle.std.proofs.Common.{◌≡◌, ◌≢◌, ℕ, suc, ◌+◌, ◌<◌, ◌≤◌, Bool, true, false, cond, filter, List, [], ◌∷◌, ◌++◌, length, length-append, sum_by, refl, sym}
use Rattle.std.proofs.Common.{ap, ◌∙◌, subst, arith}
use Rattle.std.specs.List.Sorted.{IsPermutation}
use Rattle.std.proofs.lemmas.List.Sums.{sum_by-cons}
use Rattle.std.proofs.lemmas.List.Sorted.{IsPermutation-refl, IsPermutation-sym, IsPermutation-trans, IsPermutation-middle, IsPermutation-append_right}
use Rattle.std.proofs.lemmas.List.Sorted.{length_permutation, sum_by-IsPermutation}
use Rattle.osc_packet.specs.Units.{TimedUnit, blocks, blocks_of}
use Rattle.osc_queue.specs.Timed.{unit_of, enter, IsInOrder, IsNewUnit}
use Rattle.osc_queue.proofs.Orders.{enter_joined, enter_ordered, all_entered}
use Rattle.osc_model.specs.State.{State, Queued, AreNumbered}
use Rattle.osc_model.specs.Counts.{queued_blocks}
use Rattle.osc_model.proofs.Blocks.{blocks_joined}
use Rattle.osc_model.specs.Step.{waiting, numbered, is_kept, kept, kept_numbered, late_count, enter_all}
use Rattle.osc_model.specs.declared.late.Late.{Late}
use Rattle.osc_model.specs.declared.late.Late.TheVariants.{Deliver}
use Rattle.std.proofs.lemmas.List.Elements.{filter-append}

-- the units join the others, none of which is lost
pub all_joined : (units queue : List Queued) → IsPermutation (units ++ queue) (enter_all units queue)
all_joined [] queue = IsPermutation-refl queue
all_joined (unit ∷ units) queue =
    let front = IsPermutation-sym _ _ (IsPermutation-middle units unit queue) in
    let one = IsPermutation-append_right units (unit ∷ queue) (enter unit queue) (enter_joined unit queue) in
    IsPermutation-trans _ _ _ front (IsPermutation-trans _ _ _ one (all_joined units (enter unit queue)))

pub all_counted : (units queue : List Queued) → length (enter_all units queue) ≡ length units + length queue
all_counted units queue = length_permutation (units ++ queue) (enter_all units queue) (all_joined units queue) ∙ length-append units queue

pub numbered_length : (clock next : ℕ) (units : List TimedUnit) → length (numbered clock next units) ≡ length units
numbered_length clock next [] = omega arith
numbered_length clock next (unit ∷ units) = ap suc (numbered_length clock (next + 1) units)

pub one_counted : (unit : Queued) (queue : List Queued) → length (enter unit queue) ≡ 1 + length queue
one_counted unit queue = let all : length (enter unit queue) ≡ suc (length queue) =
    length_permutation (unit ∷ queue) (enter unit queue) (enter_joined unit queue) in omega arith

-- Units that enter in two goes.

pub entered_on : (first more queue : List Queued) → enter_all (first ++ more) queue ≡ enter_all more (enter_all first queue)
entered_on [] more queue = refl
entered_on (unit ∷ first) more queue = entered_on first more (enter unit queue)

pub numbered_on : (clock next : ℕ) (first more : List TimedUnit)
    → numbered clock next (first ++ more) ≡ numbered clock next first ++ numbered clock (next + length first) more
numbered_on clock next [] more = let same : next ≡ next + 0 = omega arith in ap (λ (n : ℕ). numbered clock n more) same
numbered_on clock next (unit ∷ first) more =
    let same : next + 1 + length first ≡ next + suc (length first) = omega arith in
    ap (λ (l : List Queued). waiting clock next unit ∷ l)
    (numbered_on clock (next + 1) first more ∙ ap (λ (n : ℕ). numbered clock (next + 1) first ++ numbered clock n more) same)

-- Units that are kept, of which each has its number.

pub kept_length : (late : Late) (clock next : ℕ) (units : List TimedUnit) → length (kept_numbered late clock next units) ≡ length (kept late clock units)
kept_length late clock next [] = refl
kept_length late clock next (unit ∷ units) =
    go (is_kept late clock unit) (kept_numbered late clock (next + 1) units) (kept late clock units) (kept_length late clock (next + 1) units) where
      go : (t : Bool) (items : List Queued) (keeps : List TimedUnit) → length items ≡ length keeps
          → length (cond t (waiting clock next unit ∷ items) items) ≡ length (cond t (unit ∷ keeps) keeps)
      go true items keeps same = ap suc same
      go false items keeps same = same

pub kept_on : (late : Late) (clock next : ℕ) (first more : List TimedUnit)
    → kept_numbered late clock next (first ++ more) ≡ kept_numbered late clock next first ++ kept_numbered late clock (next + length first) more
kept_on late clock next first more =
    ap (filter (λ (item : Queued). is_kept late clock item.2)) (numbered_on clock next first more)
    ∙ filter-append (λ (item : Queued). is_kept late clock item.2) (numbered clock next first) (numbered clock (next + length first) more)

pub kept_few : (late : Late) (clock : ℕ) (units : List TimedUnit) → length (kept late clock units) ≤ length units
kept_few late clock [] = omega arith
kept_few late clock (unit ∷ units) = go (is_kept late clock unit) (kept late clock units) (kept_few late clock units) where
  go : (t : Bool) (keeps : List TimedUnit) → length keeps ≤ length units → length (cond t (unit ∷ keeps) keeps) ≤ suc (length units)
  go true keeps few = omega arith
  go false keeps few = omega arith

pub kept_blocks_few : (late : Late) (clock : ℕ) (units : List TimedUnit) → blocks_of (kept late clock units) ≤ blocks_of units
kept_blocks_few late clock [] = omega arith
kept_blocks_few late clock (unit ∷ units) = go (is_kept late clock unit) (kept late clock units) (kept_blocks_few late clock units) where
  go : (t : Bool) (keeps : List TimedUnit) → blocks_of keeps ≤ blocks_of units → blocks_of (cond t (unit ∷ keeps) keeps) ≤ blocks unit + blocks_of units
  go true keeps few = omega arith
  go false keeps few = omega arith

-- the first of them, and those after it

pub kept_first : (late : Late) (clock : ℕ) (unit : TimedUnit) (units : List TimedUnit)
    → kept late clock (unit ∷ units) ≡ kept late clock (unit ∷ []) ++ kept late clock units
kept_first late clock unit units = go (is_kept late clock unit) (kept late clock units) where
  go : (t : Bool) (keeps : List TimedUnit) → cond t (unit ∷ keeps) keeps ≡ cond t (unit ∷ []) [] ++ keeps
  go true keeps = refl
  go false keeps = refl

pub length_first : (late : Late) (clock : ℕ) (unit : TimedUnit) (units : List TimedUnit)
    → length (kept late clock (unit ∷ units)) ≡ length (kept late clock (unit ∷ [])) + length (kept late clock units)
length_first late clock unit units = ap length (kept_first late clock unit units) ∙ length-append (kept late clock (unit ∷ [])) (kept late clock units)

pub blocks_first : (late : Late) (clock : ℕ) (unit : TimedUnit) (units : List TimedUnit)
    → blocks_of (kept late clock (unit ∷ units)) ≡ blocks_of (kept late clock (unit ∷ [])) + blocks_of (kept late clock units)
blocks_first late clock unit units = ap blocks_of (kept_first late clock unit units) ∙ blocks_joined (kept late clock (unit ∷ [])) (kept late clock units)

pub entered_first : (late : Late) (clock next : ℕ) (unit : TimedUnit) (units : List TimedUnit) (queue : List Queued)
    → enter_all (kept_numbered late clock next (unit ∷ units)) queue
    ≡ enter_all (kept_numbered late clock (next + 1) units) (enter_all (kept_numbered late clock next (unit ∷ [])) queue)
entered_first late clock next unit units queue = go (is_kept late clock unit) (kept_numbered late clock (next + 1) units) where
  go : (t : Bool) (items : List Queued)
      → enter_all (cond t (waiting clock next unit ∷ items) items) queue ≡ enter_all items (enter_all (cond t (waiting clock next unit ∷ []) []) queue)
  go true items = refl
  go false items = refl

-- where late units are delivered, all are kept

pub all_kept : (clock : ℕ) (units : List TimedUnit) → kept Deliver clock units ≡ units
all_kept clock [] = refl
all_kept clock (unit ∷ units) = ap (λ (l : List TimedUnit). unit ∷ l) (all_kept clock units)

pub all_kept_numbered : (clock next : ℕ) (units : List TimedUnit) → kept_numbered Deliver clock next units ≡ numbered clock next units
all_kept_numbered clock next [] = refl
all_kept_numbered clock next (unit ∷ units) = ap (λ (l : List Queued). waiting clock next unit ∷ l) (all_kept_numbered clock (next + 1) units)

pub none_late : (state : State) (units : List TimedUnit) → state.caps.late ≡ Deliver → late_count state units ≡ 0
none_late state units delivers =
    let all : kept state.caps.late state.clock units ≡ units = ap (λ (late : Late). kept late state.clock units) delivers ∙ all_kept state.clock units in
    omega (arith, ap length all)

-- The blocks that units take.

summed : (queue : List Queued) → queued_blocks queue ≡ sum_by (λ (unit : Queued). blocks unit.2) queue
summed [] = omega arith
summed (unit ∷ units) = ap (λ (n : ℕ). blocks unit.2 + n) (summed units) ∙ sym (sum_by-cons (λ (u : Queued). blocks u.2) unit units)

joined_blocks : (units queue : List Queued) → queued_blocks (units ++ queue) ≡ queued_blocks units + queued_blocks queue
joined_blocks [] queue = omega arith
joined_blocks (unit ∷ units) queue = let more = joined_blocks units queue in omega arith

kept_blocks : (late : Late) (clock next : ℕ) (units : List TimedUnit) → queued_blocks (kept_numbered late clock next units) ≡ blocks_of (kept late clock units)
kept_blocks late clock next [] = omega arith
kept_blocks late clock next (unit ∷ units) =
    go (is_kept late clock unit) (kept_numbered late clock (next + 1) units) (kept late clock units) (kept_blocks late clock (next + 1) units) where
      go : (t : Bool) (items : List Queued) (keeps : List TimedUnit) → queued_blocks items ≡ blocks_of keeps
          → queued_blocks (cond t (waiting clock next unit ∷ items) items) ≡ blocks_of (cond t (unit ∷ keeps) keeps)
      go true items keeps same = ap (λ (n : ℕ). blocks unit + n) same
      go false items keeps same = same

entered_blocks : (units queue : List Queued) → queued_blocks (enter_all units queue) ≡ queued_blocks units + queued_blocks queue
entered_blocks units queue =
    summed (enter_all units queue)
    ∙ sum_by-IsPermutation (λ (unit : Queued). blocks unit.2) (units ++ queue) (enter_all units queue) (all_joined units queue)
    ∙ sym (summed (units ++ queue))
    ∙ joined_blocks units queue

pub one_blocks : (unit : Queued) (queue : List Queued) → queued_blocks (enter unit queue) ≡ blocks unit.2 + queued_blocks queue
one_blocks unit queue = entered_blocks (unit ∷ []) queue ∙ only (blocks unit.2) (queued_blocks queue) where
  only : (m n : ℕ) → m + 0 + n ≡ m + n
  only m n = omega arith

pub all_blocks : (late : Late) (clock next : ℕ) (units : List TimedUnit) (queue : List Queued)
    → queued_blocks (enter_all (kept_numbered late clock next units) queue) ≡ blocks_of (kept late clock units) + queued_blocks queue
all_blocks late clock next units queue =
    entered_blocks (kept_numbered late clock next units) queue ∙ ap (λ (n : ℕ). n + queued_blocks queue) (kept_blocks late clock next units)

-- Units with new numbers.

-- a number above those of all units is new
pub next_new : (next : ℕ) (queue : List Queued) → AreNumbered next queue → IsNewUnit next queue
next_new next [] below = tt
next_new next (unit ∷ units) below = (differs (unit_of unit) below.0, next_new next units below.1) where
  differs : (n : ℕ) → n < next → n ≢ next
  differs n below same = omega arith

numbered_later : (next : ℕ) (queue : List Queued) → AreNumbered next queue → AreNumbered (next + 1) queue
numbered_later next [] below = tt
numbered_later next (unit ∷ units) below = (later (unit_of unit) below.0, numbered_later next units below.1) where
  later : (n : ℕ) → n < next → n < next + 1
  later n less = omega arith

pub one_ordered : (clock next : ℕ) (unit : TimedUnit) (queue : List Queued) → AreNumbered next queue → IsInOrder queue
    → IsInOrder (enter (waiting clock next unit) queue)
one_ordered clock next unit queue below ordered = enter_ordered (waiting clock next unit) queue (next_new next queue below) ordered

pub one_numbered : (clock next : ℕ) (unit : TimedUnit) (queue : List Queued) → AreNumbered next queue
    → AreNumbered (next + 1) (enter (waiting clock next unit) queue)
one_numbered clock next unit queue below =
    all_entered (λ (u : Queued). unit_of u < next + 1) (waiting clock next unit) queue (omega arith) (numbered_later next queue below)

-- what holds where a unit enters first, and where it doesn't, holds by a test
entered_or_not : (P : List Queued → Type 0) (t : Bool) (unit : Queued) (units queue : List Queued) → P (enter_all units (enter unit queue))
    → P (enter_all units queue) → P (enter_all (cond t (unit ∷ units) units) queue)
entered_or_not P true unit units queue entered not_entered = entered
entered_or_not P false unit units queue entered not_entered = not_entered

pub all_ordered : (late : Late) (clock next : ℕ) (units : List TimedUnit) (queue : List Queued) → AreNumbered next queue → IsInOrder queue
    → IsInOrder (enter_all (kept_numbered late clock next units) queue)
all_ordered late clock next [] queue below ordered = ordered
all_ordered late clock next (unit ∷ units) queue below ordered =
    entered_or_not IsInOrder (is_kept late clock unit) (waiting clock next unit) (kept_numbered late clock (next + 1) units) queue
    (all_ordered late clock (next + 1) units (enter (waiting clock next unit) queue) (one_numbered clock next unit queue below)
    (one_ordered clock next unit queue below ordered)) (all_ordered late clock (next + 1) units queue (numbered_later next queue below) ordered)

pub all_numbered : (late : Late) (clock next : ℕ) (units : List TimedUnit) (queue : List Queued) → AreNumbered next queue
    → AreNumbered (next + length units) (enter_all (kept_numbered late clock next units) queue)
all_numbered late clock next [] queue below = let same : next ≡ next + 0 = omega arith in subst (λ (n : ℕ). AreNumbered n queue) same below
all_numbered late clock next (unit ∷ units) queue below =
    let same : next + 1 + length units ≡ next + suc (length units) = omega arith in
    subst (λ (n : ℕ). AreNumbered n (enter_all (kept_numbered late clock next (unit ∷ units)) queue)) same
    (entered_or_not (AreNumbered (next + 1 + length units)) (is_kept late clock unit) (waiting clock next unit)
    (kept_numbered late clock (next + 1) units) queue
    (all_numbered late clock (next + 1) units (enter (waiting clock next unit) queue) (one_numbered clock next unit queue below))
    (all_numbered late clock (next + 1) units queue (numbered_later next queue below)))
