-- Units that enter the queue and leave it, with what is stored of them.
use Rattle.std.proofs.Common.{◌≡◌, ℕ, ◌+◌, ◌<◌, Bool, true, false, cond, List, [], ◌∷◌, insert, drop, refl, sym, ap, subst, max, ◌∙◌, not}
use Rattle.std.proofs.Common.{one-add, arith}
use Rattle.std.specs.List.{AllByRecursion, position_or_len}
use Rattle.osc_packet.specs.Units.{TimedUnit, blocks}
use Rattle.osc_tree.proofs.Lists.{insert-map}
use Rattle.osc_pool.specs.Holding.{blocks_for, used_blocks, AreApart, IsNew, KeepsLive, KeepsOthers}
use Rattle.osc_queue.specs.Timed.{Item, due_of, unit_of, is_before, enter, IsNewUnit}
use Rattle.osc_queue.proofs.Orders.{all_entered}
use Rattle.osc_model.specs.State.{Queued}
use Rattle.osc_model.specs.Counts.{queued_blocks}
use Rattle.osc_model.specs.Step.{waiting}
use Rattle.osc_model.proofs.Queues.{one_blocks}
use Rattle.osc_core.specs.declared.store.Stored.{Stored}
use Rattle.osc_core.specs.Stored.{unit_in, IsStored, AreStored}
use Rattle.osc_core.specs.Views.{queued_of, queue_of, AreKept, AreQueued}
use Rattle.osc_core.proofs.Stocks.{stored_blocks, all_still, live_still, others_still, apart_new}

-- which comes first doesn't hang on what is stored
place_viewed : (held : List (List ℕ)) (item : Item Stored) (unit : TimedUnit) (items : List (Item Stored))
    → position_or_len (is_before (due_of item, unit_of item, unit)) (queue_of held items) ≡ position_or_len (is_before item) items
place_viewed held item unit [] = refl
place_viewed held item unit (other ∷ items) = ap (λ (n : ℕ). cond (not (is_before item other)) (1 + n) 0) (place_viewed held item unit items)

-- an item that enters stands for a unit that enters
queue_entered : (held : List (List ℕ)) (item : Item Stored) (items : List (Item Stored))
    → queue_of held (enter item items) ≡ enter (queued_of held item) (queue_of held items)
queue_entered held item items =
    insert-map (queued_of held) (position_or_len (is_before item) items) item items
    ∙ ap (λ (n : ℕ). insert (queue_of held items) n (queued_of held item)) (sym (place_viewed held item (unit_in held item.2) items))

-- and all are stored
stored_entered : (held : List (List ℕ)) (item : Item Stored) (items : List (Item Stored)) → IsStored held item.2
    → AllByRecursion (λ other. AreApart item.2.chain other.2.chain) items → AreStored held items → AreStored held (enter item items)
stored_entered held item [] is apart are = (is, tt, tt)
stored_entered held item (first ∷ items) is apart are = go (is_before item first) refl (stored_entered held item items is apart.1 are.2) where
  go : (t : Bool) → is_before item first ≡ t → AreStored held (enter item items) → AreStored held (enter item (first ∷ items))
  go true e more = let ahead : enter item (first ∷ items) ≡ item ∷ first ∷ items = rw e refl in subst (AreStored held) (sym ahead) (is, apart, are)
  go false e more =
      let behind : enter item (first ∷ items) ≡ first ∷ enter item items = rw (e, one-add) refl in
      subst (AreStored held) (sym behind) (
        are.0,
        all_entered (λ other. AreApart first.2.chain other.2.chain) item items (λ some more same. apart.0 more some (sym same)) are.1,
        more,
      )

-- a number above those of all items is new
pub new_unit : (n : ℕ) (items : List (Item Stored)) → AllByRecursion (λ item. unit_of item < n) items → IsNewUnit n items
new_unit n [] below = tt
new_unit n (item ∷ items) below = (λ (same : unit_of item ≡ n). omega (arith, below.0), new_unit n items below.1)

numbers_entered : (n : ℕ) (item : Item Stored) (items : List (Item Stored)) → unit_of item ≡ n → AllByRecursion (λ item. unit_of item < n) items
    → AllByRecursion (λ item. unit_of item < n + 1) (enter item items)
numbers_entered n item items is below = all_entered (λ item. unit_of item < n + 1) item items (omega (arith, is)) (wider items below) where
  wider : (others : List (Item Stored)) → AllByRecursion (λ item. unit_of item < n) others → AllByRecursion (λ item. unit_of item < n + 1) others
  wider [] below = tt
  wider (other ∷ others) below = (omega (arith, below.0), wider others below.1)

-- what the queue and the store hold, where a unit enters
pub record IsEntered (later : List (List ℕ)) (items : List (Item Stored)) (queue : List Queued) (next : ℕ) : Type 0 where
  pub queue_is : queue_of later items ≡ queue
  pub running : AreQueued later items next

pub unit_entered : (held later : List (List ℕ)) (items : List (Item Stored)) (clock number due : ℕ) (unit : TimedUnit) (one : Stored)
    → AreQueued held items number
    → due ≡ max unit.tag clock → IsStored later one → unit_in later one ≡ unit → IsNew one.chain held → KeepsLive held later
    → used_blocks later ≡ used_blocks held + blocks unit
    → IsEntered later (enter (due, number, one) items) (enter (waiting clock number unit) (queue_of held items)) (number + 1)
unit_entered held later items clock number due unit one are due_is stored value new keeps used =
    let item : Item Stored = (due, number, one) in
    let still = all_still held later items are.kept.stored (live_still held later items keeps are.kept.stored) in
    let queue : queue_of later (enter item items) ≡ enter (waiting clock number unit) (queue_of held items) =
    queue_entered later item items ∙ ap (λ (l : List Queued). enter (due, number, unit_in later one) l) still.queue
    ∙ ap (λ (u : TimedUnit). enter (due, number, u) (queue_of held items)) value
    ∙ ap (λ (n : ℕ). enter (n, number, unit) (queue_of held items)) due_is in
    record {
      queue_is = queue;
      running = record {
        kept = record {
          stored = stored_entered later item items stored (apart_new held one.chain items new are.kept.stored) still.stored;
          counted = omega (arith, used, are.kept.counted, ap queued_blocks queue, one_blocks (waiting clock number unit) (queue_of held items));
        };
        numbers = numbers_entered number item items refl are.numbers;
      };
    }

-- where the first leaves
pub record IsTaken (later : List (List ℕ)) (others : List (Item Stored)) (queue : List Queued) : Type 0 where
  pub queue_is : queue_of later others ≡ queue
  pub kept : AreKept later others

pub unit_taken : (held later : List (List ℕ)) (item : Item Stored) (items others : List (Item Stored)) → AreKept held items → items ≡ item ∷ others
    → KeepsOthers item.2.chain held later → used_blocks later + blocks_for item.2.chain.len ≡ used_blocks held
    → IsTaken later others (drop 1 (queue_of held items))
unit_taken held later item items others kept is keeps used =
    let are = subst (AreKept held) is kept in
    let still = all_still held later others are.stored.2 (others_still held later item.2.chain others keeps are.stored.1) in
    record {
      queue_is = still.queue ∙ ap (λ (l : List (Item Stored)). drop 1 (queue_of held l)) (sym is);
      kept = record {
        stored = still.stored;
        counted = omega (arith, used, are.counted, stored_blocks are.stored.0, ap queued_blocks still.queue);
      };
    }
