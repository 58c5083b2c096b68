-- The units that wait: one alone, or those that are queued.
use Rattle.std.proofs.Common.{◌≡◌, ℕ, ◌+◌, ◌<◌, ◌≤◌, IsTrue, nat_le, true, false, List, [], ◌∷◌, ◌++◌, append-nil, drop, length, slice_get, Option, Some, None}
use Rattle.std.proofs.Common.{unwrap_or, is_some, max}
use Rattle.std.proofs.Common.{refl, sym, ap, subst, ◌∙◌, arith}
use Rattle.std.proofs.lemmas.Bool.Decides.{nat_tests}
use Rattle.std.specs.List.{AllByRecursion, list_all}
use Rattle.osc_atoms.specs.Atoms.{word}
use Rattle.osc_message.specs.Reading.{is_message}
use Rattle.osc_packet.specs.Units.{TimedUnit, stored_size, blocks}
use Rattle.osc_pool.specs.Holding.{blocks_for, used_blocks}
use Rattle.osc_queue.specs.Timed.{Item, due_of, unit_of, enter, NoneIsDue}
use Rattle.osc_queue.proofs.Orders.{never_itself}
use Rattle.osc_model.specs.Counts.{queued_blocks}
use Rattle.osc_model.specs.Events.{release, nothing_due}
use Rattle.osc_model.specs.Releases.{IsLeastDue}
use Rattle.osc_model.specs.State.{State, Queued, AreNumbered}
use Rattle.osc_model.specs.Step.{waiting, decided, releases, calls_from, hits_of, invocations_of}
use Rattle.osc_core.specs.Due.{IsDue}
use Rattle.osc_core.specs.Frames.{framed, messages_in, AreFramed}
use Rattle.osc_core.specs.Stored.{unit_in, IsStored}
use Rattle.osc_core.specs.Views.{queued_of, queue_of, AreKept, lone_of, waiting_units, IsAlone, MayBeAlone, BeginsWith, FirstIsDue, first_messages}
use Rattle.osc_core.specs.declared.store.Stored.{Stored}
use Rattle.osc_core.specs.declared.backlog.Lone.{Lone}
use Rattle.osc_core.proofs.Storing.{length-framed, messages-framed}

-- the numbers of the items are those of their units
pub numbers_of : (next : ℕ) (held : List (List ℕ)) (items : List (Item Stored)) → AreNumbered next (queue_of held items)
    → AllByRecursion (λ item. unit_of item < next) items
numbers_of next held [] below = tt
numbers_of next held (item ∷ items) below = (below.0, numbers_of next held items below.1)

-- A unit that waits alone.

-- it takes one block
pub lone_blocks : (lone : Lone) {bytes : List ℕ} {items : List (Item Stored)} {places all : ℕ} → IsAlone bytes items places all
    → blocks (lone_of lone bytes).2 ≡ 1
lone_blocks lone {bytes} is =
    let are = is.framed in
    let list : messages_in bytes ≡ are.messages = ap messages_in are.is ∙ messages-framed are.messages are.read in
    let size : stored_size (messages_in bytes) ≡ length bytes = ap stored_size list ∙ sym (ap length are.is ∙ length-framed are.messages) in
    omega (arith, size, is.some, is.small)

-- and nothing else takes a block
pub none_used : {bytes : List ℕ} {held : List (List ℕ)} {items : List (Item Stored)} {places all : ℕ} → IsAlone bytes items places all
    → AreKept held items → used_blocks held ≡ 0
none_used {bytes} {held} is kept = kept.counted ∙ ap (λ (l : List (Item Stored)). queued_blocks (queue_of held l)) is.none

pub is_alone : (one : Option Lone) (lone : Lone) (bytes : List ℕ) (items : List (Item Stored)) (places all : ℕ) → one ≡ Some lone
    → MayBeAlone one bytes items places all → IsAlone bytes items places all
is_alone one lone bytes items places all is may = subst (λ (o : Option Lone). MayBeAlone o bytes items places all) is may

pub alone_is : (one : Option Lone) (lone : Lone) (bytes : List ℕ) (held : List (List ℕ)) (items : List (Item Stored)) → one ≡ Some lone
    → waiting_units one bytes held items ≡ lone_of lone bytes ∷ []
alone_is one lone bytes held items is = ap (λ (o : Option Lone). waiting_units o bytes held items) is

pub lone_least : (one : Option Lone) (lone : Lone) (bytes : List ℕ) (held : List (List ℕ)) (items : List (Item Stored)) → one ≡ Some lone
    → IsLeastDue (waiting_units one bytes held items) (Some lone.due)
lone_least one lone bytes held items is =
    subst (λ (q : List Queued). IsLeastDue q (Some lone.due)) (sym (alone_is one lone bytes held items is))
    (lone_of lone bytes, (0, omega arith, refl), (never_itself (lone_of lone bytes), tt), refl)

-- None waits alone.

pub none_is : (one : Option Lone) → is_some one ≡ false → one ≡ None
none_is (Some lone) is = absurd (cc)
none_is None is = refl

pub queued_is : (one : Option Lone) (bytes : List ℕ) (held : List (List ℕ)) (items : List (Item Stored)) → one ≡ None
    → waiting_units one bytes held items ≡ queue_of held items
queued_is one bytes held items is = ap (λ (o : Option Lone). waiting_units o bytes held items) is

-- the first of the queue is stored
pub first_stored : (held : List (List ℕ)) (items : List (Item Stored)) (due unit : ℕ) (stored : Stored) → slice_get items 0 ≡ Some (due, unit, stored)
    → AreKept held items → IsStored held stored
first_stored held [] due unit stored at kept = absurd (cc)
first_stored held (item ∷ items) due unit stored at kept =
    let same : item ≡ (due, unit, stored) = ap (λ (o : Option (Item Stored)). unwrap_or o item) at in
    subst (λ (i : Item Stored). IsStored held i.2) same kept.stored.0

pub not_none_due : (now : ℕ) (held : List (List ℕ)) (items : List (Item Stored)) → FirstIsDue now (queue_of held items) → NoneIsDue now items → ⊥
not_none_due now held [] due none = due
not_none_due now held (item ∷ items) due none = omega (arith, due, none.0)

-- A message begins to wait alone.

pub record Stands (bytes message : List ℕ) : Type 0 where
  pub framed : AreFramed bytes
  pub messages_are : messages_in bytes ≡ message ∷ []
  pub long : length bytes ≡ 4 + length message

pub stands : (bytes message : List ℕ) → bytes ≡ word (length message) ++ message → IsTrue (is_message 1073741824 message) → length message ≤ 60
    → Stands bytes message
stands bytes message is read small =
    let all : IsTrue (list_all (is_message 1073741824) (message ∷ [])) = rw read refl in
    let text : bytes ≡ framed (message ∷ []) = is ∙ ap (λ (l : List ℕ). word (length message) ++ l) (sym (append-nil message)) in
    let long : length bytes ≡ 4 + length message = omega (arith, ap length text, length-framed (message ∷ [])) in
    record {
      framed = record { messages = message ∷ []; is = text; read = all; few = omega (arith, long, small) };
      messages_are = ap messages_in text ∙ messages-framed (message ∷ []) all;
      long = long;
    }

-- it enters where none waits
pub stands_entered : (unit : TimedUnit) (tag clock number : ℕ) (message : List ℕ) (before later : List Queued) → tag ≡ unit.tag
    → unit.messages ≡ message ∷ [] → before ≡ [] → later ≡ (max tag clock, number, record { tag = tag; messages = message ∷ [] }) ∷ []
    → later ≡ enter (waiting clock number unit) before
stands_entered unit tag clock number message before later tag_is alone none is =
    is ∙ ap (λ (n : ℕ). (max n clock, number, record { tag = n; messages = message ∷ [] }) ∷ []) tag_is
    ∙ ap (λ (l : List (List ℕ)). (max unit.tag clock, number, record { tag = unit.tag; messages = l }) ∷ []) (sym alone)
    ∙ ap (λ (q : List Queued). enter (waiting clock number unit) q) (sym none)

-- It is queued.

pub record IsSettled (later : List (List ℕ)) (items : List (Item Stored)) (queue : List Queued) : Type 0 where
  pub queue_is : queue_of later items ≡ queue
  pub kept : AreKept later items

pub settled : (lone : Lone) (bytes : List ℕ) (held later : List (List ℕ)) (items : List (Item Stored)) (places all : ℕ) (one : Stored)
    → IsAlone bytes items places all → AreKept held items → IsStored later one
    → unit_in later one ≡ record { tag = lone.tag; messages = messages_in bytes }
    → used_blocks later ≡ used_blocks held + blocks_for (length bytes)
    → IsSettled later (enter (lone.due, lone.unit, one) items) (lone_of lone bytes ∷ [])
settled lone bytes held later items places all one alone kept stored value used =
    let free : used_blocks held ≡ 0 = none_used alone kept in
    subst (λ (l : List (Item Stored)). IsSettled later (enter (lone.due, lone.unit, one) l) (lone_of lone bytes ∷ [])) (sym alone.none)
    (record {
      queue_is = ap (λ (u : TimedUnit). (lone.due, lone.unit, u) ∷ []) value;
      kept = record {
        stored = (stored, tt, tt);
        counted = omega (arith, used, free, ap blocks value, lone_blocks lone alone, alone.some, alone.small);
      };
    })

-- The first unit, where it is due.

pub record IsHead (state : State) (queue : List Queued) (unit next : ℕ) : Type 0 where
  pub some : 0 < length queue
  pub below : unit < next
  pub due : FirstIsDue state.clock queue
  pub answer : IsDue state unit (hits_of (calls_from state.methods 0 (first_messages queue)))
  pub invocations_are : (decided state release).invocations ≡ invocations_of unit (calls_from state.methods 0 (first_messages queue))
  pub state_is : (decided state release).state ≡ record state { queue = drop 1 queue }

pub is_head : (state : State) (queue : List Queued) (due unit next : ℕ) → state.queue ≡ queue → BeginsWith due unit queue → AreNumbered next queue
    → due ≤ state.clock → IsHead state queue unit next
is_head state [] due unit next is begins below now = absurd begins
is_head state (first ∷ others) due unit next is begins below now =
    let le : nat_le (due_of first) state.clock ≡ true = grind (arith, nat_tests, begins.0) in
    let stepped : decided state release ≡ releases state first others = rw (is, le) refl in
    let here : IsHead state (first ∷ others) (unit_of first) next = record {
      some = omega arith;
      below = below.0;
      due = omega (arith, begins.0, now);
      answer = ap (λ s. s.answer) stepped;
      invocations_are = ap (λ s. s.invocations) stepped;
      state_is = ap (λ s. s.state) stepped;
    } in
    subst (λ (n : ℕ). IsHead state (first ∷ others) n next) (sym begins.1) here

-- it isn't due, or there is none
pub head_waits : (state : State) (queue : List Queued) (due unit : ℕ) → state.queue ≡ queue → BeginsWith due unit queue → state.clock < due
    → (decided state release).answer ≡ nothing_due (Some due)
head_waits state [] due unit is begins later = absurd begins
head_waits state (first ∷ others) due unit is begins later =
    let le : nat_le (due_of first) state.clock ≡ false = grind (arith, nat_tests, begins.0) in
    rw (is, le) (ap (λ (n : ℕ). nothing_due (Some n)) (sym begins.0))

pub none_waits : (state : State) (queue : List Queued) → state.queue ≡ queue → queue ≡ [] → (decided state release).answer ≡ nothing_due None
none_waits state queue is none = let all : state.queue ≡ [] = is ∙ none in rw all refl
