-- What is stored of units, before and after one enters or leaves.
use Rattle.std.proofs.Common.{◌≡◌, ℕ, List, [], ◌∷◌, length, refl, ap, sym, ◌∙◌, arith}
use Rattle.std.specs.List.{AllByRecursion}
use Rattle.osc_packet.specs.Units.{TimedUnit, stored_size, blocks}
use Rattle.osc_pool.specs.declared.chain.Chain.{Chain}
use Rattle.osc_pool.specs.Holding.{blocks_for, held_by, AreApart, IsNew, KeepsLive, KeepsOthers}
use Rattle.osc_queue.specs.Timed.{Item, due_of, unit_of}
use Rattle.osc_model.specs.State.{Queued}
use Rattle.osc_core.specs.declared.store.Stored.{Stored}
use Rattle.osc_core.specs.Frames.{messages_in, AreFramed}
use Rattle.osc_core.specs.Stored.{unit_in, IsStored, AreStored}
use Rattle.osc_core.specs.Views.{queued_of, queue_of}
use Rattle.osc_core.proofs.Storing.{length-framed, messages-framed}

-- the messages of a unit are read again
pub stored_messages : {held : List (List ℕ)} {stored : Stored} (is : IsStored held stored) → (unit_in held stored).messages ≡ is.messages
stored_messages is = ap messages_in is.holds ∙ messages-framed is.messages is.read

pub stored_framed : {held : List (List ℕ)} {stored : Stored} → IsStored held stored → AreFramed (held_by stored.chain held)
stored_framed is = record {
  messages = is.messages;
  is = is.holds;
  read = is.read;
  few = omega (arith, is.small, ap length is.holds, length-framed is.messages);
}

-- a chain is as long as its messages take
pub stored_long : {held : List (List ℕ)} {stored : Stored} (is : IsStored held stored) → stored.chain.len ≡ stored_size is.messages
stored_long is = sym is.live ∙ ap length is.holds ∙ length-framed is.messages

pub stored_blocks : {held : List (List ℕ)} {stored : Stored} → IsStored held stored → blocks_for stored.chain.len ≡ blocks (unit_in held stored)
stored_blocks is = ap blocks_for (stored_long is) ∙ ap (λ (l : List (List ℕ)). blocks_for (stored_size l)) (sym (stored_messages is))

-- a unit whose chain holds what it held is stored still, and is the same
pub stored_still : {held : List (List ℕ)} (later : List (List ℕ)) {stored : Stored} → IsStored held stored
    → held_by stored.chain later ≡ held_by stored.chain held → IsStored later stored
stored_still later is same = record {
  messages = is.messages;
  live = ap length same ∙ is.live;
  holds = same ∙ is.holds;
  read = is.read;
  small = is.small;
}

unit_still : (held later : List (List ℕ)) (stored : Stored) → held_by stored.chain later ≡ held_by stored.chain held
    → unit_in later stored ≡ unit_in held stored
unit_still held later stored same = ap (λ (l : List ℕ). record { tag = stored.tag; messages = messages_in l }) same

-- so are all of them
pub record AreStill (held later : List (List ℕ)) (items : List (Item Stored)) : Type 0 where
  pub stored : AreStored later items
  pub queue : queue_of later items ≡ queue_of held items

pub all_still : (held later : List (List ℕ)) (items : List (Item Stored)) → AreStored held items
    → AllByRecursion (λ item. held_by item.2.chain later ≡ held_by item.2.chain held) items → AreStill held later items
all_still held later [] are same = record { stored = tt; queue = refl }
all_still held later (item ∷ items) are same =
    let rest = all_still held later items are.2 same.1 in
    record {
      stored = (stored_still later are.0 same.0, are.1, rest.stored);
      queue = ap (λ (u : TimedUnit). (due_of item, unit_of item, u) ∷ queue_of later items) (unit_still held later item.2 same.0)
          ∙ ap (λ (l : List Queued). queued_of held item ∷ l) rest.queue;
    }

-- where a unit enters
pub live_still : (held later : List (List ℕ)) (items : List (Item Stored)) → KeepsLive held later → AreStored held items
    → AllByRecursion (λ item. held_by item.2.chain later ≡ held_by item.2.chain held) items
live_still held later [] keeps are = tt
live_still held later (item ∷ items) keeps are = (keeps item.2.chain are.0.live, live_still held later items keeps are.2)

pub apart_new : (held : List (List ℕ)) (chain : Chain) (items : List (Item Stored)) → IsNew chain held → AreStored held items
    → AllByRecursion (λ other. AreApart chain other.2.chain) items
apart_new held chain [] new are = tt
apart_new held chain (item ∷ items) new are = (new item.2.chain are.0.live, apart_new held chain items new are.2)

-- where a unit leaves
pub others_still : (held later : List (List ℕ)) (chain : Chain) (items : List (Item Stored)) → KeepsOthers chain held later
    → AllByRecursion (λ other. AreApart chain other.2.chain) items
    → AllByRecursion (λ item. held_by item.2.chain later ≡ held_by item.2.chain held) items
others_still held later chain [] keeps apart = tt
others_still held later chain (item ∷ items) keeps apart =
    (keeps item.2.chain (λ some more same. apart.0 more some (sym same)), others_still held later chain items keeps apart.1)
