-- What relays have sent of a history, from what they have heard of it.
use Rattle.std.proofs.Common.{◌≡◌, ℕ, zero, suc, ◌<◌, ◌≤◌, ◌^◌, ◌==◌, Bool, true, false, cond, List, [], ◌∷◌, ◌++◌, map, filter, length}
use Rattle.std.proofs.Common.{Option, Some, None, slice_index_or, refl, ap, subst, arith}
use Rattle.std.specs.List.{AllByRecursion, flat_map}
use Rattle.std.specs.Option.{option_map}
use Rattle.std.proofs.Math.Logic.{∥∥₁_map}
use Rattle.osc_packet.specs.Units.{TimedUnit, stored_size, blocks}
use Rattle.osc_method.specs.Heard.{last_of}
use Rattle.osc_model.specs.Limits.{Limits}
use Rattle.osc_model.specs.State.{Queued, State, opening}
use Rattle.osc_model.specs.Counts.{queued_blocks}
use Rattle.osc_model.specs.Events.{Entry, Invocation}
use Rattle.osc_model.specs.Heard.{Told, bytes_of, calls_bytes}
use Rattle.osc_model.specs.Step.{step}
use Rattle.osc_model.specs.History.{Legal, LegalFrom, IsSound, IsInvokedIn, HasHeard, after, invocations}
use Rattle.osc_relay.specs.Relayed.{relayed}
use Rattle.osc_relay.specs.Sent.{Called, IsShort, calls_text, messages_of, Relays, HasRelayed}
use Rattle.osc_stage.specs.Sent.{messages_to, HasSent}

-- Messages are short, since so are the blocks of their units.

message_small : (messages : List (List ℕ)) (index : ℕ) → index < length messages → length (slice_index_or messages index []) ≤ stored_size messages
message_small [] index within = absurd (omega arith)
message_small (message ∷ messages) zero within = omega arith
message_small (message ∷ messages) (suc index) within = omega (arith, message_small messages index (omega (arith, within)))

unit_small : (queue : List Queued) (unit other : Queued) (k : ℕ) → k < length queue → slice_index_or queue k other ≡ unit
    → blocks unit.2 ≤ queued_blocks queue
unit_small [] unit other k within is = absurd (omega arith)
unit_small (first ∷ queue) unit other zero within is = omega (arith, ap (λ (u : Queued). blocks u.2) is)
unit_small (first ∷ queue) unit other (suc k) within is = omega (arith, unit_small queue unit other k (omega (arith, within)) is)

size_small : (unit : TimedUnit) → blocks unit ≤ 1048576 → stored_size unit.messages < 2 ^ 32
size_small unit few = omega (arith, few)

abbrev IsCallShort : Invocation → Type 0
IsCallShort invocation = length invocation.call.message < 2 ^ 32

-- what was invoked in a legal history is short
module _ (stays : (caps : Limits) (history : List Entry) → Legal caps history → IsSound (after (opening caps) history)) where
  legal_front : (state : State) (before : List Entry) (more : List Entry) → LegalFrom state (before ++ more) → LegalFrom state before
  legal_front state [] more legal = tt
  legal_front state (entry ∷ before) more legal =
      (legal.0, legal.1, legal.2, legal.3, legal_front (step state entry.event).state before more legal.4)

  invoked_short : (caps : Limits) (history : List Entry) (invocation : Invocation) → Legal caps history → IsInvokedIn (opening caps) history invocation
      → IsCallShort invocation
  invoked_short caps history invocation legal is =
      let front : LegalFrom (opening caps) is.before =
      legal_front (opening caps) is.before (is.entry ∷ is.later) (subst (LegalFrom (opening caps)) is.place legal.1) in
      let sound = stays caps is.before (legal.0, front) in
      let queue = (after (opening caps) is.before).queue in
      let few : blocks is.unit.2 ≤ queued_blocks queue = unit_small queue is.unit is.unit is.queued.0 is.queued.1 is.queued.2 in
      let small = size_small is.unit.2 (omega (arith, few, sound.few_blocks, sound.caps.blocks)) in
      omega (arith, message_small is.unit.2.messages invocation.call.index is.call.within, small, ap length is.call.message)

  pub all_short : (caps : Limits) (history : List Entry) → Legal caps history → (made : List Invocation)
      → AllByRecursion (IsInvokedIn (opening caps) history) made → AllByRecursion IsCallShort made
  all_short caps history legal [] all = tt
  all_short caps history legal (invocation ∷ made) all = (invoked_short caps history invocation legal all.0, all_short caps history legal made all.1)

-- The calls of a method, as a relay has them.

abbrev called_of : Invocation → Called
called_of invocation = record { unit = invocation.unit; index = invocation.call.index; message = invocation.call.message }

abbrev calls_to : List Invocation → ℕ → List Called
calls_to invocations id = map called_of (filter (λ invocation. invocation.call.id == id) invocations)

short_calls : (made : List Invocation) (id : ℕ) → AllByRecursion IsCallShort made → AllByRecursion IsShort (calls_to made id)
short_calls [] id all = tt
short_calls (invocation ∷ made) id all = go (invocation.call.id == id) (short_calls made id all.1) where
  go : (is : Bool) → AllByRecursion IsShort (calls_to made id)
      → AllByRecursion IsShort (map called_of (cond is (invocation ∷ filter (λ i. i.call.id == id) made) (filter (λ i. i.call.id == id) made)))
  go true rest = (all.0, rest)
  go false rest = rest

bytes_are : (made : List Invocation) → flat_map bytes_of made ≡ calls_text (map called_of made)
bytes_are [] = refl
bytes_are (invocation ∷ made) = ap (λ (l : List ℕ). bytes_of invocation ++ l) (bytes_are made)

messages_are : (made : List Invocation) → messages_of (map called_of made) ≡ map (λ invocation. invocation.call.message) made
messages_are [] = refl
messages_are (invocation ∷ made) = ap (λ (l : List (List ℕ)). invocation.call.message ∷ l) (messages_are made)

-- what an outlet of a relay with these bytes has sent
abbrev Each : Type 0
Each = (address : List ℕ) (room keep : ℕ) (calls : List Called) (sent : Option (List (List ℕ))) (losses : ℕ)
    → AllByRecursion IsShort calls → length (calls_text calls) < keep
    → ∥ HasRelayed address room keep (Some (last_of keep (calls_text calls))) sent losses ∥₁
    → ∥ Relays address room (messages_of calls) sent losses ∥₁

abbrev All : Type 0
All = (address : List ℕ) (room : ℕ) (messages : List (List ℕ)) (sent : Option (List (List ℕ))) → ∥ Relays address room messages sent 0 ∥₁
    → sent ≡ option_map (λ _. map (relayed address) messages) sent

none_told : (address : List ℕ) (room keep : ℕ) (bytes : List ℕ) (sent : Option (List (List ℕ))) (losses : ℕ)
    → HasRelayed address room keep None sent losses → HasRelayed address room keep (Some bytes) sent losses
none_told address room keep bytes sent losses has = let none : None ≡ Some (last_of keep (calls_text has.calls)) = has.bytes in absurd (cc)

heard_all : (address : List ℕ) (room keep : ℕ) (heard : Option (List ℕ)) (bytes : List ℕ) (sent : Option (List (List ℕ))) (losses : ℕ)
    → heard ≡ option_map (λ _. bytes) heard → ∥ HasRelayed address room keep heard sent losses ∥₁ → ∥ HasRelayed address room keep (Some bytes) sent losses ∥₁
heard_all address room keep None bytes sent losses is has = ∥∥₁_map has (none_told address room keep bytes sent losses)
heard_all address room keep (Some told) bytes sent losses is has =
    subst (λ (h : Option (List ℕ)). ∥ HasRelayed address room keep h sent losses ∥₁) is has

pub sends_all : Each → All → (made : List Invocation) (told : Told) (address : List ℕ) (room : ℕ) (sent : Option (List (List ℕ))) (losses : ℕ)
    → AllByRecursion IsCallShort made → HasHeard made told → length (calls_bytes made told.id) < told.keep.most
    → ∥ HasRelayed address room told.keep.most told.heard sent losses ∥₁ → HasSent made told.id address room sent losses
sends_all each all made told address room sent losses short hears few has =
    let mine = filter (λ (i : Invocation). i.call.id == told.id) made in
    let calls = calls_to made told.id in
    let bytes : calls_bytes made told.id ≡ calls_text calls = bytes_are mine in
    let heard : ∥ HasRelayed address room told.keep.most (Some (last_of told.keep.most (calls_text calls))) sent losses ∥₁ =
    subst (λ (l : List ℕ). ∥ HasRelayed address room told.keep.most (Some (last_of told.keep.most l)) sent losses ∥₁) bytes
    (heard_all address room told.keep.most told.heard (last_of told.keep.most (calls_bytes made told.id)) sent losses hears has) in
    let relays : ∥ Relays address room (messages_to made told.id) sent losses ∥₁ =
    subst (λ (l : List (List ℕ)). ∥ Relays address room l sent losses ∥₁) (messages_are mine)
    (each address room told.keep.most calls sent losses (short_calls made told.id short) (omega (arith, few, ap length bytes)) heard) in
    record {
      relays = relays;
      all = λ none. all address room (messages_to made told.id) sent
          (subst (λ (n : ℕ). ∥ Relays address room (messages_to made told.id) sent n ∥₁) none relays);
    }
