-- What an outlet was handed after one more call.
use Rattle.std.proofs.Common.{◌≡◌, ℕ, ◌+◌, ◌-◌, ◌^◌, Bool, true, false, min, List, [], ◌∷◌, ◌++◌, length, map, All, Option, Some, None, refl, sym, ap, ◌∙◌, subst, arith, cond, zero-add}
use Rattle.std.specs.Prelude.{nat_le, unwrap_or, sum_by, count_by, if◌then◌else◌}
use Rattle.std.specs.List.{AllByRecursion, AllZip}
use Rattle.std.specs.Option.{option_map}
use Rattle.std.proofs.lemmas.List.{append-nil, flat_map_more, map-append}
use Rattle.std.proofs.Math.Seq.{drop-nil}
use Rattle.std.proofs.lemmas.List.Sums.{sum_by-append, sum_by-cons}
use Rattle.std.proofs.Math.Logic.{∥∥₁_map}
use Rattle.osc_method.specs.Heard.{last_of, after_call}
use Rattle.osc_method.proofs.Kept.{keep_last-append}
use Rattle.osc_relay.specs.declared.outlet.Sending.{Sending}
use Rattle.osc_relay.specs.declared.outlet.Sending.TheVariants.{Sent, Failed}
use Rattle.osc_relay.specs.Outlets.{after_sending, losses_after, IsReset, Takes}
use Rattle.osc_relay.specs.Relayed.{relayed, within}
use Rattle.osc_relay.specs.Sent.{Called, IsShort, called_text, calls_text, Relaying, if_sent, is_failed, messages_of, datagrams_of, KeepsRoom, Relays, HasRelayed}
use Rattle.osc_relay.proofs.EachOutlet.{all_across, all_after}

all_more : {X : Type 0} (P : X → Type 0) (xs : List X) (x : X) → AllByRecursion P xs → P x → AllByRecursion P (xs ++ x ∷ [])
all_more P [] x all one = (one, tt)
all_more P (y ∷ xs) x all one = (all.0, all_more P xs x all.1 one)

-- what has no room is no datagram
same_datagram : (room : ℕ) (datagram : List ℕ) (sending : Sending) → (within room datagram ≡ None → sending ≡ Failed)
    → if_sent sending (unwrap_or (within room datagram) []) ≡ if_sent sending datagram
same_datagram room datagram sending = go (nat_le (length datagram) room) where
  go : (fits : Bool) → ((if fits then Some datagram else None) ≡ None → sending ≡ Failed)
      → if_sent sending (unwrap_or (if fits then Some datagram else None) []) ≡ if_sent sending datagram
  go true none = refl
  go false none =
      ap (λ (s : Sending). if_sent s []) (none refl) ∙ sym (ap (λ (s : Sending). if_sent s datagram) (none refl))

datagrams_more : (sending : Sending) (datagram : List ℕ) (before : List (List ℕ)) (sent : Option (List (List ℕ)))
    → sent ≡ option_map (λ _. before) sent
    → after_sending sending datagram sent ≡ option_map (λ _. before ++ if_sent sending datagram) (after_sending sending datagram sent)
datagrams_more Sent datagram before None told = refl
datagrams_more Sent datagram before (Some now) told = ap (option_map (λ (l : List (List ℕ)). l ++ datagram ∷ [])) told
datagrams_more Failed datagram before None told = refl
datagrams_more Failed datagram before (Some now) told = told ∙ ap Some (sym (append-nil before))

losses_more : (sending : Sending) (lost losses : ℕ) → losses ≡ min lost (2 ^ 64 - 1)
    → losses_after sending losses ≡ min (lost + cond (is_failed sending) 1 0) (2 ^ 64 - 1)
losses_more Sent lost losses is = omega (arith, is)
losses_more Failed lost losses is = omega (arith, is)

count_more : (relayings : List Relaying) (one : Relaying)
    → count_by (λ one. is_failed one.sending) (relayings ++ one ∷ [])
    ≡ count_by (λ one. is_failed one.sending) relayings + cond (is_failed one.sending) 1 0
count_more relayings one =
    let f : Relaying → ℕ = λ one. cond (is_failed one.sending) 1 0 in
    sum_by-append f relayings (one ∷ []) ∙ ap (λ (n : ℕ). sum_by f relayings + n) (zero-add (f one))

-- one more message, which the outlet sent or lost
relays_more : (address : List ℕ) (room : ℕ) (messages : List (List ℕ)) (message : List ℕ) (before after : Option (List (List ℕ))) (lost losses : ℕ)
    (sending : Sending) → (within room (relayed address message) ≡ None → sending ≡ Failed)
    → after ≡ after_sending sending (unwrap_or (within room (relayed address message)) []) before → losses ≡ losses_after sending lost
    → Relays address room messages before lost → Relays address room (messages ++ message ∷ []) after losses
relays_more address room messages message before after lost losses sending none sent counted old =
    let one : Relaying = record { message = message; sending = sending } in
    let datagram : List ℕ = unwrap_or (within room (relayed address message)) [] in
    let more : datagrams_of address old.relayings ++ if_sent sending datagram ≡ datagrams_of address (old.relayings ++ one ∷ []) =
    ap (λ (l : List (List ℕ)). datagrams_of address old.relayings ++ l) (same_datagram room (relayed address message) sending none)
    ∙ flat_map_more (λ (one : Relaying). if_sent one.sending (relayed address one.message)) [] old.relayings one in
    let now : after_sending sending datagram before
    ≡ option_map (λ (was : List (List ℕ)). datagrams_of address (old.relayings ++ one ∷ [])) (after_sending sending datagram before) =
    datagrams_more sending datagram (datagrams_of address old.relayings) before old.datagrams
    ∙ ap (λ (l : List (List ℕ)). option_map (λ (was : List (List ℕ)). l) (after_sending sending datagram before)) more in
    record {
      relayings = old.relayings ++ one ∷ [];
      each = map-append (λ (one : Relaying). one.message) old.relayings (one ∷ []) ∙ ap (λ (l : List (List ℕ)). l ++ message ∷ []) old.each;
      fits = all_more (KeepsRoom address room) old.relayings one old.fits none;
      datagrams = sent ∙ now ∙ ap (option_map (λ (was : List (List ℕ)). datagrams_of address (old.relayings ++ one ∷ []))) (sym sent);
      lost = counted ∙ losses_more sending (count_by (λ (one : Relaying). is_failed one.sending) old.relayings) lost old.lost
          ∙ ap (λ (n : ℕ). min n (2 ^ 64 - 1)) (sym (count_more old.relayings one));
    }

heard_more : (keep : ℕ) (calls : List Called) (call : Called) (before after : Option (List ℕ)) → after ≡ after_call keep (called_text call) before
    → before ≡ Some (last_of keep (calls_text calls)) → after ≡ Some (last_of keep (calls_text (calls ++ call ∷ [])))
heard_more keep calls call before after hears heard =
    hears ∙ ap (after_call keep (called_text call)) heard
    ∙ ap Some (keep_last-append keep (calls_text calls) (called_text call))
    ∙ ap (λ (l : List ℕ). Some (last_of keep l)) (flat_map_more called_text [] calls call)

pub has_relayed_more : (address : List ℕ) (room keep : ℕ) (call : Called) (heard heard_after : Option (List ℕ)) (before after : Option (List (List ℕ)))
    (lost losses : ℕ) (sending : Sending) → IsShort call → heard_after ≡ after_call keep (called_text call) heard
    → (within room (relayed address call.message) ≡ None → sending ≡ Failed)
    → after ≡ after_sending sending (unwrap_or (within room (relayed address call.message)) []) before
    → losses ≡ losses_after sending lost
    → HasRelayed address room keep heard before lost → HasRelayed address room keep heard_after after losses
has_relayed_more address room keep call heard heard_after before after lost losses sending short hears none sent counted old = record {
  calls = old.calls ++ call ∷ [];
  short = all_more IsShort old.calls call old.short short;
  bytes = heard_more keep old.calls call heard heard_after hears old.bytes;
  relays = subst (λ (messages : List (List ℕ)). Relays address room messages after losses)
      (sym (map-append (λ (call : Called). call.message) old.calls (call ∷ [])))
      (relays_more address room (messages_of old.calls) call.message before after lost losses sending none sent counted old.relays);
}

-- no call, and nothing sent
pub has_relayed_none : (address : List ℕ) (room keep : ℕ) (heard : Option (List ℕ)) (before after : Option (List (List ℕ))) (losses : ℕ)
    → heard ≡ Some [] → after ≡ option_map (λ _. []) before → losses ≡ 0 → HasRelayed address room keep heard after losses
has_relayed_none address room keep heard before after losses silent sent none = record {
  calls = [];
  short = tt;
  bytes = silent ∙ ap Some (sym (drop-nil (length (calls_text []) - keep)));
  relays = record {
    relayings = [];
    each = refl;
    fits = tt;
    datagrams = sent ∙ told_none [] before ∙ ap (option_map (λ (was : List (List ℕ)). [])) (sym sent);
    lost = none;
  };
} where
  told_none : (none : List (List ℕ)) (before : Option (List (List ℕ)))
      → option_map (λ _. none) before ≡ option_map (λ _. none) (option_map (λ _. none) before)
  told_none none None = refl
  told_none none (Some before) = refl

one_sent : (sending : Sending) (datagram : List ℕ) (failed : ℕ) (rest all : List (List ℕ)) → (failed ≡ 0 → rest ≡ all)
    → cond (is_failed sending) 1 0 + failed ≡ 0 → if_sent sending datagram ++ rest ≡ datagram ∷ all
one_sent Sent datagram failed rest all same none = ap (λ (l : List (List ℕ)). datagram ∷ l) (same (omega (arith, none)))
one_sent Failed datagram failed rest all same none = absurd (omega (arith, none))

-- where no message was lost, each was sent
pub all_sent : (address : List ℕ) (relayings : List Relaying) → count_by (λ one. is_failed one.sending) relayings ≡ 0
    → datagrams_of address relayings ≡ map (relayed address) (map (λ one. one.message) relayings)
all_sent address [] none = refl
all_sent address (one ∷ relayings) none =
    one_sent one.sending (relayed address one.message) (count_by (λ (one : Relaying). is_failed one.sending) relayings) (datagrams_of address relayings)
    (map (relayed address) (map (λ (one : Relaying). one.message) relayings)) (all_sent address relayings)
    (sym (sum_by-cons (λ (one : Relaying). cond (is_failed one.sending) 1 0) one relayings) ∙ none)

-- each outlet of a relay, after one more call
pub each_relayed_more : {O : Type 0} (sent : O → Option (List (List ℕ))) (losses tries : O → ℕ) (mark : O → List ℕ) (address : List ℕ) (room room_after keep keep_after : ℕ)
    (call : Called) (heard heard_after : Option (List ℕ)) (datagram : Option (List ℕ)) (old new : List O) → IsShort call
    → room_after ≡ room → keep_after ≡ keep → heard_after ≡ after_call keep (called_text call) heard
    → datagram ≡ within room (relayed address call.message) → AllZip (Takes sent losses tries mark datagram) old new
    → All (λ outlet. ∥ HasRelayed address room keep heard (sent outlet) (losses outlet) ∥₁) old
    → All (λ outlet. ∥ HasRelayed address room_after keep_after heard_after (sent outlet) (losses outlet) ∥₁) new
each_relayed_more {O} sent losses tries mark address room room_after keep keep_after call heard heard_after datagram old new short rooms keeps hears fitting takes all =
    let Before : O → Type 0 = λ outlet. ∥ HasRelayed address room keep heard (sent outlet) (losses outlet) ∥₁ in
    let After : O → Type 0 = λ outlet. ∥ HasRelayed address room keep heard_after (sent outlet) (losses outlet) ∥₁ in
    let each : All After new = all_across (Takes sent losses tries mark datagram) Before After one_more old new all takes in
    subst (λ (n : ℕ). All (λ outlet. ∥ HasRelayed address room_after n heard_after (sent outlet) (losses outlet) ∥₁) new) (sym keeps)
    (subst (λ (n : ℕ). All (λ outlet. ∥ HasRelayed address n keep heard_after (sent outlet) (losses outlet) ∥₁) new) (sym rooms) each)
  where
    one_more : (before after : O) → ∥ HasRelayed address room keep heard (sent before) (losses before) ∥₁ → Takes sent losses tries mark datagram before after
        → ∥ HasRelayed address room keep heard_after (sent after) (losses after) ∥₁
    one_more before after has took =
        let takes : Takes sent losses tries mark (within room (relayed address call.message)) before after =
        subst (λ (d : Option (List ℕ)). Takes sent losses tries mark d before after) fitting took in
        ∥∥₁_map has (λ (one : HasRelayed address room keep heard (sent before) (losses before)).
        has_relayed_more address room keep call heard heard_after (sent before) (sent after) (losses before) (losses after) takes.sending short hears
        takes.if_none takes.has_sent takes.has_lost one)

-- each outlet of a relay that has heard nothing, after a reset
pub each_relayed_none : {O : Type 0} (sent : O → Option (List (List ℕ))) (losses tries : O → ℕ) (mark : O → List ℕ) (address : List ℕ) (room keep : ℕ) (heard : Option (List ℕ))
    (old new : List O) → heard ≡ Some [] → AllZip (IsReset sent losses tries mark) old new
    → All (λ outlet. ∥ HasRelayed address room keep heard (sent outlet) (losses outlet) ∥₁) new
each_relayed_none {O} sent losses tries mark address room keep heard old new silent resets =
    all_after (IsReset sent losses tries mark) (λ (outlet : O). ∥ HasRelayed address room keep heard (sent outlet) (losses outlet) ∥₁)
    (λ before after reset. ∣ has_relayed_none address room keep heard (sent before) (sent after) (losses after) silent reset.none_sent reset.none_lost ∣₁)
    old new resets

-- the same of one that has heard something, and forgets it
pub each_relayed_reset : {O : Type 0} (sent : O → Option (List (List ℕ))) (losses tries : O → ℕ) (mark : O → List ℕ) (address : List ℕ) (room keep keep_after : ℕ)
    (heard heard_after : Option (List ℕ)) (old new : List O) → heard_after ≡ option_map (λ _. []) heard
    → All (λ outlet. ∥ HasRelayed address room keep heard (sent outlet) (losses outlet) ∥₁) old → AllZip (IsReset sent losses tries mark) old new
    → All (λ outlet. ∥ HasRelayed address room keep_after heard_after (sent outlet) (losses outlet) ∥₁) new
each_relayed_reset {O} sent losses tries mark address room keep keep_after heard heard_after old new forgets all resets =
    all_across (IsReset sent losses tries mark) (λ (outlet : O). ∥ HasRelayed address room keep heard (sent outlet) (losses outlet) ∥₁)
    (λ (outlet : O). ∥ HasRelayed address room keep_after heard_after (sent outlet) (losses outlet) ∥₁) one_reset old new all resets
  where
    one_reset : (before after : O) → ∥ HasRelayed address room keep heard (sent before) (losses before) ∥₁ → IsReset sent losses tries mark before after
        → ∥ HasRelayed address room keep_after heard_after (sent after) (losses after) ∥₁
    one_reset before after has reset =
        ∥∥₁_map has (λ (one : HasRelayed address room keep heard (sent before) (losses before)).
        has_relayed_none address room keep_after heard_after (sent before) (sent after) (losses after) (forgets ∙ ap (option_map (λ (was : List ℕ). [])) one.bytes)
        reset.none_sent reset.none_lost)
