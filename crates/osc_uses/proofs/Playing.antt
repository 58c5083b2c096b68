-- Events that are played one after another.
use Rattle.std.proofs.Common.{◌≡◌, ℕ, List, [], ◌∷◌, ◌++◌, refl, ap, ◌∙◌}
use Rattle.osc_model.specs.Events.{Event, submit}
use Rattle.osc_model.specs.History.{Performance, onward}
use Rattle.osc_model.proofs.Onward.{caps_stay}
use Rattle.osc_uses.specs.Played.{played}

-- the first event
pub played_one : (before after : Performance) (event : Event) → after ≡ onward before 0 event → after ≡ played before (event ∷ [])
unfolding played
played_one before after event is = is

-- a packet with these bytes
pub played_bytes : (before after : Performance) (packet bytes : List ℕ) → after ≡ onward before 0 (submit packet) → packet ≡ bytes
    → after ≡ played before (submit bytes ∷ [])
played_bytes before after packet bytes is same =
    played_one before after (submit bytes) (is ∙ ap (λ (b : List ℕ). onward before 0 (submit b)) same)

-- one list of events, and then another
pub played_then : (before : Performance) (events more : List Event) → played (played before events) more ≡ played before (events ++ more)
unfolding played
played_then before [] more = λ i. played before more
played_then before (event ∷ events) more = played_then (onward before 0 event) events more

-- more events
pub played_more : (before between after : Performance) (events more : List Event) → between ≡ played before events → after ≡ played between more
    → after ≡ played before (events ++ more)
played_more before between after events more first then = then ∙ ap (λ (p : Performance). played p more) first ∙ played_then before events more

-- the limits stay
pub played_caps : (before : Performance) (events : List Event) → (played before events).caps ≡ before.caps
unfolding played
played_caps before [] = refl
played_caps before (event ∷ events) = played_caps (onward before 0 event) events ∙ caps_stay before 0 event
