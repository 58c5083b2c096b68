-- Caller 0 enrols two callers, or one of them is refused, and its token has no other entries.
use Rattle.std.proofs.Common.{◌≡◌, ◌∙◌, ℕ, List, [], ◌∷◌, ◌++◌, Some, None, subst, ap}
use Rattle.osc_turn.specs.declared.view.Entry.{Entry as Seen}
use Rattle.osc_turn.specs.declared.view.View.{View}
use Rattle.osc_turn.specs.History.{entry, own}
use Rattle.osc_turn.specs.Rule.{number_of}
use Rattle.osc_turn.specs.Passes.{one_more, view}
use Rattle.osc_model.specs.Limits.{Limits}
use Rattle.osc_model.specs.Events.{enrol, number}
use Rattle.osc_record.specs.Reading.{entry_in}
use Rattle.osc_live.specs.declared.caller.Caller.{Caller}
use Rattle.osc_live.specs.declared.guest.EnrolRefusal.{EnrolRefusal}
use Rattle.osc_live.specs.Calls.{Calls}
use Rattle.osc_live.specs.Enrolments.{refusal_of}
use Rattle.osc_uses.specs.Live.{Enrols, HasEnrolled, IsEnrolment, IsRefused, own_entries}

-- a call that enrols, by a token that had made one guest more
pub enrols : (caps : Limits) (caller new : ℕ) (v u w : View) → caller ≡ 0 → u ≡ one_more v → Calls caps caller enrol (number new) u w → Enrols new v w
enrols caps caller new v u w zero guest call =
    let made = call.answered in
    let named : number_of w ≡ number_of u = ap number_of call.once in
    let read : IsEnrolment new (entry (number_of u) made.text) =
    subst (λ (n : ℕ). entry_in made.text ≡ Some (record { caller = n; event = enrol; answer = number new })) zero made.read in (
      entry (number_of u) made.text,
      read,
      ap (λ (n : ℕ). own n w.seen) named ∙ made.own_once ∙ ap (λ (s : View). own_entries s ++ entry (number_of u) made.text ∷ []) guest,
    )

-- two of them, by a token that had no entries
pub both_enrolled : (second third : ℕ) (v u w : View) → own_entries v ≡ [] → Enrols second v u → Enrols third u w → HasEnrolled second third w
both_enrolled second third v u w none first last =
    (first.0, last.0, first.1, last.1, last.2 ∙ ap (λ (es : List Seen). es ++ last.0 ∷ []) (first.2 ∙ ap (λ (es : List Seen). es ++ first.0 ∷ []) none))

-- the first guest is refused, where the token had no entries
pub refused_first : (caps : Limits) (why : EnrolRefusal) (guest v w : View) → own_entries v ≡ [] → Calls caps 0 enrol (refusal_of why) (one_more v) w
    → own_entries guest ≡ [] → IsRefused caps None why guest w
refused_first caps why guest v w none call no_entries = record { before = one_more v; enrolled = none; call = call; no_entries = no_entries }

-- the second one, where the token had no entries before it enrolled the first
pub refused_second : (caps : Limits) (second : Caller) (why : EnrolRefusal) (guest v u w : View) → own_entries v ≡ [] → Enrols second.number v u
    → own_entries (view second.pass) ≡ [] → Calls caps 0 enrol (refusal_of why) (one_more u) w → own_entries guest ≡ []
    → IsRefused caps (Some second) why guest w
refused_second caps second why guest v u w none first second_none call no_entries = record {
  before = one_more u;
  enrolled = (first.0, first.1, first.2 ∙ ap (λ (es : List Seen). es ++ first.0 ∷ []) none, second_none);
  call = call;
  no_entries = no_entries;
}

pub ruleset enrolments = (enrols, both_enrolled, refused_first, refused_second)
