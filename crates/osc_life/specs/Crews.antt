-- The callers that caller 0 enrols.
use Rattle.std.specs.Prelude.{◌≡◌, ℕ, zero, suc, ◌+◌, ◌<◌, List, [], ◌∷◌, ◌++◌, length, map, All}
use Rattle.std.specs.Prelude.{Option, None, Some}
use Rattle.osc_model.specs.Limits.{Limits}
use Rattle.osc_model.specs.Enrolled.{callers_in}
use Rattle.osc_model.specs.Events.{Entry, Room, enrol, number, record_full}
use Rattle.osc_model.specs.History.{stepped_in}
use Rattle.osc_turn.specs.declared.view.Entry.{Entry as Seen}
use Rattle.osc_turn.specs.declared.view.View.{View}
use Rattle.osc_core.specs.Standing.{history_in}
use Rattle.osc_turn.specs.History.{StartsWith, texts, entries_of, own}
use Rattle.osc_turn.specs.Rule.{number_of}
use Rattle.osc_turn.specs.Passes.{view}
use Rattle.osc_live.specs.Seen.{history_of, performance_in}
use Rattle.osc_live.specs.declared.caller.Caller.{Caller}
use Rattle.osc_live.specs.declared.guest.Guest.{Guest}
use Rattle.osc_live.specs.declared.guest.EnrolRefusal.{EnrolRefusal}
use Rattle.osc_live.specs.Enrolments.{refusal_of}
use Rattle.osc_life.specs.Holders.{seen_by}

-- caller 0 enrols the callers from this number on, so many
abbrev pub enrolments : ℕ → ℕ → List Entry
enrolments first zero = []
enrolments first (suc count) =
    record { caller = 0; event = enrol; answer = number first } ∷ enrolments (first + 1) count

-- a caller's number, and that of its token
abbrev pub names_of : List Caller → List (ℕ × ℕ)
names_of callers = map (λ caller. (caller.number, number_of (view caller.pass))) callers

-- callers and tokens with the same numbers, so many from this one on
abbrev pub same_names : ℕ → ℕ → List (ℕ × ℕ)
same_names first zero = []
same_names first (suc count) = (first, first) ∷ same_names (first + 1) count

-- the token has no entries in what it has seen
abbrev pub IsSilent : Caller → Type 0
IsSilent caller = own (number_of (view caller.pass)) (seen_by caller) ≡ []

-- the token has seen all this
abbrev pub HasSeen : List Seen → Caller → Type 0
HasSeen seen caller = StartsWith (seen_by caller) seen

-- Caller 0 enrolled these callers after these entries, and they have no entries of their own, and
-- so many tokens were made. If it has seen no entries but those of its token, these are the first
-- ones and the enrolments, and the callers are numbered as their tokens are, from this number on.
pub record IsCrewFrom (next : ℕ) (first_entries : List Entry) (made : ℕ) (first : View)
    (callers : List Caller) : Type 0 where
  pub token : number_of first ≡ 0
  pub made_is : first.made ≡ made
  pub silent : All IsSilent callers
  pub alone : own 0 first.seen ≡ first.seen
      → (history_of first ≡ first_entries ++ enrolments next (length callers))
      × (names_of callers ≡ same_names next (length callers))

-- So many tokens were made, and if caller 0 has seen no entries but those of its token, there are
-- as many callers.
pub record HasCallers (count : ℕ) (first : View) : Type 0 where
  pub token : number_of first ≡ 0
  pub made_is : first.made ≡ count
  pub counted : own 0 first.seen ≡ first.seen → callers_in (history_of first) ≡ count

-- if caller 0 has seen no entries but its own, there was no room for this enrolment
abbrev pub FindsNoRoom : Limits → View → EnrolRefusal → Type 0
FindsNoRoom caps first why = own 0 first.seen ≡ first.seen
    → (room : Room) × (refusal_of why ≡ record_full room)
    × (record_full room ≡ (stepped_in (performance_in caps (texts first.seen)) enrol).answer)

-- all callers were enrolled after these entries, or there was no room for the next one
abbrev pub HasEnrolledFrom : ℕ → Limits → List Entry → ℕ → View → List Caller
    → Option (EnrolRefusal × Guest) → Type 0
HasEnrolledFrom next caps first_entries count first callers None =
    IsCrewFrom next first_entries (next + length callers) first callers
    × (length callers ≡ count)
HasEnrolledFrom next caps first_entries count first callers (Some refused) =
    IsCrewFrom next first_entries (next + 1 + length callers) first callers
    × (length callers < count) × FindsNoRoom caps first refused.0

-- The other callers of a past have no entries of their own, and are numbered as their tokens are.
pub record AreOld (past : List (List ℕ)) (others : List Caller) : Type 0 where
  pub counted : callers_in (history_in past) ≡ 1 + length others
  pub named : names_of others ≡ same_names 1 (length others)
  pub silent : All IsSilent others

-- caller 0 has the entries of a past, and there are these other callers
pub record IsLeft (past : List (List ℕ)) (first : View) (others : List Caller) : Type 0 where
  pub token : number_of first ≡ 0
  pub made_is : first.made ≡ 1 + length others
  pub seen_is : first.seen ≡ entries_of past
  pub old : AreOld past others
