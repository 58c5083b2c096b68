-- What three callers of one server do, where `v` is what a caller's token knew before and `w` what
-- it knows then.
use Rattle.std.specs.Prelude.{◌≡◌, ℕ, ◌+◌, ◌<◌, ◌≤◌, List, [], ◌∷◌, ◌++◌, Option, Some, None}
use Rattle.std.specs.Prelude.{Result, Ok, Err}
use Rattle.osc_atoms.specs.declared.fault.Fault.{Fault}
use Rattle.osc_atoms.specs.declared.limits.TheConstants.{MAX_PACKET}
use Rattle.osc_packet.specs.Wants.{FirstFault}
use Rattle.osc_turn.specs.declared.view.Entry.{Entry as Seen}
use Rattle.osc_turn.specs.declared.view.View.{View}
use Rattle.osc_turn.specs.History.{own}
use Rattle.osc_turn.specs.Passes.{view}
use Rattle.osc_turn.specs.Rule.{number_of}
use Rattle.osc_model.specs.Limits.{Limits, header_size}
use Rattle.osc_model.specs.Events.{Answer, add, enrol, number, remove, submit, tick}
use Rattle.osc_model.specs.Heard.{Told}
use Rattle.osc_record.specs.Reading.{entry_in}
use Rattle.osc_core.specs.declared.answers.Submitted.{Submitted}
use Rattle.osc_core.specs.Answers.{submitted_of, adding_of, removing_of, ticking_of}
use Rattle.osc_method.specs.declared.method.Method.{Ghosts}
use Rattle.osc_live.specs.declared.pumped.Pumped.{Pumped}
use Rattle.osc_live.specs.declared.close.LiveOut.{LiveOut}
use Rattle.osc_live.specs.declared.close.LiveOut.TheVariants.{NoMemory, StillOut}
use Rattle.osc_live.specs.declared.caller.Caller.{Caller}
use Rattle.osc_live.specs.declared.guest.EnrolRefusal.{EnrolRefusal}
use Rattle.osc_live.specs.declared.guest.EnrolRefusal.TheVariants as refusal
use Rattle.osc_live.specs.Enrolments.{refusal_of}
use Rattle.osc_live.specs.Tokens.{IsOurs}
use Rattle.osc_live.specs.declared.live.Live.{Live}
use Rattle.osc_live.specs.Calls.{Calls}
use Rattle.osc_live.specs.Pumps.{Pumps}
use Rattle.osc_live.specs.Closing.{Closes}
use Rattle.osc_uses.specs.declared.live_server.Callers.{Callers}
use Rattle.osc_uses.specs.declared.live_server.LiveRun.{LiveRun}
use Rattle.osc_uses.specs.declared.live_server.Unfinished.{Unfinished}
use Rattle.osc_uses.specs.declared.live_server.Unfinished.TheVariants.{NotEnrolled, Open}

-- the tokens of three callers are those of this server
abbrev pub AllAreOurs : {M : Type 0} {G : Ghosts M} → Live M G → Callers → Type 0
AllAreOurs live callers =
    IsOurs live callers.first × IsOurs live callers.second × IsOurs live callers.third

-- the entries that the token itself made
abbrev pub own_entries : View → List Seen
own_entries v = own (number_of v) v.seen

-- the entry is caller 0's enrolment of the caller with the number
abbrev pub IsEnrolment : ℕ → Seen → Type 0
IsEnrolment caller one =
    entry_in one.text ≡ Some (record { caller = 0; event = enrol; answer = number caller })

-- caller 0's token made one entry more, by which it enrolled a caller
abbrev pub Enrols : ℕ → View → View → Type 0
Enrols caller v w =
    (one : Seen) × IsEnrolment caller one × (own_entries w ≡ own_entries v ++ one ∷ [])

-- caller 0's token made two entries, by which it enrolled two callers
abbrev pub HasEnrolled : ℕ → ℕ → View → Type 0
HasEnrolled second third v = (one two : Seen) × IsEnrolment second one × IsEnrolment third two
    × (own_entries v ≡ one ∷ two ∷ [])

-- caller 0's token has made no entry; or one, by which it enrolled a second caller, whose token has
-- made none
abbrev pub HasEnrolledOne : Option Caller → View → Type 0
HasEnrolledOne None v = own_entries v ≡ []
HasEnrolledOne (Some second) v = (one : Seen) × IsEnrolment second.number one
    × (own_entries v ≡ one ∷ []) × (own_entries (view second.pass) ≡ [])

-- a guest that has made no entry was refused, where caller 0's token had made one at most
pub record IsRefused (caps : Limits) (second : Option Caller) (why : EnrolRefusal)
    (guest w : View) : Type 0 where
  pub before : View
  pub enrolled : HasEnrolledOne second before
  pub call : Calls caps 0 enrol (refusal_of why) before w
  pub no_entries : own_entries guest ≡ []

-- Why one of two guests is refused: the limits admit fewer than three callers; or the entry of an
-- enrolment, which has 28 bytes, is more than the recording has left after its header and at most
-- one such entry.
abbrev pub HasEnrolCause : Limits → EnrolRefusal → Type 0
HasEnrolCause caps refusal.CallersFull = caps.callers < 3
HasEnrolCause caps (refusal.RecordFull room) = (room.need ≡ 28) × (room.free < 28)
    × (caps.recording ≤ header_size + 28 + room.free)

-- a caller adds a method at the address, and then removes the one there
pub record ComesAndGoes (caps : Limits) (caller : ℕ) (address : List ℕ) (added removed : Answer)
    (v w : View) : Type 0 where
  pub between : View
  pub adds : Calls caps caller (add address) added v between
  pub removes : Calls caps caller (remove address) removed between w

-- a caller submits the packet that the bytes are; or they are none, and it does nothing
abbrev pub Sends : Limits → ℕ → List ℕ → Result Submitted Fault → View → View → Type 0
Sends caps caller bytes (Ok submitted) v w =
    Calls caps caller (submit bytes) (submitted_of submitted) v w
Sends caps caller bytes (Err fault) v w = FirstFault bytes MAX_PACKET fault × (w ≡ v)

-- a caller sets the clock to the moment, and then releases until nothing is due
pub record Ticks (caps : Limits) (caller moment : ℕ) (ticked : Answer) (pumped : Pumped)
    (v w : View) : Type 0 where
  pub between : View
  pub sets : Calls caps caller (tick moment) ticked v between
  pub pumps : Pumps caps caller pumped between w

-- Three callers share one history, which is recorded, keeps the four laws and is heard by the
-- boxes. It begins with what each of their tokens knows, and so each of their calls is answered by
-- the rules at its place there. It has no entries but two enrolments and those of these calls: the
-- first caller's token had made the enrolments alone before, and the other two had made none.
pub record AreOneHistory {M : Type 0} (caps : Limits) (address bytes : List ℕ) (moment : ℕ)
    (run : LiveRun M) (kept : List Told) : Type 0 where
  pub second : ℕ
  pub third : ℕ
  pub one : View
  pub two : View
  pub three : View
  pub closes : Closes caps [] ((0, one) ∷ (second, two) ∷ (third, three) ∷ [])
      (one ∷ two ∷ three ∷ []) run.closed.bytes.items kept
  pub comes : (v : View) × HasEnrolled second third v
      × ComesAndGoes caps 0 address (adding_of run.added) (removing_of run.removed) v one
  pub sends : (v : View) × (own_entries v ≡ []) × Sends caps second bytes run.sent v two
  pub ticks : (v : View) × (own_entries v ≡ [])
      × Ticks caps third moment (ticking_of run.ticked) run.pumped v three

module _ {M : Type 0} {G : Ghosts M} where
  -- where the server comes back open, this holds of what comes back
  abbrev pub OnOpen : Unfinished M G → (LiveOut M G → Type 0) → Type 0
  OnOpen (Open out) holds = holds out
  OnOpen _ holds = Unit {0}

  -- where a guest was refused, this holds of the refusal
  abbrev pub OnNotEnrolled : Unfinished M G → (EnrolRefusal → Type 0) → Type 0
  OnNotEnrolled (NotEnrolled why) holds = holds why
  OnNotEnrolled _ holds = Unit {0}

  -- it wasn't closed as there was no memory, and not for a missing token
  abbrev pub IsShort : LiveOut M G → Type 0
  IsShort (NoMemory live callers guests) = Unit {0}
  IsShort (StillOut made handed live callers guests) = ⊥
