-- What a history lets be heard, and when.
use Rattle.std.specs.Prelude.{ℕ, List, [], ◌∷◌, ◌++◌, map, Option, Some, ◌≡◌, ◌+◌, ◌*◌, ◌≤◌, None}
use Rattle.std.specs.List.{AllByRecursion}
use Rattle.osc_message.specs.Messages.{Argument, tag_of}
use Rattle.osc_message.specs.Arguments.{tags_of, message_arguments}
use Rattle.osc_model.specs.Limits.{Limits, header_size}
use Rattle.osc_model.specs.State.{State, opening}
use Rattle.osc_model.specs.Events.{Entry, Invocation}
use Rattle.osc_model.specs.Refusals.{IsRefusal}
use Rattle.osc_model.specs.Step.{step}
use Rattle.osc_model.specs.History.{after}
use Rattle.osc_score.specs.Scores.{Note}
use Rattle.osc_score.specs.Scripted.{score_acts}
use Rattle.osc_script.specs.declared.line.Line.{Line}
use Rattle.osc_script.specs.Written.{numbered}
use Rattle.osc_player.specs.Plain.{Played, plain}

-- an invocation: the clock at its release, the method's address, and the message's tags and
-- arguments
pub record Sound : Type 0 where
  pub clock : ℕ
  pub address : List ℕ
  pub tags : Option (List ℕ)
  pub arguments : List Argument

-- what an invocation lets be heard, at a clock
abbrev pub sound_at : ℕ → Invocation → Sound
sound_at clock invocation =
    record {
      clock = clock;
      address = invocation.call.address;
      tags = tags_of invocation.call.message;
      arguments = message_arguments invocation.call.message;
    }

-- the invocations of a history, in order, each with the clock before its release
abbrev pub sounds : State → List Entry → List Sound
sounds state [] = []
sounds state (entry ∷ entries) =
    map (sound_at state.clock) (step state entry.event).invocations
    ++ sounds (step state entry.event).state entries

-- the same at another clock
abbrev pub at_clock : ℕ → Sound → Sound
at_clock clock sound = record sound { clock = clock }

-- what a note wants heard: at its tag, at its address, its arguments, each under its tag
abbrev pub sound_of : Note → Sound
sound_of note =
    record {
      clock = note.tag;
      address = note.address;
      tags = Some (map tag_of note.arguments);
      arguments = note.arguments;
    }

-- no entry is a refusal
abbrev pub NoneIsRefused : List Entry → Type 0
NoneIsRefused entries = AllByRecursion (λ entry. IsRefusal entry.answer → ⊥) entries

-- the limits are enough for a score of lines of so many bytes
pub record IsRoomy (caps : Limits) (size : ℕ) : Type 0 where
  pub units : 16 ≤ caps.units
  pub blocks : 16384 ≤ caps.blocks
  pub methods : 1024 ≤ caps.methods
  pub nodes : 4096 ≤ caps.nodes
  pub recording : header_size + 16 * size ≤ caps.recording

-- the lines of the script of a score
abbrev pub score_lines : List Note → List Line
score_lines notes = numbered 1 (score_acts notes)

-- The result of the lines of a score of at most so many bytes: what is heard is the score, note by
-- note, each at its moment; no entry is a refusal, and no packet at fault; there was room for all;
-- and at most a header's bytes and 16 for each of the score's are recorded.
pub record PlaysNotes (caps : Limits) (size : ℕ) (notes : List Note) (played : Played)
    : Type 0 where
  pub heard : sounds (opening caps) played.history ≡ map sound_of notes
  pub accepted : NoneIsRefused played.history
  pub faultless : played.faults ≡ []
  pub goes_on : played.stop ≡ None
  pub recorded : (after (opening caps) played.history).recorded ≤ header_size + 16 * size

-- the script of a score is played so on a server with these limits
abbrev pub PlaysScore : Limits → ℕ → List Note → Type 0
PlaysScore caps size notes = PlaysNotes caps size notes (plain caps (score_lines notes))
