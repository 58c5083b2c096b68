-- How the commands end that read a score.
use Rattle.osc_ends.specs.declared.status.TheConstants.{DONE, RECORDING_FULL}
use Rattle.std.specs.Prelude.{◌≡◌, ◌≢◌, ℕ, List, length, Ok}
use Rattle.osc_script.specs.declared.line.Line.{Line}
use Rattle.osc_script.specs.declared.mode.Mode.TheVariants.{Plain}
use Rattle.osc_script.specs.Adds.{count_adds}
use Rattle.osc_script.specs.Scripts.{plain_script, script_of}
use Rattle.osc_score.specs.Scores.{Note, addresses_of}
use Rattle.osc_score.specs.Scripted.{score_script}
use Rattle.osc_score.specs.Plans.{Plan, plan_script}
use Rattle.osc_score.specs.Reading.{score_of}
use Rattle.osc_score_laws.specs.Heard.{PlaysScore, score_lines}
use Rattle.osc_ends.specs.Ends.{EndsText}
use Rattle.osc_ends.specs.Printing.{score_fault_text}
use Rattle.osc_ends.specs.Sinks.{SinkChange}
use Rattle.osc_plain.specs.Commands.{default_limits}
use Rattle.osc_plain.specs.Runs.{EndsRead}

-- the end of a command that reads a score, whose script is lawful, and has the lines that play it
abbrev pub EndsNotes : (List Note → Type 0) → ℕ → List ℕ → SinkChange → Type 0
EndsNotes Ends status score out = EndsRead (score_of score) score_fault_text
    (λ notes. (plain_script (score_script notes) ≡ Ok (score_lines notes)) × Ends notes) status out

-- its script is written, or a front of it where the sink failed
abbrev pub EndsScore : ℕ → List ℕ → SinkChange → Type 0
EndsScore status score out =
    EndsNotes (λ notes. EndsText DONE status (score_script notes) out) status score out

-- Its script is run: a method is added at each distinct address; each note is one call, in order,
-- while the clock stands at its tag; no entry is a refusal, and the recording is never full.
pub record EndsPlaying (Ends : List Line → Type 0) (status size : ℕ) (notes : List Note)
    : Type 0 where
  pub run : Ends (score_lines notes)
  pub adds : count_adds (score_lines notes) ≡ length (addresses_of notes)
  pub plays : PlaysScore default_limits size notes
  pub roomy : status ≢ RECORDING_FULL

abbrev pub EndsPlayedScore : (List Line → Type 0) → ℕ → List ℕ → SinkChange → Type 0
EndsPlayedScore Ends status score out =
    EndsNotes (EndsPlaying Ends status (length score)) status score out

-- inside the crate: the script of what is kept of a score is lawful, and has these lines
abbrev pub IsScriptWith : Plan → List Line → Type 0
IsScriptWith plan lines = script_of Plain (plan_script plan) ≡ Ok lines
