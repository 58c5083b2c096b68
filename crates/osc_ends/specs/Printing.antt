-- What the programs print besides a history: the lines of refusals, of faults and of ends.
use Rattle.std.specs.Prelude.{ℕ, List, [], ◌++◌, codes}
use Rattle.hex.specs.Hex.{encode_lower}
use Rattle.osc_print.specs.Words.{spaced}
use Rattle.osc_print.specs.Lines.{line}
use Rattle.osc_print.specs.Entries.{named, named_room}
use Rattle.osc_model.specs.Limits.{Limits}
use Rattle.osc_model.specs.Events.{Entry}
use Rattle.osc_replay.specs.Printed.{printed}
use Rattle.osc_script.specs.declared.fault.ScriptFault.{ScriptFault}
use Rattle.osc_score.specs.declared.fault.ScoreFault.{ScoreFault}
use Rattle.osc_ends.specs.declared.outcome.Outcome.{Outcome}
use Rattle.osc_ends.specs.declared.outcome.Outcome.TheVariants.{Done, Full, LinkFailed, ClockFailed}

-- the last line of what was played, where there is one
abbrev pub last_text : Outcome → List ℕ
last_text Done = []
last_text (Full need free) = line (named_room (codes "recording-full") need free)
last_text (LinkFailed link) = line (named (codes "link-fault") link)
last_text ClockFailed = line (codes "clock-fault")

-- the printed history, then what is said of the faults, and last the line on how it ended
abbrev pub recorded_text : Limits → List Entry → List ℕ → Outcome → List ℕ
recorded_text caps history said outcome = printed caps history ++ (said ++ last_text outcome)

-- the line of a script that is refused
abbrev pub refusal_text : ScriptFault → List ℕ
refusal_text fault = line (named_room (codes "script") fault.line fault.kind)

-- the line of a score that is refused
abbrev pub score_fault_text : ScoreFault → List ℕ
score_fault_text fault = line (named_room (codes "score") fault.line fault.kind)

-- the line of a recording that is malformed at a place
abbrev pub malformed_text : ℕ → List ℕ
malformed_text at = line (named (codes "malformed") at)

-- the line of a recording whose upgrade needs more bytes than the limit
abbrev pub too_large_text : ℕ → ℕ → List ℕ
too_large_text need limit = line (named_room (codes "too-large") need limit)

-- a word, and bytes in hexadecimal digits; a space stands between them even where there are no
-- bytes
abbrev pub named_bytes : List ℕ → List ℕ → List ℕ
named_bytes word bytes = word ++ spaced (encode_lower bytes)

-- the lines of an entry whose bytes aren't those that the server computes
abbrev pub disagrees_text : ℕ → List ℕ → List ℕ → List ℕ
disagrees_text entry kept computed =
    line (named (codes "disagrees") entry)
    ++ (line (named_bytes (codes "kept") kept)
    ++ line (named_bytes (codes "computed") computed))

-- the line of a script that adds more methods than there are boxes
abbrev pub bank_short_text : ℕ → ℕ → List ℕ
bank_short_text need have = line (named_room (codes "bank-short") need have)

-- the line of a recording whose callers and lanes together are more than its limits allow
abbrev pub callers_full_text : ℕ → ℕ → List ℕ
callers_full_text need have = line (named_room (codes "callers-full") need have)

-- the line of words that are no command
abbrev pub usage_text : List ℕ
usage_text = line (codes "usage")
