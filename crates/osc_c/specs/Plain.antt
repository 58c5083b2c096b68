-- What calls without a server answer.
use Rattle.osc_pattern.specs.declared.limits.TheConstants.{MAX_PATTERN}
use Rattle.std.specs.Prelude.{ℕ, nat_lt, if◌then◌else◌, List, length, Option, Some, None}
use Rattle.osc_atoms.specs.declared.fault.Fault.{Fault}
use Rattle.osc_pattern.specs.Addresses.{is_address}
use Rattle.osc_pattern.specs.Patterns.{is_pattern, matches}
use Rattle.osc_c.specs.declared.answer.Answer.{Answer}
use Rattle.osc_c.specs.Answers.{bare, faulty}

-- what a check of a packet is answered, by its fault
abbrev pub packet_answered : Option Fault → Answer
packet_answered None = bare 0
packet_answered (Some fault) = faulty fault

-- what a match is answered: that the pattern is none, that the address is none, or whether it
-- matches
abbrev pub match_answered : List ℕ → List ℕ → ℕ
match_answered pattern address =
    if nat_lt MAX_PATTERN (length pattern) then 2 else
    if is_pattern pattern then
    (if is_address address then (if matches pattern address then 1 else 0) else 3) else 2
