-- The bytes of a call.
use Rattle.std.specs.Prelude.{ℕ, List, ◌++◌, length}
use Rattle.osc_atoms.specs.Atoms.{word, tag}
use Rattle.osc_method.specs.declared.call.Call.{Call}

-- the unit in 8 bytes, the index and the message's length in 4 bytes each, and the message
abbrev pub call_text : ℕ → ℕ → List ℕ → List ℕ
call_text unit index message = tag unit ++ (word index ++ (word (length message) ++ message))

abbrev pub call_bytes : Call → List ℕ
call_bytes call = call_text call.unit call.index call.message
