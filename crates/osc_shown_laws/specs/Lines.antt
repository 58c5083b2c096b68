-- What the words of a message say in a line of a sheet.
use Rattle.std.specs.Prelude.{◌≡◌, List, ℕ, ◌++◌, length, drop, Result}
use Rattle.osc_cues.specs.declared.fault.WordFault.{WordFault}
use Rattle.osc_cues.specs.Words.{unscanned, scanned, spans_of}
use Rattle.osc_cues.specs.Cues.{and_then, words_say}

-- A line's front after which a word may begin: it ends neither in a word nor in a comment. Such is
-- the word of a moment and a space.
abbrev pub EndsBetween : List ℕ → Type 0
EndsBetween front = (scanned 0 unscanned front).mode ≡ unscanned.mode

-- the message that words say after those of a line's front, or what is wrong with them
abbrev pub said_after : List (List ℕ) → List ℕ → List ℕ → Result (List ℕ) WordFault
said_after methods front words =
    and_then (spans_of (front ++ words)) (λ spans.
    words_say methods (front ++ words) (drop (length (scanned 0 unscanned front).spans) spans))
