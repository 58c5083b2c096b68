-- One line, whose words and tail its writer chooses.
use Rattle.std.specs.Prelude.{◌≡◌, ℕ, true, false, if◌then◌else◌, List, [], ◌++◌}
use Rattle.osc_shown.specs.declared.head.Head.{Head}
use Rattle.osc_shown.specs.Columns.{line_text, is_left_out}
use Rattle.osc_shown.specs.Lines.{IsMessageText}

-- the line with this head
abbrev pub headed : Head → List ℕ → List ℕ → List ℕ
headed head words tail = line_text head.look head.moment head.mark head.join words tail

-- the same, or nothing where it is left out
abbrev pub note_text : Head → List ℕ → List ℕ → List ℕ
note_text head words tail =
    if is_left_out head.look head.mark then [] else headed head words tail

-- the line of a message
abbrev pub IsHeaded : Head → List ℕ → List ℕ → List ℕ → Type 0
IsHeaded head message tail line =
    (words : List ℕ) × IsMessageText head.look.whole message words
    × (line ≡ headed head words tail)

-- the same, or nothing where it is left out
pub record IsTold (head : Head) (message tail line : List ℕ) : Type 0 where
  pub left : is_left_out head.look head.mark ≡ true → line ≡ []
  pub shown : is_left_out head.look head.mark ≡ false → IsHeaded head message tail line

-- these were added
abbrev pub AddsHeaded : Head → List ℕ → List ℕ → List ℕ → List ℕ → Type 0
AddsHeaded head message tail before after =
    (line : List ℕ) × IsHeaded head message tail line × (after ≡ before ++ line)

abbrev pub AddsTold : Head → List ℕ → List ℕ → List ℕ → List ℕ → Type 0
AddsTold head message tail before after =
    (line : List ℕ) × IsTold head message tail line × (after ≡ before ++ line)
