-- What stands in the line of a day.
use Rattle.std.proofs.Common.{◌≡◌, ℕ, ◌%◌, Bool, false, List, [], ◌++◌, ap, subst, ◌∙◌, arith}
use Rattle.std.specs.Prelude.{codes}
use Rattle.std.proofs.lemmas.Grind.{common_steps}
use Rattle.osc_shown.specs.declared.look.Look.{Look}
use Rattle.osc_shown.specs.declared.wall_clock.WallClock.{WallClock}
use Rattle.osc_shown.specs.Columns.{begun, ended}
use Rattle.osc_shown.specs.Days.{AddsDay}
use Rattle.osc_shown.specs.Times.{day_of, weekday_text, zone_text}
use Rattle.osc_drawing.specs.Lines.{inner, IsDay}

cut : (text : List ℕ) → inner (codes "-- " ++ text ++ codes "\n") ≡ text
cut text = grind (arith, common_steps)

line_of : (a b c d e : List ℕ) → begun false 126 ++ codes "-- " ++ a ++ b ++ c ++ d ++ e ++ ended false 126 ++ codes "\n"
    ≡ codes "-- " ++ (a ++ b ++ c ++ d ++ e) ++ codes "\n"
line_of a b c d e = grind (arith, common_steps)

plain_line : (colours : Bool) (a b c d e : List ℕ) → colours ≡ false
    → inner (begun colours 126 ++ codes "-- " ++ a ++ b ++ c ++ d ++ e ++ ended colours 126 ++ codes "\n") ≡ a ++ b ++ c ++ d ++ e
plain_line colours a b c d e plain =
    ap (λ (k : Bool). inner (begun k 126 ++ codes "-- " ++ a ++ b ++ c ++ d ++ e ++ ended k 126 ++ codes "\n")) plain
    ∙ ap inner (line_of a b c d e) ∙ cut (a ++ b ++ c ++ d ++ e)

pub day_said : (look : Look) (moment : ℕ) (line words : List ℕ) → look.colours ≡ false → AddsDay look moment [] line → words ≡ inner line
    → IsDay look.clock moment words
day_said look moment line words plain day is = record {
  date = day.date;
  dated = day.dated;
  is = is ∙ ap inner day.line
      ∙ plain_line look.colours (weekday_text (day_of look.clock moment % 7)) (codes " ") day.date (codes ", ") (zone_text look.clock) plain;
}

pub day_of_line : (look : Look) (clock : WallClock) (moment : ℕ) (old line deref inside words : List ℕ) → look.clock ≡ clock → look.colours ≡ false → old ≡ []
    → AddsDay look moment old line → deref ≡ line → inside ≡ inner deref → words ≡ inside → IsDay clock moment words
day_of_line look clock moment old line deref inside words clock_is plain none day same is kept =
    subst (λ (k : WallClock). IsDay k moment words) clock_is
    (day_said look moment line words plain (subst (λ (l : List ℕ). AddsDay look moment l line) none day) (kept ∙ is ∙ ap inner same))
