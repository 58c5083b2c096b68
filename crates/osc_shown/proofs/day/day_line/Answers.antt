use Rattle.std.proofs.Common.{◌≡◌, ◌%◌, ℕ, List, [], ◌++◌, ap, ◌∙◌, append_assoc}
use Rattle.std.specs.Prelude.{codes}
use Rattle.std.proofs.lemmas.Result.{on_ok_weaker}
use Rattle.osc_shown.specs.declared.look.Look.{Look}
use Rattle.osc_shown.specs.Columns.{begun, ended}
use Rattle.osc_shown.specs.Days.{AddsDay}
use Rattle.osc_shown.specs.Times.{AddsDate, day_of, weekday_text, zone_text}
use Rattle.osc_shown.proofs.Joining.{joins}
use Rattle.osc_shown.proofs.day.day_line.Goals as goal

-- nine parts, as they were added
parts : (colour dashes weekday space date comma zone ended newline : List ℕ)
    → (((colour ++ (dashes ++ weekday ++ space)) ++ date) ++ (comma ++ zone)) ++ (ended ++ newline)
    ≡ colour ++ dashes ++ weekday ++ space ++ date ++ comma ++ zone ++ ended ++ newline
parts colour dashes weekday space date comma zone ended newline = simp append_assoc

-- the line of a day, as it was added
day_said : (look : Look) (moment : ℕ) (before after begins names dates zones ends : List ℕ)
    → begins ≡ [] ++ begun look.colours 126
    → names ≡ begins ++ (codes "-- " ++ weekday_text (day_of look.clock moment % 7) ++ codes " ")
    → AddsDate look.clock moment names dates
    → zones ≡ dates ++ (codes ", " ++ zone_text look.clock)
    → ends ≡ zones ++ (ended look.colours 126 ++ codes "\n")
    → after ≡ before ++ ends → AddsDay look moment before after
day_said look moment before after begins names dates zones ends begins_is names_is adds zones_is ends_is then =
    let weekday = codes "-- " ++ weekday_text (day_of look.clock moment % 7) ++ codes " " in
    let zone = codes ", " ++ zone_text look.clock in
    let end = ended look.colours 126 ++ codes "\n" in
    record {
      date = adds.0;
      dated = adds.1;
      line = then ∙ ap (λ (l : List ℕ). before ++ l) (
          ends_is ∙ ap (λ (l : List ℕ). l ++ end) zones_is
          ∙ ap (λ (l : List ℕ). (l ++ zone) ++ end) adds.2
          ∙ ap (λ (l : List ℕ). ((l ++ adds.0) ++ zone) ++ end) names_is
          ∙ ap (λ (l : List ℕ). (((l ++ weekday) ++ adds.0) ++ zone) ++ end) begins_is
          ∙ parts (begun look.colours 126) (codes "-- ") (weekday_text (day_of look.clock moment % 7)) (codes " ") adds.0 (codes ", ")
          (zone_text look.clock) (ended look.colours 126) (codes "\n"));
    }

pub returns-clause-ok : goal.returns-clause-ok
returns-clause-ok c =
    let look = c.args.look in
    on_ok_weaker c.extend_from_slice.result (
    day_said look c.args.moment c.args.text.now.items c.extend_from_slice.new.self.items c.add.new.out.items c.add_weekday.new.out.items
    c.add_date.new.out.items c.add_zone.new.out.items c.add_end.new.out.items
    (c.in_ok-add.ensures ∙ ap (λ (l : List ℕ). l ++ c.begun.result.now) c.new-line.ensures.items ∙ c.begun.ensures)
    (c.in_ok-add_weekday.ensures
    ∙ ap (λ (n : ℕ). c.add.new.out.items ++ (codes "-- " ++ weekday_text (n % 7) ++ codes " ")) c.day_of.ensures.day)
    c.in_ok-add_date.ensures c.in_ok-add_zone.ensures c.in_ok-add_end.ensures)
    (joins c.extend_from_slice.result c.args.text.now.items c.add_end.new.out.items c.deref.result.now
    c.extend_from_slice.new.self.items c.deref.ensures.value c.extend_from_slice.ensures.items)
