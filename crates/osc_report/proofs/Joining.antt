-- What is shown of stretches, one after another, is what is shown of all their entries.
use Rattle.std.proofs.Common.{◌≡◌, ℕ, List, [], ◌∷◌, ◌++◌, true, sym, subst, ◌∙◌}
use Rattle.osc_model.specs.Events.{Entry}
use Rattle.osc_story.specs.Standings.{Standing, seen, seen_all}
use Rattle.osc_report.specs.declared.options.Options.{Options}
use Rattle.osc_report.specs.Moments.{ends_stretch, moment_of}
use Rattle.osc_report.specs.Stretches.{GoesOn, IsStretch}
use Rattle.osc_report.specs.Reports.{IsEntryShown, AddsShown}
use Rattle.osc_report.specs.Runs.{Progress}
use Rattle.osc_report.proofs.Clocks.{moment_on, moment_end}

-- what follows a stretch doesn't change its moment
same_moment : (standing : Standing) (front : List Entry) (last : Entry) (others : List Entry) → GoesOn front → ends_stretch last.event ≡ true
    → moment_of standing (front ++ last ∷ []) ≡ moment_of standing ((front ++ last ∷ []) ++ others)
same_moment standing [] last others on ends = moment_end standing last [] ends ∙ sym (moment_end standing last others ends)
same_moment standing (entry ∷ front) last others on ends =
    moment_on standing entry (front ++ last ∷ []) on.0 ∙ same_moment (seen standing entry) front last others on.1 ends
    ∙ sym (moment_on standing entry ((front ++ last ∷ []) ++ others) on.0)

-- a stretch, and what follows it
after_front : (options : Options) (standing : Standing) (old : Progress) (front : List Entry) (last : Entry) (others : List Entry)
    (before mid after : List ℕ) (between now : Progress) → GoesOn front → ends_stretch last.event ≡ true
    → AddsShown options standing old (front ++ last ∷ []) before mid between
    → AddsShown options (seen_all standing (front ++ last ∷ [])) between others mid after now
    → AddsShown options standing old ((front ++ last ∷ []) ++ others) before after now
after_front options standing old [] last others before mid after between now on ends (one, then, shown, last_is) more = (
  one,
  then,
  subst (λ (n : ℕ). IsEntryShown options standing old n last one then) (same_moment standing [] last others on ends) shown,
  subst (λ (l : List ℕ). AddsShown options (seen standing last) then others l after now) last_is.0
      (subst (λ (s : Progress). AddsShown options (seen standing last) s others mid after now) last_is.1 more),
)
after_front options standing old (entry ∷ front) last others before mid after between now on ends (one, then, shown, rest) more = (
  one,
  then,
  subst (λ (n : ℕ). IsEntryShown options standing old n entry one then) (same_moment standing (entry ∷ front) last others on ends) shown,
  after_front options (seen standing entry) then front last others (before ++ one) mid after between now on.1 ends rest more,
)

pub stretch_joins : (options : Options) (standing : Standing) (old : Progress) (entries others : List Entry) (before mid after : List ℕ) (between now : Progress)
    → IsStretch entries → AddsShown options standing old entries before mid between
    → AddsShown options (seen_all standing entries) between others mid after now → AddsShown options standing old (entries ++ others) before after now
stretch_joins options standing old entries others before mid after between now (front, last, on, ends, is) shown more =
    subst (λ (l : List Entry). AddsShown options standing old (l ++ others) before after now) (sym is)
    (after_front options standing old front last others before mid after between now on ends
    (subst (λ (l : List Entry). AddsShown options standing old l before mid between) is shown)
    (subst (λ (l : List Entry). AddsShown options (seen_all standing l) between others mid after now) is more))
