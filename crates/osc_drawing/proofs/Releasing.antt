-- The first unit that waits is released.
use Rattle.std.proofs.Common.{◌≡◌, ℕ, List, sym, ap, ◌∙◌}
use Rattle.osc_model.specs.Events.{Answer, Hit, Call, released}
use Rattle.osc_story.specs.Standings.{Standing, calls_told, first_messages}
use Rattle.osc_drawing.specs.Gatherings.{Gathered, with_calls, with_release}

pub performed : (standing : Standing) (moment unit : ℕ) (answer : Answer) (hits : List Hit) (calls : List Call) (messages : List (List ℕ)) (old : Gathered)
    → answer ≡ released unit hits → calls ≡ calls_told standing answer → messages ≡ first_messages standing.waiting
    → with_calls moment unit calls messages old ≡ with_release standing moment answer old
performed standing moment unit answer hits calls messages old is so first =
    ap (λ (l : List Call). with_calls moment unit l messages old) (so ∙ ap (λ (a : Answer). calls_told standing a) is)
    ∙ ap (λ (l : List (List ℕ)). with_calls moment unit (calls_told standing (released unit hits)) l old) first
    ∙ sym (ap (λ (a : Answer). with_release standing moment a old) is)
