-- The calls of the last release, right after it and one by one.
use Rattle.std.proofs.Common.{◌≡◌, ℕ, zero, suc, List, [], ◌∷◌, map, drop, Option, Some, None, refl, sym, ap, ◌∙◌}
use Rattle.std.specs.List.{slice_get}
use Rattle.std.specs.Option.{MatchOption, option_map}
use Rattle.osc_model.specs.Events.{release}
use Rattle.osc_model.specs.History.{Performance, stepped_in, onward}
use Rattle.osc_core.specs.declared.answers.Releasing.{Releasing}
use Rattle.osc_core.specs.declared.answers.Releasing.TheVariants as releasing
use Rattle.osc_core.specs.Answers.{OnReleased, TellsRelease}
use Rattle.osc_core.proofs.Telling.{last_released}
use Rattle.osc_core.specs.Invoked.{call_of, last_calls, last_invocations}

-- where a unit is released, they are those of its release
pub released_calls : (answering : Releasing) (before later : Performance) → TellsRelease answering (stepped_in before release).answer
    → later ≡ onward before 0 release
    → OnReleased answering (λ _. last_calls later ≡ map call_of (stepped_in before release).invocations)
released_calls (releasing.Released unit calls) before later tells is =
    ap (map call_of) (ap last_invocations is ∙ last_released before 0 unit tells.0 tells.1)
released_calls (releasing.NothingDue next) before later tells is = tt
released_calls (releasing.RecordFull room) before later tells is = tt

from_place : {X : Type 0} (xs : List X) (n : ℕ) → slice_get (drop n xs) 0 ≡ slice_get xs n
from_place [] zero = refl
from_place [] (suc n) = refl
from_place (x ∷ xs) zero = refl
from_place (x ∷ xs) (suc n) = from_place xs n

-- what an iterator that stands at a place yields next
pub at_place : {A B : Type 0} (view : A → B) (next : Option A) (n : ℕ) (all left later : List B)
    → MatchOption next ((left ≡ []) × (later ≡ [])) (λ x. left ≡ view x ∷ later) → left ≡ drop n all → option_map view next ≡ slice_get all n
at_place view None n all left later yields is = ap (λ l. slice_get l 0) (sym yields.0 ∙ is) ∙ from_place all n
at_place view (Some x) n all left later yields is = ap (λ l. slice_get l 0) (sym yields ∙ is) ∙ from_place all n
