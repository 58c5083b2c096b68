-- Each step on what is published keeps the rule of the board.
use Rattle.std.proofs.Common.{◌≡◌, ◌≢◌, ℕ, List, Option, Some, None, set, refl, ◌∙◌, subst, ⊎_elim}
use mathlib.Core.Option.{some}
use lib.ListN.{get_elem?}
use Rattle.crossbeam_utils.specs.Register.{Admits, TurnsAt, Forks, Merges}
use Rattle.atomic_table.proofs.Lists.{at_set, at_snoc}
use Rattle.osc_watch.specs.declared.reached.Reached.{Reached}
use Rattle.osc_watch.specs.declared.sheet.Sheet.{Sheet}
use Rattle.osc_watch.specs.Publishing.{IsListed, Begins, Knows, IsPublished, Sees}
use Rattle.osc_watch.proofs.Begun.{self, onward}

abbrev View : Type 0
View = Option Reached

-- what is known stays known where more is reached
widen : (u : View) (x y : Reached) → Begins x y → Knows u x → Knows u y
widen None x y more k = tt
widen (Some s) x y more k = (k.0 ∙ more.0, onward s.seen.log x.seen.log y.seen.log more.1 k.1)

pub admits : Admits IsPublished None
admits x views h = record {
  listed = h.listed;
  known = λ seat v at. ⊎_elim (h.known seat v) (λ (same : None ≡ v). subst (λ (u : View). Knows u x.reached) same tt) (at_snoc views None v seat at);
}

pub turns : (seat : ℕ) (v : View) (x y : Sheet) → (IsListed x → IsListed y) → Begins x.reached y.reached → TurnsAt IsPublished seat v x y Sees
turns seat v x y listed more views h at = (
  Some y.reached,
  record {
    listed = listed h.listed;
    known = λ j u e. ⊎_elim
        (λ (t : (j ≡ seat) × (Some y.reached ≡ u)). subst (λ (z : View). Knows z y.reached) t.1 (refl, self y.reached.seen.log))
        (λ (t : (j ≢ seat) × (get_elem? views j ≡ some u)). widen u x.reached y.reached more (h.known j u t.1))
        (at_set views seat j (Some y.reached) u e);
  },
  record { seen = refl; goes_on = widen v x.reached y.reached more (h.known seat v at); listed = listed h.listed },
)

-- a step that changes nothing of what is published
pub looks : (seat : ℕ) (v : View) (x : Sheet) → TurnsAt IsPublished seat v x x Sees
looks seat v x = turns seat v x x (λ l. l) (refl, self x.reached.seen.log)

known_set : (x : Sheet) (views : List View) (seat : ℕ) (w : View) → IsPublished x views → Knows w x.reached → IsPublished x (set views seat w)
known_set x views seat w h k = record {
  listed = h.listed;
  known = λ j u e. ⊎_elim
      (λ (t : (j ≡ seat) × (w ≡ u)). subst (λ (z : View). Knows z x.reached) t.1 k)
      (λ (t : (j ≢ seat) × (get_elem? views j ≡ some u)). h.known j u t.1)
      (at_set views seat j w u e);
}

pub forks : (seat : ℕ) (v : View) → Forks IsPublished seat v v v
forks seat v x views h at =
    let here = known_set x views seat v h (h.known seat v at) in record {
      listed = h.listed;
      known = λ j u e. ⊎_elim (here.known j u) (λ (same : v ≡ u). subst (λ (z : View). Knows z x.reached) same (h.known seat v at)) (at_snoc (set views seat v)
          v u j e);
    }

pub merges : (seat : ℕ) (v : View) (other : ℕ) (w : View) → Merges IsPublished seat v other w w None
merges seat v other w x views h at apart there =
    let told : Knows w x.reached = ⊎_elim
    (λ (t : (other ≡ seat) × (w ≡ w)). absurd (apart t.0))
    (λ (t : (other ≢ seat) × (get_elem? views other ≡ some w)). h.known other w t.1)
    (at_set views seat other w w there) in
    known_set x (set views seat w) other None (known_set x views seat w h told) tt
