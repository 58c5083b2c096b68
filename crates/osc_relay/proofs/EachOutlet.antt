-- Loops over a list that change each element, and what holds of each.
use Rattle.std.proofs.Common.{◌≡◌, ℕ, ◌+◌, ◌<◌, List, [], ◌∷◌, ◌++◌, length, take, drop, get_or, set, All, refl, sym, ap, ◌∙◌, subst, arith, map, drop-cons, add-one, append_assoc}
use Rattle.std.specs.List.{AllZip}
use Rattle.std.proofs.lemmas.List.{length-take-le, append-nil}
use Rattle.std.proofs.lemmas.List.Elements.{all_zip_more, AllZip-get_or, length_all_zip}
use Rattle.std.proofs.Math.Seq.{set-append_seam, get_or-append_seam, take-length, drop-length}

-- so many elements were changed, and the others are as they were
pub record IsSoFar {X : Type 0} (R : X → X → Type 0) (old : List X) (done : ℕ) (now : List X) : Type 0 where
  pub changed : List X
  pub all : now ≡ changed ++ drop done old
  pub each : AllZip R (take done old) changed

pub none_so_far : {X : Type 0} (R : X → X → Type 0) (old : List X) → IsSoFar R old 0 old
none_so_far R old = record { changed = []; all = refl; each = tt }

pub so_far_more : {X : Type 0} (R : X → X → Type 0) (old now : List X) (i : ℕ) (x y : X) → i < length old → x ≡ get_or now i x → R x y
    → IsSoFar R old i now → IsSoFar R old (i + 1) (set now i y)
so_far_more {X} R old now i x y inside is step far =
    let size : length far.changed ≡ i = sym (length_all_zip R (take i old) far.changed far.each) ∙ length-take-le i old (omega (arith, inside)) in
    let rest : drop i old ≡ get_or old i x ∷ drop (i + 1) old =
    drop-cons old i x inside ∙ ap (λ (n : ℕ). get_or old i x ∷ drop n old) (sym (add-one i)) in
    let parts : now ≡ far.changed ++ get_or old i x ∷ drop (i + 1) old = far.all ∙ ap (λ (l : List X). far.changed ++ l) rest in
    let here : x ≡ get_or old i x =
    is ∙ ap (λ (l : List X). get_or l i x) parts
    ∙ ap (λ (n : ℕ). get_or (far.changed ++ get_or old i x ∷ drop (i + 1) old) n x) (sym size)
    ∙ get_or-append_seam far.changed (get_or old i x) (drop (i + 1) old) x in
    record {
      changed = far.changed ++ y ∷ [];
      all = ap (λ (l : List X). set l i y) parts
          ∙ ap (λ (n : ℕ). set (far.changed ++ get_or old i x ∷ drop (i + 1) old) n y) (sym size)
          ∙ set-append_seam far.changed (get_or old i x) (drop (i + 1) old) y
          ∙ sym (append_assoc far.changed (y ∷ []) (drop (i + 1) old));
      each = all_zip_more R old far.changed i x y inside here far.each step;
    }

-- what the change leaves of each element stays of all
pub all_kept : {X Y : Type 0} (R : X → X → Type 0) (f : X → Y) → ((x y : X) → R x y → f y ≡ f x) → (old new : List X) → AllZip R old new
    → map f new ≡ map f old
all_kept R f same [] [] zip = refl
all_kept R f same [] (y ∷ ys) zip = absurd zip
all_kept R f same (x ∷ xs) [] zip = absurd zip
all_kept R f same (x ∷ xs) (y ∷ ys) zip = ap (λ one. one ∷ map f ys) (same x y zip.0) ∙ ap (λ rest. f x ∷ rest) (all_kept R f same xs ys zip.1)

pub all_changed : {X : Type 0} (R : X → X → Type 0) (old now : List X) (i : ℕ) → i ≡ length old → IsSoFar R old i now → AllZip R old now
all_changed {X} R old now i end far =
    let whole : take i old ≡ old = ap (λ (n : ℕ). take n old) end ∙ take-length old in
    let none : drop i old ≡ [] = ap (λ (n : ℕ). drop n old) end ∙ drop-length old in
    let same : now ≡ far.changed = far.all ∙ ap (λ (l : List X). far.changed ++ l) none ∙ append-nil far.changed in
    let every : AllZip R old far.changed = subst (λ (xs : List X). AllZip R xs far.changed) whole far.each in
    subst (λ (ys : List X). AllZip R old ys) (sym same) every

-- what holds of each element holds of each after the change, if the change carries it on
pub all_across : {X : Type 0} (R : X → X → Type 0) (P Q : X → Type 0) → ((x y : X) → P x → R x y → Q y) → (old new : List X) → All P old
    → AllZip R old new → All Q new
all_across R P Q on old new all zip = λ k d within.
    let inside : k < length old = omega (arith, within, length_all_zip R old new zip) in
    on (get_or old k d) (get_or new k d) (all k d inside) (AllZip-get_or R old new k d d zip inside)

-- what the change makes of any element holds of each after it
pub all_after : {X : Type 0} (R : X → X → Type 0) (Q : X → Type 0) → ((x y : X) → R x y → Q y) → (old new : List X) → AllZip R old new → All Q new
all_after R Q on old new zip = λ k d within.
    let inside : k < length old = omega (arith, within, length_all_zip R old new zip) in
    on (get_or old k d) (get_or new k d) (AllZip-get_or R old new k d d zip inside)
