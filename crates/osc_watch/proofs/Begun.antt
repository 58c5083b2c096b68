-- Beginnings of one list, and the step that adds to it.
use Rattle.std.proofs.Common.{◌≡◌, ℕ, ◌+◌, ◌<◌, ◌≤◌, ◌==◌, Bool, true, false, nat_lt, cond, List, [], ◌∷◌, ◌++◌, length, refl, ap, sym, ◌∙◌, subst}
use Rattle.std.proofs.Common.{arith, inl, length-append, append_assoc, None}
use Rattle.std.proofs.lemmas.List.{append-nil}
use Rattle.std.proofs.lemmas.Bool.{ltb-true, ltb-false}
use Rattle.std.proofs.lemmas.Bool.Decides.{nat_tests}
use mathlib.Core.List.{IsPrefix}
use prog.Atomic.{either}
use Rattle.logbook.specs.Pages.{Cell, cell, keeps, no_nib, step, Moves, Goes}
use Rattle.osc_turn.specs.History.{StartsWith}
use Rattle.osc_watch.specs.declared.row.Edit.{Edit}
use Rattle.osc_watch.specs.declared.reached.Reached.{Reached}
use Rattle.osc_watch.specs.Rule.{IsCounted, Adds}
use Rattle.osc_watch.specs.Reach.{longer}

-- of two beginnings of one list the shorter begins the longer
pub shorter : {A : Type 0} (xs ys zs : List A) → IsPrefix xs zs → IsPrefix ys zs → length xs ≤ length ys → StartsWith ys xs
shorter [] ys zs p q le = (ys, refl)
shorter (x ∷ xs) [] zs p q le = absurd (omega arith)
shorter (x ∷ xs) (y ∷ ys) [] p q le = absurd (cc (p.1))
shorter (x ∷ xs) (y ∷ ys) (z ∷ zs) p q le =
    let heads : y ≡ x = cc (p.1, q.1) in
    let rest = shorter xs ys zs (p.0, cc (p.1)) (q.0, cc (q.1)) (omega arith) in
    (rest.0, cc (heads, rest.1))

-- a beginning as long as the whole is the whole
pub whole : {A : Type 0} (xs ys : List A) → IsPrefix xs ys → length ys ≤ length xs → xs ≡ ys
whole [] [] p le = refl
whole [] (y ∷ ys) p le = absurd (omega arith)
whole (x ∷ xs) [] p le = absurd (cc (p.1))
whole (x ∷ xs) (y ∷ ys) p le =
    let rest = whole xs ys (p.0, cc (p.1)) (omega arith) in cc (p.1, rest)

pub self : {A : Type 0} (xs : List A) → StartsWith xs xs
self xs = ([], sym (append-nil xs))

pub onward : {A : Type 0} (xs ys zs : List A) → StartsWith zs ys → StartsWith ys xs → StartsWith zs xs
onward xs ys zs p q = (q.0 ++ p.0, p.1 ∙ (ap (λ w. w ++ p.0) q.1 ∙ append_assoc xs q.0 p.0))

pub compared : (one other : Reached) (all : List Edit) → IsPrefix one.seen.log all → IsPrefix other.seen.log all
    → StartsWith (longer one other).seen.log one.seen.log × StartsWith (longer one other).seen.log other.seen.log
compared one other all p q = go (nat_lt one.edits other.edits) refl where
  go : (t : Bool) → nat_lt one.edits other.edits ≡ t
      → StartsWith (cond t other one).seen.log one.seen.log × StartsWith (cond t other one).seen.log other.seen.log
  go true is = (
    shorter one.seen.log other.seen.log all p q (let less = ltb-true _ _ is in
        omega (arith, less, one.counted, other.counted)),
    self other.seen.log,
  )
  go false is = (
    self one.seen.log,
    shorter other.seen.log one.seen.log all q p (let less = ltb-false _ _ is in
        omega (arith, less, one.counted, other.counted)),
  )

abbrev pub shown : List Edit → List Edit
shown log = []

abbrev pub moved : List Edit → List Edit → ℕ → Type 0
moved xs ys n = Unit {0}

adds_goes : (log v : List Edit) (e : Edit) (old : ℕ) → length v ≡ old → IsPrefix v log
    → (b : Bool) → (length log == old) ≡ b
    → Goes IsCounted shown moved 0 (v, (no_nib, None)) (λ n. either (n == old) (old + 1) n) (Adds (step 0 old (old + 1) e) (v, (no_nib, None))) ((
      length log,
      true,
    ) ∷ (0, true) ∷ []) log
adds_goes log v e old len pre true is =
    let here : length log ≡ old = grind (arith, nat_tests) in
    let same : v ≡ log = whole v log pre (omega arith) in
    let n : either (length log == old) (old + 1) (length log) ≡ length (log ++ e ∷ []) = rw is (omega (arith, length-append log (e ∷ []))) in (
      keeps,
      e ∷ [],
      None,
      tt,
      record { words = ap (λ (k : ℕ). (k, true) ∷ (0, true) ∷ []) n },
      inl (refl, refl),
      rw is (ap (λ w. w ++ e ∷ []) (sym same)),
    )
adds_goes log v e old len pre false is =
    let all : log ++ [] ≡ log = append-nil log in
    let n : either (length log == old) (old + 1) (length log) ≡ length (log ++ []) = rw is (ap length (sym all)) in (
      keeps,
      [],
      None,
      tt,
      record { words = ap (λ (k : ℕ). (k, true) ∷ (0, true) ∷ []) n },
      inl (refl, refl),
      rw is tt,
    )

-- whatever the list is, the exchange adds the edit to all that was reached, or does nothing
pub adds_moves : (v : List Edit) (e : Edit) (old : ℕ) → length v ≡ old
    → Moves IsCounted shown moved 0 (v, (no_nib, None)) (λ n. either (n == old) (old + 1) n) (Adds (step 0 old (old + 1) e) (v, (no_nib, None)))
adds_moves v e old len cs log kept pre away =
    let P : List Cell → Type 0 = λ c. (0 < length c) × ((cell c 0).1 ≡ true) × Goes IsCounted shown moved 0 (v, (no_nib, None)) (λ n. either (n == old) (old +
    1) n) (Adds (step 0 old (old + 1) e) (v, (no_nib, None))) c log in
    subst P (sym kept.words) (omega arith, refl, adds_goes log v e old len pre (length log == old) refl)

same_length : (xs ys : List Edit) → StartsWith xs ys → length xs ≡ length ys → ys ≡ xs
same_length xs ys ([], is) size = sym (is ∙ append-nil ys)
same_length xs ys (x ∷ rest, is) size = absurd (omega (arith, ap length is, length-append ys (x ∷ rest), size))

-- two beginnings of one list with as many edits are the same
pub agree : (one other : Reached) → StartsWith (longer one other).seen.log one.seen.log → StartsWith (longer one other).seen.log other.seen.log
    → one.edits ≡ other.edits → other.seen.log ≡ one.seen.log
agree one other p q same = go (nat_lt one.edits other.edits) p q where
  size : length one.seen.log ≡ length other.seen.log
  size = omega (arith, one.counted, other.counted, same)

  go : (t : Bool) → StartsWith (cond t other one).seen.log one.seen.log → StartsWith (cond t other one).seen.log other.seen.log → other.seen.log ≡ one.seen.log
  go true p q = sym (same_length other.seen.log one.seen.log p (sym size))
  go false p q = same_length one.seen.log other.seen.log q size
