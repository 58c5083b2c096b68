-- An entry of a heap goes up or down by one place.
use Rattle.std.proofs.Common.{◌≡◌, ◌≢◌, ◌⊎◌, inl, inr, ℕ, zero, suc, ◌<◌, ◌≤◌, ◌==◌, Bool, true, false, List, length, refl, sym, ap, subst, ◌∙◌, arith, get_or}
use Rattle.std.proofs.Common.{Some, None, eq-eqb}
use Rattle.std.specs.Prelude.{slice_index_or}
use Rattle.std.specs.List.{SwappedAt}
use Rattle.std.proofs.lemmas.Bool.{eqb-true}
use Rattle.std.proofs.lemmas.List.{get_or_default}
use Rattle.std.proofs.lemmas.Bool.Decides.{nat_tests}
use Rattle.osc_queue.specs.declared.entry.Entry.{Entry}
use Rattle.osc_queue.specs.Timed.{Item, is_before}
use Rattle.osc_queue.specs.Views.{item_of, before_at, above, IsHeap}
use Rattle.osc_queue.specs.Heaps.{Rises, Sinks, IsFirstBelow}
use Rattle.osc_queue.proofs.Orders.{never_itself, one_way, not_before}

-- two numbers are one, or not
same_or_not : (m n : ℕ) → (m ≡ n) ⊎ (m ≢ n)
same_or_not m n = go (m == n) refl where
  go : (t : Bool) → (m == n) ≡ t → (m ≡ n) ⊎ (m ≢ n)
  go true is = inl (eqb-true m n is)
  go false is = inr (λ same. let e : (m == n) ≡ true = eq-eqb m n same in absurd (cc))

module _ {T : Type 0} where
  -- what isn't before one that isn't before a third isn't before that
  chain_not : (x y z : Item T) → is_before x y ≡ false → is_before y z ≡ false → is_before x z ≡ false
  chain_not x y z e f = grind (arith, nat_tests)

  abbrev pub item_at : List (Entry T) → ℕ → Entry T → Item T
  item_at entries k d = item_of (slice_index_or entries k d)

  -- the entries after two of them changed places
  at_first : (xs ys : List (Entry T)) (a b : ℕ) (d : Entry T) → SwappedAt xs ys a b → item_at ys a d ≡ item_at xs b d
  at_first xs ys a b d swapped = ap item_of (swapped.0 d)

  at_second : (xs ys : List (Entry T)) (a b : ℕ) (d : Entry T) → SwappedAt xs ys a b → item_at ys b d ≡ item_at xs a d
  at_second xs ys a b d swapped = ap item_of (swapped.1 d)

  at_other : (xs ys : List (Entry T)) (a b k : ℕ) (d : Entry T) → SwappedAt xs ys a b → k ≢ a → k ≢ b → item_at ys k d ≡ item_at xs k d
  at_other xs ys a b k d swapped here there = ap item_of (swapped.2 k d here there)

  -- an entry that was read at a place
  pub read_at : (xs : List (Entry T)) (k : ℕ) (x d : Entry T) → k < length xs → x ≡ get_or xs k x → item_of x ≡ item_at xs k d
  read_at xs k x d within is = ap item_of (is ∙ get_or_default xs k x d within)

  pub reads_before : (xs : List (Entry T)) (j k : ℕ) (x y d : Entry T) (t u : Bool) → j < length xs → k < length xs → x ≡ get_or xs j x → y ≡ get_or xs k y
      → t ≡ is_before (item_of x) (item_of y) → t ≡ u → before_at xs j k d ≡ u
  reads_before xs j k x y d t u low high at there value is =
      (λ i. is_before (sym (read_at xs j x d low at) i) (sym (read_at xs k y d high there) i)) ∙ sym value ∙ is

  carried : (x y u v : Item T) → x ≡ u → y ≡ v → is_before u v ≡ false → is_before x y ≡ false
  carried x y u v e f is = (λ i. is_before (e i) (f i)) ∙ is

  -- an entry that is taken before the one above it changes places with that
  pub rises_on : (xs ys : List (Entry T)) (place : ℕ) → 0 < place → place < length xs → length ys ≡ length xs → Rises place xs
      → ((d : Entry T) → before_at xs place (above place) d ≡ true) → SwappedAt xs ys place (above place) → Rises (above place) ys
  rises_on xs ys place some within same up before swapped = record { others = others; below = below } where
    others : (j : ℕ) (d : Entry T) → 0 < j → j < length ys → j ≢ above place → before_at ys j (above j) d ≡ false
    others j d low high far = go (same_or_not j place) where
      go : (j ≡ place) ⊎ (j ≢ place) → before_at ys j (above j) d ≡ false
      go (inl is) =
          subst (λ (k : ℕ). before_at ys k (above k) d ≡ false) (sym is)
          (carried _ _ _ _ (at_first xs ys place (above place) d swapped) (at_second xs ys place (above place) d swapped)
          (one_way (item_at xs place d) (item_at xs (above place) d) (before d)))
      go (inr other) = next (same_or_not (above j) place) where
        here : item_at ys j d ≡ item_at xs j d
        here = at_other xs ys place (above place) j d swapped other far

        next : (above j ≡ place) ⊎ (above j ≢ place) → before_at ys j (above j) d ≡ false
        next (inl under) =
            carried _ _ _ _ here (ap (λ (k : ℕ). item_at ys k d) under ∙ at_first xs ys place (above place) d swapped)
            (up.below j d low (omega (arith, same)) under some)
        next (inr aside) = last (same_or_not (above j) (above place)) where
          last : (above j ≡ above place) ⊎ (above j ≢ above place) → before_at ys j (above j) d ≡ false
          last (inl sibling) =
              carried _ _ _ _ here (ap (λ (k : ℕ). item_at ys k d) sibling ∙ at_second xs ys place (above place) d swapped)
              (not_before (item_at xs j d) (item_at xs place d) (item_at xs (above place) d) (before d)
              (subst (λ (k : ℕ). before_at xs j k d ≡ false) sibling (up.others j d low (omega (arith, same)) other)))
          last (inr away) =
              carried _ _ _ _ here (at_other xs ys place (above place) (above j) d swapped aside away) (up.others j d low (omega (arith, same)) other)

    below : (j : ℕ) (d : Entry T) → 0 < j → j < length ys → above j ≡ above place → 0 < above place → before_at ys j (above (above place)) d ≡ false
    below j d low high under top = go (same_or_not j place) where
      higher : item_at ys (above (above place)) d ≡ item_at xs (above (above place)) d
      higher = at_other xs ys place (above place) (above (above place)) d swapped (λ is. absurd (omega arith)) (λ is. absurd (omega arith))

      over : before_at xs (above place) (above (above place)) d ≡ false
      over = up.others (above place) d top (omega arith) (λ is. absurd (omega arith))

      go : (j ≡ place) ⊎ (j ≢ place) → before_at ys j (above (above place)) d ≡ false
      go (inl is) =
          subst (λ (k : ℕ). before_at ys k (above (above place)) d ≡ false) (sym is)
          (carried _ _ _ _ (at_first xs ys place (above place) d swapped) higher over)
      go (inr other) =
          carried _ _ _ _ (at_other xs ys place (above place) j d swapped other (λ is. absurd (omega arith))) higher
          (chain_not (item_at xs j d) (item_at xs (above place) d) (item_at xs (above (above place)) d)
          (subst (λ (k : ℕ). before_at xs j k d ≡ false) under (up.others j d low (omega (arith, same)) other)) over)

  -- an entry that isn't taken before the one above it, or that is the first, makes a heap
  pub rises_over : (xs : List (Entry T)) (place : ℕ) → Rises place xs → (0 < place → (d : Entry T) → before_at xs place (above place) d ≡ false) → IsHeap xs
  rises_over xs place up stays j d low high = go (same_or_not j place) where
    go : (j ≡ place) ⊎ (j ≢ place) → before_at xs j (above j) d ≡ false
    go (inl is) = subst (λ (k : ℕ). before_at xs k (above k) d ≡ false) (sym is) (stays (omega arith) d)
    go (inr other) = up.others j d low high other

  -- an entry changes places with the first of those right below it
  pub sinks_on : (xs ys : List (Entry T)) (place child : ℕ) → length ys ≡ length xs → Sinks place xs → IsFirstBelow xs place (Some child)
      → SwappedAt xs ys place child → Sinks child ys
  sinks_on xs ys place child same down (low', high', under', first) swapped = record { others = others; below = below } where
    others : (j : ℕ) (d : Entry T) → 0 < j → j < length ys → j ≢ child → above j ≢ child → before_at ys j (above j) d ≡ false
    others j d low high other far = next (same_or_not j place) where
      next : (j ≡ place) ⊎ (j ≢ place) → before_at ys j (above j) d ≡ false
      next (inl is) =
          subst (λ (k : ℕ). before_at ys k (above k) d ≡ false) (sym is)
          (carried _ _ _ _ (at_first xs ys place child d swapped)
          (at_other xs ys place child (above place) d swapped (λ e. absurd (omega arith)) (λ e. absurd (omega arith)))
          (down.below child d low' high' under' (omega arith)))
      next (inr away) = last (same_or_not (above j) place) where
        here : item_at ys j d ≡ item_at xs j d
        here = at_other xs ys place child j d swapped away other

        last : (above j ≡ place) ⊎ (above j ≢ place) → before_at ys j (above j) d ≡ false
        last (inl under) =
            carried _ _ _ _ here (ap (λ (k : ℕ). item_at ys k d) under ∙ at_first xs ys place child d swapped) (first j d low (omega (arith, same)) under)
        last (inr aside) =
            carried _ _ _ _ here (at_other xs ys place child (above j) d swapped aside far) (down.others j d low (omega (arith, same)) away aside)

    below : (j : ℕ) (d : Entry T) → 0 < j → j < length ys → above j ≡ child → 0 < child → before_at ys j (above child) d ≡ false
    below j d low high under top =
        carried _ _ _ _ (at_other xs ys place child j d swapped (λ is. absurd (omega arith)) (λ is. absurd (omega arith)))
        (ap (λ (k : ℕ). item_at ys k d) under' ∙ at_first xs ys place child d swapped)
        (subst (λ (k : ℕ). before_at xs j k d ≡ false) under
        (down.others j d low (omega (arith, same)) (λ is. absurd (omega arith)) (λ is. absurd (omega arith))))

  -- an entry that has none below it may be taken before the one above it alone
  pub sinks_over : (xs : List (Entry T)) (place : ℕ) → Sinks place xs → IsFirstBelow xs place None → Rises place xs
  sinks_over xs place down none =
      record {
        others = λ j d low high other. down.others j d low high other (λ under. absurd (omega (arith, none)));
        below = down.below;
      }

  -- no entry of a heap is taken before its first
  pub heap_first : (xs : List (Entry T)) → IsHeap xs → (most k : ℕ) (d : Entry T) → k ≤ most → k < length xs → before_at xs k 0 d ≡ false
  heap_first xs heap most zero d low within = never_itself (item_at xs 0 d)
  heap_first xs heap zero (suc k) d low within = absurd (omega arith)
  heap_first xs heap (suc most) (suc k) d low within =
      chain_not (item_at xs (suc k) d) (item_at xs (above (suc k)) d) (item_at xs 0 d) (heap (suc k) d (omega arith) within)
      (heap_first xs heap most (above (suc k)) d (omega arith) (omega arith))
