-- Bytes added to what is held, up to the end of a frame.
use Rattle.std.proofs.Common.{◌≡◌, ℕ, zero, suc, ◌+◌, ◌-◌, ◌≤◌, ◌<◌, Bool, true, false, cond, ltb, List, [], ◌∷◌, ◌++◌, length, take, drop, min, refl, sym, ap}
use Rattle.std.proofs.Common.{◌∙◌, subst, arith, append_assoc, length-append, length-take, length-drop, ◌⊎◌, inl, inr}
use Rattle.std.proofs.lemmas.Bool.{ltb-true, ltb-false, lt-ltb, le-ltb, cond-true, cond-false, cond_both, eqb-true, cases_lt}
use Rattle.std.specs.Prelude.{IsTrue}
use Rattle.osc_stream.specs.declared.front.Front.{Front}
use Rattle.osc_stream.specs.declared.front.Front.TheVariants.{Short, Whole, Bad}
use Rattle.osc_stream.specs.Frames.{is_length, first_word, front, wanted}
use Rattle.osc_stream.specs.Feeding.{is_held_by, is_held, has_filled, HasFilled}
use Rattle.osc_stream.proofs.Fronts.{found_at, wanted_at, word_stays}

-- no more bytes than the word and its packet; a word that is no length stands alone
record Fits (lawful : Bool) (size word : ℕ) : Type 0 where
  pub long : 4 ≤ size
  pub good : lawful ≡ true → size ≤ 4 + word
  pub bad : lawful ≡ false → size ≡ 4

held_short : (less : Bool) (size word : ℕ) → IsTrue (is_held_by (cond less Short (Whole word)) size) → less ≡ true
held_short true size word h = refl
held_short false size word h = absurd cc

-- what is held fits
held_fits : (lawful : Bool) (size word : ℕ) → 4 ≤ size → IsTrue (is_held_by (found_at lawful size word) size) → Fits lawful size word
held_fits true size word long h =
    let held : IsTrue (is_held_by (cond (ltb size (4 + word)) Short (Whole word)) size) =
    subst (λ b. IsTrue (is_held_by (cond b Short (cond (ltb size (4 + word)) Short (Whole word))) size)) (le-ltb size 4 long) h in
    let less = ltb-true size (4 + word) (held_short (ltb size (4 + word)) size word held) in
    record { long = long; good = λ _. omega (arith, less); bad = λ e. absurd cc }
held_fits false size word long h =
    let held : IsTrue (is_held_by (Bad word) size) =
    subst (λ b. IsTrue (is_held_by (cond b Short (Bad word)) size)) (le-ltb size 4 long) h in
    record { long = long; good = λ e. absurd cc; bad = λ _. eqb-true size 4 held }

-- more bytes, at most as many as are wanted, fill the frame or are all that there are
filled_at : (lawful : Bool) (size word piece count : ℕ) → Fits lawful size word → count ≡ min (wanted_at lawful size word) piece
    → has_filled (found_at lawful (size + count) word) count piece (size + count)
filled_at true size word piece count fits is =
    let wants : wanted_at true size word ≡ 4 + word - size = cond-false (ltb size 4) (4 - size) (4 + word - size) (le-ltb size 4 fits.long) in
    let few = fits.good refl in
    let is2 : count ≡ min (4 + word - size) piece = is ∙ ap (λ n. min n piece) wants in
    let long : ltb (size + count) 4 ≡ false = le-ltb (size + count) 4 (omega (arith, fits.long)) in
    subst (λ b. has_filled (cond b Short (cond (ltb (size + count) (4 + word)) Short (Whole word))) count piece (size + count)) (sym long)
    (cond_both (ltb (size + count) (4 + word)) Short (Whole word) (λ f. has_filled f count piece (size + count))
    (λ t. let less = ltb-true (size + count) (4 + word) t in omega (arith, less, is2, few))
    (λ f. let more = ltb-false (size + count) (4 + word) f in omega (arith, more, is2, few)))
filled_at false size word piece count fits is =
    let wants : wanted_at false size word ≡ 0 = cond-false (ltb size 4) (4 - size) 0 (le-ltb size 4 fits.long) in
    let is2 : count ≡ min 0 piece = is ∙ ap (λ n. min n piece) wants in
    let four = fits.bad refl in
    let long : ltb (size + count) 4 ≡ false = le-ltb (size + count) 4 (omega (arith, fits.long)) in
    subst (λ b. has_filled (cond b Short (Bad word)) count piece (size + count)) (sym long) (omega (arith, is2, four))

-- with the bytes that came before
filled_more : (found : Front) (first second piece size : ℕ) → first ≤ piece → has_filled found second (piece - first) size
    → has_filled found (first + second) piece size
filled_more Short first second piece size le h = omega (arith, le, h)
filled_more (Whole packet) first second piece size le h = h
filled_more (Bad word) first second piece size le h = h

abbrev none : List ℕ
none = []

take_nothing : (n : ℕ) → none ≡ take n none
take_nothing zero = refl
take_nothing (suc n) = refl

take_both : (a b : ℕ) (l : List ℕ) → take (a + b) l ≡ take a l ++ take b (drop a l)
take_both zero b l = let e : 0 + b ≡ b = omega arith in ap (λ n. take n l) e
take_both (suc a) b [] = let e : suc a + b ≡ suc (a + b) = omega arith in ap (λ n. take n none) e ∙ take_nothing b
take_both (suc a) b (x ∷ l) =
    let e : suc a + b ≡ suc (a + b) = omega arith in ap (λ n. take n (x ∷ l)) e ∙ ap (λ (t : List ℕ). x ∷ t) (take_both a b l)

still_fits : (lawful : Bool) (size more word count piece : ℕ) → Fits lawful size word → more ≡ size + count
    → count ≡ min (cond lawful (4 + word - size) 0) piece → Fits lawful more word
still_fits true size more word count piece fits is few = record {
  long = omega (arith, fits.long, is);
  good = λ e. omega (arith, fits.good e, is, few);
  bad = λ e. absurd cc;
}
still_fits false size more word count piece fits is few = record {
  long = omega (arith, fits.long, is);
  good = λ e. absurd cc;
  bad = λ e. omega (arith, fits.bad e, is, few);
}

-- the second step, where the word is whole
filled_second : (mid new piece : List ℕ) (first second : ℕ) → first ≤ length piece → Fits (is_length (first_word mid)) (length mid) (first_word mid)
    → second ≡ min (wanted mid) (length piece - first) → new ≡ mid ++ take second (drop first piece)
    → has_filled (front new) (first + second) (length piece) (length new)
filled_second mid new piece first second le fits is made =
    let rest = drop first piece in
    let size : length new ≡ length mid + second =
    ap length made ∙ length-append mid (take second rest) ∙ omega (arith, length-take second rest, length-drop first piece, is) in
    let same : first_word new ≡ first_word mid = ap first_word made ∙ word_stays mid (take second rest) fits.long in
    let all = filled_more (found_at (is_length (first_word mid)) (length mid + second) (first_word mid)) first second (length piece) (length mid + second) le
    (filled_at (is_length (first_word mid)) (length mid) (first_word mid) (length piece - first) second fits is) in
    subst (λ w. has_filled (found_at (is_length w) (length new) w) (first + second) (length piece) (length new)) (sym same)
    (subst (λ n. has_filled (found_at (is_length (first_word mid)) n (first_word mid)) (first + second) (length piece) n) (sym size) all)

-- what was held and the bytes of the first step fit, or the piece is used up before the word is whole
first_step : (old piece mid : List ℕ) (first : ℕ) → IsTrue (is_held old) → first ≡ min (wanted old) (length piece) → mid ≡ old ++ take first piece
    → ((length mid < 4) × (first ≡ length piece)) ⊎ Fits (is_length (first_word mid)) (length mid) (first_word mid)
first_step old piece mid first held is made =
    let size : length mid ≡ length old + first =
    ap length made ∙ length-append old (take first piece) ∙ omega (arith, length-take first piece, is) in
    elim (cases_lt (length old) 4) [
      | inl less ↦
          let wants : wanted old ≡ 4 - length old = cond-true (ltb (length old) 4) _ _ (lt-ltb (length old) 4 less) in
          let is2 : first ≡ min (4 - length old) (length piece) = is ∙ ap (λ n. min n (length piece)) wants in
          elim (cases_lt (length mid) 4) [
            | inl few ↦ inl (few, omega (arith, few, size, is2, less))
            | inr many ↦ inr (record { long = many; good = λ _. omega (arith, size, is2, less); bad = λ _. omega (arith, many, size, is2, less) })
          ]
      | inr long ↦
          let fits = held_fits (is_length (first_word old)) (length old) (first_word old) long held in
          let same : first_word mid ≡ first_word old = ap first_word made ∙ word_stays old (take first piece) long in
          let wants : wanted old ≡ cond (is_length (first_word old)) (4 + first_word old - length old) 0 =
          cond-false (ltb (length old) 4) _ _ (le-ltb (length old) 4 long) in
          let is2 : first ≡ min (cond (is_length (first_word old)) (4 + first_word old - length old) 0) (length piece) = is
          ∙ ap (λ n. min n (length piece)) wants in
          inr (subst (λ w. Fits (is_length w) (length mid) w) (sym same) (still_fits (is_length (first_word old)) (length old) (length mid) (first_word old)
          first (length piece) fits size is2))
    ]

-- the bytes of both steps
pub filled_whole : (old piece mid new : List ℕ) (first second : ℕ) → IsTrue (is_held old) → first ≡ min (wanted old) (length piece)
    → mid ≡ old ++ take first piece → second ≡ min (wanted mid) (length piece - first) → new ≡ mid ++ take second (drop first piece)
    → HasFilled (front new) (first + second) piece old new
filled_whole old piece mid new first second held is made is2 made2 = record {
  within = omega (arith, is, is2);
  items = made2 ∙ ap (λ (t : List ℕ). t ++ take second (drop first piece)) made ∙ append_assoc old (take first piece) (take second (drop first piece))
      ∙ ap (λ (t : List ℕ). old ++ t) (sym (take_both first second piece));
  found = refl;
  size = elim (first_step old piece mid first held is made) [
    | inl few ↦
        let none : second ≡ 0 = omega (arith, few.1, is2) in
        let size : length new ≡ length mid = ap length made2 ∙ length-append mid (take second (drop first piece))
        ∙ omega (arith, length-take second (drop first piece), none) in
        let short : front new ≡ Short = cond-true (ltb (length new) 4) _ _ (lt-ltb (length new) 4 (omega (arith, size, few.0))) in
        subst (λ f. has_filled f (first + second) (length piece) (length new)) (sym short) (omega (arith, few.1, none))
    | inr fits ↦ filled_second mid new piece first second (omega (arith, is)) fits is2 made2
  ];
}
