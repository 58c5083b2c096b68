-- Of methods in the order of their addresses, those that begin with a text stand between two searches.
use Rattle.std.proofs.Common.{◌≡◌, ℕ, zero, suc, ◌+◌, ◌-◌, ◌<◌, ◌≤◌, Bool, true, false, cond, ◌||◌, nat_eq, nat_lt, List, [], ◌∷◌, ◌++◌, length, filter, take}
use Rattle.std.proofs.Common.{drop, get_or, All, refl, sym, ap, subst, ◌∙◌, arith}
use Rattle.std.specs.List.{list_any, slice_split, onto_first, starts_with}
use Rattle.std.proofs.lemmas.Bool.Decides.{nat_tests}
use Rattle.std.proofs.lemmas.Bool.{or_parts}
use Rattle.std.proofs.lemmas.List.{take-map, drop-map}
use Rattle.std.proofs.lemmas.List.Elements.{All-cons, All-head, All-tail, All-nil}
use Rattle.osc_pattern.specs.Items.{is_slash}
use Rattle.osc_pattern.specs.Addresses.{IsAddress, is_bad_byte}
use Rattle.osc_pattern.specs.Methods.{Method, IsMethodList}
use Rattle.osc_pattern.proofs.Parts.{split-cons}
use Rattle.osc_tree.specs.declared.registered.Registered.{Registered}
use Rattle.osc_tree.specs.Order.{begins_with, is_before, IsOrder, IsSearched}
use Rattle.osc_tree.specs.Views.{methods_of, method_at, methods_at}
use Rattle.osc_tree.proofs.Leaving.{sorted_at}
use Rattle.osc_tree.proofs.Ranges.{lower, lower_more, begun_not_before}

-- a text is before another and a byte above all of its own, if it is before the other or begins with it
pub before_end : (address text : List ℕ) (most : ℕ) → All (λ byte. byte < most) address
    → lower address (text ++ most ∷ []) ≡ (lower address text || starts_with nat_eq address text)
before_end [] [] most all = refl
before_end [] (y ∷ text) most all = refl
before_end (x ∷ address) [] most all =
    let first = All-head (λ byte. byte < most) x address all in
    let is = lower_more x most address [] in
    grind (arith, nat_tests)
before_end (x ∷ address) (y ∷ text) most all =
    let more = before_end address text most (All-tail (λ byte. byte < most) x address all) in
    let is = lower_more x y address (text ++ most ∷ []) in
    let own = lower_more x y address text in
    grind (arith, nat_tests)

good_byte : (byte : ℕ) → is_bad_byte byte ≡ false → byte < 127
good_byte byte e = grind (arith, nat_tests)

-- no byte of names or between them is above those that names may have
names_low : (rest : List ℕ) → All (λ name. list_any is_bad_byte name ≡ false) (slice_split is_slash rest) → All (λ byte. byte < 127) rest
names_low [] all = All-nil (λ byte. byte < 127)
names_low (byte ∷ rest) all = go (is_slash byte) refl (split-cons rest) all (names_low rest) where
  fine : List ℕ → Type 0
  fine name = list_any is_bad_byte name ≡ false

  go : (t : Bool) → is_slash byte ≡ t → (name : List ℕ) × (names : List (List ℕ)) × (slice_split is_slash rest ≡ name ∷ names)
      → All fine (cond t ([] ∷ slice_split is_slash rest) (onto_first byte (slice_split is_slash rest)))
      → (All fine (slice_split is_slash rest) → All (λ byte. byte < 127) rest) → All (λ byte. byte < 127) (byte ∷ rest)
  go true slash found all more =
      All-cons (λ byte. byte < 127) byte rest (let h : is_slash byte ≡ true = slash in grind (arith, nat_tests))
      (more (All-tail fine [] (slice_split is_slash rest) all))
  go false slash (name, names, e) all more =
      let those : All fine ((byte ∷ name) ∷ names) = subst (λ l. All fine (onto_first byte l)) e all in
      let first = or_parts (is_bad_byte byte) (list_any is_bad_byte name) (All-head fine (byte ∷ name) names those) in
      All-cons (λ byte. byte < 127) byte rest (good_byte byte first.0)
      (more (subst (All fine) (sym e) (All-cons fine name names first.1 (All-tail fine (byte ∷ name) names those))))

pub address_low : (address : List ℕ) → IsAddress address → All (λ byte. byte < 127) address
address_low [] spelled = All-nil (λ byte. byte < 127)
address_low (byte ∷ rest) spelled =
    All-cons (λ byte. byte < 127) byte rest (let h : is_slash byte ≡ true = spelled.slash in grind (arith, nat_tests))
    (names_low rest spelled.spelled)

-- what passes a test stands from one place on, so many
filter_range : {X : Type 0} (test : X → Bool) (xs : List X) (low count : ℕ) → low + count ≤ length xs
    → ((k : ℕ) (d : X) → k < low → test (get_or xs k d) ≡ false)
    → ((k : ℕ) (d : X) → low ≤ k → k < low + count → test (get_or xs k d) ≡ true)
    → ((k : ℕ) (d : X) → low + count ≤ k → k < length xs → test (get_or xs k d) ≡ false) → filter test xs ≡ take count (drop low xs)
filter_range test [] zero zero fits ahead those behind = refl
filter_range test [] zero (suc count) fits ahead those behind = absurd (omega arith)
filter_range test [] (suc low) count fits ahead those behind = absurd (omega arith)
filter_range test (x ∷ xs) zero zero fits ahead those behind =
    rw (behind 0 x (omega arith) (omega arith))
    (filter_range test xs 0 0 (omega arith) (λ k d lt. absurd (omega arith)) (λ k d le lt. absurd (omega arith))
    (λ k d le lt. behind (suc k) d (omega arith) (omega arith)))
filter_range test (x ∷ xs) zero (suc count) fits ahead those behind =
    rw (those 0 x (omega arith) (omega arith))
    (ap (λ l. x ∷ l)
    (filter_range test xs 0 count (omega arith) (λ k d lt. absurd (omega arith)) (λ k d le lt. those (suc k) d (omega arith) (omega arith))
    (λ k d le lt. behind (suc k) d (omega arith) (omega arith))))
filter_range test (x ∷ xs) (suc low) count fits ahead those behind =
    rw (ahead 0 x (omega arith))
    (filter_range test xs low count (omega arith) (λ k d lt. ahead (suc k) d (omega arith)) (λ k d le lt. those (suc k) d (omega arith) (omega arith))
    (λ k d le lt. behind (suc k) d (omega arith) (omega arith)))

-- two searches, for a text and for what is after all that begin with it
pub record AreEnds (text : List ℕ) (methods : List Method) (low high : ℕ) : Type 0 where
  pub list : IsMethodList methods
  pub first : IsSearched text methods low low
  pub last : IsSearched (text ++ 127 ∷ []) methods high high

here_is : (text : List ℕ) (methods : List Method) (low high k : ℕ) (d : Method) → AreEnds text methods low high → k < length methods
    → is_before (text ++ 127 ∷ []) (get_or methods k d) ≡ (is_before text (get_or methods k d) || begins_with text (get_or methods k d))
here_is text methods low high k d ends lt =
    before_end (get_or methods k d).address text 127 (address_low (get_or methods k d).address (ends.list.lawful k d lt))

pub ends_in_order : (text : List ℕ) (methods : List Method) (low high : ℕ) → AreEnds text methods low high → low ≤ high
ends_in_order text methods low high ends = go (nat_lt high low) refl where
  none : Method
  none = record { id = 0; address = [] }

  go : (t : Bool) → nat_lt high low ≡ t → low ≤ high
  go false e = let h : nat_lt high low ≡ false = e in grind (arith, nat_tests)
  go true e =
      let less : high < low = (let h : nat_lt high low ≡ true = e in grind (arith, nat_tests)) in
      let bound = ends.first.bound in
      let before = ends.first.before high none less in
      let no' = ends.last.behind high none (omega arith) (omega arith) in
      let is = here_is text methods low high high none ends (omega arith) in
      absurd (clash (is_before text (get_or methods high none)) (begins_with text (get_or methods high none)) before (sym is ∙ no'))
    where
      clash : (a b : Bool) → a ≡ true → (a || b) ≡ false → ⊥
      clash true b e f = absurd (cc)
      clash false b e f = absurd (cc)

pub begun_between : (text : List ℕ) (methods : List Method) (low high : ℕ) → AreEnds text methods low high
    → filter (begins_with text) methods ≡ take (high - low) (drop low methods)
begun_between text methods low high ends =
    filter_range (begins_with text) methods low (high - low) (omega arith) ahead those behind where
      order : low ≤ high
      order = ends_in_order text methods low high ends

      within : high ≤ length methods
      within = ends.last.bound

      ahead : (k : ℕ) (d : Method) → k < low → begins_with text (get_or methods k d) ≡ false
      ahead k d lt = go (begins_with text (get_or methods k d)) refl where
        go : (t : Bool) → begins_with text (get_or methods k d) ≡ t → begins_with text (get_or methods k d) ≡ false
        go false e = e
        go true e = absurd (let yes' = ends.first.before k d lt in let no' = begun_not_before text (get_or methods k d).address e in cc)

      second : (a b : Bool) → a ≡ false → (a || b) ≡ true → b ≡ true
      second true b e f = absurd (cc)
      second false b e f = f

      those : (k : ℕ) (d : Method) → low ≤ k → k < low + (high - low) → begins_with text (get_or methods k d) ≡ true
      those k d le lt =
          let order' = order in
          let within' = within in
          second (is_before text (get_or methods k d)) (begins_with text (get_or methods k d)) (ends.first.behind k d le (omega arith))
          (sym (here_is text methods low high k d ends (omega arith)) ∙ ends.last.before k d (omega arith))

      behind : (k : ℕ) (d : Method) → low + (high - low) ≤ k → k < length methods → begins_with text (get_or methods k d) ≡ false
      behind k d le lt =
          let order' = order in
          (or_parts (is_before text (get_or methods k d)) (begins_with text (get_or methods k d))
          (sym (here_is text methods low high k d ends lt) ∙ ends.last.behind k d (omega arith) lt)).1

-- and so do their places
pub places_between : (text : List ℕ) (registered : List Registered) (places : List ℕ) (low high : ℕ) → AreEnds text (methods_at registered places) low high
    → methods_at registered (take (high - low) (drop low places)) ≡ filter (begins_with text) (methods_at registered places)
places_between text registered places low high ends =
    sym (take-map (method_at registered) (high - low) (drop low places))
    ∙ ap (take (high - low)) (sym (drop-map (method_at registered) low places))
    ∙ sym (begun_between text (methods_at registered places) low high ends)

pub ends_of : (text : List ℕ) (registered : List Registered) (places : List ℕ) (low high : ℕ) → IsMethodList (methods_of registered)
    → IsOrder registered places → IsSearched text (methods_at registered places) low low
    → IsSearched (text ++ 127 ∷ []) (methods_at registered places) high high → AreEnds text (methods_at registered places) low high
ends_of text registered places low high list order first last =
    record { list = (sorted_at registered places list order).list; first = first; last = last }
