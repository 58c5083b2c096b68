-- Where a walk goes on: at the first method that isn't before a text, which no later one that matches is.
use Rattle.std.proofs.Common.{◌≡◌, ℕ, zero, suc, ◌+◌, ◌-◌, ◌<◌, ◌≤◌, Bool, true, false, cond, not, ◌==◌, nat_eq, nat_lt, List}
use Rattle.std.proofs.Common.{[], ◌∷◌, ◌++◌, length, take, drop, position, Some, None}
use Rattle.std.proofs.Common.{drop-cons, one-add, Option, Bor, IfSome, get_or, All, refl, sym, ap, subst, ◌∙◌, arith}
use Rattle.std.specs.List.{list_any, slice_split, onto_first, position_or_len, starts_with}
use Rattle.std.proofs.lemmas.List.{append-nil, take-append-drop}
use Rattle.std.proofs.lemmas.Bool.{both_ways, or_parts}
use Rattle.std.proofs.lemmas.Bool.Decides.{nat_tests}
use Rattle.std.proofs.lemmas.List.Splits.{slice_split-cons_no}
use Rattle.osc_pattern.specs.Items.{is_slash}
use Rattle.osc_pattern.specs.Patterns.{is_special}
use Rattle.osc_pattern.specs.Reading.{match_part}
use Rattle.osc_pattern.proofs.Parts.{split-cons}
use Rattle.osc_tree.proofs.Compared.{lower_none}
use Rattle.osc_tree.proofs.Lists.{position-some, none_placed}
use Rattle.osc_tree.proofs.Literals.{own_beginning, empty_part, plain_first, plain_none}
use Rattle.osc_tree.specs.Walking.{is_ahead, IsAim, IsReached}
use Rattle.osc_tree.proofs.Ranges.{lower, lower_order, lower_more, begun_not_before}

-- the names after a byte
cut_letter : (x : ℕ) (xs : List ℕ) (left : ℕ) → is_slash x ≡ false → 0 < left → drop left (slice_split is_slash (x ∷ xs)) ≡ drop left (slice_split is_slash xs)
cut_letter x xs zero e some = absurd (omega arith)
cut_letter x xs (suc left) e some =
    let found = split-cons xs in
    ap (drop (suc left)) (slice_split-cons_no is_slash x xs e) ∙ ap (λ l. drop (suc left) (onto_first x l)) found.2 ∙ sym (ap (drop (suc left)) found.2)

cut_slash : (x : ℕ) (xs : List ℕ) (left : ℕ) → is_slash x ≡ true → 0 < left
    → drop left (slice_split is_slash (x ∷ xs)) ≡ drop (left - 1) (slice_split is_slash xs)
cut_slash x xs zero e some = absurd (omega arith)
cut_slash x xs (suc left) e some = let back : suc left - 1 ≡ left = omega arith in rw (e, back) refl

pub names_letter : (names : List ℕ) (at left : ℕ) → at < length names → 0 < left → (get_or names at 0 ≡ 47 → ⊥)
    → drop left (slice_split is_slash (drop at names)) ≡ drop left (slice_split is_slash (drop (suc at) names))
names_letter names at left within some other =
    let letter : is_slash (get_or names at 0) ≡ false = grind (arith, nat_tests) in
    ap (λ l. drop left (slice_split is_slash l)) (drop-cons names at 0 within) ∙ cut_letter (get_or names at 0) (drop (suc at) names) left letter some

pub names_slash : (names : List ℕ) (at left : ℕ) → at < length names → 0 < left → get_or names at 0 ≡ 47
    → drop left (slice_split is_slash (drop at names)) ≡ drop (left - 1) (slice_split is_slash (drop (suc at) names))
names_slash names at left within some is =
    let slash : is_slash (get_or names at 0) ≡ true = grind (arith, nat_tests) in
    ap (λ l. drop left (slice_split is_slash l)) (drop-cons names at 0 within) ∙ cut_slash (get_or names at 0) (drop (suc at) names) left slash some

-- what a text is before with one byte after it
pub other_end : (rest text : List ℕ) (end : ℕ) → lower rest text ≡ false → starts_with nat_eq rest text ≡ false → lower rest (text ++ end ∷ []) ≡ false
other_end [] [] end e f = absurd (cc)
other_end [] (y ∷ text) end e f = absurd (cc)
other_end (x ∷ rest) [] end e f = absurd (cc)
other_end (x ∷ rest) (y ∷ text) end e f =
    let more = other_end rest text end in
    let is = lower_more x y rest text in
    let longer = lower_more x y rest (text ++ end ∷ []) in
    grind (arith, nat_tests)

pub short_end : (rest text : List ℕ) (end : ℕ) → starts_with nat_eq rest text ≡ true → length rest ≤ length text → lower rest (text ++ end ∷ []) ≡ true
short_end [] [] end e le = refl
short_end [] (y ∷ text) end e le = refl
short_end (x ∷ rest) [] end e le = absurd (omega arith)
short_end (x ∷ rest) (y ∷ text) end e le =
    let more = short_end rest text end in
    let few : length rest ≤ length text = omega arith in
    let longer = lower_more x y rest (text ++ end ∷ []) in
    grind (arith, nat_tests)

pub long_end : (rest text : List ℕ) (end d : ℕ) → starts_with nat_eq rest text ≡ true → length text < length rest
    → nat_lt (get_or rest (length text) d) end ≡ lower rest (text ++ end ∷ [])
long_end [] text end d e lt = absurd (omega arith)
long_end (x ∷ rest) [] end d e lt =
    let longer = lower_more x end rest [] in
    let none = lower_none rest in
    grind (arith, nat_tests)
long_end (x ∷ rest) (y ∷ text) end d e lt =
    let more = long_end rest text end d in
    let few : length text < length rest = omega arith in
    let longer = lower_more x y rest (text ++ end ∷ []) in
    grind (arith, nat_tests)

-- no address is after the byte that is above all of its own
pub low_end : (rest : List ℕ) → All (λ byte. byte < 127) rest → lower rest (127 ∷ []) ≡ true
low_end [] low = refl
low_end (x ∷ rest) low =
    let first : x < 127 = low 0 0 (omega arith) in
    let is = lower_more x 127 rest [] in
    grind (arith, nat_tests)

-- a text that is after another isn't before a third that the other is after
pub none_between : (other rest text aim : List ℕ) → lower rest text ≡ false → lower other rest ≡ false → lower other text ≡ true → lower other aim ≡ false
none_between other rest text aim e f g = absurd (let no = lower_order.chain other rest text f e in cc)

-- texts that begin alike are in the order of what follows
pub lower_prefix : (front a b : List ℕ) → lower (front ++ a) (front ++ b) ≡ lower a b
lower_prefix [] a b = refl
lower_prefix (x ∷ front) a b =
    let more = lower_prefix front a b in
    let is = lower_more x x (front ++ a) (front ++ b) in
    let less : nat_lt x x ≡ false = grind (arith, nat_tests) in
    let same : (x == x) ≡ true = grind (arith, nat_tests) in
    grind (arith, nat_tests)

none_before : (test : ℕ → Bool) (xs : List ℕ) → list_any test (take (position_or_len test xs) xs) ≡ false
none_before test [] = refl
none_before test (x ∷ xs) = go (test x) refl (none_before test xs) where
  go : (t : Bool) → test x ≡ t → list_any test (take (position_or_len test xs) xs) ≡ false
      → list_any test (take (cond (not t) (1 + position_or_len test xs) 0) (x ∷ xs)) ≡ false
  go true e more = refl
  go false e more = rw (one-add, e) more

fewer_none : (test : ℕ → Bool) (n : ℕ) (xs : List ℕ) → list_any test xs ≡ false → list_any test (take n xs) ≡ false
fewer_none test zero xs e = refl
fewer_none test (suc n) [] e = refl
fewer_none test (suc n) (x ∷ xs) e =
    let both = or_parts (test x) (list_any test xs) e in
    rw both.0 (fewer_none test n xs both.1)

pub plain_front : (part : List ℕ) (end : ℕ) → position is_special part ≡ Some end → list_any is_special (take end part) ≡ false
plain_front part end found =
    ap (λ (n : ℕ). list_any is_special (take n part)) (position-some is_special part end found).0 ∙ none_before is_special part

pub none_taken : (part : List ℕ) (end : ℕ) → list_any is_slash part ≡ false → list_any is_slash (take end part) ≡ false
none_taken part end e = fewer_none is_slash end part e

pub one_piece : (text : List ℕ) → list_any is_slash text ≡ false → slice_split is_slash text ≡ text ∷ []
one_piece [] e = refl
one_piece (x ∷ text) e =
    let both = or_parts (is_slash x) (list_any is_slash text) e in
    slice_split-cons_no is_slash x text both.0 ∙ ap (onto_first x) (one_piece text both.1)

-- a name of an address begins as the part that matches it
pub record Begun (front more other : List ℕ) (names : List (List ℕ)) : Type 0 where
  pub tail : List ℕ
  pub last : List ℕ
  pub is : other ≡ front ++ tail
  pub cut : slice_split is_slash tail ≡ last ∷ names
  pub matched : match_part more last ≡ true

pub part_front : (front more other name : List ℕ) (names : List (List ℕ)) → list_any is_special front ≡ false → list_any is_slash front ≡ false
    → slice_split is_slash other ≡ name ∷ names → match_part (front ++ more) name ≡ true → Begun front more other names
part_front [] more other name names special slash cut e = record { tail = other; last = name; is = refl; cut = cut; matched = e }
part_front (b ∷ front) more [] name names special slash cut e =
    let one = or_parts (is_special b) (list_any is_special front) special in
    let two = or_parts (is_slash b) (list_any is_slash front) slash in
    let none : [] ≡ name = ap (λ l. get_or l 0 []) cut in
    absurd (both_ways (match_part (b ∷ (front ++ more)) name)
    (subst (λ l. match_part (b ∷ (front ++ more)) l ≡ false) none (plain_none b (front ++ more) one.0 two.0)) e)
part_front (b ∷ front) more (x ∷ other) name names special slash cut e = go (is_slash x) refl (split-cons other) cut (part_front front more other) where
  go : (t : Bool) → is_slash x ≡ t → (n : List ℕ) × (ns : List (List ℕ)) × (slice_split is_slash other ≡ n ∷ ns)
      → cond t ([] ∷ slice_split is_slash other) (onto_first x (slice_split is_slash other)) ≡ name ∷ names
      → ((name : List ℕ) (names : List (List ℕ)) → list_any is_special front ≡ false → list_any is_slash front ≡ false
      → slice_split is_slash other ≡ name ∷ names → match_part (front ++ more) name ≡ true → Begun front more other names)
      → Begun (b ∷ front) more (x ∷ other) names
  go true is found cut further =
      let one = or_parts (is_special b) (list_any is_special front) special in
      let two = or_parts (is_slash b) (list_any is_slash front) slash in
      let none : [] ≡ name = ap (λ l. get_or l 0 []) cut in
      absurd (both_ways (match_part (b ∷ (front ++ more)) name)
      (subst (λ l. match_part (b ∷ (front ++ more)) l ≡ false) none (plain_none b (front ++ more) one.0 two.0)) e)
  go false is (n, ns, f) cut further =
      let one = or_parts (is_special b) (list_any is_special front) special in
      let two = or_parts (is_slash b) (list_any is_slash front) slash in
      let whole : (x ∷ n) ∷ ns ≡ name ∷ names = sym (ap (onto_first x) f) ∙ cut in
      let first : x ∷ n ≡ name = ap (λ l. get_or l 0 []) whole in
      let behind : ns ≡ names = ap (drop 1) whole in
      let both = plain_first b x (front ++ more) n one.0 two.0 (ap (match_part (b ∷ (front ++ more))) first ∙ e) in
      let so = further n ns one.1 two.1 f both.1 in
      record {
        tail = so.tail;
        last = so.last;
        is = ap (λ l. x ∷ l) so.is ∙ ap (λ c. c ∷ (front ++ so.tail)) both.0;
        cut = so.cut ∙ ap (λ l. so.last ∷ l) behind;
        matched = so.matched;
      }

-- the names that a part matches are between two texts
pub record IsBetween (other low high : List ℕ) : Type 0 where
  pub first : lower other low ≡ false
  pub last : lower other high ≡ true

pub front_between : (front tail other : List ℕ) (end : ℕ) → other ≡ front ++ tail → lower tail (end ∷ []) ≡ true → IsBetween other front (front ++ end ∷ [])
front_between front tail other end is less = record {
  first = ap (λ l. lower l front) is ∙ begun_not_before front (front ++ tail) (own_beginning front tail);
  last = ap (λ l. lower l (front ++ end ∷ [])) is ∙ lower_prefix front tail (end ∷ []) ∙ less;
}

pub low_behind : (front tail other : List ℕ) → other ≡ front ++ tail → All (λ byte. byte < 127) other → All (λ byte. byte < 127) tail
low_behind [] tail other is low = subst (All (λ byte. byte < 127)) is low
low_behind (x ∷ front) tail [] is low = absurd (omega (arith, ap length is))
low_behind (x ∷ front) tail (y ∷ other) is low = low_behind front tail other (ap (drop 1) is) (λ i e less. low (suc i) e (omega arith))

pub special_between : (part : List ℕ) (end : ℕ) (other name : List ℕ) (names : List (List ℕ)) → position is_special part ≡ Some end
    → list_any is_slash part ≡ false → All (λ byte. byte < 127) other → slice_split is_slash other ≡ name ∷ names → match_part part name ≡ true
    → IsBetween other (take end part) (take end part ++ 127 ∷ [])
special_between part end other name names found slash low cut e =
    let front = take end part in
    let plain = plain_front part end found in
    let so = part_front front (drop end part) other name names plain (none_taken part end slash) cut
    (ap (λ l. match_part l name) (take-append-drop end part) ∙ e) in
    front_between front so.tail other 127 so.is (low_end so.tail (low_behind front so.tail other so.is low))

pub plain_between : (part other name : List ℕ) (names : List (List ℕ)) → position is_special part ≡ None
    → list_any is_slash part ≡ false → slice_split is_slash other ≡ name ∷ names → match_part part name ≡ true
    → IsBetween other part (part ++ 48 ∷ [])
plain_between part other name names found slash cut e =
    let so = part_front part [] other name names (none_placed is_special part found) slash cut (ap (λ l. match_part l name) (append-nil part) ∙ e) in
    front_between part so.tail other 48 so.is (ended so.tail so.last so.cut so.matched)
  where
    ended : (tail last : List ℕ) → slice_split is_slash tail ≡ last ∷ names → match_part [] last ≡ true → lower tail (48 ∷ []) ≡ true
    ended [] last cut e = refl
    ended (x ∷ tail) last cut e = go (is_slash x) refl (split-cons tail) cut where
      go : (t : Bool) → is_slash x ≡ t → (n : List ℕ) × (ns : List (List ℕ)) × (slice_split is_slash tail ≡ n ∷ ns)
          → cond t ([] ∷ slice_split is_slash tail) (onto_first x (slice_split is_slash tail)) ≡ last ∷ names → lower (x ∷ tail) (48 ∷ []) ≡ true
      go true is found cut =
          let less : nat_lt x 48 ≡ true = (let h : is_slash x ≡ true = is in grind (arith, nat_tests)) in
          let longer = lower_more x 48 tail [] in grind (arith, nat_tests)
      go false is (n, ns, f) cut =
          let first : x ∷ n ≡ last = ap (λ l. get_or l 0 []) (sym (ap (onto_first x) f) ∙ cut) in
          absurd (both_ways (match_part [] last) (subst (λ l. match_part [] l ≡ false) first (empty_part x n)) e)

-- what is found is an aim
aims : (part rest low : List ℕ) (end : ℕ) (result : Option (ℕ × Bor (List ℕ)))
    → ((other name : List ℕ) (names : List (List ℕ)) → All (λ byte. byte < 127) other → slice_split is_slash other ≡ name ∷ names
    → match_part part name ≡ true → IsBetween other low (low ++ end ∷ []))
    → IfSome result (λ aim. aim.0 ≡ 0) → IfSome result (λ aim. is_ahead rest aim.1.now ≡ true)
    → IfSome result (λ aim. length (slice_split is_slash aim.1.now) ≡ 1) → IfSome result (λ aim. IsReached rest end low aim.1.now)
    → IfSome result (λ aim. IsAim part rest (take aim.0 rest ++ aim.1.now))
aims part rest low end None between kept ahead one reach = tt
aims part rest low end (Some (size, aim)) between kept ahead one reach =
    subst (λ (n : ℕ). IsAim part rest (take n rest ++ aim.now)) (sym kept) (record {
      ahead = ahead;
      one = one;
      reach = λ other name names small cut e later. let so = between other name names small cut e in reach other so.first so.last later;
    })

pub special_aims : (part rest : List ℕ) (end : ℕ) (result : Option (ℕ × Bor (List ℕ))) → position is_special part ≡ Some end
    → list_any is_slash part ≡ false → IfSome result (λ aim. aim.0 ≡ 0) → IfSome result (λ aim. is_ahead rest aim.1.now ≡ true)
    → IfSome result (λ aim. length (slice_split is_slash aim.1.now) ≡ 1) → IfSome result (λ aim. IsReached rest 127 (take end part) aim.1.now)
    → IfSome result (λ aim. IsAim part rest (take aim.0 rest ++ aim.1.now))
special_aims part rest end result found slash =
    aims part rest (take end part) 127 result (λ other name names low cut e. special_between part end other name names found slash low cut e)

pub plain_aims : (part rest : List ℕ) (result : Option (ℕ × Bor (List ℕ))) → position is_special part ≡ None
    → list_any is_slash part ≡ false → IfSome result (λ aim. aim.0 ≡ 0) → IfSome result (λ aim. is_ahead rest aim.1.now ≡ true)
    → IfSome result (λ aim. length (slice_split is_slash aim.1.now) ≡ 1) → IfSome result (λ aim. IsReached rest 48 part aim.1.now)
    → IfSome result (λ aim. IsAim part rest (take aim.0 rest ++ aim.1.now))
plain_aims part rest result found slash =
    aims part rest part 48 result (λ other name names low cut e. plain_between part other name names found slash cut e)

pub none_kept : (rest : List ℕ) (result : Option (ℕ × Bor (List ℕ))) → IfSome result (λ aim. aim.0 ≡ 0) → IfSome result (λ aim. aim.0 ≤ length rest)
none_kept rest None kept = tt
none_kept rest (Some aim) kept = omega (arith, kept)

pub lower_self : (a : List ℕ) → lower a a ≡ false
lower_self a = go (lower a a) refl where
  go : (t : Bool) → lower a a ≡ t → lower a a ≡ false
  go true is = lower_order.one_way a a is
  go false is = is
