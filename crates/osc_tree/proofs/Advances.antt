-- A walk that goes on at a text passes over none that matches.
use Rattle.std.proofs.Common.{◌≡◌, ℕ, zero, suc, ◌+◌, ◌-◌, ◌<◌, ◌≤◌, Bool, true, false, cond, ◌||◌, nat_eq, nat_lt, nat_le, not, ◌&&◌, ◌==◌, List, []}
use Rattle.std.proofs.Common.{◌∷◌, ◌++◌, length, take, drop, map, filter, position, None, Some, Option}
use Rattle.std.specs.Prelude.{is_none}
use Rattle.std.specs.Option.{is_some}
use Rattle.std.proofs.Common.{Bor, MatchOption, add-zero, append_assoc, one-add, get_or, All, refl, sym, ap, subst, ◌∙◌, arith}
use Rattle.std.specs.List.{list_any, slice_split, onto_first, starts_with, position_or_len}
use Rattle.std.specs.Str.{bytes_eq}
use Rattle.std.proofs.Math.Seq.{take-add, take-append_seam}
use Rattle.std.proofs.lemmas.List.{drop_all, get_or-drop, take-append-drop, append-nil, length-append, length-drop, length-take-le, take_all}
use Rattle.std.proofs.lemmas.List.Elements.{All-cons, All-nil, All-drop, All-head, All-tail}
use Rattle.std.proofs.lemmas.Bool.{both_ways, and_parts, or_parts}
use Rattle.std.proofs.lemmas.Bool.Decides.{nat_tests}
use Rattle.std.proofs.lemmas.Option.{unwrap_or-slice_get}
use Rattle.std.proofs.lemmas.Cmp.{nat_list_eq_equiv}
use Rattle.std.proofs.lemmas.Slice.Eq.{bytes_eq-Decides}
use Rattle.osc_pattern.specs.Addresses.{is_proper_prefix}
use Rattle.osc_pattern.specs.Items.{is_slash}
use Rattle.osc_pattern.specs.Methods.{Method, prefixes_of}
use Rattle.osc_pattern.specs.Patterns.{parts_of, part_at, begins_with_slash, is_special, matches, match_parts}
use Rattle.osc_pattern.specs.Reading.{match_part}
use Rattle.osc_pattern.proofs.Parts.{split-cons}
use Rattle.osc_pattern.proofs.PatternLaws.{parts_of-no_slash}
use Rattle.osc_pattern.proofs.PlainPatterns.{same_bytes}
use Rattle.osc_tree.specs.Order.{IsSearched}
use Rattle.osc_tree.specs.Views.{methods_at}
use Rattle.osc_tree.specs.declared.registered.Registered.{Registered}
use Rattle.osc_tree.specs.Walking.{shared, agreeing, known_at, IsOnward, IsWalked, IsSorted}
use Rattle.osc_tree.proofs.Alike.{part_first, all_agree, agreeing_names, matched_agree, shared_turn, shared_through, taken_shared}
use Rattle.osc_tree.proofs.Alike.{agree_too, prefix_names, prefix_slash, shares_node}
use Rattle.osc_tree.proofs.Beginnings.{address_low}
use Rattle.osc_tree.proofs.Charges.{AreApart, at_slash, at_apart, shared_between, begun_between}
use Rattle.osc_tree.proofs.Lists.{none_placed}
use Rattle.osc_tree.proofs.Onward.{lower_prefix, low_behind, low_end}
use Rattle.osc_tree.proofs.Literals.{own_beginning, empty_part, plain_first, plain_none}
use Rattle.osc_tree.proofs.Places.{any_default}
use Rattle.osc_tree.proofs.Prefixes.{has_prefix_is}
use Rattle.osc_tree.proofs.Ranges.{lower, lower_order, ascend_far, begun_not_before, searched_none, searched_up}
use Rattle.osc_tree.proofs.Walks.{filter_far, known_is, walked_over, not_all_shared}

-- how many bytes names take, each with one after it
abbrev size_of : List (List ℕ) → ℕ
size_of [] = 0
size_of (name ∷ names) = suc (length name + size_of names)

size_split : (xs : List ℕ) → size_of (slice_split is_slash xs) ≡ suc (length xs)
size_split [] = refl
size_split (x ∷ xs) = go (is_slash x) (split-cons xs) (size_split xs) where
  go : (t : Bool) → (n : List ℕ) × (ns : List (List ℕ)) × (slice_split is_slash xs ≡ n ∷ ns) → size_of (slice_split is_slash xs) ≡ suc (length xs)
      → size_of (cond t ([] ∷ slice_split is_slash xs) (onto_first x (slice_split is_slash xs))) ≡ suc (suc (length xs))
  go true found e = omega (arith, e)
  go false (n, ns, f) e = ap (λ l. size_of (onto_first x l)) f ∙ omega (arith, e, ap size_of f)

size_drop : (k : ℕ) (names : List (List ℕ)) → size_of (drop k names) ≤ size_of names
size_drop zero names = omega arith
size_drop (suc k) [] = omega arith
size_drop (suc k) (name ∷ names) = let more = size_drop k names in omega arith

-- names that are cut off with the slash after them stand there whatever follows
pub cut_front : (names : List ℕ) (bytes k : ℕ) → bytes ≤ length names → slice_split is_slash (drop bytes names) ≡ drop k (slice_split is_slash names)
    → (rest : List ℕ) → slice_split is_slash (take bytes names ++ rest) ≡ take k (slice_split is_slash names) ++ slice_split is_slash rest
cut_front names zero zero le e rest = refl
cut_front names zero (suc k) le e rest = go (split-cons names) where
  go : (n : List ℕ) × (ns : List (List ℕ)) × (slice_split is_slash names ≡ n ∷ ns)
      → slice_split is_slash rest ≡ take (suc k) (slice_split is_slash names) ++ slice_split is_slash rest
  go (n, ns, f) =
      let less = size_drop k ns in
      let same : size_of (n ∷ ns) ≡ size_of (drop k ns) = sym (ap size_of f) ∙ ap size_of e ∙ ap (λ l. size_of (drop (suc k) l)) f in
      absurd (omega arith)
cut_front [] (suc bytes) k le e rest = absurd (omega arith)
cut_front (x ∷ names) (suc bytes) zero le e rest =
    absurd (omega (arith, ap size_of e, size_split (drop bytes names), size_split (x ∷ names), length-drop bytes names))
cut_front (x ∷ names) (suc bytes) (suc k) le e rest = go (is_slash x) e (split-cons names) (cut_front names bytes) where
  go : (t : Bool) → slice_split is_slash (drop bytes names)
      ≡ drop (suc k) (cond t ([] ∷ slice_split is_slash names) (onto_first x (slice_split is_slash names)))
      → (n : List ℕ) × (ns : List (List ℕ)) × (slice_split is_slash names ≡ n ∷ ns)
      → ((k : ℕ) → bytes ≤ length names → slice_split is_slash (drop bytes names) ≡ drop k (slice_split is_slash names)
      → (rest : List ℕ) → slice_split is_slash (take bytes names ++ rest) ≡ take k (slice_split is_slash names) ++ slice_split is_slash rest)
      → cond t ([] ∷ slice_split is_slash (take bytes names ++ rest)) (onto_first x (slice_split is_slash (take bytes names ++ rest)))
      ≡ take (suc k) (cond t ([] ∷ slice_split is_slash names) (onto_first x (slice_split is_slash names))) ++ slice_split is_slash rest
  go true e found more = ap (λ l. [] ∷ l) (more k (omega arith) e rest)
  go false e (n, ns, f) more =
      let own : slice_split is_slash (drop bytes names) ≡ drop (suc k) (slice_split is_slash names) =
      e ∙ ap (λ l. drop (suc k) (onto_first x l)) f ∙ sym (ap (drop (suc k)) f) in
      ap (onto_first x) (more (suc k) (omega arith) own rest ∙ ap (λ l. take (suc k) l ++ slice_split is_slash rest) f)
      ∙ sym (ap (λ l. take (suc k) (onto_first x l) ++ slice_split is_slash rest) f)

-- the part at a place matches the name there
match_at : (parts front : List (List ℕ)) (name : List ℕ) (more : List (List ℕ)) → match_parts parts (front ++ name ∷ more) ≡ true
    → match_part (get_or parts (length front) []) name ≡ true
match_at [] [] name more e = absurd (cc)
match_at [] (other ∷ front) name more e = absurd (cc)
match_at (part ∷ parts) [] name more e = (and_parts (match_part part name) (match_parts parts more) e).0
match_at (part ∷ parts) (other ∷ front) name more e =
    match_at parts front name more (and_parts (match_part part other) (match_parts parts (front ++ name ∷ more)) e).1

-- a text that begins with another is that and more
pub begun_rest : (text front : List ℕ) → starts_with nat_eq text front ≡ true → (rest : List ℕ) × (text ≡ front ++ rest)
begun_rest text [] e = (text, refl)
begun_rest [] (y ∷ front) e = absurd (cc)
begun_rest (x ∷ text) (y ∷ front) e =
    let both = and_parts (nat_eq y x) (starts_with nat_eq text front) e in
    let same : x ≡ y = (let h : nat_eq y x ≡ true = both.0 in grind (arith, nat_tests)) in
    let found = begun_rest text front both.1 in
    (found.0, ap (λ l. x ∷ l) found.1 ∙ ap (λ b. b ∷ (front ++ found.0)) same)

starts_shorter : (text front more : List ℕ) → starts_with nat_eq text (front ++ more) ≡ true → starts_with nat_eq text front ≡ true
starts_shorter text [] more e = own_beginning [] text
starts_shorter [] (y ∷ front) more e = absurd (cc)
starts_shorter (x ∷ text) (y ∷ front) more e =
    let both = and_parts (nat_eq y x) (starts_with nat_eq text (front ++ more)) e in
    rw both.0 (starts_shorter text front more both.1)

-- an address that has all names of a text begins with it
all_begun : (one other : List ℕ) → begins_with_slash one ≡ true → begins_with_slash other ≡ true
    → length (parts_of other) ≤ shared (parts_of one) (parts_of other) → starts_with nat_eq one other ≡ true
all_begun one [] first second le = absurd (cc)
all_begun one (x ∷ rest) first second le = go (split-cons rest) where
  go : (name : List ℕ) × (names : List (List ℕ)) × (slice_split is_slash rest ≡ name ∷ names) → starts_with nat_eq one (x ∷ rest) ≡ true
  go (name, names, e) =
      let other : List ℕ = x ∷ rest in
      let k = length names in
      let long : length (parts_of other) ≡ suc k = ap length e in
      let alike : suc k ≤ shared (parts_of one) (parts_of other) = omega arith in
      let node : List ℕ = get_or (prefixes_of other) k [] in
      let is : node ≡ other =
      same_bytes node other (prefix_slash other k second (omega arith)) second
      (prefix_names other k second (omega arith) ∙ take_all (suc k) (parts_of other) (omega arith)) in
      let has : (bytes_eq node one || is_proper_prefix node one) ≡ true =
      sym (has_prefix_is node one (prefix_slash other k second (omega arith)) first) ∙ shares_node one other k first second alike in
      split (bytes_eq other one) refl (is_proper_prefix other one) refl (ap (λ l. bytes_eq l one || is_proper_prefix l one) (sym is) ∙ has)
    where
      split : (a : Bool) → bytes_eq (x ∷ rest) one ≡ a → (b : Bool) → is_proper_prefix (x ∷ rest) one ≡ b → (a || b) ≡ true
          → starts_with nat_eq one (x ∷ rest) ≡ true
      split true a b c f =
          let same = (bytes_eq-Decides (x ∷ rest) one).0 a in
          subst (λ l. starts_with nat_eq l (x ∷ rest) ≡ true) (append-nil (x ∷ rest) ∙ same) (own_beginning (x ∷ rest) [])
      split false a true c f = starts_shorter one (x ∷ rest) (47 ∷ []) c
      split false a false c f = absurd (cc)

-- the text that a walk goes on at
abbrev pub aimed : ℕ → List ℕ → List ℕ → List ℕ
aimed bytes names tail = (47 ∷ take bytes names) ++ tail

-- what is tried stands before the text
pub on_ahead : (pattern names tail : List ℕ) (matching bytes : ℕ) → IsOnward pattern names matching bytes tail
    → lower (47 ∷ names) (aimed bytes names tail) ≡ true
on_ahead pattern names tail matching bytes on =
    ap (λ l. lower l (aimed bytes names tail)) (ap (λ l. 47 ∷ l) (sym (take-append-drop bytes names)))
    ∙ lower_prefix (47 ∷ take bytes names) (drop bytes names) tail ∙ on.aim.ahead

-- what is passed over from a method on: names of it that match, and a text after them without a slash
pub record IsPassing (pattern names tail : List ℕ) (matching bytes : ℕ) : Type 0 where
  pub bound : bytes ≤ length names
  pub cut : slice_split is_slash (drop bytes names) ≡ drop matching (slice_split is_slash names)
  pub some : matching ≤ agreeing (parts_of pattern) (slice_split is_slash names)
  pub one : length (slice_split is_slash tail) ≡ 1

-- the methods before the text that stand after the first begin with its names
passed_node : (pattern names tail : List ℕ) (matching bytes : ℕ) → IsPassing pattern names tail matching bytes → (rest : List ℕ)
    → parts_of ((47 ∷ take bytes names) ++ rest) ≡ take matching (slice_split is_slash names) ++ slice_split is_slash rest
passed_node pattern names tail matching bytes passing rest = cut_front names bytes matching passing.bound passing.cut rest

pub passed_long : (pattern names tail : List ℕ) (matching bytes : ℕ) → IsPassing pattern names tail matching bytes
    → length (take matching (slice_split is_slash names)) ≡ matching
passed_long pattern names tail matching bytes passing =
    let some = passing.some in
    length-take-le matching (slice_split is_slash names) (omega (arith, agreeing_names (parts_of pattern) (slice_split is_slash names)))

pub record Node (names x : List ℕ) (matching bytes : ℕ) : Type 0 where
  pub rest : List ℕ
  pub is : x ≡ (47 ∷ take bytes names) ++ rest
  pub parts : parts_of x ≡ take matching (slice_split is_slash names) ++ slice_split is_slash rest
  pub behind : lower rest (drop bytes names) ≡ false

pub passed_begins : (pattern : List ℕ) (methods : List Method) (at end matching bytes : ℕ) (names tail : List ℕ) (d : Method) → IsSorted methods
    → at < length methods → (get_or methods at d).address ≡ 47 ∷ names → IsPassing pattern names tail matching bytes
    → IsSearched (aimed bytes names tail) methods end end → (k : ℕ) → at < k → k < end → Node names (get_or methods k d).address matching bytes
passed_begins pattern methods at end matching bytes names tail d sorted within own passing searched k less lt =
    let bound = searched.bound in
    let front : List ℕ = 47 ∷ take bytes names in
    let text = aimed bytes names tail in
    let here : (get_or methods at d).address ≡ front ++ drop bytes names = own ∙ ap (λ l. 47 ∷ l) (sym (take-append-drop bytes names)) in
    let x = (get_or methods k d).address in
    let up : lower x (get_or methods at d).address ≡ false = ascend_far methods at k d sorted.ascending (omega arith) (omega arith) in
    let begins = begun_between front (get_or methods at d).address x text up (lower_order.one_way x text (searched.before k d lt))
    (ap (λ l. starts_with nat_eq l front) here ∙ own_beginning front (drop bytes names)) (own_beginning front tail) in
    let found = begun_rest x front begins in
    record {
      rest = found.0;
      is = found.1;
      parts = ap parts_of found.1 ∙ passed_node pattern names tail matching bytes passing found.0;
      behind = sym (lower_prefix front found.0 (drop bytes names)) ∙ ap (λ l. lower l (front ++ drop bytes names)) (sym found.1) ∙ ap (lower x) (sym here) ∙ up;
    }

-- what the next has in common with the one before it is known to match
pub known_passed : (pattern : List ℕ) (methods : List Method) (at end matching bytes : ℕ) (names tail : List ℕ) (d : Method) → IsSorted methods
    → at < length methods → (get_or methods at d).address ≡ 47 ∷ names → IsPassing pattern names tail matching bytes → suc at ≤ end
    → IsSearched (aimed bytes names tail) methods end end → (other : Method) → end < length methods
    → known_at methods end other ≤ agreeing (parts_of pattern) (parts_of (get_or methods end other).address)
known_passed pattern methods at end matching bytes names tail d sorted within own passing later searched = next where
  text : List ℕ
  text = aimed bytes names tail

  few : matching ≤ length (slice_split is_slash names)
  few = let some = passing.some in omega (arith, agreeing_names (parts_of pattern) (slice_split is_slash names))

  long : length (take matching (slice_split is_slash names)) ≡ matching
  long = passed_long pattern names tail matching bytes passing

  names_of_text : parts_of text ≡ take matching (slice_split is_slash names) ++ slice_split is_slash tail
  names_of_text = passed_node pattern names tail matching bytes passing tail

  text_long : length (parts_of text) ≡ suc matching
  text_long =
      omega (arith, ap length names_of_text, length-append (take matching (slice_split is_slash names)) (slice_split is_slash tail), long, passing.one)

  -- what the two beside the text have in common
  alike : end < length methods → shared (parts_of (get_or methods (end - 1) d).address) (parts_of (get_or methods end d).address)
      ≤ agreeing (parts_of pattern) (parts_of (get_or methods end d).address)
  alike lt =
      let a = (get_or methods (end - 1) d).address in
      let b = (get_or methods end d).address in
      let m = (get_or methods at d).address in
      let s = shared (parts_of a) (parts_of b) in
      let before : lower a text ≡ true = searched.before (end - 1) d (omega arith) in
      let behind : lower b text ≡ false = searched.behind end d (omega arith) lt in
      let slash_a = at_slash methods (end - 1) d sorted (omega arith) in
      let slash_b = at_slash methods end d sorted lt in
      let both : s ≤ shared (parts_of text) (parts_of b) =
      shared_between a text b s slash_a refl slash_b (lower_order.one_way a text before) behind
      (at_apart methods (end - 1) end d sorted (omega arith) lt) (omega arith) in
      let few' : s ≤ matching = fewer (nat_lt matching s) refl a b slash_a before both in
      let own_names : parts_of m ≡ slice_split is_slash names = ap parts_of own in
      let fits = few in
      let whole = long in
      let size = text_long in
      let taken : take matching (parts_of m) ≡ take matching (parts_of text) =
      ap (take matching) own_names
      ∙ sym (ap (take matching) names_of_text
      ∙ ap (λ (n : ℕ). take n (take matching (slice_split is_slash names) ++ slice_split is_slash tail)) (sym long)
      ∙ take-append_seam (take matching (slice_split is_slash names)) (slice_split is_slash tail)) in
      let with_m : matching ≤ shared (parts_of m) (parts_of text) =
      taken_shared (parts_of m) (parts_of text) matching (omega (arith, ap length own_names)) (omega arith) taken in
      let turned = shared_turn (parts_of m) (parts_of text) in
      let through : s ≤ shared (parts_of m) (parts_of b) =
      shared_through (parts_of text) (parts_of m) (parts_of b) s (omega arith) (omega arith) in
      let some = passing.some in
      let agrees : agreeing (parts_of pattern) (parts_of m) ≡ agreeing (parts_of pattern) (slice_split is_slash names) =
      ap (agreeing (parts_of pattern)) own_names in
      agree_too (parts_of pattern) (parts_of m) (parts_of b) s through (omega arith)
    where
      fewer : (t : Bool) → nat_lt matching (shared (parts_of (get_or methods (end - 1) d).address) (parts_of (get_or methods end d).address)) ≡ t
          → (a b : List ℕ) → begins_with_slash a ≡ true → lower a text ≡ true
          → shared (parts_of a) (parts_of b) ≤ shared (parts_of text) (parts_of b) → shared (parts_of a) (parts_of b) ≤ matching
      fewer t e a b slash before both = go (nat_lt matching (shared (parts_of a) (parts_of b))) refl where
        go : (t : Bool) → nat_lt matching (shared (parts_of a) (parts_of b)) ≡ t → shared (parts_of a) (parts_of b) ≤ matching
        go false f = (let h : nat_lt matching (shared (parts_of a) (parts_of b)) ≡ false = f in grind (arith, nat_tests))
        go true f =
            let more : matching < shared (parts_of a) (parts_of b) =
            (let h : nat_lt matching (shared (parts_of a) (parts_of b)) ≡ true = f in grind (arith, nat_tests)) in
            let one = shared_turn (parts_of a) (parts_of b) in
            let two = shared_turn (parts_of text) (parts_of b) in
            let all : suc matching ≤ shared (parts_of a) (parts_of text) =
            shared_through (parts_of b) (parts_of a) (parts_of text) (suc matching) (omega arith) (omega arith) in
            let size = text_long in
            let begins = all_begun a text slash refl (omega arith) in
            absurd (both_ways (lower a text) (begun_not_before text a begins) before)

  next : (other : Method) → end < length methods
      → known_at methods end other ≤ agreeing (parts_of pattern) (parts_of (get_or methods end other).address)
  next other lt =
      let one = any_default methods (end - 1) other d (omega arith) in
      let two = any_default methods end other d lt in
      let known = known_is methods end other (omega arith) in
      let most = alike lt in
      let moved : shared (parts_of (get_or methods (end - 1) other).address) (parts_of (get_or methods end other).address)
      ≤ agreeing (parts_of pattern) (parts_of (get_or methods end other).address) = rw (one, two) most in
      omega arith

passing_on : (pattern names tail : List ℕ) (matching bytes : ℕ) → matching ≡ agreeing (parts_of pattern) (slice_split is_slash names)
    → IsOnward pattern names matching bytes tail → IsPassing pattern names tail matching bytes
passing_on pattern names tail matching bytes is on =
    record { bound = on.bound; cut = on.cut; some = omega (arith, is); one = on.aim.one }

pub walked_on : (pattern : List ℕ) (methods : List Method) (at end matching bytes : ℕ) (ids names tail : List ℕ) (d : Method) → IsSorted methods
    → at < length methods → IsWalked pattern methods at ids → (get_or methods at d).address ≡ 47 ∷ names
    → matching ≡ agreeing (parts_of pattern) (slice_split is_slash names) → IsOnward pattern names matching bytes tail → suc at ≤ end
    → IsSearched (aimed bytes names tail) methods end end → IsWalked pattern methods end ids
walked_on pattern methods at end matching bytes ids names tail d sorted within so own is on later searched =
    let bound = searched.bound in
    record {
      bound = bound;
      found = so.found
          ∙ ap (map (λ (method : Method). method.id))
          (sym (filter_far (λ method. matches pattern method.address) methods at (end - at) d (omega arith) (λ k le lt. none k le (omega arith))))
          ∙ ap (λ (n : ℕ). map (λ (method : Method). method.id) (filter (λ method. matches pattern method.address) (take n methods)))
          (let same : at + (end - at) ≡ end = omega arith in same);
      known = known_passed pattern methods at end matching bytes names tail d sorted within own passing later searched;
    }
  where
    passing : IsPassing pattern names tail matching bytes
    passing = passing_on pattern names tail matching bytes is on

    front : List ℕ
    front = 47 ∷ take bytes names

    text : List ℕ
    text = aimed bytes names tail

    long : length (take matching (slice_split is_slash names)) ≡ matching
    long = passed_long pattern names tail matching bytes passing

    unmatched : (k : ℕ) → at < k → k < end → matches pattern (get_or methods k d).address ≡ true → ⊥
    unmatched k less lt e =
        let bound = searched.bound in
        let x = (get_or methods k d).address in
        let before : lower x text ≡ true = searched.before k d lt in
        let here = passed_begins pattern methods at end matching bytes names tail d sorted within own passing searched k less lt in
        let rest = here.rest in
        let cut = split-cons rest in
        let parts : parts_of x ≡ take matching (slice_split is_slash names) ++ cut.0 ∷ cut.1 =
        here.parts ∙ ap (λ l. take matching (slice_split is_slash names) ++ l) cut.2 in
        let this : match_part (part_at pattern matching) cut.0 ≡ true =
        ap (λ l. match_part l cut.0) (unwrap_or-slice_get (parts_of pattern) matching []
        ∙ ap (λ (n : ℕ). get_or (parts_of pattern) n []) (sym long))
        ∙ match_at (parts_of pattern) (take matching (slice_split is_slash names)) cut.0 cut.1 (ap (match_parts (parts_of pattern)) (sym parts) ∙ e) in
        let low = low_behind front rest x here.is (address_low x (sorted.list.lawful k d (omega arith))) in
        let past : lower x text ≡ false =
        ap (λ l. lower l text) here.is ∙ lower_prefix front rest tail ∙ on.aim.reach rest cut.0 cut.1 low cut.2 this here.behind in
        both_ways (lower x text) past before

    first_not : matches pattern (get_or methods at d).address ≡ true → ⊥
    first_not e =
        let all = matched_agree (parts_of pattern) (parts_of (get_or methods at d).address) e in
        let same : agreeing (parts_of pattern) (parts_of (get_or methods at d).address) ≡ matching =
        ap (λ l. agreeing (parts_of pattern) (parts_of l)) own ∙ sym is in
        let part = on.part in omega arith

    none : (k : ℕ) → at ≤ k → k < end → matches pattern (get_or methods k d).address ≡ false
    none k le lt = go (matches pattern (get_or methods k d).address) refl (nat_eq at k) refl where
      go : (t : Bool) → matches pattern (get_or methods k d).address ≡ t → (s : Bool) → nat_eq at k ≡ s → matches pattern (get_or methods k d).address ≡ false
      go false e s f = e
      go true e true f =
          let same : at ≡ k = (let h : nat_eq at k ≡ true = f in grind (arith, nat_tests)) in
          absurd (first_not (ap (λ (n : ℕ). matches pattern (get_or methods n d).address) same ∙ e))
      go true e false f =
          let less : at < k = (let h : nat_eq at k ≡ false = f in grind (arith, nat_tests)) in
          absurd (unmatched k less lt e)

-- a name that a plain part matches is the part
plain_name : (part name : List ℕ) → list_any is_special part ≡ false → list_any is_slash part ≡ false → match_part part name ≡ true → name ≡ part
plain_name [] [] special slash e = refl
plain_name [] (x ∷ name) special slash e = absurd (both_ways (match_part [] (x ∷ name)) (empty_part x name) e)
plain_name (b ∷ part) [] special slash e =
    let one = or_parts (is_special b) (list_any is_special part) special in
    let two = or_parts (is_slash b) (list_any is_slash part) slash in
    absurd (both_ways (match_part (b ∷ part) []) (plain_none b part one.0 two.0) e)
plain_name (b ∷ part) (x ∷ name) special slash e =
    let one = or_parts (is_special b) (list_any is_special part) special in
    let two = or_parts (is_slash b) (list_any is_slash part) slash in
    let both = plain_first b x part name one.0 two.0 e in
    ap (λ c. c ∷ name) both.0 ∙ ap (λ l. b ∷ l) (plain_name part name one.1 two.1 both.1)

-- after so many parts all names that match are the parts
abbrev pub ArePlain : List (List ℕ) → Type 0
ArePlain parts = All (λ part. list_any is_special part ≡ false) parts

pub plain_rest : (wild : ℕ) (parts names : List (List ℕ)) → ArePlain (drop wild parts) → All (λ part. list_any is_slash part ≡ false) (drop wild parts)
    → match_parts parts names ≡ true → drop wild names ≡ drop wild parts
plain_rest zero [] [] plain slash e = refl
plain_rest zero [] (name ∷ names) plain slash e = absurd (cc)
plain_rest zero (part ∷ parts) [] plain slash e = absurd (cc)
plain_rest zero (part ∷ parts) (name ∷ names) plain slash e =
    let both = and_parts (match_part part name) (match_parts parts names) e in
    let first = plain_name part name (All-head (λ part. list_any is_special part ≡ false) part parts plain)
    (All-head (λ part. list_any is_slash part ≡ false) part parts slash) both.0 in
    ap (λ n. n ∷ names) first
    ∙ ap (λ l. part ∷ l) (plain_rest zero parts names (All-tail (λ part. list_any is_special part ≡ false) part parts plain)
    (All-tail (λ part. list_any is_slash part ≡ false) part parts slash) both.1)
plain_rest (suc wild) [] [] plain slash e = refl
plain_rest (suc wild) [] (name ∷ names) plain slash e = absurd (cc)
plain_rest (suc wild) (part ∷ parts) [] plain slash e = absurd (cc)
plain_rest (suc wild) (part ∷ parts) (name ∷ names) plain slash e =
    plain_rest wild parts names plain slash (and_parts (match_part part name) (match_parts parts names) e).1

-- one method that matches is the only one with its names where the parts after are plain
lone : (pattern a b : List ℕ) (wild : ℕ) → begins_with_slash a ≡ true → begins_with_slash b ≡ true → bytes_eq a b ≡ false
    → ArePlain (drop wild (parts_of pattern)) → take wild (parts_of a) ≡ take wild (parts_of b) → matches pattern a ≡ true → matches pattern b ≡ true → ⊥
lone pattern a b wild one two differ plain alike e f =
    let slash = All-drop (λ part. list_any is_slash part ≡ false) wild (parts_of pattern) (parts_of-no_slash pattern) in
    let first = plain_rest wild (parts_of pattern) (parts_of a) plain slash e in
    let second = plain_rest wild (parts_of pattern) (parts_of b) plain slash f in
    let same : parts_of a ≡ parts_of b =
    sym (take-append-drop wild (parts_of a)) ∙ ap (λ l. l ++ drop wild (parts_of a)) alike
    ∙ ap (λ l. take wild (parts_of b) ++ l) (first ∙ sym second) ∙ take-append-drop wild (parts_of b) in
    both_ways (bytes_eq a b) differ ((bytes_eq-Decides a b).1 (same_bytes a b one two same))

-- after a method that matches, those with its names up to the last part that isn't plain are passed over
pub walked_past : (pattern : List ℕ) (methods : List Method) (at end wild bytes : ℕ) (ids names : List ℕ) (d : Method) → IsSorted methods
    → at < length methods → IsWalked pattern methods (suc at) ids → (get_or methods at d).address ≡ 47 ∷ names
    → matches pattern (get_or methods at d).address ≡ true → ArePlain (drop wild (parts_of pattern)) → IsPassing pattern names (127 ∷ []) wild bytes
    → suc at ≤ end → IsSearched (aimed bytes names (127 ∷ [])) methods end end → IsWalked pattern methods end ids
walked_past pattern methods at end wild bytes ids names d sorted within so own hit plain passing later searched =
    let bound = searched.bound in
    record {
      bound = bound;
      found = so.found
          ∙ ap (map (λ (method : Method). method.id))
          (sym (filter_far (λ method. matches pattern method.address) methods (suc at) (end - suc at) d (omega arith) (λ k le lt. none k le (omega arith))))
          ∙ ap (λ (n : ℕ). map (λ (method : Method). method.id) (filter (λ method. matches pattern method.address) (take n methods)))
          (let same : suc at + (end - suc at) ≡ end = omega arith in same);
      known = known_passed pattern methods at end wild bytes names (127 ∷ []) d sorted within own passing later searched;
    }
  where
    none : (k : ℕ) → suc at ≤ k → k < end → matches pattern (get_or methods k d).address ≡ false
    none k le lt = go (matches pattern (get_or methods k d).address) refl where
      go : (t : Bool) → matches pattern (get_or methods k d).address ≡ t → matches pattern (get_or methods k d).address ≡ false
      go false e = e
      go true e =
          let bound = searched.bound in
          let here = passed_begins pattern methods at end wild bytes names (127 ∷ []) d sorted within own passing searched k (omega arith) lt in
          let long = passed_long pattern names (127 ∷ []) wild bytes passing in
          let alike : take wild (parts_of (get_or methods at d).address) ≡ take wild (parts_of (get_or methods k d).address) =
          ap (λ l. take wild (parts_of l)) own
          ∙ sym (ap (take wild) here.parts
          ∙ ap (λ (n : ℕ). take n (take wild (slice_split is_slash names) ++ slice_split is_slash here.rest)) (sym long)
          ∙ take-append_seam (take wild (slice_split is_slash names)) (slice_split is_slash here.rest)) in
          absurd (lone pattern (get_or methods at d).address (get_or methods k d).address wild (at_slash methods at d sorted within)
          (at_slash methods k d sorted (omega arith)) (at_apart methods at k d sorted (omega arith) (omega arith)).differ plain alike hit e)

pub slash_names : (address names : List ℕ) → begins_with_slash address ≡ true → names ≡ drop 1 address → address ≡ 47 ∷ names
slash_names [] names slash e = absurd (cc)
slash_names (x ∷ address) names slash e =
    let first : x ≡ 47 = (let h : is_slash x ≡ true = slash in grind (arith, nat_tests)) in
    ap (λ b. b ∷ address) first ∙ ap (λ l. 47 ∷ l) (sym e)

-- the text as the code has it
pub text_is : (address names tail : List ℕ) (bytes kept : ℕ) → address ≡ 47 ∷ names
    → take (1 + bytes + kept) address ++ tail ≡ aimed bytes names (take kept (drop bytes names) ++ tail)
text_is address names tail bytes kept e =
    let long : 1 + bytes + kept ≡ suc (bytes + kept) = omega arith in
    ap (λ l. take (1 + bytes + kept) l ++ tail) e ∙ ap (λ (n : ℕ). take n (47 ∷ names) ++ tail) long
    ∙ ap (λ l. 47 ∷ (l ++ tail)) (take-add bytes kept names) ∙ ap (λ l. 47 ∷ l) (append_assoc (take bytes names) (take kept (drop bytes names)) tail)

pub on_searched : (pattern names tail text : List ℕ) (matching bytes at : ℕ) (methods : List Method) (d : Method) → IsSorted methods → at < length methods
    → (get_or methods at d).address ≡ 47 ∷ names → IsOnward pattern names matching bytes tail → text ≡ aimed bytes names tail
    → IsSearched text methods (at + 1) (length methods)
on_searched pattern names tail text matching bytes at methods d sorted within own on is =
    searched_up text methods 0 (length methods) at d sorted.ascending (searched_none text methods) within
    (ap (λ l. lower l text) own ∙ ap (lower (47 ∷ names)) is ∙ on_ahead pattern names tail matching bytes on)

pub on_further : (pattern names tail text : List ℕ) (matching bytes at end : ℕ) (methods : List Method) (d : Method) → at < length methods
    → (get_or methods at d).address ≡ 47 ∷ names → IsOnward pattern names matching bytes tail → text ≡ aimed bytes names tail
    → IsSearched text methods end end → at < end
on_further pattern names tail text matching bytes at end methods d within own on is searched = go (nat_lt at end) refl where
  go : (t : Bool) → nat_lt at end ≡ t → at < end
  go true e = (let h : nat_lt at end ≡ true = e in grind (arith, nat_tests))
  go false e =
      let past : end ≤ at = (let h : nat_lt at end ≡ false = e in grind (arith, nat_tests)) in
      absurd (both_ways (lower (get_or methods at d).address text) (searched.behind at d past within)
      (ap (λ l. lower l text) own ∙ ap (lower (47 ∷ names)) is ∙ on_ahead pattern names tail matching bytes on))

pub plain_end : (parts : List (List ℕ)) (wild : ℕ) → wild ≡ length parts → ArePlain (drop wild parts)
plain_end parts wild e =
    subst ArePlain (sym (drop_all wild parts (omega arith))) (All-nil (λ part. list_any is_special part ≡ false))

pub plain_more : (pattern part : List ℕ) (wild : ℕ) → 0 < wild → wild ≤ length (parts_of pattern) → part ≡ part_at pattern (wild - 1)
    → position is_special part ≡ None → ArePlain (drop wild (parts_of pattern)) → ArePlain (drop (wild - 1) (parts_of pattern))
plain_more pattern part wild some le is none plain =
    let parts = parts_of pattern in
    let next : suc (wild - 1) ≡ wild = omega arith in
    let first : list_any is_special (part_at pattern (wild - 1)) ≡ false = ap (list_any is_special) (sym is) ∙ none_placed is_special part none in
    subst ArePlain (sym (part_first pattern (wild - 1) (omega arith)))
    (All-cons (λ part. list_any is_special part ≡ false) (part_at pattern (wild - 1)) (drop (wild - 1 + 1) parts) first
    (subst (λ (n : ℕ). ArePlain (drop n parts)) (let same : wild ≡ wild - 1 + 1 = omega arith in same) plain))

-- a method that all parts match
pub hit_matches : (pattern address : List ℕ) (matching : ℕ) → matching ≡ agreeing (parts_of pattern) (parts_of address)
    → matching ≡ length (parts_of pattern) → matching ≡ length (parts_of address) → matches pattern address ≡ true
hit_matches pattern address matching is parts names = all_agree (parts_of pattern) (parts_of address) (omega arith) (omega arith)

pub past_passing : (pattern names : List ℕ) (wild bytes matching : ℕ) → bytes ≤ length names
    → slice_split is_slash (drop bytes names) ≡ drop wild (slice_split is_slash names) → wild < length (parts_of pattern)
    → matching ≡ agreeing (parts_of pattern) (slice_split is_slash names) → matching ≡ length (parts_of pattern)
    → IsPassing pattern names (127 ∷ []) wild bytes
past_passing pattern names wild bytes matching bound cut less is parts = record { bound = bound; cut = cut; some = omega arith; one = refl }

-- what is tried stands before what is after its names
pub past_ahead : (names : List ℕ) (bytes : ℕ) → All (λ byte. byte < 127) names → lower (47 ∷ names) (aimed bytes names (127 ∷ [])) ≡ true
past_ahead names bytes low =
    ap (λ l. lower l (aimed bytes names (127 ∷ []))) (ap (λ l. 47 ∷ l) (sym (take-append-drop bytes names)))
    ∙ lower_prefix (47 ∷ take bytes names) (drop bytes names) (127 ∷ [])
    ∙ low_end (drop bytes names) (low_behind (take bytes names) (drop bytes names) names (sym (take-append-drop bytes names)) low)

pub past_text : (address names : List ℕ) (bytes : ℕ) → address ≡ 47 ∷ names → take (1 + bytes) address ++ 127 ∷ [] ≡ aimed bytes names (127 ∷ [])
past_text address names bytes e = ap (λ l. take (1 + bytes) l ++ 127 ∷ []) e ∙ rw one-add refl

pub past_searched : (names text : List ℕ) (bytes at : ℕ) (methods : List Method) (d : Method) → IsSorted methods → at < length methods
    → (get_or methods at d).address ≡ 47 ∷ names → All (λ byte. byte < 127) names → text ≡ aimed bytes names (127 ∷ [])
    → IsSearched text methods (at + 1) (length methods)
past_searched names text bytes at methods d sorted within own low is =
    searched_up text methods 0 (length methods) at d sorted.ascending (searched_none text methods) within
    (ap (λ l. lower l text) own ∙ ap (lower (47 ∷ names)) is ∙ past_ahead names bytes low)

pub past_further : (names text : List ℕ) (bytes at end : ℕ) (methods : List Method) (d : Method) → at < length methods
    → (get_or methods at d).address ≡ 47 ∷ names → All (λ byte. byte < 127) names → text ≡ aimed bytes names (127 ∷ [])
    → IsSearched text methods end end → at < end
past_further names text bytes at end methods d within own low is searched = go (nat_lt at end) refl where
  go : (t : Bool) → nat_lt at end ≡ t → at < end
  go true e = (let h : nat_lt at end ≡ true = e in grind (arith, nat_tests))
  go false e =
      let past : end ≤ at = (let h : nat_lt at end ≡ false = e in grind (arith, nat_tests)) in
      absurd (both_ways (lower (get_or methods at d).address text) (searched.behind at d past within)
      (ap (λ l. lower l text) own ∙ ap (lower (47 ∷ names)) is ∙ past_ahead names bytes low))

pub none_of : (found : Option ℕ) → is_some found ≡ false → found ≡ None
none_of None e = refl
none_of (Some place) e = absurd (cc)

pub none_near : (pattern : List ℕ) (registered : List Registered) (places : List ℕ) → length places ≡ 0
    → map (λ (method : Method). method.id) (filter (λ method. matches pattern method.address) (methods_at registered places)) ≡ []
none_near pattern registered [] e = refl
none_near pattern registered (place ∷ places) e = absurd (omega arith)

no_more : (test : Method → Bool) (methods : List Method) → ((d : Method) → 0 < length methods → test (get_or methods 0 d) ≡ true)
    → 0 ≡ position_or_len test methods
no_more test [] first = refl
no_more test (method ∷ methods) first = rw (first method (omega arith)) refl

-- a method whose last name is the first that doesn't match has all its names in common with none
pub walked_next : (pattern : List ℕ) (methods : List Method) (at matching : ℕ) (ids : List ℕ) (d : Method) → IsSorted methods
    → at < length methods → IsWalked pattern methods at ids → matching ≡ agreeing (parts_of pattern) (parts_of (get_or methods at d).address)
    → (matching == length (parts_of pattern) && matching == length (parts_of (get_or methods at d).address)) ≡ false
    → length (parts_of (get_or methods at d).address) ≤ matching + 1 → matching < length (parts_of pattern) → IsWalked pattern methods (suc at) ids
walked_next pattern methods at matching ids d sorted within so is whole last less =
    let least : nat_lt matching (length (parts_of pattern)) ≡ true = grind (arith, nat_tests) in
    let names = parts_of (get_or methods at d).address in
    let none : 0 ≡ position_or_len (λ method. not (nat_le (matching + 1) (shared names (parts_of method.address)))) (drop (suc at) methods) =
    no_more (λ method. not (nat_le (matching + 1) (shared names (parts_of method.address)))) (drop (suc at) methods) first in
    subst (λ (n : ℕ). IsWalked pattern methods n ids) (let same : suc at + 0 ≡ suc at = omega arith in same)
    (walked_over pattern methods at ids 0 matching (matching + 1) d sorted within so is whole
    (ap (λ (t : Bool). cond t (matching + 1) matching) (sym least)) none)
  where
    first : (other : Method) → 0 < length (drop (suc at) methods)
        → not (nat_le (matching + 1) (shared (parts_of (get_or methods at d).address) (parts_of (get_or (drop (suc at) methods) 0 other).address))) ≡ true
    first other some =
        let inside : suc at < length methods = omega (arith, length-drop (suc at) methods) in
        let is : get_or (drop (suc at) methods) 0 other ≡ get_or methods (suc at) d =
        get_or-drop (suc at) methods 0 other ∙ ap (λ (n : ℕ). get_or methods n other) (add-zero (suc at)) ∙ any_default methods (suc at) other d inside in
        let a = (get_or methods at d).address in
        let b = (get_or methods (suc at) d).address in
        let apart = at_apart methods at (suc at) d sorted (omega arith) inside in
        let few : shared (parts_of a) (parts_of b) < length (parts_of a) =
        go a b (at_slash methods at d sorted within) (at_slash methods (suc at) d sorted inside) apart
        (nat_lt (shared (parts_of a) (parts_of b)) (length (parts_of a))) refl in
        let no' : nat_le (matching + 1) (shared (parts_of a) (parts_of b)) ≡ false = grind (arith, nat_tests) in
        rw is (ap not no')
      where
        go : (a b : List ℕ) → begins_with_slash a ≡ true → begins_with_slash b ≡ true → AreApart a b
            → (t : Bool) → nat_lt (shared (parts_of a) (parts_of b)) (length (parts_of a)) ≡ t → shared (parts_of a) (parts_of b) < length (parts_of a)
        go a b one two apart true e = (let h : nat_lt (shared (parts_of a) (parts_of b)) (length (parts_of a)) ≡ true = e in grind (arith, nat_tests))
        go a b one two apart false e =
            let le : length (parts_of a) ≤ shared (parts_of a) (parts_of b) =
            (let h : nat_lt (shared (parts_of a) (parts_of b)) (length (parts_of a)) ≡ false = e in grind (arith, nat_tests)) in
            let turned = shared_turn (parts_of a) (parts_of b) in
            absurd (not_all_shared b a two one
            (record { differ = nat_list_eq_equiv.symm b a ∙ apart.differ; above = apart.below; below = apart.above }) (omega arith))

pub one_left : (names name : List ℕ) (more : Option (Bor (List ℕ))) → is_none more ≡ true
    → MatchOption more (slice_split is_slash names ≡ name ∷ []) (λ rest. slice_split is_slash names ≡ name ∷ slice_split is_slash rest.now)
    → length (slice_split is_slash names) ≡ 1
one_left names name None e cut = ap length cut
one_left names name (Some rest) e cut = absurd (cc)
