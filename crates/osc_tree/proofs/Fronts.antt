-- The whole names that two texts begin with, found byte by byte.
use Rattle.std.proofs.Common.{◌≡◌, ℕ, zero, suc, ◌+◌, ◌-◌, ◌<◌, ◌≤◌, min, Bool, true, false, not, cond, nat_eq, List}
use Rattle.std.proofs.Common.{[], ◌∷◌, ◌++◌, length, take, drop, filter, get_or}
use Rattle.std.proofs.Common.{position, Some, refl, sym, ap, subst, ◌∙◌, arith}
use Rattle.std.specs.List.{slice_split, onto_first, starts_with, position_or_len}
use Rattle.std.proofs.lemmas.Bool.{and_parts}
use Rattle.std.proofs.lemmas.Bool.Decides.{nat_tests}
use Rattle.std.proofs.lemmas.List.{at_drop_more, drop-drop, drop-take, get_or_append_left, length-append, length-drop, length-take-le, take_all}
use Rattle.std.proofs.lemmas.List.Splits.{length-slice_split, slice_split-cons_yes, slice_split-cons_no}
use Rattle.osc_pattern.specs.Items.{is_slash}
use Rattle.osc_pattern.proofs.Parts.{split-cons}
use Rattle.osc_pattern.specs.Methods.{Method}
use Rattle.osc_pattern.specs.Patterns.{begins_with_slash, is_special}
use Rattle.osc_tree.specs.Order.{begins_with}
use Rattle.osc_tree.specs.Walking.{shared, IsBegun, IsFront}
use Rattle.osc_tree.proofs.Lists.{position-some}
use Rattle.osc_tree.proofs.SharedNames.{slash_here, letter_here, other_here}

-- up to a place two texts are the same, and so many whole names stand before it, in so many bytes
pub record IsSharing (names others : List ℕ) (count bytes at : ℕ) : Type 0 where
  pub few : count ≤ at
  pub bound : bytes ≤ at
  pub alike : shared (slice_split is_slash names) (slice_split is_slash others)
      ≡ count + shared (slice_split is_slash (drop at names)) (slice_split is_slash (drop at others))
  pub cut : slice_split is_slash (drop bytes names) ≡ drop count (slice_split is_slash names)
  pub more : drop (count + 1) (slice_split is_slash names) ≡ drop 1 (slice_split is_slash (drop at names))
  pub one : count + length (slice_split is_slash (drop at names)) ≡ length (slice_split is_slash names)
  pub two : count + length (slice_split is_slash (drop at others)) ≡ length (slice_split is_slash others)

drop_next : {X : Type 0} (n : ℕ) (xs : List X) → drop (n + 1) xs ≡ drop 1 (drop n xs)
drop_next n xs = sym (drop-drop 1 n xs)

-- the names from a letter on
letter_first : (x : ℕ) (rest : List ℕ) → is_slash x ≡ false → drop 1 (slice_split is_slash (x ∷ rest)) ≡ drop 1 (slice_split is_slash rest)
letter_first x rest letter =
    let found = split-cons rest in
    ap (drop 1) (slice_split-cons_no is_slash x rest letter) ∙ ap (λ l. drop 1 (onto_first x l)) found.2 ∙ sym (ap (drop 1) found.2)

letter_long : (x : ℕ) (rest : List ℕ) → is_slash x ≡ false → length (slice_split is_slash (x ∷ rest)) ≡ length (slice_split is_slash rest)
letter_long x rest letter =
    let found = split-cons rest in
    ap length (slice_split-cons_no is_slash x rest letter) ∙ ap (λ l. length (onto_first x l)) found.2 ∙ sym (ap length found.2)

letter_more : (a : List ℕ) (i : ℕ) → i < length a → is_slash (get_or a i 0) ≡ false
    → drop 1 (slice_split is_slash (drop i a)) ≡ drop 1 (slice_split is_slash (drop (i + 1) a))
letter_more a i lt letter = at_drop_more (λ l. drop 1 (slice_split is_slash l)) a i 0 lt ∙ letter_first (get_or a i 0) (drop (i + 1) a) letter

letter_count : (a : List ℕ) (i : ℕ) → i < length a → is_slash (get_or a i 0) ≡ false
    → length (slice_split is_slash (drop i a)) ≡ length (slice_split is_slash (drop (i + 1) a))
letter_count a i lt letter = at_drop_more (λ l. length (slice_split is_slash l)) a i 0 lt ∙ letter_long (get_or a i 0) (drop (i + 1) a) letter

-- the names from a slash on
slash_more : (a : List ℕ) (i : ℕ) → i < length a → is_slash (get_or a i 0) ≡ true
    → drop 1 (slice_split is_slash (drop i a)) ≡ slice_split is_slash (drop (i + 1) a)
slash_more a i lt is =
    at_drop_more (λ l. drop 1 (slice_split is_slash l)) a i 0 lt ∙ ap (drop 1) (slice_split-cons_yes is_slash (get_or a i 0) (drop (i + 1) a) is)

slash_count : (a : List ℕ) (i : ℕ) → i < length a → is_slash (get_or a i 0) ≡ true
    → length (slice_split is_slash (drop i a)) ≡ 1 + length (slice_split is_slash (drop (i + 1) a))
slash_count a i lt is =
    at_drop_more (λ l. length (slice_split is_slash l)) a i 0 lt
    ∙ omega (arith, ap length (slice_split-cons_yes is_slash (get_or a i 0) (drop (i + 1) a) is))

pub sharing_letter : (a b : List ℕ) (count bytes at : ℕ) → at < length a → at < length b → get_or a at 0 ≡ get_or b at 0
    → (get_or a at 0 ≡ 47 → ⊥) → IsSharing a b count bytes at → IsSharing a b count bytes (at + 1)
sharing_letter a b count bytes at la lb same other so =
    let letter : is_slash (get_or a at 0) ≡ false = grind (arith, nat_tests) in
    let letter' : is_slash (get_or b at 0) ≡ false = ap is_slash (sym same) ∙ letter in
    let few = so.few in
    let bound = so.bound in
    record {
      few = omega arith;
      bound = omega arith;
      alike = omega (arith, so.alike, letter_here a b at la lb same other);
      cut = so.cut;
      more = so.more ∙ letter_more a at la letter;
      one = omega (arith, so.one, letter_count a at la letter);
      two = omega (arith, so.two, letter_count b at lb letter');
    }

pub sharing_slash : (a b : List ℕ) (count bytes at : ℕ) → at < length a → at < length b → get_or a at 0 ≡ get_or b at 0
    → get_or a at 0 ≡ 47 → IsSharing a b count bytes at → IsSharing a b (count + 1) (at + 1) (at + 1)
sharing_slash a b count bytes at la lb same slash so =
    let is : is_slash (get_or a at 0) ≡ true = grind (arith, nat_tests) in
    let is' : is_slash (get_or b at 0) ≡ true = ap is_slash (sym same) ∙ is in
    let few = so.few in
    let here : drop (count + 1) (slice_split is_slash a) ≡ slice_split is_slash (drop (at + 1) a) = so.more ∙ slash_more a at la is in
    record {
      few = omega arith;
      bound = omega arith;
      alike = omega (arith, so.alike, slash_here a b at la lb same slash);
      cut = sym here;
      more = drop_next (count + 1) (slice_split is_slash a) ∙ ap (drop 1) here;
      one = omega (arith, so.one, slash_count a at la is);
      two = omega (arith, so.two, slash_count b at lb is');
    }

-- a text begins with the names that are known
begun_long : (count : ℕ) (rest a : List ℕ) → slice_split is_slash rest ≡ drop count (slice_split is_slash a)
    → count + length (slice_split is_slash rest) ≡ length (slice_split is_slash a)
begun_long count rest a e = omega (arith, ap length e, length-drop count (slice_split is_slash a), length-slice_split is_slash rest)

pub begun_sharing : (a b : List ℕ) (count bytes : ℕ) → IsBegun count bytes a b → IsSharing a b count bytes bytes
begun_sharing a b count bytes so = record {
  few = so.few;
  bound = omega arith;
  alike = so.alike;
  cut = so.one;
  more = drop_next count (slice_split is_slash a) ∙ ap (drop 1) (sym so.one);
  one = begun_long count (drop bytes a) a so.one;
  two = begun_long count (drop bytes b) b so.two;
}

pub begun_here : {one other : List ℕ} (count bytes : ℕ) (names others : List ℕ) → names ≡ one → others ≡ other
    → IsBegun count bytes one other → IsBegun count bytes names others
begun_here {one} count bytes names others e f so =
    subst (λ l. IsBegun count bytes l others) (sym e) (subst (λ l. IsBegun count bytes one l) (sym f) so)

-- where the texts differ, or one of them ends, these are all names that they have in common
pub sharing_differs : (a b : List ℕ) (count bytes at : ℕ) → at < length a → at < length b → (get_or a at 0 ≡ get_or b at 0 → ⊥)
    → IsSharing a b count bytes at → count ≡ shared (slice_split is_slash a) (slice_split is_slash b)
sharing_differs a b count bytes at la lb differ so = omega (arith, so.alike, other_here a b at la lb differ)

pub sharing_ended : (a b : List ℕ) (count bytes at : ℕ) → at ≡ min (length a) (length b) → IsSharing a b count bytes at
    → shared (slice_split is_slash a) (slice_split is_slash b) < length (slice_split is_slash a)
    → shared (slice_split is_slash a) (slice_split is_slash b) < length (slice_split is_slash b)
    → count ≡ shared (slice_split is_slash a) (slice_split is_slash b)
sharing_ended a b count bytes at is so first second = go (drop at a) (drop at b) refl refl where
  last : (a xs : List ℕ) → drop at a ≡ xs → length xs ≡ 0 → length (slice_split is_slash (drop at a)) ≡ 1
  last a [] e none = ap (λ l. length (slice_split is_slash l)) e
  last a (x ∷ xs) e none = absurd (omega arith)

  go : (xs ys : List ℕ) → drop at a ≡ xs → drop at b ≡ ys → count ≡ shared (slice_split is_slash a) (slice_split is_slash b)
  go [] ys e f = omega (arith, so.alike, so.one, last a [] e refl)
  go (x ∷ xs) [] e f = omega (arith, so.alike, so.two, last b [] f refl)
  go (x ∷ xs) (y ∷ ys) e f = absurd (omega (arith, is, ap length e, ap length f, length-drop at a, length-drop at b))

-- the names after the front
pub names_behind : (names : List ℕ) (count bytes : ℕ) → slice_split is_slash (drop bytes names) ≡ drop count (slice_split is_slash names)
    → slice_split is_slash (take (length names - bytes) (drop bytes names)) ≡ drop count (slice_split is_slash names)
names_behind names count bytes cut =
    ap (slice_split is_slash) (take_all (length names - bytes) (drop bytes names) (omega (arith, length-drop bytes names))) ∙ cut

-- the whole names up to a place of a text, whatever follows it
pub record IsGoing (text : List ℕ) (count bytes at : ℕ) : Type 0 where
  pub few : count ≤ at
  pub begun : (rest more : List ℕ) → IsBegun count bytes (text ++ rest) (text ++ more)
  pub sharing : (rest more : List ℕ) → IsSharing (text ++ rest) (text ++ more) count bytes at

pub going_none : (text : List ℕ) → IsGoing text 0 0 0
going_none text = record {
  few = omega arith;
  begun = λ rest more. none (text ++ rest) (text ++ more);
  sharing = λ rest more. begun_sharing (text ++ rest) (text ++ more) 0 0 (none (text ++ rest) (text ++ more));
} where
  none : (a b : List ℕ) → IsBegun 0 0 a b
  none a b = record { few = omega arith; first = omega arith; second = omega arith; alike = omega arith; one = refl; two = refl }

same_going : (text rest more : List ℕ) (at : ℕ) → at < length text → get_or (text ++ rest) at 0 ≡ get_or (text ++ more) at 0
same_going text rest more at lt = get_or_append_left text rest 0 at lt ∙ sym (get_or_append_left text more 0 at lt)

pub going_letter : (text : List ℕ) (count bytes at : ℕ) → at < length text → (get_or text at 0 ≡ 47 → ⊥)
    → IsGoing text count bytes at → IsGoing text count bytes (at + 1)
going_letter text count bytes at lt other so =
    let few = so.few in
    record {
      few = omega arith;
      begun = so.begun;
      sharing = λ rest more. sharing_letter (text ++ rest) (text ++ more) count bytes at (omega (arith, length-append text rest))
          (omega (arith, length-append text more)) (same_going text rest more at lt)
          (λ slash. other (sym (get_or_append_left text rest 0 at lt) ∙ slash)) (so.sharing rest more);
    }

pub going_slash : (text : List ℕ) (count bytes at : ℕ) → at < length text → get_or text at 0 ≡ 47
    → IsGoing text count bytes at → IsGoing text (count + 1) (at + 1) (at + 1)
going_slash text count bytes at lt slash so =
    let few = so.few in
    record {
      few = omega arith;
      begun = λ rest more. record {
        few = omega arith;
        first = omega (arith, length-append text rest);
        second = omega (arith, length-append text more);
        alike = (next rest more).alike;
        one = (next rest more).cut;
        two = (next more rest).cut;
      };
      sharing = next;
    }
  where
    next : (rest more : List ℕ) → IsSharing (text ++ rest) (text ++ more) (count + 1) (at + 1) (at + 1)
    next rest more = sharing_slash (text ++ rest) (text ++ more) count bytes at (omega (arith, length-append text rest))
        (omega (arith, length-append text more)) (same_going text rest more at lt)
        (get_or_append_left text rest 0 at lt ∙ slash) (so.sharing rest more)

-- methods that begin with a text have the whole names at its front in common
begun_append : (text address : List ℕ) → starts_with nat_eq address text ≡ true → address ≡ text ++ drop (length text) address
begun_append [] address e = refl
begun_append (x ∷ text) [] e = absurd (cc)
begun_append (x ∷ text) (y ∷ address) e =
    let both = and_parts (nat_eq x y) (starts_with nat_eq address text) e in
    let same : y ≡ x = (let h : nat_eq x y ≡ true = both.0 in grind (arith, nat_tests)) in
    ap (λ (z : ℕ). z ∷ address) same ∙ ap (λ l. x ∷ l) (begun_append text address both.1)

begun_names : (text address : List ℕ) → 0 < length text → starts_with nat_eq address text ≡ true
    → drop 1 address ≡ drop 1 text ++ drop (length text) address
begun_names [] address some e = absurd (omega arith)
begun_names (x ∷ text) address some e = ap (drop 1) (begun_append (x ∷ text) address e)

pub filter_passes : (test : Method → Bool) (methods : List Method) (k : ℕ) (d : Method) → k < length (filter test methods)
    → test (get_or (filter test methods) k d) ≡ true
filter_passes test [] k d lt = absurd (omega arith)
filter_passes test (method ∷ methods) k d lt = go (test method) refl k lt (λ i less. filter_passes test methods i d less) where
  go : (t : Bool) → test method ≡ t → (k : ℕ) → k < length (cond t (method ∷ filter test methods) (filter test methods))
      → ((i : ℕ) → i < length (filter test methods) → test (get_or (filter test methods) i d) ≡ true)
      → test (get_or (cond t (method ∷ filter test methods) (filter test methods)) k d) ≡ true
  go true is zero lt more = is
  go true is (suc k) lt more = more k (omega arith)
  go false is k lt more = more k lt

pub near_front : (text names : List ℕ) (count bytes : ℕ) (methods near : List Method) → near ≡ filter (begins_with text) methods
    → 0 < length text → names ≡ drop 1 text → ((rest more : List ℕ) → IsBegun count bytes (names ++ rest) (names ++ more))
    → IsFront count bytes near
near_front text names count bytes methods near e some is begun i j d first second =
    begun_here count bytes _ _ (own i first) (own j second)
    (begun (drop (length text) (get_or near i d).address) (drop (length text) (get_or near j d).address))
  where
    own : (k : ℕ) → k < length near → drop 1 (get_or near k d).address ≡ names ++ drop (length text) (get_or near k d).address
    own k lt =
        begun_names text (get_or near k d).address some
        (ap (λ l. begins_with text (get_or l k d)) e ∙ filter_passes (begins_with text) methods k d (omega (arith, ap length e)))
        ∙ ap (λ l. l ++ drop (length text) (get_or near k d).address) (sym is)

-- the slash at its front isn't special
pub front_some : (pattern : List ℕ) (end : ℕ) → begins_with_slash pattern ≡ true → position is_special pattern ≡ Some end → 0 < end
front_some [] end slash e = absurd (cc)
front_some (x ∷ rest) end slash e =
    let first : x ≡ 47 = (let h : is_slash x ≡ true = slash in grind (arith, nat_tests)) in
    let plain : is_special x ≡ false = ap is_special first in
    let more = position-some is_special (x ∷ rest) end e in
    omega (arith, more, ap (λ (t : Bool). cond (not t) (1 + position_or_len is_special rest) 0) plain)

pub front_cut : (pattern : List ℕ) (end : ℕ) → begins_with_slash pattern ≡ true → position is_special pattern ≡ Some end
    → (0 < length (take end pattern)) × (take (end - 1) (drop 1 pattern) ≡ drop 1 (take end pattern))
front_cut pattern end slash e =
    let some = front_some pattern end slash e in
    let within = position-some is_special pattern end e in
    let long : 1 + (end - 1) ≡ end = omega arith in (
      omega (arith, within.1, length-take-le end pattern (omega (arith, within.1))),
      sym (drop-take 1 (end - 1) pattern) ∙ ap (λ (n : ℕ). drop 1 (take n pattern)) long,
    )
