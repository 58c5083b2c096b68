-- A sheet has one line more at most than bytes.
use Rattle.std.proofs.Common.{◌≡◌, ℕ, zero, suc, ◌+◌, ◌≤◌, Bool, true, false, cond, List, [], ◌∷◌, length, map, get_or, filter, Result}
use Rattle.std.proofs.Common.{Ok, Err, IfOk, ap, arith}
use Rattle.std.proofs.Common.{Bor, Vec, ◌<◌, drop, refl, sym, subst, nat_eq, length-drop}
use Rattle.std.specs.List.{slice_split, onto_first, starts_with}
use Rattle.std.proofs.lemmas.List.{length-map}
use Rattle.std.proofs.lemmas.List.Splits.{length-slice_split}
use Rattle.std.proofs.lemmas.List.Sums.{count_by-le-length, length-filter}
use Rattle.osc_cues.specs.Words.{is_line_feed, without_mark, lines_of}

few_lines : (bytes : List ℕ) (lines : List (Bor (List ℕ))) → map (λ line. line.now) lines ≡ slice_split is_line_feed bytes
    → length lines ≤ length bytes + 1
few_lines bytes lines are =
    omega (
      arith,
      length-map lines (λ (line : Bor (List ℕ)). line.now),
      ap length are,
      length-slice_split is_line_feed bytes,
      count_by-le-length is_line_feed bytes,
    )

pub few_of : {E : Type 0} {Z : Type 0} (bytes : List ℕ) (size : ℕ) (result : Result (Vec (Bor (List ℕ)) Z) E) → length bytes ≤ size
    → IfOk result (λ lines. map (λ line. line.now) lines.items ≡ slice_split is_line_feed bytes)
    → IfOk result (λ lines. length lines.items ≤ size + 1)
few_of bytes size (Ok lines) few are = omega (arith, few, few_lines bytes lines.items are)
few_of bytes size (Err e) few are = tt

-- no line is longer than all bytes
onto_few : {X : Type 0} (x : X) (t : Bool) (parts : List (List X)) (k n : ℕ) → ((j : ℕ) → length (get_or parts j []) ≤ n)
    → length (get_or (cond t ([] ∷ parts) (onto_first x parts)) k []) ≤ suc n
onto_few x true parts zero n each = omega arith
onto_few x true parts (suc k) n each = let few = each k in omega (arith, few)
onto_few x false [] zero n each = omega arith
onto_few x false [] (suc k) n each = omega arith
onto_few x false (part ∷ parts) zero n each = let few = each 0 in omega (arith, few)
onto_few x false (part ∷ parts) (suc k) n each = let few = each (suc k) in omega (arith, few)

pub part_few : {X : Type 0} (p : X → Bool) (xs : List X) (k : ℕ) → length (get_or (slice_split p xs) k []) ≤ length xs
part_few p [] zero = omega arith
part_few p [] (suc k) = omega arith
part_few p (x ∷ xs) k = onto_few x (p x) (slice_split p xs) k (length xs) (λ j. part_few p xs j)

pub filter_few : {X : Type 0} (p : X → Bool) (xs : List X) → length (filter p xs) ≤ length xs
filter_few p xs = omega (arith, length-filter p xs, count_by-le-length p xs)

line_few : (n : ℕ) (lines : List (Bor (List ℕ))) (parts : List (List ℕ)) (k : ℕ) (d : Bor (List ℕ)) → map (λ line. line.now) lines ≡ parts
    → ((j : ℕ) → length (get_or parts j []) ≤ n) → k < length lines → length (get_or lines k d).now ≤ n
line_few n [] parts k d are each below = absurd (omega arith)
line_few n (line ∷ lines) parts zero d are each below = subst (λ (l : List (List ℕ)). length (get_or l 0 []) ≤ n) (sym are) (each 0)
line_few n (line ∷ lines) parts (suc k) d are each below =
    line_few n lines (map (λ (l : Bor (List ℕ)). l.now) lines) k d refl
    (λ j. subst (λ (l : List (List ℕ)). length (get_or l (suc j) []) ≤ n) (sym are) (each (suc j))) (omega arith)

mark_few : (bytes : List ℕ) → length (without_mark bytes) ≤ length bytes
mark_few bytes = go (starts_with nat_eq bytes (239 ∷ 187 ∷ 191 ∷ [])) where
  go : (t : Bool) → length (cond t (drop 3 bytes) bytes) ≤ length bytes
  go true = omega (arith, length-drop 3 bytes)
  go false = omega arith

part_of_all : (bytes : List ℕ) (j : ℕ) → length (get_or (lines_of bytes) j []) ≤ length bytes
part_of_all bytes j = let one = part_few is_line_feed (without_mark bytes) j in let all = mark_few bytes in omega (arith, one, all)

-- what is no longer than a line is no longer than all that may be
pub short_line : (bytes : List ℕ) (lines : List (Bor (List ℕ))) (k most size : ℕ) (d : Bor (List ℕ)) → size ≤ length (get_or lines k d).now
    → map (λ line. line.now) lines ≡ lines_of bytes → k < length lines → length bytes ≤ most → size ≤ most
short_line bytes lines k most size d few are below short =
    let line = line_few (length bytes) lines (lines_of bytes) k d are (part_of_all bytes) below in omega (arith, few, line, short)
