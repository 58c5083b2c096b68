-- Names that two addresses have in common, and parts that match names.
use Rattle.std.proofs.Common.{◌≡◌, ◌≤◌, ◌<◌, ℕ, zero, suc, ◌+◌, ◌-◌, ◌*◌, Bor, Option, Some, None, Bool, true, false, cond, ◌&&◌, List, [], ◌∷◌, ◌++◌, length}
use Rattle.std.proofs.Common.{take, drop, map, get_or, refl, sym, ap, ◌∙◌, arith, add-one}
use Rattle.std.specs.Prelude.{sum_by, MatchOption}
use Rattle.std.specs.List.{list_any, slice_split, onto_first}
use Rattle.std.specs.Str.{bytes_eq}
use Rattle.std.proofs.Math.Seq.{drop-cons}
use Rattle.std.proofs.lemmas.Nat.{mul-le}
use Rattle.std.proofs.lemmas.Option.{unwrap_or-slice_get}
use Rattle.std.proofs.lemmas.Cmp.{nat_list_eq_equiv}
use Rattle.std.proofs.lemmas.Slice.Eq.{bytes_eq-Decides}
use Rattle.std.proofs.lemmas.List.{get_or-map, length-map}
use Rattle.std.proofs.lemmas.List.Splits.{slice_split-cons_yes, slice_split-cons_no}
use Rattle.std.proofs.lemmas.List.Sums.{sum_by-cons}
use Rattle.osc_pattern.specs.Items.{is_slash}
use Rattle.osc_pattern.specs.Reading.{match_part}
use Rattle.osc_pattern.specs.Patterns.{parts_of, part_at, match_parts, begins_with_slash}
use Rattle.osc_pattern.specs.Methods.{runs_of, prefixes_of}
use Rattle.osc_pattern.proofs.Parts.{split-cons}
use Rattle.osc_pattern.proofs.PlainPatterns.{same_bytes}
use Rattle.osc_tree.specs.Walking.{shared, agreeing, part_steps, spent}
use Rattle.std.proofs.lemmas.List.Folds.{list_any_at}
use Rattle.std.proofs.lemmas.List.{length-take-le}
use Rattle.osc_tree.proofs.Prefixes.{ends, is_slash-true, prefixes_are}
use Rattle.osc_tree.proofs.Lists.{list_any-some}
use Rattle.osc_tree.proofs.Places.{any_default}

-- the parts from a place on
pub part_first : (pattern : List ℕ) (place : ℕ) → place < length (parts_of pattern)
    → drop place (parts_of pattern) ≡ part_at pattern place ∷ drop (place + 1) (parts_of pattern)
part_first pattern place within =
    drop-cons (parts_of pattern) place [] within
    ∙ ap (λ part. part ∷ drop (suc place) (parts_of pattern)) (sym (unwrap_or-slice_get (parts_of pattern) place []))
    ∙ ap (λ (n : ℕ). part_at pattern place ∷ drop n (parts_of pattern)) (sym (add-one place))

-- no more parts match than there are, nor than there are names
pub agreeing_parts : (parts names : List (List ℕ)) → agreeing parts names ≤ length parts
agreeing_parts [] names = omega arith
agreeing_parts (part ∷ parts) [] = omega arith
agreeing_parts (part ∷ parts) (name ∷ names) = go (match_part part name) (agreeing_parts parts names) where
  go : (t : Bool) → agreeing parts names ≤ length parts → cond t (agreeing parts names + 1) 0 ≤ suc (length parts)
  go true more = omega arith
  go false more = omega arith

pub agreeing_names : (parts names : List (List ℕ)) → agreeing parts names ≤ length names
agreeing_names [] names = omega arith
agreeing_names (part ∷ parts) [] = omega arith
agreeing_names (part ∷ parts) (name ∷ names) = go (match_part part name) (agreeing_names parts names) where
  go : (t : Bool) → agreeing parts names ≤ length names → cond t (agreeing parts names + 1) 0 ≤ suc (length names)
  go true more = omega arith
  go false more = omega arith

pub shared_first : (names others : List (List ℕ)) → shared names others ≤ length names
shared_first [] others = omega arith
shared_first (name ∷ names) [] = omega arith
shared_first (name ∷ names) (other ∷ others) = go (bytes_eq name other) (shared_first names others) where
  go : (t : Bool) → shared names others ≤ length names → cond t (shared names others + 1) 0 ≤ suc (length names)
  go true more = omega arith
  go false more = omega arith

pub shared_turn : (names others : List (List ℕ)) → shared names others ≡ shared others names
shared_turn [] [] = refl
shared_turn [] (other ∷ others) = refl
shared_turn (name ∷ names) [] = refl
shared_turn (name ∷ names) (other ∷ others) = rw (nat_list_eq_equiv.symm name other, shared_turn names others) refl

pub shared_all : (names : List (List ℕ)) → shared names names ≡ length names
shared_all [] = refl
shared_all (name ∷ names) = rw (nat_list_eq_equiv.refl name, shared_all names) (omega arith)

-- all parts match, or not
pub all_agree : (parts names : List (List ℕ)) → agreeing parts names ≡ length parts → agreeing parts names ≡ length names → match_parts parts names ≡ true
all_agree [] [] e f = refl
all_agree [] (name ∷ names) e f = absurd (omega arith)
all_agree (part ∷ parts) [] e f = absurd (omega arith)
all_agree (part ∷ parts) (name ∷ names) e f = go (match_part part name) e f (all_agree parts names) where
  go : (t : Bool) → cond t (agreeing parts names + 1) 0 ≡ suc (length parts) → cond t (agreeing parts names + 1) 0 ≡ suc (length names)
      → (agreeing parts names ≡ length parts → agreeing parts names ≡ length names → match_parts parts names ≡ true) → (t && match_parts parts names) ≡ true
  go true e f more = more (omega arith) (omega arith)
  go false e f more = absurd (omega arith)

pub matched_agree : (parts names : List (List ℕ)) → match_parts parts names ≡ true
    → (agreeing parts names ≡ length parts) × (agreeing parts names ≡ length names)
matched_agree [] [] e = (refl, refl)
matched_agree [] (name ∷ names) e = absurd (cc)
matched_agree (part ∷ parts) [] e = absurd (cc)
matched_agree (part ∷ parts) (name ∷ names) e = go (match_part part name) e (matched_agree parts names) where
  go : (t : Bool) → (t && match_parts parts names) ≡ true
      → (match_parts parts names ≡ true → (agreeing parts names ≡ length parts) × (agreeing parts names ≡ length names))
      → (cond t (agreeing parts names + 1) 0 ≡ suc (length parts)) × (cond t (agreeing parts names + 1) 0 ≡ suc (length names))
  go true e more = let both = more e in (omega (arith, both.0), omega (arith, both.1))
  go false e more = absurd (cc)

-- parts that match names match those of another address that has them too
pub agree_too : (parts names others : List (List ℕ)) (k : ℕ) → k ≤ shared names others → k ≤ agreeing parts names → k ≤ agreeing parts others
agree_too parts names others zero alike most = omega arith
agree_too [] names others (suc k) alike most = absurd (omega arith)
agree_too (part ∷ parts) [] others (suc k) alike most = absurd (omega arith)
agree_too (part ∷ parts) (name ∷ names) [] (suc k) alike most = absurd (omega arith)
agree_too (part ∷ parts) (name ∷ names) (other ∷ others) (suc k) alike most =
    go (bytes_eq name other) refl (match_part part name) refl alike most (agree_too parts names others k) where
      go : (s : Bool) → bytes_eq name other ≡ s → (t : Bool) → match_part part name ≡ t
          → suc k ≤ cond s (shared names others + 1) 0 → suc k ≤ cond t (agreeing parts names + 1) 0
          → (k ≤ shared names others → k ≤ agreeing parts names → k ≤ agreeing parts others)
          → suc k ≤ cond (match_part part other) (agreeing parts others + 1) 0
      go false same t is alike most more = absurd (omega arith)
      go true same false is alike most more = absurd (omega arith)
      go true same true is alike most more =
          let there : match_part part other ≡ true = ap (match_part part) (sym ((bytes_eq-Decides name other).0 same)) ∙ is in
          rw there (let le = more (omega arith) (omega arith) in omega arith)

-- two that have names in common with a third have them in common
pub shared_through : (names others third : List (List ℕ)) (k : ℕ) → k ≤ shared names others → k ≤ shared names third → k ≤ shared others third
shared_through names others third zero alike more = omega arith
shared_through [] others third (suc k) alike more = absurd (omega arith)
shared_through (name ∷ names) [] third (suc k) alike more = absurd (omega arith)
shared_through (name ∷ names) (other ∷ others) [] (suc k) alike more = absurd (omega arith)
shared_through (name ∷ names) (other ∷ others) (last ∷ third) (suc k) alike more =
    go (bytes_eq name other) refl (bytes_eq name last) refl alike more (shared_through names others third k) where
      go : (s : Bool) → bytes_eq name other ≡ s → (t : Bool) → bytes_eq name last ≡ t
          → suc k ≤ cond s (shared names others + 1) 0 → suc k ≤ cond t (shared names third + 1) 0
          → (k ≤ shared names others → k ≤ shared names third → k ≤ shared others third)
          → suc k ≤ cond (bytes_eq other last) (shared others third + 1) 0
      go false same t is alike most more = absurd (omega arith)
      go true same false is alike most more = absurd (omega arith)
      go true same true is alike most more =
          let there : bytes_eq other last ≡ true = ap (λ l. bytes_eq l last) (sym ((bytes_eq-Decides name other).0 same)) ∙ is in
          rw there (let le = more (omega arith) (omega arith) in omega arith)

-- lists that begin alike
pub taken_shared : (names others : List (List ℕ)) (k : ℕ) → k ≤ length names → k ≤ length others → take k names ≡ take k others → k ≤ shared names others
taken_shared names others zero le more e = omega arith
taken_shared [] others (suc k) le more e = absurd (omega arith)
taken_shared (name ∷ names) [] (suc k) le more e = absurd (omega arith)
taken_shared (name ∷ names) (other ∷ others) (suc k) le more e =
    let first : name ≡ other = cc in
    let rest : take k names ≡ take k others = cc in
    let here : bytes_eq name other ≡ true = (bytes_eq-Decides name other).1 first in
    let there = taken_shared names others k (omega arith) (omega arith) rest in
    rw here (omega arith)

pub shared_taken : (names others : List (List ℕ)) (k : ℕ) → k ≤ shared names others → take k names ≡ take k others
shared_taken names others zero le = refl
shared_taken [] others (suc k) le = absurd (omega arith)
shared_taken (name ∷ names) [] (suc k) le = absurd (omega arith)
shared_taken (name ∷ names) (other ∷ others) (suc k) le = go (bytes_eq name other) refl le (shared_taken names others k) where
  go : (t : Bool) → bytes_eq name other ≡ t → suc k ≤ cond t (shared names others + 1) 0 → (k ≤ shared names others → take k names ≡ take k others)
      → name ∷ take k names ≡ other ∷ take k others
  go true same le more = ap (λ l. l ∷ take k names) ((bytes_eq-Decides name other).0 same) ∙ ap (λ l. other ∷ l) (more (omega arith))
  go false same le more = absurd (omega arith)

-- there are as many prefixes as names
ends_length : (rest : List ℕ) → length (ends rest) ≡ length (slice_split is_slash rest)
ends_length [] = refl
ends_length (byte ∷ rest) = go (is_slash byte) (ends_length rest) (split-cons rest) where
  go : (t : Bool) → length (ends rest) ≡ length (slice_split is_slash rest)
      → (name : List ℕ) × (names : List (List ℕ)) × (slice_split is_slash rest ≡ name ∷ names)
      → length (cond t ([] ∷ map (λ text. byte ∷ text) (ends rest)) (map (λ text. byte ∷ text) (ends rest)))
      ≡ length (cond t ([] ∷ slice_split is_slash rest) (onto_first byte (slice_split is_slash rest)))
  go true more found = omega (arith, more, length-map (ends rest) (λ text. byte ∷ text))
  go false more (name, names, is) = length-map (ends rest) (λ text. byte ∷ text) ∙ more ∙ ap length is ∙ sym (ap (λ l. length (onto_first byte l)) is)

-- the names of the prefixes of an address
pub ends_names : (rest : List ℕ) (k : ℕ) → k < length (slice_split is_slash rest)
    → slice_split is_slash (get_or (ends rest) k []) ≡ take (suc k) (slice_split is_slash rest)
ends_names [] zero lt = refl
ends_names [] (suc k) lt = absurd (omega arith)
ends_names (byte ∷ rest) k lt = go (is_slash byte) refl k lt (ends_names rest) (split-cons rest) where
  go : (t : Bool) → is_slash byte ≡ t → (k : ℕ) → k < length (cond t ([] ∷ slice_split is_slash rest) (onto_first byte (slice_split is_slash rest)))
      → ((k : ℕ) → k < length (slice_split is_slash rest) → slice_split is_slash (get_or (ends rest) k []) ≡ take (suc k) (slice_split is_slash rest))
      → (name : List ℕ) × (names : List (List ℕ)) × (slice_split is_slash rest ≡ name ∷ names)
      → slice_split is_slash (get_or (cond t ([] ∷ map (λ text. byte ∷ text) (ends rest)) (map (λ text. byte ∷ text) (ends rest))) k [])
      ≡ take (suc k) (cond t ([] ∷ slice_split is_slash rest) (onto_first byte (slice_split is_slash rest)))
  go true is zero lt more found = refl
  go true is (suc k) lt more found =
      ap (slice_split is_slash) (get_or-map (λ text. byte ∷ text) (ends rest) k [] [] (omega (arith, ends_length rest)))
      ∙ slice_split-cons_yes is_slash byte (get_or (ends rest) k []) is ∙ ap (λ l. [] ∷ l) (more k (omega arith))
  go false is k lt more (name, names, e) =
      let same : length (onto_first byte (slice_split is_slash rest)) ≡ length (slice_split is_slash rest) =
      ap (λ l. length (onto_first byte l)) e ∙ sym (ap length e) in
      let long : k < length (slice_split is_slash rest) = omega (arith, same) in
      ap (slice_split is_slash) (get_or-map (λ text. byte ∷ text) (ends rest) k [] [] (omega (arith, ends_length rest)))
      ∙ slice_split-cons_no is_slash byte (get_or (ends rest) k []) is ∙ ap (onto_first byte) (more k long)
      ∙ ap (λ l. onto_first byte (take (suc k) l)) e ∙ sym (ap (λ l. take (suc k) (onto_first byte l)) e)

-- the prefixes of an address, and the names of each
pub prefixes_long : (address : List ℕ) → length (prefixes_of address) ≡ length (parts_of address)
prefixes_long address = long (parts_of address) where
  long : (names : List (List ℕ)) → length (runs_of names) ≡ length names
  long [] = refl
  long (name ∷ names) = omega (arith, long names, length-map (runs_of names) (λ more. (47 ∷ name) ++ more))

prefix_at : (rest : List ℕ) (k : ℕ) → k < length (slice_split is_slash rest) → get_or (prefixes_of (47 ∷ rest)) k [] ≡ 47 ∷ get_or (ends rest) k []
prefix_at rest k lt = ap (λ l. get_or l k []) (prefixes_are rest) ∙ get_or-map (λ text. 47 ∷ text) (ends rest) k [] [] (omega (arith, ends_length rest))

pub prefix_names : (address : List ℕ) (k : ℕ) → begins_with_slash address ≡ true → k < length (parts_of address)
    → parts_of (get_or (prefixes_of address) k []) ≡ take (suc k) (parts_of address)
prefix_names [] k slash lt = absurd (cc)
prefix_names (byte ∷ rest) k slash lt =
    ap (λ (b : ℕ). parts_of (get_or (prefixes_of (b ∷ rest)) k [])) (sym (is_slash-true byte slash)) ∙ ap parts_of (prefix_at rest k lt) ∙ ends_names rest k lt

pub prefix_slash : (address : List ℕ) (k : ℕ) → begins_with_slash address ≡ true → k < length (parts_of address)
    → begins_with_slash (get_or (prefixes_of address) k []) ≡ true
prefix_slash [] k slash lt = absurd (cc)
prefix_slash (byte ∷ rest) k slash lt =
    ap (λ (b : ℕ). begins_with_slash (get_or (prefixes_of (b ∷ rest)) k [])) (sym (is_slash-true byte slash)) ∙ ap begins_with_slash (prefix_at rest k lt)

-- a prefix of one address that another has too: they have so many names in common
pub node_shares : (other address : List ℕ) (k : ℕ) → begins_with_slash other ≡ true → begins_with_slash address ≡ true → k < length (parts_of address)
    → list_any (bytes_eq (get_or (prefixes_of address) k [])) (prefixes_of other) ≡ true → suc k ≤ shared (parts_of other) (parts_of address)
node_shares other address k first second lt e =
    let found = list_any-some (bytes_eq (get_or (prefixes_of address) k [])) (prefixes_of other) e in
    let text = found.0 in
    let i = found.1.0 in
    let within : i < length (prefixes_of other) = found.1.1 in
    let there : get_or (prefixes_of other) i text ≡ text = found.1.2 in
    let inside : i < length (parts_of other) = omega (arith, prefixes_long other) in
    let same : get_or (prefixes_of address) k [] ≡ get_or (prefixes_of other) i [] =
    (bytes_eq-Decides (get_or (prefixes_of address) k []) text).0 found.2 ∙ sym there ∙ any_default (prefixes_of other) i text [] within in
    let alike : take (suc k) (parts_of address) ≡ take (suc i) (parts_of other) =
    sym (prefix_names address k second lt) ∙ ap parts_of same ∙ prefix_names other i first inside in
    let far : suc k ≡ suc i =
    sym (length-take-le (suc k) (parts_of address) (omega arith)) ∙ ap length alike ∙ length-take-le (suc i) (parts_of other) (omega arith) in
    taken_shared (parts_of other) (parts_of address) (suc k) (omega arith) (omega arith)
    (ap (λ (n : ℕ). take n (parts_of other)) far ∙ sym alike)

pub shares_node : (other address : List ℕ) (k : ℕ) → begins_with_slash other ≡ true → begins_with_slash address ≡ true
    → suc k ≤ shared (parts_of other) (parts_of address) → list_any (bytes_eq (get_or (prefixes_of address) k [])) (prefixes_of other) ≡ true
shares_node other address k first second le =
    let turned = shared_turn (parts_of other) (parts_of address) in
    let inside : k < length (parts_of other) = let most = shared_first (parts_of other) (parts_of address) in omega arith in
    let lt : k < length (parts_of address) = let most = shared_first (parts_of address) (parts_of other) in omega arith in
    let same : get_or (prefixes_of address) k [] ≡ get_or (prefixes_of other) k [] =
    same_bytes (get_or (prefixes_of address) k []) (get_or (prefixes_of other) k []) (prefix_slash address k second lt) (prefix_slash other k first inside)
    (prefix_names address k second lt ∙ sym (shared_taken (parts_of other) (parts_of address) (suc k) le) ∙ sym (prefix_names other k first inside)) in
    list_any_at (bytes_eq (get_or (prefixes_of address) k [])) (prefixes_of other) k [] (omega (arith, prefixes_long other))
    ((bytes_eq-Decides (get_or (prefixes_of address) k []) (get_or (prefixes_of other) k [])).1 same)

-- the parts that are matched cost no more than the nodes at their depths
pub spent_within : (f : List ℕ → ℕ) (known : ℕ) (parts names texts : List (List ℕ)) → length names ≡ length texts
    → ((k : ℕ) → known ≤ k → k < length parts → k < length texts → 64 * (length (get_or parts k []) + 1) ≤ f (get_or texts k []))
    → spent known parts names ≤ sum_by f texts
spent_within f known [] names texts long each = omega arith
spent_within f known (part ∷ parts) [] texts long each = omega arith
spent_within f known (part ∷ parts) (name ∷ names) [] long each = absurd (omega arith)
spent_within f known (part ∷ parts) (name ∷ names) (text ∷ texts) long each =
    let more = spent_within f (known - 1) parts names texts (omega arith) (λ k le lt in'. each (suc k) (omega arith) (omega arith) (omega arith)) in
    let one = first known part (f text) (λ none. each 0 (omega arith) (omega arith) (omega arith)) in
    omega (arith, sum_by-cons f text texts)
  where
    first : (known : ℕ) (part : List ℕ) (w : ℕ) → (known ≡ 0 → 64 * (length part + 1) ≤ w) → part_steps known part ≤ w
    first zero part w le = le refl
    first (suc known) part w le = omega arith

-- the parts from a place on, against names of which the first is cut off
pub agree_here : (pattern : List ℕ) (place : ℕ) (names : List (List ℕ)) (name : List ℕ) (rest : List (List ℕ)) → place < length (parts_of pattern)
    → names ≡ name ∷ rest
    → agreeing (drop place (parts_of pattern)) names
    ≡ cond (match_part (part_at pattern place) name) (agreeing (drop (place + 1) (parts_of pattern)) rest + 1) 0
agree_here pattern place names name rest within e = ap (λ l. agreeing l names) (part_first pattern place within)
    ∙ ap (agreeing (part_at pattern place ∷ drop (place + 1) (parts_of pattern))) e

pub spent_here : (pattern : List ℕ) (place known : ℕ) (names : List (List ℕ)) (name : List ℕ) (rest : List (List ℕ)) → place < length (parts_of pattern)
    → names ≡ name ∷ rest
    → spent known (drop place (parts_of pattern)) names
    ≡ part_steps known (part_at pattern place) + spent (known - 1) (drop (place + 1) (parts_of pattern)) rest
spent_here pattern place known names name rest within e = ap (λ l. spent known l names) (part_first pattern place within)
    ∙ ap (spent known (part_at pattern place ∷ drop (place + 1) (parts_of pattern))) e

pub none_left : (parts : List (List ℕ)) → agreeing parts [] ≡ 0
none_left [] = refl
none_left (part ∷ parts) = refl

-- what is known to match is passed over
spent_none : (known : ℕ) (parts : List (List ℕ)) → spent known parts [] ≡ 0
spent_none known [] = refl
spent_none known (part ∷ parts) = refl

pub spent_from : (known : ℕ) (parts names : List (List ℕ)) → spent known parts names ≡ spent 0 (drop known parts) (drop known names)
spent_from zero parts names = refl
spent_from (suc known) [] names = refl
spent_from (suc known) (part ∷ parts) [] = sym (spent_none 0 (drop known parts))
spent_from (suc known) (part ∷ parts) (name ∷ names) =
    let back : suc known - 1 ≡ known = omega arith in
    omega (arith, spent_from known parts names, ap (λ (n : ℕ). spent n parts names) back)

pub agree_from : (known : ℕ) (parts names : List (List ℕ)) → known ≤ agreeing parts names
    → known + agreeing (drop known parts) (drop known names) ≡ agreeing parts names
agree_from zero parts names le = omega arith
agree_from (suc known) [] names le = absurd (omega arith)
agree_from (suc known) (part ∷ parts) [] le = absurd (omega arith)
agree_from (suc known) (part ∷ parts) (name ∷ names) le = go (match_part part name) le (agree_from known parts names) where
  go : (t : Bool) → suc known ≤ cond t (agreeing parts names + 1) 0
      → (known ≤ agreeing parts names → known + agreeing (drop known parts) (drop known names) ≡ agreeing parts names)
      → suc known + agreeing (drop known parts) (drop known names) ≡ cond t (agreeing parts names + 1) 0
  go true le more = omega (arith, more (omega arith))
  go false le more = absurd (omega arith)

-- the steps that one part costs
pub tried : (part name : List ℕ) → length name ≤ 63 → (length part + 1) * (length name + 1) ≤ part_steps 0 part
tried part name short =
    let most : (length part + 1) * (length name + 1) ≤ (length part + 1) * 64 =
    mul-le (length part + 1) (length name + 1) (length part + 1) 64 (omega arith) (omega arith) in
    omega arith

-- a first name, whether others follow or not
pub first_piece_is : (names name : List ℕ) (more : Option (Bor (List ℕ)))
    → MatchOption more (slice_split is_slash names ≡ name ∷ []) (λ rest. slice_split is_slash names ≡ name ∷ slice_split is_slash rest.now)
    → (others : List (List ℕ)) × (slice_split is_slash names ≡ name ∷ others)
first_piece_is names name None e = ([], e)
first_piece_is names name (Some rest) e = (slice_split is_slash rest.now, e)
