-- The plain matcher finds a cut exactly where there is one.
use Rattle.std.proofs.Common.{◌≡◌, ℕ, zero, suc, ◌<◌, Bool, true, false, ◌||◌, ◌==◌, List, [], ◌∷◌, ◌++◌, length, take, drop, refl, arith, sym, ap, subst, ◌∙◌}
use Rattle.std.specs.Prelude.{Contains, if◌then◌else◌}
use Rattle.std.specs.List.{list_any, flat_map, slice_split}
use Rattle.std.specs.Str.{bytes_eq}
use Rattle.osc_pattern.specs.Items.{Item, any, star, set, choice, plain, is_comma, is_in_set, IsText}
use Rattle.osc_pattern.specs.Parts.{MatchPart}
use Rattle.osc_pattern.specs.Cuts.{rests, after_text, after_item, match_items}
use Rattle.std.proofs.Common.{◌⊎◌, inl, inr}
use Rattle.std.proofs.Math.ListN.{get_or}
use Rattle.std.proofs.Math.Seq.{take-append_seam, drop-append_seam}
use Rattle.std.proofs.lemmas.List.{take-append-drop}
use Rattle.std.proofs.lemmas.Slice.Eq.{bytes_eq-Decides}
use Rattle.std.proofs.lemmas.Bool.Decides.{nat_tests}

-- the text is one of the list
abbrev pub In : List (List ℕ) → List ℕ → Type 0
In [] y = ⊥
In (x ∷ xs) y = (x ≡ y) ⊎ In xs y

Contains-In : (xs : List (List ℕ)) (y : List ℕ) (k : ℕ) → k < length xs → get_or xs k y ≡ y → In xs y
Contains-In [] y k below at = absurd (omega arith)
Contains-In (x ∷ xs) y zero below at = inl at
Contains-In (x ∷ xs) y (suc k) below at = inr (Contains-In xs y k (omega arith) at)

In-Contains : (xs : List (List ℕ)) (y : List ℕ) → In xs y → Contains xs y
In-Contains [] y h = absurd h
In-Contains (x ∷ xs) y (inl e) = (0, omega arith, e)
In-Contains (x ∷ xs) y (inr h) = let found = In-Contains xs y h in (suc found.0, omega (arith, found.1), found.2)

pub any-In : (f : List ℕ → Bool) (xs : List (List ℕ)) → list_any f xs ≡ true → (x : List ℕ) × In xs x × (f x ≡ true)
any-In f [] h = absurd (cc)
any-In f (x ∷ xs) h = go (f x) refl h (any-In f xs) where
  go : (t : Bool) → f x ≡ t → (t || list_any f xs) ≡ true → (list_any f xs ≡ true → (x : List ℕ) × In xs x × (f x ≡ true))
      → (y : List ℕ) × In (x ∷ xs) y × (f y ≡ true)
  go true e h more = (x, inl refl, e)
  go false e h more = let found = more h in (found.0, inr found.1, found.2)

pub In-any : (f : List ℕ → Bool) (xs : List (List ℕ)) (y : List ℕ) → In xs y → f y ≡ true → list_any f xs ≡ true
In-any f [] y h e = absurd h
In-any f (x ∷ xs) y (inl same) e = rw (ap f same ∙ e) refl
In-any f (x ∷ xs) y (inr h) e = go (f x) (In-any f xs y h e) where
  go : (t : Bool) → list_any f xs ≡ true → (t || list_any f xs) ≡ true
  go true more = refl
  go false more = more

In-append : (xs ys : List (List ℕ)) (y : List ℕ) → In (xs ++ ys) y → In xs y ⊎ In ys y
In-append [] ys y h = inr h
In-append (x ∷ xs) ys y (inl e) = inl (inl e)
In-append (x ∷ xs) ys y (inr h) = elim (In-append xs ys y h) [ inl a ↦ inl (inr a) | inr b ↦ inr b ]

In-left : (xs ys : List (List ℕ)) (y : List ℕ) → In xs y → In (xs ++ ys) y
In-left [] ys y h = absurd h
In-left (x ∷ xs) ys y (inl e) = inl e
In-left (x ∷ xs) ys y (inr h) = inr (In-left xs ys y h)

In-right : (xs ys : List (List ℕ)) (y : List ℕ) → In ys y → In (xs ++ ys) y
In-right [] ys y h = h
In-right (x ∷ xs) ys y h = inr (In-right xs ys y h)

In-flat_map : (g : List ℕ → List (List ℕ)) (xs : List (List ℕ)) (y : List ℕ) → In (flat_map g xs) y → (x : List ℕ) × In xs x × In (g x) y
In-flat_map g [] y h = absurd h
In-flat_map g (x ∷ xs) y h = go (In-append (g x) (flat_map g xs) y h) (In-flat_map g xs y) where
  go : In (g x) y ⊎ In (flat_map g xs) y → (In (flat_map g xs) y → (x : List ℕ) × In xs x × In (g x) y) → (z : List ℕ) × In (x ∷ xs) z × In (g z) y
  go (inl here) more = (x, inl refl, here)
  go (inr there) more = let found = more there in (found.0, inr found.1, found.2)

flat_map-In : (g : List ℕ → List (List ℕ)) (xs : List (List ℕ)) (x y : List ℕ) → In xs x → In (g x) y → In (flat_map g xs) y
flat_map-In g [] x y h there = absurd h
flat_map-In g (z ∷ xs) x y (inl e) there = In-left (g z) (flat_map g xs) y (subst (λ w. In (g w) y) (sym e) there)
flat_map-In g (z ∷ xs) x y (inr h) there = In-right (g z) (flat_map g xs) y (flat_map-In g xs x y h there)

-- the rest is left after a text of the item
abbrev pub AfterItem : Item → List ℕ → List ℕ → Type 0
AfterItem item name rest = (piece : List ℕ) × (name ≡ piece ++ rest) × IsText item piece

rests-sound : (name rest : List ℕ) → In (rests name) rest → (piece : List ℕ) × (name ≡ piece ++ rest)
rests-sound [] rest (inl e) = ([], e)
rests-sound [] rest (inr h) = absurd h
rests-sound (b ∷ name) rest (inl e) = ([], e)
rests-sound (b ∷ name) rest (inr h) = let found = rests-sound name rest h in (b ∷ found.0, ap (λ n. b ∷ n) found.1)

rests-self : (rest : List ℕ) → In (rests rest) rest
rests-self [] = inl refl
rests-self (b ∷ rest) = inl refl

rests-complete : (piece rest : List ℕ) → In (rests (piece ++ rest)) rest
rests-complete [] rest = rests-self rest
rests-complete (b ∷ piece) rest = inr (rests-complete piece rest)

after_text-sound : (name text rest : List ℕ) → In (after_text name text) rest → name ≡ text ++ rest
after_text-sound name text rest h = go (bytes_eq (take (length text) name) text) refl h where
  go : (t : Bool) → bytes_eq (take (length text) name) text ≡ t → In (if t then drop (length text) name ∷ [] else []) rest → name ≡ text ++ rest
  go true e (inl left) =
      let same : take (length text) name ≡ text = (bytes_eq-Decides (take (length text) name) text).0 e in
      sym (take-append-drop (length text) name) ∙ ap (λ t. t ++ drop (length text) name) same ∙ ap (λ r. text ++ r) left
  go true e (inr h) = absurd h
  go false e h = absurd h

after_text-complete : (text rest : List ℕ) → In (after_text (text ++ rest) text) rest
after_text-complete text rest =
    let same = (bytes_eq-Decides (take (length text) (text ++ rest)) text).1 (take-append_seam text rest) in
    rw same (inl (drop-append_seam text rest))

-- what the matcher takes as the rests are these
after_item-sound : (item : Item) (name rest : List ℕ) → In (after_item item name) rest → AfterItem item name rest
after_item-sound star name rest h = let found = rests-sound name rest h in (found.0, found.1, tt)
after_item-sound (choice texts) name rest h =
    let found = In-flat_map (after_text name) (slice_split is_comma texts) rest h in
    (found.0, after_text-sound name found.0 rest found.2, In-Contains (slice_split is_comma texts) found.0 found.1)
after_item-sound any [] rest h = absurd h
after_item-sound any (b ∷ name) rest (inl e) = (b ∷ [], ap (λ r. b ∷ r) e, refl)
after_item-sound any (b ∷ name) rest (inr h) = absurd h
after_item-sound (set list) [] rest h = absurd h
after_item-sound (set list) (b ∷ name) rest h = go (is_in_set list b) refl h where
  go : (t : Bool) → is_in_set list b ≡ t → In (if t then name ∷ [] else []) rest → AfterItem (set list) (b ∷ name) rest
  go true e (inl left) = (b ∷ [], ap (λ r. b ∷ r) left, (b, refl, e))
  go true e (inr h) = absurd h
  go false e h = absurd h
after_item-sound (plain own) [] rest h = absurd h
after_item-sound (plain own) (b ∷ name) rest h = go (b == own) refl h where
  go : (t : Bool) → (b == own) ≡ t → In (if t then name ∷ [] else []) rest → AfterItem (plain own) (b ∷ name) rest
  go true e (inl left) = let same : b ≡ own = grind (arith, nat_tests) in (b ∷ [], ap (λ r. b ∷ r) left, ap (λ x. x ∷ []) same)
  go true e (inr h) = absurd h
  go false e h = absurd h

after_item-complete : (item : Item) (piece rest : List ℕ) → IsText item piece → In (after_item item (piece ++ rest)) rest
after_item-complete star piece rest text = rests-complete piece rest
after_item-complete (choice texts) piece rest (k, below, at) =
    flat_map-In (after_text (piece ++ rest)) (slice_split is_comma texts) piece rest (Contains-In (slice_split is_comma texts) piece k below at)
    (after_text-complete piece rest)
after_item-complete any [] rest text = absurd (omega arith)
after_item-complete any (b ∷ []) rest text = inl refl
after_item-complete any (b ∷ c ∷ piece) rest text = absurd (omega arith)
after_item-complete (set list) piece rest (b, e, within) = rw e (rw within (inl refl))
after_item-complete (plain own) piece rest text = rw text (let same : (own == own) ≡ true = grind (arith, nat_tests) in rw same (inl refl))

-- where the matcher says yes, there is a cut
pub match_items-sound : (items : List Item) (name : List ℕ) → match_items items name ≡ true → MatchPart items name
match_items-sound [] [] h = refl
match_items-sound [] (b ∷ name) h = absurd (cc)
match_items-sound (item ∷ items) name h =
    let found = any-In (match_items items) (after_item item name) h in
    let cut = after_item-sound item name found.0 found.1 in
    (cut.0, found.0, cut.1, cut.2, match_items-sound items found.0 found.2)

-- where there is a cut, the matcher says yes
pub match_items-complete : (items : List Item) (name : List ℕ) → MatchPart items name → match_items items name ≡ true
match_items-complete [] name h = rw h refl
match_items-complete (item ∷ items) name (piece, rest, cut, text, more) =
    rw cut (In-any (match_items items) (after_item item (piece ++ rest)) rest (after_item-complete item piece rest text) (match_items-complete items rest more))
