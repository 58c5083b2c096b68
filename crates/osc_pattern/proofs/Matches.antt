-- A part matches by its first item, and then by the rest.
use Rattle.std.proofs.Common.{◌≡◌, ◌⊎◌, inl, inr, Bor, ℕ, Bool, true, false, ◌||◌, ◌&&◌, ◌==◌, Some, None, Result, Ok, Err, List, [], ◌∷◌, length, refl, arith}
use Rattle.std.proofs.Common.{sym, ap, ◌∙◌, get_or}
use Rattle.std.specs.List.{list_any}
use Rattle.std.proofs.lemmas.Bool.Decides.{nat_tests}
use Rattle.osc_pattern.specs.Items.{Item, star}
use Rattle.osc_pattern.specs.Cuts.{rests, has_byte, after_byte, after_item}
use Rattle.osc_pattern.specs.Reading.{first_item, with_first, read_part, match_read, match_part}
use Rattle.osc_pattern.specs.declared.item.Item.{Item as Borrowed}
use Rattle.osc_pattern.specs.declared.item.Item.TheVariants.{Star}
use Rattle.osc_pattern.specs.declared.item.Item.TheVariants.{Any, Set, Plain}
use Rattle.osc_pattern.specs.Views.{item_of}
use Rattle.osc_pattern.proofs.Readings.{read_part-item, read_part-nil, read_part-stuck}

pub never : (xs : List (List ℕ)) → list_any (λ name. false) xs ≡ false
never [] = refl
never (x ∷ xs) = never xs

by_first : (item : Item) (r : Result (List Item) ℕ) (name : List ℕ)
    → match_read (with_first (Some (item, r))) name ≡ list_any (match_read r) (after_item item name)
by_first item (Ok items) name = refl
by_first item (Err at) name = sym (never (after_item item name))

-- a part matches where the rest matches what is left after a text of the first item
pub match_part-item : (part : List ℕ) (item : Item) (rest name : List ℕ) → first_item part ≡ Some (item, rest)
    → match_part part name ≡ list_any (match_part rest) (after_item item name)
match_part-item part item rest name e = ap (λ r. match_read r name) (read_part-item part item rest e) ∙ by_first item (read_part rest) name

-- a part that begins with no item matches nothing, but the empty one matches the empty name
pub match_part-stuck : (part name : List ℕ) → first_item part ≡ None → match_part part name ≡ (length part == 0 && length name == 0)
match_part-stuck [] [] e = ap (λ r. match_read r []) read_part-nil
match_part-stuck [] (b ∷ name) e = ap (λ r. match_read r (b ∷ name)) read_part-nil
    ∙ (let t : (length (b ∷ name) == 0) ≡ false = grind (arith, nat_tests) in sym t)
match_part-stuck (x ∷ xs) name e = ap (λ r. match_read r name) (read_part-stuck x xs e)
    ∙ (let t : (length (x ∷ xs) == 0) ≡ false = grind (arith, nat_tests) in rw t refl)

-- an item that matches single bytes
abbrev pub IsSingle : Borrowed → Type 0
IsSingle item = (item ≡ Any) ⊎ (((list : Bor (List ℕ)) × (item ≡ Set list)) ⊎ ((byte : ℕ) × (item ≡ Plain byte)))

pub after_item-byte : (item : Borrowed) (name : List ℕ) → IsSingle item
    → after_byte (item_of item) name ≡ after_item (item_of item) name
after_item-byte item name (inl e) = rw e refl
after_item-byte item name (inr (inl (list, e))) = rw e refl
after_item-byte item name (inr (inr (byte, e))) = rw e refl

-- a part that begins with an item of single bytes
byte_item : (part : List ℕ) (item : Borrowed) (others name : List ℕ) → first_item part ≡ Some (item_of item, others) → IsSingle item
    → match_part part name ≡ list_any (match_part others) (after_byte (item_of item) name)
byte_item part item others name found single = match_part-item part (item_of item) others name found
    ∙ ap (list_any (match_part others)) (sym (after_item-byte item name single))

pub own_byte : (part : List ℕ) (item : Borrowed) (others name : List ℕ) (byte : ℕ) (rest : List ℕ) → first_item part ≡ Some (item_of item, others)
    → IsSingle item → name ≡ byte ∷ rest → has_byte (item_of item) byte ≡ true → match_part part name ≡ match_part others rest
own_byte part item others name byte rest found single spelled has =
    byte_item part item others name found single ∙ ap (λ n. list_any (match_part others) (after_byte (item_of item) n)) spelled
    ∙ rw has (go (match_part others rest))
  where
    go : (t : Bool) → (t || false) ≡ t
    go true = refl
    go false = refl

pub other_byte : (part : List ℕ) (item : Borrowed) (others name : List ℕ) (byte : ℕ) (rest : List ℕ) → first_item part ≡ Some (item_of item, others)
    → IsSingle item → name ≡ byte ∷ rest → has_byte (item_of item) byte ≡ false → match_part part name ≡ false
other_byte part item others name byte rest found single spelled has =
    byte_item part item others name found single ∙ ap (λ n. list_any (match_part others) (after_byte (item_of item) n)) spelled ∙ rw has refl

pub no_byte : (part : List ℕ) (item : Borrowed) (others name : List ℕ) → first_item part ≡ Some (item_of item, others) → IsSingle item
    → name ≡ [] → match_part part name ≡ false
no_byte part item others name found single empty = byte_item part item others name found single
    ∙ ap (λ n. list_any (match_part others) (after_byte (item_of item) n)) empty

-- a star alone matches each name
star_last : (name : List ℕ) → list_any (match_part []) (rests name) ≡ true
star_last [] = ap (λ r. match_read r [] || false) read_part-nil
star_last (x ∷ name) = go (match_part [] (x ∷ name)) (star_last name) where
  go : (t : Bool) → list_any (match_part []) (rests name) ≡ true → (t || list_any (match_part []) (rests name)) ≡ true
  go true e = refl
  go false e = e

-- and so does a part whose last item is a star, what is left of a name
pub star_at_end : (part others name : List ℕ) (item : Borrowed) → first_item part ≡ Some (item_of item, others) → item ≡ Star
    → length others ≡ 0 → match_part part name ≡ true
star_at_end part [] name item found is none = match_part-item part star [] name (found ∙ ap (λ i. Some (item_of i, [])) is) ∙ star_last name
star_at_end part (x ∷ others) name item found is none = absurd (omega arith)

pub star_matches : (part name : List ℕ) → length part ≡ 1 → get_or part 0 0 ≡ 42 → match_part part name ≡ true
star_matches [] name one is = absurd (omega arith)
star_matches (x ∷ []) name one is =
    ap (λ b. match_part (b ∷ []) name) is ∙ match_part-item (42 ∷ []) star [] name refl ∙ star_last name
star_matches (x ∷ y ∷ part) name one is = absurd (omega arith)
