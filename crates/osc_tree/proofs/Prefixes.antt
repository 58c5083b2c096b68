-- The prefixes of an address by parts.
use Rattle.std.proofs.Common.{◌≡◌, ℕ, Bool, true, false, cond, ◌||◌, ◌&&◌, nat_eq, List, [], ◌∷◌, ◌++◌, map, refl, sym, ap, ◌∙◌, arith}
use Rattle.std.specs.List.{list_any, slice_split, onto_first}
use Rattle.std.specs.Str.{bytes_eq}
use Rattle.std.proofs.lemmas.Bool.Decides.{nat_tests}
use Rattle.std.proofs.Math.Bool.{and-false}
use Rattle.std.proofs.lemmas.List.{map-id}
use Rattle.osc_pattern.specs.Items.{is_slash}
use Rattle.osc_pattern.specs.Patterns.{begins_with_slash}
use Rattle.osc_pattern.specs.Addresses.{is_proper_prefix}
use Rattle.osc_pattern.specs.Methods.{runs_of, prefixes_of}
use Rattle.osc_pattern.proofs.Parts.{split-cons}

pub map-map : {X Y Z : Type 0} (g : Y → Z) (f : X → Y) (xs : List X) → map g (map f xs) ≡ map (λ x. g (f x)) xs
map-map g f [] = refl
map-map g f (x ∷ xs) = ap (λ l. g (f x) ∷ l) (map-map g f xs)

pub list_any-map : {X Y : Type 0} (view : X → Y) (test : Y → Bool) (xs : List X) → list_any test (map view xs) ≡ list_any (λ x. test (view x)) xs
list_any-map view test [] = refl
list_any-map view test (x ∷ xs) = ap (λ b. test (view x) || b) (list_any-map view test xs)

-- what stands before each slash of a text, and the whole text
abbrev pub ends : List ℕ → List (List ℕ)
ends [] = [] ∷ []
ends (byte ∷ rest) = cond (is_slash byte) ([] ∷ map (λ text. byte ∷ text) (ends rest)) (map (λ text. byte ∷ text) (ends rest))

-- the runs of names, without the slash that each begins with
abbrev inner : List (List ℕ) → List (List ℕ)
inner [] = []
inner (name ∷ names) = name ∷ map (λ more. name ++ more) (runs_of names)

runs_inner : (names : List (List ℕ)) → runs_of names ≡ map (λ text. 47 ∷ text) (inner names)
runs_inner [] = refl
runs_inner (name ∷ names) = ap (λ l. (47 ∷ name) ∷ l) (sym (map-map (λ text. 47 ∷ text) (λ more. name ++ more) (runs_of names)))

inner_onto : (byte : ℕ) (names : List (List ℕ)) (first : List ℕ) (others : List (List ℕ)) → names ≡ first ∷ others
    → inner (onto_first byte names) ≡ map (λ text. byte ∷ text) (inner names)
inner_onto byte names first others e = rw e (ap (λ l. (byte ∷ first) ∷ l) (sym (map-map (λ text. byte ∷ text) (λ more. first ++ more) (runs_of others))))

pub is_slash-true : (byte : ℕ) → is_slash byte ≡ true → 47 ≡ byte
is_slash-true byte e = grind (arith, nat_tests)

inner_ends : (rest : List ℕ) → inner (slice_split is_slash rest) ≡ ends rest
inner_ends [] = refl
inner_ends (byte ∷ rest) = go (is_slash byte) refl (inner_ends rest) where
  go : (t : Bool) → is_slash byte ≡ t → inner (slice_split is_slash rest) ≡ ends rest
      → inner (cond t ([] ∷ slice_split is_slash rest) (onto_first byte (slice_split is_slash rest)))
      ≡ cond t ([] ∷ map (λ text. byte ∷ text) (ends rest)) (map (λ text. byte ∷ text) (ends rest))
  go true e more =
      ap (λ l. [] ∷ l)
      (map-id (runs_of (slice_split is_slash rest)) ∙ runs_inner (slice_split is_slash rest) ∙ ap (map (λ text. 47 ∷ text)) more
      ∙ ap (λ (b : ℕ). map (λ text. b ∷ text) (ends rest)) (is_slash-true byte e))
  go false e more =
      let first = split-cons rest in
      inner_onto byte (slice_split is_slash rest) first.0 first.1 first.2 ∙ ap (map (λ text. byte ∷ text)) more

-- the prefixes of an address end before a slash or at its end
pub prefixes_are : (rest : List ℕ) → prefixes_of (47 ∷ rest) ≡ map (λ text. 47 ∷ text) (ends rest)
prefixes_are rest = runs_inner (slice_split is_slash rest) ∙ ap (map (λ text. 47 ∷ text)) (inner_ends rest)

none_empty : (byte : ℕ) (texts : List (List ℕ)) → list_any (bytes_eq []) (map (λ text. byte ∷ text) texts) ≡ false
none_empty byte [] = refl
none_empty byte (text ∷ texts) = none_empty byte texts

any_onto : (a b : ℕ) (q : List ℕ) (texts : List (List ℕ))
    → list_any (bytes_eq (a ∷ q)) (map (λ text. b ∷ text) texts) ≡ (nat_eq a b && list_any (bytes_eq q) texts)
any_onto a b q [] = sym (and-false (nat_eq a b))
any_onto a b q (text ∷ texts) = let more = any_onto a b q texts in grind (arith, nat_tests)

-- a text is one of them where it is the whole text, or a proper prefix of it
member : (q rest : List ℕ) → list_any (bytes_eq q) (ends rest) ≡ (bytes_eq q rest || is_proper_prefix q rest)
member [] [] = refl
member (a ∷ q) [] = refl
member [] (byte ∷ rest) = go (is_slash byte) refl where
  go : (t : Bool) → is_slash byte ≡ t → list_any (bytes_eq []) (cond t ([] ∷ map (λ text. byte ∷ text) (ends rest)) (map (λ text. byte ∷ text) (ends rest)))
      ≡ (nat_eq 47 byte && true)
  go true e = grind (arith, nat_tests)
  go false e = none_empty byte (ends rest) ∙ grind (arith, nat_tests)
member (a ∷ q) (byte ∷ rest) =
    go (is_slash byte) ∙ ap (λ b. nat_eq a byte && b) (member q rest) ∙ distribute (nat_eq a byte) (bytes_eq q rest) (is_proper_prefix q rest)
  where
    distribute : (a b c : Bool) → (a && (b || c)) ≡ ((a && b) || (a && c))
    distribute true b c = refl
    distribute false b c = refl

    go : (t : Bool) → list_any (bytes_eq (a ∷ q)) (cond t ([] ∷ map (λ text. byte ∷ text) (ends rest)) (map (λ text. byte ∷ text) (ends rest)))
        ≡ (nat_eq a byte && list_any (bytes_eq q) (ends rest))
    go true = any_onto a byte q (ends rest)
    go false = any_onto a byte q (ends rest)

-- an address has a prefix by parts where it is that prefix, or the prefix is above it
pub has_prefix_is : (prefix address : List ℕ) → begins_with_slash prefix ≡ true → begins_with_slash address ≡ true
    → list_any (bytes_eq prefix) (prefixes_of address) ≡ (bytes_eq prefix address || is_proper_prefix prefix address)
has_prefix_is [] address first second = absurd (cc)
has_prefix_is (a ∷ q) [] first second = absurd (cc)
has_prefix_is (a ∷ q) (b ∷ rest) first second = go a b (is_slash-true a first) (is_slash-true b second) where
  go : (a b : ℕ) → 47 ≡ a → 47 ≡ b → list_any (bytes_eq (a ∷ q)) (prefixes_of (b ∷ rest)) ≡ (bytes_eq (a ∷ q) (b ∷ rest) || is_proper_prefix (a ∷ q) (b ∷ rest))
  go a b e f =
      rw (← e, ← f) (ap (list_any (bytes_eq (47 ∷ q))) (prefixes_are rest) ∙ any_onto 47 47 q (ends rest) ∙ member q rest)
