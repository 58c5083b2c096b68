-- Patterns: a slash before each part.
use Rattle.std.specs.Prelude.{◌≡◌, ℕ, ◌+◌, Bool, true, false, ◌&&◌, ◌||◌, ◌==◌, not, nat_le, IsTrue}
use Rattle.std.specs.Prelude.{if◌then◌else◌, List, [], ◌∷◌, ◌++◌, length, slice_get, unwrap_or}
use Rattle.std.specs.Prelude.{position, All, Option, Some, None, is_none, option_map, Result, Ok}
use Rattle.std.specs.Prelude.{Err, ◌⊎◌}
use Rattle.std.specs.List.{flat_map, list_all, list_any, slice_split}
use Rattle.osc_pattern.specs.declared.faults.PatternFault.{PatternFault}
use Rattle.osc_pattern.specs.Items.{Item, item_text, is_item, is_slash, is_list_end, is_choice_end}
use Rattle.osc_pattern.specs.Parts.{IsLawfulPart, MatchesName}
use Rattle.osc_pattern.specs.Reading.{read_part, match_part}

-- whether the first byte is a slash
abbrev pub begins_with_slash : List ℕ → Bool
begins_with_slash [] = false
begins_with_slash (first ∷ rest) = is_slash first

-- a pattern or an address cut at its slashes, one part for each slash
abbrev pub parts_of : List ℕ → List (List ℕ)
parts_of [] = []
parts_of (slash ∷ rest) = slice_split is_slash rest

-- a part by its place, counted from 0
abbrev pub part_at : List ℕ → ℕ → List ℕ
part_at pattern place = unwrap_or (slice_get (parts_of pattern) place) []

-- a byte that no pattern has
abbrev pub is_outside : ℕ → Bool
is_outside byte = not (nat_le 0x20 byte && nat_le byte 0x7e)

-- a pattern begins with a slash, has bytes from 0x20 to 0x7e, and each part is made of items
pub record IsPattern (bytes : List ℕ) : Type 0 where
  pub slash : IsTrue (begins_with_slash bytes)
  pub inside : list_any is_outside bytes ≡ false
  pub parts : All IsLawfulPart (parts_of bytes)

-- a byte that begins an item of its own
abbrev pub is_special : ℕ → Bool
is_special byte = byte == 63 || byte == 42 || byte == 91 || byte == 123

-- there are as many parts as names, and each part matches the name at its place
abbrev pub MatchParts : List (List ℕ) → List (List ℕ) → Type 0
MatchParts [] [] = Unit {0}
MatchParts [] (name ∷ names) = ⊥
MatchParts (part ∷ parts) [] = ⊥
MatchParts (part ∷ parts) (name ∷ names) = MatchesName part name × MatchParts parts names

-- the pattern matches the address
abbrev pub Match : List ℕ → List ℕ → Type 0
Match pattern address = MatchParts (parts_of pattern) (parts_of address)

-- whether there are as many parts as names, and each part matches the name at its place
abbrev pub match_parts : List (List ℕ) → List (List ℕ) → Bool
match_parts [] [] = true
match_parts [] (name ∷ names) = false
match_parts (part ∷ parts) [] = false
match_parts (part ∷ parts) (name ∷ names) = match_part part name && match_parts parts names

-- whether the pattern matches the address
abbrev pub matches : List ℕ → List ℕ → Bool
matches pattern address = match_parts (parts_of pattern) (parts_of address)

-- a bracket or a brace with nothing after it that closes it
abbrev pub IsUnclosed : ℕ → List ℕ → Type 0
IsUnclosed first rest = ((first ≡ 91) × (list_any is_list_end rest ≡ false))
    ⊎ ((first ≡ 123) × (list_any is_choice_end rest ≡ false))

-- after whole parts and whole items stands a bracket or a brace that isn't closed, at this place,
-- with a slash before each part
pub record IsOpenAt (parts : List (List ℕ)) (at : ℕ) : Type 0 where
  pub before : List (List ℕ)
  pub items : List Item
  pub first : ℕ
  pub rest : List ℕ
  pub after : List (List ℕ)
  pub cut : parts ≡ before ++ (flat_map item_text items ++ first ∷ rest) ∷ after
  pub whole : All IsLawfulPart before
  pub lawful : IsTrue (list_all is_item items)
  pub unclosed : IsUnclosed first rest
  pub place : at ≡ length (flat_map (λ part. 47 ∷ part) before)
      + (1 + length (flat_map item_text items))

-- the first fault of a pattern: no slash first (4), else the first byte out of range (10), else the
-- first bracket or brace that isn't closed (11)
pub data IsFault (bytes : List ℕ) : ℕ → ℕ → Type 0 where
  start : begins_with_slash bytes ≡ false → IsFault bytes 4 0
  byte : (at : ℕ) → begins_with_slash bytes ≡ true → position is_outside bytes ≡ Some at
      → IsFault bytes 10 at
  unclosed : (at : ℕ) → begins_with_slash bytes ≡ true → list_any is_outside bytes ≡ false
      → IsOpenAt (parts_of bytes) at → IsFault bytes 11 at

-- the place in this part of a bracket that isn't closed, or else the place in the later parts; each
-- part has a slash before it
abbrev pub open_in : Result (List Item) ℕ → ℕ → Option ℕ → Option ℕ
open_in (Ok items) size later = option_map (λ at. size + (1 + at)) later
open_in (Err at) size later = Some (1 + at)

-- the place of the first bracket that isn't closed
abbrev pub open_place : List (List ℕ) → Option ℕ
open_place [] = None
open_place (part ∷ parts) = open_in (read_part part) (length part) (open_place parts)

-- a byte out of range is the fault, or else a bracket that isn't closed
abbrev pub fault_after : Option ℕ → Option ℕ → Option PatternFault
fault_after (Some at) opening = Some (record { kind = 10; at = at })
fault_after None opening = option_map (λ at. record { kind = 11; at = at }) opening

-- the first fault of a pattern, if it has one
abbrev pub pattern_fault : List ℕ → Option PatternFault
pattern_fault bytes =
    if begins_with_slash bytes
    then fault_after (position is_outside bytes) (open_place (parts_of bytes))
    else Some (record { kind = 4; at = 0 })

-- whether the bytes are a pattern
abbrev pub is_pattern : List ℕ → Bool
is_pattern bytes = is_none (pattern_fault bytes)
