-- Entries are read one after another, however many more may be read.
use Rattle.std.proofs.Common.{◌≡◌, ℕ, ◌+◌, ◌-◌, ◌<◌, ◌≤◌, true, zero, suc, List, [], ◌∷◌, length, take, drop, Option, Some, None, Ok, Err, Result, refl, sym}
use Rattle.std.proofs.Common.{ap, ◌∙◌, arith, length-drop}
use Rattle.std.specs.Prelude.{IsTrue, is_ok}
use Rattle.std.proofs.lemmas.List.{drop-drop, take_all}
use Rattle.osc_model.specs.Events.{Entry as Recorded}
use Rattle.osc_record.specs.declared.version.Version.{Version}
use Rattle.osc_record.specs.Versions.{header_size_of}
use Rattle.osc_record.specs.Reading.{entry_first, Placed, onto_read, before_read, entries_read, entries_at, entries_after, outcome, placed_in}
use Rattle.osc_record.proofs.Again.{first_more}
use Rattle.osc_model.specs.Limits.{Limits}

-- no more is read than there are bytes
pub enough : (version : Version) (most more limit place : ℕ) (bytes : List ℕ) → length bytes ≤ most → length bytes ≤ more
    → entries_read version most limit place bytes ≡ entries_read version more limit place bytes
enough version zero zero limit place [] a b = refl
enough version zero (suc more) limit place [] a b = refl
enough version (suc most) zero limit place [] a b = refl
enough version (suc most) (suc more) limit place [] a b = refl
enough version zero more limit place (byte ∷ bytes) a b = absurd (omega arith)
enough version (suc most) zero limit place (byte ∷ bytes) a b = absurd (omega arith)
enough version (suc most) (suc more) limit place (byte ∷ bytes) a b =
    go (entry_first version limit place (byte ∷ bytes)) refl
    (λ size some. enough version most more limit (place + size) (drop size (byte ∷ bytes)) (omega (arith, length-drop size (byte ∷ bytes)))
    (omega (arith, length-drop size (byte ∷ bytes))))
  where
    go : (o : Option (Recorded × ℕ)) → entry_first version limit place (byte ∷ bytes) ≡ o
        → ((size : ℕ) → 4 ≤ size → entries_read version most limit (place + size) (drop size (byte ∷ bytes))
        ≡ entries_read version more limit (place + size) (drop size (byte ∷ bytes)))
        → before_read place o (λ size. entries_read version most limit (place + size) (drop size (byte ∷ bytes)))
        ≡ before_read place o (λ size. entries_read version more limit (place + size) (drop size (byte ∷ bytes)))
    go None is rest = refl
    go (Some first) is rest = ap (onto_read (record { at = place; entry = first.0 }))
        (rest first.1 (first_more version limit place (byte ∷ bytes) [] first is).2)

-- the first entry, and those after it
pub at_first : (version : Version) (limit place : ℕ) (bytes : List ℕ) (first : Recorded × ℕ) → 0 < length bytes
    → entry_first version limit place bytes ≡ Some first
    → entries_at version limit place bytes ≡ onto_read (record { at = place; entry = first.0 })
    (entries_at version limit (place + first.1) (drop first.1 bytes))
at_first version limit place [] first some is = absurd (omega arith)
at_first version limit place (byte ∷ bytes) first some is =
    let size = (first_more version limit place (byte ∷ bytes) [] first is).2 in
    ap (λ o. before_read place o (λ size. entries_read version (length bytes) limit (place + size) (drop size (byte ∷ bytes)))) is
    ∙ ap (onto_read (record { at = place; entry = first.0 }))
    (enough version (length bytes) (length (drop first.1 (byte ∷ bytes))) limit (place + first.1) (drop first.1 (byte ∷ bytes))
    (omega (arith, length-drop first.1 (byte ∷ bytes))) (omega arith))

-- no entry stands first
pub at_none : (version : Version) (limit place : ℕ) (bytes : List ℕ) → 0 < length bytes → entry_first version limit place bytes ≡ None
    → entries_at version limit place bytes ≡ Err place
at_none version limit place [] some is = absurd (omega arith)
at_none version limit place (byte ∷ bytes) some is =
    ap (λ o. before_read place o (λ size. entries_read version (length bytes) limit (place + size) (drop size (byte ∷ bytes)))) is

-- those after a header
pub after_is : (version : Version) (limits : Limits) (bytes : List ℕ)
    → entries_after version limits bytes ≡ entries_at version limits.recording (header_size_of version) (drop (header_size_of version) bytes)
after_is version limits bytes =
    enough version (length bytes) (length (drop (header_size_of version) bytes)) limits.recording (header_size_of version)
    (drop (header_size_of version) bytes) (omega (arith, length-drop (header_size_of version) bytes))
    (omega arith)

outcome_of : (first : Placed) (r : Result (List Placed) ℕ) → outcome (onto_read first r) ≡ outcome r
outcome_of first (Ok entries) = refl
outcome_of first (Err at) = refl

-- one more entry is passed
pub passed : (version : Version) (limit place : ℕ) (bytes : List ℕ) (first : Recorded × ℕ) → place < length bytes
    → entry_first version limit place (drop place bytes) ≡ Some first
    → outcome (entries_at version limit place (drop place bytes)) ≡ outcome (entries_at version limit (place + first.1) (drop (place + first.1) bytes))
passed version limit place bytes first some is =
    ap outcome (at_first version limit place (drop place bytes) first (omega (arith, length-drop place bytes)) is)
    ∙ outcome_of (record { at = place; entry = first.0 }) (entries_at version limit (place + first.1) (drop first.1 (drop place bytes)))
    ∙ ap (λ l. outcome (entries_at version limit (place + first.1) l)) (drop-drop first.1 place bytes)

ok_outcome : (r : Result (List Placed) ℕ) → is_ok (outcome r) ≡ is_ok r
ok_outcome (Ok entries) = refl
ok_outcome (Err at) = refl

-- behind the first entry of those that are read others are read
pub rest_read : (version : Version) (limit place : ℕ) (bytes : List ℕ) (first : Recorded × ℕ) → place < length bytes
    → entry_first version limit place (drop place bytes) ≡ Some first
    → IsTrue (is_ok (entries_at version limit place (drop place bytes)))
    → IsTrue (is_ok (entries_at version limit (place + first.1) (drop (place + first.1) bytes)))
rest_read version limit place bytes first some is read =
    sym (ok_outcome (entries_at version limit (place + first.1) (drop (place + first.1) bytes)))
    ∙ ap is_ok (sym (passed version limit place bytes first some is))
    ∙ ok_outcome (entries_at version limit place (drop place bytes))
    ∙ read

placed_onto : (first : Placed) (r : Result (List Placed) ℕ) → is_ok r ≡ true → placed_in (onto_read first r) ≡ first ∷ placed_in r
placed_onto first (Ok entries) read = refl
placed_onto first (Err at) read = absurd (cc)

-- the first entry of those that are read, and the others
pub left_first : (version : Version) (limit place : ℕ) (bytes : List ℕ) (first : Recorded × ℕ) → place < length bytes
    → entry_first version limit place (drop place bytes) ≡ Some first
    → IsTrue (is_ok (entries_at version limit place (drop place bytes)))
    → placed_in (entries_at version limit place (drop place bytes))
    ≡ record { at = place; entry = first.0 } ∷ placed_in (entries_at version limit (place + first.1) (drop (place + first.1) bytes))
left_first version limit place bytes first some is read =
    ap placed_in (at_first version limit place (drop place bytes) first (omega (arith, length-drop place bytes)) is
    ∙ ap (λ l. onto_read (record { at = place; entry = first.0 }) (entries_at version limit (place + first.1) l)) (drop-drop first.1 place bytes))
    ∙ placed_onto (record { at = place; entry = first.0 }) (entries_at version limit (place + first.1) (drop (place + first.1) bytes))
    (rest_read version limit place bytes first some is read)

-- the bytes from a place on, as a slice of all has them
pub slice_rest : (place : ℕ) (bytes : List ℕ) → take (length bytes - place) (drop place bytes) ≡ drop place bytes
slice_rest place bytes = take_all (length bytes - place) (drop place bytes) (omega (arith, length-drop place bytes))
