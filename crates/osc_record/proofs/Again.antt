-- An entry that is written is read again, and entries are read one after another.
use Rattle.std.proofs.Common.{◌≡◌, ℕ, ◌+◌, ◌%◌, ◌<◌, ◌≤◌, ◌^◌, Bool, true, false, ◌&&◌, cond, ◌==◌, zero, suc, List, [], ◌∷◌, ◌++◌, length, take, drop, Option}
use Rattle.std.proofs.Common.{Some, None, Ok, Err, Result, refl, sym, ap, ◌∙◌, subst, arith, length-append, eq-eqb, lt-ltb, le-leb, leb-true, append-nil}
use Rattle.std.specs.Prelude.{option_map, option_and_then, nat_lt, nat_le, if◌then◌else◌}
use Rattle.std.specs.Option.{option_map_or}
use Rattle.std.specs.Int.{w32, to_be_bytes, from_be_bytes}
use Rattle.std.proofs.lemmas.Nat.{from_be_bytes-to_be_bytes_4}
use Rattle.std.proofs.lemmas.Bool.{cond-true}
use Rattle.std.proofs.lemmas.List.{length-drop, length-take-le, take-append-le, drop-append-le}
use Rattle.std.proofs.lemmas.Option.{same_Some, none-some}
use Rattle.osc_message.specs.Messages.{known}
use Rattle.osc_message.proofs.MessageLaws.{text_fours, text_some}
use Rattle.osc_model.specs.Events.{Event, Answer}
use Rattle.osc_model.specs.Events.{Entry as Recorded}
use Rattle.osc_model.specs.Recordings.{Row, row_text, sized, FitsRow, IsRecordable, entry_text}
use Rattle.osc_record.specs.declared.version.Version.{Version}
use Rattle.osc_record.specs.declared.version.Version.TheVariants.{Second}
use Rattle.osc_record.specs.Versions.{row_in, text_in, IsRecordableIn}
use Rattle.osc_record.specs.Reading.{entry_of, bytes_of_size, message_first, entry_in, entry_first, Placed, onto_read, before_read, entries_read}
use Rattle.osc_record.proofs.Lawful.{LawfulRow, ReadAs, row_again}
use Rattle.osc_record.proofs.Written.{fits_in, lawful_in, again_in}

pub take_front : (front back : List ℕ) → take (length front) (front ++ back) ≡ front
take_front [] back = refl
take_front (x ∷ front) back = ap (λ (l : List ℕ). x ∷ l) (take_front front back)

pub drop_front : (front back : List ℕ) → drop (length front) (front ++ back) ≡ back
drop_front [] back = refl
drop_front (x ∷ front) back = drop_front front back

all_three : (a b c : Bool) → a ≡ true → b ≡ true → c ≡ true → (a && b && c) ≡ true
all_three a b c p q r = rw (p, q, r) refl

pub each_of_three : (a b c : Bool) → (a && b && c) ≡ true → (a ≡ true) × (b ≡ true) × (c ≡ true)
each_of_three true true true is = (refl, refl, refl)
each_of_three true true false is = absurd (cc)
each_of_three true false c is = absurd (cc)
each_of_three false b c is = absurd (cc)

pub cond_gives : {X : Type 0} (b : Bool) (o : Option X) (x : X) → cond b o None ≡ Some x → (b ≡ true) × (o ≡ Some x)
cond_gives true o x is = (refl, is)
cond_gives false o x is = absurd (cc)

-- bytes after their size are read
pub message_again : (bytes rest : List ℕ) → 0 < length bytes → length bytes % 4 ≡ 0 → length bytes < 2 ^ 32 → message_first (sized bytes ++ rest) ≡ Some bytes
message_again bytes rest some four small =
    let size : from_be_bytes w32 (to_be_bytes w32 (length bytes)) ≡ length bytes = from_be_bytes-to_be_bytes_4 (length bytes) small in
    let within : length bytes ≤ length (bytes ++ rest) = omega (arith, length-append bytes rest) in
    cond-true _ _ _ (le-leb 4 (length (sized bytes ++ rest)) (omega arith))
    ∙ ap (λ n. bytes_of_size n (bytes ++ rest)) size
    ∙ cond-true _ _ _
    (all_three _ _ _ (lt-ltb 0 (length bytes) some) (eq-eqb (length bytes % 4) 0 four) (le-leb (length bytes) (length (bytes ++ rest)) within))
    ∙ ap (λ l. Some l) (take_front bytes rest)

pub sized_length : (message : List ℕ) → 4 + length message ≡ length (sized message)
sized_length message = omega arith

-- an entry that is written is read, whatever follows it
pub entry_first_again : (version : Version) (caller : ℕ) (event : Event) (answer : Answer) (rest : List ℕ) (limit place : ℕ)
    → IsRecordableIn version caller event answer
    → place + length (text_in version caller event answer) ≤ limit → limit ≤ 1073741824
    → entry_first version limit place (text_in version caller event answer ++ rest)
    ≡ Some (record { caller = caller; event = event; answer = answer }, length (text_in version caller event answer))
entry_first_again version caller event answer rest limit place is fits small =
    go (row_in version caller event answer) (fits_in version caller event answer is) (lawful_in version caller event answer is)
    (again_in version caller event answer is) fits where
      go : (o : Option Row) → FitsRow o → LawfulRow o → ReadAs version (record { caller = caller; event = event; answer = answer }) o
          → place + length (option_map_or (λ row. sized (row_text row)) o []) ≤ limit
          → entry_first version limit place (option_map_or (λ row. sized (row_text row)) o [] ++ rest)
          ≡ Some (record { caller = caller; event = event; answer = answer }, length (option_map_or (λ row. sized (row_text row)) o []))
      go None f l r within = absurd f
      go (Some row) f l r within =
          let message : List ℕ = row_text row in
          let some : 0 < length message = text_some (known row.address row.arguments) l in
          let four : length message % 4 ≡ 0 = text_fours (known row.address row.arguments) l in
          let most : length message ≤ 1073741824 = omega (arith, length-append (to_be_bytes w32 (length message)) message) in
          let read : entry_of version message ≡ Some (record { caller = caller; event = event; answer = answer }) = row_again version row l most ∙ r in
          ap (option_and_then (λ m. if nat_le (place + 4 + length m) limit then option_map (λ entry. (entry, 4 + length m)) (entry_of version m) else None))
          (message_again message rest some four (omega arith))
          ∙ cond-true _ _ _ (le-leb (place + 4 + length message) limit (omega arith))
          ∙ ap (option_map (λ entry. (entry, 4 + length message))) read
          ∙ ap (λ (n : ℕ). Some (record { caller = caller; event = event; answer = answer }, n)) (sized_length message)

-- the message that bytes begin with is that of more bytes
pub message_more : (bytes next message : List ℕ) → message_first bytes ≡ Some message
    → (message_first (bytes ++ next) ≡ Some message) × (4 + length message ≤ length bytes)
message_more bytes next message is =
    let size = from_be_bytes w32 (take 4 bytes) in
    let outer = cond_gives (nat_le 4 (length bytes)) (bytes_of_size size (drop 4 bytes)) message is in
    let inner = cond_gives (nat_lt 0 size && size % 4 == 0 && nat_le size (length (drop 4 bytes))) (Some (take size (drop 4 bytes))) message outer.1 in
    let tests = each_of_three (nat_lt 0 size) (size % 4 == 0) (nat_le size (length (drop 4 bytes))) inner.0 in
    let four : 4 ≤ length bytes = leb-true 4 (length bytes) outer.0 in
    let within : size ≤ length (drop 4 bytes) = leb-true size (length (drop 4 bytes)) tests.2 in
    let same : take size (drop 4 bytes) ≡ message = same_Some _ _ inner.1 in
    let front : take 4 (bytes ++ next) ≡ take 4 bytes = take-append-le 4 bytes next four in
    let back : drop 4 (bytes ++ next) ≡ drop 4 bytes ++ next = drop-append-le 4 bytes next four in
    let longer : size ≤ length (drop 4 bytes ++ next) = omega (arith, length-append (drop 4 bytes) next) in
    let long : 4 ≤ length (bytes ++ next) = omega (arith, length-append bytes next) in (
      cond-true (nat_le 4 (length (bytes ++ next))) (bytes_of_size (from_be_bytes w32 (take 4 (bytes ++ next))) (drop 4 (bytes ++ next))) None
          (le-leb 4 (length (bytes ++ next)) long)
          ∙ (λ i. bytes_of_size (from_be_bytes w32 (front i)) (back i))
          ∙ cond-true (nat_lt 0 size && size % 4 == 0 && nat_le size (length (drop 4 bytes ++ next))) (Some (take size (drop 4 bytes ++ next))) None
          (all_three _ _ _ tests.0 tests.1 (le-leb size (length (drop 4 bytes ++ next)) longer))
          ∙ ap (λ (l : List ℕ). Some l) (take-append-le size (drop 4 bytes) next within)
          ∙ ap (λ (l : List ℕ). Some l) same,
      omega (arith, length-drop 4 bytes, length-take-le size (drop 4 bytes) within, ap length same),
    )

-- so is the entry
pub first_more : (version : Version) (limit place : ℕ) (bytes next : List ℕ) (first : Recorded × ℕ) → entry_first version limit place bytes ≡ Some first
    → (entry_first version limit place (bytes ++ next) ≡ Some first) × (first.1 ≤ length bytes) × (4 ≤ first.1)
first_more version limit place bytes next first is = go (message_first bytes) refl is where
  go : (o : Option (List ℕ)) → message_first bytes ≡ o
      → option_and_then (λ m. if nat_le (place + 4 + length m) limit then option_map (λ entry. (entry, 4 + length m))
      (entry_of version m) else None) o ≡ Some first
      → (entry_first version limit place (bytes ++ next) ≡ Some first) × (first.1 ≤ length bytes) × (4 ≤ first.1)
  go None found read = absurd (none-some first read)
  go (Some message) found read =
      let more = message_more bytes next message found in
      let inner = cond_gives (nat_le (place + 4 + length message) limit)
      (option_map (λ entry. (entry, 4 + length message)) (entry_of version message)) first read in
      let size : 4 + length message ≡ first.1 = sized_by (entry_of version message) inner.1 in (
        ap (option_and_then (λ m. if nat_le (place + 4 + length m) limit then option_map (λ entry. (entry, 4 + length m))
            (entry_of version m) else None)) more.0
            ∙ read,
        omega (arith, more.1),
        omega arith,
      )
    where
      sized_by : (o : Option Recorded) → option_map (λ entry. (entry, 4 + length message)) o ≡ Some first → 4 + length message ≡ first.1
      sized_by None e = absurd (none-some first e)
      sized_by (Some entry) e = ap (λ (p : Recorded × ℕ). p.1) (same_Some (entry, 4 + length message) first e)

read_none : (version : Version) (most limit place : ℕ) → entries_read version most limit place [] ≡ Ok []
read_none version zero limit place = refl
read_none version (suc most) limit place = refl

pub ok_is : {X : Type 0} (x y : X) → ◌≡◌ {A = Result X ℕ} (Ok x) (Ok y) → x ≡ y
ok_is x y e = cc

-- an entry alone is read
read_one : (version : Version) (most limit place : ℕ) (next : List ℕ) (entry : Recorded) → 0 < most → 0 < length next
    → entry_first version limit place next ≡ Some (entry, length next)
    → entries_read version most limit place next ≡ Ok (record { at = place; entry = entry } ∷ [])
read_one version most limit place [] entry some long first = absurd (omega arith)
read_one version zero limit place (byte ∷ next) entry some long first = absurd (omega arith)
read_one version (suc most) limit place (byte ∷ next) entry some long first =
    let all : List ℕ = byte ∷ next in
    let none : drop (length all) all ≡ [] = ap (drop (length all)) (sym (append-nil all)) ∙ drop_front all [] in
    ap (λ o. before_read place o (λ size. entries_read version most limit (place + size) (drop size all))) first
    ∙ ap (λ l. onto_read (record { at = place; entry = entry }) (entries_read version most limit (place + length all) l)) none
    ∙ ap (onto_read (record { at = place; entry = entry })) (read_none version most limit (place + length all))

-- what is read stays the same with one more entry behind it
pub entries_more : (version : Version) (most more limit place : ℕ) (bytes next : List ℕ) (xs : List Placed) (entry : Recorded)
    → entries_read version most limit place bytes ≡ Ok xs
    → most < more
    → entry_first version limit (place + length bytes) next ≡ Some (entry, length next) → 0 < length next
    → entries_read version more limit place (bytes ++ next) ≡ Ok (xs ++ record { at = place + length bytes; entry = entry } ∷ [])
entries_more version most zero limit place bytes next xs entry read fewer first some = absurd (omega arith)
entries_more version most (suc more) limit place [] next xs entry read fewer first some =
    let none : [] ≡ xs = ok_is [] xs (sym (read_none version most limit place) ∙ read) in
    let here : place + 0 ≡ place = omega arith in
    read_one version (suc more) limit place next entry (omega arith) some
    (subst (λ (p : ℕ). entry_first version limit p next ≡ Some (entry, length next)) here first)
    ∙ (λ i. Ok (none i ++ record { at = sym here i; entry = entry } ∷ []))
entries_more version zero (suc more) limit place (byte ∷ bytes) next xs entry read fewer first some = absurd (cc)
entries_more version (suc most) (suc more) limit place (byte ∷ bytes) next xs entry read fewer first some =
    go (entry_first version limit place (byte ∷ bytes)) refl read
    (λ size ys rest there. entries_more version most more limit (place + size) (drop size (byte ∷ bytes)) next ys entry rest (omega arith) there some)
  where
    go : (o : Option (Recorded × ℕ)) → entry_first version limit place (byte ∷ bytes) ≡ o
        → before_read place o (λ size. entries_read version most limit (place + size) (drop size (byte ∷ bytes))) ≡ Ok xs
        → ((size : ℕ) (ys : List Placed) → entries_read version most limit (place + size) (drop size (byte ∷ bytes)) ≡ Ok ys
        → entry_first version limit (place + size + length (drop size (byte ∷ bytes))) next ≡ Some (entry, length next)
        → entries_read version more limit (place + size) (drop size (byte ∷ bytes) ++ next)
        ≡ Ok (ys ++ record { at = place + size + length (drop size (byte ∷ bytes)); entry = entry } ∷ []))
        → entries_read version (suc more) limit place ((byte ∷ bytes) ++ next) ≡ Ok (xs ++ record { at = place + length (byte ∷ bytes); entry = entry } ∷ [])
    go None found is again = absurd (cc)
    go (Some head) found is again = inner (entries_read version most limit (place + head.1) (drop head.1 (byte ∷ bytes))) refl is where
      inner : (r : Result (List Placed) ℕ) → entries_read version most limit (place + head.1) (drop head.1 (byte ∷ bytes)) ≡ r
          → onto_read (record { at = place; entry = head.0 }) r ≡ Ok xs
          → entries_read version (suc more) limit place ((byte ∷ bytes) ++ next) ≡ Ok (xs ++ record { at = place + length (byte ∷ bytes); entry = entry } ∷ [])
      inner (Err at) rest e = absurd (cc)
      inner (Ok ys) rest e =
          let more_is = first_more version limit place (byte ∷ bytes) next head found in
          let size : head.1 ≤ length (byte ∷ bytes) = more_is.1 in
          let same : place + head.1 + length (drop head.1 (byte ∷ bytes)) ≡ place + length (byte ∷ bytes) = omega (arith, length-drop head.1 (byte ∷ bytes)) in
          let all : record { at = place; entry = head.0 } ∷ ys ≡ xs = ok_is (record { at = place; entry = head.0 } ∷ ys) xs e in
          ap (λ o. before_read place o (λ size. entries_read version more limit (place + size) (drop size ((byte ∷ bytes) ++ next)))) more_is.0
          ∙ ap (λ l. onto_read (record { at = place; entry = head.0 }) (entries_read version more limit (place + head.1) l))
          (drop-append-le head.1 (byte ∷ bytes) next size)
          ∙ ap (onto_read (record { at = place; entry = head.0 }))
          (again head.1 ys rest (subst (λ (p : ℕ). entry_first version limit p next ≡ Some (entry, length next)) (sym same) first))
          ∙ (λ i. Ok (all i ++ record { at = same i; entry = entry } ∷ []))

-- the first entry is the one that the bytes begin with
first_in : (limit place : ℕ) (bytes : List ℕ) (first : Recorded × ℕ) → entry_first Second limit place bytes ≡ Some first → entry_in bytes ≡ Some first.0
first_in limit place bytes first is = go (message_first bytes) refl is where
  go : (o : Option (List ℕ)) → message_first bytes ≡ o
      → option_and_then (λ m. if nat_le (place + 4 + length m) limit then option_map (λ entry. (entry, 4 + length m))
      (entry_of Second m) else None) o ≡ Some first
      → entry_in bytes ≡ Some first.0
  go None found read = absurd (none-some first read)
  go (Some message) found read =
      let inner = cond_gives (nat_le (place + 4 + length message) limit)
      (option_map (λ entry. (entry, 4 + length message)) (entry_of Second message)) first read in
      ap (option_and_then (entry_of Second)) found ∙ by (entry_of Second message) inner.1
    where
      by : (o : Option Recorded) → option_map (λ entry. (entry, 4 + length message)) o ≡ Some first → o ≡ Some first.0
      by None e = absurd (none-some first e)
      by (Some entry) e = ap (λ (p : Recorded × ℕ). Some p.0) (same_Some (entry, 4 + length message) first e)

pub entry_in_again : (caller : ℕ) (event : Event) (answer : Answer) (rest : List ℕ) → IsRecordable caller event answer
    → length (entry_text caller event answer) ≤ 1073741824
    → entry_in (entry_text caller event answer ++ rest) ≡ Some (record { caller = caller; event = event; answer = answer })
entry_in_again caller event answer rest is small =
    first_in 1073741824 0 (entry_text caller event answer ++ rest)
    (record { caller = caller; event = event; answer = answer }, length (entry_text caller event answer))
    (entry_first_again Second caller event answer rest 1073741824 0 is (omega arith) (omega arith))
