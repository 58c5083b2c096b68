-- Texts that stand one after another, and how many of them a piece of all holds whole.
use Rattle.std.proofs.Common.{◌≡◌, ◌≤◌, ◌<◌, ◌+◌, ◌-◌, ◌%◌, ℕ, List, [], ◌∷◌, ◌++◌, length, take, drop, Option, Some, None, inl, inr, refl, sym, ap, subst, ◌∙◌, arith}
use Rattle.std.proofs.Common.{append_assoc, length-append, length-take, leb-true}
use Rattle.std.specs.List.{AllByRecursion}
use Rattle.std.specs.Prelude.{nat_lt, nat_le, ◌&&◌, ◌==◌, option_map}
use Rattle.std.specs.Int.{w32, from_be_bytes}
use Rattle.std.proofs.Math.Seq.{take-append-add}
use Rattle.std.proofs.lemmas.Bool.{cases_lt}
use Rattle.std.proofs.lemmas.List.{append-nil, take-append-drop, drop-take, drop-drop, length-take-le, take-take}
use Rattle.std.proofs.lemmas.Option.{same_Some, none-some}
use Rattle.osc_record.specs.Reading.{message_first, bytes_of_size}
use Rattle.osc_record.proofs.Again.{cond_gives, each_of_three, message_more, drop_front}
use Rattle.osc_growing.specs.Entries.{AreWhole, HoldsWhole, joined, IsEndIn}

-- a text whose size stands first, whatever follows it
abbrev pub IsText : List ℕ → Type 0
IsText text = (rest : List ℕ) → (entry : List ℕ) × (message_first (text ++ rest) ≡ Some entry) × (4 + length entry ≡ length text)

pub joined-append : (xs ys : List (List ℕ)) → joined (xs ++ ys) ≡ joined xs ++ joined ys
joined-append [] ys = refl
joined-append (x ∷ xs) ys = ap (λ (l : List ℕ). x ++ l) (joined-append xs ys) ∙ sym (append_assoc x (joined xs) (joined ys))

-- a text that stands whole in a front of it and more is no longer than that front
first_text : (text rest entry : List ℕ) (size : ℕ) → IsText text → message_first (take size (text ++ rest)) ≡ Some entry
    → (4 + length entry ≡ length text) × (length text ≤ size)
first_text text rest entry size is found =
    let all = text ++ rest in
    let more = message_more (take size all) (drop size all) entry found in
    let known = is rest in
    let same : entry ≡ known.0 =
    same_Some entry known.0 (sym (subst (λ (l : List ℕ). message_first l ≡ Some entry) (take-append-drop size all) more.0) ∙ known.1) in
    let long = ap length same in (omega (arith, long, known.2), omega (arith, long, known.2, more.1, length-take size all))

-- a front of a text and more
front_of : (text rest : List ℕ) (size : ℕ) → length text ≤ size → take size (text ++ rest) ≡ text ++ take (size - length text) rest
front_of text rest size fits =
    let is : size ≡ length text + (size - length text) = omega (arith, fits) in
    ap (λ (n : ℕ). take n (text ++ rest)) is ∙ take-append-add text rest (size - length text)

-- a text that is no longer than a front of it and more stands whole in that front
not_cut : (text rest : List ℕ) (size : ℕ) → IsText text → length text ≤ size → message_first (take size (text ++ rest)) ≡ None → ⊥
not_cut text rest size is fits none =
    let known = is (take (size - length text) rest) in
    none-some known.0 (sym none ∙ ap message_first (front_of text rest size fits) ∙ known.1)

-- what follows a text in a front of it and more
after_text : (text rest : List ℕ) (size count : ℕ) → count ≡ length text → count ≤ size
    → drop count (take size (text ++ rest)) ≡ take (size - length text) rest
after_text text rest size count is fits =
    let parts : size ≡ count + (size - length text) = omega (arith, is, fits) in
    ap (λ (n : ℕ). drop count (take n (text ++ rest))) parts ∙ drop-take count (size - length text) (text ++ rest)
    ∙ ap (λ (n : ℕ). take (size - length text) (drop n (text ++ rest))) is ∙ ap (take (size - length text)) (drop_front text rest)

-- the next text isn't whole within so many bytes, if there is one
abbrev pub IsCutAt : ℕ → ℕ → List (List ℕ) → Type 0
IsCutAt size count [] = Unit {0}
IsCutAt size count (text ∷ texts) = size < count + length text

cut_more : (size count : ℕ) (text : List ℕ) (back : List (List ℕ)) → length text ≤ size → IsCutAt (size - length text) count back
    → IsCutAt size (length text + count) back
cut_more size count text [] fits cut = tt
cut_more size count text (next ∷ back) fits cut = omega (arith, fits, cut)

none_whole : (texts : List (List ℕ)) → AllByRecursion IsText texts → (size : ℕ) → message_first (take size (joined texts)) ≡ None → IsCutAt size 0 texts
none_whole [] all size none = tt
none_whole (text ∷ texts) all size none = elim (cases_lt size (length text)) [
  | inl less ↦ omega (arith, less)
  | inr more ↦ absurd (not_cut text (joined texts) size all.0 more none)
]

-- the whole entries of a front of these texts are the first of them, and the next one isn't whole
pub whole_texts : (texts : List (List ℕ)) → AllByRecursion IsText texts → (size count : ℕ) (entries : List (List ℕ))
    → AreWhole entries (take size (joined texts)) count
    → (front : List (List ℕ)) × (back : List (List ℕ)) × (texts ≡ front ++ back) × (count ≡ length (joined front)) × IsCutAt size count back
whole_texts texts all size count [] whole =
    ([], texts, refl, whole.1, subst (λ (n : ℕ). IsCutAt size n texts) (sym whole.1) (none_whole texts all size whole.0))
whole_texts [] all size count (entry ∷ entries) whole =
    let more = message_more (take size []) [] entry whole.0 in absurd (omega (arith, more.1, length-take size (joined [])))
whole_texts (text ∷ texts) all size count (entry ∷ entries) whole =
    let first = first_text text (joined texts) entry size all.0 whole.0 in
    let dropped = after_text text (joined texts) size (4 + length entry) first.0 (omega (arith, first.0, first.1)) in
    let rest = whole_texts texts all.1 (size - length text) whole.1 entries (subst (λ (l : List ℕ). AreWhole entries l whole.1) dropped whole.3) in (
      text ∷ rest.0,
      rest.1,
      ap (λ (l : List (List ℕ)). text ∷ l) rest.2,
      omega (arith, whole.2, first.0, rest.3, length-append text (joined rest.0)),
      subst (λ (n : ℕ). IsCutAt size n rest.1) (omega (arith, whole.2, first.0)) (cut_more size whole.1 text rest.1 first.1 rest.4),
    )

-- the size that bytes begin with
pub size_told : (bytes entry : List ℕ) → message_first bytes ≡ Some entry → from_be_bytes w32 (take 4 bytes) ≡ length entry
size_told bytes entry is =
    let size = from_be_bytes w32 (take 4 bytes) in
    let outer = cond_gives (nat_le 4 (length bytes)) (bytes_of_size size (drop 4 bytes)) entry is in
    let inner = cond_gives (nat_lt 0 size && size % 4 == 0 && nat_le size (length (drop 4 bytes))) (Some (take size (drop 4 bytes))) entry outer.1 in
    let tests = each_of_three (nat_lt 0 size) (size % 4 == 0) (nat_le size (length (drop 4 bytes))) inner.0 in
    let within : size ≤ length (drop 4 bytes) = leb-true size (length (drop 4 bytes)) tests.2 in
    sym (length-take-le size (drop 4 bytes) within) ∙ ap length (same_Some (take size (drop 4 bytes)) entry inner.1)

all_back : (P : List ℕ → Type 0) (front back : List (List ℕ)) → AllByRecursion P (front ++ back) → AllByRecursion P back
all_back P [] back all = all
all_back P (x ∷ front) back all = all_back P front back all.1

joined_after : (front back : List (List ℕ)) → drop (length (joined front)) (joined (front ++ back)) ≡ joined back
joined_after front back = ap (drop (length (joined front))) (joined-append front back) ∙ drop_front (joined front) (joined back)

-- the place after these texts
place_after : (front more : List (List ℕ)) (from count : ℕ) → from ≡ length (joined front) → count ≡ length (joined more)
    → from + count ≡ length (joined (front ++ more))
place_after front more from count is also =
    omega (arith, is, also, ap length (joined-append front more), length-append (joined front) (joined more))

-- where the whole entries of a piece end
pub ends_whole : (texts : List (List ℕ)) → AllByRecursion IsText texts → (from size count : ℕ) (end : IsEndIn texts from)
    → HoldsWhole (take size (drop from (joined texts))) count
    → (next : IsEndIn texts (from + count)) × IsCutAt size count next.back
ends_whole texts all from size count end whole =
    let piece : take size (drop from (joined texts)) ≡ take size (joined end.back) =
    ap (take size) ((λ i. drop (end.place i) (joined (end.parts i))) ∙ joined_after end.front end.back) in
    let rest = whole_texts end.back (all_back IsText end.front end.back (subst (AllByRecursion IsText) end.parts all)) size count whole.0
    (subst (λ (l : List ℕ). AreWhole whole.0 l count) piece whole.1) in (
      record {
        front = end.front ++ rest.0;
        back = rest.1;
        parts = end.parts ∙ ap (λ (l : List (List ℕ)). end.front ++ l) rest.2 ∙ sym (append_assoc end.front rest.0 rest.1);
        place = place_after end.front rest.0 from count end.place rest.3;
      },
      rest.4,
    )

-- an entry that is larger than a piece, by the size that stands first, and where it ends
pub ends_large : (texts : List (List ℕ)) → AllByRecursion IsText texts → (from size : ℕ) (end : IsEndIn texts from) → 4 ≤ size
    → length (take size (drop from (joined texts))) ≡ size
    → IsEndIn texts (from + (4 + from_be_bytes w32 (take 4 (take size (drop from (joined texts))))))
    × (from + (4 + from_be_bytes w32 (take 4 (take size (drop from (joined texts))))) ≤ length (joined texts))
ends_large texts all from size end four full =
    let rest : drop from (joined texts) ≡ joined end.back =
    (λ i. drop (end.place i) (joined (end.parts i))) ∙ joined_after end.front end.back in
    let is = subst (AllByRecursion IsText) end.parts all in
    subst (λ (l : List ℕ). IsEndIn texts (from + (4 + from_be_bytes w32 (take 4 (take size l))))
    × (from + (4 + from_be_bytes w32 (take 4 (take size l))) ≤ length (joined texts))) (sym rest)
    (go end.front end.back end.parts end.place (all_back IsText end.front end.back is)
    (subst (λ (l : List ℕ). length (take size l) ≡ size) rest full))
  where
    go : (front back : List (List ℕ)) → texts ≡ front ++ back → from ≡ length (joined front) → AllByRecursion IsText back
        → length (take size (joined back)) ≡ size
        → IsEndIn texts (from + (4 + from_be_bytes w32 (take 4 (take size (joined back)))))
        × (from + (4 + from_be_bytes w32 (take 4 (take size (joined back)))) ≤ length (joined texts))
    go front [] parts place is some = absurd (omega (arith, four, some, length-take size (joined [])))
    go front (text ∷ back) parts place is some =
        let known = is.0 (joined back) in
        let all = text ++ joined back in
        let short : take 4 (take size all) ≡ take 4 all = take-take 4 size all four in
        let told : 4 + from_be_bytes w32 (take 4 (take size all)) ≡ length text =
        ap (λ (l : List ℕ). 4 + from_be_bytes w32 l) short ∙ ap (λ (n : ℕ). 4 + n) (size_told all known.0 known.1) ∙ known.2 in
        let one : joined (text ∷ []) ≡ text = append-nil text in
        let next = place_after front (text ∷ []) from (length text) place (sym (ap length one)) in (
          record {
            front = front ++ text ∷ [];
            back = back;
            parts = parts ∙ sym (append_assoc front (text ∷ []) back);
            place = ap (λ (n : ℕ). from + n) told ∙ next;
          },
          omega (
            arith,
            told,
            place,
            ap (λ (l : List (List ℕ)). length (joined l)) parts,
            ap length (joined-append front (text ∷ back)),
            length-append (joined front) (joined (text ∷ back)),
            length-append text (joined back),
          ),
        )

-- How the whole entries of bytes are counted.

counted : (o : Option (List ℕ)) (size : ℕ) → Some size ≡ option_map (λ entry. 4 + length entry) o → (entry : List ℕ) × (o ≡ Some entry)
    × (size ≡ 4 + length entry)
counted None size is = absurd (none-some size (sym is))
counted (Some entry) size is = (entry, refl, same_Some size (4 + length entry) is)

-- the first entry, and those after it
pub one_more : (bytes : List ℕ) (end size count : ℕ) → Some size ≡ option_map (λ entry. 4 + length entry) (message_first (drop end bytes))
    → HoldsWhole (drop (end + size) bytes) count → HoldsWhole (drop end bytes) (size + count)
one_more bytes end size count is holds =
    let first = counted (message_first (drop end bytes)) size is in
    let rest : drop (end + size) bytes ≡ drop (4 + length first.0) (drop end bytes) =
    ap (λ (n : ℕ). drop (end + n) bytes) first.2 ∙ sym (drop-drop (4 + length first.0) end bytes) in (
      first.0 ∷ holds.0,
      (first.1, count, ap (λ (n : ℕ). n + count) first.2, subst (λ (l : List ℕ). AreWhole holds.0 l count) rest holds.1),
    )

-- no entry is whole any more
pub no_more : (bytes : List ℕ) (size : Option ℕ) → size ≡ None → size ≡ option_map (λ entry. 4 + length entry) (message_first bytes) → HoldsWhole bytes 0
no_more bytes size none is = ([], (go (message_first bytes) refl (sym none ∙ is), refl)) where
  go : (o : Option (List ℕ)) → message_first bytes ≡ o → None ≡ option_map (λ entry. 4 + length entry) o → message_first bytes ≡ None
  go None found e = found
  go (Some entry) found e = absurd (none-some (4 + length entry) e)

-- nor where nothing is left
pub none_left : (bytes : List ℕ) → length bytes ≡ 0 → HoldsWhole bytes 0
none_left bytes none = ([], (go (message_first bytes) refl, refl)) where
  go : (o : Option (List ℕ)) → message_first bytes ≡ o → message_first bytes ≡ None
  go None found = found
  go (Some entry) found = let more = message_more bytes [] entry found in absurd (omega (arith, none, more.1))

pub holds_at : (bytes : List ℕ) (one other : ℕ) → one ≡ other → HoldsWhole bytes one → HoldsWhole bytes other
holds_at bytes one other is holds = subst (HoldsWhole bytes) is holds
