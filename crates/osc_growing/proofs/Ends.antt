-- The texts of a recording, and where what was written of it ends.
use Rattle.std.proofs.Common.{◌≡◌, ◌≤◌, ◌+◌, ◌%◌, ℕ, List, [], ◌∷◌, ◌++◌, length, map, Option, Some, None, inl, inr, refl, sym, ap, subst, ◌∙◌, arith}
use Rattle.std.proofs.Common.{append_assoc, length-append}
use Rattle.std.specs.Prelude.{nat_le, option_and_then, option_map, if◌then◌else◌}
use Rattle.std.specs.List.{AllByRecursion, flat_map}
use Rattle.std.proofs.lemmas.List.{map-append}
use Rattle.std.proofs.lemmas.Option.{same_Some, none-some}
use Rattle.osc_model.specs.Limits.{Limits}
use Rattle.osc_model.specs.Events.{Entry}
use Rattle.osc_model.specs.Recordings.{record_text, header_text, header_row, row_text, IsRecordable}
use Rattle.osc_record.specs.declared.version.Version.TheVariants.{Second}
use Rattle.osc_record.specs.Reading.{message_first, entry_first, entry_of, entry_in}
use Rattle.osc_record.proofs.Again.{cond_gives, entry_first_again, message_again, sized_length}
use Rattle.osc_record.proofs.Written.{header_length}
use Rattle.osc_core.specs.Standing.{history_in}
use Rattle.osc_turn.specs.declared.view.Entry.{Entry as Seen}
use Rattle.osc_turn.specs.declared.view.View.{View}
use Rattle.osc_turn.specs.History.{StartsWith, texts, text_of}
use Rattle.osc_live.specs.Seen.{history_of}
use Rattle.std.proofs.lemmas.List.Elements.{filter_map-append}
use Rattle.osc_growing.specs.declared.growth.Growth.{Growth}
use Rattle.osc_growing.specs.declared.growth.Growth.TheVariants.{Written, Failed, NoMemory}
use Rattle.osc_growing.specs.Entries.{EndsBetween, HasEndIn, IsEndIn, IsWrittenTo, joined, text_in, texts_of}
use Rattle.osc_growing.specs.Growing.{recorded}
use Rattle.osc_growing.proofs.Wholes.{IsText, joined-append}

-- the message of the entry that bytes begin with
message_of : (bytes : List ℕ) (first : Entry × ℕ) → entry_first Second 1073741824 0 bytes ≡ Some first
    → (m : List ℕ) × (message_first bytes ≡ Some m) × (4 + length m ≡ first.1)
message_of bytes first is = go (message_first bytes) refl is where
  go : (o : Option (List ℕ)) → message_first bytes ≡ o
      → option_and_then (λ m. if nat_le (0 + 4 + length m) 1073741824 then option_map (λ entry. (entry, 4 + length m))
      (entry_of Second m) else None) o ≡ Some first
      → (m : List ℕ) × (message_first bytes ≡ Some m) × (4 + length m ≡ first.1)
  go None found read = absurd (none-some first read)
  go (Some m) found read =
      let inner = cond_gives (nat_le (0 + 4 + length m) 1073741824) (option_map (λ entry. (entry, 4 + length m)) (entry_of Second m)) first read in
      (m, found, sized_by (entry_of Second m) inner.1)
    where
      sized_by : (o : Option Entry) → option_map (λ entry. (entry, 4 + length m)) o ≡ Some first → 4 + length m ≡ first.1
      sized_by None e = absurd (none-some first e)
      sized_by (Some entry) e = ap (λ (p : Entry × ℕ). p.1) (same_Some (entry, 4 + length m) first e)

-- an entry's size stands first
text_is : (entry : Entry) → IsRecordable entry.caller entry.event entry.answer → length (text_in entry) ≤ 1073741824 → IsText (text_in entry)
text_is entry is small rest =
    message_of (text_in entry ++ rest) (entry, length (text_in entry))
    (entry_first_again Second entry.caller entry.event entry.answer rest 1073741824 0 is (omega (arith, small)) (omega arith))

-- so does a header's
header_is : (caps : Limits) → IsText (header_text caps)
header_is caps rest =
    let message = row_text (header_row caps) in
    let long : length (header_text caps) ≡ 60 = header_length Second caps in
    let size : 4 + length message ≡ length (header_text caps) = sized_length message in
    let is : length message ≡ 56 = omega (arith, long, size) in
    (message, message_again message rest (omega (arith, is)) (ap (λ (n : ℕ). n % 4) is) (omega (arith, is)), size)

pub joined_is : (caps : Limits) (entries : List Entry) → joined (texts_of caps entries) ≡ record_text caps entries
joined_is caps entries = ap (λ (l : List ℕ). header_text caps ++ l) (go entries) where
  go : (entries : List Entry) → joined (map text_in entries) ≡ flat_map text_in entries
  go [] = refl
  go (entry ∷ entries) = ap (λ (l : List ℕ). text_in entry ++ l) (go entries)

pub texts_are : (caps : Limits) (entries : List Entry) → AllByRecursion (λ entry. IsRecordable entry.caller entry.event entry.answer) entries
    → length (record_text caps entries) ≤ 1073741824 → AllByRecursion IsText (texts_of caps entries)
texts_are caps entries all small =
    (header_is caps, go entries all (omega (arith, small, length-append (header_text caps) (flat_map text_in entries))))
  where
    go : (entries : List Entry) → AllByRecursion (λ entry. IsRecordable entry.caller entry.event entry.answer) entries
        → length (flat_map text_in entries) ≤ 1073741824 → AllByRecursion IsText (map text_in entries)
    go [] all small = tt
    go (entry ∷ entries) all small =
        let size = length-append (text_in entry) (flat_map text_in entries) in
        (text_is entry all.0 (omega (arith, small, size)), go entries all.1 (omega (arith, small, size)))

-- an end in some texts is one in these and more
pub end_on : (texts more : List (List ℕ)) (at : ℕ) → IsEndIn texts at → IsEndIn (texts ++ more) at
end_on texts more at end = record {
  front = end.front;
  back = end.back ++ more;
  parts = ap (λ (l : List (List ℕ)). l ++ more) end.parts ∙ append_assoc end.front end.back more;
  place = end.place;
}

-- an end in what was recorded is one in what is recorded then
pub end_later : (caps : Limits) (v w : View) (at : ℕ) → StartsWith w.seen v.seen → IsEndIn (texts_of caps (history_of v)) at
    → IsEndIn (texts_of caps (history_of w)) at
end_later caps v w at starts end =
    let rest = history_in (texts starts.0) in
    let entries : history_of w ≡ history_of v ++ rest =
    ap (λ (l : List Seen). history_in (texts l)) starts.1
    ∙ ap (λ (l : List (List ℕ)). history_in l) (map-append text_of v.seen starts.0)
    ∙ filter_map-append entry_in (texts v.seen) (texts starts.0) in
    let all : texts_of caps (history_of w) ≡ texts_of caps (history_of v) ++ map text_in rest =
    ap (texts_of caps) entries ∙ ap (λ (l : List (List ℕ)). header_text caps ∷ l) (map-append text_in (history_of v) rest) in
    subst (λ (l : List (List ℕ)). IsEndIn l at) (sym all) (end_on (texts_of caps (history_of v)) (map text_in rest) at end)

-- nothing is written at first
pub end_none : (texts : List (List ℕ)) → IsEndIn texts 0
end_none texts = record { front = []; back = texts; parts = refl; place = refl }

-- the front of mapped items
map_parted : (entries : List Entry) (front back : List (List ℕ)) → map text_in entries ≡ front ++ back
    → (first : List Entry) × (rest : List Entry) × (entries ≡ first ++ rest) × (front ≡ map text_in first)
map_parted entries [] back is = ([], entries, refl, refl)
map_parted [] (text ∷ front) back is = absurd (cc)
map_parted (entry ∷ entries) (text ∷ front) back is =
    let both = heads (text_in entry) text (map text_in entries) (front ++ back) is in
    let rest = map_parted entries front back both.1 in
    (entry ∷ rest.0, rest.1, ap (λ (l : List Entry). entry ∷ l) rest.2, λ i. sym both.0 i ∷ rest.3 i)
  where
    heads : (x y : List ℕ) (xs ys : List (List ℕ)) → x ∷ xs ≡ y ∷ ys → (x ≡ y) × (xs ≡ ys)
    heads x y xs ys e = (cc, cc)

ends_in : (caps : Limits) (entries : List Entry) (at : ℕ) → IsEndIn (texts_of caps entries) at → EndsBetween (Written at) caps entries
ends_in caps entries at end = go end.front end.back end.parts end.place where
  go : (front back : List (List ℕ)) → texts_of caps entries ≡ front ++ back → at ≡ length (joined front) → EndsBetween (Written at) caps entries
  go [] back parts place = inl place
  go (text ∷ front) back parts place =
      let both = heads (header_text caps) text (map text_in entries) (front ++ back) parts in
      let some = map_parted entries front back both.1 in
      let whole : joined (text ∷ front) ≡ record_text caps some.0 = (λ i. joined (sym both.0 i ∷ some.3 i)) ∙ joined_is caps some.0 in
      inr (some.0, some.1, some.2, place ∙ ap length whole)
    where
      heads : (x y : List ℕ) (xs ys : List (List ℕ)) → x ∷ xs ≡ y ∷ ys → (x ≡ y) × (xs ≡ ys)
      heads x y xs ys e = (cc, cc)

-- what was written ends between two entries
pub ends_between : (growth : Growth) (caps : Limits) (entries : List Entry) → HasEndIn growth (texts_of caps entries) → EndsBetween growth caps entries
ends_between (Written at) caps entries end = ends_in caps entries at end
ends_between Failed caps entries end = tt
ends_between NoMemory caps entries end = tt

-- what was written up to a place ends there
pub written_ends : (growth : Growth) (texts : List (List ℕ)) (at : ℕ) → IsWrittenTo at growth → IsEndIn texts at → HasEndIn growth texts
written_ends (Written to) texts at is end = subst (IsEndIn texts) (sym is) end
written_ends Failed texts at is end = tt
written_ends NoMemory texts at is end = tt

-- an end is within the texts
pub end_within : (texts : List (List ℕ)) (at : ℕ) → IsEndIn texts at → at ≤ length (joined texts)
end_within texts at end =
    omega (
      arith,
      end.place,
      ap (λ (l : List (List ℕ)). length (joined l)) end.parts,
      ap length (joined-append end.front end.back),
      length-append (joined end.front) (joined end.back),
    )

-- the texts of what is recorded are all of it
pub joined_recorded : (caps : Limits) (v : View) → joined (texts_of caps (history_of v)) ≡ recorded caps v
unfolding recorded
joined_recorded caps v = joined_is caps (history_of v)
