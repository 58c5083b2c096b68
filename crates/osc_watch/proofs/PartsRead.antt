-- A part of a recording that goes on from what a board has read.
use Rattle.std.proofs.Common.{◌≡◌, ◌≢◌, ℕ, ◌+◌, ◌-◌, ◌<◌, ◌≤◌, List, [], ◌∷◌, ◌++◌, length, take, drop, nat_lt, true, length-append, append_assoc, refl, sym, ap}
use Rattle.std.proofs.Common.{subst, ◌∙◌, arith}
use Rattle.std.specs.List.{AllByRecursion}
use Rattle.std.proofs.lemmas.Bool.{ltb-true}
use Rattle.std.proofs.lemmas.List.{append-nil, take-append-drop, length-take, length-drop}
use Rattle.std.proofs.lemmas.List.Elements.{filter_map-append}
use Rattle.std.proofs.lemmas.Grind.{flat_map-append}
use Rattle.std.proofs.Math.Seq.{drop-append_seam, take-append_seam}
use Rattle.osc_turn.specs.History.{StartsWith}
use Rattle.osc_model.specs.Limits.{Limits, header_size, max_recording}
use Rattle.osc_model.specs.Events.{Entry, Event, Answer, enrol, submit, add, remove, tick, release}
use Rattle.osc_model.specs.Recordings.{IsRecordable, FitsRow, row_of, entry_text, entry_size, header_text, record_text}
use Rattle.osc_record.specs.Reading.{IsRecord}
use Rattle.osc_watch.specs.declared.row.Edit.{Edit}
use Rattle.osc_watch.specs.declared.entries.Stop.{Stop}
use Rattle.osc_watch.specs.declared.entries.Stop.TheVariants.{AtEnd, At, NoMemory}
use Rattle.osc_watch.specs.Edits.{edits_of}
use Rattle.osc_watch.specs.Parts.{text_of, part, Writes}
use Rattle.osc_watch.specs.Notes.{AreReadable, AllIn, IsPlaceIn, place_in, Notes}
use Rattle.osc_watch.specs.Refreshing.{PartNotes}
use Rattle.osc_watch.proofs.EntriesRead.{one_text, edit_in}

pub part_notes : (header part all : List ℕ) (from to : ℕ) (noted then : List Edit) (stop : Stop) → all ≡ header ++ part → length header ≡ header_size
    → IsPlaceIn (length all) stop → to ≡ from + (place_in (length all) stop - header_size) → Notes all noted then stop → PartNotes part from to noted then stop
part_notes header part all from to noted then stop is size within moved notes more tail readable text =
    let dropped : drop header_size all ≡ part =
    ap (drop header_size) is ∙ (ap (λ (n : ℕ). drop n (header ++ part)) (sym size) ∙ drop-append_seam header part) in
    let n = notes more tail readable (ap (λ (l : List ℕ). l ++ tail) dropped ∙ text) in
    record {
      read = n.read;
      left = n.left;
      split = n.split;
      noted_are = n.noted_are;
      moved = omega (arith, moved, n.place, within.0);
      whole = n.whole;
    }

pub no_part : (part : List ℕ) (from : ℕ) (noted : List Edit) (place : ℕ) → PartNotes part from from noted noted (NoMemory place)
no_part part from noted place more tail readable text = record {
  read = [];
  left = more;
  split = refl;
  noted_are = sym (append-nil noted);
  moved = omega arith;
  whole = tt;
}

abbrev pub Sized : Type 0
Sized = (caller : ℕ) (event : Event) (answer : Answer) → FitsRow (row_of caller event answer)
    → length (entry_text caller event answer) ≡ entry_size event answer

some : (event : Event) (answer : Answer) → 0 < entry_size event answer
some enrol answer = omega arith
some (submit packet) answer = omega arith
some (add address) answer = omega arith
some (remove address) answer = omega arith
some (tick moment) answer = omega arith
some release answer = omega arith

readable : Sized → (entries : List Entry) → AllByRecursion (λ entry. IsRecordable entry.caller entry.event entry.answer) entries
    → length (text_of entries) ≤ max_recording
    → AreReadable entries
readable sized [] all small = tt
readable sized (e ∷ es) all small =
    let size = sized e.caller e.event e.answer all.0.fits in
    let both = length-append (one_text e) (text_of es) in (
      (all.0, (let least = some e.event e.answer in omega (arith, size, least)), omega (arith, both, small)),
      readable sized es all.1 (omega (arith, both, small)),
    )

later : {X : Type 0} (P : X → Type 0) (xs ys : List X) → AllByRecursion P (xs ++ ys) → AllByRecursion P ys
later P [] ys all = all
later P (x ∷ xs) ys all = later P xs ys all.1

none_left : (left : List Entry) → AreReadable left → [] ≡ text_of left → left ≡ []
none_left [] all is = refl
none_left (e ∷ es) all is = absurd (omega (arith, all.0.1, ap length is, length-append (one_text e) (text_of es)))

text_on : (caps : Limits) (h more : List Entry) → record_text caps (h ++ more) ≡ record_text caps h ++ text_of more
text_on caps h more =
    ap (λ (l : List ℕ). header_text caps ++ l) (flat_map-append one_text h more) ∙ sym (append_assoc (header_text caps) (text_of h) (text_of more))

-- what the board has read then
pub record Read (caps : Limits) (h seen : List Entry) (at to room count : ℕ) (noted then : List Edit) (stop : Stop) : Type 0 where
  pub read : List Entry
  pub edits : then ≡ edits_of read
  pub place : to ≡ length (record_text caps read)
  pub begins : StartsWith seen read
  pub kept : StartsWith then noted
  pub onward : at ≤ to
  pub whole : stop ≡ AtEnd → count < room → read ≡ seen
  pub settled : count < room → (place : ℕ) → stop ≢ At place

-- nothing is left behind the end
pub nothing : (k : ℕ) (l : List ℕ) → length l ≤ k → drop k l ≡ []
nothing k l le = go (drop k l) (length-drop k l) where
  go : (d : List ℕ) → length d ≡ length l - k → d ≡ []
  go [] is = refl
  go (x ∷ d) is = absurd (omega (arith, is, le))

pub part_read : Sized → (caps : Limits) (h seen : List Entry) (at to : ℕ) (noted then : List Edit) (old chunk : List ℕ) (count : ℕ) (stop : Stop)
    → noted ≡ edits_of h → at ≡ length (record_text caps h) → StartsWith seen h → IsRecord caps seen → length (record_text caps seen) ≤ max_recording
    → Writes (record_text caps seen) at old chunk count → PartNotes (take count chunk) at to noted then stop → Read caps h seen at to (length old) count noted then stop
part_read sized caps h seen at to noted then old chunk count stop are stands (more, is) recorded small writes notes =
    let text : record_text caps seen ≡ record_text caps h ++ text_of more = ap (record_text caps) is ∙ text_on caps h more in
    let rest : drop at (record_text caps seen) ≡ text_of more =
    ap (drop at) text ∙ (ap (λ (n : ℕ). drop n (record_text caps h ++ text_of more)) stands ∙ drop-append_seam (record_text caps h) (text_of more)) in
    let here : part (record_text caps seen) at old ≡ take (length old) (text_of more) = ap (take (length old)) rest in
    let p = part (record_text caps seen) at old in
    let taken : take count chunk ≡ take (length old) (text_of more) =
    ap (take count) writes.bytes ∙ (ap (λ (n : ℕ). take n (p ++ drop (length p) old)) writes.counted ∙ (take-append_seam p (drop (length p) old) ∙ here)) in
    let whole : take count chunk ++ drop (length old) (text_of more) ≡ text_of more =
    ap (λ (l : List ℕ). l ++ drop (length old) (text_of more)) taken ∙ take-append-drop (length old) (text_of more) in
    let sizes = ap length text ∙ length-append (record_text caps h) (text_of more) in
    let all = readable sized more (later (λ entry. IsRecordable entry.caller entry.event entry.answer) h more
    (subst (AllByRecursion (λ entry. IsRecordable entry.caller entry.event entry.answer)) is recorded.all)) (omega (arith, sizes, small)) in
    let n = notes more (drop (length old) (text_of more)) all whole in
    let count_is : count ≡ length (take (length old) (text_of more)) = writes.counted ∙ ap length here in
    let nothing_more : count < length old → drop (length old) (text_of more) ≡ [] =
    λ short. nothing (length old) (text_of more) (omega (arith, count_is, short, length-take (length old) (text_of more))) in
    let split : seen ≡ (h ++ n.read) ++ n.left = is ∙ (ap (λ (l : List Entry). h ++ l) n.split ∙ sym (append_assoc h n.read n.left)) in
    record {
      read = h ++ n.read;
      edits = n.noted_are ∙ (ap (λ (l : List Edit). l ++ edits_of n.read) are ∙ sym (filter_map-append edit_in h n.read));
      place = omega (arith, n.moved, stands, ap length (text_on caps h n.read), length-append (record_text caps h) (text_of n.read));
      begins = (n.left, split);
      kept = (edits_of n.read, n.noted_are);
      onward = omega (arith, n.moved);
      whole = λ ends short.
          let left : drop (length old) (text_of more) ≡ text_of n.left = subst (λ (s : Stop). AllIn s (drop (length old) (text_of more)) n.left) ends n.whole in
          let gone : n.left ≡ [] = none_left n.left
          (later (λ entry. IsRecordable entry.caller entry.event entry.answer × (0 < length (entry_text entry.caller entry.event entry.answer))
          × (length (entry_text entry.caller entry.event entry.answer) ≤ max_recording)) n.read n.left (subst AreReadable n.split all))
          (sym (nothing_more short) ∙ left) in
          sym (split ∙ (ap (λ (l : List Entry). (h ++ n.read) ++ l) gone ∙ append-nil (h ++ n.read)));
      settled = λ short place ends.
          let some : 0 < length (drop (length old) (text_of more)) =
          subst (λ (s : Stop). AllIn s (drop (length old) (text_of more)) n.left) ends n.whole in
          omega (arith, some, ap length (nothing_more short));
    }

-- what is read from a place behind the header ends within the limits
pub ends_within : (caps : Limits) (h seen : List Entry) (at count : ℕ) (old new : List ℕ) → length (header_text caps) ≡ header_size
    → at ≡ length (record_text caps h) → IsRecord caps seen → Writes (record_text caps seen) at old new count → header_size + count ≤ caps.recording
ends_within caps h seen at count old new size stands recorded writes =
    let fits : length (record_text caps seen) ≤ caps.recording = recorded.fits in
    omega (
      arith,
      size,
      stands,
      fits,
      writes.counted,
      length-take (length old) (drop at (record_text caps seen)),
      length-drop at (record_text caps seen),
      length-append (header_text caps) (text_of h),
      length-append (header_text caps) (text_of seen),
    )

-- what was written over is as long as it was
pub same_length : (text : List ℕ) (from : ℕ) (old new : List ℕ) (count : ℕ) → Writes text from old new count → length new ≡ length old
same_length text from old new count writes =
    omega (
      arith,
      ap length writes.bytes,
      length-append (part text from old) (drop (length (part text from old)) old),
      length-take (length old) (drop from text),
      length-drop (length (part text from old)) old,
    )

pub small : (caps : Limits) (seen : List Entry) → IsRecord caps seen → length (record_text caps seen) ≤ max_recording
small caps seen recorded = omega (arith, recorded.fits, recorded.lawful.recording.below)

pub is_less : (count room all : ℕ) → nat_lt count room ≡ true → room ≡ all → count < all
is_less count room all less is = let below = ltb-true count room less in omega (arith, below, is)
