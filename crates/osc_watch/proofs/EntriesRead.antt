-- Entries that are read one after another, of a text that goes on.
use Rattle.std.proofs.Common.{◌≡◌, ℕ, ◌+◌, ◌<◌, ◌≤◌, List, [], ◌∷◌, ◌++◌, length, take, drop, Option, Some, None, length-append, append_assoc, refl, sym, ap, subst}
use Rattle.std.proofs.Common.{◌∙◌, arith}
use Rattle.std.specs.List.{AllByRecursion}
use Rattle.std.proofs.lemmas.List.{append-nil, append_cancel_left}
use Rattle.std.proofs.lemmas.List.Elements.{filter_map-append}
use Rattle.std.proofs.lemmas.Grind.{flat_map-append}
use Rattle.std.proofs.Math.Seq.{drop-append_seam, take-append_seam}
use Rattle.osc_model.specs.Limits.{AreInRange, Limits, header_size, max_recording}
use Rattle.osc_model.specs.Events.{Entry, Event, Answer}
use Rattle.osc_model.specs.Recordings.{IsRecordable, entry_text, header_text}
use Rattle.osc_record.specs.Reading.{Placed, entry_in}
use Rattle.osc_record.specs.Unread.{HasHeader, HasNoNext, Reads, Remaining}
use Rattle.osc_watch.specs.declared.row.Edit.{Edit}
use Rattle.osc_watch.specs.declared.entries.Stop.{Stop}
use Rattle.osc_watch.specs.declared.entries.Stop.TheVariants.{AtEnd, At, NoMemory}
use Rattle.osc_watch.specs.Edits.{edit_by, edits_of}
use Rattle.osc_watch.specs.Parts.{text_of}
use Rattle.osc_watch.specs.Notes.{AreReadable, IsPlaceIn, Notes, NotesNext, StandWithin}

abbrev pub one_text : Entry → List ℕ
one_text entry = entry_text entry.caller entry.event entry.answer

abbrev pub edit_in : Entry → Option Edit
edit_in entry = edit_by entry.event entry.answer

abbrev pub ReadAgain : Type 0
ReadAgain = (caller : ℕ) (event : Event) (answer : Answer) (rest : List ℕ) → IsRecordable caller event answer
    → length (entry_text caller event answer) ≤ max_recording
    → entry_in (entry_text caller event answer ++ rest) ≡ Some (record { caller = caller; event = event; answer = answer })

-- so far these entries were read, and their edits noted
pub record Sofar (more : List Entry) (tail all : List ℕ) (noted then : List Edit) (unread : Remaining) : Type 0 where
  pub read : List Entry
  pub left : List Entry
  pub split : more ≡ read ++ left
  pub noted_are : then ≡ noted ++ edits_of read
  pub at_is : unread.at ≡ header_size + length (text_of read)
  pub total : unread.at + length unread.rest ≡ length all
  pub rest_is : unread.rest ++ tail ≡ text_of left

abbrev pub Looks : List ℕ → List Edit → List Edit → Remaining → Type 0
Looks all noted then unread = (more : List Entry) (tail : List ℕ) → AreReadable more → drop header_size all ++ tail ≡ text_of more
    → Sofar more tail all noted then unread

at_split : {X : Type 0} (P : X → Type 0) (xs : List X) (y : X) (ys : List X) → AllByRecursion P (xs ++ y ∷ ys) → P y
at_split P [] y ys all = all.0
at_split P (x ∷ xs) y ys all = at_split P xs y ys all.1

pub begins : (all : List ℕ) (noted : List Edit) (unread : Remaining) → HasHeader all unread → ((limits : Limits) → length (header_text limits) ≡ header_size)
    → Looks all noted noted unread
begins all noted unread header sized more tail readable is =
    let size = sized unread.caps in
    let dropped : drop header_size all ≡ unread.rest =
    ap (drop header_size) header.text ∙ (ap (λ (n : ℕ). drop n (header_text unread.caps ++ unread.rest)) (sym size)
    ∙ drop-append_seam (header_text unread.caps) unread.rest) in
    record {
      read = [];
      left = more;
      split = refl;
      noted_are = sym (append-nil noted);
      at_is = header.at_is;
      total = omega (arith, header.at_is, size, ap length header.text, length-append (header_text unread.caps) unread.rest);
      rest_is = ap (λ (l : List ℕ). l ++ tail) (sym dropped) ∙ is;
    }

same_entry : ReadAgain → (p e : Entry) (x y : List ℕ) → IsRecordable p.caller p.event p.answer → IsRecordable e.caller e.event e.answer
    → length (one_text p) ≤ max_recording → length (one_text e) ≤ max_recording → one_text p ++ x ≡ one_text e ++ y → p ≡ e
same_entry again p e x y rp re sp se is =
    let a = again p.caller p.event p.answer x rp sp in
    let b = again e.caller e.event e.answer y re se in
    let both : Some p ≡ Some e = sym a ∙ (ap entry_in is ∙ b) in cc

goes_on : ReadAgain → (more : List Entry) (tail all : List ℕ) (noted then after : List Edit) (old new : Remaining) (placed : Placed) → AreReadable more
    → Reads old placed new → after ≡ then ++ edits_of (placed.entry ∷ []) → (s : Sofar more tail all noted then old) → (l : List Entry) → s.left ≡ l
    → Sofar more tail all noted after new
goes_on again more tail all noted then after old new placed readable reads now s [] is =
    let empty : old.rest ++ tail ≡ [] = s.rest_is ∙ ap text_of is in
    absurd (omega (arith, reads.shorter, ap length empty, length-append old.rest tail))
goes_on again more tail all noted then after old new placed readable reads now s (e ∷ es) is =
    let p = placed.entry in
    let split : more ≡ s.read ++ e ∷ es = s.split ∙ ap (λ (l : List Entry). s.read ++ l) is in
    let one = at_split (λ entry. IsRecordable entry.caller entry.event entry.answer × (0 < length (entry_text entry.caller entry.event entry.answer))
    × (length (entry_text entry.caller entry.event entry.answer) ≤ max_recording)) s.read e es (subst AreReadable split readable) in
    let texts : one_text p ++ (new.rest ++ tail) ≡ one_text e ++ text_of es =
    sym (append_assoc (one_text p) new.rest tail) ∙ (ap (λ (l : List ℕ). l ++ tail) (sym reads.text) ∙ (s.rest_is ∙ ap text_of is)) in
    let small : length (one_text p) ≤ max_recording =
    omega (arith, reads.small, ap length reads.text, length-append (one_text p) new.rest) in
    let same : p ≡ e = same_entry again p e (new.rest ++ tail) (text_of es) reads.recordable one.0 small one.2 texts in
    let rest : new.rest ++ tail ≡ text_of es =
    append_cancel_left (one_text e) (new.rest ++ tail) (text_of es) (ap (λ (x : Entry). one_text x ++ (new.rest ++ tail)) (sym same) ∙ texts) in
    let size : length (text_of (s.read ++ e ∷ [])) ≡ length (text_of s.read) + length (one_text e) =
    omega (arith, ap length (flat_map-append one_text s.read (e ∷ [])), length-append (text_of s.read) (text_of (e ∷ [])), ap length (append-nil (one_text e)))
    in
    let moved : new.at ≡ old.at + length (one_text e) = reads.moved ∙ ap (λ (x : Entry). old.at + length (one_text x)) same in
    record {
      read = s.read ++ e ∷ [];
      left = es;
      split = split ∙ sym (append_assoc s.read (e ∷ []) es);
      noted_are = now ∙ (ap (λ (x : Entry). then ++ edits_of (x ∷ [])) same
          ∙ (ap (λ (l : List Edit). l ++ edits_of (e ∷ [])) s.noted_are
          ∙ (append_assoc noted (edits_of s.read) (edits_of (e ∷ []))
          ∙ ap (λ (l : List Edit). noted ++ l) (sym (filter_map-append edit_in s.read (e ∷ []))))));
      at_is = omega (arith, moved, s.at_is, size);
      total = omega (arith, reads.moved, s.total, ap length reads.text, length-append (one_text p) new.rest);
      rest_is = rest;
    }

pub reads_on : ReadAgain → (all : List ℕ) (noted then after : List Edit) (old new : Remaining) → Looks all noted then old → NotesNext old new then after None
    → Looks all noted after new
reads_on again all noted then after old new looks (placed, reads, now) more tail readable is =
    let s = looks more tail readable is in
    goes_on again more tail all noted then after old new placed readable reads now s s.left refl

-- an entry that isn't whole goes on after the bytes, which end within the limits
follows : (more : List Entry) (tail all : List ℕ) (noted then : List Edit) (old : Remaining) (place : ℕ) → AreReadable more
    → length all ≤ old.caps.recording → HasNoNext old place → (s : Sofar more tail all noted then old) → (l : List Entry) → s.left ≡ l → 0 < length tail
follows more (byte ∷ tail) all noted then old place readable within none s l is = omega arith
follows more [] all noted then old place readable within none s [] is =
    let empty : old.rest ≡ [] = sym (append-nil old.rest) ∙ (s.rest_is ∙ ap text_of is) in
    absurd (omega (arith, none.some, ap length empty))
follows more [] all noted then old place readable within none s (e ∷ es) is =
    let split : more ≡ s.read ++ e ∷ es = s.split ∙ ap (λ (l : List Entry). s.read ++ l) is in
    let one = at_split (λ entry. IsRecordable entry.caller entry.event entry.answer × (0 < length (entry_text entry.caller entry.event entry.answer))
    × (length (entry_text entry.caller entry.event entry.answer) ≤ max_recording)) s.read e es (subst AreReadable split readable) in
    let rest : old.rest ≡ one_text e ++ text_of es = sym (append-nil old.rest) ∙ (s.rest_is ∙ ap text_of is) in
    absurd (none.none e (text_of es) one.0
    (omega (arith, none.at_is, s.total, within, ap length rest, length-append (one_text e) (text_of es))) rest)

pub stops : (all : List ℕ) (noted then after : List Edit) (old new : Remaining) (stop : Stop) → length all ≤ old.caps.recording
    → Looks all noted then old → NotesNext old new then after (Some stop)
    → Notes all noted after stop
stops all noted then after old new AtEnd within looks (none, now) more tail readable is =
    let s = looks more tail readable is in record {
      read = s.read;
      left = s.left;
      split = s.split;
      noted_are = now ∙ s.noted_are;
      place = omega (arith, s.total, s.at_is, ap length none);
      whole = ap (λ (l : List ℕ). l ++ tail) (sym none) ∙ s.rest_is;
    }
stops all noted then after old new (At place) within looks (none, now) more tail readable is =
    let s = looks more tail readable is in record {
      read = s.read;
      left = s.left;
      split = s.split;
      noted_are = now ∙ s.noted_are;
      place = none.at_is ∙ s.at_is;
      whole = follows more tail all noted then old place readable within none s s.left refl;
    }
stops all noted then after old new (NoMemory place) within looks (at, now) more tail readable is =
    let s = looks more tail readable is in record {
      read = s.read;
      left = s.left;
      split = s.split;
      noted_are = now ∙ s.noted_are;
      place = at ∙ s.at_is;
      whole = tt;
    }

-- the limits are those of the header with which the bytes begin
pub limits_are : ((limits : Limits) → length (header_text limits) ≡ header_size)
    → ((limits other : Limits) → AreInRange limits → AreInRange other → header_text limits ≡ header_text other → limits ≡ other)
    → (all : List ℕ) (unread : Remaining) → HasHeader all unread → StandWithin all → length all ≤ unread.caps.recording
limits_are sized differ all unread header (caps, rest, stand, text) =
    let one = take-append_seam (header_text unread.caps) unread.rest in
    let two = take-append_seam (header_text caps) rest in
    let long : length (header_text unread.caps) ≡ length (header_text caps) = sized unread.caps ∙ sym (sized caps) in
    let same : header_text unread.caps ≡ header_text caps =
    sym one ∙ (ap (take (length (header_text unread.caps))) (sym header.text ∙ text) ∙ (ap (λ (n : ℕ). take n (header_text caps ++ rest)) long ∙ two)) in
    let limits : unread.caps ≡ caps = differ unread.caps caps header.lawful stand.lawful same in
    omega (arith, stand.within, ap (λ (l : Limits). l.recording) limits, sized caps, ap length text, length-append (header_text caps) rest)

pub read_low : (old new : Remaining) (placed : Placed) → Reads old placed new → header_size ≤ old.at → header_size ≤ new.at
read_low old new placed reads low = omega (arith, reads.moved, low)

pub read_total : (all : List ℕ) (old new : Remaining) (placed : Placed) → Reads old placed new → old.at + length old.rest ≡ length all
    → new.at + length new.rest ≡ length all
read_total all old new placed reads total = omega (arith, reads.moved, total, ap length reads.text, length-append (one_text placed.entry) new.rest)

pub stop_place : (all : List ℕ) (then after : List Edit) (old new : Remaining) (stop : Stop) → header_size ≤ old.at → old.at + length old.rest ≡ length all
    → NotesNext old new then after (Some stop) → IsPlaceIn (length all) stop
stop_place all then after old new AtEnd low total (none, now) = (omega (arith, low, total), omega arith)
stop_place all then after old new (At place) low total (none, now) = (omega (arith, low, none.at_is), omega (arith, total, none.at_is))
stop_place all then after old new (NoMemory place) low total (at, now) = (omega (arith, low, at), omega (arith, total, at))
