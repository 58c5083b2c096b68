-- Recordings whose packets and addresses are lawful, read entry by entry.
use Rattle.std.proofs.Common.{◌≡◌, ℕ, ◌+◌, ◌<◌, ◌≤◌, ◌^◌, true, false, List, [], ◌∷◌, ◌++◌, length, drop, Option, Some, None, inl, inr, refl, sym, ap, subst}
use Rattle.std.proofs.Common.{◌∙◌, arith, length-append, append_assoc, lt-ltb}
use Rattle.std.specs.Prelude.{IfSome, IfNone, Result, Ok, Err, IfOk, IfErr, IsOkAnd}
use Rattle.std.proofs.lemmas.Bool.{ltb-true}
use Rattle.std.proofs.lemmas.Grind.{flat_map-append}
use Rattle.std.proofs.lemmas.List.{append-nil}
use Rattle.std.specs.List.{flat_map, AllByRecursion}
use Rattle.osc_model.specs.Limits.{Limits, header_size}
use Rattle.osc_model.specs.Events.{Event, enrol, submit, add, remove, tick, release, Entry}
use Rattle.osc_model.specs.Recordings.{IsRecordable, entry_text, header_text, record_text}
use Rattle.osc_model.specs.History.{IsLawful}
use Rattle.osc_model.proofs.Sizes.{header_size as length-header}
use Rattle.osc_record.specs.declared.version.Version.{Version}
use Rattle.osc_record.specs.declared.version.Version.TheVariants.{Second}
use Rattle.osc_record.specs.Versions.{text_in, IsRecordableIn}
use Rattle.osc_record.specs.Reading.{Placed, ReadRecord, placed_from, unplaced, entry_first, header_read}
use Rattle.osc_record.specs.Unread.{Remaining, HasHeader, Reads, HasNoNext}
use Rattle.osc_record.proofs.Again.{drop_front, entry_first_again}
use Rattle.osc_record.proofs.Kept.{record_more, unplaced_from}
use Rattle.osc_record.proofs.Readings.{header_again}
use Rattle.osc_record.specs.Shown.{event_of}
use Rattle.osc_replay.specs.declared.row.Row.{Row}
use Rattle.osc_replay.specs.Events.{event_in}
use Rattle.osc_replay.specs.Lawful.{is_lawful}
use Rattle.osc_replay.specs.Formed.{IsFormed, IsUnformedAt, HasNoLawful, IsFormedTo, EndsFormed, IsStuckAt}

-- what holds of a value that is there
pub of_some : {X : Type 0} (P : X → Type 0) (o : Option X) (x : X) → o ≡ Some x → IfSome o P → P x
of_some P o x is holds = subst (λ o. IfSome o P) is holds

-- what holds where none is there
pub of_none : {X P : Type 0} (o : Option X) → ((x : X) → o ≡ Some x → ⊥) → IfNone o P → P
of_none None none holds = holds
of_none (Some x) none holds = absurd (none x refl)

-- what is there is no error
pub never_err : {X E : Type 0} (P : E → Type 0) (Q : X → Type 0) (r : Result X E) → IsOkAnd r Q → IfErr r P
never_err P Q (Ok x) is = tt
never_err P Q (Err e) is = absurd is

-- the test says what is lawful

pub lawful_is : (event : Event) → is_lawful event ≡ true → IsLawful event
lawful_is enrol is = tt
lawful_is (submit packet) is = is
lawful_is (add address) is = is
lawful_is (remove address) is = is
lawful_is (tick now) is = ltb-true now (2 ^ 64) is
lawful_is release is = tt

is_lawful_so : (event : Event) → IsLawful event → is_lawful event ≡ true
is_lawful_so enrol is = refl
is_lawful_so (submit packet) is = is
is_lawful_so (add address) is = is
is_lawful_so (remove address) is = is
is_lawful_so (tick now) is = lt-ltb now (2 ^ 64) is
is_lawful_so release is = refl

pub not_lawful : (event : Event) → is_lawful event ≡ false → IsLawful event → ⊥
not_lawful event not is = let so = is_lawful_so event is in absurd (cc)

pub row_lawful : (row : Row) → IsLawful (event_of row.entry.event)
row_lawful row = subst IsLawful row.same (lawful_is (event_in row.event) row.lawful)

-- the bytes of entries
abbrev pub texts : List Entry → List ℕ
texts entries = flat_map (λ (e : Entry). entry_text e.caller e.event e.answer) entries

-- each entry is lawful
abbrev pub AreLawful : List Entry → Type 0
AreLawful entries = AllByRecursion (λ (e : Entry). IsLawful e.event) entries

abbrev pub Recordable : Entry → Type 0
Recordable e = IsRecordable e.caller e.event e.answer

-- what holds of all holds of those in front, and of those behind
pub all_front : {X : Type 0} (P : X → Type 0) (front more : List X) → AllByRecursion P (front ++ more) → AllByRecursion P front
all_front P [] more all = tt
all_front P (x ∷ front) more all = (all.0, all_front P front more all.1)

pub all_behind : {X : Type 0} (P : X → Type 0) (front more : List X) → AllByRecursion P (front ++ more) → AllByRecursion P more
all_behind P [] more all = all
all_behind P (x ∷ front) more all = all_behind P front more all.1

-- one entry more of which something holds
all_more : {X : Type 0} (P : X → Type 0) (front : List X) (x : X) → AllByRecursion P front → P x → AllByRecursion P (front ++ x ∷ [])
all_more P [] x all is = (is, tt)
all_more P (y ∷ front) x all is = (all.0, all_more P front x all.1 is)

-- a recording, up to an entry and from there on
pub record_split : (limits : Limits) (front more : List Entry) → record_text limits (front ++ more) ≡ record_text limits front ++ texts more
record_split limits front more =
    ap (λ (l : List ℕ). header_text limits ++ l) (flat_map-append (λ (e : Entry). entry_text e.caller e.event e.answer) front more)
    ∙ sym (append_assoc (header_text limits) (texts front) (texts more))

pub record_length : (limits : Limits) (entries : List Entry) → length (record_text limits entries) ≡ header_size + length (texts entries)
record_length limits entries = omega (arith, length-header limits, length-append (header_text limits) (texts entries))

-- two entries that some bytes begin with are one
pub same_first : (version : Version) (limit place : ℕ) (one two : Entry) (after behind : List ℕ)
    → IsRecordableIn version one.caller one.event one.answer → IsRecordableIn version two.caller two.event two.answer
    → place + length (text_in version one.caller one.event one.answer) ≤ limit → place + length (text_in version two.caller two.event two.answer) ≤ limit
    → limit ≤ 1073741824
    → text_in version one.caller one.event one.answer ++ after ≡ text_in version two.caller two.event two.answer ++ behind → one ≡ two
same_first version limit place one two after behind first second fits within small same =
    ap (λ (p : Entry × ℕ). p.0)
    (some_is (one, length (text_in version one.caller one.event one.answer)) (two, length (text_in version two.caller two.event two.answer))
    (sym (entry_first_again version one.caller one.event one.answer after limit place first fits small) ∙ ap (entry_first version limit place) same
    ∙ entry_first_again version two.caller two.event two.answer behind limit place second within small))
  where
    some_is : (p q : Entry × ℕ) → ◌≡◌ {A = Option (Entry × ℕ)} (Some p) (Some q) → p ≡ q
    some_is p q e = cc

-- What is read of a recording, entry by entry.

-- where the header is read, all is formed so far
pub opened : (bytes : List ℕ) (left : Remaining) → HasHeader bytes left → IsFormedTo bytes left.caps [] left
opened bytes left is =
    let above = is.lawful.recording.above in
    record {
      caps_are = refl;
      formed = record { record_ = record { lawful = is.lawful; all = tt; fits = omega (arith, record_length left.caps []) }; lawful = tt };
      text = is.text ∙ ap (λ (l : List ℕ). l ++ left.rest) (sym (append-nil (header_text left.caps)));
      place = is.at_is ∙ sym (record_length left.caps []);
    }

-- with one lawful entry more
pub formed_more : (bytes : List ℕ) (caps : Limits) (before : List Entry) (old new : Remaining) (placed : Placed) → IsFormedTo bytes caps before old
    → Reads old placed new → IsLawful placed.entry.event → IsFormedTo bytes caps (before ++ placed.entry ∷ []) new
formed_more bytes caps before old new placed is reads lawful =
    let entry = placed.entry in
    let own : List ℕ = entry_text entry.caller entry.event entry.answer in
    let text = record_more caps before entry in
    let size : length (record_text caps (before ++ entry ∷ [])) ≡ length (record_text caps before) + length own =
    ap length text ∙ length-append (record_text caps before) own in
    let within = reads.within in
    record {
      caps_are = reads.caps_stay ∙ is.caps_are;
      formed = record {
        record_ = record {
          lawful = is.formed.record_.lawful;
          all = all_more Recordable before entry is.formed.record_.all reads.recordable;
          fits = omega (arith, size, reads.moved, is.place, ap (λ (l : Limits). l.recording) is.caps_are);
        };
        lawful = all_more (λ (e : Entry). IsLawful e.event) before entry is.formed.lawful lawful;
      };
      text =
          is.text ∙ ap (λ (l : List ℕ). record_text caps before ++ l) reads.text ∙ sym (append_assoc (record_text caps before) own new.rest)
          ∙ ap (λ (l : List ℕ). l ++ new.rest) (sym text);
      place = omega (arith, reads.moved, is.place, size);
    }

-- where nothing is left, the bytes are a recording
pub formed_all : (bytes : List ℕ) (caps : Limits) (before : List Entry) (left : Remaining) → IsFormedTo bytes caps before left → left.rest ≡ []
    → bytes ≡ record_text caps before
formed_all bytes caps before left is none = is.text ∙ ap (λ (l : List ℕ). record_text caps before ++ l) none ∙ append-nil (record_text caps before)

pub nothing_left : (left : Remaining) → left.rest ≡ [] → EndsFormed left
nothing_left left none bytes caps before is =
    let all = append-nil before in
    ([], subst (IsFormed caps) (sym all) is.formed, formed_all bytes caps before left is none ∙ ap (record_text caps) (sym all))

-- what is read of a recording whose packets and addresses are lawful
pub read_formed : {E : Type 0} (bytes : List ℕ) (caps : Limits) (entries : List Entry) (r : Result ReadRecord E) → IsFormed caps entries
    → bytes ≡ record_text caps entries → IsOkAnd r (λ reader. (reader.caps ≡ caps) × (reader.entries ≡ placed_from header_size entries))
    → IfOk r (λ reader. IsFormed reader.caps (unplaced reader.entries) × (bytes ≡ record_text reader.caps (unplaced reader.entries)))
read_formed bytes caps entries (Ok reader) formed text same =
    let own : unplaced reader.entries ≡ entries = ap unplaced same.1 ∙ unplaced_from header_size entries in (
      subst (λ (l : Limits). IsFormed l (unplaced reader.entries)) (sym same.0) (subst (IsFormed caps) (sym own) formed),
      text ∙ ap (record_text caps) (sym own) ∙ ap (λ (l : Limits). record_text l (unplaced reader.entries)) (sym same.0),
    )
read_formed bytes caps entries (Err e) formed text same = tt

-- no entry is next, or one that isn't lawful
pub none_lawful : (left : Remaining) (at : ℕ) → HasNoNext left at → HasNoLawful left at
none_lawful left at is = record { at_is = is.at_is; some = is.some; none = λ entry more recordable lawful fits same. is.none entry more recordable fits same }

pub unlawful_next : (old new : Remaining) (placed : Placed) → Reads old placed new → is_lawful placed.entry.event ≡ false → HasNoLawful old placed.at
unlawful_next old new placed reads unlawful =
    let first = placed.entry in
    let own : List ℕ = entry_text first.caller first.event first.answer in
    let small = reads.small in
    let shorter = reads.shorter in
    record {
      at_is = reads.at_is;
      some = omega arith;
      none = λ entry more recordable lawful fits same.
          not_lawful first.event unlawful
          (subst (λ (e : Entry). IsLawful e.event) (sym (same_first Second 1073741824 old.at first entry new.rest more reads.recordable recordable
          (omega (arith, ap length reads.text, length-append own new.rest))
          (omega (arith, ap length same, length-append (entry_text entry.caller entry.event entry.answer) more))
          (omega arith) (sym reads.text ∙ same))) lawful);
    }

pub stuck_here : (left : Remaining) (at : ℕ) → HasNoLawful left at → IsStuckAt left at
stuck_here left at is bytes caps before formed = record {
  limits = caps;
  entries = before;
  rest = left.rest;
  formed = formed.formed;
  text = formed.text;
  place = is.at_is ∙ formed.place;
  some = is.some;
  none = λ entry more recordable lawful fits same. is.none entry more recordable lawful
      (omega (arith, fits, ap (λ (l : Limits). l.recording) formed.caps_are)) same;
}

-- what comes of the entries behind a lawful one comes of all
pub ends_behind : (old new : Remaining) (placed : Placed) → Reads old placed new → IsLawful placed.entry.event → EndsFormed new → EndsFormed old
ends_behind old new placed reads lawful ends bytes caps before is =
    let rest = ends bytes caps (before ++ placed.entry ∷ []) (formed_more bytes caps before old new placed is reads lawful) in
    let joined = append_assoc before (placed.entry ∷ []) rest.0 in
    (placed.entry ∷ rest.0, subst (IsFormed caps) joined rest.1, rest.2 ∙ ap (record_text caps) joined)

pub stuck_behind : (old new : Remaining) (placed : Placed) (at : ℕ) → Reads old placed new → IsLawful placed.entry.event → IsStuckAt new at → IsStuckAt old at
stuck_behind old new placed at reads lawful stuck bytes caps before is =
    stuck bytes caps (before ++ placed.entry ∷ []) (formed_more bytes caps before old new placed is reads lawful)

-- A recording has no such place.

never : (limit place at : ℕ) (entries history : List Entry) (rest : List ℕ) → AllByRecursion Recordable entries → AllByRecursion Recordable history
    → AreLawful history → place + length (texts history) ≤ limit → limit ≤ 1073741824
    → at ≡ place + length (texts entries) → 0 < length rest
    → ((entry : Entry) (more : List ℕ) → Recordable entry → IsLawful entry.event → at + length (entry_text entry.caller entry.event entry.answer) ≤ limit
    → rest ≡ entry_text entry.caller entry.event entry.answer ++ more → ⊥)
    → texts entries ++ rest ≡ texts history → ⊥
never limit place at [] [] rest all others lawful fits small at_is some none same = absurd (omega (arith, ap length same))
never limit place at [] (h ∷ history) rest all others lawful fits small at_is some none same =
    none h (texts history) others.0 lawful.0 (omega (arith, length-append (entry_text h.caller h.event h.answer) (texts history))) same
never limit place at (e ∷ entries) [] rest all others lawful fits small at_is some none same =
    absurd (omega (arith, ap length same, length-append (entry_text e.caller e.event e.answer ++ texts entries) rest))
never limit place at (e ∷ entries) (h ∷ history) rest all others lawful fits small at_is some none same =
    let own : List ℕ = entry_text e.caller e.event e.answer in
    let other : List ℕ = entry_text h.caller h.event h.answer in
    let joined : own ++ (texts entries ++ rest) ≡ other ++ texts history = sym (append_assoc own (texts entries) rest) ∙ same in
    let size = length-append own (texts entries ++ rest) in
    let long = length-append other (texts history) in
    let one : e ≡ h = same_first Second limit place e h (texts entries ++ rest) (texts history) all.0 others.0 (omega (arith, ap length joined))
    (omega arith) small joined in
    let text : own ≡ other = ap (λ (x : Entry). entry_text x.caller x.event x.answer) one in
    let behind : texts entries ++ rest ≡ texts history =
    sym (drop_front own (texts entries ++ rest)) ∙ ap (drop (length own)) joined ∙ ap (λ (l : List ℕ). drop (length l) (other ++ texts history)) text
    ∙ drop_front other (texts history) in
    never limit (place + length own) at entries history rest all.1 others.1 lawful.1 (omega (arith, ap length text)) small
    (omega (arith, length-append own (texts entries))) some none behind

pub no_place : (bytes : List ℕ) (at : ℕ) (caps : Limits) (history : List Entry) → IsFormed caps history → bytes ≡ record_text caps history
    → IsUnformedAt bytes at → ⊥
no_place bytes at caps history formed same (inl is) = is.none caps (texts history) formed.record_.lawful same
no_place bytes at caps history formed same (inr is) =
    let split : bytes ≡ header_text is.limits ++ (texts is.entries ++ is.rest) = is.text ∙ append_assoc (header_text is.limits) (texts is.entries) is.rest in
    let one : is.limits ≡ caps =
    some_is is.limits caps
    (sym (header_again Second is.limits (texts is.entries ++ is.rest) is.formed.record_.lawful) ∙ ap (header_read Second) (sym split ∙ same)
    ∙ header_again Second caps (texts history) formed.record_.lawful) in
    let header : header_text is.limits ≡ header_text caps = ap header_text one in
    let behind : texts is.entries ++ is.rest ≡ texts history =
    sym (drop_front (header_text is.limits) (texts is.entries ++ is.rest)) ∙ ap (drop (length (header_text is.limits))) (sym split ∙ same)
    ∙ ap (λ (l : List ℕ). drop (length l) (header_text caps ++ texts history)) header ∙ drop_front (header_text caps) (texts history) in
    let limit = ap (λ (l : Limits). l.recording) one in
    never caps.recording header_size at is.entries history is.rest is.formed.record_.all formed.record_.all formed.lawful
    (omega (arith, formed.record_.fits, record_length caps history)) formed.record_.lawful.recording.below
    (is.place ∙ record_length is.limits is.entries) is.some
    (λ entry more recordable lawful fits rest. is.none entry more recordable lawful (omega (arith, fits, limit)) rest) behind
  where
    some_is : (x y : Limits) → ◌≡◌ {A = Option Limits} (Some x) (Some y) → x ≡ y
    some_is x y e = cc
