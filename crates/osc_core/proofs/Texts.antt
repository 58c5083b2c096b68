-- The texts that a server stands for.
use Rattle.std.proofs.Common.{◌≡◌, ◌≢◌, ℕ, ◌+◌, ◌≤◌, ◌==◌, Bool, true, false, cond, nat_lt, is_some, List, [], ◌∷◌, ◌++◌, length, length-append}
use Rattle.std.proofs.Common.{append_assoc, map, Option, Some, None, refl, sym, ap, subst, ◌∙◌, arith}
use Rattle.std.specs.List.{cons_option, list_all, AllByRecursion, Contains}
use Rattle.std.specs.Option.{option_map}
use Rattle.std.specs.Prelude.{not}
use Rattle.std.proofs.lemmas.Bool.{eq-eqb, and_parts}
use Rattle.std.proofs.lemmas.Bool.Decides.{nat_tests}
use Rattle.std.proofs.lemmas.List.Elements.{filter_map-append, Contains-append_left, Contains-append_right}
use Rattle.osc_method.specs.Heard.{after_call}
use Rattle.osc_model.specs.Limits.{Limits}
use Rattle.osc_model.specs.State.{opening}
use Rattle.osc_model.specs.Events.{Event, Answer, added, adds_entry, Entry, Invocation}
use Rattle.osc_model.specs.Recordings.{IsRecordable, entry_text, record_text}
use Rattle.osc_model.specs.Heard.{Told, bytes_of, hear, hear_all, all_hear, reset, without_id}
use Rattle.osc_model.specs.History.{Legal, Performance, stepped_in, onward, HaveHeard}
use Rattle.osc_model.proofs.Counted.{history_counted}
use Rattle.osc_model.proofs.Onward.{legal_split, entry_in as entry_on}
use Rattle.osc_model.proofs.Recordable.{after_caps}
use Rattle.osc_model.proofs.Boxes.{same_id}
use Rattle.osc_laws.proofs.Members.{sent}
use Rattle.osc_record.specs.Reading.{entry_in}
use Rattle.osc_record.proofs.Kept.{record_more}
use Rattle.osc_turn.specs.Jobs.{StandsNext}
use Rattle.osc_core.specs.Ids.{is_ascending}
use Rattle.osc_core.specs.Standing.{mark_of, mark_after, text_with, AreTexts, as_many, history_in, CarriesMark, AreMarked, StandsFor, mark_in, mark_by}
use Rattle.osc_core.specs.Standing.{texts_of}
use Rattle.osc_core.proofs.Added.{IsAdded, methods_added}
use Rattle.osc_core.proofs.Ascents.{greater_are_others}
use Rattle.osc_core.proofs.Played.{few_entries}

-- What the laws say.
pub record TextLaws : Type 0 where
  pub all : (caps : Limits) (history : List Entry) → Legal caps history → AllByRecursion (λ entry. IsRecordable entry.caller entry.event entry.answer) history
  pub within : (caps : Limits) (history : List Entry) → Legal caps history → length (record_text caps history) ≤ caps.recording
  pub again : (caller : ℕ) (event : Event) (answer : Answer) (rest : List ℕ) → IsRecordable caller event answer
      → length (entry_text caller event answer) ≤ 1073741824
      → entry_in (entry_text caller event answer ++ rest) ≡ Some (record { caller = caller; event = event; answer = answer })

-- Texts one after another.

pub read_more : (texts : List (List ℕ)) (text : List ℕ) (entry : Entry) → entry_in text ≡ Some entry
    → history_in (texts ++ text ∷ []) ≡ history_in texts ++ entry ∷ []
read_more texts text entry is = filter_map-append entry_in texts (text ∷ []) ∙ ap (λ (o : Option Entry). history_in texts ++ cons_option o []) is

pub written_more : (entries : List Entry) (texts : List (List ℕ)) (entry : Entry) (mark : List ℕ) → AreTexts entries texts
    → AreTexts (entries ++ entry ∷ []) (texts ++ text_with mark entry ∷ [])
written_more [] [] entry mark are = ((mark, refl), tt)
written_more [] (text ∷ texts) entry mark are = absurd are
written_more (first ∷ entries) [] entry mark are = absurd are
written_more (first ∷ entries) (text ∷ texts) entry mark are = (are.0, written_more entries texts entry mark are.1)

pub carries_more : (texts : List (List ℕ)) (text : List ℕ) (id : ℕ) (mark : List ℕ) → CarriesMark texts id mark → CarriesMark (texts ++ text ∷ []) id mark
carries_more texts text id mark (entry, is, read, there) = (
  entry,
  is,
  subst (λ (h : List Entry). Contains h entry) (sym (filter_map-append entry_in texts (text ∷ [])))
      (Contains-append_left (history_in texts) (history_in (text ∷ [])) entry read),
  Contains-append_left texts (text ∷ []) (text_with mark entry) there,
)

pub marked_more : (texts : List (List ℕ)) (text : List ℕ) (boxes : List Told) → AreMarked texts boxes → AreMarked (texts ++ text ∷ []) boxes
marked_more texts text [] are = tt
marked_more texts text (told ∷ boxes) are = (carries_more texts text told.id (mark_of told) are.0, marked_more texts text boxes are.1)

-- What boxes hear changes no mark.

hear_mark : (told : Told) (invocation : Invocation) → mark_of (hear told invocation) ≡ mark_of told
hear_mark told invocation = go (invocation.call.id == told.id) where
  some : (heard : Option (List ℕ)) → is_some (after_call told.keep.most (bytes_of invocation) heard) ≡ is_some heard
  some None = refl
  some (Some bytes) = refl

  go : (t : Bool) → mark_of (cond t (record told { heard = after_call told.keep.most (bytes_of invocation) told.heard }) told) ≡ mark_of told
  go true = ap (λ (t : Bool). cond t (told.keep.most + 1) 0 ∷ told.keep.name) (some told.heard)
  go false = refl

hear_all_mark : (invocations : List Invocation) (told : Told) → mark_of (hear_all invocations told) ≡ mark_of told
hear_all_mark [] told = refl
hear_all_mark (invocation ∷ invocations) told = hear_all_mark invocations (hear told invocation) ∙ hear_mark told invocation

pub reset_mark : (told : Told) → mark_of (reset told) ≡ mark_of told
reset_mark told = ap (λ (t : Bool). cond t (told.keep.most + 1) 0 ∷ told.keep.name) (some told.heard) where
  some : (heard : Option (List ℕ)) → is_some (option_map (λ (_ : List ℕ). let none : List ℕ = [] in none) heard) ≡ is_some heard
  some None = refl
  some (Some bytes) = refl

pub called_marked : (texts : List (List ℕ)) (invocations : List Invocation) (boxes : List Told) → AreMarked texts boxes
    → AreMarked texts (all_hear invocations boxes)
called_marked texts invocations [] are = tt
called_marked texts invocations (told ∷ boxes) are = (
  subst (λ (m : List ℕ). CarriesMark texts (hear_all invocations told).id m) (sym (hear_all_mark invocations told))
      (subst (λ (n : ℕ). CarriesMark texts n (mark_of told)) (sym (same_id invocations told)) are.0),
  called_marked texts invocations boxes are.1,
)

pub fewer_marked : (texts : List (List ℕ)) (id : ℕ) (boxes : List Told) → AreMarked texts boxes → AreMarked texts (without_id id boxes)
fewer_marked texts id [] are = tt
fewer_marked texts id (told ∷ boxes) are = go (not (told.id == id)) (fewer_marked texts id boxes are.1) where
  go : (t : Bool) → AreMarked texts (without_id id boxes) → AreMarked texts (cond t (told ∷ without_id id boxes) (without_id id boxes))
  go true rest = (are.0, rest)
  go false rest = rest

both_marked : (texts : List (List ℕ)) (boxes more : List Told) → AreMarked texts boxes → AreMarked texts more → AreMarked texts (boxes ++ more)
both_marked texts [] more are these = these
both_marked texts (told ∷ boxes) more are these = (are.0, both_marked texts boxes more are.1 these)

-- How many entries there are.

pub few_legal : (caps : Limits) (history : List Entry) → Legal caps history → length history ≤ 1073741824
few_legal caps history legal =
    let counted = history_counted caps history legal in
    let few = few_entries (opening caps) history legal.1 in
    let same = ap (λ (c : Limits). c.recording) (after_caps (opening caps) history) in
    let within = counted.within in
    let most = legal.0.recording.below in
    omega (arith, few, within, most, same)

-- One event on.

last_of_all : {X : Type 0} (P : X → Type 0) (xs : List X) (x : X) → AllByRecursion P (xs ++ x ∷ []) → P x
last_of_all P [] x all = all.0
last_of_all P (y ∷ xs) x all = last_of_all P xs x all.1

-- the last entry of a legal history is read in its text
pub last_read : TextLaws → (caps : Limits) (history : List Entry) (entry : Entry) (mark : List ℕ) → Legal caps (history ++ entry ∷ [])
    → entry_in (text_with mark entry) ≡ Some entry
last_read laws caps history entry mark legal =
    let recordable = last_of_all (λ entry. IsRecordable entry.caller entry.event entry.answer) history entry (laws.all caps (history ++ entry ∷ []) legal) in
    let within = laws.within caps (history ++ entry ∷ []) legal in
    let most = legal.0.recording.below in
    let size = ap length (record_more caps history entry) in
    laws.again entry.caller entry.event entry.answer (mark_after entry.answer mark) recordable
    (omega (arith, size, within, most, length-append (record_text caps history) (entry_text entry.caller entry.event entry.answer)))

-- Where a server stood for texts, its boxes have heard the event, and each has its mark then, it stands for one text more
-- where the event adds an entry, and for the same texts where it adds none.
stands_next : TextLaws → (performance : Performance) (caller : ℕ) (event : Event) (before boxes : List Told) (texts : List (List ℕ)) (mark : List ℕ)
    → StandsFor performance before texts
    → Legal performance.caps (onward performance caller event).history → HaveHeard (onward performance caller event) boxes
    → (adds_entry (stepped_in performance event).answer ≡ true → AreMarked (texts ++ text_with mark (entry_on performance caller event) ∷ []) boxes)
    → (adds_entry (stepped_in performance event).answer ≡ false → AreMarked texts boxes)
    → StandsNext (StandsFor (onward performance caller event) boxes) (adds_entry (stepped_in performance event).answer) texts
stands_next laws performance caller event before boxes texts mark stands legal heard marked unmarked =
    go (adds_entry (stepped_in performance event).answer) refl legal heard where
      entry : Entry
      entry = entry_on performance caller event

      next : Bool → Performance
      next t = cond t (record performance { history = performance.history ++ entry ∷ [] }) performance

      go : (t : Bool) → adds_entry (stepped_in performance event).answer ≡ t → Legal performance.caps (next t).history → HaveHeard (next t) boxes
          → StandsNext (StandsFor (next t) boxes) t texts
      go true is legal heard =
          let read = last_read laws performance.caps performance.history entry mark legal in
          let written = written_more performance.history texts entry mark stands.written in (
            text_with mark entry,
            record {
              legal = legal;
              written = written;
              read = read_more texts (text_with mark entry) entry read ∙ ap (λ (h : List Entry). h ++ entry ∷ []) stands.read;
              heard = heard;
              marked = marked is;
              few = omega (
                arith,
                few_legal performance.caps (performance.history ++ entry ∷ []) legal,
                as_many (performance.history ++ entry ∷ [])
                    (texts ++ text_with mark entry ∷ []) written,
              );
            },
          )
      go false is legal heard = record { legal = legal; written = stands.written; read = stands.read; heard = heard; marked = unmarked is; few = stands.few }

pub same_next : TextLaws → (performance : Performance) (caller : ℕ) (event : Event) (boxes : List Told) (texts : List (List ℕ))
    → StandsFor performance boxes texts
    → Legal performance.caps (onward performance caller event).history → HaveHeard (onward performance caller event) boxes
    → StandsNext (StandsFor (onward performance caller event) boxes) (adds_entry (stepped_in performance event).answer) texts
same_next laws performance caller event boxes texts stands legal heard =
    stands_next laws performance caller event boxes boxes texts [] stands legal heard
    (λ is. marked_more texts (text_with [] (entry_on performance caller event)) boxes stands.marked) (λ is. stands.marked)

pub called_next : TextLaws
    → (performance : Performance) (caller : ℕ) (event : Event) (invocations : List Invocation) (boxes : List Told) (texts : List (List ℕ))
    → StandsFor performance boxes texts
    → Legal performance.caps (onward performance caller event).history → HaveHeard (onward performance caller event) (all_hear invocations boxes)
    → StandsNext (StandsFor (onward performance caller event) (all_hear invocations boxes)) (adds_entry (stepped_in performance event).answer) texts
called_next laws performance caller event invocations boxes texts stands legal heard =
    let marked = called_marked texts invocations boxes stands.marked in
    stands_next laws performance caller event boxes (all_hear invocations boxes) texts [] stands legal heard
    (λ is. marked_more texts (text_with [] (entry_on performance caller event)) (all_hear invocations boxes) marked) (λ is. marked)

pub fewer_next : TextLaws → (performance : Performance) (caller : ℕ) (event : Event) (id : ℕ) (boxes : List Told) (texts : List (List ℕ))
    → StandsFor performance boxes texts
    → Legal performance.caps (onward performance caller event).history → HaveHeard (onward performance caller event) (without_id id boxes)
    → StandsNext (StandsFor (onward performance caller event) (without_id id boxes)) (adds_entry (stepped_in performance event).answer) texts
fewer_next laws performance caller event id boxes texts stands legal heard =
    let marked = fewer_marked texts id boxes stands.marked in
    stands_next laws performance caller event boxes (without_id id boxes) texts [] stands legal heard
    (λ is. marked_more texts (text_with [] (entry_on performance caller event)) (without_id id boxes) marked) (λ is. marked)

pub more_next : TextLaws → (performance : Performance) (caller : ℕ) (event : Event) (told : Told) (boxes : List Told) (texts : List (List ℕ))
    → StandsFor performance boxes texts
    → Legal performance.caps (onward performance caller event).history → (stepped_in performance event).answer ≡ added told.id
    → HaveHeard (onward performance caller event) (boxes ++ reset told ∷ [])
    → StandsNext (StandsFor (onward performance caller event) (boxes ++ reset told ∷ [])) (adds_entry (stepped_in performance event).answer) texts
more_next laws performance caller event told boxes texts stands legal is heard =
    stands_next laws performance caller event boxes (boxes ++ reset told ∷ []) texts (mark_of told) stands legal heard
    (λ adds. both_marked (texts ++ text ∷ []) boxes (reset told ∷ []) (marked_more texts text boxes stands.marked) (own adds, tt)) (λ none. absurd (cc))
  where
    entry : Entry
    entry = entry_on performance caller event

    text : List ℕ
    text = text_with (mark_of told) entry

    adds : adds_entry (stepped_in performance event).answer ≡ true
    adds = ap adds_entry is

    own : adds_entry (stepped_in performance event).answer ≡ true → CarriesMark (texts ++ text ∷ []) told.id (mark_of (reset told))
    own adds =
        let whole : Legal performance.caps (performance.history ++ entry ∷ []) =
        subst (λ (t : Bool). Legal performance.caps (cond t (record performance { history = performance.history ++ entry ∷ [] }) performance).history) adds
        legal in
        let read : entry_in text ≡ Some entry = last_read laws performance.caps performance.history entry (mark_of told) whole in (
          entry,
          is,
          subst (λ (h : List Entry). Contains h entry) (sym (read_more texts text entry read))
              (Contains-append_right (history_in texts) (entry ∷ []) entry (0, omega arith, refl)),
          subst (λ (m : List ℕ). Contains (texts ++ text ∷ []) (text_with m entry)) (sym (reset_mark told))
              (Contains-append_right texts (text ∷ []) text (0, omega arith, refl)),
        )

-- what is stood for stays as performance and boxes are spelled otherwise
pub stood : (next onwards : Performance) (new boxes : List Told) (t : Bool) (texts : List (List ℕ)) → next ≡ onwards → new ≡ boxes
    → StandsNext (StandsFor onwards boxes) t texts → StandsNext (StandsFor next new) t texts
stood next onwards new boxes t texts is same stands =
    subst (λ (p : Performance). StandsNext (StandsFor p new) t texts) (sym is)
    (subst (λ (b : List Told). StandsNext (StandsFor onwards b) t texts) (sym same) stands)

-- The texts in which boxes that left have no mark.

own_written : (boxes : List Told) (entries : List Entry) → AreTexts entries (texts_of boxes entries)
own_written boxes [] = tt
own_written boxes (entry ∷ entries) = ((mark_by boxes entry.answer, refl), own_written boxes entries)

own_read : TextLaws → (caps : Limits) (boxes : List Told) (past entries : List Entry) → Legal caps (past ++ entries)
    → history_in (texts_of boxes entries) ≡ entries
own_read laws caps boxes past [] legal = refl
own_read laws caps boxes past (entry ∷ entries) legal =
    let whole : Legal caps ((past ++ entry ∷ []) ++ entries) = subst (Legal caps) (sym (append_assoc past (entry ∷ []) entries)) legal in
    let until : Legal caps (past ++ entry ∷ []) = (whole.0, (legal_split (opening caps) (past ++ entry ∷ []) entries whole.1).0) in
    let read = last_read laws caps past entry (mark_by boxes entry.answer) until in
    ap (λ (o : Option Entry). cons_option o (history_in (texts_of boxes entries))) read
    ∙ ap (λ (l : List Entry). entry ∷ l) (own_read laws caps boxes (past ++ entry ∷ []) entries whole)

-- each box is the one that is found by its id
own_marks : (boxes : List Told) → is_ascending (map (λ told. told.id) boxes) ≡ true → AllByRecursion (λ told. mark_in boxes told.id ≡ mark_of told) boxes
own_marks [] ascending = tt
own_marks (told ∷ boxes) ascending =
    let p = and_parts (list_all (nat_lt told.id) (map (λ (one : Told). one.id) boxes)) (is_ascending (map (λ (one : Told). one.id) boxes)) ascending in
    (here (told.id == told.id) (eq-eqb told.id told.id refl), later boxes (greater_are_others told.id (map (λ (one : Told). one.id) boxes) p.0) (own_marks boxes p.1))
  where
    here : (t : Bool) → t ≡ true → cond t (mark_of told) (mark_in boxes told.id) ≡ mark_of told
    here true is = refl
    here false is = absurd (cc)

    other : (a b : ℕ) → b ≢ a → (a == b) ≡ false
    other a b apart = grind (arith, nat_tests)

    later : (others : List Told) → AllByRecursion (λ id. id ≢ told.id) (map (λ (one : Told). one.id) others)
        → AllByRecursion (λ one. mark_in boxes one.id ≡ mark_of one) others → AllByRecursion (λ one. mark_in (told ∷ boxes) one.id ≡ mark_of one) others
    later [] apart are = tt
    later (one ∷ others) apart are =
        (ap (λ (t : Bool). cond t (mark_of told) (mark_in boxes one.id)) (other told.id one.id apart.0) ∙ are.0, later others apart.1 are.1)

own_marked : (entries : List Entry) (all boxes : List Told) → history_in (texts_of all entries) ≡ entries
    → AllByRecursion (IsAdded entries) (map (λ told. told.id) boxes)
    → AllByRecursion (λ told. mark_in all told.id ≡ mark_of told) boxes → AreMarked (texts_of all entries) boxes
own_marked entries all [] again are marks = tt
own_marked entries all (told ∷ boxes) again are marks = (one are.0 marks.0, own_marked entries all boxes again are.1 marks.1) where
  one : IsAdded entries told.id → mark_in all told.id ≡ mark_of told → CarriesMark (texts_of all entries) told.id (mark_of told)
  one (entry, is, held) mark =
      let same : mark_by all entry.answer ≡ mark_of told = ap (mark_by all) is ∙ mark in (
        entry,
        is,
        subst (λ (h : List Entry). Contains h entry) (sym again) held,
        subst (λ (m : List ℕ). Contains (texts_of all entries) (text_with m entry)) same
            (sent (λ (e : Entry). text_with (mark_by all e.answer) e) entries entry held),
      )

-- a server whose boxes have heard its history stands for these texts
pub own_texts : TextLaws → (performance : Performance) (boxes : List Told) → is_ascending (map (λ told. told.id) boxes) ≡ true
    → Legal performance.caps performance.history → HaveHeard performance boxes
    → StandsFor performance boxes (texts_of boxes performance.history)
own_texts laws performance boxes ascending legal heard =
    let read = own_read laws performance.caps boxes [] performance.history legal in
    let added = subst (AllByRecursion (IsAdded performance.history)) (sym heard.ids) (methods_added performance.caps performance.history legal) in
    record {
      legal = legal;
      written = own_written boxes performance.history;
      read = read;
      heard = heard;
      marked = own_marked performance.history boxes boxes read added (own_marks boxes ascending);
      few = omega (
        arith,
        few_legal performance.caps performance.history legal,
        as_many performance.history (texts_of boxes performance.history)
            (own_written boxes performance.history),
      );
    }
