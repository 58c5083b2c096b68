-- Entries of a recording that are read one after another.
use Rattle.std.proofs.Common.{◌≡◌, ℕ, ◌≤◌, List, [], ◌∷◌, ◌++◌, length, drop, Option, Some, None, Ok, Err, Result, refl, sym, ap, subst, ◌∙◌}
use Rattle.std.proofs.Common.{arith, length-append}
use Rattle.std.specs.Prelude.{⊤, IsTrue, is_ok, IfSome, IfNone}
use Rattle.std.specs.Iterator.{YieldsFirstBy, MakesProgress, item_count}
use Rattle.osc_record.specs.declared.event.Entry.{Entry}
use Rattle.osc_record.specs.Left.{placed_of}
use Rattle.osc_atoms.specs.Atoms.{AreBytes}
use Rattle.osc_atoms.proofs.AllBytes.{rest_bytes}
use Rattle.osc_model.specs.Limits.{Limits, header_size}
use Rattle.osc_model.specs.Events.{Entry as Recorded}
use Rattle.osc_model.specs.Recordings.{entry_text, header_text, record_text}
use Rattle.std.specs.List.{flat_map}
use Rattle.osc_record.specs.declared.version.Version.TheVariants.{Second}
use Rattle.osc_record.specs.Reading.{entry_first, header_read, entries_at, onto_read, placed_in, Placed, placed_from, IsRecord}
use Rattle.osc_record.specs.Unread.{Remaining, HasHeader, Reads, HasNoNext}
use Rattle.osc_record.proofs.Again.{drop_front, entry_first_again}
use Rattle.osc_record.proofs.EntriesRead.{entry_first_was}
use Rattle.osc_record.proofs.Readings.{header_again, entries_again}
use Rattle.osc_record.proofs.Walks.{at_first, at_none}
use Rattle.osc_record.proofs.Written.{header_length, range_below}
use Rattle.osc_live.specs.Left.{AreRows, rows_in}

some_is : {X : Type 0} (x y : X) → ◌≡◌ {A = Option X} (Some x) (Some y) → x ≡ y
some_is x y same = cc

-- after a header that is read are the entries of the recording
pub record Opened (left : Remaining) (caps : Limits) (history : List Recorded) : Type 0 where
  pub limits_are : left.caps ≡ caps
  pub read : entries_at Second left.caps.recording left.at left.rest ≡ Ok (placed_from header_size history)

pub opens : (bytes : List ℕ) (left : Remaining) (caps : Limits) (history : List Recorded) → HasHeader bytes left → IsRecord caps history
    → bytes ≡ record_text caps history → Opened left caps history
opens bytes left caps history header is text =
    let all : List ℕ = flat_map (λ (e : Recorded). entry_text e.caller e.event e.answer) history in
    let one : header_text left.caps ++ left.rest ≡ header_text caps ++ all = sym header.text ∙ text in
    let limits : left.caps ≡ caps =
    some_is left.caps caps (sym (header_again Second left.caps left.rest header.lawful) ∙ ap (header_read Second) one
    ∙ header_again Second caps all is.lawful) in
    let rest : left.rest ≡ all =
    sym (drop_front (header_text left.caps) left.rest) ∙ (λ i. drop (length (header_text (limits i))) (one i)) ∙ drop_front (header_text caps) all in
    let below = range_below Second caps is.lawful in
    let fits = is.fits in
    record {
      limits_are = limits;
      read = (λ i. entries_at Second (limits i).recording (header.at_is i) (rest i))
          ∙ entries_again Second history (length all) caps.recording header_size is.all (omega arith)
          (omega (arith, fits, length-append (header_text caps) all, header_length Second caps))
          below;
    }

pub bytes_behind : (bytes : List ℕ) (left : Remaining) → HasHeader bytes left → AreBytes bytes → AreBytes left.rest
bytes_behind bytes left header all =
    let rest : drop (length (header_text left.caps)) bytes ≡ left.rest =
    ap (drop (length (header_text left.caps))) header.text ∙ drop_front (header_text left.caps) left.rest in
    subst AreBytes rest (rest_bytes (length (header_text left.caps)) bytes all)

pub opened_rows : (left : Remaining) (caps : Limits) (history : List Recorded) → AreBytes left.rest → left.caps.recording ≤ 1073741824
    → Opened left caps history → AreRows left
opened_rows left caps history bytes small is =
    record { small = small; bytes = bytes; readable = ap is_ok is.read }

-- one more entry is read
first_is : (old new : Remaining) (placed : Placed) → AreRows old → Reads old placed new
    → entries_at Second old.caps.recording old.at old.rest ≡ onto_read placed (entries_at Second new.caps.recording new.at new.rest)
first_is old new placed rows reads =
    let entry = placed.entry in
    let text : List ℕ = entry_text entry.caller entry.event entry.answer in
    let within = reads.within in
    let small = rows.small in
    let found : entry_first Second old.caps.recording old.at old.rest ≡ Some (entry, length text) =
    ap (entry_first Second old.caps.recording old.at) reads.text
    ∙ entry_first_again Second entry.caller entry.event entry.answer new.rest old.caps.recording old.at reads.recordable (omega (arith, within, reads.moved))
    small in
    let rest : drop (length text) old.rest ≡ new.rest = ap (drop (length text)) reads.text ∙ drop_front text new.rest in
    at_first Second old.caps.recording old.at old.rest (entry, length text) (omega (arith, reads.shorter)) found
    ∙ (λ i. onto_read (record { at = sym reads.at_is i; entry = entry })
    (entries_at Second (sym reads.caps_stay i).recording (sym reads.moved i) (rest i)))

rest_ok : (first : Placed) (r : Result (List Placed) ℕ) → IsTrue (is_ok (onto_read first r)) → IsTrue (is_ok r)
rest_ok first (Ok entries) ok = ok
rest_ok first (Err at) ok = ok

first_ok : (first : Placed) (r : Result (List Placed) ℕ) → IsTrue (is_ok r) → placed_in (onto_read first r) ≡ first ∷ placed_in r
first_ok first (Ok entries) ok = refl
first_ok first (Err at) ok = absurd (cc)

pub rows_rest : (old new : Remaining) (placed : Placed) → AreRows old → Reads old placed new → AreRows new
rows_rest old new placed rows reads =
    let entry = placed.entry in
    let text : List ℕ = entry_text entry.caller entry.event entry.answer in
    let rest : drop (length text) old.rest ≡ new.rest = ap (drop (length text)) reads.text ∙ drop_front text new.rest in
    record {
      small = subst (λ (l : Limits). l.recording ≤ 1073741824) (sym reads.caps_stay) rows.small;
      bytes = subst AreBytes rest (rest_bytes (length text) old.rest rows.bytes);
      readable = rest_ok placed (entries_at Second new.caps.recording new.at new.rest)
          (subst (λ (r : Result (List Placed) ℕ). IsTrue (is_ok r)) (first_is old new placed rows reads) rows.readable);
    }

pub rows_first : (old new : Remaining) (placed : Placed) → AreRows old → Reads old placed new → rows_in old ≡ placed ∷ rows_in new
rows_first old new placed rows reads =
    ap placed_in (first_is old new placed rows reads)
    ∙ first_ok placed (entries_at Second new.caps.recording new.at new.rest)
    (rest_ok placed (entries_at Second new.caps.recording new.at new.rest)
    (subst (λ (r : Result (List Placed) ℕ). IsTrue (is_ok r)) (first_is old new placed rows reads) rows.readable))

-- where no byte is left, no entry is
pub rows_none : (left : Remaining) → left.rest ≡ [] → rows_in left ≡ []
rows_none left none = ap (λ (l : List ℕ). placed_in (entries_at Second left.caps.recording left.at l)) none

err_not_ok : (r : Result (List Placed) ℕ) (at : ℕ) → r ≡ Err at → IsTrue (is_ok r) → ⊥
err_not_ok (Ok entries) at is ok = absurd (cc)
err_not_ok (Err other) at is ok = absurd (cc)

-- what is left after the next entry, if there is one
pub rows_stay : (old new : Remaining) (next : Option Entry) → AreRows old → IfSome next (λ entry. Reads old (placed_of entry) new)
    → IfNone next (new ≡ old) → AreRows new
rows_stay old new None rows some none = subst AreRows (sym none) rows
rows_stay old new (Some entry) rows some none = rows_rest old new (placed_of entry) rows some

pub rows_step : (old new : Remaining) (next : Option Entry) → AreRows old → IfSome next (λ entry. Reads old (placed_of entry) new)
    → IfNone next (old.rest ≡ []) → IfNone next (new ≡ old) → YieldsFirstBy placed_of (λ (l : List Placed). l) (rows_in old) next (rows_in new)
rows_step old new None rows some empty none = (rows_none old empty, ap rows_in none ∙ rows_none old empty)
rows_step old new (Some entry) rows some empty none = rows_first old new (placed_of entry) rows some

-- and fewer are left
pub fewer : (old new : List Placed) (next : Option Entry) → YieldsFirstBy placed_of (λ (l : List Placed). l) old next new
    → MakesProgress {S = List Placed} {A = Entry} (λ left. ⊤) (item_count (λ (l : List Placed). l)) old next new
fewer old new None is = record { on = λ f. tt; keeps = tt; rests = λ f. tt }
fewer old new (Some entry) is = let less = ap length is in record { on = λ f. (tt, tt, omega (arith, less)); keeps = tt; rests = λ f. tt }

-- all can be read, so the next can
pub never_stuck : (left : Remaining) (at : ℕ) → AreRows left → HasNoNext left at → ⊥
never_stuck left at rows stuck = go (entry_first Second left.caps.recording left.at left.rest) refl where
  go : (o : Option (Recorded × ℕ)) → entry_first Second left.caps.recording left.at left.rest ≡ o → ⊥
  go None is =
      err_not_ok (entries_at Second left.caps.recording left.at left.rest) left.at
      (at_none Second left.caps.recording left.at left.rest stuck.some is) rows.readable
  go (Some first) is =
      let was = entry_first_was Second left.caps.recording left.at left.rest first rows.bytes is in
      stuck.none first.0 (drop first.1 left.rest) was.lawful (omega (arith, stuck.at_is, was.size, was.within)) was.text
