-- What a recording in the making keeps: its bytes are those of its entries, and are read as them.
use Rattle.std.proofs.Common.{◌≡◌, ℕ, ◌+◌, ◌<◌, ◌≤◌, ◌^◌, Bool, true, false, cond, ◌==◌, zero, suc, List, [], ◌∷◌, ◌++◌, length, take, drop, map, Option, Some}
use Rattle.std.proofs.Common.{None, Ok, Err, Result, refl, sym, ap, ◌∙◌, subst, arith, length-append, length-drop, eqb-true, append_assoc, append-nil}
use Rattle.std.proofs.Common.{take-append-drop}
use Rattle.std.specs.Prelude.{IsTrue, is_ok}
use Rattle.std.specs.List.{flat_map, AllByRecursion}
use Rattle.std.specs.Option.{option_map_or}
use Rattle.std.proofs.lemmas.List.{take_all, drop_all, drop-append-le}
use Rattle.osc_model.specs.Events.{Event, Answer}
use Rattle.osc_model.specs.Limits.{Limits, header_size}
use Rattle.osc_model.specs.Events.{Entry as Recorded}
use Rattle.osc_model.specs.Recordings.{Row, row_of, row_text, sized, entry_text, FitsRow, IsHit, IsRecordable, hits_in, record_text, header_text}
use Rattle.osc_record.specs.declared.version.Version.TheVariants.{Second}
use Rattle.osc_record.specs.declared.version.Version.{Version}
use Rattle.osc_record.specs.Versions.{text_in}
use Rattle.osc_record.specs.Reading.{Placed, placed_by, placed_from, unplaced, entry_first, entries_read, entries_after}
use Rattle.osc_record.specs.Writing.{Begun, begun_text, recording_text, appended, entries_of, entries_in, begun_in, recording_of, AreWhole, IsKept}
use Rattle.osc_record.proofs.Again.{entry_first_again, entries_more}

-- an entry has some bytes
pub entry_some : (caller : ℕ) (event : Event) (answer : Answer) → FitsRow (row_of caller event answer) → 0 < length (entry_text caller event answer)
entry_some caller event answer fits = go (row_of caller event answer) fits where
  go : (o : Option Row) → FitsRow o → 0 < length (option_map_or (λ row. sized (row_text row)) o [])
  go None f = absurd f
  go (Some row) f = omega arith

map_more : (xs : List Placed) (x : Placed) → map (λ (p : Placed). p.entry) (xs ++ x ∷ []) ≡ map (λ (p : Placed). p.entry) xs ++ x.entry ∷ []
map_more [] x = refl
map_more (y ∷ xs) x = ap (λ (l : List Recorded). y.entry ∷ l) (map_more xs x)

-- entries at their places are these entries
pub unplaced_by : (version : Version) (place : ℕ) (entries : List Recorded) → unplaced (placed_by version place entries) ≡ entries
unplaced_by version place [] = refl
unplaced_by version place (entry ∷ entries) =
    ap (λ (l : List Recorded). entry ∷ l) (unplaced_by version (place + length (text_in version entry.caller entry.event entry.answer)) entries)

pub unplaced_from : (place : ℕ) (entries : List Recorded) → unplaced (placed_from place entries) ≡ entries
unplaced_from place entries = unplaced_by Second place entries

texts_more : (xs : List Recorded) (x : Recorded)
    → flat_map (λ (e : Recorded). entry_text e.caller e.event e.answer) (xs ++ x ∷ [])
    ≡ flat_map (λ (e : Recorded). entry_text e.caller e.event e.answer) xs ++ entry_text x.caller x.event x.answer
texts_more [] x = append-nil (entry_text x.caller x.event x.answer)
texts_more (y ∷ xs) x = ap (λ (l : List ℕ). entry_text y.caller y.event y.answer ++ l) (texts_more xs x)
    ∙ sym (append_assoc (entry_text y.caller y.event y.answer) (flat_map (λ (e : Recorded). entry_text e.caller e.event e.answer) xs)
    (entry_text x.caller x.event x.answer))

-- the bytes with one more entry
pub record_more : (limits : Limits) (xs : List Recorded) (x : Recorded)
    → record_text limits (xs ++ x ∷ []) ≡ record_text limits xs ++ entry_text x.caller x.event x.answer
record_more limits xs x = ap (λ (l : List ℕ). header_text limits ++ l) (texts_more xs x)
    ∙ sym (append_assoc (header_text limits) (flat_map (λ (e : Recorded). entry_text e.caller e.event e.answer) xs) (entry_text x.caller x.event x.answer))

-- whole entries with one more
pub record MoreWhole (limits : Limits) (bytes : List ℕ) (entry : Recorded) : Type 0 where
  pub whole : AreWhole limits (bytes ++ entry_text entry.caller entry.event entry.answer)
  pub entries : entries_in limits (bytes ++ entry_text entry.caller entry.event entry.answer) ≡ entries_in limits bytes ++ entry ∷ []

pub whole_more : (limits : Limits) (bytes : List ℕ) (entry : Recorded) → AreWhole limits bytes → IsRecordable entry.caller entry.event entry.answer
    → length bytes + length (entry_text entry.caller entry.event entry.answer) ≤ limits.recording → limits.recording ≤ 1073741824 → MoreWhole limits bytes entry
whole_more limits bytes entry whole is fits small = go (entries_after Second limits bytes) refl whole.read where
  go : (r : Result (List Placed) ℕ) → entries_after Second limits bytes ≡ r → IsTrue (is_ok r) → MoreWhole limits bytes entry
  go (Err at) read ok = absurd (cc)
  go (Ok xs) read ok =
      let text : List ℕ = entry_text entry.caller entry.event entry.answer in
      let rest : List ℕ = drop header_size bytes in
      let header = whole.header in
      let some : 0 < length text = entry_some entry.caller entry.event entry.answer is.fits in
      let place : header_size + length rest ≡ length bytes = omega (arith, length-drop header_size bytes) in
      let first : entry_first Second limits.recording (header_size + length rest) text ≡ Some (entry, length text) =
      subst (λ (l : List ℕ). entry_first Second limits.recording (header_size + length rest) l ≡ Some (entry, length text)) (append-nil text)
      (entry_first_again Second entry.caller entry.event entry.answer [] limits.recording (header_size + length rest) is (omega arith) small) in
      let fewer : length bytes < length (bytes ++ text) = omega (arith, length-append bytes text) in
      let new : entries_after Second limits (bytes ++ text) ≡ Ok (xs ++ record { at = header_size + length rest; entry = entry } ∷ []) =
      ap (entries_read Second (length (bytes ++ text)) limits.recording header_size) (drop-append-le header_size bytes text header)
      ∙ entries_more Second (length bytes) (length (bytes ++ text)) limits.recording header_size rest text xs entry read fewer first some in
      let entries : entries_in limits (bytes ++ text) ≡ entries_in limits bytes ++ entry ∷ [] =
      ap entries_of new ∙ map_more xs (record { at = header_size + length rest; entry = entry })
      ∙ ap (λ (l : List Recorded). l ++ entry ∷ []) (sym (ap entries_of read)) in
      record {
        whole = record {
          header = omega (arith, length-append bytes text);
          read = ap is_ok new;
          spelled = ap (λ (l : List ℕ). l ++ text) whole.spelled ∙ sym (record_more limits (entries_in limits bytes) entry)
              ∙ ap (record_text limits) (sym entries);
        };
        entries = entries;
      }

-- the kept bytes are those of what they stand for
pub text_is : (limits : Limits) (bytes : List ℕ) (start caller unit owed capacity : ℕ) → IsKept limits bytes start caller unit owed capacity
    → recording_text (recording_of limits bytes start caller unit owed) ≡ bytes
text_is limits bytes start caller unit owed capacity kept =
    (λ i. sym kept.whole.spelled i ++ sym kept.begun i) ∙ take-append-drop start bytes

pub none_owed : (caller unit owed : ℕ) (bytes : List ℕ) → begun_in caller unit owed bytes ≡ None → owed ≡ 0
none_owed caller unit owed bytes is = go (owed == 0) refl is where
  go : (t : Bool) → (owed == 0) ≡ t
      → cond {A = Option Begun} t None (Some (record { caller = caller; unit = unit; hits = hits_in (drop 44 bytes); owed = owed })) ≡ None → owed ≡ 0
  go true e i = eqb-true owed 0 e
  go false e i = absurd (cc)

pub some_owed : (caller unit owed : ℕ) (bytes : List ℕ) → (begun_in caller unit owed bytes ≡ None → ⊥) → 0 < owed
some_owed caller unit zero bytes some = absurd (some refl)
some_owed caller unit (suc owed) bytes some = omega arith

-- without a release that is owed hits, all bytes are whole entries
pub all_whole : (limits : Limits) (bytes : List ℕ) (start caller unit owed capacity : ℕ) → IsKept limits bytes start caller unit owed capacity
    → (recording_of limits bytes start caller unit owed).begun ≡ None → take start bytes ≡ bytes
all_whole limits bytes start caller unit owed capacity kept none =
    let rest : drop start bytes ≡ [] = kept.begun ∙ ap begun_text none in
    take_all start bytes (omega (arith, ap length rest, length-drop start bytes))

-- whole entries are kept
pub whole_kept : (limits : Limits) (bytes : List ℕ) (start caller unit owed capacity : ℕ) → AreWhole limits bytes → start ≡ length bytes → owed ≡ 0
    → length bytes ≤ limits.recording → limits.recording ≤ 1073741824 → limits.recording ≤ capacity → caller < 2 ^ 31 → unit < 2 ^ 63
    → IsKept limits bytes start caller unit owed capacity
whole_kept limits bytes start caller unit owed capacity whole end none room small reserved caller_fits unit_fits =
    let all : take start bytes ≡ bytes = take_all start bytes (omega arith) in
    let rest : drop start bytes ≡ [] = drop_all start bytes (omega arith) in
    record {
      whole = subst (AreWhole limits) (sym all) whole;
      begun = rest ∙ ap (λ (n : ℕ). begun_text (begun_in caller unit n (drop start bytes))) (sym none);
      hits = subst (λ (l : List ℕ). AllByRecursion IsHit (hits_in (drop 44 l))) (sym rest) tt;
      started = omega arith;
      room = omega arith;
      small = small;
      reserved = reserved;
      caller_fits = caller_fits;
      unit_fits = unit_fits;
    }

pub whole_view : (limits : Limits) (bytes : List ℕ) (start caller unit owed : ℕ) → start ≡ length bytes → owed ≡ 0
    → recording_of limits bytes start caller unit owed ≡ record { caps = limits; entries = entries_in limits bytes; begun = None }
whole_view limits bytes start caller unit owed end none =
    let all : take start bytes ≡ bytes = take_all start bytes (omega arith) in
    λ i. record { caps = limits; entries = entries_in limits (all i); begun = begun_in caller unit (none i) (drop start bytes) }

-- one more entry behind whole entries
pub record Put (limits : Limits) (bytes : List ℕ) (start caller unit owed capacity : ℕ) (entry : Recorded) (new : List ℕ) (end after : ℕ) : Type 0 where
  pub kept : IsKept limits new end caller unit owed after
  pub view : recording_of limits new end caller unit owed ≡ appended (recording_of limits bytes start caller unit owed) entry

pub put_keeps : (limits : Limits) (bytes : List ℕ) (start caller unit owed capacity : ℕ) (entry : Recorded) (new : List ℕ) (end after : ℕ)
    → IsKept limits bytes start caller unit owed capacity → (recording_of limits bytes start caller unit owed).begun ≡ None
    → IsRecordable entry.caller entry.event entry.answer → length bytes + length (entry_text entry.caller entry.event entry.answer) ≤ limits.recording
    → new ≡ bytes ++ entry_text entry.caller entry.event entry.answer → end ≡ length new → capacity ≤ after
    → Put limits bytes start caller unit owed capacity entry new end after
put_keeps limits bytes start caller unit owed capacity entry new end after kept none is fits out ends more =
    let all = all_whole limits bytes start caller unit owed capacity kept none in
    let owes : owed ≡ 0 = none_owed caller unit owed (drop start bytes) none in
    let grown = whole_more limits bytes entry (subst (AreWhole limits) all kept.whole) is fits kept.small in
    let whole : AreWhole limits new = subst (AreWhole limits) (sym out) grown.whole in
    let size : length new ≤ limits.recording = omega (arith, ap length out, length-append bytes (entry_text entry.caller entry.event entry.answer)) in
    let small = kept.small in
    let reserved = kept.reserved in
    record {
      kept = whole_kept limits new end caller unit owed after whole ends owes size small (omega arith) kept.caller_fits kept.unit_fits;
      view = whole_view limits new end caller unit owed ends owes
          ∙ (λ i. record {
            caps = limits;
            entries = (ap (entries_in limits) out ∙ grown.entries ∙ ap (λ (l : List ℕ). entries_in limits l ++ entry ∷ []) (sym all)) i;
            begun =
                sym none i;
          });
    }
