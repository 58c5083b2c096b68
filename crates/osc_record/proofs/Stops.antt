-- The first malformed place, by the recording that is read.
use Rattle.std.proofs.Common.{◌≡◌, ℕ, ◌+◌, ◌<◌, ◌≤◌, zero, suc, List, [], ◌∷◌, ◌++◌, length, drop, Option, Some, None, Ok, Err, Result, refl, sym, ap, ◌∙◌}
use Rattle.std.proofs.Common.{subst, arith, length-append, length-drop, append_assoc}
use Rattle.std.proofs.lemmas.Option.{none-some}
use Rattle.std.specs.List.{flat_map, AllByRecursion}
use Rattle.osc_atoms.specs.Atoms.{AreBytes}
use Rattle.osc_atoms.proofs.AllBytes.{rest_bytes}
use Rattle.osc_model.specs.Limits.{Limits}
use Rattle.osc_model.specs.Events.{Entry as Recorded}
use Rattle.osc_record.specs.declared.version.Version.{Version}
use Rattle.osc_record.specs.Versions.{header_size_of, header_text_in, text_in, IsRecordableIn}
use Rattle.osc_record.specs.Reading.{entry_first, Placed, onto_read, before_read, entries_read, entries_after, header_read, HasNoHeaderIn, HasNoEntryIn}
use Rattle.osc_record.proofs.Written.{header_length, range_above, range_below}
use Rattle.osc_record.proofs.Again.{first_more, entry_first_again}
use Rattle.osc_record.proofs.Readings.{header_again}
use Rattle.osc_record.proofs.EntriesRead.{entry_first_was, header_first_was}

abbrev pub texts : (version : Version) → List Recorded → List ℕ
texts version entries = flat_map (λ (e : Recorded). text_in version e.caller e.event e.answer) entries

-- entries, and then some bytes that no entry begins
pub record Stops (version : Version) (limit place : ℕ) (bytes : List ℕ) (at : ℕ) : Type 0 where
  pub entries : List Recorded
  pub rest : List ℕ
  pub text : bytes ≡ texts version entries ++ rest
  pub all : AllByRecursion (λ (e : Recorded). IsRecordableIn version e.caller e.event e.answer) entries
  pub end : at ≡ place + length (texts version entries)
  pub within : at ≤ limit
  pub some : 0 < length rest
  pub none : entry_first version limit at rest ≡ None

err_is : (a b : ℕ) → ◌≡◌ {A = Result (List Placed) ℕ} (Err a) (Err b) → a ≡ b
err_is a b e = cc

pub stops : (version : Version) (most limit place : ℕ) (bytes : List ℕ) (at : ℕ) → AreBytes bytes → length bytes ≤ most → place ≤ limit
    → entries_read version most limit place bytes ≡ Err at → Stops version limit place bytes at
stops version zero limit place [] at small few inside read = absurd (cc)
stops version (suc most) limit place [] at small few inside read = absurd (cc)
stops version zero limit place (byte ∷ bytes) at small few inside read = absurd (omega arith)
stops version (suc most) limit place (byte ∷ bytes) at small few inside read =
    go (entry_first version limit place (byte ∷ bytes)) refl read
    (λ size some rest there. stops version most limit (place + size) (drop size (byte ∷ bytes)) at (rest_bytes size (byte ∷ bytes) small)
    (omega (arith, length-drop size (byte ∷ bytes))) there rest)
  where
    go : (o : Option (Recorded × ℕ)) → entry_first version limit place (byte ∷ bytes) ≡ o
        → before_read place o (λ size. entries_read version most limit (place + size) (drop size (byte ∷ bytes))) ≡ Err at
        → ((size : ℕ) → 4 ≤ size → entries_read version most limit (place + size) (drop size (byte ∷ bytes)) ≡ Err at → place + size ≤ limit
        → Stops version limit (place + size) (drop size (byte ∷ bytes)) at)
        → Stops version limit place (byte ∷ bytes) at
    go None found is more =
        let here : place ≡ at = err_is place at is in
        subst (Stops version limit place (byte ∷ bytes)) here
        (record { entries = []; rest = byte ∷ bytes; text = refl; all = tt; end = omega arith; within = inside; some = omega arith; none = found })
    go (Some head) found is more = inner (entries_read version most limit (place + head.1) (drop head.1 (byte ∷ bytes))) refl is where
      inner : (r : Result (List Placed) ℕ) → entries_read version most limit (place + head.1) (drop head.1 (byte ∷ bytes)) ≡ r
          → onto_read (record { at = place; entry = head.0 }) r ≡ Err at → Stops version limit place (byte ∷ bytes) at
      inner (Ok ys) rest e = absurd (cc)
      inner (Err a) rest e =
          let first = entry_first_was version limit place (byte ∷ bytes) head small found in
          let same : entries_read version most limit (place + head.1) (drop head.1 (byte ∷ bytes)) ≡ Err at = rest ∙ ap (λ (n : ℕ). Err n) (err_is a at e) in
          let others = more head.1 (first_more version limit place (byte ∷ bytes) [] head found).2 same first.within in
          let text : List ℕ = text_in version head.0.caller head.0.event head.0.answer in
          let size : length text ≡ head.1 = first.size in
          let end = others.end in
          record {
            entries = head.0 ∷ others.entries;
            rest = others.rest;
            text = first.text ∙ ap (λ (l : List ℕ). text ++ l) others.text ∙ sym (append_assoc text (texts version others.entries) others.rest);
            all = (first.lawful, others.all);
            end = omega (arith, length-append text (texts version others.entries));
            within = others.within;
            some = others.some;
            none = others.none;
          }

pub no_header : (version : Version) (bytes : List ℕ) → header_read version bytes ≡ None → HasNoHeaderIn version bytes 0
no_header version bytes is = record {
  first = refl;
  none = λ limits rest range same. none-some limits (sym is ∙ ap (header_read version) same
      ∙ header_again version limits rest range);
}

pub no_entry : (version : Version) (bytes : List ℕ) (limits : Limits) (at : ℕ) → AreBytes bytes → header_read version bytes ≡ Some limits
    → entries_after version limits bytes ≡ Err at
    → HasNoEntryIn version bytes at
no_entry version bytes limits at small header read =
    let first = header_first_was version bytes limits small header in
    let above = range_above version limits first.range in
    let below = range_below version limits first.range in
    let header_bytes = header_length version limits in
    let stop = stops version (length bytes) limits.recording (header_size_of version) (drop (header_size_of version) bytes) at
    (rest_bytes (header_size_of version) bytes small)
    (omega (arith, length-drop (header_size_of version) bytes)) above read in
    let end = stop.end in
    let within = stop.within in
    record {
      limits = limits;
      entries = stop.entries;
      rest = stop.rest;
      lawful = record {
        lawful = first.range;
        all = stop.all;
        fits = omega
            (arith, length-append (header_text_in version limits) (texts version stop.entries));
      };
      text = first.text ∙ ap (λ (l : List ℕ). header_text_in version limits ++ l) stop.text
          ∙ sym (append_assoc (header_text_in version limits) (texts version stop.entries) stop.rest);
      place = omega (arith, length-append (header_text_in version limits) (texts version stop.entries));
      some = stop.some;
      none = λ e more lawful fits same. none-some (e, length (text_in version e.caller e.event e.answer))
          (sym stop.none ∙ ap (entry_first version limits.recording at) same
          ∙ entry_first_again version e.caller e.event e.answer more limits.recording at lawful fits below);
    }
