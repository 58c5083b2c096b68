-- A recording that is written is read again, so no two have one text.
use Rattle.std.proofs.Common.{◌≡◌, ℕ, ◌+◌, ◌%◌, ◌<◌, ◌≤◌, Bool, true, ◌&&◌, zero, suc, List, [], ◌∷◌, ◌++◌, length, drop, map, Option, Some, None, Ok, Err}
use Rattle.std.proofs.Common.{Result, refl}
use Rattle.std.proofs.Common.{pos, sym, ap, ◌∙◌, arith, length-append, codes, le-leb}
use Rattle.std.specs.Prelude.{option_and_then, option_map, is_ok, is_none, if◌then◌else◌, FitsSigned}
use Rattle.std.specs.Int.{w32}
use Rattle.std.specs.List.{flat_map, AllByRecursion}
use Rattle.std.specs.Str.{bytes_eq}
use Rattle.osc_message.specs.Messages.{known, IsLawful, AllFit}
use Rattle.osc_message.specs.Reading.{is_message}
use Rattle.osc_message.proofs.MessageLaws.{limited_again}
use Rattle.osc_message.proofs.TextLaws.{pattern_again, known_arguments_again}
use Rattle.osc_model.specs.Limits.{Limits, IsWithin, AreInRange, is_within, limit_fault, header_size}
use Rattle.osc_model.specs.Events.{Entry as Recorded}
use Rattle.osc_model.specs.declared.late.Late.{Late}
use Rattle.osc_model.specs.declared.late.Late.TheVariants.{Deliver, Discard}
use Rattle.osc_model.specs.Recordings.{late_code, row_text, header_text, record_text}
use Rattle.osc_record.specs.declared.version.Version.{Version}
use Rattle.osc_record.specs.declared.version.Version.TheVariants.{First, Second}
use Rattle.osc_record.specs.Versions.{header_size_of, header_row_in, header_text_in, text_in, record_text_in, limit_fault_in, AreInRangeIn, IsRecordableIn}
use Rattle.osc_record.specs.Versions.{unlimited}
use Rattle.osc_record.specs.Reading.{entry_first, Placed, onto_read, before_read, entries_read, late_told, lawful_limits, limits_told, header_of, header_read}
use Rattle.osc_record.specs.Reading.{with_entries, record_read}
use Rattle.osc_record.specs.Reading.{placed_by, IsRecordIn, IsRecord}
use Rattle.osc_record.proofs.Lawful.{rec_address, balanced}
use Rattle.osc_record.proofs.Again.{drop_front, message_again, entry_first_again}
use Rattle.osc_record.proofs.Written.{header_length, range_below, some_in}
use Rattle.osc_record.proofs.Kept.{unplaced_by}

within_true : (least most n : ℕ) → IsWithin least most n → is_within least most n ≡ true
within_true least most n is = let above = is.above in let below = is.below in rw (le-leb least n above, le-leb n most below) refl

-- limits in their ranges have no fault
within_limits : (limits : Limits) → AreInRange limits → limit_fault limits ≡ None
within_limits limits is =
    rw (
      within_true 1 1048576 limits.units is.units,
      within_true 1 1048576 limits.blocks is.blocks,
      within_true 1 65536 limits.methods is.methods,
      within_true 1
          1048576 limits.nodes is.nodes,
      within_true 1 1024 limits.callers is.callers,
      within_true header_size 1073741824 limits.recording is.recording,
    )
    refl

pub no_limit_fault : (version : Version) (limits : Limits) → AreInRangeIn version limits → limit_fault_in version limits ≡ None
no_limit_fault First limits is =
    rw (within_true (header_size_of First) 1073741824 limits.recording is.recording) (within_limits (unlimited limits) is.others)
no_limit_fault Second limits is = within_limits limits is

small_int : (n : ℕ) → n ≤ 1073741824 → n < 2147483648
small_int n small = omega arith

late_fits : (late : Late) → FitsSigned w32 (pos (late_code late))
late_fits Deliver = record { sfits = omega arith }
late_fits Discard = record { sfits = omega arith }

-- the number that is written for what becomes of late units is read
late_again : (late : Late) → late_told (late_code late) ≡ Some late
late_again Deliver = refl
late_again Discard = refl

header_lawful : (version : Version) (limits : Limits) → AreInRangeIn version limits
    → IsLawful (known (header_row_in version limits).address (header_row_in version limits).arguments)
header_lawful First limits is =
    let units = is.others.units.below in
    let blocks = is.others.blocks.below in
    let methods = is.others.methods.below in
    let nodes = is.others.nodes.below in
    let callers = is.others.callers.below in
    let recording = is.recording.below in
    let fit : AllFit (header_row_in First limits).arguments = (
      record { sfits = omega arith },
      (
        record { sfits = omega arith },
        (
          record { sfits = omega arith },
          (record { sfits = omega arith }, (record { sfits = omega arith }, (record { sfits = omega arith }, (record { sfits = omega arith }, tt)))),
        ),
      ),
    ) in
    (rec_address, fit, balanced (105 ∷ 105 ∷ 105 ∷ 105 ∷ 105 ∷ 105 ∷ 105 ∷ []) refl)
header_lawful Second limits is =
    let units = is.units.below in
    let blocks = is.blocks.below in
    let methods = is.methods.below in
    let nodes = is.nodes.below in
    let callers = is.callers.below in
    let recording = is.recording.below in
    let fit : AllFit (header_row_in Second limits).arguments = (
      record { sfits = omega arith },
      (
        record { sfits = omega arith },
        (
          record { sfits = omega arith },
          (
            record { sfits = omega arith },
            (record { sfits = omega arith }, (record { sfits = omega arith }, (record { sfits = omega arith }, (late_fits limits.late, tt)))),
          ),
        ),
      ),
    ) in
    (rec_address, fit, balanced (105 ∷ 105 ∷ 105 ∷ 105 ∷ 105 ∷ 105 ∷ 105 ∷ 105 ∷ []) refl)

-- what a header that is written tells
header_tells : (version : Version) (limits : Limits) → AreInRangeIn version limits
    → limits_told version (header_row_in version limits).arguments ≡ Some limits
header_tells First limits is = ap (λ (policy : Late). Some (record limits { late = policy })) (sym is.delivers)
header_tells Second limits is = ap (option_map (λ (policy : Late). record limits { late = policy })) (late_again limits.late)

header_names : (version : Version) (limits : Limits) → bytes_eq (header_row_in version limits).address (codes "/osc/rec") ≡ true
header_names First limits = refl
header_names Second limits = refl

message_fours : (version : Version) (limits : Limits) → length (row_text (header_row_in version limits)) % 4 ≡ 0
message_fours First limits = refl
message_fours Second limits = refl

message_some : (version : Version) (limits : Limits) → 0 < length (row_text (header_row_in version limits))
message_some First limits = omega arith
message_some Second limits = omega arith

message_small : (version : Version) (limits : Limits) → length (row_text (header_row_in version limits)) ≤ 1073741824
message_small First limits = omega arith
message_small Second limits = omega arith

-- the header that is written is read, whatever follows it
pub header_again : (version : Version) (limits : Limits) (rest : List ℕ) → AreInRangeIn version limits
    → header_read version (header_text_in version limits ++ rest) ≡ Some limits
header_again version limits rest is =
    let row = header_row_in version limits in
    let form = known row.address row.arguments in
    let lawful = header_lawful version limits is in
    let message : List ℕ = row_text row in
    let small = message_small version limits in
    let accepted : is_message 1073741824 message ≡ true = ap is_ok (limited_again 1073741824 message form lawful refl small) in
    ap (λ (o : Option (List ℕ)). option_and_then (lawful_limits version) (option_and_then (header_of version) o))
    (message_again message rest (message_some version limits) (message_fours version limits) (omega arith))
    ∙ (λ i. option_and_then (lawful_limits version) (if accepted i && bytes_eq (pattern_again form lawful i) (codes "/osc/rec")
    then limits_told version (known_arguments_again row.address row.arguments lawful i) else None))
    ∙ ap (λ (named : Bool). option_and_then (lawful_limits version) (if named then limits_told version row.arguments else None)) (header_names version limits)
    ∙ ap (option_and_then (lawful_limits version)) (header_tells version limits is)
    ∙ ap (λ o. if is_none o then Some limits else None) (no_limit_fault version limits is)

-- what is read of some bytes begins with the first entry
read_first : (version : Version) (most limit place : ℕ) (bytes : List ℕ) (entry : Recorded) (size : ℕ) → 0 < length bytes
    → entry_first version limit place bytes ≡ Some (entry, size)
    → entries_read version (suc most) limit place bytes ≡ onto_read (record { at = place; entry = entry })
    (entries_read version most limit (place + size) (drop size bytes))
read_first version most limit place [] entry size some first = absurd (omega arith)
read_first version most limit place (byte ∷ bytes) entry size some first =
    ap (λ o. before_read place o (λ size. entries_read version most limit (place + size) (drop size (byte ∷ bytes)))) first

texts : (version : Version) → List Recorded → List ℕ
texts version entries = flat_map (λ (e : Recorded). text_in version e.caller e.event e.answer) entries

-- entries that are written one after another are read
pub entries_again : (version : Version) (entries : List Recorded) (most limit place : ℕ)
    → AllByRecursion (λ (e : Recorded). IsRecordableIn version e.caller e.event e.answer) entries
    → length (flat_map (λ (e : Recorded). text_in version e.caller e.event e.answer) entries) ≤ most
    → place + length (flat_map (λ (e : Recorded). text_in version e.caller e.event e.answer) entries) ≤ limit → limit ≤ 1073741824
    → entries_read version most limit place (flat_map (λ (e : Recorded). text_in version e.caller e.event e.answer) entries) ≡ Ok
    (placed_by version place entries)
entries_again version [] zero limit place all few within small = refl
entries_again version [] (suc most) limit place all few within small = refl
entries_again version (e ∷ entries) zero limit place all few within small =
    let some = some_in version e.caller e.event e.answer all.0 in
    absurd (omega (
      arith,
      length-append (text_in version e.caller e.event e.answer)
          (flat_map (λ (e : Recorded). text_in version e.caller e.event e.answer) entries),
    ))
entries_again version (e ∷ entries) (suc most) limit place all few within small =
    let text : List ℕ = text_in version e.caller e.event e.answer in
    let rest : List ℕ = flat_map (λ (e : Recorded). text_in version e.caller e.event e.answer) entries in
    let some : 0 < length text = some_in version e.caller e.event e.answer all.0 in
    let size : length (text ++ rest) ≡ length text + length rest = length-append text rest in
    read_first version most limit place (text ++ rest) e (length text) (omega arith)
    (entry_first_again version e.caller e.event e.answer rest limit place all.0 (omega arith) small)
    ∙ ap (λ l. onto_read (record { at = place; entry = e }) (entries_read version most limit (place + length text) l)) (drop_front text rest)
    ∙ ap (onto_read (record { at = place; entry = e })) (entries_again version entries most limit (place + length text) all.1 (omega arith) (omega arith) small)

pub record_again : (version : Version) (limits : Limits) (entries : List Recorded) → IsRecordIn version limits entries
    → record_read version (record_text_in version limits entries) ≡ Ok (limits, placed_by version (header_size_of version) entries)
record_again version limits entries is =
    let header : List ℕ = header_text_in version limits in
    let rest : List ℕ = flat_map (λ (e : Recorded). text_in version e.caller e.event e.answer) entries in
    let small = range_below version limits is.lawful in
    let fits = is.fits in
    let header_bytes : length header ≡ header_size_of version = header_length version limits in
    let size = length-append header rest in
    let behind : drop (header_size_of version) (header ++ rest) ≡ rest = ap (λ (n : ℕ). drop n (header ++ rest)) (sym header_bytes) ∙ drop_front header rest in
    ap (with_entries version (record_text_in version limits entries)) (header_again version limits rest is.lawful)
    ∙ ap (λ (l : List ℕ). elim (entries_read version (length (header ++ rest)) limits.recording (header_size_of version) l) [
      | Ok entries ↦ Ok (limits, entries)
      | Err at ↦ Err at
    ]) behind
    ∙ ap (λ (r : Result (List Placed) ℕ). elim r [ Ok entries ↦ Ok (limits, entries) | Err at ↦ Err at ])
    (entries_again version entries (length (header ++ rest)) limits.recording (header_size_of version) is.all (omega arith) (omega arith) small)

pub texts_differ : (limits other : Limits) (entries others : List Recorded) → IsRecord limits entries → IsRecord other others
    → record_text limits entries ≡ record_text other others → (limits ≡ other) × (entries ≡ others)
texts_differ limits other entries others one two same =
    let both = value_is (limits, placed_by Second header_size entries) (other, placed_by Second header_size others)
    (sym (record_again Second limits entries one) ∙ ap (record_read Second) same ∙ record_again Second other others two) in (
      ap (λ (p : Limits × List Placed). p.0) both,
      sym (unplaced_by Second header_size entries) ∙ ap (λ (p : Limits × List Placed). map (λ (x : Placed). x.entry) p.1) both
          ∙ unplaced_by Second header_size others,
    )
  where
    value_is : (x y : Limits × List Placed) → ◌≡◌ {A = Result (Limits × List Placed) ℕ} (Ok x) (Ok y) → x ≡ y
    value_is x y e = cc

-- so no two limits have one header
pub headers_differ : (limits other : Limits) → AreInRange limits → AreInRange other → header_text limits ≡ header_text other → limits ≡ other
headers_differ limits other one two same =
    value_is (sym (header_again Second limits [] one) ∙ ap (λ (bytes : List ℕ). header_read Second (bytes ++ [])) same ∙ header_again Second other [] two) where
      value_is : ◌≡◌ {A = Option Limits} (Some limits) (Some other) → limits ≡ other
      value_is e = cc
