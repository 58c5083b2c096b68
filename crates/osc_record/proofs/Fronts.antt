-- Messages of a recording, by the address and the tags that they begin with.
use Rattle.std.proofs.Common.{◌≡◌, ℕ, ◌+◌, ◌%◌, ◌<◌, ◌≤◌, Bool, true, false, cond, ◌==◌, List, [], ◌∷◌, ◌++◌, length, drop, Option, Some, None, Ok, Err}
use Rattle.std.proofs.Common.{Result, refl, sym, ap, ◌∙◌, subst, arith, codes, length-append, eqb-true, eq-eqb, le-leb}
use Rattle.std.specs.Prelude.{⊤, option_map, is_ok, if◌then◌else◌}
use Rattle.std.specs.List.{list_any, starts_with}
use Rattle.std.specs.Option.{option_map_or}
use Rattle.std.specs.Result.{result_ok}
use Rattle.std.proofs.lemmas.Bool.{cond-true, cond-false, both_ways}
use Rattle.std.proofs.lemmas.Bool.Decides.{Decides-eqb}
use Rattle.std.proofs.lemmas.Slice.Eq.{starts_is}
use Rattle.osc_atoms.specs.declared.fault.Fault.{Fault}
use Rattle.osc_atoms.specs.Atoms.{AreBytes, string}
use Rattle.osc_atoms.specs.Standing.{StartsWithString}
use Rattle.osc_atoms.proofs.Strings.{string_again}
use Rattle.osc_atoms.specs.Reading.{and_then}
use Rattle.osc_pattern.specs.declared.faults.PatternFault.{PatternFault}
use Rattle.osc_pattern.specs.Patterns.{IsPattern}
use Rattle.osc_pattern.proofs.PatternLaws.{IsPattern-read}
use Rattle.osc_message.specs.Tags.{is_unknown}
use Rattle.osc_message.specs.ArgumentReading.{arguments_of}
use Rattle.osc_message.specs.Reading.{Parts, begins, brackets_read, tags_read, unless_fault, comma_read, lawful_read, message_read, arguments_read}
use Rattle.osc_message.specs.Reading.{limited_read, parts_of, pattern_of}
use Rattle.osc_message.specs.Arguments.{arguments_in, message_arguments}
use Rattle.osc_model.specs.Events.{Event, enrol, submit, add, remove, tick, release, Answer, Hit}
use Rattle.osc_model.specs.Events.{Entry as Recorded}
use Rattle.osc_model.specs.Recordings.{Row, row_of, row_text, sized, entry_text, FitsRow, enrolled, submitted, adding, removing, ticking, releasing, hits_text}
use Rattle.osc_model.specs.Recordings.{enrol_row, submit_row, add_row, remove_row, tick_row, release_row}
use Rattle.osc_record.specs.declared.version.Version.{Version}
use Rattle.osc_record.specs.declared.version.Version.TheVariants.{First, Second}
use Rattle.osc_record.specs.Versions.{old_submit_row, submit_front_in, submit_tags_in, row_in, text_in}
use Rattle.osc_record.specs.Fields.{submit_at, release_at}
use Rattle.osc_record.specs.Reading.{row_read, entry_of}
use Rattle.osc_record.proofs.Lawful.{enrol_address, submit_address, add_address, remove_address, tick_address, release_address}
use Rattle.osc_record.proofs.Written.{fits_in}
use Rattle.osc_record.proofs.EntriesRead.{entry_was}
use Rattle.osc_record.proofs.FieldsRead.{submit_same, release_same}

-- what is read of bytes that begin with an address and tags
pub record Front (front address tags : List ℕ) : Type 0 where
  pub reads : (rest : List ℕ) → message_read (front ++ rest) 0
      ≡ and_then (arguments_read (front ++ rest) tags (length front)) (λ _. Ok (record { pattern = address; tags = Some tags; place = length front }))
  pub pattern : (rest : List ℕ) → pattern_of (front ++ rest) ≡ address
  pub known : list_any is_unknown tags ≡ false
  pub some : 0 < length front

-- a place before the end isn't the end
not_end : (place : ℕ) (bytes : List ℕ) → place < length bytes → (place == length bytes) ≡ false
not_end place bytes before = go (place == length bytes) refl where
  go : (t : Bool) → (place == length bytes) ≡ t → t ≡ false
  go true is = let end = eqb-true place (length bytes) is in absurd (omega arith)
  go false is = refl

-- so they are read as a message with these parts, if the arguments are read
front_read : (front address tags : List ℕ) → Front front address tags → (rest : List ℕ) → length (front ++ rest) % 4 ≡ 0 → length (front ++ rest) ≤ 1073741824
    → limited_read 1073741824 (front ++ rest)
    ≡ and_then (arguments_read (front ++ rest) tags (length front)) (λ _. Ok (record { pattern = address; tags = Some tags; place = length front }))
front_read front address tags f rest four small =
    let some = f.some in
    let size = length-append front rest in
    cond-false _ _ _ (sized_some (length (front ++ rest)) (omega arith))
    ∙ cond-true _ _ _ (le-leb (length (front ++ rest)) 1073741824 small)
    ∙ cond-true _ _ _ (eq-eqb (length (front ++ rest) % 4) 0 four)
    ∙ f.reads rest
  where
    sized_some : (size : ℕ) → 0 < size → (size == 0) ≡ false
    sized_some size some = go (size == 0) refl where
      go : (t : Bool) → (size == 0) ≡ t → t ≡ false
      go true is = let none = eqb-true size 0 is in absurd (omega arith)
      go false is = refl

-- and as the entry of that address with these arguments
front_is : (version : Version) (front address tags : List ℕ) → Front front address tags → (rest : List ℕ) → length (front ++ rest) % 4 ≡ 0
    → length (front ++ rest) ≤ 1073741824
    → entry_of version (front ++ rest)
    ≡ (if is_ok (arguments_read (front ++ rest) tags (length front)) then row_read version address (arguments_of tags (front ++ rest) (length front)) else None)
front_is version front address tags f rest four small = go (arguments_read (front ++ rest) tags (length front)) refl where
  parts : Parts
  parts = record { pattern = address; tags = Some tags; place = length front }

  go : (r : Result ⊤ Fault) → arguments_read (front ++ rest) tags (length front) ≡ r
      → entry_of version (front ++ rest) ≡ cond (is_ok r) (row_read version address (arguments_of tags (front ++ rest) (length front))) None
  go (Err fault) is =
      cond-false _ _ _ (ap is_ok (front_read front address tags f rest four small ∙ ap (λ (r : Result ⊤ Fault). and_then r (λ _. Ok parts)) is))
  go (Ok done) is =
      let read : message_read (front ++ rest) 0 ≡ Ok parts = f.reads rest ∙ ap (λ (r : Result ⊤ Fault). and_then r (λ _. Ok parts)) is in
      let parted : parts_of (front ++ rest) ≡ Some parts = cond-true _ _ _ (eq-eqb (length (front ++ rest) % 4) 0 four) ∙ ap result_ok read in
      let arguments : message_arguments (front ++ rest) ≡ arguments_of tags (front ++ rest) (length front) =
      ap (λ (o : Option Parts). option_map_or (arguments_in (front ++ rest)) o []) parted ∙ cond-false _ _ _ f.known in
      cond-true _ _ _ (ap is_ok (front_read front address tags f rest four small ∙ ap (λ (r : Result ⊤ Fault). and_then r (λ _. Ok parts)) is))
      ∙ (λ i. row_read version (f.pattern rest i) (arguments i))

split : (bytes front : List ℕ) → starts_with ◌==◌ bytes front ≡ true → bytes ≡ front ++ drop (length front) bytes
split bytes front is = (starts_is Decides-eqb bytes front (starts_with ◌==◌ bytes front) refl).0 is

front_entry : (version : Version) (front address tags : List ℕ) → Front front address tags → (bytes : List ℕ) → starts_with ◌==◌ bytes front ≡ true
    → length bytes % 4 ≡ 0
    → length bytes ≤ 1073741824
    → entry_of version bytes ≡ (if is_ok (arguments_read bytes tags (length front)) then row_read version address
    (arguments_of tags bytes (length front)) else None)
front_entry version front address tags f bytes begins four small =
    let parts = split bytes front begins in
    subst (λ (l : List ℕ). entry_of version l ≡ (if is_ok (arguments_read l tags (length front)) then row_read version address
    (arguments_of tags l (length front)) else None))
    (sym parts)
    (front_is version front address tags f (drop (length front) bytes) (subst (λ (l : List ℕ). length l % 4 ≡ 0) parts four)
    (subst (λ (l : List ℕ). length l ≤ 1073741824) parts small))

-- where the arguments are read, and where they aren't
pub front_some : (version : Version) (front address tags : List ℕ) → Front front address tags → (bytes : List ℕ) → starts_with ◌==◌ bytes front ≡ true
    → length bytes % 4 ≡ 0
    → length bytes ≤ 1073741824
    → is_ok (arguments_read bytes tags (length front)) ≡ true → entry_of version bytes ≡ row_read version address (arguments_of tags bytes (length front))
front_some version front address tags f bytes begins four small read = front_entry version front address tags f bytes begins four small ∙ cond-true _ _ _ read

pub front_none : (version : Version) (front address tags : List ℕ) → Front front address tags → (bytes : List ℕ) → starts_with ◌==◌ bytes front ≡ true
    → length bytes % 4 ≡ 0
    → length bytes ≤ 1073741824
    → is_ok (arguments_read bytes tags (length front)) ≡ false → entry_of version bytes ≡ None
front_none version front address tags f bytes begins four small read = front_entry version front address tags f bytes begins four small ∙ cond-false _ _ _ read

-- a lawful pattern, and known tags behind it, under which arguments are read
read_front : (address tags bytes : List ℕ) (end start : ℕ) → begins 47 (drop 0 bytes) ≡ true → StartsWithString bytes 0 address
    → 0 + length (string address) ≡ end → IsPattern address
    → end < length bytes → begins 44 (drop end bytes) ≡ true → StartsWithString bytes end (44 ∷ tags) → end + length (string (44 ∷ tags)) ≡ start
    → list_any is_unknown tags ≡ false → brackets_read 0 (end + 1) tags (end + 1) ≡ Ok tt
    → message_read bytes 0 ≡ and_then (arguments_read bytes tags start) (λ _. Ok (record { pattern = address; tags = Some tags; place = start }))
unfolding message_read
read_front address tags bytes end start slash named ends lawful more comma listed starts none even =
    cond-true _ _ _ slash
    ∙ ap (λ (r : Result (List ℕ × ℕ) Fault). and_then r (λ text. lawful_read bytes 0 text.0 text.1)) (string_again bytes 0 address named)
    ∙ ap (lawful_read bytes 0 address) ends
    ∙ ap (λ (o : Option PatternFault). unless_fault 0 o (comma_read bytes address end)) (IsPattern-read address lawful)
    ∙ cond-false _ _ _ (not_end end bytes more)
    ∙ cond-true _ _ _ comma
    ∙ ap (λ (r : Result (List ℕ × ℕ) Fault). and_then r
    (λ text. and_then (tags_read bytes (end + 1) (drop 1 text.0) text.1)
    (λ _. Ok (record { pattern = address; tags = Some (drop 1 text.0); place = text.1 })))) (string_again bytes end (44 ∷ tags) listed)
    ∙ ap (λ (place : ℕ). and_then (tags_read bytes (end + 1) tags place) (λ _. Ok (record { pattern = address; tags = Some tags; place = place }))) starts
    ∙ ap (λ (r : Result ⊤ Fault). and_then r (λ _. Ok (record { pattern = address; tags = Some tags; place = start })))
    (cond-false _ _ _ none ∙ ap (λ (r : Result ⊤ Fault). and_then r (λ _. arguments_read bytes tags start)) even)

-- The six fronts.

abbrev pub enrol_bytes : List ℕ
enrol_bytes = codes "/osc/enrol" ++ 0 ∷ 0 ∷ codes ",ii" ++ 0 ∷ []

abbrev pub add_bytes : List ℕ
add_bytes = codes "/osc/add" ++ 0 ∷ 0 ∷ 0 ∷ 0 ∷ codes ",isiii" ++ 0 ∷ 0 ∷ []

abbrev pub remove_bytes : List ℕ
remove_bytes = codes "/osc/remove" ++ 0 ∷ codes ",isii" ++ 0 ∷ 0 ∷ 0 ∷ []

abbrev pub tick_bytes : List ℕ
tick_bytes = codes "/osc/tick" ++ 0 ∷ 0 ∷ 0 ∷ codes ",itit" ++ 0 ∷ 0 ∷ 0 ∷ []

abbrev pub release_bytes : List ℕ
release_bytes = codes "/osc/release" ++ 0 ∷ 0 ∷ 0 ∷ 0 ∷ codes ",ihb" ++ 0 ∷ 0 ∷ 0 ∷ 0 ∷ []

pub enrol_front : Front enrol_bytes (codes "/osc/enrol") (codes "ii")
enrol_front = record {
  reads = λ rest.
      read_front (codes "/osc/enrol") (codes "ii") (enrol_bytes ++ rest) 12 16 refl
      (record { no_zero = refl; written = record { rest = drop 12 (enrol_bytes ++ rest); parts = refl } }) refl enrol_address
      (omega arith) refl (record { no_zero = refl; written = record { rest = rest; parts = refl } }) refl refl refl;
  pattern = λ rest. refl;
  known = refl;
  some = omega arith;
}

pub submit_front : (version : Version) → Front (submit_front_in version) (codes "/osc/submit") (submit_tags_in version)
submit_front First = record {
  reads = λ rest.
      read_front (codes "/osc/submit") (codes "ibihi") (submit_front_in First ++ rest) 12 20 refl
      (record { no_zero = refl; written = record { rest = drop 12 (submit_front_in First ++ rest); parts = refl } }) refl submit_address
      (omega arith) refl (record { no_zero = refl; written = record { rest = rest; parts = refl } }) refl refl refl;
  pattern = λ rest. refl;
  known = refl;
  some = omega arith;
}
submit_front Second = record {
  reads = λ rest.
      read_front (codes "/osc/submit") (codes "ibihii") (submit_front_in Second ++ rest) 12 20 refl
      (record { no_zero = refl; written = record { rest = drop 12 (submit_front_in Second ++ rest); parts = refl } }) refl submit_address
      (omega arith) refl (record { no_zero = refl; written = record { rest = rest; parts = refl } }) refl refl refl;
  pattern = λ rest. refl;
  known = refl;
  some = omega arith;
}

pub add_front : Front add_bytes (codes "/osc/add") (codes "isiii")
add_front = record {
  reads = λ rest.
      read_front (codes "/osc/add") (codes "isiii") (add_bytes ++ rest) 12 20 refl
      (record { no_zero = refl; written = record { rest = drop 12 (add_bytes ++ rest); parts = refl } }) refl add_address
      (omega arith) refl (record { no_zero = refl; written = record { rest = rest; parts = refl } }) refl refl refl;
  pattern = λ rest. refl;
  known = refl;
  some = omega arith;
}

pub remove_front : Front remove_bytes (codes "/osc/remove") (codes "isii")
remove_front = record {
  reads = λ rest.
      read_front (codes "/osc/remove") (codes "isii") (remove_bytes ++ rest) 12 20 refl
      (record { no_zero = refl; written = record { rest = drop 12 (remove_bytes ++ rest); parts = refl } }) refl remove_address
      (omega arith) refl (record { no_zero = refl; written = record { rest = rest; parts = refl } }) refl refl refl;
  pattern = λ rest. refl;
  known = refl;
  some = omega arith;
}

pub tick_front : Front tick_bytes (codes "/osc/tick") (codes "itit")
tick_front = record {
  reads = λ rest.
      read_front (codes "/osc/tick") (codes "itit") (tick_bytes ++ rest) 12 20 refl
      (record { no_zero = refl; written = record { rest = drop 12 (tick_bytes ++ rest); parts = refl } }) refl tick_address
      (omega arith) refl (record { no_zero = refl; written = record { rest = rest; parts = refl } }) refl refl refl;
  pattern = λ rest. refl;
  known = refl;
  some = omega arith;
}

pub release_front : Front release_bytes (codes "/osc/release") (codes "ihb")
release_front = record {
  reads = λ rest.
      read_front (codes "/osc/release") (codes "ihb") (release_bytes ++ rest) 16 24 refl
      (record { no_zero = refl; written = record { rest = drop 16 (release_bytes ++ rest); parts = refl } }) refl release_address
      (omega arith) refl (record { no_zero = refl; written = record { rest = rest; parts = refl } }) refl refl refl;
  pattern = λ rest. refl;
  known = refl;
  some = omega arith;
}

-- what the message of a submit is read as
pub submit_entry : (version : Version) (bytes : List ℕ) → starts_with ◌==◌ bytes (submit_front_in version) ≡ true → length bytes % 4 ≡ 0
    → length bytes ≤ 1073741824 → entry_of version bytes ≡ submit_at version bytes 20
submit_entry First bytes begins four small =
    front_entry First (submit_front_in First) (codes "/osc/submit") (submit_tags_in First) (submit_front First) bytes begins four small
    ∙ sym (submit_same First bytes 20)
submit_entry Second bytes begins four small =
    front_entry Second (submit_front_in Second) (codes "/osc/submit") (submit_tags_in Second) (submit_front Second) bytes begins four small
    ∙ sym (submit_same Second bytes 20)

-- and that of a release
pub release_entry : (version : Version) (bytes : List ℕ) → starts_with ◌==◌ bytes release_bytes ≡ true → length bytes % 4 ≡ 0
    → length bytes ≤ 1073741824 → entry_of version bytes ≡ release_at bytes 24
release_entry version bytes begins four small =
    front_entry version release_bytes (codes "/osc/release") (codes "ihb") release_front bytes begins four small ∙ sym (release_same bytes 24)

-- A message with none of them is no entry.

-- a row whose message begins with a front isn't that of bytes that don't
unlike : {X : Type 0} (bytes front : List ℕ) (make : X → Row) → ((x : X) → starts_with ◌==◌ (row_text (make x)) front ≡ true) → (o : Option X)
    → starts_with ◌==◌ bytes front ≡ false → FitsRow (option_map make o)
    → sized bytes ≡ option_map_or (λ row. sized (row_text row)) (option_map make o) [] → ⊥
unlike bytes front make begins None none fits same = fits
unlike bytes front make begins (Some x) none fits same =
    both_ways (starts_with ◌==◌ bytes front) none (ap (λ (l : List ℕ). starts_with ◌==◌ (drop 4 l) front) same ∙ begins x)

-- no front is that of the bytes
pub record BeginsNone (version : Version) (bytes : List ℕ) : Type 0 where
  pub enrol_none : starts_with ◌==◌ bytes enrol_bytes ≡ false
  pub submit_none : starts_with ◌==◌ bytes (submit_front_in version) ≡ false
  pub add_none : starts_with ◌==◌ bytes add_bytes ≡ false
  pub remove_none : starts_with ◌==◌ bytes remove_bytes ≡ false
  pub tick_none : starts_with ◌==◌ bytes tick_bytes ≡ false
  pub release_none : starts_with ◌==◌ bytes release_bytes ≡ false

other_begins : (version : Version) (bytes : List ℕ) (caller : ℕ) (event : Event) (answer : Answer) → ((packet : List ℕ) → event ≡ submit packet → ⊥)
    → BeginsNone version bytes → FitsRow (row_of caller event answer) → sized bytes ≡ entry_text caller event answer → ⊥
other_begins version bytes caller enrol answer other none = unlike bytes enrol_bytes (enrol_row caller) (λ z. refl) (enrolled answer) none.enrol_none
other_begins version bytes caller (submit packet) answer other none = absurd (other packet refl)
other_begins version bytes caller (add address) answer other none =
    unlike bytes add_bytes (add_row caller address) (λ t. refl) (adding answer) none.add_none
other_begins version bytes caller (remove address) answer other none =
    unlike bytes remove_bytes (remove_row caller address) (λ t. refl) (removing answer) none.remove_none
other_begins version bytes caller (tick moment) answer other none =
    unlike bytes tick_bytes (tick_row caller moment) (λ t. refl) (ticking moment answer) none.tick_none
other_begins version bytes caller release answer other none =
    unlike {X = ℕ × List Hit} bytes release_bytes (λ r. release_row caller r.0 (hits_text r.1)) (λ r. refl) (releasing answer) none.release_none

row_begins : (version : Version) (bytes : List ℕ) (caller : ℕ) (event : Event) (answer : Answer) → BeginsNone version bytes
    → FitsRow (row_in version caller event answer) → sized bytes ≡ text_in version caller event answer → ⊥
row_begins First bytes caller (submit packet) answer none =
    unlike bytes (submit_front_in First) (old_submit_row caller packet) (λ t. refl) (submitted answer) none.submit_none
row_begins Second bytes caller (submit packet) answer none =
    unlike bytes (submit_front_in Second) (submit_row caller packet) (λ t. refl) (submitted answer) none.submit_none
row_begins First bytes caller enrol answer none = other_begins First bytes caller enrol answer (λ packet same. cc) none
row_begins First bytes caller (add address) answer none = other_begins First bytes caller (add address) answer (λ packet same. cc) none
row_begins First bytes caller (remove address) answer none = other_begins First bytes caller (remove address) answer (λ packet same. cc) none
row_begins First bytes caller (tick moment) answer none = other_begins First bytes caller (tick moment) answer (λ packet same. cc) none
row_begins First bytes caller release answer none = other_begins First bytes caller release answer (λ packet same. cc) none
row_begins Second bytes caller enrol answer none = other_begins Second bytes caller enrol answer (λ packet same. cc) none
row_begins Second bytes caller (add address) answer none = other_begins Second bytes caller (add address) answer (λ packet same. cc) none
row_begins Second bytes caller (remove address) answer none = other_begins Second bytes caller (remove address) answer (λ packet same. cc) none
row_begins Second bytes caller (tick moment) answer none = other_begins Second bytes caller (tick moment) answer (λ packet same. cc) none
row_begins Second bytes caller release answer none = other_begins Second bytes caller release answer (λ packet same. cc) none

pub other_none : (version : Version) (bytes : List ℕ) → AreBytes bytes → BeginsNone version bytes → None ≡ entry_of version bytes
other_none version bytes all none = go (entry_of version bytes) refl where
  go : (o : Option Recorded) → entry_of version bytes ≡ o → None ≡ o
  go None is = refl
  go (Some e) is =
      let was = entry_was version bytes e all is in
      absurd (row_begins version bytes e.caller e.event e.answer none (fits_in version e.caller e.event e.answer was.lawful) was.text)
