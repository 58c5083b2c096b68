-- Bytes that are read as a recording are its text.
use Rattle.std.proofs.Common.{◌≡◌, ◌⊎◌, ℕ, ◌+◌, ◌%◌, ◌&&◌, ◌≤◌, zero, suc, Bool, true, false, cond, ◌==◌, List, [], ◌∷◌, ◌++◌, length, take, drop, map, Option}
use Rattle.std.proofs.Common.{Some, None, Ok, Err, Result, refl, sym, ap, ◌∙◌, subst, inl, inr, arith, codes, leb-true, length-append, length-drop}
use Rattle.std.proofs.Common.{take-append-drop, append_assoc}
use Rattle.std.specs.Prelude.{option_and_then, option_map, nat_lt, nat_le, if◌then◌else◌, is_ok, IsTrue}
use Rattle.std.specs.Int.{w32, to_be_bytes, from_be_bytes}
use Rattle.std.specs.List.{flat_map, AllByRecursion}
use Rattle.std.specs.Option.{option_map_or}
use Rattle.std.specs.Str.{bytes_eq}
use Rattle.std.proofs.lemmas.Nat.{be_bytes_4}
use Rattle.std.proofs.lemmas.List.{length-take-le, drop-drop}
use Rattle.std.proofs.lemmas.Bool.{and_parts}
use Rattle.std.proofs.lemmas.Option.{same_Some, none-some}
use Rattle.osc_atoms.specs.Atoms.{AreBytes, string}
use Rattle.osc_atoms.proofs.AllBytes.{front_bytes, rest_bytes}
use Rattle.osc_message.specs.Messages.{tag_of, atom_of, tag_string}
use Rattle.osc_message.specs.Reading.{is_message, pattern_of}
use Rattle.osc_message.specs.Arguments.{message_arguments}
use Rattle.osc_model.specs.Limits.{Limits, IsWithin, AreInRange, is_within, limit_fault, header_size}
use Rattle.osc_model.specs.Events.{Entry as Recorded}
use Rattle.osc_model.specs.Recordings.{Row, row_text, sized, FitsRow}
use Rattle.osc_record.specs.declared.version.Version.{Version}
use Rattle.osc_record.specs.declared.version.Version.TheVariants.{First, Second}
use Rattle.osc_record.specs.Versions.{header_size_of, header_text_in, header_row_in, text_in, record_text_in, limit_fault_in, AreInRangeIn, unlimited}
use Rattle.osc_record.specs.Versions.{IsRecordableIn}
use Rattle.osc_record.specs.Reading.{row_read, entry_of, bytes_of_size, message_first, entry_first, Placed, onto_read, before_read, entries_read, entries_after}
use Rattle.osc_record.specs.Reading.{lawful_limits, header_of, header_told, header_read, placed_in, IsRecordIn}
use Rattle.osc_record.proofs.Again.{cond_gives, each_of_three, first_more, ok_is}
use Rattle.osc_record.proofs.Spelled.{Spelled, spelled, message_bytes, read_then, mapped, lawful_is, Delivers, header_was}
use Rattle.osc_record.proofs.RowsRead.{back_bytes}
use Rattle.osc_record.proofs.RowsIn.{recordable_in, row_was}
use Rattle.osc_record.proofs.Written.{header_length, range_above}

no_row : (b1 b2 b3 b4 b5 b6 : Bool) (e : Recorded)
    → cond {A = Option Recorded} b1 None (cond b2 None (cond b3 None (cond b4 None (cond b5 None (cond b6 None None))))) ≡ Some e → ⊥
no_row true b2 b3 b4 b5 b6 e is = none-some e is
no_row false true b3 b4 b5 b6 e is = none-some e is
no_row false false true b4 b5 b6 e is = none-some e is
no_row false false false true b5 b6 e is = none-some e is
no_row false false false false true b6 e is = none-some e is
no_row false false false false false true e is = none-some e is
no_row false false false false false false e is = none-some e is

-- a message that is read as an entry is its message
pub record EntryWas (version : Version) (message : List ℕ) (e : Recorded) : Type 0 where
  pub text : sized message ≡ text_in version e.caller e.event e.answer
  pub lawful : IsRecordableIn version e.caller e.event e.answer

pub entry_was : (version : Version) (message : List ℕ) (e : Recorded) → AreBytes message → entry_of version message ≡ Some e → EntryWas version message e
entry_was version message e small is =
    let inner = cond_gives (is_message 1073741824 message) (row_read version (pattern_of message) (message_arguments message)) e is in
    go (spelled message small inner.0) inner.1
  where
    go : Spelled message ⊎ (message_arguments message ≡ []) → row_read version (pattern_of message) (message_arguments message) ≡ Some e
        → EntryWas version message e
    go (inr none) read =
        absurd (no_row (bytes_eq (pattern_of message) (codes "/osc/enrol")) (bytes_eq (pattern_of message) (codes "/osc/submit"))
        (bytes_eq (pattern_of message) (codes "/osc/add")) (bytes_eq (pattern_of message) (codes "/osc/remove"))
        (bytes_eq (pattern_of message) (codes "/osc/tick")) (bytes_eq (pattern_of message) (codes "/osc/release")) e
        (ap (row_read version (pattern_of message)) (sym none) ∙ read))
    go (inl s) read =
        let tags : List ℕ = tag_string (map tag_of (message_arguments message)) in
        let atoms : List ℕ = flat_map atom_of (message_arguments message) in
        let all : AreBytes atoms = back_bytes tags atoms (back_bytes (string (pattern_of message)) (tags ++ atoms) (subst AreBytes s.text small)) in
        let was = row_was version (pattern_of message) (message_arguments message) e all read in
        record {
          text = ap sized s.text ∙ sym (ap (λ (o : Option Row). option_map_or (λ row. sized (row_text row)) o []) was.0);
          lawful = recordable_in version e.caller e.event e.answer (subst FitsRow (sym was.0) s.lawful.1) was.1 was.2;
        }

-- the message that bytes begin with stands there after its size
pub first_was : (bytes message : List ℕ) → AreBytes bytes → message_first bytes ≡ Some message → bytes ≡ sized message ++ drop (4 + length message) bytes
first_was bytes message small is =
    let size = from_be_bytes w32 (take 4 bytes) in
    let outer = cond_gives (nat_le 4 (length bytes)) (bytes_of_size size (drop 4 bytes)) message is in
    let inner = cond_gives (nat_lt 0 size && size % 4 == 0 && nat_le size (length (drop 4 bytes))) (Some (take size (drop 4 bytes))) message outer.1 in
    let tests = each_of_three (nat_lt 0 size) (size % 4 == 0) (nat_le size (length (drop 4 bytes))) inner.0 in
    let four : 4 ≤ length bytes = leb-true 4 (length bytes) outer.0 in
    let within : size ≤ length (drop 4 bytes) = leb-true size (length (drop 4 bytes)) tests.2 in
    let same : take size (drop 4 bytes) ≡ message = same_Some (take size (drop 4 bytes)) message inner.1 in
    let count : length message ≡ size = sym (ap length same) ∙ length-take-le size (drop 4 bytes) within in
    let word_is : to_be_bytes w32 (length message) ≡ take 4 bytes =
    be_bytes_4 (take 4 bytes) (length message) (length-take-le 4 bytes four) (front_bytes 4 bytes small) count in
    let behind : drop size (drop 4 bytes) ≡ drop (4 + length message) bytes = drop-drop size 4 bytes ∙ ap (λ n. drop (4 + n) bytes) (sym count) in
    sym (take-append-drop 4 bytes) ∙ ap (λ l. take 4 bytes ++ l) (sym (take-append-drop size (drop 4 bytes)))
    ∙ (λ i. sym word_is i ++ (same i ++ behind i))
    ∙ sym (append_assoc (to_be_bytes w32 (length message)) message (drop (4 + length message) bytes))

-- so does the entry
pub record FirstWas (version : Version) (limit place : ℕ) (bytes : List ℕ) (first : Recorded × ℕ) : Type 0 where
  pub text : bytes ≡ text_in version first.0.caller first.0.event first.0.answer ++ drop first.1 bytes
  pub lawful : IsRecordableIn version first.0.caller first.0.event first.0.answer
  pub size : length (text_in version first.0.caller first.0.event first.0.answer) ≡ first.1
  pub within : place + first.1 ≤ limit

pub entry_first_was : (version : Version) (limit place : ℕ) (bytes : List ℕ) (first : Recorded × ℕ) → AreBytes bytes
    → entry_first version limit place bytes ≡ Some first
    → FirstWas version limit place bytes first
entry_first_was version limit place bytes first small is = go (message_first bytes) refl is where
  go : (o : Option (List ℕ)) → message_first bytes ≡ o
      → option_and_then (λ m. if nat_le (place + 4 + length m) limit then option_map (λ entry. (entry, 4 + length m))
      (entry_of version m) else None) o ≡ Some first
      → FirstWas version limit place bytes first
  go None found read = absurd (none-some first read)
  go (Some message) found read =
      let inner = cond_gives (nat_le (place + 4 + length message) limit)
      (option_map (λ entry. (entry, 4 + length message)) (entry_of version message)) first read in
      let entry = mapped (λ (e : Recorded). (e, 4 + length message)) (entry_of version message) first inner.1 in
      let was = entry_was version message entry.0 (message_bytes bytes message small found) entry.1.0 in
      let fits : place + 4 + length message ≤ limit = leb-true (place + 4 + length message) limit inner.0 in
      subst (FirstWas version limit place bytes) entry.1.1 (record {
        text = first_was bytes message small found ∙ ap (λ l. l ++ drop (4 + length message) bytes) was.text;
        lawful = was.lawful;
        size = sym (ap length was.text) ∙ omega arith;
        within = omega arith;
      })

-- bytes that are read as entries are their texts
pub record EntriesWere (version : Version) (limit place : ℕ) (bytes : List ℕ) (xs : List Placed) : Type 0 where
  pub text : bytes ≡ flat_map (λ (e : Recorded). text_in version e.caller e.event e.answer) (map (λ (p : Placed). p.entry) xs)
  pub all : AllByRecursion (λ (e : Recorded). IsRecordableIn version e.caller e.event e.answer) (map (λ (p : Placed). p.entry) xs)
  pub within : place + length bytes ≤ limit

pub entries_were : (version : Version) (most limit place : ℕ) (bytes : List ℕ) (xs : List Placed) → AreBytes bytes → place ≤ limit
    → entries_read version most limit place bytes ≡ Ok xs
    → EntriesWere version limit place bytes xs
entries_were version zero limit place [] xs small inside read =
    subst (EntriesWere version limit place []) (ok_is [] xs read) (record { text = refl; all = tt; within = omega arith })
entries_were version (suc most) limit place [] xs small inside read =
    subst (EntriesWere version limit place []) (ok_is [] xs read) (record { text = refl; all = tt; within = omega arith })
entries_were version zero limit place (byte ∷ bytes) xs small inside read = absurd (cc)
entries_were version (suc most) limit place (byte ∷ bytes) xs small inside read =
    go (entry_first version limit place (byte ∷ bytes)) refl read
    (λ size ys rest there. entries_were version most limit (place + size) (drop size (byte ∷ bytes)) ys (rest_bytes size (byte ∷ bytes) small) there rest)
  where
    go : (o : Option (Recorded × ℕ)) → entry_first version limit place (byte ∷ bytes) ≡ o
        → before_read place o (λ size. entries_read version most limit (place + size) (drop size (byte ∷ bytes))) ≡ Ok xs
        → ((size : ℕ) (ys : List Placed) → entries_read version most limit (place + size) (drop size (byte ∷ bytes)) ≡ Ok ys → place + size ≤ limit
        → EntriesWere version limit (place + size) (drop size (byte ∷ bytes)) ys)
        → EntriesWere version limit place (byte ∷ bytes) xs
    go None found is more = absurd (cc)
    go (Some head) found is more = inner (entries_read version most limit (place + head.1) (drop head.1 (byte ∷ bytes))) refl is where
      inner : (r : Result (List Placed) ℕ) → entries_read version most limit (place + head.1) (drop head.1 (byte ∷ bytes)) ≡ r
          → onto_read (record { at = place; entry = head.0 }) r ≡ Ok xs → EntriesWere version limit place (byte ∷ bytes) xs
      inner (Err at) rest e = absurd (cc)
      inner (Ok ys) rest e =
          let first = entry_first_was version limit place (byte ∷ bytes) head small found in
          let within = first.within in
          let others = more head.1 ys rest within in
          let size : head.1 ≤ length (byte ∷ bytes) = (first_more version limit place (byte ∷ bytes) [] head found).1 in
          let room = others.within in
          subst (EntriesWere version limit place (byte ∷ bytes)) (ok_is (record { at = place; entry = head.0 } ∷ ys) xs e) (record {
            text = first.text ∙ ap (λ (l : List ℕ). text_in version head.0.caller head.0.event head.0.answer ++ l) others.text;
            all = (first.lawful, others.all);
            within = omega (arith, length-drop head.1 (byte ∷ bytes));
          })

within_is : (least most n : ℕ) → is_within least most n ≡ true → IsWithin least most n
within_is least most n is =
    let both = and_parts (nat_le least n) (nat_le n most) is in
    record { above = leb-true least n both.0; below = leb-true n most both.1 }

fault_step : (t : Bool) (o : Option ℕ) (k : ℕ) → cond t o (Some k) ≡ None → (t ≡ true) × (o ≡ None)
fault_step true o k is = (refl, is)
fault_step false o k is = absurd (cc)

-- limits without a fault are in their ranges
no_fault : (limits : Limits) → limit_fault limits ≡ None → AreInRange limits
no_fault limits is =
    let r6 : Option ℕ = cond (is_within header_size 1073741824 limits.recording) None (Some 6) in
    let r5 : Option ℕ = cond (is_within 1 1024 limits.callers) r6 (Some 5) in
    let r4 : Option ℕ = cond (is_within 1 1048576 limits.nodes) r5 (Some 4) in
    let r3 : Option ℕ = cond (is_within 1 65536 limits.methods) r4 (Some 3) in
    let r2 : Option ℕ = cond (is_within 1 1048576 limits.blocks) r3 (Some 2) in
    let s1 = fault_step (is_within 1 1048576 limits.units) r2 1 is in
    let s2 = fault_step (is_within 1 1048576 limits.blocks) r3 2 s1.1 in
    let s3 = fault_step (is_within 1 65536 limits.methods) r4 3 s2.1 in
    let s4 = fault_step (is_within 1 1048576 limits.nodes) r5 4 s3.1 in
    let s5 = fault_step (is_within 1 1024 limits.callers) r6 5 s4.1 in
    let s6 = fault_step (is_within header_size 1073741824 limits.recording) None 6 s5.1 in
    record {
      units = within_is 1 1048576 limits.units s1.0;
      blocks = within_is 1 1048576 limits.blocks s2.0;
      methods = within_is 1 65536 limits.methods s3.0;
      nodes = within_is 1 1048576 limits.nodes s4.0;
      callers = within_is 1 1024 limits.callers s5.0;
      recording = within_is header_size 1073741824 limits.recording s6.0;
    }

pub no_fault_range : (version : Version) (limits : Limits) → limit_fault_in version limits ≡ None → Delivers version limits.late → AreInRangeIn version limits
no_fault_range First limits is delivers =
    let parts = fault_step (is_within (header_size_of First) 1073741824 limits.recording) (limit_fault (unlimited limits)) 6 is in
    record {
      others = no_fault (unlimited limits) parts.1;
      recording = within_is (header_size_of First) 1073741824 limits.recording parts.0;
      delivers = delivers;
    }
no_fault_range Second limits is delivers = no_fault limits is

-- a header that is read stands before what follows it
pub record HeaderWas (version : Version) (bytes : List ℕ) (limits : Limits) : Type 0 where
  pub range : AreInRangeIn version limits
  pub text : bytes ≡ header_text_in version limits ++ drop (header_size_of version) bytes

pub header_first_was : (version : Version) (bytes : List ℕ) (limits : Limits) → AreBytes bytes → header_read version bytes ≡ Some limits
    → HeaderWas version bytes limits
header_first_was version bytes limits small is =
    let told = read_then (lawful_limits version) (header_told version bytes) limits is in
    let lawful = lawful_is version told.0 limits told.1.1 in
    subst (HeaderWas version bytes) lawful.0 (go (message_first bytes) refl told.0 told.1.0 lawful.1)
  where
    go : (o : Option (List ℕ)) → message_first bytes ≡ o → (told : Limits) → option_and_then (header_of version) o ≡ Some told
        → limit_fault_in version told ≡ None → HeaderWas version bytes told
    go None found told is none = absurd (none-some told is)
    go (Some message) found told is none =
        let was = header_was version message told (message_bytes bytes message small found) is in
        let size : length message ≡ length (row_text (header_row_in version told)) = ap length was.0 in
        let whole : length (header_text_in version told) ≡ header_size_of version = header_length version told in
        let place : 4 + length message ≡ header_size_of version = omega arith in
        record {
          range = no_fault_range version told none was.1;
          text = first_was bytes message small found ∙ (λ i. sized (was.0 i) ++ drop (place i) bytes);
        }

-- bytes that are read as a recording are one
pub record RecordWas (version : Version) (bytes : List ℕ) (limits : Limits) (entries : List Recorded) : Type 0 where
  pub lawful : IsRecordIn version limits entries
  pub text : bytes ≡ record_text_in version limits entries

pub record_was : (version : Version) (bytes : List ℕ) (limits : Limits) → AreBytes bytes → header_read version bytes ≡ Some limits
    → IsTrue (is_ok (entries_after version limits bytes))
    → RecordWas version bytes limits (map (λ (p : Placed). p.entry) (placed_in (entries_after version limits bytes)))
record_was version bytes limits small header read = go (entries_after version limits bytes) refl read where
  go : (r : Result (List Placed) ℕ) → entries_after version limits bytes ≡ r → IsTrue (is_ok r)
      → RecordWas version bytes limits (map (λ (p : Placed). p.entry) (placed_in r))
  go (Err at) e ok = absurd (cc)
  go (Ok xs) e ok =
      let first = header_first_was version bytes limits small header in
      let above = range_above version limits first.range in
      let were = entries_were version (length bytes) limits.recording (header_size_of version) (drop (header_size_of version) bytes) xs
      (rest_bytes (header_size_of version) bytes small) above e in
      let text : bytes ≡ record_text_in version limits (map (λ (p : Placed). p.entry) xs) = first.text
      ∙ ap (λ l. header_text_in version limits ++ l) were.text in
      let within = were.within in
      record {
        lawful = record {
          lawful = first.range;
          all = were.all;
          fits = omega (
            arith,
            header_length version limits,
            sym (ap length text),
            ap length first.text,
            length-append (header_text_in version limits)
                (drop (header_size_of version) bytes),
          );
        };
        text = text;
      }
