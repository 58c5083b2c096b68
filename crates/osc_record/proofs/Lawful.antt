-- The messages of a recording are lawful, and are read as the entries that they stand for.
use Rattle.std.proofs.Common.{◌≡◌, ℕ, ◌%◌, ◌≤◌, true, ◌==◌, ℤ, List, [], ◌∷◌, length, Option, Some, None, Ok, Err, Result, refl, ap, ◌∙◌, inl, inr, arith}
use Rattle.std.proofs.Common.{codes, eq-eqb, lt-ltb, le-leb}
use Rattle.std.specs.Prelude.{⊤, option_map, is_ok}
use Rattle.std.specs.Int.{w32, to_be_bytes, from_be_bytes}
use Rattle.std.specs.List.{AllByRecursion}
use Rattle.std.proofs.lemmas.Nat.{from_be_bytes-to_be_bytes_4}
use Rattle.std.proofs.lemmas.Bool.{cond-true}
use Rattle.osc_atoms.specs.declared.fault.Fault.{Fault}
use Rattle.osc_pattern.specs.Patterns.{IsPattern}
use Rattle.osc_pattern.specs.Reading.{read_part}
use Rattle.osc_pattern.proofs.PatternLaws.{is_pattern-sound}
use Rattle.osc_message.specs.Tags.{Balanced}
use Rattle.osc_message.specs.Messages.{known, IsLawful}
use Rattle.osc_message.specs.Reading.{brackets_read}
use Rattle.osc_message.proofs.ArrayBrackets.{balance_seen, bracket_fault_again}
use Rattle.osc_message.proofs.MessageLaws.{limited_again}
use Rattle.osc_message.proofs.TextLaws.{pattern_again, known_arguments_again}
use Rattle.osc_tree.specs.Adding.{taken, under_method, is_container, methods_full, nodes_full}
use Rattle.osc_model.specs.Events.{Event, enrol, submit, add, remove, tick, release, Hit, Answer, number, callers_full, queued, units_full, pool_full, added}
use Rattle.osc_model.specs.Events.{refused, removed, not_there, ticked, clock_back, released, nothing_due, record_full}
use Rattle.osc_model.specs.Events.{Entry as Recorded}
use Rattle.osc_model.specs.Recordings.{Row, row_of, row_text, FitsRow, IsHit, IsSound, enrolled, submitted, adding, removing, ticking, releasing, hits_text}
use Rattle.osc_model.specs.Recordings.{hits_in, enrol_row, submit_row, add_row, remove_row, tick_row, release_row}
use Rattle.osc_model.proofs.Sizes.{length-hits_text}
use Rattle.osc_record.specs.declared.version.Version.{Version}
use Rattle.osc_record.specs.declared.version.Version.TheVariants.{Second}
use Rattle.osc_record.specs.Reading.{row_read, entry_of}

pub enrol_address : IsPattern (codes "/osc/enrol")
unfolding read_part
enrol_address = is_pattern-sound (codes "/osc/enrol") refl

pub submit_address : IsPattern (codes "/osc/submit")
unfolding read_part
submit_address = is_pattern-sound (codes "/osc/submit") refl

pub add_address : IsPattern (codes "/osc/add")
unfolding read_part
add_address = is_pattern-sound (codes "/osc/add") refl

pub remove_address : IsPattern (codes "/osc/remove")
unfolding read_part
remove_address = is_pattern-sound (codes "/osc/remove") refl

pub tick_address : IsPattern (codes "/osc/tick")
unfolding read_part
tick_address = is_pattern-sound (codes "/osc/tick") refl

pub release_address : IsPattern (codes "/osc/release")
unfolding read_part
release_address = is_pattern-sound (codes "/osc/release") refl

pub rec_address : IsPattern (codes "/osc/rec")
unfolding read_part
rec_address = is_pattern-sound (codes "/osc/rec") refl

clash : (r : Result ⊤ Fault) (fault : Fault) → r ≡ Ok tt → r ≡ Err fault → ⊥
clash r fault p q = cc

-- tags whose brackets are read balance
pub balanced : (tags : List ℕ) → brackets_read 0 0 tags 0 ≡ Ok tt → Balanced tags
balanced tags read = elim (balance_seen 0 tags) [
  | inl even ↦ even
  | inr found ↦ absurd (clash (brackets_read 0 0 tags 0) found.0 read (bracket_fault_again 0 tags found.0 found.1))
]

-- the hits that are written are read again
pub hits_again : (hits : List Hit) → AllByRecursion IsHit hits → hits_in (hits_text hits) ≡ hits
hits_again [] all = refl
hits_again (hit ∷ hits) all =
    let index : from_be_bytes w32 (to_be_bytes w32 hit.index) ≡ hit.index = from_be_bytes-to_be_bytes_4 hit.index all.0.index_fits in
    let id : from_be_bytes w32 (to_be_bytes w32 hit.id) ≡ hit.id = from_be_bytes-to_be_bytes_4 hit.id all.0.id_fits in
    let more = hits_again hits all.1 in
    λ i. record { index = index i; id = id i } ∷ more i

-- a message to this address with arguments under these tags is lawful
abbrev pub LawfulRow : Option Row → Type 0
LawfulRow None = Unit {0}
LawfulRow (Some row) = IsLawful (known row.address row.arguments)

-- the message of an entry is lawful
pub row_lawful : (caller : ℕ) (event : Event) (answer : Answer) → FitsRow (row_of caller event answer) → LawfulRow (row_of caller event answer)
row_lawful caller enrol answer fit = go (enrolled answer) fit where
  go : (o : Option (ℤ)) → FitsRow (option_map (enrol_row caller) o) → LawfulRow (option_map (enrol_row caller) o)
  go None f = tt
  go (Some told) f = (enrol_address, f, balanced (105 ∷ 105 ∷ []) refl)
row_lawful caller (submit packet) answer fit = go (submitted answer) fit where
  go : (o : Option (ℕ × ℕ × ℕ × ℕ)) → FitsRow (option_map (submit_row caller packet) o) → LawfulRow (option_map (submit_row caller packet) o)
  go None f = tt
  go (Some told) f = (submit_address, f, balanced (105 ∷ 98 ∷ 105 ∷ 104 ∷ 105 ∷ 105 ∷ []) refl)
row_lawful caller (add address) answer fit = go (adding answer) fit where
  go : (o : Option (ℕ × ℕ × ℕ)) → FitsRow (option_map (add_row caller address) o) → LawfulRow (option_map (add_row caller address) o)
  go None f = tt
  go (Some told) f = (add_address, f, balanced (105 ∷ 115 ∷ 105 ∷ 105 ∷ 105 ∷ []) refl)
row_lawful caller (remove address) answer fit = go (removing answer) fit where
  go : (o : Option (ℕ × ℕ)) → FitsRow (option_map (remove_row caller address) o) → LawfulRow (option_map (remove_row caller address) o)
  go None f = tt
  go (Some told) f = (remove_address, f, balanced (105 ∷ 115 ∷ 105 ∷ 105 ∷ []) refl)
row_lawful caller (tick moment) answer fit = go (ticking moment answer) fit where
  go : (o : Option (ℕ × ℕ)) → FitsRow (option_map (tick_row caller moment) o) → LawfulRow (option_map (tick_row caller moment) o)
  go None f = tt
  go (Some told) f = (tick_address, f, balanced (105 ∷ 116 ∷ 105 ∷ 116 ∷ []) refl)
row_lawful caller release answer fit = go (releasing answer) fit where
  go : (o : Option (ℕ × List Hit)) → FitsRow (option_map (λ r. release_row caller r.0 (hits_text r.1)) o)
      → LawfulRow (option_map (λ r. release_row caller r.0 (hits_text r.1)) o)
  go None f = tt
  go (Some told) f = (release_address, f, balanced (105 ∷ 104 ∷ 98 ∷ []) refl)

-- the entry that a lawful message stands for
pub row_again : (version : Version) (row : Row) → IsLawful (known row.address row.arguments) → length (row_text row) ≤ 1073741824
    → entry_of version (row_text row) ≡ row_read version row.address row.arguments
row_again version row lawful short =
    let form = known row.address row.arguments in
    cond-true _ _ _ (ap is_ok (limited_again 1073741824 (row_text row) form lawful refl short))
    ∙ (λ i. row_read version (pattern_again form lawful i) (known_arguments_again row.address row.arguments lawful i))

-- what is read of an entry's message, if it has one
abbrev pub ReadAs : Version → Recorded → Option Row → Type 0
ReadAs version entry None = Unit {0}
ReadAs version entry (Some row) = row_read version row.address row.arguments ≡ Some entry

self_eq : (n : ℕ) → (n == n) ≡ true
self_eq n = eq-eqb n n refl

eighths : (hits : List Hit) → (length (hits_text hits) % 8 == 0) ≡ true
eighths hits = eq-eqb (length (hits_text hits) % 8) 0 (omega (arith, length-hits_text hits))

pub entry_again : (caller : ℕ) (event : Event) (answer : Answer) → IsSound answer
    → ReadAs Second (record { caller = caller; event = event; answer = answer }) (row_of caller event answer)
entry_again caller enrol (number n) sound = refl
entry_again caller enrol callers_full sound = refl
entry_again caller (submit packet) (queued first count late) sound = rw (le-leb late count sound) refl
entry_again caller (submit packet) (units_full room) sound = rw (lt-ltb room.free room.need sound) refl
entry_again caller (submit packet) (pool_full room) sound = rw (lt-ltb room.free room.need sound) refl
entry_again caller (add address) (added id) sound = refl
entry_again caller (add address) (refused (taken id)) sound = refl
entry_again caller (add address) (refused (under_method id)) sound = refl
entry_again caller (add address) (refused is_container) sound = refl
entry_again caller (add address) (refused (methods_full limit)) sound = refl
entry_again caller (add address) (refused (nodes_full need free)) sound = rw (lt-ltb free need sound) refl
entry_again caller (remove address) (removed id) sound = refl
entry_again caller (remove address) not_there sound = refl
entry_again caller (tick moment) ticked sound = rw (self_eq moment) refl
entry_again caller (tick moment) (clock_back kept) sound = refl
entry_again caller release (released unit hits) sound =
    rw (eighths hits) (ap (λ h. Some (record { caller = caller; event = release; answer = released unit h })) (hits_again hits sound))
entry_again caller enrol (queued first count late) sound = tt
entry_again caller enrol (units_full room) sound = tt
entry_again caller enrol (pool_full room) sound = tt
entry_again caller enrol (added id) sound = tt
entry_again caller enrol (refused why) sound = tt
entry_again caller enrol (removed id) sound = tt
entry_again caller enrol not_there sound = tt
entry_again caller enrol ticked sound = tt
entry_again caller enrol (clock_back kept) sound = tt
entry_again caller enrol (released unit hits) sound = tt
entry_again caller enrol (nothing_due next) sound = tt
entry_again caller enrol (record_full room) sound = tt
entry_again caller (submit packet) (number n) sound = tt
entry_again caller (submit packet) callers_full sound = tt
entry_again caller (submit packet) (added id) sound = tt
entry_again caller (submit packet) (refused why) sound = tt
entry_again caller (submit packet) (removed id) sound = tt
entry_again caller (submit packet) not_there sound = tt
entry_again caller (submit packet) ticked sound = tt
entry_again caller (submit packet) (clock_back kept) sound = tt
entry_again caller (submit packet) (released unit hits) sound = tt
entry_again caller (submit packet) (nothing_due next) sound = tt
entry_again caller (submit packet) (record_full room) sound = tt
entry_again caller (add address) (number n) sound = tt
entry_again caller (add address) callers_full sound = tt
entry_again caller (add address) (queued first count late) sound = tt
entry_again caller (add address) (units_full room) sound = tt
entry_again caller (add address) (pool_full room) sound = tt
entry_again caller (add address) (removed id) sound = tt
entry_again caller (add address) not_there sound = tt
entry_again caller (add address) ticked sound = tt
entry_again caller (add address) (clock_back kept) sound = tt
entry_again caller (add address) (released unit hits) sound = tt
entry_again caller (add address) (nothing_due next) sound = tt
entry_again caller (add address) (record_full room) sound = tt
entry_again caller (remove address) (number n) sound = tt
entry_again caller (remove address) callers_full sound = tt
entry_again caller (remove address) (queued first count late) sound = tt
entry_again caller (remove address) (units_full room) sound = tt
entry_again caller (remove address) (pool_full room) sound = tt
entry_again caller (remove address) (added id) sound = tt
entry_again caller (remove address) (refused why) sound = tt
entry_again caller (remove address) ticked sound = tt
entry_again caller (remove address) (clock_back kept) sound = tt
entry_again caller (remove address) (released unit hits) sound = tt
entry_again caller (remove address) (nothing_due next) sound = tt
entry_again caller (remove address) (record_full room) sound = tt
entry_again caller (tick moment) (number n) sound = tt
entry_again caller (tick moment) callers_full sound = tt
entry_again caller (tick moment) (queued first count late) sound = tt
entry_again caller (tick moment) (units_full room) sound = tt
entry_again caller (tick moment) (pool_full room) sound = tt
entry_again caller (tick moment) (added id) sound = tt
entry_again caller (tick moment) (refused why) sound = tt
entry_again caller (tick moment) (removed id) sound = tt
entry_again caller (tick moment) not_there sound = tt
entry_again caller (tick moment) (released unit hits) sound = tt
entry_again caller (tick moment) (nothing_due next) sound = tt
entry_again caller (tick moment) (record_full room) sound = tt
entry_again caller release (number n) sound = tt
entry_again caller release callers_full sound = tt
entry_again caller release (queued first count late) sound = tt
entry_again caller release (units_full room) sound = tt
entry_again caller release (pool_full room) sound = tt
entry_again caller release (added id) sound = tt
entry_again caller release (refused why) sound = tt
entry_again caller release (removed id) sound = tt
entry_again caller release not_there sound = tt
entry_again caller release ticked sound = tt
entry_again caller release (clock_back kept) sound = tt
entry_again caller release (nothing_due next) sound = tt
entry_again caller release (record_full room) sound = tt
