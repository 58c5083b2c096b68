-- A recording, read: its limits and its entries, or the first malformed place. `laws` ties them to
-- what is written.
use Rattle.osc_atoms.specs.declared.limits.TheConstants.{MAX_BYTES}
use Rattle.std.specs.Prelude.{◌≡◌, ◌⊎◌, ◌<◌, ◌++◌, ℕ, ⊤, IsTrue, is_ok, zero, suc, ◌+◌, ◌%◌, Bool}
use Rattle.std.specs.Prelude.{◌&&◌, ◌==◌, nat_lt, nat_le, ◌≤◌, if◌then◌else◌, ℤ, pos, negsuc, List}
use Rattle.std.specs.Prelude.{[], ◌∷◌, length, take, drop, map, codes, Option, Some, None}
use Rattle.std.specs.Prelude.{option_and_then, option_map, is_none, Result, Ok, Err}
use Rattle.std.specs.List.{AllByRecursion}
use Rattle.std.specs.Int.{w32, from_be_bytes}
use Rattle.std.specs.Str.{bytes_eq}
use Rattle.osc_message.specs.Messages.{Argument, integer, text, content, long, time}
use Rattle.osc_message.specs.Reading.{is_message, pattern_of}
use Rattle.osc_message.specs.Arguments.{message_arguments}
use Rattle.osc_model.specs.Events.{enrol, submit, add, remove, tick, release, Answer, number}
use Rattle.osc_model.specs.Events.{callers_full, queued, units_full, pool_full, added, refused}
use Rattle.osc_model.specs.Events.{removed, not_there, ticked, clock_back, released}
use Rattle.osc_tree.specs.Adding.{taken, under_method, is_container, methods_full, nodes_full}
use Rattle.osc_model.specs.declared.late.Late.{Late}
use Rattle.osc_model.specs.declared.late.Late.TheVariants.{Deliver, Discard}
use Rattle.osc_model.specs.Limits.{Limits, max_recording}
use Rattle.osc_model.specs.Events.{Entry as Recorded}
use Rattle.osc_model.specs.Recordings.{hits_in}
use Rattle.osc_record.specs.declared.version.Version.{Version}
use Rattle.osc_record.specs.declared.version.Version.TheVariants.{First, Second}
use Rattle.osc_record.specs.Versions.{version_number, header_size_of, header_text_in, text_in}
use Rattle.osc_record.specs.Versions.{record_text_in, limit_fault_in, AreInRangeIn, IsRecordableIn}

-- a number that isn't negative
abbrev pub natural_of : ℤ → Option ℕ
natural_of (pos n) = Some n
natural_of (negsuc n) = None

-- the first argument where it is a number in four bytes that isn't negative, and those after it
abbrev pub int_first : List Argument → Option (ℕ × List Argument)
int_first (integer z ∷ rest) = option_map (λ n. (n, rest)) (natural_of z)
int_first _ = None

-- where it is any number in four bytes
abbrev pub signed_first : List Argument → Option (ℤ × List Argument)
signed_first (integer z ∷ rest) = Some (z, rest)
signed_first _ = None

-- where it is a number in eight bytes that isn't negative
abbrev pub long_first : List Argument → Option (ℕ × List Argument)
long_first (long z ∷ rest) = option_map (λ n. (n, rest)) (natural_of z)
long_first _ = None

-- where it is a moment
abbrev pub time_first : List Argument → Option (ℕ × List Argument)
time_first (time n ∷ rest) = Some (n, rest)
time_first _ = None

-- where it is a string
abbrev pub text_first : List Argument → Option (List ℕ × List Argument)
text_first (text bytes ∷ rest) = Some (bytes, rest)
text_first _ = None

-- where it is a blob
abbrev pub content_first : List Argument → Option (List ℕ × List Argument)
content_first (content bytes ∷ rest) = Some (bytes, rest)
content_first _ = None

-- a number that only the second version has, and those after it; in the first it is 0
abbrev pub later_first : Version → List Argument → Option (ℕ × List Argument)
later_first First arguments = Some (0, arguments)
later_first Second arguments = int_first arguments

-- what is read where no argument is left over
abbrev pub at_end : {X : Type 0} → List Argument → Option X → Option X
at_end [] read = read
at_end (argument ∷ rest) read = None

-- an answer where a test holds
abbrev pub answer_if : Bool → Answer → Option Answer
answer_if test answer = if test then Some answer else None

-- what an enrolling caller is answered by a number
abbrev pub enrol_answer : ℤ → Option Answer
enrol_answer (pos n) = Some (number n)
enrol_answer (negsuc zero) = Some callers_full
enrol_answer (negsuc (suc k)) = None

-- what a submitting caller is answered by a code and three numbers
abbrev pub submit_answer : ℕ → ℕ → ℕ → ℕ → Option Answer
submit_answer code first second third =
    if code == 0 then answer_if (nat_le third second) (queued first second third) else
    if code == 1
    then answer_if (nat_lt second first && third == 0)
    (units_full (record { need = first; free = second })) else
    if code == 2
    then answer_if (nat_lt second first && third == 0)
    (pool_full (record { need = first; free = second }))
    else None

-- what adding a method is answered by a code and two numbers
abbrev pub add_answer : ℕ → ℕ → ℕ → Option Answer
add_answer code first second =
    if code == 0 then answer_if (second == 0) (added first) else
    if code == 1 then answer_if (second == 0) (refused (taken first)) else
    if code == 2 then answer_if (second == 0) (refused (under_method first)) else
    if code == 3 then answer_if (first == 0 && second == 0) (refused is_container) else
    if code == 4 then answer_if (second == 0) (refused (methods_full first)) else
    if code == 5 then answer_if (nat_lt second first) (refused (nodes_full first second)) else None

-- what removing a method is answered by a code and an id
abbrev pub remove_answer : ℕ → ℕ → Option Answer
remove_answer code id = if code == 0 then Some (removed id)
    else if code == 1 then answer_if (id == 0) not_there else None

-- what a moment is answered by a code and the clock after it
abbrev pub tick_answer : ℕ → ℕ → ℕ → Option Answer
tick_answer moment code clock = if code == 0 then answer_if (clock == moment) ticked
    else if code == 1 then Some (clock_back clock) else None

-- what a release is answered by a unit's number and the bytes of its hits
abbrev pub release_answer : ℕ → List ℕ → Option Answer
release_answer unit hits = answer_if (length hits % 8 == 0) (released unit (hits_in hits))

abbrev pub enrol_read : List Argument → Option Recorded
enrol_read arguments =
    option_and_then (λ caller.
    option_and_then (λ answer.
    at_end answer.1
    (option_map (λ a. record { caller = caller.0; event = enrol; answer = a })
    (enrol_answer answer.0)))
    (signed_first caller.1)) (int_first arguments)

abbrev pub submit_read : Version → List Argument → Option Recorded
submit_read version arguments =
    option_and_then (λ caller.
    option_and_then (λ packet.
    option_and_then (λ code.
    option_and_then (λ first.
    option_and_then (λ second.
    option_and_then (λ third.
    at_end third.1
    (option_map (λ a. record { caller = caller.0; event = submit packet.0; answer = a })
    (submit_answer code.0 first.0 second.0 third.0)))
    (later_first version second.1)) (int_first first.1)) (long_first code.1))
    (int_first packet.1)) (content_first caller.1)) (int_first arguments)

abbrev pub add_read : List Argument → Option Recorded
add_read arguments =
    option_and_then (λ caller.
    option_and_then (λ address.
    option_and_then (λ code.
    option_and_then (λ first.
    option_and_then (λ second.
    at_end second.1
    (option_map (λ a. record { caller = caller.0; event = add address.0; answer = a })
    (add_answer code.0 first.0 second.0)))
    (int_first first.1)) (int_first code.1)) (int_first address.1)) (text_first caller.1))
    (int_first arguments)

abbrev pub remove_read : List Argument → Option Recorded
remove_read arguments =
    option_and_then (λ caller.
    option_and_then (λ address.
    option_and_then (λ code.
    option_and_then (λ id.
    at_end id.1 (option_map
    (λ a. record { caller = caller.0; event = remove address.0; answer = a })
    (remove_answer code.0 id.0)))
    (int_first code.1)) (int_first address.1)) (text_first caller.1)) (int_first arguments)

abbrev pub tick_read : List Argument → Option Recorded
tick_read arguments =
    option_and_then (λ caller.
    option_and_then (λ moment.
    option_and_then (λ code.
    option_and_then (λ clock.
    at_end clock.1
    (option_map (λ a. record { caller = caller.0; event = tick moment.0; answer = a })
    (tick_answer moment.0 code.0 clock.0)))
    (time_first code.1)) (int_first moment.1)) (time_first caller.1)) (int_first arguments)

abbrev pub release_read : List Argument → Option Recorded
release_read arguments =
    option_and_then (λ caller.
    option_and_then (λ unit.
    option_and_then (λ hits.
    at_end hits.1
    (option_map (λ a. record { caller = caller.0; event = release; answer = a })
    (release_answer unit.0 hits.0)))
    (content_first unit.1)) (long_first caller.1)) (int_first arguments)

-- the entry of a message to an address with these arguments
abbrev pub row_read : Version → List ℕ → List Argument → Option Recorded
row_read version address arguments =
    if bytes_eq address (codes "/osc/enrol") then enrol_read arguments else
    if bytes_eq address (codes "/osc/submit") then submit_read version arguments else
    if bytes_eq address (codes "/osc/add") then add_read arguments else
    if bytes_eq address (codes "/osc/remove") then remove_read arguments else
    if bytes_eq address (codes "/osc/tick") then tick_read arguments else
    if bytes_eq address (codes "/osc/release") then release_read arguments else None

-- the entry that a message is
abbrev pub entry_of : Version → List ℕ → Option Recorded
entry_of version message = if is_message MAX_BYTES message
    then row_read version (pattern_of message) (message_arguments message) else None

-- so many of the bytes, where that is a size: a positive multiple of 4, and no more than there are
abbrev pub bytes_of_size : ℕ → List ℕ → Option (List ℕ)
bytes_of_size size bytes = if nat_lt 0 size && size % 4 == 0 && nat_le size (length bytes)
    then Some (take size bytes) else None

-- the message after the size that the bytes begin with
abbrev pub message_first : List ℕ → Option (List ℕ)
message_first bytes = if nat_le 4 (length bytes)
    then bytes_of_size (from_be_bytes w32 (take 4 bytes)) (drop 4 bytes) else None

-- the entry that the bytes begin with and its size, where its place is given and it ends within a
-- limit
abbrev pub entry_first : Version → ℕ → ℕ → List ℕ → Option (Recorded × ℕ)
entry_first version limit place bytes =
    option_and_then (λ message.
    if nat_le (place + 4 + length message) limit
    then option_map (λ entry. (entry, 4 + length message)) (entry_of version message) else None)
    (message_first bytes)

-- the entry that bytes begin with, whatever follows it
abbrev pub entry_in : List ℕ → Option Recorded
entry_in bytes = option_and_then (entry_of Second) (message_first bytes)

-- an entry at its place
pub record Placed : Type 0 where
  pub at : ℕ
  pub entry : Recorded

-- one more entry before those that are read
abbrev pub onto_read : Placed → Result (List Placed) ℕ → Result (List Placed) ℕ
onto_read first (Ok entries) = Ok (first ∷ entries)
onto_read first (Err at) = Err at

-- the first entry and those after it, or the place where none is
abbrev pub before_read : ℕ → Option (Recorded × ℕ) → (ℕ → Result (List Placed) ℕ)
    → Result (List Placed) ℕ
before_read place None next = Err place
before_read place (Some first) next =
    onto_read (record { at = place; entry = first.0 }) (next first.1)

-- the entries that stand one after another from a place on, or the first malformed place; at most
-- so many are read
abbrev pub entries_read : Version → ℕ → ℕ → ℕ → List ℕ → Result (List Placed) ℕ
entries_read version most limit place [] = Ok []
entries_read version zero limit place (byte ∷ bytes) = Err place
entries_read version (suc most) limit place (byte ∷ bytes) =
    before_read place (entry_first version limit place (byte ∷ bytes))
    (λ size. entries_read version most limit (place + size) (drop size (byte ∷ bytes)))

-- all the entries that stand one after another from a place on, or the first malformed place
abbrev pub entries_at : Version → ℕ → ℕ → List ℕ → Result (List Placed) ℕ
entries_at version limit place bytes = entries_read version (length bytes) limit place bytes

-- whether entries are read, or the first malformed place
abbrev pub outcome : Result (List Placed) ℕ → Result ⊤ ℕ
outcome (Ok entries) = Ok tt
outcome (Err at) = Err at

-- the entries that are read
abbrev pub placed_in : Result (List Placed) ℕ → List Placed
placed_in (Ok entries) = entries
placed_in (Err at) = []

-- limits in their ranges
abbrev pub lawful_limits : Version → Limits → Option Limits
lawful_limits version limits = if is_none (limit_fault_in version limits) then Some limits else None

-- what a number says that becomes of late units
abbrev pub late_told : ℕ → Option Late
late_told code = if code == 0 then Some Deliver else if code == 1 then Some Discard else None

-- what the arguments of a header tell
abbrev pub limits_told : Version → List Argument → Option Limits
limits_told version arguments =
    option_and_then (λ number.
    option_and_then (λ units.
    option_and_then (λ blocks.
    option_and_then (λ methods.
    option_and_then (λ nodes.
    option_and_then (λ callers.
    option_and_then (λ recording.
    option_and_then (λ late.
    at_end late.1
    (if number.0 == version_number version
    then option_map (λ policy.
    (record {
      units = units.0;
      blocks = blocks.0;
      methods = methods.0;
      nodes = nodes.0;
      callers = callers.0;
      recording = recording.0;
      late = policy;
    })) (late_told late.0) else None))
    (later_first version recording.1)) (int_first callers.1)) (int_first nodes.1))
    (int_first methods.1)) (int_first blocks.1)) (int_first units.1)) (int_first number.1))
    (int_first arguments)

-- what a message tells, where it is a header
abbrev pub header_of : Version → List ℕ → Option Limits
header_of version message =
    if is_message MAX_BYTES message && bytes_eq (pattern_of message) (codes "/osc/rec")
    then limits_told version (message_arguments message) else None

-- what the header tells that the bytes begin with
abbrev pub header_told : Version → List ℕ → Option Limits
header_told version bytes = option_and_then (header_of version) (message_first bytes)

-- the limits that the bytes begin with
abbrev pub header_read : Version → List ℕ → Option Limits
header_read version bytes = option_and_then (lawful_limits version) (header_told version bytes)

-- the entries after the header of a recording with these limits
abbrev pub entries_after : Version → Limits → List ℕ → Result (List Placed) ℕ
entries_after version limits bytes =
    entries_read version (length bytes) limits.recording (header_size_of version)
    (drop (header_size_of version) bytes)

-- the limits and the entries of a recording
abbrev pub with_entries : Version → List ℕ → Option Limits → Result (Limits × List Placed) ℕ
with_entries version bytes None = Err 0
with_entries version bytes (Some limits) = elim (entries_after version limits bytes) [
  | Ok entries ↦ Ok (limits, entries)
  | Err at ↦ Err at
]

-- the recording that the bytes are, or the first malformed place
abbrev pub record_read : Version → List ℕ → Result (Limits × List Placed) ℕ
record_read version bytes = with_entries version bytes (header_read version bytes)

-- entries that stand one after another from a place on
abbrev pub placed_by : Version → ℕ → List Recorded → List Placed
placed_by version place [] = []
placed_by version place (entry ∷ entries) =
    record { at = place; entry = entry } ∷ placed_by version
    (place + length (text_in version entry.caller entry.event entry.answer)) entries

abbrev pub placed_from : ℕ → List Recorded → List Placed
placed_from place entries = placed_by Second place entries

-- the entries without their places
abbrev pub unplaced : List Placed → List Recorded
unplaced placed = map (λ p. p.entry) placed

-- limits in their ranges, and entries that a recording can hold within the last of them
pub record IsRecordIn (version : Version) (limits : Limits) (entries : List Recorded) : Type 0 where
  pub lawful : AreInRangeIn version limits
  pub all : AllByRecursion
      (λ entry. IsRecordableIn version entry.caller entry.event entry.answer) entries
  pub fits : length (record_text_in version limits entries) ≤ limits.recording

abbrev pub IsRecord : Limits → List Recorded → Type 0
IsRecord limits entries = IsRecordIn Second limits entries

-- a recording that is read
pub record ReadRecord : Type 0 where
  pub caps : Limits
  pub entries : List Placed

-- what bytes with these limits are read as
abbrev pub read_of : Version → Limits → List ℕ → ReadRecord
read_of version limits bytes =
    record { caps = limits; entries = placed_in (entries_after version limits bytes) }

-- the bytes are read, with these limits
pub record AreRead (version : Version) (limits : Limits) (bytes : List ℕ) : Type 0 where
  pub header : header_read version bytes ≡ Some limits
  pub entries : IsTrue (is_ok (entries_after version limits bytes))
  pub long : header_size_of version ≤ length bytes
  pub small : length bytes ≤ max_recording

-- the bytes don't begin with the header of lawful limits
pub record HasNoHeaderIn (version : Version) (bytes : List ℕ) (at : ℕ) : Type 0 where
  pub first : at ≡ 0
  pub none : (limits : Limits) (rest : List ℕ) → AreInRangeIn version limits
      → bytes ≡ header_text_in version limits ++ rest → ⊥

abbrev pub HasNoHeader : List ℕ → ℕ → Type 0
HasNoHeader bytes at = HasNoHeaderIn Second bytes at

-- the bytes are a recording up to a place, and are followed there by some bytes that don't begin
-- with an entry within the limit
pub record HasNoEntryIn (version : Version) (bytes : List ℕ) (at : ℕ) : Type 0 where
  pub limits : Limits
  pub entries : List Recorded
  pub rest : List ℕ
  pub lawful : IsRecordIn version limits entries
  pub text : bytes ≡ record_text_in version limits entries ++ rest
  pub place : at ≡ length (record_text_in version limits entries)
  pub some : 0 < length rest
  pub none : (entry : Recorded) (more : List ℕ)
      → IsRecordableIn version entry.caller entry.event entry.answer
      → at + length (text_in version entry.caller entry.event entry.answer) ≤ limits.recording
      → rest ≡ text_in version entry.caller entry.event entry.answer ++ more → ⊥

-- the place of the header or of the first entry that doesn't read
abbrev pub IsMalformedIn : Version → List ℕ → ℕ → Type 0
IsMalformedIn version bytes at = HasNoHeaderIn version bytes at ⊎ HasNoEntryIn version bytes at

abbrev pub IsMalformedAt : List ℕ → ℕ → Type 0
IsMalformedAt bytes at = IsMalformedIn Second bytes at
