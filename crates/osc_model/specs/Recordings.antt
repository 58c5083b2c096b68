-- A recording, written: the messages that stand for its header and its entries, each after its
-- size.
use Rattle.std.specs.Prelude.{ℕ, ◌+◌, ◌*◌, ◌<◌, ◌≤◌, ◌^◌, ℤ, pos, negsuc, List, [], ◌∷◌, ◌++◌}
use Rattle.std.specs.Prelude.{length}
use Rattle.std.specs.Prelude.{codes, Option, Some, None, option_map}
use Rattle.std.specs.List.{flat_map, AllByRecursion}
use Rattle.std.specs.Option.{option_map_or}
use Rattle.std.specs.Int.{w32, from_be_bytes}
use Rattle.osc_atoms.specs.Atoms.{word, string, blob_end}
use Rattle.osc_message.specs.Messages.{Argument, integer, text, content, long, time, AllFit, known}
use Rattle.osc_message.specs.Messages.{message_text}
use Rattle.osc_model.specs.Events.{Event, Entry, enrol, submit, add, remove, tick, release, Hit}
use Rattle.osc_model.specs.Events.{Answer, number, callers_full, queued, units_full, pool_full}
use Rattle.osc_model.specs.Events.{added, refused, removed, not_there, ticked, clock_back, released}
use Rattle.osc_tree.specs.Adding.{Refusal, taken, under_method, is_container, methods_full}
use Rattle.osc_tree.specs.Adding.{nodes_full}
use Rattle.osc_model.specs.Limits.{Limits, release_head_size}
use Rattle.osc_model.specs.declared.late.Late.{Late}
use Rattle.osc_model.specs.declared.late.Late.TheVariants.{Deliver, Discard}

-- a message of the recording: its address, and its arguments, each under its tag
pub record Row : Type 0 where
  pub address : List ℕ
  pub arguments : List Argument

-- a whole number in four bytes
abbrev pub int : ℕ → Argument
int n = integer (pos n)

-- the number that stands for what becomes of late units
abbrev pub late_code : Late → ℕ
late_code Deliver = 0
late_code Discard = 1

-- the version, the six limits, and what becomes of late units
abbrev pub header_row : Limits → Row
header_row limits = record {
  address = codes "/osc/rec";
  arguments = int 2 ∷ int limits.units ∷ int limits.blocks ∷ int limits.methods ∷ int limits.nodes
      ∷ int limits.callers ∷ int limits.recording ∷ int (late_code limits.late) ∷ [];
}

-- the number that an enrolling caller is answered, -1 where callers are full
abbrev pub enrolled : Answer → Option ℤ
enrolled (number n) = Some (pos n)
enrolled callers_full = Some (negsuc 0)
enrolled _ = None

-- the code and three numbers that a submitting caller is answered
abbrev pub submitted : Answer → Option (ℕ × ℕ × ℕ × ℕ)
submitted (queued first count late) = Some (0, first, count, late)
submitted (units_full room) = Some (1, room.need, room.free, 0)
submitted (pool_full room) = Some (2, room.need, room.free, 0)
submitted _ = None

-- why an address isn't added
abbrev pub refusing : Refusal → ℕ × ℕ × ℕ
refusing (taken id) = (1, id, 0)
refusing (under_method id) = (2, id, 0)
refusing is_container = (3, 0, 0)
refusing (methods_full limit) = (4, limit, 0)
refusing (nodes_full need free) = (5, need, free)

-- the code and two numbers that adding a method is answered
abbrev pub adding : Answer → Option (ℕ × ℕ × ℕ)
adding (added id) = Some (0, id, 0)
adding (refused why) = Some (refusing why)
adding _ = None

-- the code and the id that removing a method is answered
abbrev pub removing : Answer → Option (ℕ × ℕ)
removing (removed id) = Some (0, id)
removing not_there = Some (1, 0)
removing _ = None

-- the code that a moment is answered, and the clock after it
abbrev pub ticking : ℕ → Answer → Option (ℕ × ℕ)
ticking moment ticked = Some (0, moment)
ticking moment (clock_back kept) = Some (1, kept)
ticking moment _ = None

-- the unit that is released, and its hits
abbrev pub releasing : Answer → Option (ℕ × List Hit)
releasing (released unit hits) = Some (unit, hits)
releasing _ = None

-- the message's index and the method's id, a word each
abbrev pub hit_text : Hit → List ℕ
hit_text hit = word hit.index ++ word hit.id

-- the hits that stand in eight bytes each
abbrev pub hits_in : List ℕ → List Hit
hits_in (a ∷ b ∷ c ∷ d ∷ e ∷ f ∷ g ∷ h ∷ rest) =
    record {
      index = from_be_bytes w32 (a ∷ b ∷ c ∷ d ∷ []);
      id = from_be_bytes w32 (e ∷ f ∷ g ∷ h ∷ []);
    } ∷ hits_in rest
hits_in _ = []

-- the hits, one after another
abbrev pub hits_text : List Hit → List ℕ
hits_text hits = flat_map hit_text hits

abbrev pub enrol_row : ℕ → ℤ → Row
enrol_row caller answer =
    record { address = codes "/osc/enrol"; arguments = int caller ∷ integer answer ∷ [] }

abbrev pub submit_row : ℕ → List ℕ → ℕ × ℕ × ℕ × ℕ → Row
submit_row caller packet answer = record {
  address = codes "/osc/submit";
  arguments = int caller ∷ content packet ∷ int answer.0 ∷ long (pos answer.1) ∷ int answer.2
      ∷ int answer.3 ∷ [];
}

abbrev pub add_row : ℕ → List ℕ → ℕ × ℕ × ℕ → Row
add_row caller address answer = record {
  address = codes "/osc/add";
  arguments = int caller ∷ text address ∷ int answer.0 ∷ int answer.1 ∷ int answer.2 ∷ [];
}

abbrev pub remove_row : ℕ → List ℕ → ℕ × ℕ → Row
remove_row caller address answer = record {
  address = codes "/osc/remove";
  arguments = int caller ∷ text address ∷ int answer.0 ∷ int answer.1 ∷ [];
}

abbrev pub tick_row : ℕ → ℕ → ℕ × ℕ → Row
tick_row caller moment answer = record {
  address = codes "/osc/tick";
  arguments = int caller ∷ time moment ∷ int answer.0 ∷ time answer.1 ∷ [];
}

abbrev pub release_row : ℕ → ℕ → List ℕ → Row
release_row caller unit hits = record {
  address = codes "/osc/release";
  arguments = int caller ∷ long (pos unit) ∷ content hits ∷ [];
}

-- the message of an entry, where the answer is one of the event's
abbrev pub row_of : ℕ → Event → Answer → Option Row
row_of caller enrol answer = option_map (enrol_row caller) (enrolled answer)
row_of caller (submit packet) answer = option_map (submit_row caller packet) (submitted answer)
row_of caller (add address) answer = option_map (add_row caller address) (adding answer)
row_of caller (remove address) answer = option_map (remove_row caller address) (removing answer)
row_of caller (tick moment) answer = option_map (tick_row caller moment) (ticking moment answer)
row_of caller release answer =
    option_map (λ r. release_row caller r.0 (hits_text r.1)) (releasing answer)

-- the text of a message without its size
abbrev pub row_text : Row → List ℕ
row_text row = message_text (known row.address row.arguments)

-- some bytes after their size
abbrev pub sized : List ℕ → List ℕ
sized bytes = word (length bytes) ++ bytes

-- the header's bytes
abbrev pub header_text : Limits → List ℕ
header_text limits = sized (row_text (header_row limits))

-- an entry's bytes
abbrev pub entry_text : ℕ → Event → Answer → List ℕ
entry_text caller event answer =
    option_map_or (λ row. sized (row_text row)) (row_of caller event answer) []

-- the bytes of a whole recording
abbrev pub record_text : Limits → List Entry → List ℕ
record_text limits entries =
    header_text limits ++ flat_map (λ entry. entry_text entry.caller entry.event entry.answer)
    entries

-- the two numbers of a hit are words
pub record IsHit (hit : Hit) : Type 0 where
  pub index_fits : hit.index < 2 ^ 32
  pub id_fits : hit.id < 2 ^ 32

-- more is needed than is free, no more units are late than there are, and hits are words
abbrev pub IsSound : Answer → Type 0
IsSound (queued first count late) = late ≤ count
IsSound (units_full room) = room.free < room.need
IsSound (pool_full room) = room.free < room.need
IsSound (refused (nodes_full need free)) = free < need
IsSound (released unit hits) = AllByRecursion IsHit hits
IsSound _ = Unit {0}

-- the message is one of the table's, and each of its numbers is within its argument
abbrev pub FitsRow : Option Row → Type 0
FitsRow None = ⊥
FitsRow (Some row) = AllFit row.arguments

-- the answer is one of the event's, each number is within its argument, and an address has no zero
-- byte
pub record IsRecordable (caller : ℕ) (event : Event) (answer : Answer) : Type 0 where
  pub fits : FitsRow (row_of caller event answer)
  pub sound : IsSound answer

-- how many bytes an entry has
abbrev pub entry_size : Event → Answer → ℕ
entry_size enrol answer = 28
entry_size (submit packet) answer = 52 + (length packet + blob_end (length packet))
entry_size (add address) answer = 40 + length (string address)
entry_size (remove address) answer = 36 + length (string address)
entry_size (tick moment) answer = 48
entry_size release answer =
    release_head_size + 8 * length (option_map_or (λ r. r.1) (releasing answer) [])
