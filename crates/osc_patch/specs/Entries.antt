-- What a line says, or what is wrong with it.
use Rattle.std.specs.Prelude.{◌≡◌, ℕ, ◌==◌, Bool, if◌then◌else◌, List, [], ◌∷◌, codes, bytes_eq}
use Rattle.std.specs.Prelude.{Option, Some, None, Result, Ok, Err}
use Rattle.std.specs.List.{list_any}
use Rattle.osc_pattern.specs.Addresses.{is_address}
use Rattle.osc_patch.specs.declared.fault.Fault.{Fault}
use Rattle.osc_patch.specs.declared.fault.Fault.TheVariants.{UnknownWord, WordCount, Pattern}
use Rattle.osc_patch.specs.declared.fault.Fault.TheVariants.{Address, Host, Port}
use Rattle.osc_patch.specs.declared.fault.WrongLine.{WrongLine}
use Rattle.osc_patch.specs.declared.entry.Entry.{Entry}
use Rattle.osc_patch.specs.declared.entry.LineError.{LineError}
use Rattle.osc_patch.specs.declared.entry.LineError.TheVariants.{NoMemory, Wrong}
use Rattle.osc_patch.specs.Hosts.{is_host, port_of}
use Rattle.osc_patch.specs.Words.{words_of}

-- a step on what was read, where nothing is wrong yet
abbrev pub and_then : {X Y : Type 0} → Result X WrongLine → (X → Result Y WrongLine)
    → Result Y WrongLine
and_then (Ok value) next = next value
and_then (Err wrong) next = Err wrong

abbrev pub wrong_line : ℕ → Fault → List ℕ → WrongLine
wrong_line line fault word = record { line = line; fault = fault; word = word }

-- a byte that only a pattern has
abbrev pub is_pattern : List ℕ → Bool
is_pattern word = list_any (λ byte. list_any (λ other. byte == other) (codes "*?[]{}")) word

-- the fault of a word that is no address
abbrev pub address_fault : List ℕ → Fault
address_fault word = if is_pattern word then Pattern else Address

abbrev pub address_of : ℕ → List ℕ → Result (List ℕ) WrongLine
address_of line word =
    if is_address word then Ok word else Err (wrong_line line (address_fault word) word)

abbrev pub host_of : ℕ → List ℕ → Result (List ℕ) WrongLine
host_of line word = if is_host word then Ok word else Err (wrong_line line Host word)

abbrev pub port_or : ℕ → List ℕ → Option ℕ → Result ℕ WrongLine
port_or line word None = Err (wrong_line line Port word)
port_or line word (Some port) = Ok port

abbrev pub port_at : ℕ → List ℕ → Result ℕ WrongLine
port_at line word = port_or line word (port_of word)

-- a method that is only shown
abbrev pub shown_at : ℕ → List ℕ → Result Entry WrongLine
shown_at line address =
    and_then (address_of line address)
    (λ address. Ok (record { line = line; address = address; route = None }))

-- a method whose calls are sent to a host and port
abbrev pub sent_to : ℕ → List ℕ → List ℕ → List ℕ → Result Entry WrongLine
sent_to line address host port =
    and_then (address_of line address) (λ address.
    and_then (host_of line host) (λ host.
    and_then (port_at line port) (λ port.
    Ok (record {
      line = line;
      address = address;
      route = Some (record { host = host; port = port; line = line });
    }))))

-- what the words after `add` say
abbrev pub operands_say : ℕ → List (List ℕ) → Result Entry WrongLine
operands_say line (address ∷ []) = shown_at line address
operands_say line (address ∷ host ∷ port ∷ []) = sent_to line address host port
operands_say line operands = Err (wrong_line line WordCount (codes "add"))

-- what words say; none say nothing
abbrev pub words_say : ℕ → List (List ℕ) → Result (Option Entry) WrongLine
words_say line [] = Ok None
words_say line (act ∷ operands) =
    if bytes_eq act (codes "add")
    then and_then (operands_say line operands) (λ entry. Ok (Some entry))
    else Err (wrong_line line UnknownWord act)

-- what the line of this number says
abbrev pub line_says : ℕ → List ℕ → Result (Option Entry) WrongLine
line_says line text = words_say line (words_of text)

-- the line with this fault and word, unless memory is refused
abbrev pub IsWrong : LineError → ℕ → Fault → List ℕ → Type 0
IsWrong (Wrong wrong) line fault word = wrong ≡ wrong_line line fault word
IsWrong NoMemory line fault word = Unit {0}
