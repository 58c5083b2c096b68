-- What a line says, by its words, or the kind of its fault.
use Rattle.std.specs.Prelude.{ℕ, ◌^◌, ◌<◌, ◌==◌, Bool, true, IsTrue, if◌then◌else◌, List, [], ◌∷◌}
use Rattle.std.specs.Prelude.{length, Option, Some, None, ok_or, Result, Ok, Err, codes}
use Rattle.std.specs.List.{concat, list_any}
use Rattle.std.specs.Int.{w64, from_be_bytes}
use Rattle.std.specs.Str.{bytes_eq}
use Rattle.hex.specs.Hex.{decode_of, decode_sized}
use Rattle.hex.specs.declared.error.FromHexError.{FromHexError}
use Rattle.osc_pattern.specs.Addresses.{is_address}
use Rattle.osc_script.specs.declared.act.Act.{Act}
use Rattle.osc_script.specs.declared.act.Act.TheVariants.{Add, Remove, Send, Tick, Pump}
use Rattle.osc_script.specs.declared.fault.ScriptFaultKind.{ScriptFaultKind}
use Rattle.osc_script.specs.declared.fault.ScriptFaultKind.TheVariants as kinds

-- a step on what was read, where there is no fault yet
abbrev pub and_then : {X Y K : Type 0} → Result X K → (X → Result Y K) → Result Y K
and_then (Ok value) next = next value
and_then (Err kind) next = Err kind

-- the one operand, where there is one and no more
abbrev pub only_one : List (List ℕ) → Option (List ℕ)
only_one (operand ∷ []) = Some operand
only_one operands = None

abbrev pub only_of : List (List ℕ) → Result (List ℕ) ScriptFaultKind
only_of operands = ok_or (only_one operands) kinds.Count

-- a pump, where there is no operand
abbrev pub pump_of : List (List ℕ) → Result Act ScriptFaultKind
pump_of [] = Ok Pump
pump_of (operand ∷ operands) = Err kinds.Count

-- decoded digits, or a fault of this kind
abbrev pub decoded : ScriptFaultKind → Result (List ℕ) FromHexError
    → Result (List ℕ) ScriptFaultKind
decoded kind (Ok bytes) = Ok bytes
decoded kind (Err fault) = Err kind

-- one lawful address
abbrev pub address_of : List (List ℕ) → Result (List ℕ) ScriptFaultKind
address_of operands =
    and_then (only_of operands)
    (λ operand. if is_address operand then Ok operand else Err kinds.Address)

-- words of hexadecimal digits, joined, two digits a byte
abbrev pub packet_of : List (List ℕ) → Result (List ℕ) ScriptFaultKind
packet_of operands = decoded kinds.Hex (decode_of (concat operands))

-- one word of the digits of eight bytes, which are a number, the first byte the highest
abbrev pub moment_of : List (List ℕ) → Result ℕ ScriptFaultKind
moment_of operands =
    and_then (only_of operands)
    (λ digits. and_then (decoded kinds.Tag (decode_sized digits 8))
    (λ bytes. Ok (from_be_bytes w64 bytes)))

-- what a word and its operands say
unfoldable pub act_of : List ℕ → List (List ℕ) → Result Act ScriptFaultKind
act_of word operands =
    if bytes_eq word (codes "add") then and_then (address_of operands) (λ address. Ok (Add address))
    else (if bytes_eq word (codes "remove")
    then and_then (address_of operands) (λ address. Ok (Remove address))
    else (if bytes_eq word (codes "send")
    then and_then (packet_of operands) (λ packet. Ok (Send packet))
    else (if bytes_eq word (codes "tick")
    then and_then (moment_of operands) (λ moment. Ok (Tick moment))
    else (if bytes_eq word (codes "pump") then pump_of operands
    else Err kinds.Word))))

-- a word that begins lines
abbrev pub is_known : List ℕ → Bool
is_known word =
    list_any (bytes_eq word)
    (codes "add" ∷ codes "remove" ∷ codes "send" ∷ codes "tick" ∷ codes "pump" ∷ [])

-- how many operands a known word has: one for `add`, `remove` and `tick`, any number for `send`,
-- none for `pump`
abbrev pub has_count : List ℕ → ℕ → Bool
has_count word many =
    if bytes_eq word (codes "add") then many == 1
    else (if bytes_eq word (codes "remove") then many == 1
    else (if bytes_eq word (codes "send") then true
    else (if bytes_eq word (codes "tick") then many == 1
    else many == 0)))

-- what a word and its operands say in mode Serve, where only a line of `add` is lawful
unfoldable pub served_of : List ℕ → List (List ℕ) → Result Act ScriptFaultKind
served_of word operands =
    if bytes_eq word (codes "add") then act_of word operands
    else (if is_known word
    then (if has_count word (length operands) then Err kinds.NotHere else Err kinds.Count)
    else Err kinds.Word)

-- an act that the server can be handed: a lawful address, or a moment of 64 bits
abbrev pub IsLawfulAct : Act → Type 0
IsLawfulAct (Add address) = IsTrue (is_address address)
IsLawfulAct (Remove address) = IsTrue (is_address address)
IsLawfulAct (Send packet) = Unit {0}
IsLawfulAct (Tick moment) = moment < 2 ^ 64
IsLawfulAct Pump = Unit {0}
