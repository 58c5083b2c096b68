-- Printed lines.
use Rattle.std.specs.Prelude.{ℕ, List, [], ◌∷◌, ◌++◌, codes}
use Rattle.std.specs.Fmt.{decimal}
use Rattle.osc_atoms.specs.declared.fault.Fault.{Fault}
use Rattle.osc_message.specs.Arguments.{tags_of, message_arguments}
use Rattle.osc_print.specs.Words.{spaced, argument_words, tags_word}

-- a line ends with a line feed
abbrev pub line : List ℕ → List ℕ
line words = words ++ 10 ∷ []

-- the unit's number, the message's index, the method's id and its address
abbrev pub call_head : ℕ → ℕ → ℕ → List ℕ → List ℕ
call_head unit index id address =
    codes "call" ++ spaced (decimal unit) ++ spaced (decimal index) ++ spaced (decimal id)
    ++ spaced address

-- the line of a call, with the message's tags and a word for each argument
abbrev pub call_text : ℕ → ℕ → ℕ → List ℕ → List ℕ → List ℕ
call_text unit index id address message =
    line (call_head unit index id address
    ++ (spaced (tags_word (tags_of message)) ++ argument_words (message_arguments message)))

-- what the lines of all calls with a message end with
abbrev pub call_end : List ℕ → List ℕ
call_end message =
    line (spaced (tags_word (tags_of message)) ++ argument_words (message_arguments message))

-- the line of a fault of the packet in a line of a script
abbrev pub fault_text : ℕ → Fault → List ℕ
fault_text number fault =
    line (codes "fault" ++ spaced (decimal number) ++ spaced (decimal fault.kind)
    ++ spaced (decimal fault.at))

-- a link, which counts from 0, and one of its datagrams, which count from 1
abbrev pub datagram_words : ℕ → ℕ → List ℕ
datagram_words link number =
    codes "link" ++ spaced (decimal link) ++ spaced (codes "datagram") ++ spaced (decimal number)

-- the line of a fault of a datagram
abbrev pub link_fault_text : ℕ → ℕ → Fault → List ℕ
link_fault_text link number fault =
    line (codes "fault" ++ spaced (datagram_words link number) ++ spaced (decimal fault.kind)
    ++ spaced (decimal fault.at))

-- the first line of a list of methods: after how many edits it stands
abbrev pub list_text : ℕ → List ℕ
list_text edits = line (codes "list" ++ spaced (decimal edits))

-- the line of a method in it
abbrev pub method_text : ℕ → List ℕ → List ℕ
method_text id address = line (codes "method" ++ spaced (decimal id) ++ spaced address)
