-- The whole entries at the front of bytes.
use Rattle.std.specs.Prelude.{◌≡◌, ◌⊎◌, ℕ, ◌+◌, List, [], ◌∷◌, ◌++◌, length, drop, map, Some}
use Rattle.std.specs.Prelude.{None}
use Rattle.osc_model.specs.Limits.{Limits}
use Rattle.osc_model.specs.Events.{Entry}
use Rattle.osc_model.specs.Recordings.{header_text, entry_text, record_text}
use Rattle.osc_record.specs.Reading.{message_first}
use Rattle.osc_growing.specs.declared.growth.Growth.{Growth}
use Rattle.osc_growing.specs.declared.growth.Growth.TheVariants.{Written, Failed, NoMemory}

-- these stand at the front of bytes, each after its size and whole, and then no whole one does; and
-- they take so many bytes
abbrev pub AreWhole : List (List ℕ) → List ℕ → ℕ → Type 0
AreWhole [] bytes count = (message_first bytes ≡ None) × (count ≡ 0)
AreWhole (entry ∷ entries) bytes count =
    (message_first bytes ≡ Some entry) × (more : ℕ) × (count ≡ 4 + length entry + more)
    × AreWhole entries (drop (4 + length entry) bytes) more

-- so many of the first bytes hold whole entries, and no whole one follows
abbrev pub HoldsWhole : List ℕ → ℕ → Type 0
HoldsWhole bytes count = (entries : List (List ℕ)) × AreWhole entries bytes count

-- so many bytes of a recording end between two of its entries: they are none, or the recording of
-- the first of them
abbrev pub EndsBetween : Growth → Limits → List Entry → Type 0
EndsBetween (Written at) caps entries = (at ≡ 0)
    ⊎ ((first : List Entry) × (rest : List Entry) × (entries ≡ first ++ rest)
    × (at ≡ length (record_text caps first)))
EndsBetween Failed caps entries = Unit {0}
EndsBetween NoMemory caps entries = Unit {0}

-- Inside the crate: the texts of a recording, one after another, and where one of them ends.

abbrev pub joined : List (List ℕ) → List ℕ
joined [] = []
joined (text ∷ texts) = text ++ joined texts

abbrev pub text_in : Entry → List ℕ
text_in entry = entry_text entry.caller entry.event entry.answer

abbrev pub texts_of : Limits → List Entry → List (List ℕ)
texts_of caps entries = header_text caps ∷ map text_in entries

pub record IsEndIn (texts : List (List ℕ)) (at : ℕ) : Type 0 where
  pub front : List (List ℕ)
  pub back : List (List ℕ)
  pub parts : texts ≡ front ++ back
  pub place : at ≡ length (joined front)

abbrev pub HasEndIn : Growth → List (List ℕ) → Type 0
HasEndIn (Written at) texts = IsEndIn texts at
HasEndIn Failed texts = Unit {0}
HasEndIn NoMemory texts = Unit {0}

-- so many bytes were written in the end, unless the sink failed
abbrev pub IsWrittenTo : ℕ → Growth → Type 0
IsWrittenTo end (Written at) = at ≡ end
IsWrittenTo end Failed = Unit {0}
IsWrittenTo end NoMemory = Unit {0}
