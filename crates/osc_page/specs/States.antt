-- The state of a show as JSON.
use Rattle.std.specs.Prelude.{ℕ, ◌+◌, ◌*◌, ◌/◌, ◌%◌, List, [], ◌∷◌, codes, decimal}
use Rattle.std.specs.Prelude.{if◌then◌else◌}
use Rattle.std.specs.Str.{is_utf8}
use Rattle.json.specs.Json.{Json, number, string, array, object, Items, no_items, item, Members}
use Rattle.json.specs.Json.{no_members, member}
use Rattle.osc_page.specs.declared.board.Row.{Row}
use Rattle.osc_page.specs.declared.board.Wait.{Wait}
use Rattle.osc_page.specs.declared.board.Counts.{Counts}
use Rattle.osc_page.specs.Boards.{Shown}

-- an object with these members
abbrev pub fields : List (List ℕ × Json) → Members
fields [] = no_members
fields (f ∷ fs) = member f.0 f.1 (fields fs)

-- an array of what each of the list is
abbrev pub items_of : {A : Type 0} → (A → Json) → List A → Items
items_of f [] = no_items
items_of f (x ∷ xs) = item (f x) (items_of f xs)

-- a number in decimal digits
abbrev pub counted : ℕ → Json
counted n = number (decimal n)

-- the whole milliseconds since 1900 of a time tag
abbrev pub millis : ℕ → ℕ
millis tag = tag / 4294967296 * 1000 + tag % 4294967296 * 1000 / 4294967296

abbrev pub moment : ℕ → Json
moment tag = counted (millis tag)

-- bytes as they are shown: a text as it is, anything else as a question mark
abbrev pub told : List ℕ → List ℕ
told bytes = if is_utf8 bytes then bytes else codes "?"

abbrev pub said : List ℕ → Json
said bytes = string (told bytes)

-- how much was told
unfoldable pub counts_json : Counts → Json
counts_json c = object (fields ((codes "entries", counted c.entries)
    ∷ (codes "messages", counted c.messages) ∷ (codes "calls", counted c.calls)
    ∷ (codes "unheard", counted c.unheard) ∷ (codes "discarded", counted c.discarded)
    ∷ (codes "refused", counted c.refused) ∷ (codes "waiting", counted c.waiting) ∷ []))

-- a method
unfoldable pub row_json : Row → Json
row_json r = object (fields ((codes "id", counted r.id) ∷ (codes "address", said r.address)
    ∷ (codes "calls", counted r.calls) ∷ (codes "at", moment r.at)
    ∷ (codes "words", said r.words) ∷ []))

-- a unit that waits
unfoldable pub wait_json : Wait → Json
wait_json w = object (fields ((codes "unit", counted w.unit) ∷ (codes "due", moment w.due)
    ∷ (codes "messages", counted w.messages) ∷ (codes "first", said w.first) ∷ []))

-- the whole state
unfoldable pub board_json : Shown → Json
board_json b = object (fields ((codes "clock", moment b.clock)
    ∷ (codes "counts", counts_json b.counts)
    ∷ (codes "methods", array (items_of row_json b.methods))
    ∷ (codes "waits", array (items_of wait_json b.waits)) ∷ []))
