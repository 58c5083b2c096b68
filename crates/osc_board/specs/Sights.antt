-- What is seen of a show: what stands, and the last call of each method.
use Rattle.std.specs.Prelude.{◌≡◌, ℕ, ◌==◌, not, List, [], ◌∷◌, ◌++◌, map, filter, find, Option}
use Rattle.std.specs.Prelude.{Some, None, if◌then◌else◌}
use Rattle.std.specs.Option.{option_map_or}
use Rattle.osc_model.specs.declared.late.Late.{Late}
use Rattle.osc_model.specs.Events.{Entry, Call, Invocation}
use Rattle.osc_story.specs.Totals.{more}
use Rattle.osc_story.specs.Standings.{Standing, calls_told, disagreement}
use Rattle.osc_story.specs.Standings as story
use Rattle.osc_board.specs.declared.last.Last.{Last}
use Rattle.osc_board.specs.declared.note.Note.{Note}
use Rattle.osc_board.specs.Words.{words_of}

-- what stands, and the last calls, the newest last
pub record Sight : Type 0 where
  pub standing : Standing
  pub lasts : List Last

-- before the first entry
abbrev pub opened : Late → Sight
opened late = record { standing = story.opened late; lasts = [] }

-- what is noted of a call: the method's id, and the words of the message's arguments
abbrev pub note_of : Call → Note
note_of call = record { id = call.id; words = words_of call.message }

-- the last call of the method with an id, if it was called
abbrev pub last_of : List Last → ℕ → Option Last
last_of lasts id = find (λ last. last.id == id) lasts

-- how often it was called
abbrev pub count_of : List Last → ℕ → ℕ
count_of lasts id = option_map_or (λ last. last.count) (last_of lasts id) 0

-- the last calls of the other methods
abbrev pub others : List Last → ℕ → List Last
others lasts id = filter (λ last. not (last.id == id)) lasts

-- One call more, at a moment. A count stays at the greatest number of 64 bits.
abbrev pub noted : ℕ → Note → List Last → List Last
noted at note lasts =
    others lasts note.id
    ++ record {
      id = note.id;
      count = more (count_of lasts note.id) 1;
      at = at;
      words = note.words;
    } ∷ []

-- calls one after another
abbrev pub all_noted : ℕ → List Note → List Last → List Last
all_noted at [] lasts = lasts
all_noted at (note ∷ notes) lasts = all_noted at notes (noted at note lasts)

-- after one entry more: its calls are at the clock before it
abbrev pub seen : Sight → Entry → Sight
seen sight entry =
    record {
      standing = story.seen sight.standing entry;
      lasts = all_noted sight.standing.clock
          (map note_of (calls_told sight.standing entry.answer)) sight.lasts;
    }

-- and after entries
abbrev pub seen_all : Sight → List Entry → Sight
seen_all sight [] = sight
seen_all sight (entry ∷ entries) = seen_all (seen sight entry) entries

-- what is seen after the entries of a whole recording
abbrev pub sight_after : Late → List Entry → Sight
sight_after late entries = seen_all (opened late) entries

-- an entry agrees, and is seen
pub record Follows (old : Sight) (entry : Entry) (new : Sight) : Type 0 where
  pub agrees : disagreement old.standing entry ≡ None
  pub becomes : new ≡ seen old entry

-- no entry disagrees with what stands after those before it
abbrev pub AgreesAll : Sight → List Entry → Type 0
AgreesAll sight [] = Unit {0}
AgreesAll sight (entry ∷ entries) =
    (disagreement sight.standing entry ≡ None) × AgreesAll (seen sight entry) entries

-- the calls of the method with an id
abbrev pub calls_of : ℕ → List Invocation → List Invocation
calls_of id invocations = filter (λ one. one.call.id == id) invocations

-- the words of the last call of the method with an id, after those of an earlier one
abbrev pub last_words : ℕ → Option (List ℕ) → List Invocation → Option (List ℕ)
last_words id before [] = before
last_words id before (one ∷ invocations) =
    last_words id (if one.call.id == id then Some (words_of one.call.message) else before)
    invocations
