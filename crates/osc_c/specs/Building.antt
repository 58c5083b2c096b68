-- What a writing of a message answers and writes.
use Rattle.std.specs.Prelude.{◌≡◌, ◌≢◌, ℕ, ◌+◌, ◌^◌, nat_lt, nat_le, if◌then◌else◌, MatchBool, List}
use Rattle.std.specs.Prelude.{[], ◌∷◌, length, take, drop, map, Option, Some, None, option_map}
use Rattle.std.specs.Prelude.{Result, Ok, Err}
use Rattle.osc_message.specs.declared.build_fault.BuildFault.{BuildFault}
use Rattle.osc_message.specs.declared.build_fault.BuildFault.TheVariants.{Pattern, HasNull, TooLong}
use Rattle.osc_message.specs.declared.build_fault.BuildFault.TheVariants.{Brackets, NoMemory}
use Rattle.osc_message.specs.Tags.{is_word_tag, is_long_tag, is_text_tag, is_blob_tag, is_bare_tag}
use Rattle.osc_message.specs.Tags.{Balanced}
use Rattle.osc_message.specs.Messages as message
use Rattle.osc_message.specs.Messages.{content, tag_of, message_text}
use Rattle.osc_message.specs.ArgumentReading.{word_argument, long_argument, text_argument}
use Rattle.osc_message.specs.ArgumentReading.{bare_argument}
use Rattle.osc_message.specs.Building.{Building, pushed, finished, push_refusal}
use Rattle.osc_c.specs.declared.answer.Answer.{Answer}
use Rattle.osc_c.specs.declared.argument.Argument.{Argument}
use Rattle.osc_c.specs.Answers.{bare, wanting}
use Rattle.osc_c.specs.Arguments.{written_over}

-- so many bytes at a place, if there are as many
abbrev pub bytes_at : List ℕ → ℕ → ℕ → Option (List ℕ)
bytes_at bytes place size =
    if nat_le (place + size) (length bytes) then Some (take size (drop place bytes))
    else None

-- the argument that one of C is, with its bytes among these: a number under i f c r m fits 32 bits
abbrev pub argument_of : List ℕ → Argument → Option message.Argument
argument_of bytes a =
    if is_word_tag a.tag
    then (if nat_lt a.word (2 ^ 32) then Some (word_argument a.tag a.word) else None) else
    if is_long_tag a.tag then Some (long_argument a.tag a.word) else
    if is_text_tag a.tag then option_map (text_argument a.tag) (bytes_at bytes a.place a.size) else
    if is_blob_tag a.tag
    then option_map (λ blob. content blob) (bytes_at bytes a.place a.size) else
    if is_bare_tag a.tag then Some (bare_argument a.tag) else None

-- why a message isn't begun: the first fault of its pattern, of which a zero byte is one out of
-- range
abbrev pub pattern_answered : BuildFault → Answer
pattern_answered (Pattern fault) = record (bare 22) { number = fault.kind; unit = fault.at }
pattern_answered (HasNull at) = record (bare 22) { number = 10; unit = at }
pattern_answered TooLong = bare 24
pattern_answered Brackets = bare 25
pattern_answered NoMemory = bare 15

-- why an argument at a place of the list isn't pushed: a zero byte in a text, or too long a message
abbrev pub argument_answered : ℕ → BuildFault → Answer
argument_answered at (Pattern fault) = record (bare 22) { number = fault.kind; unit = fault.at }
argument_answered at (HasNull null) = record (bare 23) { number = 2; unit = at }
argument_answered at TooLong = record (bare 24) { unit = at }
argument_answered at Brackets = bare 25
argument_answered at NoMemory = bare 15

-- the message with one argument of C more, which stands at a place of the list, or why it isn't
-- pushed
abbrev pub pushed_one : List ℕ → Building → ℕ → Argument → Result Building Answer
pushed_one bytes building at a = elim (argument_of bytes a) [
  | None ↦ Err (record (bare 23) { number = 1; unit = at })
  | Some argument ↦ elim (push_refusal building argument) [
    | Some fault ↦ Err (argument_answered at fault)
    | None ↦ Ok (pushed building argument)
  ]
]

-- the message with those from a place on, or why the first that isn't pushed is not
abbrev pub pushed_from : List ℕ → Building → ℕ → List Argument → Result Building Answer
pushed_from bytes building at [] = Ok building
pushed_from bytes building at (a ∷ arguments) = elim (pushed_one bytes building at a) [
  | Err refusal ↦ Err refusal
  | Ok more ↦ pushed_from bytes more (at + 1) arguments
]

-- what is told of it: nothing, or the refusal, which is out of memory or this one
abbrev pub Pushed : Option Answer → Result Building Answer → Building → Type 0
Pushed None outcome building = outcome ≡ Ok building
Pushed (Some refusal) outcome building = refusal.status ≢ 15 → outcome ≡ Err refusal

-- what a finished message is answered and written as, where its brackets balance
abbrev pub WritesText : List ℕ → Answer → List ℕ → List ℕ → Type 0
WritesText text answer before after =
    MatchBool (nat_lt (length before) (length text))
    ((answer ≡ wanting 19 (length text) (length before)) × (after ≡ before))
    ((answer ≡ record (bare 0) { count = length text }) × (after ≡ written_over before text))

-- the same, or that they don't
abbrev pub Finishes : Building → Answer → List ℕ → List ℕ → Type 0
Finishes building answer before after =
    (Balanced (map tag_of building.arguments)
    → WritesText (message_text (finished building)) answer before after)
    × ((Balanced (map tag_of building.arguments) → ⊥) → (answer ≡ bare 25) × (after ≡ before))

-- what comes of the arguments
abbrev pub Pushes : Result Building Answer → Answer → List ℕ → List ℕ → Type 0
Pushes (Ok building) answer before after = Finishes building answer before after
Pushes (Err refusal) answer before after = (answer ≡ refusal) × (after ≡ before)

-- what comes of a pattern by its refusal, and of arguments with their bytes
abbrev pub Writes : Option BuildFault → List ℕ → List Argument → List ℕ → Answer → List ℕ → List ℕ
    → Type 0
Writes (Some fault) pattern arguments bytes answer before after =
    (answer ≡ pattern_answered fault) × (after ≡ before)
Writes None pattern arguments bytes answer before after =
    Pushes (pushed_from bytes (record { pattern = pattern; arguments = [] }) 0 arguments) answer
    before after
