-- Parts of a recording.
use Rattle.std.specs.Prelude.{◌≡◌, ℕ, List, ◌++◌, length, take, drop, flat_map}
use Rattle.osc_model.specs.Events.{Entry}
use Rattle.osc_model.specs.Recordings.{entry_text}

-- the bytes of entries, one after another
abbrev pub text_of : List Entry → List ℕ
text_of entries = flat_map (λ entry. entry_text entry.caller entry.event entry.answer) entries

-- as many bytes of the text, from the place on, as there are and fit
abbrev pub part : List ℕ → ℕ → List ℕ → List ℕ
part text from into = take (length into) (drop from text)

-- so many bytes of the text were written over the first ones, from the place on
pub record Writes (text : List ℕ) (from : ℕ) (old new : List ℕ) (count : ℕ) : Type 0 where
  pub bytes : new ≡ part text from old ++ drop (length (part text from old)) old
  pub counted : count ≡ length (part text from old)
