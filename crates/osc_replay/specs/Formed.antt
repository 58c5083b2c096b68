-- Recordings whose packets and addresses are lawful, and the first place where bytes aren't one.
use Rattle.std.specs.Prelude.{◌≡◌, ◌⊎◌, ℕ, ◌+◌, ◌<◌, ◌≤◌, List, ◌++◌, length}
use Rattle.std.specs.List.{AllByRecursion}
use Rattle.osc_model.specs.Limits.{Limits}
use Rattle.osc_model.specs.Events.{Entry}
use Rattle.osc_model.specs.Recordings.{IsRecordable, entry_text, record_text}
use Rattle.osc_model.specs.History.{IsLawful}
use Rattle.osc_record.specs.Reading.{IsRecord, HasNoHeader}
use Rattle.osc_record.specs.Unread.{Remaining}

-- limits and entries of a recording, each packet valid and each address lawful
pub record IsFormed (limits : Limits) (entries : List Entry) : Type 0 where
  pub record_ : IsRecord limits entries
  pub lawful : AllByRecursion (λ entry. IsLawful entry.event) entries

-- Up to a place the bytes are such a recording, and the bytes that follow there don't begin with an
-- entry that can be recorded within the limit and whose packet or address is lawful.
pub record HasUnformed (bytes : List ℕ) (at : ℕ) : Type 0 where
  pub limits : Limits
  pub entries : List Entry
  pub rest : List ℕ
  pub formed : IsFormed limits entries
  pub text : bytes ≡ record_text limits entries ++ rest
  pub place : at ≡ length (record_text limits entries)
  pub some : 0 < length rest
  pub none : (entry : Entry) (more : List ℕ) → IsRecordable entry.caller entry.event entry.answer
      → IsLawful entry.event →
      at + length (entry_text entry.caller entry.event entry.answer) ≤ limits.recording
      → rest ≡ entry_text entry.caller entry.event entry.answer ++ more → ⊥

-- the place of the header, or of the first entry, that is malformed
abbrev pub IsUnformedAt : List ℕ → ℕ → Type 0
IsUnformedAt bytes at = HasNoHeader bytes at ⊎ HasUnformed bytes at

-- some bytes are left, and they don't begin with an entry that can be recorded within the limit and
-- whose packet or address is lawful
pub record HasNoLawful (left : Remaining) (at : ℕ) : Type 0 where
  pub at_is : at ≡ left.at
  pub some : 0 < length left.rest
  pub none : (entry : Entry) (more : List ℕ) → IsRecordable entry.caller entry.event entry.answer
      → IsLawful entry.event →
      at + length (entry_text entry.caller entry.event entry.answer) ≤ left.caps.recording
      → left.rest ≡ entry_text entry.caller entry.event entry.answer ++ more → ⊥

-- the bytes are such a recording of these limits and entries up to what isn't read yet
pub record IsFormedTo (bytes : List ℕ) (caps : Limits) (before : List Entry)
    (left : Remaining) : Type 0 where
  pub caps_are : left.caps ≡ caps
  pub formed : IsFormed caps before
  pub text : bytes ≡ record_text caps before ++ left.rest
  pub place : left.at ≡ length (record_text caps before)

-- so is what is left, so that the bytes are a whole recording
abbrev pub EndsFormed : Remaining → Type 0
EndsFormed left = (bytes : List ℕ) (caps : Limits) (before : List Entry)
    → IsFormedTo bytes caps before left →
    (later : List Entry) × IsFormed caps (before ++ later)
    × (bytes ≡ record_text caps (before ++ later))

-- what is left is so up to a place
abbrev pub IsStuckAt : Remaining → ℕ → Type 0
IsStuckAt left at = (bytes : List ℕ) (caps : Limits) (before : List Entry)
    → IsFormedTo bytes caps before left → HasUnformed bytes at
