-- A recording in the making: its limits, the entries that it has, and a release that still lacks
-- hits.
use Rattle.std.specs.Prelude.{◌≡◌, ℕ, ◌+◌, ◌-◌, ◌*◌, ◌<◌, ◌≤◌, ◌^◌, ◌==◌, if◌then◌else◌, IsTrue}
use Rattle.std.specs.Prelude.{List, [], ◌∷◌, ◌++◌, length, take, drop, map, codes, Option, Some}
use Rattle.std.specs.Prelude.{None, Result, Ok, Err, is_ok}
use Rattle.std.specs.List.{AllByRecursion}
use Rattle.osc_atoms.specs.Atoms.{word, tag, string}
use Rattle.osc_message.specs.Messages.{tag_string}
use Rattle.osc_model.specs.Events.{Hit, release, released}
use Rattle.osc_model.specs.Limits.{Limits, header_size, max_recording, release_head_size}
use Rattle.osc_model.specs.Events.{Entry as Recorded}
use Rattle.osc_model.specs.Recordings.{IsHit, hits_text, hits_in, record_text}
use Rattle.osc_record.specs.declared.version.Version.TheVariants.{Second}
use Rattle.osc_record.specs.Reading.{Placed, entries_after}

-- a release that is begun: who releases which unit, the hits that it has, and how many it is owed
pub record Begun : Type 0 where
  pub caller : ℕ
  pub unit : ℕ
  pub hits : List Hit
  pub owed : ℕ

-- the limits, the whole entries, and the release that is owed hits, if there is one
pub record Recording : Type 0 where
  pub caps : Limits
  pub entries : List Recorded
  pub begun : Option Begun

-- what stands before the hits of a release that has so many of them
abbrev pub release_head : ℕ → ℕ → ℕ → List ℕ
release_head caller unit count =
    word (40 + 8 * count)
    ++ (string (codes "/osc/release")
    ++ (tag_string (codes "ihb") ++ (word caller ++ (tag unit ++ word (8 * count)))))

-- the bytes of a release that is begun
abbrev pub begun_text : Option Begun → List ℕ
begun_text None = []
begun_text (Some begun) =
    release_head begun.caller begun.unit (length begun.hits + begun.owed) ++ hits_text begun.hits

-- the bytes of a recording in the making
abbrev pub recording_text : Recording → List ℕ
recording_text recording =
    record_text recording.caps recording.entries ++ begun_text recording.begun

-- with one more entry
abbrev pub appended : Recording → Recorded → Recording
appended recording entry =
    record {
      caps = recording.caps;
      entries = recording.entries ++ entry ∷ [];
      begun = recording.begun;
    }

-- a release that is owed no hit is an entry
abbrev pub settled : Recording → Begun → Recording
settled recording begun =
    if begun.owed == 0
    then record {
      caps = recording.caps;
      entries = recording.entries
          ++ record {
            caller = begun.caller;
            event = release;
            answer = released begun.unit begun.hits;
          } ∷ [];
      begun = None;
    }
    else record { caps = recording.caps; entries = recording.entries; begun = Some begun }

-- with a release by a caller of a unit, which is owed so many hits
abbrev pub with_release : Recording → ℕ → ℕ → ℕ → Recording
with_release recording caller unit hits =
    settled recording (record { caller = caller; unit = unit; hits = []; owed = hits })

-- with one more hit of the release that is owed hits
abbrev pub with_hit : Recording → Hit → Recording
with_hit recording hit = elim recording.begun [
  | None ↦ recording
  | Some begun ↦ settled recording
      (record {
        caller = begun.caller;
        unit = begun.unit;
        hits = begun.hits ++ hit ∷ [];
        owed = begun.owed - 1;
      })
]

-- the entries that are read, without their places
abbrev pub entries_of : Result (List Placed) ℕ → List Recorded
entries_of (Ok entries) = map (λ placed. placed.entry) entries
entries_of (Err at) = []

-- the whole entries among bytes that begin with a header
abbrev pub entries_in : Limits → List ℕ → List Recorded
entries_in limits bytes = entries_of (entries_after Second limits bytes)

-- the release that is begun in bytes
abbrev pub begun_in : ℕ → ℕ → ℕ → List ℕ → Option Begun
begun_in caller unit owed bytes = if owed == 0 then None
    else Some (record {
      caller = caller;
      unit = unit;
      hits = hits_in (drop release_head_size bytes);
      owed = owed;
    })

-- what kept bytes stand for, where a release that is owed hits begins at a place
abbrev pub recording_of : Limits → List ℕ → ℕ → ℕ → ℕ → ℕ → Recording
recording_of limits bytes start caller unit owed = record {
  caps = limits;
  entries = entries_in limits (take start bytes);
  begun = begun_in caller unit owed (drop start bytes);
}

-- bytes that are a header and whole entries
pub record AreWhole (limits : Limits) (bytes : List ℕ) : Type 0 where
  pub header : header_size ≤ length bytes
  pub read : IsTrue (is_ok (entries_after Second limits bytes))
  pub spelled : bytes ≡ record_text limits (entries_in limits bytes)

-- the kept bytes: whole entries, and from a place on a release that is owed hits; there is room for
-- these
pub record IsKept (limits : Limits) (bytes : List ℕ)
    (start caller unit owed capacity : ℕ) : Type 0 where
  pub whole : AreWhole limits (take start bytes)
  pub begun : drop start bytes ≡ begun_text (begun_in caller unit owed (drop start bytes))
  pub hits : AllByRecursion IsHit (hits_in (drop release_head_size (drop start bytes)))
  pub started : start ≤ length bytes
  pub room : length bytes + 8 * owed ≤ limits.recording
  pub small : limits.recording ≤ max_recording
  pub reserved : limits.recording ≤ capacity
  pub caller_fits : caller < 2 ^ 31
  pub unit_fits : unit < 2 ^ 63
