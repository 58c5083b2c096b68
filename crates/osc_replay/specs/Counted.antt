-- The summary of a history: how often it has each kind of entry.
use Rattle.std.specs.Prelude.{ℕ, ◌+◌, ◌≤◌, Bool, true, false, not, ◌&&◌, cond, List, ◌++◌, length}
use Rattle.std.specs.Prelude.{fold, sum_by, count_by, codes}
use Rattle.osc_print.specs.Lines.{line}
use Rattle.osc_print.specs.Entries.{named}
use Rattle.osc_model.specs.Limits.{Limits}
use Rattle.osc_model.specs.State.{opening}
use Rattle.osc_model.specs.Events.{Event, submit, Answer, queued, is_added, is_removed, ticked}
use Rattle.osc_model.specs.Events.{released, Entry}
use Rattle.osc_model.specs.History.{invocations}
use Rattle.osc_model.specs.Recordings.{record_text}
use Rattle.osc_replay.specs.declared.counts.Counts.{Counts}

abbrev pub is_submit : Event → Bool
is_submit (submit packet) = true
is_submit _ = false

abbrev pub is_queued : Answer → Bool
is_queued (queued first count late) = true
is_queued _ = false

abbrev pub is_ticked : Answer → Bool
is_ticked ticked = true
is_ticked _ = false

abbrev pub is_released : Answer → Bool
is_released (released unit hits) = true
is_released _ = false

-- how many hits an answer has
abbrev pub hit_count : Answer → ℕ
hit_count (released unit hits) = length hits
hit_count _ = 0

-- the entries, the submits, those of them that were queued and those that weren't, and what was
-- added, removed, ticked and released; besides them so many calls
abbrev pub counts_of : ℕ → List Entry → Counts
counts_of calls entries = record {
  entries = length entries;
  submits = count_by (λ entry. is_submit entry.event) entries;
  queued = count_by (λ entry. is_submit entry.event && is_queued entry.answer) entries;
  refused = count_by (λ entry. is_submit entry.event && not (is_queued entry.answer)) entries;
  adds = count_by (λ entry. is_added entry.answer) entries;
  removes = count_by (λ entry. is_removed entry.answer) entries;
  ticks = count_by (λ entry. is_ticked entry.answer) entries;
  releases = count_by (λ entry. is_released entry.answer) entries;
  calls = calls;
}

-- a word and how many there are, on a line
abbrev pub counted : List ℕ → ℕ → List ℕ
counted word many = line (named word many)

-- the ten lines, of which the last is the size of the recording
abbrev pub submits_text : Counts → List ℕ
submits_text counts =
    counted (codes "entries") counts.entries ++ counted (codes "submits") counts.submits
    ++ counted (codes "queued") counts.queued ++ counted (codes "refused") counts.refused

abbrev pub changes_text : Counts → List ℕ
changes_text counts =
    counted (codes "adds") counts.adds ++ counted (codes "removes") counts.removes
    ++ counted (codes "ticks") counts.ticks

abbrev pub releases_text : Counts → ℕ → List ℕ
releases_text counts size =
    counted (codes "releases") counts.releases ++ counted (codes "calls") counts.calls
    ++ counted (codes "recording") size

abbrev pub counts_text : Counts → ℕ → List ℕ
counts_text counts size =
    submits_text counts ++ changes_text counts ++ releases_text counts size

-- the summary of a history of a server with these limits: its calls are its invocations
abbrev pub summary : Limits → List Entry → List ℕ
summary caps history =
    counts_text (counts_of (length (invocations (opening caps) history)) history)
    (length (record_text caps history))

-- Inside the crate: the counts one entry on.
abbrev pub one_more : Counts → Entry → Counts
one_more counts entry = record {
  entries = counts.entries + 1;
  submits = counts.submits + cond (is_submit entry.event) 1 0;
  queued = counts.queued + cond (is_submit entry.event && is_queued entry.answer) 1 0;
  refused = counts.refused + cond (is_submit entry.event && not (is_queued entry.answer)) 1 0;
  adds = counts.adds + cond (is_added entry.answer) 1 0;
  removes = counts.removes + cond (is_removed entry.answer) 1 0;
  ticks = counts.ticks + cond (is_ticked entry.answer) 1 0;
  releases = counts.releases + cond (is_released entry.answer) 1 0;
  calls = counts.calls + hit_count entry.answer;
}

-- the counts some entries on
abbrev pub more_counted : Counts → List Entry → Counts
more_counted counts entries = fold one_more counts entries

-- none are counted yet
abbrev pub no_counts : Counts
no_counts = record {
  entries = 0;
  submits = 0;
  queued = 0;
  refused = 0;
  adds = 0;
  removes = 0;
  ticks = 0;
  releases = 0;
  calls = 0;
}

-- how many entries and hits there are
abbrev pub weight : List Entry → ℕ
weight entries = length entries + sum_by (λ entry. hit_count entry.answer) entries

-- no count is above a number
pub record IsAtMost (most : ℕ) (counts : Counts) : Type 0 where
  pub entries : counts.entries ≤ most
  pub submits : counts.submits ≤ most
  pub queued : counts.queued ≤ most
  pub refused : counts.refused ≤ most
  pub adds : counts.adds ≤ most
  pub removes : counts.removes ≤ most
  pub ticks : counts.ticks ≤ most
  pub releases : counts.releases ≤ most
  pub calls : counts.calls ≤ most
