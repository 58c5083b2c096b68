-- Counts of entries, and the calls of a legal history.
use Rattle.std.proofs.Common.{◌≡◌, ◌∙◌, ℕ, ◌+◌, ◌≤◌, ◌^◌, cond, List, [], ◌∷◌, length, refl, sym, ap, ap₂, subst, arith}
use Rattle.std.proofs.Common.{length-append}
use Rattle.std.proofs.lemmas.List.{length-map}
use Rattle.std.specs.Prelude.{fold, sum_by, not, ◌&&◌}
use Rattle.std.specs.List.{AllByRecursion}
use Rattle.std.proofs.lemmas.List.Sums.{count_by-le-length, sum_by-cons}
use Rattle.osc_model.specs.Limits.{Limits, header_size}
use Rattle.osc_model.specs.State.{State, opening}
use Rattle.osc_model.specs.Events.{Event, enrol, submit, add, remove, tick, release, Answer, released, Entry, is_added, is_removed}
use Rattle.osc_model.specs.Refusals.{IsRefusal}
use Rattle.osc_model.specs.Recordings.{FitsRow, row_of, entry_text, entry_size}
use Rattle.osc_model.specs.Step.{Stepped, step, decided, calls_of_unit}
use Rattle.osc_model.specs.History.{LegalFrom, invocations}
use Rattle.osc_model.proofs.Stepping.{step_so, decided_so}
use Rattle.osc_model.proofs.Sizes.{sizes_are}
use Rattle.osc_record.specs.Reading.{Placed, placed_from, unplaced}
use Rattle.osc_record.proofs.Kept.{unplaced_from}
use Rattle.osc_replay.specs.declared.counts.Counts.{Counts}
use Rattle.osc_replay.specs.Disagreeing.{IsRecordingOf}
use Rattle.osc_replay.specs.Counted.{is_submit, is_queued, is_ticked, is_released, hit_count, counts_of, counts_text, summary, one_more}
use Rattle.osc_replay.specs.Counted.{more_counted, no_counts, weight, IsAtMost}
use Rattle.osc_replay.proofs.Formed.{texts, Recordable, record_length}
use Rattle.osc_replay.proofs.Reached.{StaysWithin}
use Rattle.osc_replay.proofs.Replayed.{AllFit}

-- counts by their numbers
abbrev these : ℕ → ℕ → ℕ → ℕ → ℕ → ℕ → ℕ → ℕ → ℕ → Counts
these entries submits queued refused adds removes ticks releases calls = record {
  entries = entries;
  submits = submits;
  queued = queued;
  refused = refused;
  adds = adds;
  removes = removes;
  ticks = ticks;
  releases = releases;
  calls = calls;
}

-- what they are some entries on, of which the first number is handed in
abbrev folded : ℕ → ℕ → ℕ → ℕ → ℕ → ℕ → ℕ → ℕ → ℕ → List Entry → Counts
folded many b c d e f g h i entries =
    these many (fold (λ a x. a + cond (is_submit x.event) 1 0) b entries)
    (fold (λ a x. a + cond (is_submit x.event && is_queued x.answer) 1 0) c entries)
    (fold (λ a x. a + cond (is_submit x.event && not (is_queued x.answer)) 1 0) d entries)
    (fold (λ a x. a + cond (is_added x.answer) 1 0) e entries) (fold (λ a x. a + cond (is_removed x.answer) 1 0) f entries)
    (fold (λ a x. a + cond (is_ticked x.answer) 1 0) g entries) (fold (λ a x. a + cond (is_released x.answer) 1 0) h entries)
    (fold (λ a x. a + hit_count x.answer) i entries)

counts_are : (a b c d e f g h i : ℕ) (entries : List Entry)
    → more_counted (these a b c d e f g h i) entries ≡ folded (a + length entries) b c d e f g h i entries
counts_are a b c d e f g h i [] = ap (λ (n : ℕ). these n b c d e f g h i) (omega arith)
counts_are a b c d e f g h i (x ∷ entries) =
    counts_are (a + 1) (b + cond (is_submit x.event) 1 0) (c + cond (is_submit x.event && is_queued x.answer) 1 0)
    (d + cond (is_submit x.event && not (is_queued x.answer)) 1 0) (e + cond (is_added x.answer) 1 0) (f + cond (is_removed x.answer) 1 0)
    (g + cond (is_ticked x.answer) 1 0) (h + cond (is_released x.answer) 1 0) (i + hit_count x.answer) entries
    ∙ ap (λ (n : ℕ). folded n b c d e f g h i (x ∷ entries)) (omega arith)

abbrev hits_in_all : List Entry → ℕ
hits_in_all entries = sum_by (λ e. hit_count e.answer) entries

pub all_counted : (entries : List Entry) → more_counted no_counts entries ≡ counts_of (hits_in_all entries) entries
all_counted entries = counts_are 0 0 0 0 0 0 0 0 0 entries ∙ ap (λ (n : ℕ). folded n 0 0 0 0 0 0 0 0 entries) (omega arith)

-- no count is above the number of entries and hits
pub at_most : (entries : List Entry) (most : ℕ) → weight entries ≤ most → IsAtMost most (more_counted no_counts entries)
at_most entries most few = subst (IsAtMost most) (sym (all_counted entries)) (record {
  entries = omega arith;
  submits = omega (arith, count_by-le-length (λ (e : Entry). is_submit e.event) entries);
  queued = omega (arith, count_by-le-length (λ (e : Entry). is_submit e.event && is_queued e.answer) entries);
  refused = omega (arith, count_by-le-length (λ (e : Entry). is_submit e.event && not (is_queued e.answer)) entries);
  adds = omega (arith, count_by-le-length (λ (e : Entry). is_added e.answer) entries);
  removes = omega (arith, count_by-le-length (λ (e : Entry). is_removed e.answer) entries);
  ticks = omega (arith, count_by-le-length (λ (e : Entry). is_ticked e.answer) entries);
  releases = omega (arith, count_by-le-length (λ (e : Entry). is_released e.answer) entries);
  calls = omega arith;
})

-- counts only rise
pub rises : (counts : Counts) (entries : List Entry) (most : ℕ) → IsAtMost most (more_counted counts entries) → IsAtMost most counts
rises counts [] most is = is
rises counts (e ∷ entries) most is =
    let one = rises (one_more counts e) entries most is in
    record {
      entries = omega (arith, one.entries);
      submits = omega (arith, one.submits);
      queued = omega (arith, one.queued);
      refused = omega (arith, one.refused);
      adds = omega (arith, one.adds);
      removes = omega (arith, one.removes);
      ticks = omega (arith, one.ticks);
      releases = omega (arith, one.releases);
      calls = omega (arith, one.calls);
    }

-- an entry has more bytes than hits
small : (event : Event) (caller : ℕ) (answer : Answer) → FitsRow (row_of caller event answer) → hit_count answer + 1 ≤ entry_size event answer
small enrol caller (released unit hits) fits = absurd fits
small enrol caller _ fits = omega arith
small (submit packet) caller (released unit hits) fits = absurd fits
small (submit packet) caller _ fits = omega arith
small (add address) caller (released unit hits) fits = absurd fits
small (add address) caller _ fits = omega arith
small (remove address) caller (released unit hits) fits = absurd fits
small (remove address) caller _ fits = omega arith
small (tick moment) caller (released unit hits) fits = absurd fits
small (tick moment) caller _ fits = omega arith
small release caller (released unit hits) fits = omega arith
small release caller _ fits = omega arith

light : (entries : List Entry) → AllByRecursion Recordable entries → weight entries ≤ length (texts entries)
light [] all = omega arith
light (e ∷ entries) all =
    let own : List ℕ = entry_text e.caller e.event e.answer in
    omega (
      arith,
      sum_by-cons (λ (e : Entry). hit_count e.answer) e entries,
      small e.event e.caller e.answer all.0.fits,
      sizes_are e.caller e.event e.answer all.0.fits,
      length-append own (texts entries),
      light entries all.1,
    )

-- a step has as many hits as invocations
abbrev AsMany : Stepped → Type 0
AsMany stepped = length stepped.invocations ≡ hit_count stepped.answer

refusal_none : (answer : Answer) → IsRefusal answer → 0 ≡ hit_count answer
refusal_none (released unit hits) is = absurd is
refusal_none _ is = refl

decided_many : (state : State) (event : Event) → AsMany (decided state event)
decided_many state event = decided_so (λ event stepped. AsMany stepped) state event (record {
  refused = λ event answer is. refusal_none answer is;
  enrolled = refl;
  queued = λ packet. refl;
  added = λ address. refl;
  removed = λ address id. refl;
  ticked = λ now le. refl;
  released = λ unit units is.
      (let calls = calls_of_unit state.methods unit in
      length-map calls _ ∙ sym (length-map calls _));
})

step_many : (state : State) (event : Event) → AsMany (step state event)
step_many state event = step_so AsMany state event (record {
  silent = λ none. decided_many state event;
  full = λ adds few. refl;
  room = λ adds fits. decided_many state event;
})

all_many : (state : State) (history : List Entry) → LegalFrom state history → length (invocations state history) ≡ hits_in_all history
all_many state [] legal = refl
all_many state (entry ∷ history) legal =
    let here = step_many state entry.event in
    let answer = ap hit_count legal.3 in
    omega (
      arith,
      length-append (step state entry.event).invocations (invocations (step state entry.event).state history),
      here,
      answer,
      all_many (step state entry.event).state history legal.4,
      sum_by-cons (λ (e : Entry). hit_count e.answer) entry history,
    )

-- a recording is short, and its entries and hits are few
pub is_short : StaysWithin → (bytes : List ℕ) (caps : Limits) (history : List Entry) → IsRecordingOf bytes caps history → length bytes ≤ 1073741824
is_short within bytes caps history is =
    omega (arith, ap length is.text, within caps history is.legal, is.legal.0.recording.below)

pub is_light : AllFit → StaysWithin → (bytes : List ℕ) (placed : List Placed) (caps : Limits) (history : List Entry) → IsRecordingOf bytes caps history
    → placed ≡ placed_from header_size history → weight (unplaced placed) ≤ 2 ^ 62
is_light fit within bytes placed caps history is same =
    let own = ap weight (ap unplaced same ∙ unplaced_from header_size history) in
    omega (arith, own, light history (fit caps history is.legal), record_length caps history, ap length is.text, is_short within bytes caps history is)

pub summed : (bytes text : List ℕ) (placed : List Placed) (caps : Limits) (history : List Entry) → IsRecordingOf bytes caps history
    → placed ≡ placed_from header_size history → text ≡ counts_text (more_counted no_counts (unplaced placed)) (length bytes) → text ≡ summary caps history
summed bytes text placed caps history is same text_is =
    text_is ∙ ap (λ (l : List Entry). counts_text (more_counted no_counts l) (length bytes)) (ap unplaced same ∙ unplaced_from header_size history)
    ∙ ap₂ counts_text (all_counted history ∙ ap (λ (n : ℕ). counts_of n history) (sym (all_many (opening caps) history is.legal.1))) (ap length is.text)
