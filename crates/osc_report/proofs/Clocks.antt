-- Where the clock stands after entries, and which moment they have.
use Rattle.std.proofs.Common.{◌≡◌, ℕ, Bool, true, false, List, [], ◌∷◌, ◌++◌, refl, ap, ◌∙◌}
use Rattle.std.specs.Prelude.{if◌then◌else◌}
use Rattle.osc_packet.specs.Units.{TimedUnit}
use Rattle.osc_packet.specs.Reading.{units_read}
use Rattle.osc_model.specs.Events.{Event, enrol, submit, add, remove, tick, release, Answer, Entry, record_full, number, callers_full, queued, units_full}
use Rattle.osc_model.specs.Events.{pool_full, added, refused, removed, not_there, ticked, clock_back, released, nothing_due}
use Rattle.osc_story.specs.Standings.{Standing, submitted, with_method, without_method, at_moment, without_first, seen_by, seen}
use Rattle.osc_report.specs.Moments.{ends_stretch, moment_of}
use Rattle.osc_report.specs.Stretches.{GoesOn, clock_at, clock_after}

-- no answer but that of a tick moves the clock
record KeepsClock (answer : Answer) : Type 0 where
  submits : (standing : Standing) (caller : ℕ) (units : List TimedUnit) → (submitted standing caller units answer).clock ≡ standing.clock
  adds : (standing : Standing) (address : List ℕ) → (with_method standing address answer).clock ≡ standing.clock
  removes : (standing : Standing) (address : List ℕ) → (without_method standing address answer).clock ≡ standing.clock
  ticks : (standing : Standing) (now : ℕ) → (at_moment standing now answer).clock ≡ clock_at standing.clock (tick now) answer
  releases : (standing : Standing) → (without_first standing answer).clock ≡ standing.clock

keeps : (answer : Answer) → KeepsClock answer
keeps (number n) =
    record { submits = λ s c u. refl; adds = λ s a. refl; removes = λ s a. refl; ticks = λ s n. refl; releases = λ s. refl }
keeps callers_full =
    record { submits = λ s c u. refl; adds = λ s a. refl; removes = λ s a. refl; ticks = λ s n. refl; releases = λ s. refl }
keeps (queued first count late) =
    record { submits = λ s c u. refl; adds = λ s a. refl; removes = λ s a. refl; ticks = λ s n. refl; releases = λ s. refl }
keeps (units_full room) =
    record { submits = λ s c u. refl; adds = λ s a. refl; removes = λ s a. refl; ticks = λ s n. refl; releases = λ s. refl }
keeps (pool_full room) =
    record { submits = λ s c u. refl; adds = λ s a. refl; removes = λ s a. refl; ticks = λ s n. refl; releases = λ s. refl }
keeps (added id) =
    record { submits = λ s c u. refl; adds = λ s a. refl; removes = λ s a. refl; ticks = λ s n. refl; releases = λ s. refl }
keeps (refused why) =
    record { submits = λ s c u. refl; adds = λ s a. refl; removes = λ s a. refl; ticks = λ s n. refl; releases = λ s. refl }
keeps (removed id) =
    record { submits = λ s c u. refl; adds = λ s a. refl; removes = λ s a. refl; ticks = λ s n. refl; releases = λ s. refl }
keeps not_there =
    record { submits = λ s c u. refl; adds = λ s a. refl; removes = λ s a. refl; ticks = λ s n. refl; releases = λ s. refl }
keeps ticked =
    record { submits = λ s c u. refl; adds = λ s a. refl; removes = λ s a. refl; ticks = λ s n. refl; releases = λ s. refl }
keeps (clock_back kept) =
    record { submits = λ s c u. refl; adds = λ s a. refl; removes = λ s a. refl; ticks = λ s n. refl; releases = λ s. refl }
keeps (released unit hits) =
    record { submits = λ s c u. refl; adds = λ s a. refl; removes = λ s a. refl; ticks = λ s n. refl; releases = λ s. refl }
keeps (nothing_due next) =
    record { submits = λ s c u. refl; adds = λ s a. refl; removes = λ s a. refl; ticks = λ s n. refl; releases = λ s. refl }
keeps (record_full room) =
    record { submits = λ s c u. refl; adds = λ s a. refl; removes = λ s a. refl; ticks = λ s n. refl; releases = λ s. refl }

-- the clock after an event
clock_seen_by : (standing : Standing) (caller : ℕ) (event : Event) (answer : Answer)
    → (seen_by standing caller event answer).clock ≡ clock_at standing.clock event answer
clock_seen_by standing caller enrol answer = refl
clock_seen_by standing caller (submit packet) answer = (keeps answer).submits standing caller (units_read packet)
clock_seen_by standing caller (add address) answer = (keeps answer).adds standing address
clock_seen_by standing caller (remove address) answer = (keeps answer).removes standing address
clock_seen_by standing caller (tick now) answer = (keeps answer).ticks standing now
clock_seen_by standing caller release answer = (keeps answer).releases standing

pub clock_seen : (standing : Standing) (entry : Entry) → (seen standing entry).clock ≡ clock_at standing.clock entry.event entry.answer
clock_seen standing entry = clock_seen_by standing entry.caller entry.event entry.answer

-- one entry more
pub clock_on : (clock : ℕ) (entries : List Entry) (entry : Entry)
    → clock_after clock (entries ++ entry ∷ []) ≡ clock_at (clock_after clock entries) entry.event entry.answer
clock_on clock [] entry = refl
clock_on clock (first ∷ entries) entry = clock_on (clock_at clock first.event first.answer) entries entry

-- the moment of an entry that ends no stretch is that of those after it
pub moment_on : (standing : Standing) (entry : Entry) (entries : List Entry) → ends_stretch entry.event ≡ false
    → moment_of standing (entry ∷ entries) ≡ moment_of (seen standing entry) entries
moment_on standing entry entries on =
    ap (λ (b : Bool). if b then (seen standing entry).clock else moment_of (seen standing entry) entries) on

-- and that of one that does is the clock after it
pub moment_end : (standing : Standing) (entry : Entry) (entries : List Entry) → ends_stretch entry.event ≡ true
    → moment_of standing (entry ∷ entries) ≡ (seen standing entry).clock
moment_end standing entry entries ends =
    ap (λ (b : Bool). if b then (seen standing entry).clock else moment_of (seen standing entry) entries) ends

-- entries none of which ends a stretch have the clock after all of them
pub moment_all : (standing : Standing) (entries : List Entry) → GoesOn entries → moment_of standing entries ≡ clock_after standing.clock entries
moment_all standing [] on = refl
moment_all standing (entry ∷ entries) on =
    moment_on standing entry entries on.0 ∙ moment_all (seen standing entry) entries on.1
    ∙ ap (λ (n : ℕ). clock_after n entries) (clock_seen standing entry)

-- so have those of a stretch
pub moment_stretch : (standing : Standing) (front : List Entry) (last : Entry) → GoesOn front → ends_stretch last.event ≡ true
    → moment_of standing (front ++ last ∷ []) ≡ clock_after standing.clock (front ++ last ∷ [])
moment_stretch standing [] last on ends = moment_end standing last [] ends ∙ clock_seen standing last
moment_stretch standing (entry ∷ front) last on ends =
    moment_on standing entry (front ++ last ∷ []) on.0 ∙ moment_stretch (seen standing entry) front last on.1 ends
    ∙ ap (λ (n : ℕ). clock_after n (front ++ last ∷ [])) (clock_seen standing entry)
