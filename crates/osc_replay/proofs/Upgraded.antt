-- An old recording, upgraded: its entries can be recorded today, its size, and what its history comes to.
use Rattle.std.proofs.Common.{◌≡◌, ℕ, ◌+◌, ◌*◌, ◌<◌, ◌≤◌, min, Bool, true, false, cond, nat_lt, List, [], ◌∷◌, ◌++◌, length}
use Rattle.std.proofs.Common.{refl, sym, ap, subst, ◌∙◌, arith, length-append, append-nil}
use Rattle.std.proofs.lemmas.Bool.{ltb-true, cond-true, cond-false}
use Rattle.std.specs.Prelude.{if◌then◌else◌}
use Rattle.std.specs.List.{AllByRecursion}
use Rattle.std.proofs.Math.Nat.{min-le_left, le-min}
use Rattle.std.proofs.lemmas.Grind.{flat_map-append}
use Rattle.osc_message.specs.Messages.{Argument, AllFit}
use Rattle.osc_model.specs.Limits.{Limits, AreInRange, header_size}
use Rattle.osc_model.specs.State.{State, opening}
use Rattle.osc_model.specs.Events.{Event, enrol, submit, add, remove, tick, release, Answer, Entry, number, callers_full, queued, units_full, pool_full, added}
use Rattle.osc_model.specs.Events.{refused, removed, not_there, ticked, clock_back, released, nothing_due, record_full, adds_entry}
use Rattle.osc_model.specs.Recordings.{int, submit_row, IsRecordable, entry_size, record_text}
use Rattle.osc_model.specs.Step.{step}
use Rattle.osc_model.specs.History.{IsLawful, AddsEntry, Legal, after}
use Rattle.osc_model.proofs.Onward.{adds_is}
use Rattle.osc_model.proofs.Sizes.{sizes_are}
use Rattle.osc_record.specs.declared.version.Version.TheVariants.{First}
use Rattle.osc_record.specs.Versions.{header_text_in, old_submit_row, IsOldRecordable, AreInOldRange}
use Rattle.osc_record.specs.Reading.{Placed, unplaced}
use Rattle.osc_record.proofs.Apart.{one_text}
use Rattle.osc_record.proofs.Kept.{entry_some}
use Rattle.osc_record.proofs.Written.{header_length, some_in}
use Rattle.osc_replay.specs.Counted.{is_submit}
use Rattle.osc_replay.specs.Disagreeing.{computed_text, DisagreesAt}
use Rattle.osc_replay.specs.Formed.{IsFormed}
use Rattle.osc_replay.specs.Old.{IsOldFormed, IsOldRecordingOf, old_text, old_entry_size, OldGives, OldLegal, old_opening, old_after}
use Rattle.osc_replay.specs.Playing.{IsReached}
use Rattle.osc_replay.specs.Upgrading.{submits_in, growth, upgraded, upgraded_text, PrintsTheSame, DisagreesThere}
use Rattle.osc_replay.proofs.Formed.{all_behind, all_front, record_length}
use Rattle.osc_replay.proofs.Older.{roomy, FitsBoth, text_of, old_text_of, texts, old_texts, old_sizes_are, GoesOver, goes_over, gives_back}
use Rattle.osc_replay.proofs.Reached.{NextFits, recordable}

all_fit_more : (arguments : List Argument) → AllFit arguments → AllFit (arguments ++ int 0 ∷ [])
all_fit_more [] fit = (record { sfits = omega arith }, tt)
all_fit_more (first ∷ arguments) fit = (fit.0, all_fit_more arguments fit.1)

fit_today : (caller : ℕ) (packet : List ℕ) (told : ℕ × ℕ × ℕ × ℕ) → told.3 ≡ 0 → AllFit (old_submit_row caller packet told).arguments
    → AllFit (submit_row caller packet told).arguments
fit_today caller packet told none fit =
    subst (λ (n : ℕ). AllFit ((old_submit_row caller packet told).arguments ++ int n ∷ [])) (sym none)
    (all_fit_more (old_submit_row caller packet told).arguments fit)

-- an entry of the first version can be recorded today
pub recorded_today : (caller : ℕ) (event : Event) (answer : Answer) → IsOldRecordable caller event answer → IsRecordable caller event answer
recorded_today caller enrol answer is = record { fits = is.fits; sound = is.sound }
recorded_today caller (add address) answer is = record { fits = is.fits; sound = is.sound }
recorded_today caller (remove address) answer is = record { fits = is.fits; sound = is.sound }
recorded_today caller (tick now) answer is = record { fits = is.fits; sound = is.sound }
recorded_today caller release answer is = record { fits = is.fits; sound = is.sound }
recorded_today caller (submit packet) (queued first count late) is =
    record { fits = fit_today caller packet (0, first, count, late) is.drops is.fits; sound = is.sound }
recorded_today caller (submit packet) (units_full room) is =
    record { fits = fit_today caller packet (1, room.need, room.free, 0) refl is.fits; sound = is.sound }
recorded_today caller (submit packet) (pool_full room) is =
    record { fits = fit_today caller packet (2, room.need, room.free, 0) refl is.fits; sound = is.sound }
recorded_today caller (submit packet) (number n) is = absurd is.fits
recorded_today caller (submit packet) callers_full is = absurd is.fits
recorded_today caller (submit packet) (added id) is = absurd is.fits
recorded_today caller (submit packet) (refused why) is = absurd is.fits
recorded_today caller (submit packet) (removed id) is = absurd is.fits
recorded_today caller (submit packet) not_there is = absurd is.fits
recorded_today caller (submit packet) ticked is = absurd is.fits
recorded_today caller (submit packet) (clock_back kept) is = absurd is.fits
recorded_today caller (submit packet) (released unit hits) is = absurd is.fits
recorded_today caller (submit packet) (nothing_due next) is = absurd is.fits
recorded_today caller (submit packet) (record_full room) is = absurd is.fits

abbrev pub OldRecordable : Entry → Type 0
OldRecordable entry = IsOldRecordable entry.caller entry.event entry.answer

abbrev pub Recordable : Entry → Type 0
Recordable entry = IsRecordable entry.caller entry.event entry.answer

pub all_today : (entries : List Entry) → AllByRecursion OldRecordable entries → AllByRecursion Recordable entries
all_today [] all = tt
all_today (entry ∷ entries) all = (recorded_today entry.caller entry.event entry.answer all.0, all_today entries all.1)

pub all_both : (entries : List Entry) → AllByRecursion OldRecordable entries → AllByRecursion FitsBoth entries
all_both [] all = tt
all_both (entry ∷ entries) all =
    (record { old = all.0.fits; new = (recorded_today entry.caller entry.event entry.answer all.0).fits }, all_both entries all.1)

-- A submit has four bytes more.

sizes_differ : (event : Event) (answer : Answer) → entry_size event answer ≡ old_entry_size event answer + 4 * (if is_submit event then 1 else 0)
sizes_differ enrol answer = refl
sizes_differ (submit packet) answer = omega arith
sizes_differ (add address) answer = omega arith
sizes_differ (remove address) answer = omega arith
sizes_differ (tick now) answer = refl
sizes_differ release answer = omega arith

pub texts_grow : (entries : List Entry) → AllByRecursion FitsBoth entries → length (texts entries) ≡ length (old_texts entries) + 4 * submits_in entries
texts_grow [] all = refl
texts_grow (entry ∷ entries) all =
    let old : length (old_text_of entry) ≡ old_entry_size entry.event entry.answer = old_sizes_are entry.caller entry.event entry.answer all.0.old in
    let new : length (text_of entry) ≡ entry_size entry.event entry.answer = sizes_are entry.caller entry.event entry.answer all.0.new in
    omega (
      arith,
      length-append (text_of entry) (texts entries),
      length-append (old_text_of entry) (old_texts entries),
      sizes_differ entry.event entry.answer,
      texts_grow entries all.1,
    )

pub old_length : (caps : Limits) (entries : List Entry) → length (old_text caps entries) ≡ 56 + length (old_texts entries)
old_length caps entries = omega (arith, header_length First caps, length-append (header_text_in First caps) (old_texts entries))

-- so the upgraded recording has so many bytes
pub grown : (limit : ℕ) (caps : Limits) (entries : List Entry) → IsOldFormed caps entries
    → length (upgraded_text limit caps entries) ≡ length (old_text caps entries) + growth entries
grown limit caps entries is =
    omega (arith, record_length (upgraded limit caps entries) entries, old_length caps entries, texts_grow entries (all_both entries is.record_.all))

pub in_range : (limit : ℕ) (caps : Limits) (entries : List Entry) → AreInOldRange caps → header_size ≤ limit → limit ≤ 1073741824
    → AreInRange (upgraded limit caps entries)
in_range limit caps entries range least most =
    let above = range.recording.above in
    record {
      units = range.others.units;
      blocks = range.others.blocks;
      methods = range.others.methods;
      nodes = range.others.nodes;
      callers = range.others.callers;
      recording = record {
        above = le-min least (omega arith);
        below = omega (arith, min-le_left limit (caps.recording + growth entries), most);
      };
    }

pub formed_today : (limit : ℕ) (caps : Limits) (entries : List Entry) → IsOldFormed caps entries → header_size ≤ limit → limit ≤ 1073741824
    → length (upgraded_text limit caps entries) ≤ limit → IsFormed (upgraded limit caps entries) entries
formed_today limit caps entries is least most within =
    let fits = is.record_.fits in
    record {
      record_ = record {
        lawful = in_range limit caps entries is.record_.lawful least most;
        all = all_today entries is.record_.all;
        fits = le-min within (omega (arith, grown limit caps entries is, fits));
      };
      lawful = is.lawful;
    }

-- What the history comes to.

-- a legal front of the history goes over
pub front_over : (limit : ℕ) (caps : Limits) (before later : List Entry) → IsOldFormed caps (before ++ later) → OldLegal caps before
    → length (upgraded_text limit caps (before ++ later)) ≤ (upgraded limit caps (before ++ later)).recording
    → GoesOver (upgraded limit caps (before ++ later)).recording header_size (old_opening caps) before
front_over limit caps before later is legal within =
    let entries = before ++ later in
    let fits = is.record_.fits in
    let split = ap length (flat_map-append text_of before later) ∙ length-append (texts before) (texts later) in
    let old_split = ap length (flat_map-append old_text_of before later) ∙ length-append (old_texts before) (old_texts later) in
    goes_over before (upgraded limit caps entries).recording header_size (old_opening caps) legal.1
    (all_front FitsBoth before later (all_both entries is.record_.all))
    (omega (arith, fits, old_length caps entries, old_split))
    (omega (arith, within, record_length (upgraded limit caps entries) entries, split))

-- the upgraded bytes record a legal history, which prints the same lines
pub prints_the_same : (limit : ℕ) (caps : Limits) (history : List Entry) (bytes : List ℕ) → IsOldFormed caps history → OldLegal caps history
    → IsFormed (upgraded limit caps history) history → bytes ≡ upgraded_text limit caps history → PrintsTheSame bytes limit caps history
prints_the_same limit caps history bytes is legal formed text =
    let all : history ++ [] ≡ history = append-nil history in
    let over = subst (λ (h : List Entry). IsOldFormed caps h → length (upgraded_text limit caps h) ≤ (upgraded limit caps h).recording
    → GoesOver (upgraded limit caps h).recording header_size (old_opening caps) history) all
    (λ is within. front_over limit caps history [] is legal within) is formed.record_.fits in
    record {
      recording = record { legal = (formed.record_.lawful, over.legal); text = text };
      lines = over.lines;
    }

-- the upgraded bytes disagree at the first entry that wasn't given
disagrees_there : NextFits → (limit : ℕ) (caps : Limits) (before : List Entry) (entry : Entry) (later : List Entry) (bytes : List ℕ)
    → IsOldFormed caps (before ++ entry ∷ later) → OldLegal caps before → (OldGives (old_after (old_opening caps) before) entry → ⊥)
    → IsFormed (upgraded limit caps (before ++ entry ∷ later)) (before ++ entry ∷ later) → bytes ≡ upgraded_text limit caps (before ++ entry ∷ later)
    → DisagreesAt bytes (length before) (text_of entry)
    (computed_text (after (opening (upgraded limit caps (before ++ entry ∷ later))) before) entry.caller entry.event)
disagrees_there next limit caps before entry later bytes is legal never formed text =
    let new = upgraded limit caps (before ++ entry ∷ later) in
    let over = front_over limit caps before (entry ∷ later) is legal formed.record_.fits in
    let today : Legal new before = (formed.record_.lawful, over.legal) in
    let state = after (opening new) before in
    let reached : IsReached state = record { performance = record { caps = new; history = before }; legal = today; is = refl } in
    let old = (all_behind OldRecordable before (entry ∷ later) is.record_.all).0 in
    let kept = recorded_today entry.caller entry.event entry.answer old in
    let lawful = (all_behind (λ (e : Entry). IsLawful e.event) before (entry ∷ later) is.lawful).0 in
    let old_split = ap length (flat_map-append old_text_of before (entry ∷ later)) ∙ length-append (old_texts before) (old_texts (entry ∷ later)) in
    let room : (old_after (old_opening caps) before).recorded + length (old_text_of entry) ≤ (old_after (old_opening caps) before).caps.recording =
    omega (
      arith,
      is.record_.fits,
      old_length caps (before ++ entry ∷ later),
      old_split,
      length-append (old_text_of entry) (old_texts later),
      over.old_recorded,
      ap (λ (l : Limits). l.recording) over.old_caps,
    ) in
    record {
      caps = new;
      before = before;
      entry = entry;
      later = later;
      formed = formed;
      text = text;
      legal = today;
      place_is = refl;
      kept_is = refl;
      computed_is = refl;
      differ = λ same. differs new state over.state_is reached old kept lawful room same
          (nat_lt entry.caller state.callers) refl (adds_entry (step state entry.event).answer) refl;
    }
  where
    differs : (new : Limits) (state : State)
        → state ≡ roomy new.recording (header_size + length (texts before)) (old_after (old_opening caps) before) → IsReached state
        → OldRecordable entry → Recordable entry → IsLawful entry.event
        → (old_after (old_opening caps) before).recorded + length (old_text_of entry) ≤ (old_after (old_opening caps) before).caps.recording
        → text_of entry ≡ computed_text state entry.caller entry.event → (t : Bool) → nat_lt entry.caller state.callers ≡ t
        → (u : Bool) → adds_entry (step state entry.event).answer ≡ u → ⊥
    differs new state state_is reached old kept lawful room same false t u v =
        let none : text_of entry ≡ [] = same ∙ cond-false _ _ _ t in
        omega (arith, entry_some entry.caller entry.event entry.answer kept.fits, ap length none)
    differs new state state_is reached old kept lawful room same true t false v =
        let none : text_of entry ≡ [] = same ∙ cond-true _ _ _ t ∙ cond-false _ _ _ v in
        omega (arith, entry_some entry.caller entry.event entry.answer kept.fits, ap length none)
    differs new state state_is reached old kept lawful room same true t true v =
        let given = (step state entry.event).answer in
        let enrolled : entry.caller < state.callers = ltb-true entry.caller state.callers t in
        let other : Entry = record { caller = entry.caller; event = entry.event; answer = given } in
        let texts_same : text_of entry ≡ text_of other = same ∙ cond-true _ _ _ t ∙ cond-true _ _ _ v in
        let can = recordable next state reached entry.caller entry.event given enrolled lawful refl v in
        let one : entry ≡ other = one_text entry other kept can texts_same in
        let answer : entry.answer ≡ given = ap (λ (e : Entry). e.answer) one in
        let adds : AddsEntry entry.answer = adds_is entry.answer (ap adds_entry answer ∙ v) in
        never (
          subst (λ (s : State). entry.caller < s.callers) state_is enrolled,
          lawful,
          adds,
          gives_back new.recording (header_size + length (texts before)) (old_after (old_opening caps) before) entry adds old.fits room
              (answer ∙ ap (λ (s : State). (step s entry.event).answer) state_is),
        )

pub disagrees_at : NextFits → (limit : ℕ) (caps : Limits) (history : List Entry) (bytes : List ℕ) → IsOldFormed caps history
    → IsFormed (upgraded limit caps history) history → bytes ≡ upgraded_text limit caps history → DisagreesThere bytes limit caps history
disagrees_at next limit caps history bytes is formed text before entry later same =
    subst
    (λ (h : List Entry). IsOldFormed caps h → IsFormed (upgraded limit caps h) h → bytes ≡ upgraded_text limit caps h → OldLegal caps before
    → (OldGives (old_after (old_opening caps) before) entry → ⊥)
    → DisagreesAt bytes (length before) (text_of entry) (computed_text (after (opening (upgraded limit caps h)) before) entry.caller entry.event))
    (sym same) (λ is formed text legal never. disagrees_there next limit caps before entry later bytes is legal never formed text) is formed text

-- What a call of `upgrade` needs.

-- there are no more submits than bytes
pub few_submits : (entries : List Entry) → AllByRecursion OldRecordable entries → submits_in entries ≤ length (old_texts entries)
few_submits [] all = omega arith
few_submits (entry ∷ entries) all =
    let some = some_in First entry.caller entry.event entry.answer all.0 in
    let more = few_submits entries all.1 in
    go (is_submit entry.event) some more
  where
    go : (t : Bool) → 1 ≤ length (old_text_of entry) → submits_in entries ≤ length (old_texts entries)
        → cond t 1 0 + submits_in entries ≤ length (old_text_of entry ++ old_texts entries)
    go true some more = omega (arith, length-append (old_text_of entry) (old_texts entries))
    go false some more = omega (arith, length-append (old_text_of entry) (old_texts entries))

pub few_in : (bytes : List ℕ) (caps : Limits) (entries : List Entry) → IsOldRecordingOf bytes caps entries → submits_in entries ≤ 1073741824
few_in bytes caps entries is =
    let few = few_submits entries is.formed.record_.all in
    let fits = is.formed.record_.fits in
    let below = is.formed.record_.lawful.recording.below in
    omega (arith, old_length caps entries)

-- how many bytes the upgraded recording has
pub needs : (limit : ℕ) (bytes : List ℕ) (caps : Limits) (entries : List Entry) → IsOldRecordingOf bytes caps entries
    → length (upgraded_text limit caps entries) ≡ length bytes + growth entries
needs limit bytes caps entries is =
    grown limit caps entries is.formed ∙ ap (λ (l : List ℕ). length l + growth entries) (sym is.text)

-- the text that is written is that of the upgraded recording
pub text_is : (limit grows : ℕ) (own caps : Limits) (placed left : List Placed) → caps ≡ record own { recording = min limit (own.recording + grows) }
    → grows ≡ growth (unplaced placed) → left ≡ placed → record_text caps (unplaced left) ≡ upgraded_text limit own (unplaced placed)
text_is limit grows own caps placed left caps_are grows_is left_is =
    (λ i. record_text (caps_are i) (unplaced (left_is i)))
    ∙ ap (λ (n : ℕ). record_text (record own { recording = min limit (own.recording + n) }) (unplaced placed)) grows_is

-- there is one old recording of some bytes
pub same_text : (limit : ℕ) (own caps : Limits) (entries history : List Entry) → (own ≡ caps) × (entries ≡ history)
    → upgraded_text limit own entries ≡ upgraded_text limit caps history
same_text limit own caps entries history both = λ i. upgraded_text limit (both.0 i) (both.1 i)

-- what is written is the upgraded recording
abbrev pub IsMade : ℕ → List ℕ → Limits → List Entry → Type 0
IsMade limit out caps history =
    (out ≡ upgraded_text limit caps history) × (length out ≤ limit) × IsFormed (upgraded limit caps history) history

pub made : (limit count : ℕ) (bytes out : List ℕ) (own caps limits : Limits) (placed left : List Placed) (history : List Entry)
    → IsOldRecordingOf bytes caps history → (own ≡ caps) × (unplaced placed ≡ history)
    → limits ≡ record own { recording = min limit (own.recording + (4 + 4 * count)) } → count ≡ submits_in (unplaced placed) → left ≡ placed
    → out ≡ record_text limits (unplaced left) → length bytes + (4 + 4 * count) ≤ limit → header_size ≤ limit → limit ≤ 1073741824
    → IsMade limit out caps history
made limit count bytes out own caps limits placed left history is both limits_are count_is left_is written within least most =
    let text : out ≡ upgraded_text limit caps history =
    written ∙ text_is limit (4 + 4 * count) own limits placed left limits_are (omega (arith, count_is)) left_is
    ∙ same_text limit own caps (unplaced placed) history both in
    let need = needs limit bytes caps history is in
    let submits : count ≡ submits_in history = count_is ∙ ap submits_in both.1 in
    let fits : length (upgraded_text limit caps history) ≤ limit = omega (arith, need, submits, within) in
    (text, subst (λ (l : List ℕ). length l ≤ limit) (sym text) fits, formed_today limit caps history is.formed least most fits)
