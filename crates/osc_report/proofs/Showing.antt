-- Entries that are shown at one moment are shown at theirs.
use Rattle.std.proofs.Common.{◌≡◌, ℕ, zero, suc, ◌+◌, ◌<◌, Bool, true, false, List, [], ◌∷◌, ◌++◌, length, take, drop, get_or, Option, Some, None, refl, sym, ap, subst, ◌∙◌, arith}
use Rattle.std.proofs.Math.Seq.{take-suc}
use Rattle.std.proofs.lemmas.List.{map-append}
use Rattle.osc_model.specs.Limits.{Limits}
use Rattle.osc_model.specs.Events.{Entry}
use Rattle.osc_record.specs.declared.event.Entry.{Entry as Read}
use Rattle.osc_record.specs.Left.{placed_of}
use Rattle.osc_record.specs.Reading.{Placed}
use Rattle.osc_record.specs.Unread.{Remaining}
use Rattle.osc_story.specs.declared.disagreement.Disagreement.{Disagreement}
use Rattle.osc_story.specs.declared.disagreement.SeeFault.{SeeFault}
use Rattle.osc_story.specs.declared.disagreement.SeeFault.TheVariants as see
use Rattle.osc_story.specs.Seen.{IsFaultOf}
use Rattle.osc_report.specs.declared.reporter.ShowFault.{ShowFault}
use Rattle.osc_report.specs.declared.reporter.ShowFault.TheVariants as fault
use Rattle.osc_story.specs.Standings.{Standing, seen, seen_all, disagreement, AgreesAll, Follows}
use Rattle.osc_report.specs.declared.options.Options.{Options}
use Rattle.osc_report.specs.declared.span.Span.{Span}
use Rattle.osc_report.specs.declared.stretch.Shown.{Shown}
use Rattle.osc_report.specs.declared.stretch.Shown.TheVariants.{Stretch, All, NotWhole}
use Rattle.osc_report.specs.Moments.{moment_of, shown_moment}
use Rattle.osc_report.specs.Stretches.{GoesOn, EndsSo, HasRead, clock_after, placed, told}
use Rattle.osc_report.specs.Reports.{Reporting, IsFirst, IsEntryShown, IsEntryTold, AddsShown, ShowsEntry, ShowsEntries, ShowsStretch, FailsAt, FailsIn, FailsFor, fault_at}
use Rattle.osc_report.specs.declared.front.Front.{Front}
use Rattle.osc_report.specs.declared.moved_line.MovedLine.{MovedLine}
use Rattle.osc_report.specs.declared.news.News.{News}
use Rattle.osc_report.specs.declared.news.RunNews.{RunNews}
use Rattle.osc_report.specs.Entries.{AreEntryLines}
use Rattle.osc_report.specs.Fronts.{front_at, front_by}
use Rattle.osc_report.specs.Kept.{IsMovedLine, IsNews, IsRunNews, plain_of, Tells, TellsMoved, TellsNews, with_first}
use Rattle.osc_report.specs.Runs.{Progress, TellsEntry, TellsOther}
use Rattle.osc_report.specs.Steps.{Moved, IsStep, moved}
use Rattle.osc_runs.specs.Gathering.{Run}
use Rattle.std.specs.Option.{option_map}
use Rattle.osc_report.proofs.Clocks.{moment_on, moment_all, moment_stretch}

-- the line of what may be told with others
step_shown : (options : Options) (front : Front) (one : Option Moved) (news : RunNews) (kept : Option MovedLine) → news.front ≡ front
    → IsMovedLine front.look.whole one kept → IsStep options front news.all.items one (option_map (plain_of options news) kept)
step_shown options front None news kept same is = ap (option_map (plain_of options news)) is
step_shown options front (Some one) news None same is = absurd is
step_shown options front (Some one) news (Some kept) same is = (
  kept.words.items,
  is.2,
  ap (λ (f : Front). record {
    look = (front_by options f kept.caller).look;
    moment = f.moment;
    address = kept.address.items;
    words = kept.words.items;
    line = news.all.items;
  }) same
      ∙ ap (λ (n : ℕ). record {
        look = (front_by options front n).look;
        moment = front.moment;
        address = kept.address.items;
        words = kept.words.items;
        line = news.all.items;
      }) is.0
      ∙ ap (λ (a : List ℕ). record {
        look = (front_by options front one.caller).look;
        moment = front.moment;
        address = a;
        words = kept.words.items;
        line = news.all.items;
      }) is.1,
)

tells_kept : (options : Options) (old : Progress) (moment : ℕ) (lines : List ℕ) (news : RunNews) (kept : Option MovedLine) (text : List ℕ) (span : Span)
    (run : Run) → news.front.moment ≡ moment → TellsMoved options old lines news kept text span run
    → TellsEntry options old (shown_moment moment) lines news.all.items (option_map (plain_of options news) kept) text span run
tells_kept options old moment lines news (Some kept) text span run same tells = tells
tells_kept options old moment lines news None text span run same tells =
    subst (λ (n : ℕ). TellsOther options old (shown_moment n) lines news.all.items text span run) same tells

-- what is told by the news of an entry is what is shown at it
told_so : (runs : Bool) (options : Options) (standing : Standing) (old : Progress) (moment : ℕ) (entry : Entry) (first : Option ℕ) (lines : List ℕ)
    (news : Option RunNews) (text : List ℕ) (new : Progress) → IsFirst options standing old.span.first moment entry first
    → AreEntryLines options (front_at options first moment) standing entry lines
    → IsRunNews runs options (front_at options first moment) standing entry news
    → TellsNews options (with_first old first) moment lines news text new.span new.run → IsEntryTold runs options standing old moment entry text new
told_so false options standing old moment entry first lines None text new first_is lines_are is tells =
    ((first, lines, first_is, lines_are, tells.0), tells.1)
told_so false options standing old moment entry first lines (Some news) text new first_is lines_are is tells = absurd (cc)
told_so true options standing old moment entry first lines None text new first_is lines_are is tells = absurd is
told_so true options standing old moment entry first lines (Some news) text new first_is lines_are is tells = record {
  first = first;
  lines = lines;
  all = news.all.items;
  step = option_map (plain_of options news) news.moved;
  first_is = first_is;
  lines_are = lines_are;
  all_are = is.1;
  step_is = step_shown options (front_at options first moment) (moved standing moment entry.answer) news news.moved is.0 is.2;
  tells = tells_kept options (with_first old first) moment lines news news.moved text new.span new.run (ap (λ (f : Front). f.moment) is.0) tells;
}

-- an entry is shown that agrees, was seen, and then told
pub entry_shown : (old seen_so new : Reporting) (moment : ℕ) (entry : Entry) (news : News) (before after : List ℕ)
    → (disagreement old.standing entry ≡ None → IsNews old.options old.standing old.progress.span.first moment entry news)
    → Follows old.standing entry seen_so.standing → seen_so.options ≡ old.options → seen_so.progress ≡ old.progress
    → Tells seen_so moment news before after new → ShowsEntry old moment entry before after new
entry_shown old seen_so new moment entry news before after is follows options_are progress_is tells =
    let so = is follows.agrees in
    record {
      agrees = follows.agrees;
      one = tells.text;
      shown =
          told_so old.options.runs old.options old.standing old.progress moment entry news.first news.lines.items news.run tells.text new.progress
          so.first_is so.lines_are so.run_is
          (subst (λ (p : Progress). TellsNews old.options (with_first p news.first) moment news.lines.items news.run tells.text new.progress.span
          new.progress.run) progress_is
          (subst (λ (o : Options). TellsNews o (with_first seen_so.progress news.first) moment news.lines.items news.run tells.text new.progress.span
          new.progress.run) options_are tells.tells));
      options = tells.options ∙ options_are;
      standing = tells.standing ∙ follows.becomes;
      text = tells.added;
    }

-- each of them has this moment
abbrev Steady : ℕ → Standing → List Entry → Type 0
Steady moment standing [] = Unit {0}
Steady moment standing (entry ∷ entries) = (moment_of standing (entry ∷ entries) ≡ moment) × Steady moment (seen standing entry) entries

steady_all : (moment : ℕ) (standing : Standing) (entries : List Entry) → GoesOn entries → moment_of standing entries ≡ moment → Steady moment standing entries
steady_all moment standing [] on is = tt
steady_all moment standing (entry ∷ entries) on is =
    (is, steady_all moment (seen standing entry) entries on.1 (sym (moment_on standing entry entries on.0) ∙ is))

steady_stretch : (moment : ℕ) (standing : Standing) (front : List Entry) (last : Entry) → GoesOn front → moment_of standing (front ++ last ∷ []) ≡ moment
    → Steady moment standing (front ++ last ∷ [])
steady_stretch moment standing [] last on is = (is, tt)
steady_stretch moment standing (entry ∷ front) last on is =
    (is, steady_stretch moment (seen standing entry) front last on.1 (sym (moment_on standing entry (front ++ last ∷ []) on.0) ∙ is))

-- entries that end so have the clock after them
pub moment_is : (shown : Shown) (caps : Limits) (at : ℕ) (standing : Standing) (entries : List Entry) (rest : List ℕ) → EndsSo shown caps at entries rest
    → moment_of standing entries ≡ clock_after standing.clock entries
moment_is Stretch caps at standing entries rest (front, last, on, ends, is) =
    subst (λ (l : List Entry). moment_of standing l ≡ clock_after standing.clock l) (sym is) (moment_stretch standing front last on ends)
moment_is All caps at standing entries rest (on, none) = moment_all standing entries on
moment_is (NotWhole place) caps at standing entries rest (on, place_is, some, nothing) = moment_all standing entries on

steady : (shown : Shown) (caps : Limits) (at : ℕ) (standing : Standing) (entries : List Entry) (rest : List ℕ) (moment : ℕ) → EndsSo shown caps at entries rest
    → moment_of standing entries ≡ moment → Steady moment standing entries
steady Stretch caps at standing entries rest moment (front, last, on, ends, is) same =
    subst (λ (l : List Entry). Steady moment standing l) (sym is)
    (steady_stretch moment standing front last on (subst (λ (l : List Entry). moment_of standing l ≡ moment) is same))
steady All caps at standing entries rest moment (on, none) same = steady_all moment standing entries on same
steady (NotWhole place) caps at standing entries rest moment (on, place_is, some, nothing) same = steady_all moment standing entries on same

-- they are shown at their moments
adds_shown : (old : Reporting) (moment : ℕ) (entries : List Entry) (before after : List ℕ) (new : Reporting) → Steady moment old.standing entries
    → ShowsEntries old moment entries before after new → AddsShown old.options old.standing old.progress entries before after new.progress
adds_shown old moment [] before after new same (is, stays) = (is, ap (λ (r : Reporting). r.progress) stays)
adds_shown old moment (entry ∷ entries) before after new same (mid, between, one, others) =
    let then = adds_shown between moment entries mid after new (subst (λ (s : Standing). Steady moment s entries) (sym one.standing) same.1) others in (
      one.one,
      between.progress,
      subst (λ (n : ℕ). IsEntryShown old.options old.standing old.progress n entry one.one between.progress) (sym same.0) one.shown,
      subst (λ (o : Options). AddsShown o (seen old.standing entry) between.progress entries (before ++ one.one) after new.progress) one.options
          (subst (λ (s : Standing). AddsShown between.options s between.progress entries (before ++ one.one) after new.progress) one.standing
          (subst (λ (l : List ℕ). AddsShown between.options between.standing between.progress entries l after new.progress) one.text then)),
    )

-- all of them agree
agree_all : (old : Reporting) (moment : ℕ) (entries : List Entry) (before after : List ℕ) (new : Reporting)
    → ShowsEntries old moment entries before after new → AgreesAll old.standing entries
agree_all old moment [] before after new shows = tt
agree_all old moment (entry ∷ entries) before after new (mid, between, one, others) =
    (one.agrees, subst (λ (s : Standing). AgreesAll s entries) one.standing (agree_all between moment entries mid after new others))

-- and are seen
seen_so : (old : Reporting) (moment : ℕ) (entries : List Entry) (before after : List ℕ) (new : Reporting)
    → ShowsEntries old moment entries before after new → (new.options ≡ old.options) × (new.standing ≡ seen_all old.standing entries)
seen_so old moment [] before after new (is, stays) = (ap (λ (r : Reporting). r.options) stays, ap (λ (r : Reporting). r.standing) stays)
seen_so old moment (entry ∷ entries) before after new (mid, between, one, others) =
    let then = seen_so between moment entries mid after new others in
    (then.0 ∙ one.options, then.1 ∙ ap (λ (s : Standing). seen_all s entries) one.standing)

-- what was read is shown
pub shows_stretch : (old : Reporting) (left now : Remaining) (shown : Shown) (entries : List Entry) (clock : ℕ) (before after : List ℕ) (new : Reporting)
    → HasRead left entries shown now → clock ≡ clock_after old.standing.clock entries → ShowsEntries old clock entries before after new
    → ShowsStretch old left shown before after new now
shows_stretch old left now shown entries clock before after new read clock_is shows =
    let same = moment_is shown now.caps now.at old.standing entries now.rest read.ends ∙ sym clock_is in
    let so = seen_so old clock entries before after new shows in
    record {
      entries = entries;
      read = read;
      agree = agree_all old clock entries before after new shows;
      text = adds_shown old clock entries before after new (steady shown now.caps now.at old.standing entries now.rest clock read.ends same) shows;
      options = so.0;
      standing = so.1;
    }

-- one more entry is shown
pub one_more : (old : Reporting) (moment : ℕ) (entries : List Entry) (entry : Entry) (before mid after : List ℕ) (was new : Reporting)
    → ShowsEntries old moment entries before mid was → ShowsEntry was moment entry mid after new → ShowsEntries old moment (entries ++ entry ∷ []) before after new
one_more old moment [] entry before mid after was new (is, stays) one = (
  after,
  new,
  subst (λ (l : List ℕ). ShowsEntry old moment entry l after new) is (subst (λ (r : Reporting). ShowsEntry r moment entry mid after new) stays one),
  (refl, refl),
)
one_more old moment (first ∷ entries) entry before mid after was new (then, between, shown, others) one =
    (then, between, shown, one_more between moment entries entry then mid after was new others one)

-- An entry at a place of a list.

split_at : (entries : List Read) (i : ℕ) (entry : Read) → i < length entries → entry ≡ get_or entries i entry → entries ≡ take i entries ++ entry ∷ drop (suc i) entries
split_at [] i entry less is = absurd (omega (arith, less))
split_at (first ∷ entries) zero entry less is = ap (λ (e : Read). e ∷ entries) (sym is)
split_at (first ∷ entries) (suc i) entry less is = ap (λ (l : List Read). first ∷ l) (split_at entries i entry (omega (arith, less)) is)

-- one more is taken
one_taken : (entries : List Read) (i : ℕ) (entry : Read) → i < length entries → entry ≡ get_or entries i entry
    → told (placed (take (i + 1) entries)) ≡ told (placed (take i entries)) ++ (placed_of entry).entry ∷ []
one_taken entries i entry less is =
    let next : i + 1 ≡ suc i = omega arith in
    ap (λ (n : ℕ). told (placed (take n entries))) next
    ∙ ap (λ (l : List Read). told (placed l)) (take-suc entries i entry less ∙ ap (λ (e : Read). take i entries ++ e ∷ []) (sym is))
    ∙ ap told (map-append placed_of (take i entries) (entry ∷ []))
    ∙ map-append (λ (p : Placed). p.entry) (placed (take i entries)) (placed_of entry ∷ [])

-- one more entry of a list is shown
pub next_shown : (old : Reporting) (moment : ℕ) (entries : List Read) (i : ℕ) (entry : Read) (before mid after : List ℕ) (was new : Reporting)
    → i < length entries → entry ≡ get_or entries i entry → ShowsEntries old moment (told (placed (take i entries))) before mid was
    → ShowsEntry was moment (placed_of entry).entry mid after new → ShowsEntries old moment (told (placed (take (i + 1) entries))) before after new
next_shown old moment entries i entry before mid after was new less is so one =
    subst (λ (l : List Entry). ShowsEntries old moment l before after new) (sym (one_taken entries i entry less is))
    (one_more old moment (told (placed (take i entries))) (placed_of entry).entry before mid after was new so one)

-- or it can't be
pub fails : (old : Reporting) (moment : ℕ) (entries : List Read) (i : ℕ) (entry : Read) (before mid after : List ℕ) (was new : Reporting) (why : SeeFault)
    → i < length entries → entry ≡ get_or entries i entry → ShowsEntries old moment (told (placed (take i entries))) before mid was
    → IsFaultOf why was.standing (placed_of entry).entry
    → ((one : Disagreement) → why ≡ see.Disagrees one → (new ≡ was) × (after ≡ mid))
    → FailsIn old moment (placed entries) (fault_at entry.at why) before after new
fails old moment entries i entry before mid after was new see.NoMemory less is so caused stays = tt
fails old moment entries i entry before mid after was new (see.Disagrees one) less is so caused stays =
    let same = stays one refl in
    record {
      front = placed (take i entries);
      one = placed_of entry;
      more = placed (drop (suc i) entries);
      are = ap placed (split_at entries i entry less is) ∙ map-append placed_of (take i entries) (entry ∷ drop (suc i) entries);
      shown = subst (λ (r : Reporting). ShowsEntries old moment (told (placed (take i entries))) before after r) (sym same.0)
          (subst (λ (l : List ℕ). ShowsEntries old moment (told (placed (take i entries))) before l was) (sym same.1) so);
      why = see.Disagrees one;
      cause_is = refl;
      caused = subst (λ (r : Reporting). IsFaultOf (see.Disagrees one) r.standing (placed_of entry).entry) (sym same.0) caused;
    }

pub fails_for : (old : Reporting) (left now : Remaining) (shown : Shown) (entries : List Placed) (clock : ℕ) (cause : ShowFault) (before after : List ℕ)
    (new : Reporting) → HasRead left (told entries) shown now → clock ≡ clock_after old.standing.clock (told entries)
    → FailsIn old clock entries cause before after new → FailsFor old left cause before after new
fails_for old left now shown entries clock fault.NoMemory before after new read clock_is fails = tt
fails_for old left now shown entries clock (fault.Disagrees at why) before after new read clock_is fails = record {
  entries = entries;
  rest = now.rest;
  text = read.text;
  fails = subst (λ (n : ℕ). FailsAt old n entries (fault.Disagrees at why) before after new)
      (clock_is ∙ sym (moment_is shown now.caps now.at old.standing (told entries) now.rest read.ends)) fails;
}
