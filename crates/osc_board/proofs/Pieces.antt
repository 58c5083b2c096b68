-- A recording that comes in pieces.
use Rattle.std.proofs.Common.{◌≡◌, ℕ, ◌+◌, ◌-◌, ◌<◌, ◌≤◌, List, [], ◌++◌, length, length-append, take, drop, Option, Some, None, refl, sym, ap, subst, ◌∙◌}
use Rattle.std.proofs.Common.{append_assoc, append-nil, arith}
use Rattle.std.proofs.lemmas.List.{append_cancel_left}
use Rattle.std.proofs.Math.Seq.{take-append_seam, drop-append_seam, drop-append-add}
use Rattle.osc_model.specs.Limits.{Limits, AreInRange, header_size}
use Rattle.osc_model.specs.Events.{Event, enrol, submit, add, remove, tick, release, Answer, Entry}
use Rattle.osc_model.specs.Recordings.{FitsRow, row_of, entry_size, entry_text, header_text, record_text}
use Rattle.osc_record.specs.Reading.{HasNoHeader}
use Rattle.osc_record.specs.Unread.{Remaining, HasHeader}
use Rattle.osc_story.specs.declared.reader.Stop.{Stop}
use Rattle.osc_story.specs.declared.reader.Stop.TheVariants.{End, NotWhole, Disagrees, NoMemory}
use Rattle.osc_story.specs.declared.follower.Progress.{Progress}
use Rattle.osc_board.specs.Sights.{Sight, opened, seen_all, AgreesAll}
use Rattle.osc_story.specs.Seen.{bytes_of, text_of, HasNoEntry, BeginsUnlike}
use Rattle.osc_board.specs.Seen.{HasSeen, StopsFor}
use Rattle.osc_story.specs.Following.{IsTooLong}
use Rattle.osc_board.specs.Watching.{Watching, HasFollowed, HasComeTo, HasCome, HasGone, Progresses}
use Rattle.osc_story.specs.Looks.{IsPast}
use Rattle.osc_story.specs.KeptBytes.{place_of, progress_of}
use Rattle.osc_board.specs.Looks.{begun, SawAfter}
use Rattle.osc_board.proofs.Onward.{all_append, agree_append, can_append, text_append}

-- what the laws of recordings say
pub record Written : Type 0 where
  pub header : (limits : Limits) → length (header_text limits) ≡ header_size
  pub entry : (caller : ℕ) (event : Event) (answer : Answer) → FitsRow (row_of caller event answer) → length (entry_text caller event answer) ≡ entry_size event answer
  pub differ : (limits other : Limits) → AreInRange limits → AreInRange other → header_text limits ≡ header_text other → limits ≡ other

-- the header and the bytes from a place on are kept
abbrev pub from_place : Watching → ℕ → Watching
from_place follower place = record follower { bytes = take header_size follower.bytes ++ drop place follower.bytes; passed = follower.passed + (place - header_size) }

-- One more piece.

more_come : (came piece : List ℕ) (old : Watching) (sight : Option Sight) → HasComeTo came old sight
    → HasComeTo (came ++ piece) (record old { bytes = old.bytes ++ piece }) sight
more_come came piece old None (kept, none) = (ap (λ (l : List ℕ). l ++ piece) kept, none)
more_come came piece old (Some sight) (caps, entries, rest, so) = (
  caps,
  entries,
  rest ++ piece,
  record {
    lawful = so.lawful;
    text = ap (λ (l : List ℕ). l ++ piece) so.text ∙ append_assoc (record_text caps entries) rest piece;
    kept = ap (λ (l : List ℕ). l ++ piece) so.kept ∙ append_assoc (header_text caps) rest piece;
    passed = so.passed;
    can_be = so.can_be;
    agree = so.agree;
    becomes = so.becomes;
  },
)

pub piece_come : (came piece : List ℕ) (old new : Watching) → new ≡ record old { bytes = old.bytes ++ piece } → HasCome came old → HasCome (came ++ piece) new
piece_come came piece old new is has = subst (HasCome (came ++ piece)) (sym is) (more_come came piece old old.sight has)

-- The header.

pub fronts : (a b x y : List ℕ) → length a ≡ length b → a ++ x ≡ b ++ y → a ≡ b
fronts a b x y long same = sym (take-append_seam a x) ∙ ap (take (length a)) same ∙ ap (λ (n : ℕ). take n (b ++ y)) long ∙ take-append_seam b y

-- what was followed, by the header that is read
followed_to : Written → (came : List ℕ) (follower : Watching) (left : Remaining) → HasHeader follower.bytes left → (sight : Option Sight)
    → HasComeTo came follower sight → (entries : List Entry) × HasFollowed came follower left.caps entries left.rest (begun sight left.caps.late)
followed_to written came follower left header None (kept, none) = (
  [],
  record {
    lawful = header.lawful;
    text = sym kept ∙ header.text ∙ ap (λ (l : List ℕ). l ++ left.rest) (sym (append-nil (header_text left.caps)));
    kept = header.text;
    passed = none;
    can_be = tt;
    agree = tt;
    becomes = refl;
  },
)
followed_to written came follower left header (Some sight) (caps, entries, rest, so) =
    let same : header_text caps ++ rest ≡ header_text left.caps ++ left.rest = sym so.kept ∙ header.text in
    let front = fronts (header_text caps) (header_text left.caps) rest left.rest (written.header caps ∙ sym (written.header left.caps)) same in
    let one : caps ≡ left.caps = written.differ caps left.caps so.lawful header.lawful front in
    let back : rest ≡ left.rest = append_cancel_left (header_text left.caps) rest left.rest (ap (λ (l : List ℕ). l ++ rest) (sym front) ∙ same) in (
      entries,
      subst (λ (c : Limits). HasFollowed came follower c entries left.rest sight) one
          (subst (λ (l : List ℕ). HasFollowed came follower caps entries l sight) back so),
    )

-- how many bytes came
came_length : Written → (came : List ℕ) (follower : Watching) (caps : Limits) (entries : List Entry) (rest : List ℕ) (sight : Sight)
    → HasFollowed came follower caps entries rest sight → follower.passed + length follower.bytes ≡ length came
came_length written came follower caps entries rest sight so =
    omega (
      arith,
      so.passed,
      ap length so.kept,
      length-append (header_text caps) rest,
      ap length so.text,
      length-append (record_text caps entries) rest,
      length-append (header_text caps) (text_of entries),
    )

-- The place.

-- the bytes up to which was seen
pub record Sized (bytes : List ℕ) (cause : Stop) (entries : List Entry) (rest : List ℕ) : Type 0 where
  pub place : place_of (length bytes) cause ≡ header_size + length (text_of entries)
  pub all : length bytes ≡ header_size + length (text_of entries) + length rest

stop_place : (bytes : List ℕ) (cause : Stop) (caps : Limits) (sight : Sight) (entries : List Entry) (rest : List ℕ)
    → length bytes ≡ header_size + length (text_of entries) + length rest → StopsFor cause caps sight (header_size + length (text_of entries)) rest
    → place_of (length bytes) cause ≡ header_size + length (text_of entries)
stop_place bytes End caps sight entries rest all stops = omega (arith, all, ap length stops)
stop_place bytes (NotWhole at) caps sight entries rest all stops = stops.0
stop_place bytes (Disagrees at why) caps sight entries rest all stops = stops.0
stop_place bytes (NoMemory at) caps sight entries rest all stops = stops

pub sized : Written → (bytes : List ℕ) (came : ℕ) (old : Option Sight) (cause : Stop) (new : Option Sight) (saw : SawAfter bytes came old cause new)
    → Sized bytes cause saw.seen.entries saw.seen.rest
sized written bytes came old cause new saw =
    let left = saw.left in
    let seen = saw.seen in
    let all : length bytes ≡ header_size + length (text_of seen.entries) + length seen.rest =
    omega (
      arith,
      ap length saw.header.text,
      length-append (header_text left.caps) left.rest,
      written.header left.caps,
      ap length seen.text,
      length-append (text_of seen.entries) seen.rest,
    )
    in
    record {
      place = stop_place bytes cause left.caps saw.sight seen.entries seen.rest all
          (subst (λ (n : ℕ). StopsFor cause left.caps saw.sight (n + length (text_of seen.entries)) seen.rest) saw.header.at_is seen.stops);
      all = all;
    }

pub after_header : Written → (bytes : List ℕ) (came : ℕ) (old : Option Sight) (cause : Stop) (new : Option Sight) → SawAfter bytes came old cause new
    → header_size ≤ place_of (length bytes) cause
after_header written bytes came old cause new saw = omega (arith, (sized written bytes came old cause new saw).place)

pub within_bytes : Written → (bytes : List ℕ) (came : ℕ) (old : Option Sight) (cause : Stop) (new : Option Sight) → SawAfter bytes came old cause new
    → place_of (length bytes) cause ≤ length bytes
within_bytes written bytes came old cause new saw =
    let so = sized written bytes came old cause new saw in omega (arith, so.place, so.all)

-- What is kept then.

kept_then : Written → (bytes : List ℕ) (caps : Limits) (texts rest : List ℕ) → bytes ≡ header_text caps ++ (texts ++ rest)
    → take header_size bytes ++ drop (header_size + length texts) bytes ≡ header_text caps ++ rest
kept_then written bytes caps texts rest is =
    let header = header_text caps in
    let front : take header_size bytes ≡ header =
    ap (take header_size) is ∙ ap (λ (n : ℕ). take n (header ++ (texts ++ rest))) (sym (written.header caps)) ∙ take-append_seam header (texts ++ rest)
    in
    let back : drop (header_size + length texts) bytes ≡ rest =
    ap (drop (header_size + length texts)) is
    ∙ ap (λ (n : ℕ). drop (n + length texts) (header ++ (texts ++ rest))) (sym (written.header caps))
    ∙ drop-append-add header (texts ++ rest) (length texts)
    ∙ drop-append_seam texts rest
    in
    ap (λ (l : List ℕ). l ++ drop (header_size + length texts) bytes) front ∙ ap (λ (l : List ℕ). header ++ l) back

followed_on : Written → (came : List ℕ) (old new : Watching) (left : Remaining) (entries : List Entry) (was sight : Sight) (cause : Stop)
    → HasFollowed came old left.caps entries left.rest was → (seen : HasSeen was left cause sight)
    → new.bytes ≡ take header_size old.bytes ++ drop (header_size + length (text_of seen.entries)) old.bytes
    → new.passed ≡ old.passed + length (text_of seen.entries) → HasFollowed came new left.caps (entries ++ seen.entries) seen.rest sight
followed_on written came old new left entries was sight cause so seen bytes_are passed_is =
    let both = text_append entries seen.entries in
    record {
      lawful = so.lawful;
      text = so.text ∙ ap (λ (l : List ℕ). record_text left.caps entries ++ l) seen.text
          ∙ sym (append_assoc (record_text left.caps entries) (text_of seen.entries) seen.rest)
          ∙ ap (λ (l : List ℕ). l ++ seen.rest)
          (append_assoc (header_text left.caps) (text_of entries) (text_of seen.entries) ∙ ap (λ (l : List ℕ). header_text left.caps ++ l) (sym both));
      kept = bytes_are
          ∙ kept_then written old.bytes left.caps (text_of seen.entries) seen.rest (so.kept ∙ ap (λ (l : List ℕ). header_text left.caps ++ l) seen.text);
      passed = omega (arith, passed_is, so.passed, ap length both, length-append (text_of entries) (text_of seen.entries));
      can_be = can_append entries seen.entries so.can_be seen.can_be;
      agree = agree_append (opened left.caps.late) entries seen.entries so.agree (subst (λ (s : Sight). AgreesAll s seen.entries) so.becomes seen.agree);
      becomes = seen.becomes ∙ ap (λ (s : Sight). seen_all s seen.entries) so.becomes ∙ sym (all_append (opened left.caps.late) entries seen.entries);
    }

-- What is said of it.

-- an entry has bytes
some_bytes : (event : Event) (answer : Answer) → 0 < entry_size event answer
some_bytes enrol answer = omega arith
some_bytes (submit packet) answer = omega arith
some_bytes (add address) answer = omega arith
some_bytes (remove address) answer = omega arith
some_bytes (tick moment) answer = omega arith
some_bytes release answer = omega arith

-- so none begins no bytes
pub none_in_none : Written → (caps : Limits) (at : ℕ) (rest : List ℕ) → rest ≡ [] → HasNoEntry caps at rest
none_in_none written caps at rest is entry more can_be fits same =
    absurd (omega (
      arith,
      ap length (sym is ∙ same),
      length-append (bytes_of entry) more,
      written.entry entry.caller entry.event entry.answer can_be.fits,
      some_bytes entry.event entry.answer,
    ))

pub malformed : Written → (came : List ℕ) (old : Watching) → HasCome came old → HasNoHeader old.bytes 0 → HasNoHeader came 0
malformed written came old has none = go old.sight has where
  go : (sight : Option Sight) → HasComeTo came old sight → HasNoHeader came 0
  go None (kept, no_entry) = subst (λ (l : List ℕ). HasNoHeader l 0) kept none
  go (Some sight) (caps, entries, rest, so) = absurd (none.none caps rest so.lawful so.kept)

pub malformed_size : (came : List ℕ) (old : Watching) → HasCome came old → HasNoHeader old.bytes 0 → header_size ≤ length old.bytes
    → header_size ≤ length came
malformed_size came old has none long = go old.sight has where
  go : (sight : Option Sight) → HasComeTo came old sight → header_size ≤ length came
  go None (kept, no_entry) = subst (λ (l : List ℕ). header_size ≤ length l) kept long
  go (Some sight) (caps, entries, rest, so) = absurd (none.none caps rest so.lawful so.kept)

pub too_long : Written → (came : List ℕ) (old : Watching) → HasCome came old → IsPast old.bytes (old.passed + length old.bytes) → IsTooLong came
too_long written came old has past =
    let (entries, so) = followed_to written came old past.left past.header old.sight has in
    record {
      caps = past.left.caps;
      rest = text_of entries ++ past.left.rest;
      lawful = so.lawful;
      text = so.text ∙ append_assoc (header_text past.left.caps) (text_of entries) past.left.rest;
      long = omega (
        arith,
        past.long,
        came_length written came old past.left.caps entries past.left.rest (begun old.sight past.left.caps.late) so,
      );
    }

pub short : Written → (came : List ℕ) (old : Watching) → HasCome came old → length old.bytes < header_size → length came < header_size
short written came old has few = go old.sight has where
  go : (sight : Option Sight) → HasComeTo came old sight → length came < header_size
  go None (kept, no_entry) = omega (arith, few, ap length kept)
  go (Some sight) (caps, entries, rest, so) = absurd (omega (arith, few, ap length so.kept, length-append (header_text caps) rest, written.header caps))

-- what was followed, what is left, and how far it goes
record Gone (came : List ℕ) (new : Watching) (cause : Stop) : Type 0 where
  caps : Limits
  entries : List Entry
  rest : List ℕ
  sight : Sight
  stands : new.sight ≡ Some sight
  followed : HasFollowed came new caps entries rest sight
  within : length came ≤ caps.recording
  at : ℕ
  before : at ≤ length (record_text caps entries)
  total : header_size + new.passed ≡ length (record_text caps entries)
  stops : StopsFor cause caps sight at rest

gone_so : (Begins : Limits → ℕ → List ℕ → Sight → Type 0) (came : List ℕ) (new : Watching) (cause : Stop) (gone : Gone came new cause)
    → Begins gone.caps (length (record_text gone.caps gone.entries)) gone.rest gone.sight → HasGone Begins came new
gone_so Begins came new cause gone begins = record {
  caps = gone.caps;
  entries = gone.entries;
  rest = gone.rest;
  sight = gone.sight;
  stands = gone.stands;
  followed = gone.followed;
  within = gone.within;
  begins = begins;
}

said : Written → (came : List ℕ) (old new : Watching) (cause : Stop) → Gone came new cause → Progresses (progress_of (header_size + new.passed) cause) came old new
said written came old new End gone =
    gone_so (λ caps at rest sight. HasNoEntry caps at rest) came new End gone
    (none_in_none written gone.caps (length (record_text gone.caps gone.entries)) gone.rest gone.stops)
said written came old new (NotWhole place) gone =
    gone_so (λ caps at rest sight. HasNoEntry caps at rest) came new (NotWhole place) gone
    (λ entry more can_be fits same. gone.stops.2 entry more can_be (omega (arith, fits, gone.before)) same)
said written came old new (Disagrees place why) gone =
    gone_so (λ caps at rest sight. (header_size + new.passed ≡ at) × BeginsUnlike sight.standing rest why) came new (Disagrees place why) gone
    (gone.total, gone.stops.1)
said written came old new (NoMemory place) gone =
    subst (HasComeTo came new) (sym gone.stands) (gone.caps, gone.entries, gone.rest, gone.followed)

pub progressed : Written → (came : List ℕ) (old mid new : Watching) (cause : Stop) (progress : Progress) (later : Option Sight) → HasCome came old
    → SawAfter old.bytes (old.passed + length old.bytes) old.sight cause later → mid ≡ record old { sight = later }
    → new ≡ from_place mid (place_of (length mid.bytes) cause) → progress ≡ progress_of (header_size + new.passed) cause → Progresses progress came old new
progressed written came old mid new cause progress later has saw mid_is new_is progress_is =
    let left = saw.left in
    let seen = saw.seen in
    let (entries, so) = followed_to written came old left saw.header old.sight has in
    let size = sized written old.bytes (old.passed + length old.bytes) old.sight cause later saw in
    let now : new ≡ from_place (record old { sight = later }) (place_of (length old.bytes) cause) =
    new_is ∙ ap (λ (f : Watching). from_place f (place_of (length f.bytes) cause)) mid_is
    in
    let place = size.place in
    let was = begun old.sight left.caps.late in
    let followed : HasFollowed came new left.caps (entries ++ seen.entries) seen.rest saw.sight =
    followed_on written came old new left entries was saw.sight cause so seen
    (ap (λ (f : Watching). f.bytes) now ∙ ap (λ (n : ℕ). take header_size old.bytes ++ drop n old.bytes) place)
    (omega (arith, ap (λ (f : Watching). f.passed) now, place))
    in
    let both = text_append entries seen.entries in
    let total : header_size + new.passed ≡ length (record_text left.caps (entries ++ seen.entries)) =
    omega (arith, followed.passed, length-append (header_text left.caps) (text_of (entries ++ seen.entries)), written.header left.caps)
    in
    let gone : Gone came new cause = record {
      caps = left.caps;
      entries = entries ++ seen.entries;
      rest = seen.rest;
      sight = saw.sight;
      stands = ap (λ (f : Watching). f.sight) now ∙ saw.becomes;
      followed = followed;
      within = omega (arith, saw.within, came_length written came old left.caps entries left.rest was so);
      at = left.at + length (text_of seen.entries);
      before = omega (
        arith,
        saw.header.at_is,
        ap length both,
        length-append (text_of entries) (text_of seen.entries),
        length-append (header_text left.caps) (text_of (entries ++ seen.entries)),
        written.header left.caps,
      );
      total = total;
      stops = seen.stops;
    } in
    subst (λ (p : Progress). Progresses p came old new) (sym progress_is) (said written came old new cause gone)

-- The same bytes.

pub saw_same : (bytes others : List ℕ) (came all : ℕ) (old then : Option Sight) (cause : Stop) (new : Option Sight) → bytes ≡ others → came ≡ all
    → old ≡ then → SawAfter bytes came old cause new → SawAfter others all then cause new
saw_same bytes others came all old then cause new one two three saw =
    subst (λ (o : Option Sight). SawAfter others all o cause new) three
    (subst (λ (n : ℕ). SawAfter others n old cause new) two (subst (λ (l : List ℕ). SawAfter l came old cause new) one saw))

pub past_same : (bytes others : List ℕ) (came all : ℕ) → bytes ≡ others → came ≡ all → IsPast bytes came → IsPast others all
past_same bytes others came all one two past = subst (λ (n : ℕ). IsPast others n) two (subst (λ (l : List ℕ). IsPast l came) one past)
