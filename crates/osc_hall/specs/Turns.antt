-- What becomes of a visitor in a round.
use Rattle.std.specs.Prelude.{◌≡◌, ℕ, ◌+◌, ◌≤◌, List, [], ◌++◌, length, take, drop, refl}
use Rattle.std.specs.Prelude.{Option, Some, None, Bool, true, false, nat_lt}
use Rattle.std.specs.Coded.{Coded, code_by, coded×, coded_ℕ, coded_list, coded_option}
use Rattle.osc_door.specs.declared.door.Said.{Said}
use Rattle.osc_door.specs.declared.door.Took.{Took}
use Rattle.osc_door.specs.Visitors.{IsSaidWithin, SaysFront, IsTookWithin, TakesFront}
use Rattle.osc_hall.specs.declared.limits.TheConstants.{PATIENCE, PIECE, SHARE}
use Rattle.osc_hall.specs.Visits.{HasAnswer}

-- A visitor that is there: what was heard of it, its answer once there is one, how many bytes of
-- that it was told, and for how many rounds it has been there.
pub record Seen (V : Type 0) : Type 0 where
  pub visitor : V
  pub heard : List ℕ
  pub answer : Option (List ℕ)
  pub told : ℕ
  pub rounds : ℕ

-- it is stored as the tuple of its fields
abbrev pub seen_code : {V : Type 0} → Coded V → Coded (Seen V)
seen_code {V} code =
    code_by (V × (List ℕ × (Option (List ℕ) × (ℕ × ℕ))))
    (coded× code (coded× (coded_list coded_ℕ)
    (coded× (coded_option (coded_list coded_ℕ)) (coded× coded_ℕ coded_ℕ))))
    (λ s. (s.visitor, (s.heard, (s.answer, (s.told, s.rounds)))))
    (λ p. record {
      visitor = p.0;
      heard = p.1.0;
      answer = p.1.1.0;
      told = p.1.1.1.0;
      rounds = p.1.1.1.1;
    })
    (λ _. refl)

-- one that has just come
abbrev pub just_come : {V : Type 0} → V → Seen V
just_come visitor =
    record { visitor = visitor; heard = []; answer = None; told = 0; rounds = 0 }

-- a round later
abbrev pub longer : {V : Type 0} → Seen V → Seen V
longer seen = record seen { rounds = seen.rounds + 1 }

-- what was heard of it grows by the piece, and is answered if it is whole; or there is no memory
-- for that, and it goes
abbrev pub IsHeardSo : {V : Type 0} → List ℕ → List ℕ → List ℕ → Seen V → Seen V → Bool → Type 0
IsHeardSo page state piece before after true =
    (after.heard ≡ before.heard ++ piece) × HasAnswer page state after.heard after.answer
IsHeardSo page state piece before after false = after.answer ≡ None

-- what comes of what it said
abbrev pub IsHeardAs : {V : Type 0} → List ℕ → List ℕ → Said → List ℕ → Seen V → Seen V → Bool
    → Type 0
IsHeardAs page state (Said.Bytes count) into before after goes =
    IsHeardSo page state (take count into) before after goes
IsHeardAs page state Said.Quiet into before after goes =
    (after.heard ≡ before.heard) × (after.answer ≡ before.answer) × (goes ≡ true)
IsHeardAs page state Said.Gone into before after goes =
    (after.heard ≡ before.heard) × (after.answer ≡ before.answer) × (goes ≡ false)

-- One is read once. `goes` says whether it goes on.
pub record IsHeard {V : Type 0} (left taken : V → Option (List ℕ)) (page state : List ℕ)
    (before after : Seen V) (goes : Bool) : Type 0 where
  pub said : Said
  pub into : List ℕ
  pub few : length into ≤ PIECE
  pub within : IsSaidWithin said into
  pub says : SaysFront (left before.visitor) (left after.visitor) said into
  pub comes_of_it : IsHeardAs page state said into before after goes
  pub taken_is : taken after.visitor ≡ taken before.visitor
  pub told_is : after.told ≡ before.told
  pub rounds_is : after.rounds ≡ before.rounds

-- how many bytes were taken
abbrev pub count_of : Took → ℕ
count_of (Took.Bytes count) = count
count_of Took.Quiet = 0
count_of Took.Gone = 0

-- one that took bytes goes on while there are more for it, and one that is gone doesn't
abbrev pub goes_on : Took → ℕ → ℕ → Bool
goes_on (Took.Bytes _) told all = nat_lt told all
goes_on Took.Quiet told all = true
goes_on Took.Gone told all = false

-- One is handed a share once of what it hasn't been told of its answer.
pub record IsTold {V : Type 0} (left taken : V → Option (List ℕ)) (text : List ℕ)
    (before after : Seen V) (goes : Bool) : Type 0 where
  pub took : Took
  pub within : IsTookWithin took (take SHARE (drop before.told text))
  pub takes : TakesFront (taken before.visitor) (taken after.visitor) took
      (take SHARE (drop before.told text))
  pub goes_is : goes ≡ goes_on took after.told (length text)
  pub told_is : after.told ≡ before.told + count_of took
  pub left_is : left after.visitor ≡ left before.visitor
  pub heard_is : after.heard ≡ before.heard
  pub answer_is : after.answer ≡ before.answer
  pub rounds_is : after.rounds ≡ before.rounds

-- one without an answer is heard, and one with an answer isn't
abbrev pub Hears : {V : Type 0} → (V → Option (List ℕ)) → (V → Option (List ℕ)) → List ℕ → List ℕ
    → Option (List ℕ) → Seen V → Seen V → Bool → Type 0
Hears left taken page state None before after goes =
    IsHeard left taken page state before after goes
Hears left taken page state (Some _) before after goes = (after ≡ before) × (goes ≡ true)

-- one with an answer is told, and one without isn't
abbrev pub Tells : {V : Type 0} → (V → Option (List ℕ)) → (V → Option (List ℕ))
    → Option (List ℕ) → Seen V → Seen V → Bool → Type 0
Tells left taken None before after goes = (after ≡ before) × (goes ≡ true)
Tells left taken (Some text) before after goes = IsTold left taken text before after goes

-- what is told after what was heard
abbrev pub TellsThen : {V : Type 0} → (V → Option (List ℕ)) → (V → Option (List ℕ)) → Bool
    → Seen V → Seen V → Bool → Type 0
TellsThen left taken true before after goes =
    Tells left taken before.answer before after goes
TellsThen left taken false before after goes = (after ≡ before) × (goes ≡ false)

-- One is heard, if it has no answer yet, and is then told, if it has one.
pub record IsSeen {V : Type 0} (left taken : V → Option (List ℕ)) (page state : List ℕ)
    (before after : Seen V) (stays : Bool) : Type 0 where
  pub heard : Seen V
  pub goes : Bool
  pub hears : Hears left taken page state before.answer (longer before) heard goes
  pub tells : TellsThen left taken goes heard after stays

-- what becomes of one, by whether it may stay for another round
abbrev pub SeesSo : {V : Type 0} → (V → Option (List ℕ)) → (V → Option (List ℕ)) → List ℕ → List ℕ
    → Bool → Seen V → Seen V → Bool → Type 0
SeesSo left taken page state true before after stays =
    IsSeen left taken page state before after stays
SeesSo left taken page state false before after stays = (after ≡ before) × (stays ≡ false)

-- A visitor before and after a round, and whether it stays.
pub record Turn (V : Type 0) : Type 0 where
  pub before : Seen V
  pub after : Seen V
  pub stays : Bool

-- what a round with this page and this state makes of a visitor
abbrev pub IsTurn : {V : Type 0} → (V → Option (List ℕ)) → (V → Option (List ℕ)) → List ℕ → List ℕ
    → Turn V → Type 0
IsTurn left taken page state turn =
    SeesSo left taken page state (nat_lt turn.before.rounds PATIENCE) turn.before turn.after
    turn.stays
