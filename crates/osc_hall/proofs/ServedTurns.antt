-- What a turn and a round keep of what visitors were told.
use Rattle.std.proofs.Common.{◌≡◌, ℕ, ◌+◌, ◌-◌, ◌≤◌, List, [], ◌∷◌, ◌++◌, length, take, drop, map, Option, Some, None, Bool, true, false, refl, sym, ap, subst, ◌∙◌, arith, nat_lt}
use Rattle.std.specs.Prelude.{option_map, if◌then◌else◌}
use Rattle.std.specs.List.{AllByRecursion, Contains}
use Rattle.std.proofs.ByRecursion.{All-append, All-drop}
use Rattle.std.proofs.lemmas.List.Elements.{Contains-append_left, Contains-append_right}
use Rattle.osc_door.specs.declared.door.Said.{Said}
use Rattle.osc_door.specs.declared.door.Took.{Took}
use Rattle.osc_door.specs.Visitors.{IsFresh, IsTookWithin, TakesFront}
use Rattle.osc_hall.specs.declared.limits.TheConstants.{SHARE, GUESTS, PATIENCE}
use Rattle.osc_hall.specs.Visits.{HasAnswer, IsToldSoFar, text_of}
use Rattle.osc_hall.specs.Turns.{Seen, Turn, IsTurn, SeesSo, Hears, IsHeard, IsHeardAs, Tells, TellsThen, IsTold, just_come, longer, count_of}
use Rattle.osc_hall.specs.Rounds.{staying, with_room, with_comer, with_comers, IsRound}
use Rattle.osc_hall.specs.Served.{Given, IsAnsweredIn, IsServed}
use Rattle.osc_hall.proofs.ToldFronts.{told_more, room_left}

last_given : (given : Given) (one : List ℕ × List ℕ) → Contains (given ++ one ∷ []) one
last_given given one = Contains-append_right given (one ∷ []) one (0, omega arith, refl)

answered_later : (given : Given) (one : List ℕ × List ℕ) (heard : List ℕ) (answer : Option (List ℕ)) → IsAnsweredIn given heard answer
    → IsAnsweredIn (given ++ one ∷ []) heard answer
answered_later given one heard None is = tt
answered_later given one heard (Some text) is = (is.0, Contains-append_left given (one ∷ []) is.0 is.1, is.2)

answered_now : (given : Given) (page state heard : List ℕ) (answer : Option (List ℕ)) → HasAnswer page state heard answer
    → IsAnsweredIn (given ++ (page, state) ∷ []) heard answer
answered_now given page state heard None has = tt
answered_now given page state heard (Some text) has = ((page, state), last_given given (page, state), has)

served_later : {V : Type 0} (taken : V → Option (List ℕ)) (given : Given) (one : List ℕ × List ℕ) (seen : Seen V) → IsServed taken given seen
    → IsServed taken (given ++ one ∷ []) seen
served_later taken given one seen is = record {
  told = is.told;
  within = is.within;
  answered = answered_later given one seen.heard seen.answer is.answered;
}

-- a visitor without an answer has taken nothing
untold : (taken answer new : Option (List ℕ)) (told : ℕ) → answer ≡ None → IsToldSoFar taken told answer → told ≤ length (text_of answer)
    → IsToldSoFar taken told new × (told ≡ 0)
untold taken answer new told none so_far within =
    let zero : told ≡ 0 = omega (arith, within, ap (λ a. length (text_of a)) none) in (
      subst (λ (n : ℕ). IsToldSoFar taken n new) (sym zero)
          (subst (λ (n : ℕ). taken ≡ option_map (λ (t : List ℕ). take n (text_of answer)) taken) zero so_far),
      zero,
    )

heard_answered : {V : Type 0} (given : Given) (page state : List ℕ) (said : Said) (into : List ℕ) (before after : Seen V) (goes : Bool)
    → before.answer ≡ None → IsHeardAs page state said into before after goes
    → IsAnsweredIn (given ++ (page, state) ∷ []) after.heard after.answer
heard_answered given page state (Said.Bytes count) into before after true none comes =
    answered_now given page state after.heard after.answer comes.1
heard_answered given page state (Said.Bytes count) into before after false none comes =
    subst (λ a. IsAnsweredIn (given ++ (page, state) ∷ []) after.heard a) (sym comes) tt
heard_answered given page state Said.Quiet into before after goes none comes =
    subst (λ a. IsAnsweredIn (given ++ (page, state) ∷ []) after.heard a) (sym (comes.1 ∙ none)) tt
heard_answered given page state Said.Gone into before after goes none comes =
    subst (λ a. IsAnsweredIn (given ++ (page, state) ∷ []) after.heard a) (sym (comes.1 ∙ none)) tt

served_heard : {V : Type 0} (left taken : V → Option (List ℕ)) (given : Given) (page state : List ℕ) (before after : Seen V) (goes : Bool)
    → before.answer ≡ None → IsHeard left taken page state before after goes → IsServed taken given before
    → IsServed taken (given ++ (page, state) ∷ []) after
served_heard left taken given page state before after goes none is served =
    let so = untold (taken before.visitor) before.answer after.answer before.told none served.told served.within in
    record {
      told = subst (λ t. IsToldSoFar t after.told after.answer) (sym is.taken_is)
          (subst (λ n. IsToldSoFar (taken before.visitor) n after.answer) (sym is.told_is) so.0);
      within = omega (arith, is.told_is, so.1);
      answered = heard_answered given page state is.said is.into before after goes none is.comes_of_it;
    }

served_hears : {V : Type 0} (left taken : V → Option (List ℕ)) (given : Given) (page state : List ℕ) (answer : Option (List ℕ))
    (before after : Seen V) (goes : Bool) → before.answer ≡ answer → Hears left taken page state answer before after goes
    → IsServed taken given before → IsServed taken (given ++ (page, state) ∷ []) after
served_hears left taken given page state None before after goes is hears served =
    served_heard left taken given page state before after goes is hears served
served_hears left taken given page state (Some text) before after goes is hears served =
    subst (λ s. IsServed taken (given ++ (page, state) ∷ []) s) (sym hears.0) (served_later taken given (page, state) before served)

told_by : (took : Took) (before after : Option (List ℕ)) (told next : ℕ) (text : List ℕ) → IsTookWithin took (take SHARE (drop told text))
    → TakesFront before after took (take SHARE (drop told text)) → next ≡ told + count_of took
    → before ≡ option_map (λ (t : List ℕ). take told text) before → told ≤ length text
    → (after ≡ option_map (λ (t : List ℕ). take next text) after) × (next ≤ length text)
told_by (Took.Bytes count) before after told next text within takes sum so_far before_within = (
  subst (λ (n : ℕ). after ≡ option_map (λ (t : List ℕ). take n text) after) (sym sum)
      (told_more before after told SHARE count text (take SHARE (drop told text)) refl within so_far takes),
  omega (arith, sum, room_left told SHARE count text (take SHARE (drop told text)) refl within before_within),
)
told_by Took.Quiet before after told next text within takes sum so_far before_within =
    let same : told ≡ next = omega (arith, sum) in (
      subst (λ (o : Option (List ℕ)). o ≡ option_map (λ (t : List ℕ). take next text) o) (sym takes)
          (subst (λ (n : ℕ). before ≡ option_map (λ (t : List ℕ). take n text) before) same so_far),
      omega (arith, sum, before_within),
    )
told_by Took.Gone before after told next text within takes sum so_far before_within =
    let same : told ≡ next = omega (arith, sum) in (
      subst (λ (o : Option (List ℕ)). o ≡ option_map (λ (t : List ℕ). take next text) o) (sym takes)
          (subst (λ (n : ℕ). before ≡ option_map (λ (t : List ℕ). take n text) before) same so_far),
      omega (arith, sum, before_within),
    )

served_told : {V : Type 0} (left taken : V → Option (List ℕ)) (given : Given) (text : List ℕ) (before after : Seen V) (goes : Bool)
    → before.answer ≡ Some text → IsTold left taken text before after goes → IsServed taken given before → IsServed taken given after
served_told left taken given text before after goes is told served =
    let same : after.answer ≡ Some text = told.answer_is ∙ is in
    let by = told_by told.took (taken before.visitor) (taken after.visitor) before.told after.told text told.within told.takes told.told_is
    (subst (λ a. IsToldSoFar (taken before.visitor) before.told a) is served.told)
    (subst (λ a. before.told ≤ length (text_of a)) is served.within) in
    record {
      told = subst (λ a. IsToldSoFar (taken after.visitor) after.told a) (sym same) by.0;
      within = subst (λ a. after.told ≤ length (text_of a)) (sym same) by.1;
      answered = subst (λ a. IsAnsweredIn given after.heard a) (sym told.answer_is)
          (subst (λ h. IsAnsweredIn given h before.answer) (sym told.heard_is) served.answered);
    }

served_tells : {V : Type 0} (left taken : V → Option (List ℕ)) (given : Given) (answer : Option (List ℕ)) (before after : Seen V) (goes : Bool)
    → before.answer ≡ answer → Tells left taken answer before after goes → IsServed taken given before → IsServed taken given after
served_tells left taken given None before after goes is tells served = subst (λ s. IsServed taken given s) (sym tells.0) served
served_tells left taken given (Some text) before after goes is tells served =
    served_told left taken given text before after goes is tells served

served_then : {V : Type 0} (left taken : V → Option (List ℕ)) (given : Given) (goes : Bool) (before after : Seen V) (stays : Bool)
    → TellsThen left taken goes before after stays → IsServed taken given before → IsServed taken given after
served_then left taken given true before after stays tells served =
    served_tells left taken given before.answer before after stays refl tells served
served_then left taken given false before after stays tells served = subst (λ s. IsServed taken given s) (sym tells.0) served

served_so : {V : Type 0} (left taken : V → Option (List ℕ)) (given : Given) (page state : List ℕ) (may : Bool) (before after : Seen V)
    (stays : Bool) → SeesSo left taken page state may before after stays → IsServed taken given before
    → IsServed taken (given ++ (page, state) ∷ []) after
served_so left taken given page state true before after stays sees served =
    served_then left taken (given ++ (page, state) ∷ []) sees.goes sees.heard after stays sees.tells
    (served_hears left taken given page state before.answer (longer before) sees.heard sees.goes refl sees.hears
    (record { told = served.told; within = served.within; answered = served.answered }))
served_so left taken given page state false before after stays sees served =
    subst (λ s. IsServed taken (given ++ (page, state) ∷ []) s) (sym sees.0) (served_later taken given (page, state) before served)

-- a turn leaves a visitor served, whether it stays or not
pub served_turn : {V : Type 0} (left taken : V → Option (List ℕ)) (given : Given) (page state : List ℕ) (turn : Turn V)
    → IsTurn left taken page state turn → IsServed taken given turn.before → IsServed taken (given ++ (page, state) ∷ []) turn.after
served_turn left taken given page state turn is served =
    served_so left taken given page state (nat_lt turn.before.rounds PATIENCE) turn.before turn.after turn.stays is served

stays_all : {V : Type 0} (P : Seen V → Type 0) (b : Bool) (seen : Seen V) (more : List (Seen V)) → P seen → AllByRecursion P more
    → AllByRecursion P (if b then seen ∷ more else more)
stays_all P true seen more p all = (p, all)
stays_all P false seen more p all = all

served_turns : {V : Type 0} (left taken : V → Option (List ℕ)) (given : Given) (page state : List ℕ) (turns : List (Turn V))
    → AllByRecursion (IsTurn left taken page state) turns → AllByRecursion (IsServed taken given) (map (λ turn. turn.before) turns)
    → AllByRecursion (IsServed taken (given ++ (page, state) ∷ [])) (staying turns)
served_turns left taken given page state [] each all = tt
served_turns left taken given page state (t ∷ turns) each all =
    stays_all (IsServed taken (given ++ (page, state) ∷ [])) t.stays t.after (staying turns)
    (served_turn left taken given page state t each.0 all.0)
    (served_turns left taken given page state turns each.1 all.1)

served_new : {V : Type 0} (taken : V → Option (List ℕ)) (given : Given) (visitor : V) → IsFresh (taken visitor)
    → IsServed taken given (just_come visitor)
served_new taken given visitor fresh = record { told = fresh; within = omega arith; answered = tt }

served_comers : {V : Type 0} (taken : V → Option (List ℕ)) (given : Given) (guests : List (Seen V)) (comers : List V)
    → AllByRecursion (λ visitor. IsFresh (taken visitor)) comers → AllByRecursion (IsServed taken given) guests
    → AllByRecursion (IsServed taken given) (with_comers guests comers)
served_comers taken given guests [] fresh all = all
served_comers taken given guests (c ∷ comers) fresh all =
    served_comers taken given (with_comer guests c) comers fresh.1
    (All-append (IsServed taken given) (with_room guests) (just_come c ∷ [])
    (All-drop (IsServed taken given) (length guests + 1 - GUESTS) guests all) (served_new taken given c fresh.0, tt))

-- so does a round, to each that is there after it
pub served_round : {V : Type 0} (left taken : V → Option (List ℕ)) (given : Given) (page state : List ℕ) (before after : List (Seen V))
    → AllByRecursion (IsServed taken given) before → IsRound left taken page state before after
    → AllByRecursion (IsServed taken (given ++ (page, state) ∷ [])) after
served_round left taken given page state before after all round =
    let there = subst (λ l. AllByRecursion (IsServed taken given) l) (sym round.come.after_is)
    (served_comers taken given before round.come.comers round.come.fresh all) in
    subst (λ l. AllByRecursion (IsServed taken (given ++ (page, state) ∷ [])) l) (sym round.seen.after_is)
    (served_turns left taken given page state round.seen.turns round.seen.each
    (subst (λ l. AllByRecursion (IsServed taken given) l) (sym round.seen.before_is) there))
