-- Releases, one after another.
use Rattle.std.proofs.Common.{◌≡◌, ℕ, zero, suc, ◌+◌, ◌≤◌, ◌==◌, Bool, true, false, cond, List, [], ◌∷◌, length, length-append, refl, sym, ap, subst, ◌∙◌}
use Rattle.std.proofs.Common.{add-one, arith}
use Rattle.std.proofs.lemmas.List.{length-map}
use Rattle.osc_model.specs.Limits.{Limits}
use Rattle.osc_model.specs.Events.{Event, Answer, release, released, adds_entry}
use Rattle.osc_core.specs.declared.answers.Releasing.{Releasing}
use Rattle.osc_core.specs.declared.answers.Releasing.TheVariants as releasing
use Rattle.osc_core.specs.Answers.{TellsRelease}
use Rattle.osc_core.specs.Standing.{as_many}
use Rattle.osc_core.proofs.Texts.{few_legal}
use Rattle.osc_turn.specs.declared.view.Entry.{Entry as Seen}
use Rattle.osc_turn.specs.declared.view.View.{View}
use Rattle.osc_turn.specs.History.{text_of, texts, entry, own}
use Rattle.osc_turn.specs.Rule.{number_of}
use Rattle.osc_live.specs.Seen.{history_of}
use Rattle.std.specs.Prelude.{MatchBool}
use Rattle.osc_live.specs.Calls.{EndsWith, AddsNone, Calls}
use Rattle.osc_live.specs.Pumps.{ReleasesOne, Releases}

-- so few entries are seen
pub seen_few : (caps : Limits) (caller : ℕ) (event : Event) (answer : Answer) (v w : View) → Calls caps caller event answer v w → length w.seen ≤ 1073741824
seen_few caps caller event answer v w calls =
    omega (arith, few_legal caps (history_of w) calls.legal, as_many (history_of w) (texts w.seen) calls.written, length-map w.seen text_of)

pub own_few : (n : ℕ) (xs : List Seen) → length (own n xs) ≤ length xs
own_few n [] = omega arith
own_few n (x ∷ xs) = go (x.number == n) (own_few n xs) where
  go : (t : Bool) → length (own n xs) ≤ length xs → length (cond t (x ∷ own n xs) (own n xs)) ≤ length (x ∷ xs)
  go true few = omega arith
  go false few = omega arith

-- one release is one own entry more
own_one : (caps : Limits) (caller calls : ℕ) (v w : View) → ReleasesOne caps caller calls v w
    → (number_of w ≡ number_of v) × (length (own (number_of v) w.seen) ≡ length (own (number_of v) v.seen) + 1)
own_one caps caller calls v w (unit, hits, is, call) =
    let ends : EndsWith caps caller release (released unit hits) v w = call.answered in
    (ap number_of call.once, omega (arith, ap length ends.own_once, length-append (own (number_of v) v.seen) (entry (number_of v) ends.text ∷ [])))

own_count : (caps : Limits) (caller count calls : ℕ) (v w : View) → Releases caps caller count calls v w
    → (number_of w ≡ number_of v) × (length (own (number_of v) w.seen) ≡ length (own (number_of v) v.seen) + count)
own_count caps caller zero calls v w (is, none) = (ap number_of is, omega (arith, ap (λ (u : View). length (own (number_of v) u.seen)) is))
own_count caps caller (suc count) calls v w (between, before, last, is, earlier, one) =
    let most = own_count caps caller count before v between earlier in
    let more = own_one caps caller last between w one in
    let here = subst (λ (n : ℕ). length (own n w.seen) ≡ length (own n between.seen) + 1) most.0 more.1 in
    (more.0 ∙ most.0, omega (arith, most.1, here))

-- one release more
pub released_more : (caps : Limits) (caller count calls made : ℕ) (v between w : View) → Releases caps caller count calls v between
    → ReleasesOne caps caller made between w → Releases caps caller (count + 1) (calls + made) v w
released_more caps caller count calls made v between w earlier one =
    subst (λ (n : ℕ). Releases caps caller n (calls + made) v w) (sym (add-one count)) (between, calls, made, refl, earlier, one)

-- so many releases can be counted
pub count_few : (caps : Limits) (caller count calls : ℕ) (event : Event) (answer : Answer) (v between w : View) → Releases caps caller count calls v between
    → Calls caps caller event answer between w → adds_entry answer ≡ true → count + 1 ≤ 1073741824
count_few caps caller count calls event answer v between w earlier call adds =
    let most = own_count caps caller count calls v between earlier in
    let ends : EndsWith caps caller event answer between w =
    subst (λ (t : Bool). MatchBool t (EndsWith caps caller event answer between w) (AddsNone caps event answer between w)) adds call.answered in
    let here : length (own (number_of between) w.seen) ≡ length (own (number_of between) between.seen) + 1 =
    omega (arith, ap length ends.own_once, length-append (own (number_of between) between.seen) (entry (number_of between) ends.text ∷ [])) in
    let there = subst (λ (n : ℕ). length (own n w.seen) ≡ length (own n between.seen) + 1) most.0 here in
    omega (arith, most.1, there, own_few (number_of v) w.seen, seen_few caps caller event answer between w call)

-- what a release is told, where it is told that a unit was released
pub told_released : (caps : Limits) (caller unit made : ℕ) (given : Releasing) (v w : View) → given ≡ releasing.Released unit made
    → (answer : Answer) × TellsRelease given answer × Calls caps caller release answer v w → ReleasesOne caps caller made v w
told_released caps caller unit made given v w is (answer, tells, call) =
    let told : TellsRelease (releasing.Released unit made) answer = subst (λ (r : Releasing). TellsRelease r answer) is tells in
    (unit, told.0, told.2, subst (λ (a : Answer). Calls caps caller release a v w) told.1 call)
