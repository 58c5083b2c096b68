-- A history in which all entries are one token's own: that of a server whose enrolments were refused.
use Rattle.std.proofs.Common.{◌≡◌, inl, inr, ℕ, ◌≤◌, ◌==◌, Bool, true, false, cond, List, [], ◌∷◌, ◌++◌, length, map, All, Option, Some, None, refl, sym, ap, subst}
use Rattle.std.proofs.Common.{◌∙◌, append-nil, length-append, arith}
use Rattle.std.specs.List.{AllByRecursion}
use Rattle.std.specs.Option.{option_to_list}
use Rattle.std.proofs.lemmas.Bool.Decides.{nat_tests}
use Rattle.std.proofs.lemmas.List.Elements.{All-head, All-tail}
use Rattle.osc_model.specs.Limits.{Limits}
use Rattle.osc_model.specs.Events.{enrol, number}
use Rattle.osc_model.specs.Heard.{Told}
use Rattle.osc_record.specs.Shown.{room_of}
use Rattle.osc_turn.specs.declared.view.Entry.{Entry as Seen}
use Rattle.osc_turn.specs.declared.view.View.{View}
use Rattle.osc_turn.specs.History.{StartsWith, entry, own, texts}
use Rattle.osc_turn.specs.Numbers.{only, times}
use Rattle.osc_turn.specs.Passes.{view}
use Rattle.osc_turn.specs.Rule.{number_of}
use Rattle.osc_live.specs.declared.caller.Caller.{Caller}
use Rattle.osc_live.specs.declared.guest.EnrolRefusal.{EnrolRefusal}
use Rattle.osc_live.specs.declared.guest.EnrolRefusal.TheVariants as refusal
use Rattle.osc_live.specs.Calls.{Calls}
use Rattle.osc_live.specs.Closing.{Closes}
use Rattle.osc_live.specs.Enrolments.{refusal_of}
use Rattle.osc_uses.specs.Live.{HasEnrolCause, HasEnrolledOne, IsRefused, own_entries}
use Rattle.osc_uses.proofs.Enrolling.{AreFew, full_for, room_for}

-- these tokens have no entries
abbrev HaveNone : List ℕ → List Seen → Type 0
HaveNone others entries = AllByRecursion (λ other. own other entries ≡ []) others

-- what a token without entries has later
none_later : (other : ℕ) (one : Seen) (entries : List Seen) → own other (one ∷ entries) ≡ [] → own other entries ≡ []
none_later other one entries none = go (one.number == other) none where
  go : (t : Bool) → cond t (one ∷ own other entries) (own other entries) ≡ [] → own other entries ≡ []
  go true is = absurd (cc)
  go false is = is

all_later : (others : List ℕ) (one : Seen) (entries : List Seen) → HaveNone others (one ∷ entries) → HaveNone others entries
all_later [] one entries none = tt
all_later (other ∷ others) one entries none = (none_later other one entries none.0, all_later others one entries none.1)

-- a number that isn't this one doesn't count
not_it : (this other : ℕ) → this == other ≡ false → only this other ≡ 0
not_it this other apart = go (other == this) refl where
  go : (t : Bool) → other == this ≡ t → ◌≡◌ {A = ℕ} (cond t 1 0) 0
  go true same = absurd (let back : this == other ≡ true = grind (arith, nat_tests) in cc)
  go false same = refl

-- it isn't among those without entries
not_among : (others : List ℕ) (one : Seen) (entries : List Seen) → HaveNone others (one ∷ entries) → times one.number others ≡ 0
not_among [] one entries none = refl
not_among (other ∷ others) one entries none = go (one.number == other) refl none.0 (not_among others one entries none.1) where
  go : (t : Bool) → one.number == other ≡ t → cond t (one ∷ own other entries) (own other entries) ≡ []
      → times one.number others ≡ 0 → times one.number (other ∷ others) ≡ 0
  go true is holds rest = absurd (cc)
  go false is holds rest = omega (arith, rest, not_it one.number other is)

-- where each entry is of one of these tokens, and all but the first have none
all_own : (first : ℕ) (others : List ℕ) (entries : List Seen) → All (λ one. times one.number (first ∷ others) ≡ 1) entries → HaveNone others entries
    → own first entries ≡ entries
all_own first others [] each none = refl
all_own first others (one ∷ entries) each none =
    go (one.number == first) refl
    (all_own first others entries (All-tail (λ one. times one.number (first ∷ others) ≡ 1) one entries each) (all_later others one entries none)) where
      go : (t : Bool) → one.number == first ≡ t → own first entries ≡ entries → cond t (one ∷ own first entries) (own first entries) ≡ one ∷ entries
      go true is rest = ap (λ (l : List Seen). one ∷ l) rest
      go false is rest =
          absurd (omega (
            arith,
            All-head (λ one. times one.number (first ∷ others) ≡ 1) one entries each,
            not_among others one entries none,
            not_it one.number first is,
          ))

-- own entries are no more than all
few_own : (first : ℕ) (entries : List Seen) → length (own first entries) ≤ length entries
few_own first [] = omega arith
few_own first (one ∷ entries) = go (one.number == first) (few_own first entries) where
  go : (t : Bool) → length (own first entries) ≤ length entries → length (cond t (one ∷ own first entries) (own first entries)) ≤ length (one ∷ entries)
  go true rest = omega (arith, rest)
  go false rest = omega (arith, rest)

no_more : (rest : List Seen) → length rest ≡ 0 → rest ≡ []
no_more [] none = refl
no_more (one ∷ rest) none = absurd (omega (arith, none))

-- a token that has seen all of its own entries, in a history of its own entries alone, has seen all
seen_own : (first : ℕ) (others : List ℕ) (history seen : List Seen) → All (λ one. times one.number (first ∷ others) ≡ 1) history
    → HaveNone others history → StartsWith history seen → own first history ≡ own first seen → seen ≡ own first seen
seen_own first others history seen each none (rest, split) owned =
    let all : own first history ≡ history = all_own first others history each none in
    let is : history ≡ own first seen = sym all ∙ owned in
    let gone : rest ≡ [] =
    no_more rest (omega (arith, ap length is, ap length split, length-append seen rest, few_own first seen)) in
    sym (append-nil seen) ∙ (ap (λ (l : List Seen). seen ++ l) (sym gone) ∙ (sym split ∙ is))

-- what comes before the last one
before_own : (before others : List Seen) (one : Seen) → before ++ one ∷ [] ≡ others ++ one ∷ [] → before ≡ others
before_own [] [] one is = refl
before_own [] (other ∷ others) one is = absurd (omega (arith, ap length is, length-append others (one ∷ [])))
before_own (first ∷ before) [] one is = absurd (omega (arith, ap length is, length-append before (one ∷ [])))
before_own (first ∷ before) (other ∷ others) one is =
    let same : first ≡ other = cc in
    let rest : before ++ one ∷ [] ≡ others ++ one ∷ [] = cc in
    (λ i. same i ∷ before_own before others one rest i)

-- The tokens of a server that is closed.

abbrev IsOwned : List Seen → View → Type 0
IsOwned history v = own (number_of v) history ≡ own (number_of v) v.seen

none_owned : (history : List Seen) (others : List View) → All (IsOwned history) others → AllByRecursion (λ v. own_entries v ≡ []) others
    → HaveNone (map number_of others) history
none_owned history [] owned none = tt
none_owned history (v ∷ others) owned none = (
  All-head (IsOwned history) v others owned ∙ none.0,
  none_owned history others (All-tail (IsOwned history) v others owned) none.1,
)

-- where no other token has made an entry, the first has seen its own alone
own_alone : (caps : Limits) (callers : List (ℕ × View)) (first : View) (others : List View) (bytes : List ℕ) (kept : List Told)
    → Closes caps [] callers (first ∷ others) bytes kept → AllByRecursion (λ v. own_entries v ≡ []) others → first.seen ≡ own_entries first
own_alone caps callers first others bytes kept closes none =
    seen_own (number_of first) (map number_of others) closes.history first.seen closes.each_once
    (none_owned closes.history others (All-tail (IsOwned closes.history) first others closes.owned) none)
    (All-head (λ v. StartsWith closes.history v.seen) first others closes.carried) (All-head (IsOwned closes.history) first others closes.owned)

few_of : (second : Option Caller) (v : View) → HasEnrolledOne second v → AreFew (texts (own_entries v))
few_of None v none = inl (ap texts none)
few_of (Some second) v (one, enrols, is, none) =
    inr (one.text, record { caller = 0; event = enrol; answer = number second.number }, refl, enrols, ap texts is)

caused : (caps : Limits) (why : EnrolRefusal) (before w : View) → w.seen ≡ own_entries w → AreFew (texts (own_entries before))
    → Calls caps 0 enrol (refusal_of why) before w → HasEnrolCause caps why
caused caps refusal.CallersFull before w alone few call =
    let ends = call.answered in
    let named : number_of w ≡ number_of before = ap number_of call.once in
    let all : w.seen ≡ own_entries before ++ entry (number_of before) ends.text ∷ [] =
    alone ∙ (ap (λ (n : ℕ). own n w.seen) named ∙ ends.own_once) in
    let same : ends.before ≡ own_entries before = before_own ends.before (own_entries before) (entry (number_of before) ends.text) (sym ends.last ∙ all) in
    full_for caps (texts ends.before) (subst (λ (l : List Seen). AreFew (texts l)) (sym same) few) ends.answered
caused caps (refusal.RecordFull room) before w alone few call =
    let none = call.answered in
    let named : number_of w ≡ number_of before = ap number_of call.once in
    let all : w.seen ≡ own_entries before = alone ∙ (ap (λ (n : ℕ). own n w.seen) named ∙ none.own_same) in
    room_for caps (texts w.seen) (room_of room) (subst (λ (l : List Seen). AreFew (texts l)) (sym all) few) none.answered

-- why a guest wasn't enrolled, where the server was closed with all tokens
pub refused_cause : (caps : Limits) (second : Option Caller) (why : EnrolRefusal) (first guest : View) (callers : List (ℕ × View)) (views : List View)
    (bytes : List ℕ) (kept : List Told) → IsRefused caps second why guest first
    → views ≡ first ∷ (map (λ caller. view caller.pass) (option_to_list second) ++ guest ∷ [])
    → Closes caps [] callers views bytes kept → HasEnrolCause caps why
refused_cause caps None why first guest callers views bytes kept refused are closes =
    caused caps why refused.before first
    (own_alone caps callers first (guest ∷ []) bytes kept (subst (λ (l : List View). Closes caps [] callers l bytes kept) are closes) (refused.no_entries, tt))
    (few_of None refused.before refused.enrolled) refused.call
refused_cause caps (Some second) why first guest callers views bytes kept refused are closes =
    caused caps why refused.before first
    (own_alone caps callers first (view second.pass ∷ guest ∷ []) bytes kept (subst (λ (l : List View). Closes caps [] callers l bytes kept) are closes)
    (refused.enrolled.3, (refused.no_entries, tt))) (few_of (Some second) refused.before refused.enrolled) refused.call
