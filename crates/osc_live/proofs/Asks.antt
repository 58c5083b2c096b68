-- A job on the server: what it finds, and what it leaves.
use Rattle.std.proofs.Common.{◌≡◌, ℕ, ◌<◌, ◌≤◌, Bool, true, false, List, [], ◌∷◌, ◌++◌, length, length-append, Option, Some, None, MatchBool, nat_lt, refl, sym}
use Rattle.std.proofs.Common.{ap}
use Rattle.std.proofs.Common.{subst, ◌∙◌, arith}
use Rattle.std.specs.Prelude.{if◌then◌else◌, IsSomeAnd}
use Rattle.std.specs.List.{cons_option}
use Rattle.std.proofs.lemmas.List.Elements.{filter_map-append}
use Rattle.osc_model.specs.Limits.{Limits}
use Rattle.osc_model.specs.State.{opening}
use Rattle.osc_model.specs.Enrolled.{callers_in}
use Rattle.osc_model.specs.Events.{Event, Answer, adds_entry, Entry}
use Rattle.osc_model.specs.Heard.{Told}
use Rattle.osc_model.specs.History.{Legal, after, Performance, state_of, stepped_in, onward}
use Rattle.osc_record.specs.Reading.{entry_in}
use Rattle.osc_core.specs.Standing.{text_with, AreTexts, as_many, history_in, StandsFor}
use Rattle.osc_turn.specs.History.{StartsWith}
use Rattle.osc_turn.specs.Jobs.{IsNext}
use Rattle.osc_turn.specs.declared.tried.Tried.{Tried}
use Rattle.osc_turn.specs.declared.tried.Tried.TheVariants.{Done, Busy}
use Rattle.osc_turn.specs.Answers.{IfDone, IfBusy}
use Rattle.osc_live.specs.Seen.{performance_in}
use Rattle.osc_live.specs.Calls.{AddsText, Plays}
use Rattle.osc_live.specs.Asked.{Did}
use Rattle.std.proofs.lemmas.List.{append-nil}
use Rattle.std.proofs.lemmas.Bool.{lt-ltb, le-ltb}

-- The caller is enrolled.

pub history_starts : (all seen : List (List ℕ)) → StartsWith all seen → StartsWith (history_in all) (history_in seen)
history_starts all seen (rest, is) = (history_in rest, ap history_in is ∙ filter_map-append entry_in seen rest)

abbrev pub Grow : Type 0
Grow = (history more : List Entry) → callers_in history ≤ callers_in (history ++ more)

abbrev pub Count : Type 0
Count = (caps : Limits) (history : List Entry) → Legal caps history → (after (opening caps) history).callers ≡ callers_in history

pub enrolled_more : Grow → (all seen : List (List ℕ)) (number : ℕ) → StartsWith all seen → number < callers_in (history_in seen)
    → number < callers_in (history_in all)
enrolled_more grows all seen number starts enrolled =
    let more = history_starts all seen starts in
    omega (arith, enrolled, grows (history_in seen) more.0, ap callers_in more.1)

pub enrolled_there : Grow → Count → (performance : Performance) (boxes : List Told) (before seen : List (List ℕ)) (number : ℕ)
    → StandsFor performance boxes before → StartsWith before seen → number < callers_in (history_in seen)
    → number < (state_of performance).callers
enrolled_there grows counts performance boxes before seen number stands starts enrolled =
    omega (arith, enrolled_more grows before seen number starts enrolled, ap callers_in stands.read, counts performance.caps performance.history stands.legal)

-- An event was played.

last_is : (xs : List Entry) (x y : Entry) → xs ++ x ∷ [] ≡ xs ++ y ∷ [] → x ≡ y
last_is [] x y e = cc
last_is (z ∷ xs) x y e = last_is xs x y (let rest : xs ++ x ∷ [] ≡ xs ++ y ∷ [] = cc in rest)

-- what is read after what was read is the last entry
last_read : (before : List (List ℕ)) (text : List ℕ) (history : List Entry) (one : Entry) → history_in before ≡ history
    → history_in (before ++ text ∷ []) ≡ history ++ one ∷ [] → entry_in text ≡ Some one
last_read before text history one is all =
    go (entry_in text) refl (sym (ap (λ (h : List Entry). h ++ history_in (text ∷ [])) is) ∙ sym (filter_map-append entry_in before (text ∷ [])) ∙ all) where
      go : (o : Option Entry) → entry_in text ≡ o → history ++ cons_option o [] ≡ history ++ one ∷ [] → entry_in text ≡ Some one
      go None found same = absurd (omega (arith, ap length same, length-append history [], length-append history (one ∷ [])))
      go (Some other) found same = found ∙ ap (λ (e : Entry). Some e) (last_is history other one same)

last_written : (entries : List Entry) (texts : List (List ℕ)) (one : Entry) (text : List ℕ) → length texts ≡ length entries
    → AreTexts (entries ++ one ∷ []) (texts ++ text ∷ []) → (mark : List ℕ) × (text ≡ text_with mark one)
last_written [] [] one text same are = are.0
last_written [] (t ∷ texts) one text same are = absurd (omega (arith, same))
last_written (e ∷ entries) [] one text same are = absurd (omega (arith, same))
last_written (e ∷ entries) (t ∷ texts) one text same are = last_written entries texts one text (omega (arith, same)) are.1

-- the server stood for some texts, an event was answered, and then it stands for the next texts
pub plays : (caps : Limits) (old new : Performance) (boxes others : List Told) (caller : ℕ) (event : Event) (answer : Answer) (before after : List (List ℕ))
    → StandsFor old boxes before → StandsFor new others after
    → old.caps ≡ caps → new ≡ onward old caller event → answer ≡ (stepped_in old event).answer → new.caps ≡ old.caps → IsNext (adds_entry answer) before after
    → Plays caps caller event answer before after
plays caps old new boxes others caller event answer before after one two limits onwards is same next = record {
  legal = subst (λ (l : Limits). Legal l (history_in after)) (same ∙ limits) (subst (Legal new.caps) (sym two.read) two.legal);
  written = subst (λ (h : List Entry). AreTexts h after) (sym two.read) two.written;
  answered = is ∙ ap (λ (p : Performance). (stepped_in p event).answer) whole;
  added = go (adds_entry answer) refl next;
}
  where
    whole : old ≡ performance_in caps before
    whole = λ i. record { caps = limits i; history = sym one.read i }

    entry : Entry
    entry = record { caller = caller; event = event; answer = answer }

    history : adds_entry answer ≡ true → new.history ≡ old.history ++ entry ∷ []
    history adds =
        ap (λ (p : Performance). p.history) onwards
        ∙ ap (λ (a : Answer). (if adds_entry a then record old { history = old.history ++ record { caller = caller; event = event; answer = a } ∷ [] }
        else old).history) (sym is)
        ∙ ap (λ (t : Bool). (if t then record old { history = old.history ++ entry ∷ [] } else old).history) adds

    go : (t : Bool) → adds_entry answer ≡ t → IsNext t before after → MatchBool t (AddsText entry before after) (after ≡ before)
    go true adds (text, last) =
        let read : history_in (before ++ text ∷ []) ≡ old.history ++ entry ∷ [] = sym (ap history_in last) ∙ two.read ∙ history adds in
        let written : AreTexts (old.history ++ entry ∷ []) (before ++ text ∷ []) =
        subst (λ (h : List Entry). AreTexts h (before ++ text ∷ [])) (history adds) (subst (AreTexts new.history) last two.written) in
        let marked = last_written old.history before entry text (as_many old.history before one.written) written in
        record { text = text; mark = marked.0; last = last; text_is = marked.1; read = last_read before text old.history entry one.read read }
    go false adds is = is

-- Whether an entry was added shows in how many there are.

pub grows_by_one : (old new : Performance) (caller : ℕ) (event : Event) (before after : ℕ) → new ≡ onward old caller event → before ≡ length old.history
    → after ≡ length new.history → nat_lt before after ≡ adds_entry (stepped_in old event).answer
grows_by_one old new caller event before after onwards count_before count_after =
    (λ i. nat_lt (count_before i) (count_after i)) ∙ ap (λ (p : Performance). nat_lt (length old.history) (length p.history)) onwards
    ∙ go (adds_entry (stepped_in old event).answer)
  where
    one : Entry
    one = record { caller = caller; event = event; answer = (stepped_in old event).answer }

    go : (t : Bool) → nat_lt (length old.history) (length (if t then record old { history = old.history ++ one ∷ [] } else old).history) ≡ t
    go true = lt-ltb _ _ (omega (arith, length-append old.history (one ∷ [])))
    go false = le-ltb (length old.history) (length old.history) (omega arith)

-- What was asked.

pub next_starts : (t : Bool) (before after : List (List ℕ)) → IsNext t before after → StartsWith after before
next_starts true before after (text, is) = (text ∷ [], is)
next_starts false before after is = ([], is ∙ sym (append-nil before))

pub did_so : {A B : Type 0} (event : A → Event) (says : B → Answer → Type 0) (tells : A → B → Limits → List (List ℕ) → Type 0) (caps : Limits) (caller : ℕ)
    (asked : Option A) (given : Option B) (a : A) (b : B) (before after : List (List ℕ)) → asked ≡ Some a → given ≡ Some b
    → (answer : Answer) × says b answer × Plays caps caller (event a) answer before after × tells a b caps after
    → Did event says tells caps caller asked given before after
did_so event says tells caps caller asked given a b before after is has facts =
    subst (λ (o : Option _). Did event says tells caps caller o given before after) (sym is)
    (subst (λ (o : Option _). Did event says tells caps caller (Some a) o before after) (sym has) facts)

pub some_there : {B : Type 0} (P : B → Type 0) (given : Option B) (b : B) → given ≡ Some b → IsSomeAnd given P → P b
some_there P given b is there = subst (λ (o : Option _). IsSomeAnd o P) is there

pub done_there : (P : Bool → Type 0) (tried : Tried) (ran : Bool) → tried ≡ Done ran → IfDone tried P → P ran
done_there P tried ran is there = subst (λ (t : Tried). IfDone t P) is there

pub busy_there : (P : ℕ → Type 0) (tried : Tried) (found : ℕ) → tried ≡ Busy found → IfBusy tried P → P found
busy_there P tried found is there = subst (λ (t : Tried). IfBusy t P) is there
