-- A call that took the turn and was answered.
use Rattle.std.proofs.Common.{◌≡◌, ℕ, zero, suc, ◌+◌, ◌<◌, ◌==◌, Bool, true, false, cond, ◌&&◌, List, [], ◌∷◌, ◌++◌, length, length-append, drop, Option, Some}
use Rattle.std.proofs.Common.{MatchBool}
use Rattle.std.proofs.Common.{refl, sym}
use Rattle.std.proofs.Common.{ap, subst, ◌∙◌, arith}
use Rattle.std.specs.List.{list_all}
use Rattle.std.specs.Option.{option_map_or}
use Rattle.std.proofs.lemmas.Bool.{eq-eqb}
use Rattle.std.proofs.lemmas.List.{length-map}
use Rattle.osc_model.specs.Limits.{Limits}
use Rattle.osc_model.specs.Enrolled.{callers_in}
use Rattle.osc_model.specs.Events.{Event, Answer, adds_entry, Entry}
use Rattle.osc_record.specs.Reading.{entry_in}
use Rattle.osc_turn.specs.declared.view.Entry.{Entry as Seen}
use Rattle.osc_turn.specs.declared.view.View.{View}
use Rattle.osc_turn.specs.History.{StartsWith, texts, text_of, entry, own}
use Rattle.osc_turn.specs.Rule.{number_of}
use Rattle.osc_turn.specs.Answers.{TakesOnce, TakesNone, FindsFree, KeepsOwn, Ran}
use Rattle.osc_turn.proofs.Histories.{own_append, own_of_mine, starts_texts, texts_append}
use Rattle.osc_model.specs.History.{stepped_in}
use Rattle.osc_live.specs.Seen.{history_of, performance_in, names, old_own, names_own}
use Rattle.osc_live.specs.Calls.{AddsText, Plays, EndsWith, AddsNone, TakesTurn, Calls}
use Rattle.osc_live.proofs.Asks.{Grow, enrolled_more}

-- The answer tells whether the job added an entry.

pub texts_more : (found : List Seen) (one : Seen) → texts (found ++ one ∷ []) ≡ texts found ++ one.text ∷ []
texts_more found one = texts_append found (one ∷ [])

adds_same : (ran adds : Bool) (number : ℕ) (found seen : List Seen) (one : Entry)
    → MatchBool ran ((text : List ℕ) × (seen ≡ found ++ entry number text ∷ [])) (seen ≡ found)
    → MatchBool adds (AddsText one (texts found) (texts seen)) (texts seen ≡ texts found) → ran ≡ adds
adds_same true true number found seen one then added = refl
adds_same false false number found seen one then added = refl
adds_same true false number found seen one then added =
    absurd (omega (arith, ap length then.1, length-append found (entry number then.0 ∷ []), ap length added, length-map seen text_of, length-map found text_of))
adds_same false true number found seen one then added =
    absurd (omega
    (arith, ap length then, ap length added.last, length-append (texts found) (added.text ∷ []), length-map seen text_of, length-map found text_of))

text_same : (found : List (List ℕ)) (x y : List ℕ) → found ++ x ∷ [] ≡ found ++ y ∷ [] → x ≡ y
text_same [] x y e = cc
text_same (first ∷ found) x y e = text_same found x y (let rest : found ++ x ∷ [] ≡ found ++ y ∷ [] = cc in rest)

own_then : (number : ℕ) (found seen past : List Seen) (text : List ℕ) → own number found ≡ own number past → seen ≡ found ++ entry number text ∷ []
    → own number seen ≡ own number past ++ entry number text ∷ []
own_then number found seen past text same is =
    ap (own number) is ∙ own_append number found (entry number text ∷ []) ∙ ap (λ (l : List Seen). l ++ own number (entry number text ∷ [])) same
    ∙ ap (λ (l : List Seen). own number past ++ l) (own_of_mine number (entry number text) refl)

pub takes : (v w : View) → TakesOnce v w → TakesTurn v w
takes v w once = once ∙ ap (λ olds. record v { seen = w.seen; olds = olds; words = w.words; taken = v.taken + 1 }) (sym (ap (λ (z : View). z.olds) once))

-- what a call says, by what the turn says of it and what its job did
pub calls : {J : Type 0} (did : J → J → List (List ℕ) → List (List ℕ) → Type 0) (old new : J) (caps : Limits) (caller : ℕ) (event : Event) (answer : Answer)
    (ran : Bool) (v w : View) → StartsWith w.seen v.seen → TakesOnce v w → FindsFree ran v w
    → (r : Ran did old new ran v w) → Plays caps caller event answer (texts r.found) (texts w.seen) → Calls caps caller event answer v w
calls did old new caps caller event answer ran v w starts once counted r plays = record {
  goes_on = starts;
  legal = plays.legal;
  written = plays.written;
  answered = go (adds_entry answer)
      (subst (λ (t : Bool). MatchBool t ((text : List ℕ) × (w.seen ≡ r.found ++ entry (number_of v) text ∷ [])) (w.seen ≡ r.found)) same r.then_seen)
      plays.added;
  once = takes v w once;
  counted = subst (λ (t : Bool). FindsFree t v w) same counted;
}
  where
    one : Entry
    one = record { caller = caller; event = event; answer = answer }

    same : ran ≡ adds_entry answer
    same = adds_same ran (adds_entry answer) (number_of v) r.found w.seen one r.then_seen plays.added

    go : (t : Bool) → MatchBool t ((text : List ℕ) × (w.seen ≡ r.found ++ entry (number_of v) text ∷ [])) (w.seen ≡ r.found)
        → MatchBool t (AddsText one (texts r.found) (texts w.seen)) (texts w.seen ≡ texts r.found)
        → MatchBool t (EndsWith caps caller event answer v w) (AddsNone caps event answer v w)
    go true (text, last) added =
        let at : added.text ≡ text =
        text_same (texts r.found) added.text text (sym added.last ∙ ap texts last ∙ texts_more r.found (entry (number_of v) text)) in
        record {
          before = r.found;
          text = text;
          mark = added.mark;
          last = last;
          text_is = sym at ∙ added.text_is;
          read = ap entry_in (sym at) ∙ added.read;
          answered = plays.answered;
          own_once = own_then (number_of v) r.found w.seen v.seen text r.no_other_own last;
        }
    go false last added = record {
      answered = plays.answered ∙ ap (λ (l : List (List ℕ)). (stepped_in (performance_in caps l) event).answer) (sym added);
      own_same = ap (own (number_of v)) last ∙ r.no_other_own;
    }

-- The caller's token stays the caller's.

all_more : (p : Seen → Bool) (xs : List Seen) (x : Seen) → list_all p xs ≡ true → p x ≡ true → list_all p (xs ++ x ∷ []) ≡ true
all_more p [] x all one = rw one refl
all_more p (y ∷ xs) x all one = go (p y) all (all_more p xs x) where
  go : (t : Bool) → (t && list_all p xs) ≡ true → (list_all p xs ≡ true → p x ≡ true → list_all p (xs ++ x ∷ []) ≡ true)
      → (t && list_all p (xs ++ x ∷ [])) ≡ true
  go true all rest = rest all one
  go false all rest = absurd (cc)

-- the same of all but the first elements
all_drop_more : (p : Seen → Bool) (k : ℕ) (xs : List Seen) (x : Seen) → list_all p (drop k xs) ≡ true → p x ≡ true
    → list_all p (drop k (xs ++ x ∷ [])) ≡ true
all_drop_more p zero xs x all one = all_more p xs x all one
all_drop_more p (suc zero) [] x all one = refl
all_drop_more p (suc (suc k)) [] x all one = refl
all_drop_more p (suc k) (y ∷ xs) x all one = all_drop_more p k xs x all one

pub none_named : (p : Seen → Bool) (k : ℕ) (xs : List Seen) → xs ≡ [] → list_all p (drop k xs) ≡ true
none_named p k xs none = ap (λ (l : List Seen). list_all p (drop k l)) none ∙ go k where
  go : (k : ℕ) → list_all p (drop k []) ≡ true
  go zero = refl
  go (suc k) = refl

-- a token with the same number and the same own entries, of a turn that was opened with as many entries
pub kept_named : (caller : ℕ) (v w : View) → number_of w ≡ number_of v → w.opened_at ≡ v.opened_at → own (number_of v) w.seen ≡ own (number_of v) v.seen
    → names_own caller v ≡ true → names_own caller w ≡ true
kept_named caller v w number opened same named =
    ap (λ (z : ℕ × ℕ). list_all (names caller) (drop (cond (z.0 == 0) z.1 0) (own z.0 w.seen))) (λ i. (number i, opened i))
    ∙ ap (λ (l : List Seen). list_all (names caller) (drop (old_own v) l)) same ∙ named

pub still_enrolled : Grow → (number : ℕ) (v w : View) → StartsWith w.seen v.seen → number < callers_in (history_of v) → number < callers_in (history_of w)
still_enrolled grows number v w starts enrolled = enrolled_more grows (texts w.seen) (texts v.seen) number (starts_texts w.seen v.seen starts) enrolled

pub still_named : (caps : Limits) (caller : ℕ) (event : Event) (answer : Answer) (v w : View) → Calls caps caller event answer v w → names_own caller v ≡ true
    → names_own caller w ≡ true
still_named caps caller event answer v w calls named =
    ap (λ (z : ℕ × ℕ). list_all (names caller) (drop (cond (z.0 == 0) z.1 0) (own z.0 w.seen))) (λ i. (number i, opened i))
    ∙ go (adds_entry answer) calls.answered
  where
    number : number_of w ≡ number_of v
    number = ap number_of calls.once

    opened : w.opened_at ≡ v.opened_at
    opened = ap (λ (z : View). z.opened_at) calls.once

    mine : (text : List ℕ) → entry_in text ≡ Some (record { caller = caller; event = event; answer = answer }) → names caller (entry (number_of v) text) ≡ true
    mine text read = ap (λ (o : Option Entry). option_map_or (λ (e : Entry). e.caller == caller) o false) read ∙ eq-eqb caller caller refl

    go : (t : Bool) → MatchBool t (EndsWith caps caller event answer v w) (AddsNone caps event answer v w)
        → list_all (names caller) (drop (old_own v) (own (number_of v) w.seen)) ≡ true
    go true ends =
        ap (λ (l : List Seen). list_all (names caller) (drop (old_own v) l)) ends.own_once
        ∙ all_drop_more (names caller) (old_own v) (own (number_of v) v.seen) (entry (number_of v) ends.text) named (mine ends.text ends.read)
    go false none = ap (λ (l : List Seen). list_all (names caller) (drop (old_own v) l)) none.own_same ∙ named

-- a token that looked, and did not take the turn, stays the caller's
pub looked_named : (caller : ℕ) (v w : View) → TakesNone v w → KeepsOwn v w → names_own caller v ≡ true → names_own caller w ≡ true
looked_named caller v w none kept named = kept_named caller v w (ap number_of none) (ap (λ (z : View). z.opened_at) none) kept named

-- an event that was asked for was answered
pub called : {J : Type 0} {did : J → J → List (List ℕ) → List (List ℕ) → Type 0} {old new : J} (caps limits : Limits) (caller who : ℕ) (event : Event)
    (says : Answer → Type 0) {rest : Type 0} (ran : Bool) (v w : View) → limits ≡ caps → who ≡ caller → StartsWith w.seen v.seen → TakesOnce v w
    → FindsFree ran v w → (r : Ran did old new ran v w) → (answer : Answer) × says answer × Plays limits who event answer (texts r.found) (texts w.seen) × rest
    → (answer : Answer) × says answer × Calls caps caller event answer v w
called {did = did} {old = old} {new = new} caps limits caller who event says ran v w limited is starts once counted r (answer, said, plays, more) = (
  answer,
  said,
  calls did old new caps caller event answer ran v w starts once counted r
      (subst (λ (n : ℕ). Plays caps n event answer (texts r.found) (texts w.seen)) is
      (subst (λ (l : Limits). Plays l who event answer (texts r.found) (texts w.seen)) limited plays)),
)
