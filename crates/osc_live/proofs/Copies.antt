-- What a read of the recording says.
use Rattle.std.proofs.Common.{◌≡◌, ℕ, Bool, true, false, List, [], ◌∷◌, ◌++◌, length, length-append, MatchBool, refl, sym, ap, subst, ◌∙◌, arith}
use Rattle.std.proofs.lemmas.List.{length-map}
use Rattle.osc_model.specs.Limits.{Limits}
use Rattle.osc_model.specs.Recordings.{record_text}
use Rattle.osc_model.specs.Events.{Entry}
use Rattle.osc_model.specs.History.{Legal, Performance}
use Rattle.osc_core.specs.Standing.{history_in, AreTexts}
use Rattle.osc_turn.specs.declared.view.Entry.{Entry as Seen}
use Rattle.osc_turn.specs.declared.view.View.{View}
use Rattle.osc_turn.specs.History.{StartsWith, texts, text_of, entry, own}
use Rattle.osc_turn.specs.Rule.{number_of}
use Rattle.osc_turn.specs.Answers.{TakesOnce, FindsFree, KeepsOwn, Ran}
use Rattle.osc_live.specs.Reads.{Writes, Copied, Reads}
use Rattle.osc_live.proofs.Answered.{takes}

pub copied : (now : Performance) (caps : Limits) (from : ℕ) (old new : List ℕ) (count : ℕ) (before after : List (List ℕ)) (bytes : List ℕ) → now.caps ≡ caps
    → Legal now.caps now.history → AreTexts now.history after → history_in after ≡ now.history → bytes ≡ record_text now.caps now.history
    → Writes bytes from old new count → after ≡ before → Copied caps from old new count before after
copied now caps from old new count before after bytes limits legal written read text writes same = record {
  same = same;
  legal = subst (λ (l : Limits). Legal l (history_in after)) limits (subst (λ (h : List Entry). Legal now.caps h) (sym read) legal);
  written = subst (λ (h : List Entry). AreTexts h after) (sym read) written;
  writes = subst (λ (t : List ℕ). Writes t from old new count)
      (text ∙ (ap (λ (l : Limits). record_text l now.history) limits ∙ ap (record_text caps) (sym read))) writes;
}

-- no entry was added
not_added : (ran : Bool) (number : ℕ) (found seen : List Seen) → MatchBool ran ((text : List ℕ) × (seen ≡ found ++ entry number text ∷ [])) (seen ≡ found)
    → texts seen ≡ texts found → (ran ≡ false) × (seen ≡ found)
not_added true number found seen then same =
    absurd (omega (arith, ap length then.1, length-append found (entry number then.0 ∷ []), ap length same, length-map seen text_of, length-map found text_of))
not_added false number found seen then same = (refl, then)

pub reads : {J : Type 0} {did : J → J → List (List ℕ) → List (List ℕ) → Type 0} {job after : J} (caps : Limits) (from : ℕ) (old new : List ℕ) (count : ℕ)
    (ran : Bool) (v w : View) → StartsWith w.seen v.seen → TakesOnce v w → FindsFree ran v w → (r : Ran did job after ran v w)
    → Copied caps from old new count (texts r.found) (texts w.seen) → Reads caps from old new count v w
reads caps from old new count ran v w starts once counted r copied =
    let none = not_added ran (number_of v) r.found w.seen r.then_seen copied.same in
    record {
      goes_on = starts;
      legal = copied.legal;
      written = copied.written;
      writes = copied.writes;
      once = takes v w once;
      counted = subst (λ (t : Bool). FindsFree t v w) none.0 counted;
      own_same = ap (own (number_of v)) none.1 ∙ r.no_other_own;
    }

pub keeps : {J : Type 0} {did : J → J → List (List ℕ) → List (List ℕ) → Type 0} {job after : J} (ran : Bool) (v w : View)
    → (r : Ran did job after ran v w) → texts w.seen ≡ texts r.found → KeepsOwn v w
keeps ran v w r same =
    let none = not_added ran (number_of v) r.found w.seen r.then_seen same in
    ap (own (number_of v)) none.1 ∙ r.no_other_own
