-- The entry that a server doesn't give is the only one that is told.
use Rattle.std.proofs.Common.{◌≡◌, ℕ, List, [], ◌∷◌, ◌++◌, length, refl, sym, ap, subst, ◌∙◌}
use Rattle.osc_model.specs.Limits.{Limits}
use Rattle.osc_model.specs.State.{State, opening}
use Rattle.osc_model.specs.Events.{Entry, adds_entry}
use Rattle.osc_model.specs.Recordings.{entry_text}
use Rattle.osc_model.specs.Step.{step}
use Rattle.osc_model.specs.History.{LegalFrom, after}
use Rattle.osc_model.proofs.Onward.{is_adds}
use Rattle.osc_record.proofs.Readings.{texts_differ}
use Rattle.osc_replay.specs.Disagreeing.{computed_text, DisagreesAt}
use Rattle.osc_replay.specs.Formed.{IsUnformedAt}
use Rattle.osc_replay.proofs.Agreeing.{computed_is}
use Rattle.osc_replay.proofs.Formed.{no_place}

-- the server gives this entry
abbrev IsGiven : State → Entry → Type 0
IsGiven state entry = entry_text entry.caller entry.event entry.answer ≡ computed_text state entry.caller entry.event

legal_given : (state : State) (entry : Entry) (entries : List Entry) → LegalFrom state (entry ∷ entries) → IsGiven state entry
legal_given state entry entries legal =
    let adds = is_adds entry.answer legal.2 in
    sym (computed_is state entry.caller entry.event entry.answer legal.0 legal.3 (ap adds_entry (sym legal.3) ∙ adds))

head_is : (x y : Entry) (xs ys : List Entry) → x ∷ xs ≡ y ∷ ys → x ≡ y
head_is x y xs ys same = cc

tail_is : (x y : Entry) (xs ys : List Entry) → x ∷ xs ≡ y ∷ ys → xs ≡ ys
tail_is x y xs ys same = cc

-- two fronts of one history, each behind which an entry isn't given
record AreOne (before others : List Entry) (entry other : Entry) : Type 0 where
  pub fronts : before ≡ others
  pub entries : entry ≡ other

first_missed : (state : State) (before others : List Entry) (entry other : Entry) (later more : List Entry) → LegalFrom state before → LegalFrom state others
    → before ++ entry ∷ later ≡ others ++ other ∷ more → (IsGiven (after state before) entry → ⊥) → (IsGiven (after state others) other → ⊥)
    → AreOne before others entry other
first_missed state [] [] entry other later more legal legal_other same misses misses_other =
    record { fronts = refl; entries = head_is entry other later more same }
first_missed state [] (o ∷ others) entry other later more legal legal_other same misses misses_other =
    absurd (misses (subst (IsGiven state) (sym (head_is entry o later (others ++ other ∷ more) same)) (legal_given state o others legal_other)))
first_missed state (e ∷ before) [] entry other later more legal legal_other same misses misses_other =
    absurd (misses_other (subst (IsGiven state) (head_is e other (before ++ entry ∷ later) more same) (legal_given state e before legal)))
first_missed state (e ∷ before) (o ∷ others) entry other later more legal legal_other same misses misses_other =
    let first : e ≡ o = head_is e o (before ++ entry ∷ later) (others ++ other ∷ more) same in
    let rest = first_missed (step state e.event).state before others entry other later more legal.4
    (subst (λ (x : Entry). LegalFrom (step state x.event).state others) (sym first) legal_other.4)
    (tail_is e o (before ++ entry ∷ later) (others ++ other ∷ more) same) misses
    (subst (λ (x : Entry). IsGiven (after (step state x.event).state others) other → ⊥) (sym first) misses_other) in
    record { fronts = both e o before others first rest.fronts; entries = rest.entries }
  where
    both : (x y : Entry) (xs ys : List Entry) → x ≡ y → xs ≡ ys → x ∷ xs ≡ y ∷ ys
    both x y xs ys head tail = cc

pub one_disagrees : (bytes : List ℕ) (one two : ℕ) (kept own computed given : List ℕ) → DisagreesAt bytes one kept computed → DisagreesAt bytes two own given
    → (one ≡ two) × (kept ≡ own) × (computed ≡ given)
one_disagrees bytes one two kept own computed given d e =
    let same = texts_differ d.caps e.caps (d.before ++ d.entry ∷ d.later) (e.before ++ e.entry ∷ e.later) d.formed.record_ e.formed.record_
    (sym d.text ∙ e.text) in
    let text : (c : Limits) (before : List Entry) (entry : Entry) → List ℕ =
    λ c before entry. computed_text (after (opening c) before) entry.caller entry.event in
    let caps : d.caps ≡ e.caps = same.0 in
    let are = first_missed (opening d.caps) d.before e.before d.entry e.entry d.later e.later d.legal.1
    (subst (λ (c : Limits). LegalFrom (opening c) e.before) (sym caps) e.legal.1) same.1
    (λ is. d.differ (d.kept_is ∙ is ∙ sym d.computed_is))
    (λ is. e.differ (e.kept_is ∙ is ∙ ap (λ (c : Limits). text c e.before e.entry) caps ∙ sym e.computed_is)) in (
      d.place_is ∙ ap length are.fronts ∙ sym e.place_is,
      d.kept_is ∙ ap (λ (x : Entry). entry_text x.caller x.event x.answer) are.entries ∙ sym e.kept_is,
      d.computed_is ∙ ap (λ (c : Limits). text c d.before d.entry) caps ∙ ap (λ (l : List Entry). text e.caps l d.entry) are.fronts
          ∙ ap (text e.caps e.before) are.entries
          ∙ sym e.computed_is,
    )

-- where an entry disagrees, no place is malformed
pub formed_there : (bytes : List ℕ) (one at : ℕ) (kept computed : List ℕ) → DisagreesAt bytes one kept computed → IsUnformedAt bytes at → ⊥
formed_there bytes one at kept computed d is = no_place bytes at d.caps (d.before ++ d.entry ∷ d.later) d.formed d.text is
