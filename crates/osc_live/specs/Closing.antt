-- What is handed out where a server is closed.
use Rattle.std.specs.Prelude.{◌≡◌, ℕ, true, List, [], ◌∷◌, ◌++◌, map, All, Contains}
use Rattle.osc_turn.specs.declared.view.Entry.{Entry as Seen}
use Rattle.osc_turn.specs.declared.view.View.{View}
use Rattle.osc_turn.specs.History.{StartsWith, texts, entries_of, own}
use Rattle.osc_turn.specs.Rule.{number_of}
use Rattle.osc_turn.specs.Passes.{view}
use Rattle.osc_turn.specs.Numbers.{times}
use Rattle.osc_model.specs.Limits.{Limits}
use Rattle.osc_model.specs.Recordings.{record_text}
use Rattle.osc_model.specs.Heard.{Told}
use Rattle.osc_model.specs.History.{Legal, HaveHeard}
use Rattle.osc_laws.specs.Laws.{KeepsTheLaws}
use Rattle.osc_core.specs.Standing.{history_in, AreMarked}
use Rattle.osc_live.specs.declared.caller.Caller.{Caller}
use Rattle.osc_live.specs.declared.guest.Guest.{Guest}
use Rattle.osc_live.specs.Seen.{names, performance_in}

-- what a caller's token knows, and the caller's number
abbrev pub known : List Caller → List (ℕ × View)
known callers = map (λ caller. (caller.number, view caller.pass)) callers

-- what all tokens know
abbrev pub views_of : List Caller → List Guest → List View
views_of callers guests =
    map (λ caller. view caller.pass) callers ++ map (λ guest. view guest.pass) guests

-- the first of the callers is caller 0
abbrev pub StartsAtZero : List Caller → Type 0
StartsAtZero [] = ⊥
StartsAtZero (caller ∷ callers) = caller.number ≡ 0

-- how many passes were made, as the first of the callers knows
abbrev pub made_by : List Caller → ℕ
made_by [] = 0
made_by (caller ∷ callers) = (view caller.pass).made

-- the entry is one of a caller's token, and names this caller
abbrev pub IsOfCaller : List (ℕ × View) → Seen → Type 0
IsOfCaller callers one = (caller : ℕ × View) × Contains callers caller
    × (number_of caller.1 ≡ one.number) × (names caller.0 one ≡ true)

-- the entry is one of caller 0's token
abbrev pub IsOfFirst : List (ℕ × View) → Seen → Type 0
IsOfFirst callers one = (caller : ℕ × View) × Contains callers caller
    × (number_of caller.1 ≡ one.number) × (caller.0 ≡ 0)

-- There is one history: it is legal, keeps the four laws and is what was recorded; it begins with
-- what each token has seen, which holds all own entries of the token; each entry is an own one of
-- exactly one token. The history begins with the entries of the texts `opened`, which were there
-- when the turn was opened: they are of caller 0's token. An entry since then is of the token of
-- the caller whom it names. And the boxes have heard the history, each with the mark of its id's
-- entry.
pub record Closes (caps : Limits) (opened : List (List ℕ)) (callers : List (ℕ × View))
    (views : List View) (bytes : List ℕ) (kept : List Told) : Type 0 where
  pub history : List Seen
  pub since : List Seen
  pub begins : history ≡ entries_of opened ++ since
  pub legal : Legal caps (history_in (texts history))
  pub laws : KeepsTheLaws caps (history_in (texts history))
  pub recorded : bytes ≡ record_text caps (history_in (texts history))
  pub carried : All (λ v. StartsWith history v.seen) views
  pub owned : All (λ v. own (number_of v) history ≡ own (number_of v) v.seen) views
  pub each_once : All (λ one. times one.number (map number_of views) ≡ 1) history
  pub first : All (IsOfFirst callers) (entries_of opened)
  pub named : All (IsOfCaller callers) since
  pub heard : HaveHeard (performance_in caps (texts history)) kept
  pub marked : AreMarked (texts history) kept
