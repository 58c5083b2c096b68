-- The turn's history, which all passes share: a list of entries, each under the number of the pass
-- that made it.
use Rattle.std.specs.Prelude.{◌≡◌, ℕ, ◌==◌, if◌then◌else◌, List, [], ◌∷◌, ◌++◌, map}
use Rattle.osc_turn.specs.declared.view.Entry.{Entry}

-- one list begins with all of the other
abbrev pub StartsWith : {A : Type 0} → List A → List A → Type 0
StartsWith {A} all seen = (rest : List A) × (all ≡ seen ++ rest)

abbrev pub entry : ℕ → List ℕ → Entry
entry n t = record { number = n; text = t }

abbrev pub text_of : Entry → List ℕ
text_of e = e.text

-- what a value stands for: the entries without the numbers of their passes
abbrev pub texts : List Entry → List (List ℕ)
texts es = map text_of es

-- entries that were there when the turn was opened are the first pass's
abbrev pub entries_of : List (List ℕ) → List Entry
entries_of h = map (entry 0) h

-- the own entries of the pass with this number, in order
abbrev pub own : ℕ → List Entry → List Entry
own n [] = []
own n (e ∷ es) = if e.number == n then e ∷ own n es else own n es
