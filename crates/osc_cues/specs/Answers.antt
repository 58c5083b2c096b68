-- What the reading calls answer, where memory may be refused.
use Rattle.std.specs.Prelude.{◌≡◌, ℕ, List, [], ◌∷◌, ◌++◌, Result, Ok, Err}
use Rattle.osc_message.specs.Messages.{Argument, tag_of, atom_of, Fits}
use Rattle.osc_cues.specs.declared.fault.WordError.{WordError}
use Rattle.osc_cues.specs.declared.fault.WordError.TheVariants.{NoMemory, Wrong}
use Rattle.osc_cues.specs.declared.fault.WordFault.{WordFault}

-- what is read of a word, or what is wrong with it, unless memory is refused
abbrev pub Says : {X : Type 0} → Result X WordError → Result X WordFault → Type 0
Says (Ok value) read = read ≡ Ok value
Says (Err (Wrong wrong)) read = read ≡ Err wrong
Says (Err NoMemory) read = Unit {0}

-- the argument that is read stands after those before, as its tag and its bytes, which can hold it;
-- or the word is wrong, unless memory is refused
abbrev pub Argues : Result (Unit {0}) WordError → Result Argument WordFault → List ℕ → List ℕ
    → List ℕ → List ℕ → Type 0
Argues (Ok done) (Ok argument) tags atoms more_tags more_atoms =
    (more_tags ≡ tags ++ tag_of argument ∷ []) × (more_atoms ≡ atoms ++ atom_of argument)
    × Fits argument
Argues (Ok done) (Err wrong) tags atoms more_tags more_atoms = ⊥
Argues (Err (Wrong wrong)) read tags atoms more_tags more_atoms = read ≡ Err wrong
Argues (Err NoMemory) read tags atoms more_tags more_atoms = Unit {0}
