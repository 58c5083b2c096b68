-- What becomes of the tags and the bytes of arguments with more words.
use Rattle.std.specs.Prelude.{◌≡◌, ℕ, List, ◌++◌, map, Result, Ok, Err, IfOk}
use Rattle.std.specs.List.{flat_map}
use Rattle.osc_message.specs.Messages.{Argument, tag_of, atom_of, AllFit}
use Rattle.osc_cues.specs.declared.fault.WordError.{WordError}
use Rattle.osc_cues.specs.declared.fault.WordError.TheVariants.{NoMemory, Wrong}
use Rattle.osc_cues.specs.declared.fault.WordFault.{WordFault}
use Rattle.osc_cues.specs.Faults.{made}

-- tags and atoms, and those of what is read after them
abbrev pub onto : List ℕ → List ℕ → Result (List Argument) WordFault
    → Result (List ℕ × List ℕ) WordFault
onto tags atoms read = made
    (λ arguments. (tags ++ map tag_of arguments, atoms ++ flat_map atom_of arguments)) read

-- the arguments that are read stand after those before; or some word is wrong
abbrev pub ArguesAll : Result (Unit {0}) WordError → Result (List Argument) WordFault → List ℕ
    → List ℕ → List ℕ → List ℕ → Type 0
ArguesAll (Ok done) read tags atoms more_tags more_atoms =
    (onto tags atoms read ≡ Ok (more_tags, more_atoms)) × IfOk read AllFit
ArguesAll (Err (Wrong wrong)) read tags atoms more_tags more_atoms = read ≡ Err wrong
ArguesAll (Err NoMemory) read tags atoms more_tags more_atoms = Unit {0}
