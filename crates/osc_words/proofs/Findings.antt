-- What clap answers is what its statement says of a command that is simple.
use Rattle.std.specs.Prelude.{is_some}
use Rattle.std.proofs.Common.{◌≡◌, ◌∙◌, ℕ, true, false, refl, sym, ap, List, [], ◌∷◌, Some, None, Ok, inl, inr}
use Rattle.std.proofs.lemmas.Bool.{and_parts}
use Rattle.clap.specs.Words.{App, FailsBy, HasKind, HasMatchesOf, Kinds, Row, fault_of, found_of, is_simple, is_simple_and_free, kind_of, matches_of, rows_of}
use Rattle.clap.specs.Faults.{is_free_app}
use Rattle.clap.specs.Simple.{built}
use Rattle.clap.specs.declared.error.Error.{Error}
use Rattle.clap.specs.declared.error.kind.ErrorKind.TheVariants.{OutOfMemory}
use Rattle.clap.specs.declared.parser.matches.ArgMatches.{ArgMatches}
use Rattle.osc_words.specs.Reading.{app_for, app_with, are_options, found_by, unless_refused}
use Rattle.osc_words.specs.Verbs.{before_files}
use Rattle.osc_words.specs.declared.verb.Verb.{Verb}
use Rattle.osc_words.specs.declared.verb.Verb.TheVariants.{Run, Replay, Dump, Upgrade, Score, Gen, Lanes, Serve, Resume}

simple : (verb : Verb) → is_simple_and_free (app_for verb) ≡ true
simple Run = refl
simple Replay = refl
simple Dump = refl
simple Upgrade = refl
simple Score = refl
simple Gen = refl
simple Lanes = refl
simple Serve = refl
simple Resume = refl

pub taken : (verb : Verb) (app : App) (words : List (List ℕ)) (matches : ArgMatches) → app ≡ app_for verb
    → (is_simple_and_free app ≡ true → FailsBy (fault_of app words) (Ok matches)) → HasMatchesOf app words matches
    → Some (rows_of (found_of matches)) ≡ found_by verb words
unfolding found_by
taken verb app words matches is kinds has =
    let free = ap is_simple_and_free is ∙ simple verb in
    ap Some (has (and_parts (is_simple app) (is_free_app (built app)) free).0).0
    ∙ sym (ap (λ ks. unless_refused ks (matches_of app words)) (kinds free))
    ∙ ap (λ a. unless_refused (fault_of a words) (matches_of a words)) is

refuses : (kinds : Kinds) (rows : List Row) (error : Error) → HasKind kinds error → ¬ (kind_of error ≡ OutOfMemory) → None ≡ unless_refused kinds rows
refuses [] rows error (inl memory) other = absurd (other memory)
refuses [] rows error (inr none) other = absurd none
refuses (kind ∷ kinds) rows error has other = refl

pub refused : (verb : Verb) (app : App) (words : List (List ℕ)) (error : Error) → app ≡ app_for verb
    → (is_simple_and_free app ≡ true → HasKind (fault_of app words) error) → ¬ (kind_of error ≡ OutOfMemory)
    → None ≡ found_by verb words
unfolding found_by
refused verb app words error is kinds other =
    refuses (fault_of app words) (matches_of app words) error (kinds (ap is_simple_and_free is ∙ simple verb)) other
    ∙ ap (λ a. unless_refused (fault_of a words) (matches_of a words)) is

simple_options : is_simple_and_free (app_with before_files) ≡ true
simple_options = refl

pub options_taken : (app : App) (words : List (List ℕ)) (matches : ArgMatches) → app ≡ app_with before_files
    → (is_simple_and_free app ≡ true → FailsBy (fault_of app words) (Ok matches)) → true ≡ are_options words
unfolding are_options
options_taken app words matches is kinds =
    let none = kinds (ap is_simple_and_free is ∙ simple_options) in
    sym (ap (λ ks. is_some (unless_refused ks [])) none)
    ∙ ap (λ a. is_some (unless_refused (fault_of a words) [])) is

not_some : (kinds : Kinds) (error : Error) → HasKind kinds error → ¬ (kind_of error ≡ OutOfMemory) → false ≡ is_some (unless_refused kinds [])
not_some [] error (inl memory) other = absurd (other memory)
not_some [] error (inr none) other = absurd none
not_some (kind ∷ kinds) error has other = refl

pub options_refused : (app : App) (words : List (List ℕ)) (error : Error) → app ≡ app_with before_files
    → (is_simple_and_free app ≡ true → HasKind (fault_of app words) error) → ¬ (kind_of error ≡ OutOfMemory)
    → false ≡ are_options words
unfolding are_options
options_refused app words error is kinds other =
    not_some (fault_of app words) error (kinds (ap is_simple_and_free is ∙ simple_options)) other
    ∙ ap (λ a. is_some (unless_refused (fault_of a words) [])) is
