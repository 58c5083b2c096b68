-- What clap finds in the words.
use Rattle.std.specs.Prelude.{ℕ, ◌-◌, ◌==◌, Bool, true, take, drop, length, List, [], ◌∷◌, map}
use Rattle.std.specs.Prelude.{fold, Option, Some, None, codes, is_some}
use Rattle.clap.specs.Words.{App, Kinds, Row, Rule, built, fault_of, matches_of, new_app, new_rule}
use Rattle.clap.specs.Words.{with_rule}
use Rattle.clap.specs.Walk.{nothing_held, walk}
use Rattle.osc_words.specs.Options.{rule_for}
use Rattle.osc_words.specs.Verbs.{before_files, options_of}
use Rattle.osc_words.specs.declared.options.Parameter.{Parameter}
use Rattle.osc_words.specs.declared.options.Parameter.TheVariants.{File}
use Rattle.osc_words.specs.declared.verb.Verb.{Verb}

-- the command of clap that has these options, and no subcommand
abbrev pub app_with : List Parameter → App
app_with options = fold with_rule (new_app (codes "osc")) (map rule_for options)

abbrev pub app_for : Verb → App
app_for verb = app_with (options_of verb)

abbrev pub unless_refused : Kinds → List Row → Option (List Row)
unless_refused [] rows = Some rows
unless_refused (kind ∷ kinds) rows = None

-- what such a command finds in the words, of which the first is the command's name: a row for each
-- option; none where it refuses the words
unfoldable pub found_by : Verb → List (List ℕ) → Option (List Row)
found_by verb words =
    unless_refused (fault_of (app_for verb) words) (matches_of (app_for verb) words)

-- whether the words, of which the first is the command's name, are options of a `resume` alone: the
-- command that has its options, and no file, takes them
unfoldable pub are_options : List (List ℕ) → Bool
are_options words = is_some (unless_refused (fault_of (app_with before_files) words) [])

-- the plain command, by which options are read after the file too
abbrev pub plain_rule_for : Parameter → Rule
plain_rule_for File = record (new_rule (codes "FILE")) { required = true }
plain_rule_for option = rule_for option

abbrev pub plain_app_for : Verb → App
plain_app_for verb = fold with_rule (new_app (codes "osc")) (map plain_rule_for (options_of verb))

-- what it finds
unfoldable pub plain_found_by : Verb → List (List ℕ) → Option (List Row)
plain_found_by verb words =
    unless_refused (fault_of (plain_app_for verb) words) (matches_of (plain_app_for verb) words)

-- no word before the last one is a positional to it
unfoldable pub file_stands_last : Verb → List (List ℕ) → Bool
file_stands_last verb words =
    (walk (built (plain_app_for verb)).top.rules [] nothing_held
    (take (length (drop 1 words) - 1) (drop 1 words))).position == 1
