-- What the words of the command line say.
use Rattle.std.specs.Prelude.{◌≡◌, ℕ, ◌+◌, Bool, true, false, nat_le, if◌then◌else◌, List, [], ◌∷◌}
use Rattle.std.specs.Prelude.{Option, Some, None, option_map, option_and_then, codes, ◌&&◌}
use Rattle.std.specs.Option.{option_map_or}
use Rattle.std.specs.Str.{bytes_eq}
use Rattle.clap.specs.Words.{Row, first_of}
use Rattle.osc_words.specs.Numbers.{number_within}
use Rattle.osc_model.specs.declared.late.Late.{Late}
use Rattle.osc_model.specs.declared.late.Late.TheVariants.{Deliver, Discard}
use Rattle.osc_words.specs.Options.{flag_name, late_name, row_of}
use Rattle.osc_words.specs.Reading.{are_options, found_by}
use Rattle.osc_words.specs.Verbs as verbs
use Rattle.osc_words.specs.declared.options.Flag.{Flag}
use Rattle.osc_words.specs.declared.options.Flag.TheVariants.{Bytes, Tcp, Play, Watch}
use Rattle.osc_words.specs.declared.options.Quantity.{Quantity}
use Rattle.osc_words.specs.declared.options.Quantity.TheVariants.{Units, Blocks, Methods, Nodes}
use Rattle.osc_words.specs.declared.options.Quantity.TheVariants.{Recording, Seed, Lines, Port}
use Rattle.osc_words.specs.declared.options.Quantity.TheVariants.{Links, Count, Idle}
use Rattle.osc_words.specs.declared.verb.Verb.{Verb}
use Rattle.osc_words.specs.declared.verb.Verb.TheVariants as verb
use Rattle.osc_words.specs.declared.command.TheConstants.{PORTS}
use Rattle.osc_words.specs.declared.command.Capacities.{Capacities}
use Rattle.osc_words.specs.declared.command.Output.{Output}
use Rattle.osc_words.specs.declared.command.Output.TheVariants as output
use Rattle.osc_words.specs.declared.command.Reading.{Reading}
use Rattle.osc_words.specs.declared.command.Reading.TheVariants.{Run, Replay, Dump, Upgrade, Score}
use Rattle.osc_words.specs.declared.command.Reading.TheVariants.{PlayScore}
use Rattle.osc_words.specs.declared.command.PlainCommand.{PlainCommand}
use Rattle.osc_words.specs.declared.command.PlainCommand.TheVariants.{Read, Gen}
use Rattle.osc_words.specs.declared.command.Transport.{Transport}
use Rattle.osc_words.specs.declared.command.Transport.TheVariants as transport
use Rattle.osc_words.specs.declared.command.LiveCommand.{LiveCommand}
use Rattle.osc_words.specs.declared.command.LiveCommand.TheVariants.{Lanes, Serve}
use Rattle.osc_words.specs.declared.command.ResumeCommand.{ResumeCommand}
use Rattle.osc_words.specs.declared.command.Command.{Command}
use Rattle.osc_words.specs.declared.command.Command.TheVariants.{Plain, Live, Resume}
use Rattle.osc_words.specs.Names.{before_last_two, last_two}

-- whether a flag stands among the words
abbrev pub is_given : Flag → List Row → Bool
is_given flag rows =
    option_map_or (λ text. bytes_eq text (codes "true")) (first_of (flag_name flag) rows) false

-- a number of the words in its range, or the one that stands for it where it isn't given; none
-- where the word is no number in its range
abbrev pub number_of : Quantity → List Row → Option ℕ
number_of quantity rows =
    option_map_or (number_within (row_of quantity).least (row_of quantity).most)
    (first_of (row_of quantity).name rows) (Some (row_of quantity).default)

-- the policy that a word names
abbrev pub policy_named : List ℕ → Option Late
policy_named word =
    if bytes_eq word (codes "deliver") then Some Deliver
    else if bytes_eq word (codes "discard") then Some Discard else None

-- what the words say that becomes of late units, or that they are delivered where nothing is said;
-- none where the word is no policy
abbrev pub late_of : List Row → Option Late
late_of rows = option_map_or policy_named (first_of late_name rows) (Some Deliver)

abbrev pub caps_from : Option ℕ → Option ℕ → Option ℕ → Option ℕ → Option ℕ → Option Late
    → Option Capacities
caps_from (Some units) (Some blocks) (Some methods) (Some nodes) (Some recording) (Some late) =
    Some (record {
      units = units;
      blocks = blocks;
      methods = methods;
      nodes = nodes;
      recording = recording;
      late = late;
    })
caps_from _ _ _ _ _ _ = None

abbrev pub caps_of : List Row → Option Capacities
caps_of rows =
    caps_from (number_of Units rows) (number_of Blocks rows) (number_of Methods rows)
    (number_of Nodes rows) (number_of Recording rows) (late_of rows)

abbrev pub output_of : List Row → Output
output_of rows = if is_given Bytes rows then output.Recording else output.Text

-- what the words say to do with a score
abbrev pub score_of : List Row → Reading
score_of rows = if is_given Play rows then PlayScore else Score

abbrev pub gen_from : Option ℕ → Option ℕ → Option PlainCommand
gen_from (Some seed) (Some lines) = Some (Gen seed lines)
gen_from _ _ = None

abbrev pub gen_of : List Row → Option PlainCommand
gen_of rows = gen_from (number_of Seed rows) (number_of Lines rows)

-- what carries packets to the links
abbrev pub transport_of : List Row → Transport
transport_of rows = if is_given Tcp rows then transport.Tcp else transport.Udp

-- each link has a port of its own, from the first one on, and the last is a port too
abbrev pub serve_from : Transport → Option ℕ → Option ℕ → Option ℕ → Option ℕ → Option Capacities
    → Option Command
serve_from carried (Some port) (Some links) (Some count) (Some idle) (Some caps) =
    if nat_le (port + links) PORTS then Some (Live (Serve carried port links count idle caps))
    else None
serve_from _ _ _ _ _ _ = None

abbrev pub serve_of : List Row → Option Command
serve_of rows =
    serve_from (transport_of rows) (number_of Port rows) (number_of Links rows)
    (number_of Count rows) (number_of Idle rows) (caps_of rows)

-- a server that goes on from a recording has room for so many bytes at least
abbrev pub resume_of : List Row → Option Command
resume_of rows = option_map (λ room. Resume (record { room = room })) (number_of Recording rows)

-- what the first words of `osc` say, by what was found; the others say nothing to it
abbrev pub plain_by : Verb → List Row → Option PlainCommand
plain_by verb.Run rows = option_map (λ caps. Read (Run (output_of rows) caps)) (caps_of rows)
plain_by verb.Replay rows = Some (Read Replay)
plain_by verb.Dump rows = Some (Read Dump)
plain_by verb.Upgrade rows = Some (Read Upgrade)
plain_by verb.Score rows = Some (Read (score_of rows))
plain_by verb.Gen rows = gen_of rows
plain_by _ rows = None

abbrev pub said_by : Verb → List Row → Option Command
said_by verb.Lanes rows =
    option_map (λ caps. Live (Lanes caps (is_given Watch rows))) (caps_of rows)
said_by verb.Serve rows = serve_of rows
said_by verb.Resume rows = resume_of rows
said_by other rows = option_map Plain (plain_by other rows)

-- the first word chooses the command
abbrev pub first_verb : List (List ℕ) → Option Verb
first_verb [] = None
first_verb (word ∷ words) = verbs.verb_of word

-- whether this word was found under a name
abbrev pub is_found : List ℕ → List ℕ → List Row → Bool
is_found name word rows = option_map_or (λ text. bytes_eq text word) (first_of name rows) false

-- whether OLD and FILE are as the last two words
abbrev pub are_last_two : List (List ℕ) → List Row → Bool
are_last_two words rows =
    option_map_or
    (λ both. is_found (codes "OLD") both.0 rows && is_found (codes "FILE") both.1 rows)
    (last_two words) false

-- Whether the files stand where they are to: those of a `resume` are the last two words, since all
-- before them are options.
abbrev pub stands_in_place : Verb → List (List ℕ) → List Row → Bool
stands_in_place verb.Resume words rows =
    are_last_two words rows && are_options (before_last_two words)
stands_in_place _ words rows = true

-- what is said by what was found, where the files stand where they are to
abbrev pub said_in : List (List ℕ) → Verb → List Row → Option Command
said_in words verb rows = if stands_in_place verb words rows then said_by verb rows else None

-- the command that the words say; none where they are refused
unfoldable pub command_of : List (List ℕ) → Option Command
command_of words =
    option_and_then (λ verb. option_and_then (said_in words verb) (found_by verb words))
    (first_verb words)

abbrev pub live_in : Command → Option LiveCommand
live_in (Live command) = Some command
live_in _ = None

abbrev pub resume_in : Command → Option ResumeCommand
resume_in (Resume command) = Some command
resume_in _ = None

-- the command of `osc` that the words say
unfoldable pub plain_command_of : List (List ℕ) → Option PlainCommand
plain_command_of words =
    option_and_then (λ verb. option_and_then (plain_by verb) (found_by verb words))
    (first_verb words)

abbrev pub reading_in : PlainCommand → Option Reading
reading_in (Read reading) = Some reading
reading_in (Gen seed lines) = None

-- the command of `osc` that reads an input
abbrev pub reading_of : List (List ℕ) → Option Reading
reading_of words = option_and_then reading_in (plain_command_of words)

-- the command of `oscd` that the words say
abbrev pub live_command_of : List (List ℕ) → Option LiveCommand
live_command_of words = option_and_then live_in (command_of words)

-- the command of `oscd` that goes on from a recording
abbrev pub resume_command_of : List (List ℕ) → Option ResumeCommand
resume_command_of words = option_and_then resume_in (command_of words)

abbrev pub is_over_tcp : LiveCommand → Bool
is_over_tcp (Lanes caps watch) = false
is_over_tcp (Serve transport.Udp port links count idle caps) = false
is_over_tcp (Serve transport.Tcp port links count idle caps) = true

-- whether the words say to serve links over TCP
abbrev pub wants_tcp : List (List ℕ) → Bool
wants_tcp words = option_map_or is_over_tcp (live_command_of words) false

-- The files of a `resume` are its last two words: clap finds these as OLD and FILE, and all words
-- before them are options.
pub record EndsInFiles (words : List (List ℕ)) : Type 0 where
  pub rows : List Row
  pub old : List ℕ
  pub file : List ℕ
  pub found : found_by verb.Resume words ≡ Some rows
  pub last : last_two words ≡ Some (old, file)
  pub is_old : first_of (codes "OLD") rows ≡ Some old
  pub is_file : first_of (codes "FILE") rows ≡ Some file
  pub options : are_options (before_last_two words) ≡ true
