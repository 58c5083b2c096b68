-- What some lines of words say.
use Rattle.std.proofs.Common.{◌≡◌, refl, true, false, [], ◌∷◌, Some, None, codes}
use Rattle.clap.proofs.OnLiterals.{clap_on_literals}
use Rattle.osc_model.specs.declared.late.Late.TheVariants.{Deliver, Discard}
use Rattle.osc_words.specs.Commands.{command_of}
use Rattle.osc_words.specs.Reading.{are_options, found_by}
use Rattle.osc_words.specs.declared.command.Capacities.{Capacities}
use Rattle.osc_words.specs.declared.command.Output.TheVariants as output
use Rattle.osc_words.specs.declared.command.Reading.TheVariants.{Run, Replay, Upgrade, Score, PlayScore}
use Rattle.osc_words.specs.declared.command.Reading.{Reading}
use Rattle.osc_words.specs.declared.command.PlainCommand.TheVariants.{Read, Gen}
use Rattle.osc_words.specs.declared.command.Command.{Command}
use Rattle.osc_words.specs.declared.command.Transport.TheVariants.{Udp, Tcp}
use Rattle.osc_words.specs.declared.command.LiveCommand.TheVariants.{Lanes, Serve}
use Rattle.osc_words.specs.declared.command.Command.TheVariants.{Plain, Live, Resume}

abbrev to_read : Reading → Command
to_read reading = Plain (Read reading)

abbrev defaults : Capacities
defaults = record { units = 4096; blocks = 16384; methods = 1024; nodes = 4096; recording = 67108864; late = Deliver }

run : command_of (codes "run" ∷ []) ≡ Some (to_read (Run output.Text defaults))
unfolding clap_on_literals command_of found_by
run = refl

run_bytes : command_of (codes "run" ∷ codes "--nodes" ∷ codes "1" ∷ codes "--bytes" ∷ codes "--units=7" ∷ [])
    ≡ Some (to_read (Run output.Recording (record defaults { nodes = 1; units = 7 })))
unfolding clap_on_literals command_of found_by
run_bytes = refl

discards : command_of (codes "run" ∷ codes "--late" ∷ codes "discard" ∷ []) ≡ Some (to_read (Run output.Text (record defaults { late = Discard })))
unfolding clap_on_literals command_of found_by
discards = refl

delivers : command_of (codes "run" ∷ codes "--late=deliver" ∷ []) ≡ Some (to_read (Run output.Text defaults))
unfolding clap_on_literals command_of found_by
delivers = refl

no_policy : command_of (codes "run" ∷ codes "--late" ∷ codes "never" ∷ []) ≡ None
unfolding clap_on_literals command_of found_by
no_policy = refl

no_unit : command_of (codes "run" ∷ codes "--units" ∷ codes "0" ∷ []) ≡ None
unfolding clap_on_literals command_of found_by
no_unit = refl

leading_zero : command_of (codes "run" ∷ codes "--units" ∷ codes "01" ∷ []) ≡ None
unfolding clap_on_literals command_of found_by
leading_zero = refl

plus : command_of (codes "run" ∷ codes "--units" ∷ codes "+1" ∷ []) ≡ None
unfolding clap_on_literals command_of found_by
plus = refl

twice : command_of (codes "run" ∷ codes "--units" ∷ codes "1" ∷ codes "--units" ∷ codes "1" ∷ []) ≡ None
unfolding clap_on_literals command_of found_by
twice = refl

help : command_of (codes "run" ∷ codes "--help" ∷ []) ≡ None
unfolding clap_on_literals command_of found_by
help = refl

short_help : command_of (codes "dump" ∷ codes "-h" ∷ []) ≡ None
unfolding clap_on_literals command_of found_by
short_help = refl

stray : command_of (codes "replay" ∷ codes "it" ∷ []) ≡ None
unfolding clap_on_literals command_of found_by
stray = refl

upgrade : command_of (codes "upgrade" ∷ []) ≡ Some (to_read Upgrade)
unfolding clap_on_literals command_of found_by
upgrade = refl

stray_upgrade : command_of (codes "upgrade" ∷ codes "old.rec" ∷ []) ≡ None
unfolding clap_on_literals command_of found_by
stray_upgrade = refl

score : command_of (codes "score" ∷ []) ≡ Some (to_read Score)
unfolding clap_on_literals command_of found_by
score = refl

score_played : command_of (codes "score" ∷ codes "--play" ∷ []) ≡ Some (to_read PlayScore)
unfolding clap_on_literals command_of found_by
score_played = refl

limited_score : command_of (codes "score" ∷ codes "--play" ∷ codes "--units" ∷ codes "7" ∷ []) ≡ None
unfolding clap_on_literals command_of found_by
limited_score = refl

trailing : command_of (codes "replay" ∷ codes "--" ∷ []) ≡ Some (to_read Replay)
unfolding clap_on_literals command_of found_by
trailing = refl

gen : command_of (codes "gen" ∷ codes "--seed" ∷ codes "18446744073709551615" ∷ codes "--lines" ∷ codes "64" ∷ []) ≡ Some (Plain (Gen 18446744073709551615 64))
unfolding clap_on_literals command_of found_by
gen = refl

seed_too_large : command_of (codes "gen" ∷ codes "--seed" ∷ codes "18446744073709551616" ∷ []) ≡ None
unfolding clap_on_literals command_of found_by
seed_too_large = refl

lanes : command_of (codes "lanes" ∷ codes "--recording" ∷ codes "60" ∷ codes "out.rec" ∷ []) ≡ Some (Live (Lanes (record defaults { recording = 60 }) false))
unfolding clap_on_literals command_of found_by
lanes = refl

file_first : command_of (codes "lanes" ∷ codes "out.rec" ∷ codes "--recording" ∷ codes "60" ∷ []) ≡ None
unfolding clap_on_literals command_of found_by
file_first = refl

no_file : command_of (codes "lanes" ∷ codes "--recording" ∷ codes "60" ∷ []) ≡ None
unfolding clap_on_literals command_of found_by
no_file = refl

two_files : command_of (codes "lanes" ∷ codes "a" ∷ codes "b" ∷ []) ≡ None
unfolding clap_on_literals command_of found_by
two_files = refl

hyphen_file : command_of (codes "lanes" ∷ codes "--" ∷ codes "--units" ∷ []) ≡ Some (Live (Lanes defaults false))
unfolding clap_on_literals command_of found_by
hyphen_file = refl

watched : command_of (codes "lanes" ∷ codes "--watch" ∷ codes "out.rec" ∷ []) ≡ Some (Live (Lanes defaults true))
unfolding clap_on_literals command_of found_by
watched = refl

watched_last : command_of (codes "lanes" ∷ codes "--units=7" ∷ codes "--watch" ∷ codes "out.rec" ∷ [])
    ≡ Some (Live (Lanes (record defaults { units = 7 }) true))
unfolding clap_on_literals command_of found_by
watched_last = refl

unwatched : command_of (codes "lanes" ∷ codes "out.rec" ∷ []) ≡ Some (Live (Lanes defaults false))
unfolding clap_on_literals command_of found_by
unwatched = refl

watched_twice : command_of (codes "lanes" ∷ codes "--watch" ∷ codes "--watch" ∷ codes "out.rec" ∷ []) ≡ None
unfolding clap_on_literals command_of found_by
watched_twice = refl

watched_by_value : command_of (codes "lanes" ∷ codes "--watch=yes" ∷ codes "out.rec" ∷ []) ≡ None
unfolding clap_on_literals command_of found_by
watched_by_value = refl

watched_file : command_of (codes "lanes" ∷ codes "--" ∷ codes "--watch" ∷ []) ≡ Some (Live (Lanes defaults false))
unfolding clap_on_literals command_of found_by
watched_file = refl

watched_links : command_of (codes "serve" ∷ codes "--watch" ∷ codes "out.rec" ∷ []) ≡ None
unfolding clap_on_literals command_of found_by
watched_links = refl

serve : command_of (codes "serve" ∷ codes "--port" ∷ codes "65528" ∷ codes "--links" ∷ codes "8" ∷ codes "--count" ∷ codes "3" ∷ codes "out.rec" ∷ [])
    ≡ Some (Live (Serve Udp 65528 8 3 1000000 defaults))
unfolding clap_on_literals command_of found_by
serve = refl

serve_streams : command_of (codes "serve" ∷ codes "--links" ∷ codes "2" ∷ codes "--tcp" ∷ codes "out.rec" ∷ [])
    ≡ Some (Live (Serve Tcp 9000 2 1000000 1000000 defaults))
unfolding clap_on_literals command_of found_by
serve_streams = refl

streams_twice : command_of (codes "serve" ∷ codes "--tcp" ∷ codes "--tcp" ∷ codes "out.rec" ∷ []) ≡ None
unfolding clap_on_literals command_of found_by
streams_twice = refl

streams_of_a_value : command_of (codes "serve" ∷ codes "--tcp=yes" ∷ codes "out.rec" ∷ []) ≡ None
unfolding clap_on_literals command_of found_by
streams_of_a_value = refl

streams_of_lanes : command_of (codes "lanes" ∷ codes "--tcp" ∷ codes "out.rec" ∷ []) ≡ None
unfolding clap_on_literals command_of found_by
streams_of_lanes = refl

no_last_port : command_of (codes "serve" ∷ codes "--port" ∷ codes "65529" ∷ codes "--links" ∷ codes "8" ∷ codes "out.rec" ∷ []) ≡ None
unfolding clap_on_literals command_of found_by
no_last_port = refl

unknown : command_of (codes "walk" ∷ []) ≡ None
unfolding clap_on_literals command_of found_by
unknown = refl

none : command_of [] ≡ None
unfolding command_of
none = refl

no_number : command_of (codes "run" ∷ codes "--units=" ∷ []) ≡ None
unfolding clap_on_literals command_of found_by
no_number = refl

negative : command_of (codes "gen" ∷ codes "--seed" ∷ codes "-1" ∷ []) ≡ None
unfolding clap_on_literals command_of found_by
negative = refl

no_value : command_of (codes "lanes" ∷ codes "--units" ∷ codes "out.rec" ∷ []) ≡ None
unfolding clap_on_literals command_of found_by
no_value = refl

same_number : command_of (codes "lanes" ∷ codes "5" ∷ codes "--units" ∷ codes "5" ∷ []) ≡ None
unfolding clap_on_literals command_of found_by
same_number = refl

resume : command_of (codes "resume" ∷ codes "old.rec" ∷ codes "new.rec" ∷ []) ≡ Some (Resume (record { room = 67108864 }))
unfolding clap_on_literals command_of found_by are_options
resume = refl

resume_room : command_of (codes "resume" ∷ codes "--recording" ∷ codes "60" ∷ codes "old.rec" ∷ codes "new.rec" ∷ [])
    ≡ Some (Resume (record { room = 60 }))
unfolding clap_on_literals command_of found_by are_options
resume_room = refl

old_first : command_of (codes "resume" ∷ codes "old.rec" ∷ codes "--recording" ∷ codes "60" ∷ codes "new.rec" ∷ []) ≡ None
unfolding clap_on_literals command_of found_by are_options
old_first = refl

number_first : command_of (codes "resume" ∷ codes "60" ∷ codes "--recording" ∷ codes "60" ∷ codes "new.rec" ∷ []) ≡ None
unfolding clap_on_literals command_of found_by are_options
number_first = refl

files_first : command_of (codes "resume" ∷ codes "old.rec" ∷ codes "new.rec" ∷ codes "--recording=60" ∷ []) ≡ None
unfolding clap_on_literals command_of found_by are_options
files_first = refl

old_apart : command_of (codes "resume" ∷ codes "old.rec" ∷ codes "--" ∷ codes "new.rec" ∷ []) ≡ None
unfolding clap_on_literals command_of found_by are_options
old_apart = refl

hyphen_files : command_of (codes "resume" ∷ codes "--" ∷ codes "-a" ∷ codes "-b" ∷ []) ≡ Some (Resume (record { room = 67108864 }))
unfolding clap_on_literals command_of found_by are_options
hyphen_files = refl

one_file : command_of (codes "resume" ∷ codes "old.rec" ∷ []) ≡ None
unfolding clap_on_literals command_of found_by are_options
one_file = refl

three_files : command_of (codes "resume" ∷ codes "a" ∷ codes "b" ∷ codes "c" ∷ []) ≡ None
unfolding clap_on_literals command_of found_by are_options
three_files = refl

little_room : command_of (codes "resume" ∷ codes "--recording" ∷ codes "59" ∷ codes "a" ∷ codes "b" ∷ []) ≡ None
unfolding clap_on_literals command_of found_by are_options
little_room = refl

other_limits : command_of (codes "resume" ∷ codes "--units" ∷ codes "7" ∷ codes "a" ∷ codes "b" ∷ []) ≡ None
unfolding clap_on_literals command_of found_by are_options
other_limits = refl
