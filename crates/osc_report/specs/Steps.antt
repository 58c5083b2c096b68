-- Which entry has one line that may be told with others of its address.
use Rattle.std.specs.Prelude.{◌≡◌, ℕ, if◌then◌else◌, List, [], ◌∷◌, Option, Some, None}
use Rattle.std.specs.Str.{bytes_eq}
use Rattle.osc_message.specs.Arguments.{message_arguments}
use Rattle.osc_message.specs.Messages.{Argument}
use Rattle.osc_message.specs.Reading.{pattern_of}
use Rattle.osc_model.specs.Events.{Answer, Call}
use Rattle.osc_queue.specs.Timed.{Item}
use Rattle.osc_runs.specs.Gathering.{Plain}
use Rattle.osc_shown.specs.Arguments.{IsWord}
use Rattle.osc_story.specs.Standings.{Standing, Handed, calls_told}
use Rattle.osc_report.specs.declared.front.Front.{Front}
use Rattle.osc_report.specs.declared.options.Options.{Options}
use Rattle.osc_report.specs.Entries.{late_tag}
use Rattle.osc_report.specs.Fronts.{front_by}
use Rattle.osc_report.specs.Moments.{shown_moment}

-- the argument, where there is one alone
abbrev pub one_argument : List Argument → Option Argument
one_argument (argument ∷ []) = Some argument
one_argument _ = None

-- the argument of a message that called just its own address, and came late for no time tag
abbrev pub plain_argument : List ℕ → Option ℕ → List Call → Option Argument
plain_argument message None (call ∷ []) =
    if bytes_eq call.address (pattern_of message) then one_argument (message_arguments message)
    else None
plain_argument message _ _ = None

-- What may be told with others: by whom it was handed in, its address, and its argument.
pub record Moved : Type 0 where
  pub caller : ℕ
  pub address : List ℕ
  pub argument : Argument

abbrev pub moved_by : ℕ → List ℕ → Option Argument → Option Moved
moved_by caller message None = None
moved_by caller message (Some argument) =
    Some (record { caller = caller; address = pattern_of message; argument = argument })

abbrev pub moved_in : ℕ → List (List ℕ) → Option ℕ → List Call → Option Moved
moved_in caller (message ∷ []) late made =
    moved_by caller message (plain_argument message late made)
moved_in caller _ late made = None

abbrev pub moved_first : List (Item Handed) → List Call → Option Moved
moved_first [] made = None
moved_first (item ∷ items) made =
    moved_in item.2.caller item.2.unit.messages (late_tag item) made

-- nothing is told with others before something has ticked
abbrev pub moved_at : Option ℕ → Option Moved → Option Moved
moved_at None one = None
moved_at (Some moment) one = one

-- what of an entry may be told with others, by its answer and what stands before it
abbrev pub moved : Standing → ℕ → Answer → Option Moved
moved standing moment answer =
    moved_at (shown_moment moment) (moved_first standing.waiting (calls_told standing answer))

-- its line, which stands so by itself
abbrev pub IsPlain : Options → Front → List ℕ → Moved → Plain → Type 0
IsPlain options front line one plain =
    (words : List ℕ) × IsWord front.look.whole one.argument words
    × (plain ≡ record {
      look = (front_by options front one.caller).look;
      moment = front.moment;
      address = one.address;
      words = words;
      line = line;
    })

-- the same, or none
abbrev pub IsStep : Options → Front → List ℕ → Option Moved → Option Plain → Type 0
IsStep options front line None step = step ≡ None
IsStep options front line (Some one) None = ⊥
IsStep options front line (Some one) (Some plain) = IsPlain options front line one plain
