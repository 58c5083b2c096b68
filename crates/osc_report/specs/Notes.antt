-- The lines of methods that come and go, of ticks, and of callers.
use Rattle.std.specs.Prelude.{ℕ, if◌then◌else◌, List, [], ◌++◌, codes, Option, Some, None}
use Rattle.std.specs.Prelude.{unwrap_or, is_none}
use Rattle.std.specs.Fmt.{decimal}
use Rattle.osc_pattern.specs.Methods.{Method}
use Rattle.osc_tree.specs.Adding.{Refusal, taken, under_method, is_container, methods_full}
use Rattle.osc_tree.specs.Adding.{nodes_full}
use Rattle.osc_tree.specs.Registry.{address_by_id}
use Rattle.osc_model.specs.Events.{Answer, number, callers_full, added, refused, removed, not_there}
use Rattle.osc_model.specs.Events.{ticked, clock_back}
use Rattle.osc_shown.specs.declared.head.Head.{Head}
use Rattle.osc_shown.specs.declared.wall_clock.WallClock.{WallClock}
use Rattle.osc_shown.specs.Numbers.{thousands}
use Rattle.osc_shown.specs.Times.{time_text}
use Rattle.osc_shown.specs.Told.{note_text}
use Rattle.osc_report.specs.declared.front.Front.{Front}
use Rattle.osc_report.specs.declared.options.Options.{Options}
use Rattle.osc_report.specs.Choices.{is_named}
use Rattle.osc_report.specs.Moments.{shown_moment}

-- what stands before the words of a line
abbrev pub head : Front → ℕ → ℕ → Head
head front mark join =
    record { look = front.look; moment = shown_moment front.moment; mark = mark; join = join }

-- a line of words with a tail, unless it is left out
abbrev pub note : Front → ℕ → List ℕ → List ℕ → List ℕ
note front mark words tail = note_text (head front mark 32) words tail

-- the line of an address, unless it is left out
abbrev pub named_note : Options → Front → ℕ → List ℕ → List ℕ → List ℕ
named_note options front mark address tail =
    if is_named options.only address then note front mark address tail else []

-- a line that has no address, unless it is left out
abbrev pub unnamed_note : Options → Front → ℕ → List ℕ → List ℕ → List ℕ
unnamed_note options front mark words tail =
    if is_none options.only then note front mark words tail else []

-- one that stands only where ticks are shown
abbrev pub tick_note : Options → Front → List ℕ → List ℕ
tick_note options front words =
    if options.ticks then unnamed_note options front 46 words [] else []

-- a new caller
abbrev pub enrol_text : Options → Front → Answer → List ℕ
enrol_text options front (number n) = tick_note options front (codes "caller " ++ decimal n)
enrol_text options front callers_full = tick_note options front (codes "no more callers")
enrol_text options front _ = []

-- above an address there is the method with an id
abbrev pub under_words : List Method → ℕ → List ℕ
under_words methods id =
    codes "not added, it lies under " ++ unwrap_or (address_by_id methods id) (codes "?")

-- there are so many methods
abbrev pub full_words : ℕ → List ℕ
full_words limit =
    codes "not added, there are " ++ thousands limit ++ codes " methods, as many as may be"

-- why a method wasn't added
abbrev pub refused_words : List Method → Refusal → List ℕ
refused_words methods (taken id) = codes "not added, there is a method already"
refused_words methods (under_method id) = under_words methods id
refused_words methods is_container = codes "not added, others lie under it"
refused_words methods (methods_full limit) = full_words limit
refused_words methods (nodes_full need free) = codes "not added, the tree has no room"

-- the same, where it wasn't
abbrev pub why_not : List Method → Answer → Option (List ℕ)
why_not methods (refused why) = Some (refused_words methods why)
why_not methods _ = None

-- an address to which a method was to be added, while these are there
abbrev pub add_text : Options → Front → List Method → List ℕ → Answer → List ℕ
add_text options front methods address (added id) =
    named_note options front 43 address []
add_text options front methods address (refused why) =
    named_note options front 33 address (refused_words methods why)
add_text options front methods address _ = []

-- an address whose method was to be removed
abbrev pub remove_text : Options → Front → List ℕ → Answer → List ℕ
remove_text options front address (removed id) =
    named_note options front 45 address []
remove_text options front address not_there =
    named_note options front 33 address (codes "not removed, no method is there")
remove_text options front address _ = []

-- to when a clock went back
abbrev pub back_words : WallClock → ℕ → List ℕ
back_words clock now = codes "the clock went back to " ++ time_text clock now

-- a tick that isn't after the clock
abbrev pub clock_back_text : Options → Front → ℕ → List ℕ
clock_back_text options front now =
    unnamed_note options front 33 (back_words front.look.clock now)
    (codes "it stays where it was")

-- a tick
abbrev pub tick_text : Options → Front → ℕ → Answer → List ℕ
tick_text options front now ticked = tick_note options front (codes "tick")
tick_text options front now (clock_back kept) = clock_back_text options front now
tick_text options front now _ = []
