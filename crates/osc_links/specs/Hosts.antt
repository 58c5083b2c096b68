-- The result of the whole life of a server with links: one history, and each link's share of it.
use Rattle.std.specs.Prelude.{◌≡◌, ℕ, ◌+◌, ◌<◌, false, List, [], ◌∷◌, ◌++◌, length, Option}
use Rattle.std.specs.Prelude.{None, MatchOption}
use Rattle.std.specs.Option.{option_map}
use Rattle.osc_method.specs.Heard.{Fixed}
use Rattle.osc_model.specs.Limits.{Limits}
use Rattle.osc_model.specs.Events.{release, nothing_due}
use Rattle.osc_model.specs.History.{stepped_in}
use Rattle.osc_record.specs.Shown.{room_of}
use Rattle.osc_core.specs.Standing.{history_in}
use Rattle.osc_turn.specs.declared.view.Entry.{Entry as Seen}
use Rattle.osc_turn.specs.History.{StartsWith, texts, own}
use Rattle.osc_live.specs.Seen.{performance_in}
use Rattle.osc_links.specs.declared.run.Hosted.{Hosted}
use Rattle.osc_links.specs.declared.link_work.LinkEnd.{LinkEnd}
use Rattle.osc_links.specs.declared.served.Bounds.{Bounds}
use Rattle.osc_links.specs.declared.served.LinksTold.{LinksTold}
use Rattle.osc_links.specs.declared.served.TickerEnd.{TickerEnd}
use Rattle.osc_links.specs.declared.served.TickerEnd.TheVariants.{Done}
use Rattle.osc_links.specs.Links.{LinkTurn, LinkOf, HasEndCause, link_account, stop_by}
use Rattle.osc_life.specs.Lives.{IsLife, HasNoRoomToEnrol}
use Rattle.osc_lanes.specs.Performs.{Part}
use Rattle.osc_lanes.specs.Later.{IsClosedLater}
use Rattle.osc_life.specs.Holders.{holder_at}
use Rattle.osc_lanes.specs.Performs.{told_of}
use Rattle.osc_links.specs.Serves.{TellsLinks}
use Rattle.osc_lanes.specs.Shares.{Plays}
use Rattle.osc_links.specs.Ticks.{ClockRead, TickOf}

-- no unit is due after this history
abbrev pub IsSettled : Limits → List Seen → Type 0
IsSettled caps history = (next : Option ℕ)
    × (nothing_due next ≡ (stepped_in (performance_in caps (texts history)) release).answer)

-- the clock stands as it was
abbrev pub IsStill : ClockRead → Type 0
IsStill clock = (clock.after ≡ clock.before) × (clock.now ≡ clock.faults)

module _ {L : Type 0} where
  -- no link was called, nor the clock, and nothing is told of them
  pub record IsUnserved (links : List L) (clock : ClockRead) (told : LinksTold L) : Type 0 where
    pub links_are : told.links.items ≡ links
    pub clock_is : IsStill clock
    pub faults_are : told.faults.items ≡ []
    pub failed_is : told.failed ≡ None
    pub clock_failed_is : told.clock_failed ≡ false
    pub stop_is : told.stop ≡ None

module _ {L : Type 0} (left : L → Option (List LinkTurn)) (faults : L → ℕ) where
  module _ {M : Type 0} (keep : M → Fixed) (heard : M → Option (List ℕ)) (caps : Limits) where
    -- The share of a history of the link that caller `number` submits for: its turns were played
    -- from where its token came in, after caller 0's entries, to what the token has seen then; and
    -- the history has no other entry of it. Where the link tells, what it had left are these turns
    -- and what it has left after them.
    pub record IsServed (bounds : Bounds) (history : List Seen) (number : ℕ) (link : L)
        (end : LinkEnd L) (there : List Seen) : Type 0 where
      pub turns : List LinkTurn
      pub share : LinkOf keep heard (holder_at caps number) bounds turns end.over
          (link_account end.faults.items (stop_by end.over)) history
      pub comes_after : StartsWith share.0 (own 0 history)
      pub there_is : there ≡ share.1
      pub taken : left link ≡ option_map (λ after. turns ++ after) (left end.from)
      pub cause : HasEndCause end.over (left end.from) (faults link) (faults end.from)

    -- links with their ends and what their tokens have seen, numbered from this one on
    abbrev pub AreServed : Bounds → List Seen → ℕ → List L → List (LinkEnd L) → List (List Seen)
        → Type 0
    AreServed bounds history number [] [] [] = Unit {0}
    AreServed bounds history number (link ∷ links) (end ∷ ends) (there ∷ tokens) =
        IsServed bounds history number link end there
        × AreServed bounds history (number + 1) links ends tokens
    AreServed bounds history number _ _ _ = ⊥

    -- The links were served at the same time, the k-th by caller k, and the ticker ticked under the
    -- caller after them, which came in after caller 0's entries, and whose last round is after all
    -- that the links have done: then no unit is due.
    pub record ServesAll (bounds : Bounds) (history : List Seen) (links : List L)
        (clock : ClockRead) (told : LinksTold L) : Type 0 where
      pub ends : List (LinkEnd L)
      pub tokens : List (List Seen)
      pub ticker_end : TickerEnd
      pub shares : AreServed bounds history 1 links ends tokens
      pub ticks : TickOf keep heard (holder_at caps (length links + 1)) tokens clock ticker_end
          history
      pub comes_after : StartsWith ticks.0 (own 0 history)
      pub settled : ticker_end ≡ Done → IsSettled caps history
      pub tells : TellsLinks ends ticker_end told

    -- The server played caller 0's lines, enrolled a caller for each link and one for the ticker,
    -- and served the links. Where one of these lines, or an enrolment, found the recording full, no
    -- link was started, and all entries are caller 0's. There is one history, with which the server
    -- was closed, and it begins with caller 0's share.
    pub record Hosts (bounds : Bounds) (part : Part M) (links : List L) (clock : ClockRead)
        (hosted : Hosted M L) : Type 0 where
      pub history : List Seen
      pub callers : ℕ
      pub opened : List Seen
      pub plays : Plays keep heard (holder_at caps 0) part.lines part.boxes
          (told_of hosted.opening) [] opened
      pub begins : StartsWith (own 0 history) opened
      pub stage : IsLife caps [] (history_in (texts opened)) 1 callers history
      pub closed : IsClosedLater keep heard caps [] history hosted.closed.bytes.items
          hosted.closed.kept.items (told_of hosted.opening ∷ [])
      pub shares : MatchOption hosted.opening.stop
          (MatchOption hosted.unenrolled
          ((callers ≡ length links + 1) × ServesAll bounds history links clock hosted.links)
          (λ room. (callers < length links + 1) × HasNoRoomToEnrol caps history (room_of room)
          × IsUnserved links clock hosted.links))
          (λ room. (callers ≡ 0) × (hosted.unenrolled ≡ None) × (own 0 history ≡ history)
          × IsUnserved links clock hosted.links)
