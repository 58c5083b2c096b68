-- What comes of links that are served.
use Rattle.std.specs.Prelude.{◌≡◌, ℕ, ◌+◌, Bool, true, false, if◌then◌else◌, List, [], ◌∷◌, ◌++◌}
use Rattle.std.specs.Prelude.{map, Option, Some, None}
use Rattle.std.specs.List.{AllZip}
use Rattle.std.specs.Option.{option_map, option_or}
use Rattle.osc_atoms.specs.declared.fault.Fault.{Fault}
use Rattle.osc_method.specs.Heard.{Fixed}
use Rattle.osc_model.specs.Limits.{Limits}
use Rattle.osc_model.specs.Events.{Room}
use Rattle.osc_record.specs.Shown.{room_of}
use Rattle.osc_live.specs.declared.caller.Caller.{Caller}
use Rattle.osc_links.specs.declared.link_work.LinkWork.{LinkWork}
use Rattle.osc_links.specs.declared.link_work.LinkEnd.{LinkEnd}
use Rattle.osc_links.specs.declared.link_work.Over.{Over}
use Rattle.osc_links.specs.declared.link_work.Over.TheVariants.{Failed}
use Rattle.osc_links.specs.declared.served.Bounds.{Bounds}
use Rattle.osc_links.specs.declared.served.LinksTold.{LinksTold}
use Rattle.osc_links.specs.declared.served.ServeEnd.{ServeEnd}
use Rattle.osc_links.specs.declared.served.TickerEnd.{TickerEnd}
use Rattle.osc_links.specs.declared.served.TickerEnd.TheVariants.{ClockFailed, Full}
use Rattle.osc_life.specs.Holders.{seen_by, holder_of}
use Rattle.osc_life.specs.Works.{IsDone, caller_of, work_of, caller_in, end_in}
use Rattle.osc_life.specs.declared.worker.Done.{Done}
use Rattle.osc_life.specs.declared.worker.Job.{Job}
use Rattle.osc_turn.specs.Passes.{view}
use Rattle.osc_live.specs.Closing.{known}
use Rattle.osc_links.specs.Links.{LinkTurn, stop_by}
use Rattle.osc_links.specs.Rounds.{HasEnded}
use Rattle.osc_links.specs.Ticks.{ClockRead}
use Rattle.osc_links.specs.Works.{link_plays}

-- the link failed
abbrev pub has_failed : Over → Bool
has_failed Failed = true
has_failed _ = false

-- the clock failed
abbrev pub is_clock_failed : TickerEnd → Bool
is_clock_failed ClockFailed = true
is_clock_failed _ = false

-- where the recording was full in a round, the room that was needed and the room that is free
abbrev pub ticker_stop : TickerEnd → Option Room
ticker_stop (Full room) = Some (room_of room)
ticker_stop _ = None

module _ {L : Type 0} where
  -- the faults of links that are numbered from this one on, link by link
  abbrev pub faults_from : ℕ → List (LinkEnd L) → List (ℕ × ℕ × Fault)
  faults_from link [] = []
  faults_from link (end ∷ ends) =
      map (λ one. (link, one.0, one.1)) end.faults.items ++ faults_from (link + 1) ends

  -- the least link that failed
  abbrev pub failed_from : ℕ → List (LinkEnd L) → Option ℕ
  failed_from link [] = None
  failed_from link (end ∷ ends) =
      if has_failed end.over then Some link else failed_from (link + 1) ends

  -- the room of the least link that found the recording full, or else the ticker's
  abbrev pub stop_of_all : List (LinkEnd L) → TickerEnd → Option Room
  stop_of_all [] ticker = ticker_stop ticker
  stop_of_all (end ∷ ends) ticker = option_or (stop_by end.over) (stop_of_all ends ticker)

  abbrev pub link_of : LinkWork L → L
  link_of work = work.from

  -- a link, and when it ends by itself
  abbrev pub link_at : LinkWork L → L × Bounds
  link_at work = (work.from, work.bounds)

  abbrev pub bound_to : Bounds → L → L × Bounds
  bound_to bounds link = (link, bounds)

  abbrev pub link_in : LinkEnd L → L
  link_in end = end.from

  -- What is told are the links, their faults, the least link that failed, whether the clock failed,
  -- and the room of the first of them that found the recording full, the ticker being the last.
  pub record TellsLinks (ends : List (LinkEnd L)) (ticker_end : TickerEnd)
      (told : LinksTold L) : Type 0 where
    pub links_are : told.links.items ≡ map link_in ends
    pub faults_are : told.faults.items ≡ faults_from 0 ends
    pub failed_is : told.failed ≡ failed_from 0 ends
    pub clock_failed_is : told.clock_failed ≡ is_clock_failed ticker_end
    pub stop_is : option_map room_of told.stop ≡ stop_of_all ends ticker_end

  abbrev pub told_in : ServeEnd L → LinksTold L
  told_in end =
      record {
        links = end.links;
        faults = end.faults;
        failed = end.failed;
        clock_failed = end.clock_failed;
        stop = end.stop;
      }

  -- The links were served at the same time, each under the caller in its place, and the ticker
  -- ticked under the last one. These callers come back with what their tokens know, which made
  -- none.
  pub record Serves {M : Type 0} (keep : M → Fixed) (heard : M → Option (List ℕ))
      (left : L → Option (List LinkTurn)) (faults : L → ℕ) (caps : Limits) (bounds : Bounds)
      (callers : List Caller) (links : List L) (clock : ClockRead) (end : ServeEnd L) : Type 0 where
    pub jobs : List (Job (LinkWork L))
    pub all : List (Done (LinkEnd L))
    pub ticker : Caller
    pub ticker_after : Caller
    pub ticker_end : TickerEnd
    pub callers_are : callers ≡ map caller_of jobs ++ ticker ∷ []
    pub callers_then : known end.callers.items ≡ known (map caller_in all ++ ticker_after ∷ [])
    pub links_are : map link_at (map work_of jobs) ≡ map (bound_to bounds) links
    pub served : AllZip (IsDone (link_plays keep heard left faults) caps) jobs all
    pub ticker_holder : holder_of caps ticker_after ≡ holder_of caps ticker
    pub ticker_made : (view ticker_after.pass).made ≡ (view ticker.pass).made
    pub ticks : HasEnded keep heard (holder_of caps ticker) (map seen_by (map caller_in all)) clock
        ticker_end (seen_by ticker) (seen_by ticker_after)
    pub tells : TellsLinks (map end_in all) ticker_end (told_in end)
