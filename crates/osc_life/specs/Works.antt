-- What workers play, each under a caller of its own, and what goes on meanwhile.
use Rattle.std.specs.Prelude.{◌≡◌, List, [], map, All}
use Rattle.std.specs.List.{AllZip}
use Rattle.osc_method.specs.declared.method.Method.{Ghosts}
use Rattle.osc_model.specs.Limits.{Limits}
use Rattle.osc_turn.specs.declared.view.Entry.{Entry as Seen}
use Rattle.osc_turn.specs.declared.view.View.{View}
use Rattle.osc_turn.specs.History.{StartsWith, own}
use Rattle.osc_turn.specs.Passes.{view}
use Rattle.osc_live.specs.declared.caller.Caller.{Caller}
use Rattle.osc_live.specs.declared.live.Live.{Live}
use Rattle.osc_live.specs.Closing.{known}
use Rattle.osc_live.specs.Tokens.{IsOurs}
use Rattle.osc_life.specs.declared.beside.Beside.{Beside}
use Rattle.osc_life.specs.declared.players.Players.{Players}
use Rattle.osc_life.specs.declared.worker.Job.{Job}
use Rattle.osc_life.specs.declared.worker.Done.{Done}
use Rattle.osc_life.specs.Holders.{Holder, Learns, Onward, seen_by, holder_of}

abbrev pub caller_of : {P : Type 0} → Job P → Caller
caller_of job = job.caller

abbrev pub work_of : {P : Type 0} → Job P → P
work_of job = job.work

abbrev pub caller_in : {E : Type 0} → Done E → Caller
caller_in done = done.caller

abbrev pub end_in : {E : Type 0} → Done E → E
end_in done = done.end

module _ {M : Type 0} {G : Ghosts M} (live : Live M G) where
  -- the job can be played on this server
  pub record CanPlay {P : Type 0} (ready : P → Type 0) (job : Job P) : Type 0 where
    pub ours : IsOurs live job.caller
    pub is_ready : ready job.work

  module _ {X T : Type 0} (rounds : X → X → T → Holder → View → View → Type 0) where
    -- rounds were played, by the holder of this caller's token
    pub record CanGoOn (on : X) (state : T) (caller : Caller) : Type 0 where
      pub ours : IsOurs live caller
      pub before : X
      pub start : View
      pub played : rounds before on state (holder_of live.caps caller) start (view caller.pass)

    -- the jobs can be played, and what goes on meanwhile
    pub record CanBegin {P : Type 0} (ready : P → Type 0) (on : X)
        (players : Players P T) : Type 0 where
      pub jobs : All (CanPlay ready) players.jobs.items
      pub goes : CanGoOn on players.meanwhile players.caller

    -- the same, before the token was told of what others have seen
    pub record CanEnd (on : X) (state : T) (caller : Caller) : Type 0 where
      pub ours : IsOurs live caller
      pub before : X
      pub start : View
      pub met : View
      pub learns : Learns met (view caller.pass)
      pub played : rounds before on state (holder_of live.caps caller) start met

    -- whatever rounds were played before, more of them were played then, under the same token,
    -- which made none
    pub record PlaysOn (on then_on : X) (state then : T) (caller after : Caller) : Type 0 where
      pub ours : IsOurs live after
      pub holder : holder_of live.caps after ≡ holder_of live.caps caller
      pub made : (view after.pass).made ≡ (view caller.pass).made
      pub starts : StartsWith (seen_by after) (seen_by caller)
      pub goes_on : (before : X) (v : View)
          → rounds before on state (holder_of live.caps caller) v (view caller.pass)
          → rounds before then_on then (holder_of live.caps caller) v (view after.pass)

    -- whatever rounds were played before the token was told of what others have seen, they ended
    -- then, after all that these tokens have seen
    pub record Ends {F : Type 0}
        (ends : X → X → F → Holder → List (List Seen) → View → View → Type 0)
        (on then_on : X) (state : T) (end : F) (caller after : Caller) : Type 0 where
      pub ours : IsOurs live after
      pub holder : holder_of live.caps after ≡ holder_of live.caps caller
      pub made : (view after.pass).made ≡ (view caller.pass).made
      pub starts : StartsWith (seen_by after) (seen_by caller)
      pub ended : (before : X) (v met : View) (tokens : List (List Seen))
          → rounds before on state (holder_of live.caps caller) v met
          → Learns met (view caller.pass) → All (StartsWith (seen_by caller)) tokens
          → ends before then_on end (holder_of live.caps caller) tokens v (view after.pass)

    -- whatever rounds were played before, they were ended so, after all that these others have
    -- seen, who come back as they were
    pub record IsOver {F : Type 0}
        (ends : X → X → F → Holder → List (List Seen) → View → View → Type 0)
        (on then_on : X) (state : T) (end : F) (caller after : Caller)
        (others back : List Caller) : Type 0 where
      pub ours : IsOurs live after
      pub others_ours : All (IsOurs live) back
      pub holder : holder_of live.caps after ≡ holder_of live.caps caller
      pub made : (view after.pass).made ≡ (view caller.pass).made
      pub starts : StartsWith (seen_by after) (seen_by caller)
      pub same : known back ≡ known others
      pub told : All (λ one. StartsWith (seen_by after) one.1.seen) (known others)
      pub ended : (before : X) (v : View)
          → rounds before on state (holder_of live.caps caller) v (view caller.pass)
          → ends before then_on end (holder_of live.caps caller) (map seen_by others) v
          (view after.pass)

module _ {P E : Type 0} (plays : P → E → Holder → List Seen → List Seen → Type 0) where
  -- The caller comes back with its token, which made none, and the work was played between what it
  -- had seen and what it has seen then.
  pub record IsDone (caps : Limits) (job : Job P) (done : Done E) : Type 0 where
    pub holder : holder_of caps done.caller ≡ holder_of caps job.caller
    pub made : (view done.caller.pass).made ≡ (view job.caller.pass).made
    pub played : plays job.work done.end (holder_of caps job.caller) (seen_by job.caller)
        (seen_by done.caller)

  -- A worker's share of a history: its work was played from where its token came in, after these
  -- entries, to what the token has seen then, and the history has no other entry of it.
  pub record HasShare (holder : Holder) (first history : List Seen) (work : P) (end : E)
      (there : List Seen) : Type 0 where
    pub here : List Seen
    pub comes_after : StartsWith here first
    pub fresh : own holder.token here ≡ []
    pub played : plays work end holder here there
    pub onward : Onward holder.token there history

module _ {M : Type 0} {G : Ghosts M} (live : Live M G) {P E X T F : Type 0}
    (plays : P → E → Holder → List Seen → List Seen → Type 0)
    (rounds : X → X → T → Holder → View → View → Type 0)
    (ends : X → X → F → Holder → List (List Seen) → View → View → Type 0) where
  -- The jobs were played, and rounds meanwhile, that were ended after all that the jobs' tokens
  -- have seen.
  pub record ArePlayed (jobs : List (Job P)) (on then_on : X) (state : T) (caller : Caller)
      (both : Beside E F) : Type 0 where
    pub all : List (Done E)
    pub done : AllZip (IsDone plays live.caps) jobs all
    pub ends_are : both.ends.items ≡ map end_in all
    pub over : IsOver live rounds ends on then_on state both.end caller both.crew.first
        (map caller_in all) both.crew.callers.items
