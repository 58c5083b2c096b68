-- The run of a script, one line on.
use Rattle.std.proofs.Common.{◌≡◌, ℕ, ◌+◌, ◌<◌, ◌≤◌, true, false, List, [], ◌∷◌, ◌++◌, Option, Some, None, is_some, refl, sym, ap}
use Rattle.std.proofs.Common.{subst, ◌∙◌, arith, append_assoc}
use Rattle.std.specs.Option.{option_map}
use Rattle.std.proofs.lemmas.List.{append-nil}
use Rattle.std.proofs.lemmas.Grind.{flat_map-append}
use Rattle.osc_atoms.specs.declared.room.Room.{Room as CodeRoom}
use Rattle.osc_model.specs.State.{State}
use Rattle.osc_model.specs.Events.{Entry, Room}
use Rattle.osc_model.specs.History.{Performance, after, state_of}
use Rattle.osc_print.specs.Lines.{fault_text}
use Rattle.osc_record.specs.Shown.{room_of}
use Rattle.osc_script.specs.declared.line.Line.{Line}
use Rattle.osc_script.specs.Adds.{adds_of, count_adds}
use Rattle.osc_player.specs.Plain.{LineFault, Played, followed, plain_from, entries_of, act_faults, stop_of}
use Rattle.osc_player.specs.Plain.{printed_faults}
use Rattle.osc_player.specs.Tally.{played_on}
use Rattle.osc_player.proofs.Onward.{on_none, on_more, on_state, callers_stay}

no_room : (stop : Option CodeRoom) → is_some stop ≡ false → option_map room_of stop ≡ None
no_room None none = refl
no_room (Some room) none = absurd (cc)

said-append : (first more : List LineFault) → printed_faults (first ++ more) ≡ printed_faults first ++ printed_faults more
said-append first more = flat_map-append (λ (f : LineFault). fault_text f.line f.fault) first more

-- the entries and the faults of some lines, before what comes of others
abbrev pub before : List Entry → List LineFault → Played → Played
before entries faults later = followed entries faults None later

before_none : (later : Played) → before [] [] later ≡ later
before_none later = refl

before_more : (entries more : List Entry) (faults others : List LineFault) (later : Played)
    → before entries faults (before more others later) ≡ before (entries ++ more) (faults ++ others) later
before_more entries more faults others later =
    ap (λ (l : List Entry). let played : Played = record { history = l; faults = faults ++ (others ++ later.faults); stop = later.stop } in played)
    (sym (append_assoc entries more later.history))
    ∙ ap (λ (l : List LineFault). let played : Played = record { history = (entries ++ more) ++ later.history; faults = l; stop = later.stop } in played)
    (sym (append_assoc faults others later.faults))

-- Lines were played from a performance on, and the rest are not yet: the entries so far, what is said of the faults so
-- far, the callers, and the boxes that wait.
pub record RunsOn (initial : Performance) (said : List ℕ) (lines rest : List Line) (performance : Performance) (text : List ℕ) (waiting : ℕ) : Type 0 where
  pub entries : List Entry
  pub faults : List LineFault
  pub on : performance ≡ played_on initial entries
  pub listed : text ≡ said ++ printed_faults faults
  pub whole : before entries faults (plain_from (state_of performance) rest) ≡ plain_from (state_of initial) lines
  pub caller : 0 < (state_of performance).callers
  pub handed : count_adds rest ≤ waiting

-- the lines were played, to their end or up to a stop
pub record HasRun (initial : Performance) (said : List ℕ) (lines : List Line) (performance : Performance) (text : List ℕ) (stop : Option Room) : Type 0 where
  pub on : performance ≡ played_on initial (plain_from (state_of initial) lines).history
  pub listed : text ≡ said ++ printed_faults (plain_from (state_of initial) lines).faults
  pub stopped : stop ≡ (plain_from (state_of initial) lines).stop

has_run : (initial : Performance) (said : List ℕ) (lines : List Line) (performance : Performance) (text : List ℕ) (played : Played)
    → played ≡ plain_from (state_of initial) lines → performance ≡ played_on initial played.history → text ≡ said ++ printed_faults played.faults
    → HasRun initial said lines performance text played.stop
has_run initial said lines performance text played is on listed = record {
  on = on ∙ ap (λ (p : Played). played_on initial p.history) is;
  listed = listed ∙ ap (λ (p : Played). said ++ printed_faults p.faults) is;
  stopped = ap (λ (p : Played). p.stop) is;
}

-- no line is left
pub run_ends : (initial : Performance) (said : List ℕ) (lines rest : List Line) (performance : Performance) (text : List ℕ) (waiting : ℕ) → rest ≡ []
    → RunsOn initial said lines rest performance text waiting → HasRun initial said lines performance text None
run_ends initial said lines rest performance text waiting none run =
    has_run initial said lines performance text (before run.entries run.faults (plain_from (state_of performance) []))
    (ap (λ (l : List Line). before run.entries run.faults (plain_from (state_of performance) l)) (sym none) ∙ run.whole)
    (run.on ∙ ap (λ (l : List Entry). played_on initial l) (sym (append-nil run.entries)))
    (run.listed ∙ ap (λ (l : List LineFault). said ++ printed_faults l) (sym (append-nil run.faults)))

pub run_begins : (initial : Performance) (said : List ℕ) (lines rest : List Line) (waiting : ℕ) → rest ≡ lines → 0 < (state_of initial).callers
    → count_adds lines ≤ waiting → RunsOn initial said lines rest initial said waiting
run_begins initial said lines rest waiting all caller enough = record {
  entries = [];
  faults = [];
  on = sym (on_none initial);
  listed = sym (append-nil said);
  whole = before_none (plain_from (state_of initial) rest) ∙ ap (λ (l : List Line). plain_from (state_of initial) l) all;
  caller = caller;
  handed = omega (arith, ap (λ (l : List Line). count_adds l) all, enough);
}

module _ (initial : Performance) (said : List ℕ) (lines rest : List Line) (line : Line) (now : List Line) (is : now ≡ line ∷ rest) (performance : Performance)
    (text : List ℕ) (waiting : ℕ) (run : RunsOn initial said lines now performance text waiting) where
  -- there is a box for the add of the next line
  pub run_handed : adds_of line.act ≤ waiting
  run_handed = omega (arith, ap (λ (l : List Line). count_adds l) is, run.handed)

  next_whole : before run.entries run.faults (plain_from (state_of performance) (line ∷ rest)) ≡ plain_from (state_of initial) lines
  next_whole = ap (λ (l : List Line). before run.entries run.faults (plain_from (state_of performance) l)) (sym is) ∙ run.whole

  module _ (performance' : Performance) (text' : List ℕ) (on : performance' ≡ played_on performance (entries_of (state_of performance) line.act))
      (listed : text' ≡ text ++ printed_faults (act_faults line.number line.act)) where
    joined : performance' ≡ played_on initial (run.entries ++ entries_of (state_of performance) line.act)
    joined = on ∙ ap (λ (p : Performance). played_on p (entries_of (state_of performance) line.act)) run.on
        ∙ on_more initial run.entries (entries_of (state_of performance) line.act)

    told : text' ≡ said ++ printed_faults (run.faults ++ act_faults line.number line.act)
    told =
        listed ∙ ap (λ (l : List ℕ). l ++ printed_faults (act_faults line.number line.act)) run.listed
        ∙ append_assoc said (printed_faults run.faults) (printed_faults (act_faults line.number line.act))
        ∙ ap (λ (l : List ℕ). said ++ l) (sym (said-append run.faults (act_faults line.number line.act)))

    then : state_of performance' ≡ after (state_of performance) (entries_of (state_of performance) line.act)
    then = ap (λ (p : Performance). state_of p) on ∙ on_state performance (entries_of (state_of performance) line.act)

    pub caller' : 0 < (state_of performance').callers
    caller' = subst (λ (s : State). 0 < s.callers) (sym then) (callers_stay (state_of performance) (entries_of (state_of performance) line.act) run.caller)

    -- a line that goes on
    pub run_on : (waiting' : ℕ) (stop : Option CodeRoom) → is_some stop ≡ false → option_map room_of stop ≡ stop_of (state_of performance) line.act
        → waiting ≤ adds_of line.act + waiting' → RunsOn initial said lines rest performance' text' waiting'
    run_on waiting' stop none stops fewer =
        let goes : None ≡ stop_of (state_of performance) line.act = sym (no_room stop none) ∙ stops in
        let entries = entries_of (state_of performance) line.act in
        let faults = act_faults line.number line.act in
        let later = plain_from (after (state_of performance) entries) rest in
        record {
          entries = run.entries ++ entries;
          faults = run.faults ++ faults;
          on = joined;
          listed = told;
          whole =
              ap (λ (s : State). before (run.entries ++ entries) (run.faults ++ faults) (plain_from s rest)) then
              ∙ sym (before_more run.entries entries run.faults faults later)
              ∙ ap (λ (stop : Option Room). before run.entries run.faults (followed entries faults stop later)) goes
              ∙ next_whole;
          caller = caller';
          handed = omega (arith, ap (λ (l : List Line). count_adds l) is, run.handed, fewer);
        }

    -- a line that stops the script
    pub run_stops : (stop : Option CodeRoom) → is_some stop ≡ true → option_map room_of stop ≡ stop_of (state_of performance) line.act
        → HasRun initial said lines performance' text' (option_map room_of stop)
    run_stops None some stops = absurd (cc)
    run_stops (Some room) some stops =
        let entries = entries_of (state_of performance) line.act in
        let faults = act_faults line.number line.act in
        let later = plain_from (after (state_of performance) entries) rest in
        has_run initial said lines performance' text' (before run.entries run.faults (followed entries faults (Some (room_of room)) later))
        (ap (λ (s : Option Room). before run.entries run.faults (followed entries faults s later)) stops ∙ next_whole) joined told
