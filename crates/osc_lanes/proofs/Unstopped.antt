-- A recording with room enough for all lanes stops none of them.
use Rattle.std.proofs.Common.{◌≡◌, ℕ, suc, ◌+◌, ◌*◌, ◌<◌, ◌≤◌, Bool, true, false, cond, List, [], ◌∷◌, length, All, Option, Some, None, is_none, sum_by, refl}
use Rattle.std.proofs.Common.{sym, ap, ◌∙◌, arith, get_or}
use Rattle.std.specs.Prelude.{MatchOption}
use Rattle.std.specs.List.{AllByRecursion}
use Rattle.std.proofs.lemmas.List.Sums.{sum_by-cons, sum_by-append}
use Rattle.std.proofs.lemmas.List.Elements.{All-from_recursion, recursion_from_All}
use Rattle.osc_atoms.specs.declared.limits.TheConstants.{MAX_PACKET}
use Rattle.osc_packet.specs.Reading.{is_packet, units_read}
use Rattle.osc_method.specs.Heard.{Fixed}
use Rattle.osc_model.specs.Limits.{Limits, header_size}
use Rattle.osc_model.specs.Events.{Event, Room, enrol, submit, record_full}
use Rattle.osc_model.specs.History.{stepped_in}
use Rattle.osc_core.specs.Standing.{history_in}
use Rattle.osc_script.specs.declared.act.Act.{Act}
use Rattle.osc_script.specs.declared.line.Line.{Line}
use Rattle.osc_turn.specs.declared.view.Entry.{Entry as Seen}
use Rattle.osc_turn.specs.History.{StartsWith, texts, own}
use Rattle.osc_turn.proofs.Histories.{starts_here}
use Rattle.osc_live.specs.Seen.{performance_in}
use Rattle.osc_script.specs.Adds.{adds_of, count_adds}
use Rattle.osc_lanes.specs.Shares.{Account, LaneOf}
use Rattle.osc_life.specs.Holders.{holder_at}
use Rattle.osc_life.specs.Lives.{Numbered}
use Rattle.osc_lanes.specs.Performs.{Part}
use Rattle.osc_lanes.specs.Later.{IsLaterStage, Performs}
use Rattle.osc_lanes.proofs.Performing.{below}
use Rattle.osc_script.specs.Enough.{event_size, act_size, act_units, act_messages}
use Rattle.osc_lanes.specs.Enough.{all_lines, enough_for}
use Rattle.osc_script.proofs.Costs.{units_cost, units_cost_is, event_cost, more_methods, spent, full_takes}
use Rattle.osc_lanes.proofs.Performing.{shares_after}
use Rattle.osc_lanes.proofs.Spending.{Covers, FillsIn, SpendsIn, lane_spends}
use Rattle.osc_lanes.proofs.Weights.{weighed, weighed_in, weighed_read, weighed_starts, enrolments_weigh, all_weigh}

-- What a line takes, of methods and of bytes.

adds_covered : Covers more_methods adds_of
adds_covered = record {
  adds = λ address. omega arith;
  removes = λ address. omega arith;
  sends = λ packet valid. omega arith;
  ticks = λ moment. omega arith;
  releases = refl;
}

adds_counted : (lines : List Line) → sum_by (λ line. adds_of line.act) lines ≡ count_adds lines
adds_counted [] = refl
adds_counted (line ∷ lines) = omega (arith, sum_by-cons (λ (line : Line). adds_of line.act) line lines, adds_counted lines)

abbrev act_cost : ℕ → Act → ℕ
act_cost most act = act_size act + 44 * act_units act + 8 * (act_messages act * most)

send_covered : (most : ℕ) (packet : List ℕ) (t : Bool) → t ≡ true
    → event_size (submit packet) + units_cost most (units_read packet)
    ≤ cond t (event_size (submit packet)) 0 + 44 * cond t (length (units_read packet)) 0
    + 8 * (cond t (sum_by (λ unit. length unit.messages) (units_read packet)) 0 * most)
send_covered most packet true is = omega (arith, units_cost_is most (units_read packet))
send_covered most packet false is = absurd (cc)

cost_covered : (most : ℕ) → Covers (event_cost most) (act_cost most)
cost_covered most = record {
  adds = λ address. omega arith;
  removes = λ address. omega arith;
  sends = λ packet valid. send_covered most packet (is_packet MAX_PACKET packet) (ap is_none valid);
  ticks = λ moment. omega arith;
  releases = refl;
}

cost_counted : (most : ℕ) (lines : List Line) → sum_by (λ line. act_cost most line.act) lines
    ≡ sum_by (λ line. act_size line.act) lines + 44 * sum_by (λ line. act_units line.act) lines + 8 * (sum_by (λ line. act_messages line.act) lines * most)
cost_counted most [] = omega arith
cost_counted most (line ∷ lines) =
    omega (
      arith,
      sum_by-cons (λ (line : Line). act_cost most line.act) line lines,
      sum_by-cons (λ (line : Line). act_size line.act) line lines,
      sum_by-cons (λ (line : Line). act_units line.act) line lines,
      ap (λ (n : ℕ). n * most) (sum_by-cons (λ (line : Line). act_messages line.act) line lines),
      cost_counted most lines,
    )

module _ {M : Type 0} (keep : M → Fixed) (heard : M → Option (List ℕ)) (caps : Limits) (history : List Seen) where
  abbrev IsShare : ℕ → Part M → Account M → Type 0
  IsShare number part account = LaneOf keep heard (holder_at caps number) part.lines part.boxes account history

  -- All lanes.

  module _ (weight : Event → ℕ) (takes : Act → ℕ) (covers : Covers weight takes) where
    -- what the lines of parts take
    abbrev taken_in : List (Part M) → ℕ
    taken_in parts = sum_by (λ line. takes line.act) (all_lines parts)

    part_more : (part : Part M) (parts : List (Part M)) → taken_in (part ∷ parts) ≡ sum_by (λ line. takes line.act) part.lines + taken_in parts
    part_more part parts = sum_by-append (λ (line : Line). takes line.act) part.lines (all_lines parts)

    one_spends : (number : ℕ) (part : Part M) (account : Account M) → IsShare number part account
        → SpendsIn weight takes covers keep heard (holder_at caps number) history (sum_by (λ line. takes line.act) part.lines) account.stop
    one_spends number part account share = lane_spends weight takes covers keep heard (holder_at caps number) part.lines part.boxes account history share

    lanes_spend : (first : ℕ) (parts : List (Part M)) (accounts : List (Account M)) → Numbered IsShare first parts accounts
        → weighed_in weight history first (length parts) ≤ taken_in parts
    lanes_spend first [] accounts shares = omega arith
    lanes_spend first (part ∷ parts) [] shares = absurd shares
    lanes_spend first (part ∷ parts) (account ∷ accounts) (share, shares) =
        omega (arith, (one_spends first part account share).most, lanes_spend (first + 1) parts accounts shares, part_more part parts)

    -- no event finds no room that has been counted besides all entries of the lanes from this one on
    abbrev NeverFull : ℕ → List (Part M) → Type 0
    NeverFull first parts =
        (event : Event) (there : List Seen) (room : Room) → StartsWith history there
        → record_full room ≡ (stepped_in (performance_in caps (texts there)) event).answer
        → weight event + weighed_in weight history first (length parts) ≤ taken_in parts → ⊥

    none_stops : (first : ℕ) (parts : List (Part M)) (accounts : List (Account M)) → NeverFull first parts → Numbered IsShare first parts accounts
        → AllByRecursion (λ account. account.stop ≡ None) accounts
    none_stops first parts [] never shares = tt
    none_stops first [] (account ∷ accounts) never shares = absurd shares
    none_stops first (part ∷ parts) (account ∷ accounts) never (share, shares) = (
      go account.stop (one_spends first part account share).full,
      none_stops (first + 1) parts accounts
          (λ event there room starts full counted.
          never event there room starts full (omega (arith, counted, (one_spends first part account share).most, part_more part parts))) shares,
    ) where
      go : (stop : Option Room)
          → MatchOption stop (Unit {0})
          (λ room. FillsIn weight takes covers keep heard (holder_at caps first) history (sum_by (λ line. takes line.act) part.lines) room)
          → stop ≡ None
      go None full = refl
      go (Some room) full =
          absurd (never full.event full.there room full.starts full.full
          (omega (arith, full.counted, lanes_spend (first + 1) parts accounts shares, part_more part parts)))

  -- What caller 0 and the lanes come to.

  whole_weighs : (weight : Event → ℕ) (callers : ℕ) → IsLaterStage caps [] callers history
      → weighed weight history ≡ callers * weight enrol + weighed_in weight history 1 callers
  whole_weighs weight callers stage =
      all_weigh weight (suc callers) history
      (recursion_from_All (λ one. one.number < suc callers) history (λ k d within. omega (arith, below callers (get_or history k d).number (stage.within k d within))))
      ∙ ap (λ (n : ℕ). n + weighed_in weight history 1 callers)
      (sym (weighed_read weight (own 0 history)) ∙ ap (spent weight) stage.enrolled ∙ enrolments_weigh weight 1 callers)

  -- an event that finds no room, of what comes before it
  full_in : (most : ℕ) (there : List Seen) (event : Event) (room : Room) → StartsWith history there → weighed more_methods history ≤ most
      → record_full room ≡ (stepped_in (performance_in caps (texts there)) event).answer
      → caps.recording < header_size + weighed (event_cost most) history + event_cost most event
  full_in most there event room starts few full =
      omega (
        arith,
        full_takes most caps (history_in (texts there)) event room
            (omega (arith, weighed_read more_methods there, weighed_starts more_methods history there starts)) full,
        weighed_read (event_cost most) there,
        weighed_starts (event_cost most) history there starts,
      )

  module _ (parts : List (Part M)) (callers : ℕ) (stage : IsLaterStage caps [] callers history) (enough : enough_for parts ≤ caps.recording) where
    pub stops_none : (accounts : List (Account M)) → callers ≡ length parts → Numbered IsShare 1 parts accounts → All (λ account. account.stop ≡ None) accounts
    stops_none accounts many shares =
        let most = count_adds (all_lines parts) in
        let few : weighed more_methods history ≤ most =
        omega (
          arith,
          whole_weighs more_methods callers stage,
          ap (weighed_in more_methods history 1) many,
          lanes_spend more_methods adds_of adds_covered 1 parts accounts shares,
          adds_counted (all_lines parts),
        ) in
        All-from_recursion (λ account. account.stop ≡ None) accounts
        (none_stops (event_cost most) (act_cost most) (cost_covered most) 1 parts accounts
        (λ event there room starts full counted.
        omega (
          arith,
          full_in most there event room starts few full,
          whole_weighs (event_cost most) callers stage,
          ap (weighed_in (event_cost most) history 1) many,
          many,
          counted,
          cost_counted most (all_lines parts),
        )) shares)

    pub enrols_all : (room : Room) → callers < length parts → own 0 history ≡ history
        → record_full room ≡ (stepped_in (performance_in caps (texts history)) enrol).answer → ⊥
    enrols_all room fewer alone full =
        let weighs : (weight : Event → ℕ) → weighed weight history ≡ callers * weight enrol =
        λ weight. ap (weighed weight) (sym alone)
        ∙ (sym (weighed_read weight (own 0 history)) ∙ (ap (spent weight) stage.enrolled ∙ enrolments_weigh weight 1 callers)) in
        omega (arith, full_in 0 history enrol room (starts_here history) (omega (arith, weighs more_methods)) full, weighs (event_cost 0))

-- of a performance
pub never_stops : {M : Type 0} (keep : M → Fixed) (heard : M → Option (List ℕ)) (caps : Limits) (parts : List (Part M)) (recording : List ℕ)
    (kept : List (ℕ × M)) (accounts : List (Account M)) (unenrolled : Option Room) → Performs keep heard caps parts recording kept accounts unenrolled
    → enough_for parts ≤ caps.recording → (unenrolled ≡ None) × All (λ account. account.stop ≡ None) accounts
never_stops keep heard caps parts recording kept accounts None performs enough = (
  refl,
  stops_none keep heard caps performs.history parts performs.callers performs.stage enough accounts performs.shares.0
      (shares_after keep heard caps (own 0 performs.history) performs.history 1 parts accounts performs.shares.1),
)
never_stops keep heard caps parts recording kept accounts (Some room) performs enough =
    absurd (enrols_all keep heard caps performs.history parts performs.callers performs.stage enough room performs.shares.0 performs.shares.1.1
    performs.shares.1.0)
