use Rattle.std.proofs.Common.{◌≡◌, ℕ, List, [], ◌∷◌, length, map, All, Option, None, Some, sym, ap, subst, ◌∙◌, arith}
use Rattle.std.specs.List.{AllByRecursion}
use Rattle.std.proofs.lemmas.List.{length-map}
use Rattle.std.proofs.lemmas.List.Elements.{All-from_recursion, All-map, recursion_from_All}
use Rattle.osc_method.specs.Heard.{Fixed}
use Rattle.osc_model.specs.Limits.{Limits}
use Rattle.osc_model.specs.Events.{Room}
use Rattle.osc_record.specs.Shown.{room_of}
use Rattle.osc_turn.specs.declared.view.Entry.{Entry as Seen}
use Rattle.osc_turn.specs.declared.view.View.{View}
use Rattle.osc_turn.specs.History.{own}
use Rattle.osc_turn.specs.Passes.{view}
use Rattle.osc_live.specs.declared.caller.Caller.{Caller}
use Rattle.osc_live.specs.Seen.{past_of}
use Rattle.osc_life.specs.Crews.{IsLeft}
use Rattle.osc_life.specs.Holders.{Holder, holder_at}
use Rattle.osc_life.specs.Lives.{AreShares}
use Rattle.osc_lanes.specs.declared.part.LanePart.{LanePart}
use Rattle.osc_lanes.specs.declared.work.LaneWork.{LaneWork}
use Rattle.osc_lanes.specs.Shares.{Account, ended}
use Rattle.osc_lanes.specs.Performs.{Part, IsWhole, part_of, told_of}
use Rattle.osc_lanes.specs.Later.{old_callers, PerformsLater, PerformsBeside}
use Rattle.osc_lanes.specs.Works.{part_at}
use Rattle.osc_lanes.proofs.Performing.{lane_plays, later_stage, performs_all, performs_none}
use Rattle.osc_lanes.proofs.run.perform_beside.Goals as goal
use Rattle.osc_lanes.proofs.run.perform_beside.Goals.{In_ok-works}

many : (g : _) (c : In_ok-works g) → length c.in_ok-works.works.items ≡ length c.args.parts.items
many g c =
    omega (arith, ap length c.in_ok-works.ensures, length-map c.in_ok-works.works.items part_at, length-map c.args.parts.items part_of)

mapped : {X Y : Type 0} (P : Y → Type 0) (f : X → Y) (xs : List X) → AllByRecursion P (map f xs) → AllByRecursion (λ x. P (f x)) xs
mapped P f [] all = tt
mapped P f (x ∷ xs) all = (all.0, mapped P f xs all.1)

-- each lane has a box for each line that adds a method
ready : {M : Type 0} (works : List (LaneWork M)) (parts : List (LanePart M)) → map part_at works ≡ map part_of parts
    → All (λ part. IsWhole (part_of part)) parts → All (λ work. IsWhole (part_at work)) works
ready works parts are whole =
    All-from_recursion (λ work. IsWhole (part_at work)) works
    (mapped IsWhole part_at works
    (recursion_from_All IsWhole (map part_at works) (subst (All IsWhole) (sym are) (All-map IsWhole part_of parts whole))))

pub live_on-requires-clause-room : goal.live_on-requires-clause-room
live_on-requires-clause-room g c = omega (arith, c.requires.room, many g (goal.at.live_on-requires-clause-room g c).In_ok-works)

pub live_on-requires-clause-few : goal.live_on-requires-clause-few
live_on-requires-clause-few g c = omega (arith, c.requires.few, many g (goal.at.live_on-requires-clause-few g c).In_ok-works)

pub live_on-requires-clause-ready : goal.live_on-requires-clause-ready
live_on-requires-clause-ready g c _ _ = ready c.in_ok-works.works.items c.args.parts.items c.in_ok-works.ensures c.requires.whole

-- the shares are numbered after the old callers
next_is : (past : List (List ℕ)) (v : View) (others : List Caller) → IsLeft past v others → v.made ≡ old_callers past
next_is past v others left = left.made_is ∙ sym left.old.counted

beside : {M : Type 0} {X F : Type 0} (ends : X → X → F → Holder → List (List Seen) → View → View → Type 0) (keep : M → Fixed) (heard : M → Option (List ℕ))
    (caps : Limits) (past : List (List ℕ)) (parts : List (Part M)) (recording : List ℕ) (kept : List (ℕ × M)) (accounts : List (Account M))
    (unenrolled : Option Room) (before after : X) (end : F) (history : List Seen) (start last : View) (tokens : List (List Seen))
    → ends before after end (holder_at caps 0) tokens start last → last.seen ≡ history
    → (later : PerformsLater keep heard caps past parts recording kept accounts unenrolled) × (later.history ≡ history)
    → PerformsBeside ends keep heard caps past parts recording kept accounts unenrolled before after end
beside ends keep heard caps past parts recording kept accounts unenrolled before after end history start last tokens ended whole both = record {
  performs = both.0;
  start = start;
  last = last;
  tokens = tokens;
  ended = ended;
  whole = whole ∙ sym both.1;
}

pub returns-in-Each : goal.returns-in-Each
returns-in-Each g c =
    let keep = g.M.Method.keep in
    let heard = g.M.Method.heard in
    let life = c.args.life in
    let caps = life.live.caps in
    let past = past_of life.live.turn in
    let v = view life.first.pass in
    let others = life.others.items in
    let lives = c.in_ok-lived.ensures in
    let played = rw c.in-Each.is at lives.played_so in
    let works = c.in_ok-works.works.items in
    let lanes = c.in-Each.lanes.items in
    let closed = c.in_ok-lived.lived.closed in
    let end = c.in_ok-lived.lived.end in
    let shares =
    subst (λ (n : ℕ). AreShares (lane_plays keep heard) caps (own 0 lives.history) lives.history n works lanes lives.tokens)
    (next_is past v others c.requires.left) played.1 in
    subst (λ (l : List (Part g.row.M.Denot)). PerformsBeside g.T.Meanwhile.ends keep heard caps past l closed.bytes.items closed.kept.items
    (map told_of lanes) None c.args.on.now c.live_on.new.on end)
    c.in_ok-works.ensures
    (beside g.T.Meanwhile.ends keep heard caps past (map part_at works) closed.bytes.items closed.kept.items (map told_of lanes) None c.args.on.now
    c.live_on.new.on end lives.history lives.start lives.last lives.tokens lives.ended lives.whole
    (performs_all keep heard caps past lives.history closed.bytes.items closed.kept.items lives.closed lives.callers
    (later_stage caps past v others lives.callers lives.history c.requires.left lives.stage)
    c.a_method_is_called_while_it_is_registered.ensures.removed (length others) c.requires.left.old.counted works lanes lives.tokens played.0 shares))

pub returns-in_ok-lanes-in-NoRoom : goal.returns-in_ok-lanes-in-NoRoom
returns-in_ok-lanes-in-NoRoom g c =
    let keep = g.M.Method.keep in
    let heard = g.M.Method.heard in
    let life = c.args.life in
    let caps = life.live.caps in
    let past = past_of life.live.turn in
    let v = view life.first.pass in
    let others = life.others.items in
    let lives = c.in_ok-lived.ensures in
    let played = rw c.in-NoRoom.is at lives.played_so in
    let works = c.in_ok-works.works.items in
    let back = c.in-NoRoom.works.items in
    let room = room_of c.in-NoRoom.room in
    let closed = c.in_ok-lived.lived.closed in
    let end = c.in_ok-lived.lived.end in
    let none : List (Part g.row.M.Denot) → List (Account g.row.M.Denot) = λ parts. map (λ part. ended part.boxes None) parts in
    subst (λ (q : List (Part g.row.M.Denot) × List (Account g.row.M.Denot)). PerformsBeside g.T.Meanwhile.ends keep heard caps past q.0
    closed.bytes.items closed.kept.items q.1 (Some room) c.args.on.now c.live_on.new.on end)
    (λ i. (c.in_ok-works.ensures i, (ap (λ (l : List (LaneWork g.row.M.Denot)). none (map part_at l)) (sym played.2) ∙ sym c.in_ok-lanes-in-NoRoom.ensures) i))
    (beside g.T.Meanwhile.ends keep heard caps past (map part_at works) closed.bytes.items closed.kept.items (none (map part_at works)) (Some room)
    c.args.on.now c.live_on.new.on end lives.history lives.start lives.last lives.tokens lives.ended lives.whole
    (performs_none keep heard caps past lives.history closed.bytes.items closed.kept.items lives.closed lives.callers
    (later_stage caps past v others lives.callers lives.history c.requires.left lives.stage) works room played.0 played.1))
