use Rattle.std.proofs.Common.{◌≡◌, ◌≤◌, ◌<◌, ◌+◌, ◌-◌, ℕ, length, take, drop, min, refl, ap, ◌∙◌, arith, length-append}
use Rattle.osc_ends.specs.Sinks.{change}
use Rattle.osc_turn.specs.Passes.{view}
use Rattle.osc_live.specs.Reads.{Writes}
use Rattle.osc_live.specs.Looks.{HasLooked}
use Rattle.osc_growing.specs.declared.growth.Growth.TheVariants.{Written}
use Rattle.osc_growing.specs.Growing.{HasGrown, recorded}
use Rattle.osc_growing.proofs.Fronts.{part_is, piece_long, space_same}
use Rattle.osc_growing.proofs.Growths.{recorded_on, read_of, grown_as, looked_by}
use Rattle.osc_live.proofs.Looked.{looked_here, looked_on}
use Rattle.osc_growing.proofs.pieces.write_large.Goals as goal
use Rattle.osc_growing.proofs.pieces.write_large.Goals.{After-read-next}

-- what was read of what is recorded then
read_then : (g : _) (c : After-read-next g)
    → Writes (recorded c.args.live.now.caps (view c.read-next.result.0.pass)) c.loop-at.at c.loop-at.space c.read-next.new.into c.read-next.result.1
read_then g c =
    read_of c.args.live.now.caps c.loop-at.at c.read-next.result.1 c.loop-at.space c.read-next.new.into (view c.loop-at.caller.pass)
    (view c.read-next.result.0.pass) c.read-next.ensures.read

-- no less is recorded then
within_then : (g : _) (c : After-read-next g) → c.args.span.end ≤ length (recorded c.args.live.now.caps (view c.read-next.result.0.pass))
within_then g c =
    let caps = c.args.live.now.caps in
    let v = view c.loop-at.caller.pass in
    let on = recorded_on caps v (view c.read-next.result.0.pass) c.read-next.ensures.read.goes_on in
    omega (arith, c.loop-at.invariant.within, ap length on.1, length-append (recorded caps v) on.0)

pub loop-at-init : goal.loop-at-init
loop-at-init g c = record {
  ours = c.requires.ours;
  number = refl;
  looked = looked_here (view c.args.caller.pass);
  space = refl;
  forward = c.requires.forward;
  within = c.requires.within;
  grown = λ start grown. grown;
}

-- the part that is written
piece_then : (g : _) (c : After-read-next g) (size : ℕ) → size ≤ c.read-next.result.1
    → (length (take size c.read-next.new.into) ≡ size)
    × (take size c.read-next.new.into
    ≡ take (length (take size c.read-next.new.into)) (drop c.loop-at.at (recorded c.args.live.now.caps (view c.read-next.result.0.pass))))
    × (c.loop-at.at + length (take size c.read-next.new.into) ≤ length (recorded c.args.live.now.caps (view c.read-next.result.0.pass)))
piece_then g c size less =
    part_is (recorded c.args.live.now.caps (view c.read-next.result.0.pass)) c.loop-at.space c.read-next.new.into c.loop-at.at c.read-next.result.1 size
    (read_then g c) less (omega (arith, c.loop-at.invariant.forward, within_then g c))

-- what was written before was written of what is recorded then
grown_then : (g : _) (c : After-read-next g) (start : _)
    → HasGrown (Written c.args.span.from) (change g.R.Sink start c.args.rec.now)
    (recorded c.args.live.now.caps (view c.args.caller.pass))
    → HasGrown (Written c.loop-at.at) (change g.R.Sink start c.loop-at.rec)
    (recorded c.args.live.now.caps (view c.read-next.result.0.pass))
grown_then g c start grown =
    let caps = c.args.live.now.caps in
    let v = view c.loop-at.caller.pass in
    let w = view c.read-next.result.0.pass in
    let on = recorded_on caps v w c.read-next.ensures.read.goes_on in
    grown_as (Written c.loop-at.at) (change g.R.Sink start c.loop-at.rec) (recorded caps v) (recorded caps w) on.0 on.1
    (c.loop-at.invariant.grown start grown)

-- how many bytes are written of those that were read
size_then : (g : _) (c : After-read-next g) (size : ℕ) → size ≡ min c.read-next.result.1 (c.args.span.end - c.loop-at.at) → c.loop-at.at < c.args.span.end
    → (size ≤ c.read-next.result.1) × (size ≤ c.args.span.end - c.loop-at.at) × (0 < size)
size_then g c size is before =
    let text = recorded c.args.live.now.caps (view c.read-next.result.0.pass) in
    let long = piece_long text c.loop-at.space c.read-next.new.into c.loop-at.at c.read-next.result.1 (read_then g c) in (
      omega (arith, is),
      omega (arith, is),
      omega (arith, is, before, long.0, within_then g c, c.loop-at.invariant.space, c.requires.space),
    )

looked_then : (g : _) (c : After-read-next g) → HasLooked (view c.args.caller.pass) (view c.read-next.result.0.pass)
looked_then g c =
    let v = view c.loop-at.caller.pass in
    let w = view c.read-next.result.0.pass in
    looked_on (view c.args.caller.pass) v w c.loop-at.invariant.looked
    (looked_by c.args.live.now.caps c.loop-at.at c.read-next.result.1 c.loop-at.space c.read-next.new.into v w c.read-next.ensures.read)

pub write_piece-requires : goal.write_piece-requires
write_piece-requires g c =
    let at = (goal.at.write_piece-requires g c).After-read-next in
    let size = size_then g at c.min-size.result c.min-size.ensures c.loop-at-test.true in
    omega (arith, (piece_then g at c.min-size.result size.0).0, size.1, c.loop-at-test.true)

pub loop-at-preserved : goal.loop-at-preserved
loop-at-preserved g c =
    let at = (goal.at.loop-at-preserved g c).After-read-next in
    let text = recorded c.args.live.now.caps (view c.read-next.result.0.pass) in
    let size = size_then g at c.min-size.result c.min-size.ensures c.loop-at-test.true in
    let piece = piece_then g at c.min-size.result size.0 in
    let place : c.in-Written.then ≡ c.loop-at.at + length (take c.min-size.result c.read-next.new.into) = rw c.in-Written.is at c.write_piece.ensures.place in
    record {
      ours = c.read-next.ensures.ours;
      number = c.read-next.ensures.number ∙ c.loop-at.invariant.number;
      looked = looked_then g at;
      space = space_same text c.loop-at.space c.read-next.new.into c.loop-at.at c.read-next.result.1 (read_then g at) ∙ c.loop-at.invariant.space;
      forward = omega (arith, place, piece.0, size.1, c.loop-at-test.true);
      within = within_then g at;
      grown = λ start grown.
          rw c.in-Written.is at c.write_piece.ensures.grown start text piece.2 piece.1 (grown_then g at start grown);
    }

pub loop-at-smaller : goal.loop-at-smaller
loop-at-smaller g c =
    let at = (goal.at.loop-at-smaller g c).After-read-next in
    let size = size_then g at c.min-size.result c.min-size.ensures c.loop-at-test.true in
    let piece = piece_then g at c.min-size.result size.0 in
    let place : c.in-Written.then ≡ c.loop-at.at + length (take c.min-size.result c.read-next.new.into) = rw c.in-Written.is at c.write_piece.ensures.place in
    omega (arith, place, piece.0, size.1, size.2, c.loop-at-test.true)

pub returns-in-Failed-clause-looked : goal.returns-in-Failed-clause-looked
returns-in-Failed-clause-looked g c = looked_then g (goal.at.returns-in-Failed-clause-looked g c).After-read-next

pub returns-in-NoMemory-clause-looked : goal.returns-in-NoMemory-clause-looked
returns-in-NoMemory-clause-looked g c = looked_then g (goal.at.returns-in-NoMemory-clause-looked g c).After-read-next

pub returns-in-Failed-clause-space : goal.returns-in-Failed-clause-space
returns-in-Failed-clause-space g c =
    let at = (goal.at.returns-in-Failed-clause-space g c).After-read-next in
    space_same (recorded c.args.live.now.caps (view c.read-next.result.0.pass)) c.loop-at.space c.read-next.new.into c.loop-at.at c.read-next.result.1
    (read_then g at) ∙ c.loop-at.invariant.space

pub returns-in-NoMemory-clause-space : goal.returns-in-NoMemory-clause-space
returns-in-NoMemory-clause-space g c =
    let at = (goal.at.returns-in-NoMemory-clause-space g c).After-read-next in
    space_same (recorded c.args.live.now.caps (view c.read-next.result.0.pass)) c.loop-at.space c.read-next.new.into c.loop-at.at c.read-next.result.1
    (read_then g at) ∙ c.loop-at.invariant.space

pub returns-in-Failed-clause-grown : goal.returns-in-Failed-clause-grown
returns-in-Failed-clause-grown g c = λ start grown.
    let at = (goal.at.returns-in-Failed-clause-grown g c).After-read-next in
    let text = recorded c.args.live.now.caps (view c.read-next.result.0.pass) in
    let size = size_then g at c.min-size.result c.min-size.ensures c.loop-at-test.true in
    let piece = piece_then g at c.min-size.result size.0 in
    rw c.in-Failed.is at c.write_piece.ensures.grown start text piece.2 piece.1 (grown_then g at start grown)

pub returns-in-NoMemory-clause-grown : goal.returns-in-NoMemory-clause-grown
returns-in-NoMemory-clause-grown g c = λ start grown. tt

pub returns-clause-place : goal.returns-clause-place
returns-clause-place g c = omega (arith, c.loop-at.invariant.forward, c.loop-at-test.false)
