use Rattle.std.proofs.Common.{◌≡◌, ◌-◌, ◌≤◌, ◌^◌, length}
use Rattle.std.specs.Prelude.{IsTrue}
use Rattle.osc_stream.specs.declared.front.Front.TheVariants.{Short}
use Rattle.osc_stream.specs.Frames.{front}
use Rattle.osc_stream.specs.Feeding.{taken}
use Rattle.osc_stream.specs.Links.{frames_left, is_below}
use Rattle.osc_stream.proofs.source_frame.read_frame.Given as goal

abbrev pub invariant-loop-stream : goal.invariant-loop-stream
invariant-loop-stream g l = record {
  short : front l.stream.held ≡ Short;
  frames : frames_left l.initial.stream (g.S.Source.left l.initial.source) ≡ frames_left l.stream (g.S.Source.left l.source);
  told : IsTrue (is_below l.stream (g.S.Source.left l.source));
  full : 2 ^ 63 ≤ taken l.initial.stream → l.stream ≡ l.initial.stream;
  steady : g.S.Source.faults l.source ≡ g.S.Source.faults l.initial.source;
}

abbrev pub decreases-loop-stream : goal.decreases-loop-stream
decreases-loop-stream g l = 65508 - length l.stream.held
