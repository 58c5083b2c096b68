use Rattle.std.proofs.Common.{◌*◌, List, ℕ, take, drop, map, ap, ◌∙◌}
use Rattle.osc_model.specs.Recordings.{hits_in}
use Rattle.osc_core.specs.Invoked.{call_at, hits_at}
use Rattle.osc_core.proofs.Telling.{calls_further}
use Rattle.osc_core.proofs.release.LastRelease.calls_from.Goals as goal

pub returns : goal.returns
returns c =
    let last = c.args.self.now in
    rw (c.as_slice.ensures.value, c.as_slice-2.ensures.value)
    (ap (λ (l : List ℕ). map (call_at last.unit last.starts.items last.bytes.items) (hits_in l))
    (c.rest_from.ensures
    ∙ ap (drop (8 * c.args.first)) (c.split_at-2.ensures.front ∙ ap (take (8 * last.calls)) c.split_at.ensures.back))
    ∙ calls_further (call_at last.unit last.starts.items last.bytes.items) c.args.first (hits_at last c.args.recording.now))
