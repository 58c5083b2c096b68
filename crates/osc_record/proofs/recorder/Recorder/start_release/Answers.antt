use Rattle.std.proofs.Common.{◌≡◌, ◌+◌, ◌*◌, ◌≤◌, ◌==◌, cond, [], None, length, vec_capacity, sym, ap, ◌∙◌, arith}
use Rattle.osc_record.specs.Writing.{Recording, recording_of, recording_text, with_release}
use Rattle.osc_record.proofs.Kept.{text_is}
use Rattle.osc_record.proofs.Releases.{Settles, release_keeps}
use Rattle.osc_record.proofs.recorder.Recorder.start_release.Goals as goal

done : (c : goal.After-self-4-1)
    → Settles c.self.inside.caps
    (recording_of c.self.inside.caps c.self.inside.bytes.items c.self.inside.start c.self.inside.caller c.self.inside.unit c.self.inside.owed)
    (record { caller = c.args.caller; unit = c.args.unit; hits = []; owed = c.args.hits }) c.append_release_head.new.out.items
    c.settled_start-self-inside.result (vec_capacity c.append_release_head.new.out)
done c =
    let f = c.self.inside in
    let text : length f.bytes.items ≡ length (recording_text c.args.self.now) =
    sym (ap length (text_is f.caps f.bytes.items f.start f.caller f.unit f.owed (vec_capacity f.bytes) c.self.invariant))
    ∙ ap (λ r. length (recording_text r)) c.self.view_is in
    let limit : f.caps.recording ≡ c.args.self.now.caps.recording = ap (λ (r : Recording). r.caps.recording) c.self.view_is in
    let fits : length f.bytes.items + (44 + 8 * c.args.hits) ≤ f.caps.recording = omega (arith, c.requires.fits) in
    let none : (recording_of f.caps f.bytes.items f.start f.caller f.unit f.owed).begun ≡ None =
    ap (λ (r : Recording). r.begun) c.self.view_is ∙ c.requires.none_owed in
    let size : c.len.result ≡ length c.append_release_head.new.out.items = omega arith in
    release_keeps f.caps f.bytes.items f.start f.caller f.unit f.owed
    (vec_capacity f.bytes) c.args.caller c.args.unit c.args.hits c.append_release_head.new.out.items c.settled_start-self-inside.result
    (vec_capacity c.append_release_head.new.out)
    c.self.invariant none c.requires.caller c.requires.unit fits c.append_release_head.ensures.out
    (c.settled_start-self-inside.ensures ∙ ap (λ n. cond (c.args.hits == 0) n f.start) size) c.append_release_head.ensures.capacity

pub invariant_of-self : goal.invariant_of-self
invariant_of-self c = (done c).kept

pub returns : goal.returns
returns c = (done c).view ∙ ap (λ r. with_release r c.args.caller c.args.unit c.args.hits) c.self.view_is
