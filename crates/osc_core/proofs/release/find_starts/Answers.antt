use Rattle.std.proofs.Common.{◌≡◌, ◌+◌, ◌*◌, ◌-◌, ◌<◌, ◌≤◌, ◌++◌, ◌∷◌, [], length, List, ℕ, subst, sym, ap, ◌∙◌, arith, length-append}
use Rattle.std.proofs.lemmas.Bool.{eqb-false}
use Rattle.osc_core.specs.Frames.{after_framed, messages_in, AreFramed}
use Rattle.osc_core.specs.Invoked.{starts_of}
use Rattle.osc_core.proofs.Storing.{split_is}
use Rattle.osc_core.proofs.Telling.{start_more, rest_shorter}
use Rattle.osc_core.proofs.release.find_starts.Goals as goal

pub loop-rest-preserved : goal.loop-rest-preserved
loop-rest-preserved c =
    let bytes = c.args.bytes.now in
    let rest = c.loop-rest.rest.now in
    let kept = c.loop-rest.invariant in
    let full = eqb-false (length rest) 0 (sym c.is_empty.ensures ∙ c.loop-rest-test.true) in
    let some : 0 < length rest = omega (arith, full) in
    let here = length bytes - length rest in
    let shorter = rest_shorter rest kept.framed some in
    let within = kept.within in
    let few = kept.few in
    let more = length-append c.loop-rest.starts.items (here ∷ []) in
    rw (c.split_message.ensures.rest, c.push_reserved.ensures.items)
    (record {
      framed = (split_is kept.framed some).others;
      within = omega (arith, shorter, within);
      said = start_more c.loop-rest.starts.items bytes rest kept.framed some within kept.said;
      few = omega (arith, shorter, few, more);
      capacity = omega (arith, kept.capacity, c.push_reserved.ensures.capacity);
    })
