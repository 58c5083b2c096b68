use Rattle.std.proofs.Common.{◌≡◌, ℕ, List, [], ◌∷◌, ap, subst, ◌∙◌}
use Rattle.osc_model.specs.Limits.{Limits}
use Rattle.osc_model.specs.Events.{add, submit, release}
use Rattle.osc_model.specs.Recordings.{record_text}
use Rattle.osc_model.specs.Heard.{Told}
use Rattle.osc_model.specs.History.{Performance, HaveHeard, onward}
use Rattle.osc_laws.specs.Laws.{KeepsTheLaws}
use Rattle.osc_uses.specs.Played.{opened, played}
use Rattle.osc_uses.proofs.Playing.{played_one, played_more, played_caps}
use Rattle.osc_uses.proofs.first_server.first_run.Goals as goal

heard_over : (one other : Performance) (boxes : List Told) → one ≡ other → HaveHeard one boxes → HaveHeard other boxes
heard_over one other boxes same heard = subst (λ (p : Performance). HaveHeard p boxes) same heard

-- the three events
three_played : (caps : Limits) (address packet : List ℕ) (p0 p1 p2 p3 : Performance)
    → p0 ≡ opened caps → p1 ≡ onward p0 0 (add address) → p2 ≡ onward p1 0 (submit packet) → p3 ≡ onward p2 0 release
    → p3 ≡ played (opened caps) (add address ∷ submit packet ∷ release ∷ [])
three_played caps address packet p0 p1 p2 p3 zero one two three =
    let added = played_one (opened caps) p1 (add address) (one ∙ ap (λ (p : Performance). onward p 0 (add address)) zero) in
    let submitted = played_more (opened caps) p1 p2 (add address ∷ []) (submit packet ∷ []) added (played_one p1 p2 (submit packet) two) in
    played_more (opened caps) p2 p3 (add address ∷ submit packet ∷ []) (release ∷ []) submitted (played_one p2 p3 release three)

pub returns-clause-text : goal.returns-clause-text
returns-clause-text c =
    let caps = c.args.caps in
    let events = add c.args.address ∷ submit c.args.packet.now ∷ release ∷ [] in
    let first = c.in_ok-core.ensures.performance in
    let added = c.add.ensures.performance in
    let submitted = c.submit.ensures.performance in
    let all = three_played caps c.args.address c.args.packet.now _ _ _ _ first added submitted c.release.ensures.performance in
    c.close.ensures.text
    ∙ ap (λ (p : Performance). record_text p.caps p.history) all
    ∙ ap (λ (l : Limits). record_text l (played (opened caps) events).history) (played_caps (opened caps) events)

pub returns-clause-laws : goal.returns-clause-laws
returns-clause-laws c =
    let caps = c.args.caps in
    let events = add c.args.address ∷ submit c.args.packet.now ∷ release ∷ [] in
    let first = c.in_ok-core.ensures.performance in
    let added = c.add.ensures.performance in
    let submitted = c.submit.ensures.performance in
    let all = three_played caps c.args.address c.args.packet.now _ _ _ _ first added submitted c.release.ensures.performance in
    subst (λ (l : Limits). KeepsTheLaws l (played (opened caps) events).history) (played_caps (opened caps) events)
    (subst (λ (p : Performance). KeepsTheLaws p.caps p.history) all c.close.ensures.laws)

pub returns-clause-heard : goal.returns-clause-heard
returns-clause-heard c =
    let first = c.in_ok-core.ensures.performance in
    let added = c.add.ensures.performance in
    let submitted = c.submit.ensures.performance in
    let all = three_played c.args.caps c.args.address c.args.packet.now _ _ _ _ first added submitted c.release.ensures.performance in
    heard_over _ _ _ all c.close.ensures.heard
