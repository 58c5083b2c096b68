use Rattle.std.proofs.Common.{◌||◌, ◌&&◌, ◌<◌, ◌∷◌, ap, refl, arith, ◌∙◌}
use Rattle.std.specs.List.{slice_split}
use Rattle.osc_pattern.specs.Items.{is_comma}
use Rattle.osc_pattern.specs.Views.{is_place_of, passes, texts_left}
use Rattle.osc_pattern.proofs.Moves.{any_rest-joined, choice_comma, choice_byte}
use Rattle.osc_pattern.proofs.matcher.try_byte.Goals as goal

pub returns-then-byte-eq44-clause-value : goal.returns-then-byte-eq44-clause-value
returns-then-byte-eq44-clause-value g c name others test short marked =
    let places = is_place_of c.args.places.now in
    let next = is_place_of c.args.next.now in
    let joined = c.join.new.self in
    let all = is_place_of c.args.reached.now in
    ap (λ p. passes test joined name || texts_left test (is_place_of p) all (slice_split is_comma others) name) c.again.ensures
    ∙ choice_comma test places all (c.args.byte ∷ others) others name c.args.byte (passes test c.args.next.now name) (passes test joined name) _ refl
    c.if-byte-eq44.true (any_rest-joined test places next (is_place_of joined) c.join.ensures 0 name) refl

pub returns-else-byte-eq44-clause-value : goal.returns-else-byte-eq44-clause-value
returns-else-byte-eq44-clause-value g c name others test short marked =
    let old = is_place_of c.args.places.now in
    let small : c.args.byte < 256 = omega (arith, c.ranges.byte.fits) in
    choice_byte test old (is_place_of c.after.result) (is_place_of c.args.reached.now) (c.args.byte ∷ others) others name c.args.byte
    (passes test c.args.next.now name) _ refl c.if-byte-eq44.false c.after.ensures.first
    (λ k below. c.after.ensures.others k (omega arith) ∙ ap (λ t. old k && t) (marked c.args.byte k small below)) refl
