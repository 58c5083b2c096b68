use Rattle.std.proofs.Common.{◌≡◌, ◌+◌, ◌∷◌, length, take, get_or, sym, ap, refl, ◌∙◌, one-add, arith}
use Rattle.std.specs.List.{slice_split}
use Rattle.osc_pattern.specs.Items.{is_slash}
use Rattle.osc_pattern.specs.Patterns.{parts_of}
use Rattle.osc_tree.specs.Views.{method_at, methods_at}
use Rattle.osc_tree.specs.Walking.{agreeing}
use Rattle.osc_tree.proofs.InOrder.{methods_at-length}
use Rattle.osc_tree.proofs.Walks.{walked_few, walked_hit, whole_is}
use Rattle.osc_tree.proofs.course.go_on.Goals as goal

pub add_id-requires : goal.add_id-requires
add_id-requires c =
    let walk = c.args.walk.now in
    let ms = methods_at walk.methods.now walk.places.now in
    let few = walked_few walk.pattern.now ms c.args.at c.args.ids.now.items c.requires.walked in
    let within = c.requires.tried.within in
    omega (arith, c.requires.room, methods_at-length walk.methods.now walk.places.now)

pub pass_hit-requires-clause-parts : goal.pass_hit-requires-clause-parts
pass_hit-requires-clause-parts c =
    (whole_is c.args.tried.now.matching c.args.walk.now.parts (length (slice_split is_slash c.args.tried.now.names.now)) (sym c.requires.whole
    ∙ c.if-tried.true)).0

pub pass_hit-requires-clause-names : goal.pass_hit-requires-clause-names
pass_hit-requires-clause-names c =
    (whole_is c.args.tried.now.matching c.args.walk.now.parts (length (slice_split is_slash c.args.tried.now.names.now)) (sym c.requires.whole
    ∙ c.if-tried.true)).1

pub returns-then-tried-clause-walked : goal.returns-then-tried-clause-walked
returns-then-tried-clause-walked c =
    let walk = c.args.walk.now in
    let at = c.args.at in
    let ms = methods_at walk.methods.now walk.places.now in
    let d = method_at walk.methods.now 0 in
    let tried = c.args.tried.now in
    let names = tried.names.now in
    let own : (get_or ms at d).address ≡ 47 ∷ names = c.requires.tried.own d ∙ c.requires.tried.slash in
    let split : slice_split is_slash names ≡ parts_of (get_or ms at d).address = sym (ap parts_of own) in
    let whole = whole_is tried.matching walk.parts (length (slice_split is_slash names)) (sym c.requires.whole ∙ c.if-tried.true) in
    c.pass_hit.ensures.walked c.add_id.new.ids.items
    (walked_hit walk.pattern.now ms at c.args.ids.now.items c.add_id.new.ids.items c.args.id tried.matching d c.requires.tried.within
    c.requires.walked (c.requires.tried.count ∙ ap (agreeing (parts_of walk.pattern.now)) split) (whole.0 ∙ c.requires.set.parts)
    (whole.1 ∙ ap length split) (c.requires.id d) c.add_id.ensures.ids)

pub take_below-requires-clause-below : goal.take_below-requires-clause-below
take_below-requires-clause-below c =
    let t = c.requires.tried in
    record {
      names = c.args.tried.now.names.now;
      bytes = c.in-Some.bytes;
      within = t.within;
      own = λ d. t.own d ∙ t.slash;
      low = t.low;
      begun = ap (take (1 + c.in-Some.bytes)) t.slash ∙ rw one-add refl;
      bound = c.in-Some.ensures.bound;
      cut = c.in-Some.ensures.cut;
      some = omega (arith, c.in-Some.ensures.some, t.count);
      rest = c.in-Some.ensures.rest;
      before = c.in-Some.ensures.before;
    }

pub pass_miss-requires-clause-more : goal.pass_miss-requires-clause-more
pass_miss-requires-clause-more c = λ last. c.requires.more last c.if-tried.false

pub pass_miss-requires-clause-whole : goal.pass_miss-requires-clause-whole
pass_miss-requires-clause-whole c = sym c.requires.whole ∙ c.if-tried.false
