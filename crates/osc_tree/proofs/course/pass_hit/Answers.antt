use Rattle.std.proofs.Common.{◌≡◌, ℕ, ◌+◌, ◌++◌, ◌∷◌, [], length, take, get_or, sym, ap, subst, ◌∙◌, add-one, arith}
use Rattle.std.specs.List.{slice_split}
use Rattle.osc_pattern.specs.Items.{is_slash}
use Rattle.osc_pattern.specs.Patterns.{parts_of}
use Rattle.osc_tree.specs.Order.{IsSearched}
use Rattle.osc_tree.specs.Views.{method_at, methods_at}
use Rattle.osc_tree.specs.Walking.{agreeing, IsWalked}
use Rattle.osc_tree.proofs.Advances.{past_text, past_searched, past_further, past_passing, hit_matches, walked_past}
use Rattle.osc_tree.proofs.InOrder.{methods_at-length}
use Rattle.osc_tree.proofs.course.pass_hit.Goals as goal

pub returns-in_default-clause-walked : goal.returns-in_default-clause-walked
returns-in_default-clause-walked c =
    let walk = c.args.walk.now in
    λ ids so. subst (λ (n : ℕ). IsWalked walk.pattern.now (methods_at walk.methods.now walk.places.now) n ids) (sym (add-one c.args.at)) so

pub count_before_near-next-requires-clause-known : goal.count_before_near-next-requires-clause-known
count_before_near-next-requires-clause-known c =
    let walk = c.args.walk.now in
    let at = c.args.at in
    let ms = methods_at walk.methods.now walk.places.now in
    let d = method_at walk.methods.now 0 in
    let tried = c.args.tried.now in
    let names = tried.names.now in
    let own : (get_or ms at d).address ≡ 47 ∷ names = c.requires.tried.own d ∙ c.requires.tried.slash in
    let text = past_text tried.address.now names c.in-Some.bytes c.requires.tried.slash in
    subst (λ (n : ℕ). IsSearched (take (1 + c.in-Some.bytes) tried.address.now ++ 127 ∷ []) ms (at + 1) n) (methods_at-length walk.methods.now walk.places.now)
    (past_searched names _ c.in-Some.bytes at ms d c.requires.set.sorted c.requires.tried.within own c.requires.tried.low text)

pub returns-clause-on : goal.returns-clause-on
returns-clause-on c =
    let walk = c.args.walk.now in
    let at = c.args.at in
    let ms = methods_at walk.methods.now walk.places.now in
    let d = method_at walk.methods.now 0 in
    let tried = c.args.tried.now in
    let names = tried.names.now in
    let own : (get_or ms at d).address ≡ 47 ∷ names = c.requires.tried.own d ∙ c.requires.tried.slash in
    let text = past_text tried.address.now names c.in-Some.bytes c.requires.tried.slash in
    past_further names _ c.in-Some.bytes at c.count_before_near-next.result ms d c.requires.tried.within own c.requires.tried.low text
    c.count_before_near-next.ensures.searched

pub returns-clause-walked : goal.returns-clause-walked
returns-clause-walked c =
    let walk = c.args.walk.now in
    let at = c.args.at in
    let ms = methods_at walk.methods.now walk.places.now in
    let d = method_at walk.methods.now 0 in
    let tried = c.args.tried.now in
    let names = tried.names.now in
    let own : (get_or ms at d).address ≡ 47 ∷ names = c.requires.tried.own d ∙ c.requires.tried.slash in
    let text = past_text tried.address.now names c.in-Some.bytes c.requires.tried.slash in
    let later = past_further names _ c.in-Some.bytes at c.count_before_near-next.result ms d c.requires.tried.within own c.requires.tried.low text
    c.count_before_near-next.ensures.searched in
    let split : slice_split is_slash names ≡ parts_of (get_or ms at d).address = sym (ap parts_of own) in
    let agrees = c.requires.tried.count ∙ ap (agreeing (parts_of walk.pattern.now)) split in
    let parts = c.requires.parts ∙ c.requires.set.parts in
    λ ids so.
    walked_past walk.pattern.now ms at c.count_before_near-next.result walk.wild c.in-Some.bytes ids names d c.requires.set.sorted c.requires.tried.within
    so own
    (hit_matches walk.pattern.now (get_or ms at d).address tried.matching agrees parts (c.requires.names ∙ ap length split)) c.requires.set.plain
    (past_passing walk.pattern.now names walk.wild c.in-Some.bytes tried.matching c.in-Some.ensures.bound c.in-Some.ensures.cut
    (omega (arith, c.in-Some.ensures.some, c.requires.set.parts)) c.requires.tried.count parts) (omega arith)
    (subst (λ l. IsSearched l ms c.count_before_near-next.result c.count_before_near-next.result) text c.count_before_near-next.ensures.searched)
