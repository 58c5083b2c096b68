use Rattle.std.proofs.Common.{◌≡◌, ℕ, suc, ◌+◌, ◌++◌, ◌∷◌, ◌&&◌, ◌==◌, false, not, nat_le, length, take, drop, get_or, sym, ap, subst, ◌∙◌}
use Rattle.std.proofs.Common.{add-one, arith}
use Rattle.std.specs.List.{slice_split, position_or_len}
use Rattle.osc_pattern.specs.Items.{is_slash}
use Rattle.osc_pattern.specs.Methods.{Method}
use Rattle.osc_pattern.specs.Patterns.{parts_of}
use Rattle.osc_tree.specs.Order.{IsSearched}
use Rattle.osc_tree.specs.Views.{method_at, methods_at}
use Rattle.osc_tree.specs.Walking.{shared, agreeing, IsWalked}
use Rattle.osc_tree.proofs.Advances.{text_is, on_searched, on_further, walked_on, walked_next}
use Rattle.osc_tree.proofs.Alike.{agreeing_parts}
use Rattle.osc_tree.proofs.InOrder.{methods_at-length}
use Rattle.osc_tree.proofs.Walks.{walked_over, counted_over, sharing_parted, least_of}
use Rattle.osc_tree.proofs.course.pass_miss.Goals as goal

pub count_before_near-next-requires-clause-known : goal.count_before_near-next-requires-clause-known
count_before_near-next-requires-clause-known c =
    let walk = c.args.walk.now in
    let at = c.args.at in
    let ms = methods_at walk.methods.now walk.places.now in
    let d = method_at walk.methods.now 0 in
    let tried = c.args.tried.now in
    let names = tried.names.now in
    let own : (get_or ms at d).address ≡ 47 ∷ names = c.requires.tried.own d ∙ c.requires.tried.slash in
    let way = c.in-Some.way in
    let tail = take way.kept (drop way.bytes names) ++ way.tail.now in
    let text = text_is tried.address.now names way.tail.now way.bytes way.kept c.requires.tried.slash in
    subst (λ (n : ℕ). IsSearched (take (1 + way.bytes + way.kept) tried.address.now ++ way.tail.now) ms (at + 1) n) (methods_at-length walk.methods.now
    walk.places.now)
    (on_searched walk.pattern.now names tail _ tried.matching way.bytes at ms d c.requires.set.sorted c.requires.tried.within own c.in-Some.ensures.on text)

pub returns-in-Some-clause-on : goal.returns-in-Some-clause-on
returns-in-Some-clause-on c =
    let walk = c.args.walk.now in
    let at = c.args.at in
    let ms = methods_at walk.methods.now walk.places.now in
    let d = method_at walk.methods.now 0 in
    let tried = c.args.tried.now in
    let names = tried.names.now in
    let own : (get_or ms at d).address ≡ 47 ∷ names = c.requires.tried.own d ∙ c.requires.tried.slash in
    let way = c.in-Some.way in
    let tail = take way.kept (drop way.bytes names) ++ way.tail.now in
    let text = text_is tried.address.now names way.tail.now way.bytes way.kept c.requires.tried.slash in
    on_further walk.pattern.now names tail _ tried.matching way.bytes at c.count_before_near-next.result ms d c.requires.tried.within own
    c.in-Some.ensures.on text c.count_before_near-next.ensures.searched

pub returns-in-Some-clause-walked : goal.returns-in-Some-clause-walked
returns-in-Some-clause-walked c =
    let walk = c.args.walk.now in
    let at = c.args.at in
    let ms = methods_at walk.methods.now walk.places.now in
    let d = method_at walk.methods.now 0 in
    let tried = c.args.tried.now in
    let names = tried.names.now in
    let own : (get_or ms at d).address ≡ 47 ∷ names = c.requires.tried.own d ∙ c.requires.tried.slash in
    let way = c.in-Some.way in
    let tail = take way.kept (drop way.bytes names) ++ way.tail.now in
    let text = text_is tried.address.now names way.tail.now way.bytes way.kept c.requires.tried.slash in
    let more = on_further walk.pattern.now names tail _ tried.matching way.bytes at c.count_before_near-next.result ms d c.requires.tried.within own
    c.in-Some.ensures.on text c.count_before_near-next.ensures.searched in
    λ ids so.
    walked_on walk.pattern.now ms at c.count_before_near-next.result tried.matching way.bytes ids names tail d c.requires.set.sorted
    c.requires.tried.within so own
    c.requires.tried.count c.in-Some.ensures.on (omega arith)
    (subst (λ l. IsSearched l ms c.count_before_near-next.result c.count_before_near-next.result) text c.count_before_near-next.ensures.searched)

pub returns-then-tried-clause-walked : goal.returns-then-tried-clause-walked
returns-then-tried-clause-walked c =
    let walk = c.args.walk.now in
    let at = c.args.at in
    let ms = methods_at walk.methods.now walk.places.now in
    let d = method_at walk.methods.now 0 in
    let tried = c.args.tried.now in
    let names = tried.names.now in
    let own : (get_or ms at d).address ≡ 47 ∷ names = c.requires.tried.own d ∙ c.requires.tried.slash in
    let split : slice_split is_slash names ≡ parts_of (get_or ms at d).address = sym (ap parts_of own) in
    let whole : (tried.matching == length (parts_of walk.pattern.now) && tried.matching == length (parts_of (get_or ms at d).address)) ≡ false =
    ap (λ (n : ℕ). tried.matching == n && tried.matching == length (parts_of (get_or ms at d).address)) (sym c.requires.set.parts)
    ∙ ap (λ l. tried.matching == walk.parts && tried.matching == length l) (sym split) ∙ c.requires.whole in
    λ ids so.
    subst (λ (n : ℕ). IsWalked walk.pattern.now ms n ids) (sym (add-one at))
    (walked_next walk.pattern.now ms at tried.matching ids d c.requires.set.sorted c.requires.tried.within so
    (c.requires.tried.count ∙ ap (agreeing (parts_of walk.pattern.now)) split) whole
    (omega (arith, ap length split, c.requires.last c.if-tried.true))
    (omega (arith, c.requires.set.parts, c.requires.more c.if-tried.true)))

pub least_shared-least-requires : goal.least_shared-least-requires
least_shared-least-requires c =
    let most = agreeing_parts (parts_of c.args.walk.now.pattern.now) (slice_split is_slash c.args.tried.now.names.now) in
    omega (arith, c.requires.tried.count, c.requires.set.parts)

pub count_sharing-more-requires-clause-parted : goal.count_sharing-more-requires-clause-parted
count_sharing-more-requires-clause-parted c =
    let walk = c.args.walk.now in
    let at = c.args.at in
    let ms = methods_at walk.methods.now walk.places.now in
    let d = method_at walk.methods.now 0 in
    let tried = c.args.tried.now in
    let names = tried.names.now in
    let own : (get_or ms at d).address ≡ 47 ∷ names = c.requires.tried.own d ∙ c.requires.tried.slash in
    let within = c.requires.tried.within in
    sharing_parted walk.methods.now walk.places.now at c.least_shared-least.result d (slice_split is_slash names) c.requires.set.sorted
    (omega (arith, methods_at-length walk.methods.now walk.places.now)) (sym (ap parts_of own))

pub returns-clause-walked : goal.returns-clause-walked
returns-clause-walked c =
    let walk = c.args.walk.now in
    let at = c.args.at in
    let ms = methods_at walk.methods.now walk.places.now in
    let d = method_at walk.methods.now 0 in
    let tried = c.args.tried.now in
    let names = tried.names.now in
    let own : (get_or ms at d).address ≡ 47 ∷ names = c.requires.tried.own d ∙ c.requires.tried.slash in
    let split : slice_split is_slash names ≡ parts_of (get_or ms at d).address = sym (ap parts_of own) in
    let whole : (tried.matching == length (parts_of walk.pattern.now) && tried.matching == length (parts_of (get_or ms at d).address)) ≡ false =
    ap (λ (n : ℕ). tried.matching == n && tried.matching == length (parts_of (get_or ms at d).address)) (sym c.requires.set.parts)
    ∙ ap (λ l. tried.matching == walk.parts && tried.matching == length l) (sym split) ∙ c.requires.whole in
    let counted = counted_over walk.methods.now walk.places.now at c.count_sharing-more.result
    (λ method. not (nat_le c.least_shared-least.result (shared (slice_split is_slash names) (parts_of method.address))))
    c.count_sharing-more.ensures.count in
    let counted_names = counted
    ∙ ap (λ l. position_or_len (λ (method : Method). not (nat_le c.least_shared-least.result (shared l (parts_of method.address)))) (drop (suc at) ms)) split in
    λ ids so.
    subst (λ (n : ℕ). IsWalked walk.pattern.now ms (n + c.count_sharing-more.result) ids) (sym (add-one at))
    (walked_over walk.pattern.now ms at ids c.count_sharing-more.result tried.matching c.least_shared-least.result d
    c.requires.set.sorted c.requires.tried.within so (c.requires.tried.count ∙ ap (agreeing (parts_of walk.pattern.now)) split) whole
    (c.least_shared-least.ensures ∙ ap (λ (n : ℕ). least_of tried.matching n) c.requires.set.parts) counted_names)
