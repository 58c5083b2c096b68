use Rattle.std.proofs.Common.{rules, ◌≡◌, [], ◌∷◌, ◌++◌, refl, sym, ap, ◌∙◌, subst, append_assoc, append-nil, Option, Some}
use Rattle.std.proofs.lemmas.List.Elements.{All-pop}
use Rattle.atomic_table.specs.Table.{Me}
use Rattle.osc_turn.specs.declared.view.View.{View}
use Rattle.osc_turn.specs.Steps.{joined}
use Rattle.osc_turn.specs.Passes.{view, IsPassOf}
use Rattle.osc_turn.specs.Closing.{Gathers}
use Rattle.osc_turn.proofs.Histories.{times_some}
use Rattle.osc_turn.proofs.Joins.{joins}
use Rattle.osc_turn.proofs.Gathering.{gathered_none, gathered_first, gathered_one}
use Rattle.osc_turn.proofs.turn.Turn.gather.Goals as goal

pub loop-pass-init : goal.loop-pass-init
loop-pass-init g c =
    (refl, c.requires.ours.1, c.requires.ours.2, ([], sym (append-nil c.args.passes.items), gathered_none c.args.seat.now.me.0 c.requires.first.0))

pub join_seat-requires : goal.join_seat-requires
join_seat-requires g c = let gathered = c.loop-pass.invariant.3.2 in
    let some_first = gathered_first c.args.seat.now.me.0 c.loop-pass.seat.me.0 c.loop-pass.invariant.3.0 c.requires.first.0 c.requires.first.1 gathered in
    let off = c.into_seat-other.ensures.1 in
    let ours = (All-pop (IsPassOf c.args.self.now) c.loop-pass.passes.items c.pop.new.self.items
    (Some c.in-Some.pass) c.in-Some.ensures.items c.loop-pass.invariant.2).1 in (
      search rules,
      c.into_seat-other.ensures.0 ∙ ours.0,
      ap (λ m. m.1) off,
      search rules,
      joins g.S.Kept.stands g.S.Kept.kind _ _ _ c.loop-pass.seat.me.0 c.into_seat-other.result.me.0
          (times_some 0 c.loop-pass.seat.me.0.numbers some_first) gathered.free
          (ap (λ m. m.0.holds) off ∙ c.into_seat-other.ensures.2.2) gathered.bare (ap (λ m. m.0.spare) off ∙ c.into_seat-other.ensures.2.1),
    )

pub loop-pass-preserved : goal.loop-pass-preserved
loop-pass-preserved g c = let inv = c.loop-pass.invariant in let p = c.in-Some.pass in let now = c.count.ensures.counts in
    let is : c.join_seat.new.seat.me.0 ≡ joined c.loop-pass.seat.me.0 (view p) =
    ap (λ m. m.0) c.join_seat.ensures.2 ∙ ap (λ (m : Me (Option g.row.S.Denot) View). joined c.loop-pass.seat.me.0 m.0) c.into_seat-other.ensures.1 in
    let same = ap (λ (m : Me (Option g.row.S.Denot) View). m.0) now.0 in (
      search rules,
      ap (λ m. m.1) now.0 ∙ (ap (λ m. m.1) c.join_seat.ensures.2 ∙ inv.1),
      (All-pop (IsPassOf c.args.self.now) c.loop-pass.passes.items c.pop.new.self.items (Some p) c.in-Some.ensures.items inv.2).0,
      (
        p ∷ inv.3.0,
        inv.3.1 ∙ (ap (λ l. l ++ inv.3.0) c.in-Some.ensures.items ∙ append_assoc c.pop.new.self.items (p ∷ []) inv.3.0),
        subst (λ (u : View). Gathers c.args.seat.now.me.0 (p ∷ inv.3.0) u) (sym same)
            (gathered_one c.args.seat.now.me.0 c.loop-pass.seat.me.0 c.join_seat.new.seat.me.0 p inv.3.0 c.requires.first.0 c.requires.first.1 inv.3.2
            c.into_seat-other.ensures.2 is now.4 now.3),
      ),
    )
