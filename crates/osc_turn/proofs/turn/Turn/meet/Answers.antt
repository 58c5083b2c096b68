use Rattle.std.proofs.Common.{rules, ◌≡◌, length, sym, ap, ◌∙◌, subst, arith, Option}
use Rattle.atomic_table.specs.Table.{Me}
use Rattle.osc_turn.specs.declared.view.View.{View}
use Rattle.osc_turn.specs.History.{StartsWith}
use Rattle.osc_turn.specs.Rule.{Rests}
use Rattle.osc_turn.specs.Steps.{longer, joined, Remembers}
use Rattle.osc_turn.specs.Answers.{KeepsOwn}
use Rattle.osc_turn.specs.Passes.{view}
use Rattle.osc_turn.proofs.Acting.{has_one, keeps_own}
use Rattle.osc_turn.proofs.Draws.{splits}
use Rattle.osc_turn.proofs.Joins.{joins, remembered}
use Rattle.osc_turn.proofs.turn.Turn.meet.Goals as goal

pub split_seat-told-requires : goal.split_seat-told-requires
split_seat-told-requires g c = let e = ap (λ (m : Me (Option g.row.S.Denot) View). length m.0.numbers) c.into_seat-teller.ensures.1 in (
  search rules,
  search rules,
  splits g.S.Kept.stands g.S.Kept.kind _ _ c.into_seat-teller.result.me.0
      (omega (arith, e, has_one (view c.args.from) c.into_seat-teller.ensures.2)),
)

pub join_seat-requires : goal.join_seat-requires
join_seat-requires g c =
    let resting = subst Rests (sym (ap (λ (m : Me (Option g.row.S.Denot) View). m.0) c.into_seat-learner.ensures.1)) c.into_seat-learner.ensures.2 in
    let off = c.split_seat-told.ensures.4 in (
      search rules,
      search rules,
      ap (λ m. m.1) off,
      search rules,
      joins g.S.Kept.stands g.S.Kept.kind _ _ _ c.into_seat-learner.result.me.0 c.split_seat-told.result.me.0
          (has_one c.into_seat-learner.result.me.0 resting) resting.2 (ap (λ m. m.0.holds) off) resting.1 (ap (λ m. m.0.spare) off),
    )

-- the clauses on what was seen, where the copy of one view was joined into another
record Met (v w z : View) : Type 0 where
  longer_seen : z.seen ≡ longer v.seen w.seen
  seen : StartsWith z.seen v.seen
  told : StartsWith z.seen w.seen
  none_added : KeepsOwn v z

met : (v w copy u z : View) → Rests v → u ≡ joined v copy → copy.seen ≡ w.seen → Remembers u → z ≡ u → Met v w z
met v w copy u z resting is same m now = let told = remembered v copy u is m in subst (Met v w) (sym now) record {
  longer_seen = ap (λ (x : View). x.seen) is ∙ ap (longer v.seen) same;
  seen = told.0.0;
  told = subst (StartsWith u.seen) same told.1.0;
  none_added = keeps_own v u.seen resting told.0;
}

pub returns-clause-longer : goal.returns-clause-longer
returns-clause-longer g c = (met (view c.args.into) (view c.args.from) c.split_seat-told.result.me.0 c.join_seat.new.seat.me.0 _ c.into_seat-learner.ensures.2
    (ap (λ m. m.0) c.join_seat.ensures.2 ∙ ap (λ (m : Me (Option g.row.S.Denot) View). joined m.0 c.split_seat-told.result.me.0) c.into_seat-learner.ensures.1)
    (ap (λ m. m.0.seen) c.split_seat-told.ensures.4 ∙ ap (λ m. m.0.seen) c.into_seat-teller.ensures.1) c.count.ensures.counts.4
    (c.of-2.ensures.1 ∙ ap (λ m. m.0) c.count.ensures.counts.0)).longer_seen

pub returns-clause-seen : goal.returns-clause-seen
returns-clause-seen g c = (met (view c.args.into) (view c.args.from) c.split_seat-told.result.me.0 c.join_seat.new.seat.me.0 _ c.into_seat-learner.ensures.2
    (ap (λ m. m.0) c.join_seat.ensures.2 ∙ ap (λ (m : Me (Option g.row.S.Denot) View). joined m.0 c.split_seat-told.result.me.0) c.into_seat-learner.ensures.1)
    (ap (λ m. m.0.seen) c.split_seat-told.ensures.4 ∙ ap (λ m. m.0.seen) c.into_seat-teller.ensures.1) c.count.ensures.counts.4
    (c.of-2.ensures.1 ∙ ap (λ m. m.0) c.count.ensures.counts.0)).seen

pub returns-clause-told : goal.returns-clause-told
returns-clause-told g c = (met (view c.args.into) (view c.args.from) c.split_seat-told.result.me.0 c.join_seat.new.seat.me.0 _ c.into_seat-learner.ensures.2
    (ap (λ m. m.0) c.join_seat.ensures.2 ∙ ap (λ (m : Me (Option g.row.S.Denot) View). joined m.0 c.split_seat-told.result.me.0) c.into_seat-learner.ensures.1)
    (ap (λ m. m.0.seen) c.split_seat-told.ensures.4 ∙ ap (λ m. m.0.seen) c.into_seat-teller.ensures.1) c.count.ensures.counts.4
    (c.of-2.ensures.1 ∙ ap (λ m. m.0) c.count.ensures.counts.0)).told

pub returns-clause-none_added : goal.returns-clause-none_added
returns-clause-none_added g c =
    (met (view c.args.into) (view c.args.from) c.split_seat-told.result.me.0 c.join_seat.new.seat.me.0 _ c.into_seat-learner.ensures.2
    (ap (λ m. m.0) c.join_seat.ensures.2 ∙ ap (λ (m : Me (Option g.row.S.Denot) View). joined m.0 c.split_seat-told.result.me.0) c.into_seat-learner.ensures.1)
    (ap (λ m. m.0.seen) c.split_seat-told.ensures.4 ∙ ap (λ m. m.0.seen) c.into_seat-teller.ensures.1) c.count.ensures.counts.4
    (c.of-2.ensures.1 ∙ ap (λ m. m.0) c.count.ensures.counts.0)).none_added
