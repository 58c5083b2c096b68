use Rattle.std.proofs.Common.{rules, ◌≡◌, ℕ, ◌<◌, [], length, sym, ap, ◌∙◌, subst, arith, Option}
use Rattle.atomic_table.specs.Table.{Me}
use Rattle.osc_turn.specs.declared.view.View.{View}
use Rattle.osc_turn.specs.Numbers.{times}
use Rattle.osc_turn.specs.Rule.{number_of, Rests}
use Rattle.osc_turn.specs.Steps.{Counts}
use Rattle.osc_turn.specs.Passes.{view}
use Rattle.osc_turn.proofs.Acting.{has_one, has_first}
use Rattle.osc_turn.proofs.Draws.{draws, splits}
use Rattle.osc_turn.proofs.turn.Turn.guest.Goals as goal

-- what was known of the pass is known of its seat once the passes were counted
counted : {S : Type 0} (v : View) (m m' : Me (Option S) View) (r : ℕ) → Rests v → number_of v ≡ 0 → m ≡ (v, []) → Counts m r m'
    → Rests m'.0 × (0 < times 0 m'.0.numbers) × (m'.0.made ≡ r)
counted v m m' r resting zero_is at c = let e = c.0 ∙ at in let first = has_first v resting zero_is in (
  subst Rests (sym (ap (λ n. n.0) e)) resting,
  subst (λ (u : View). 0 < times 0 u.numbers) (sym (ap (λ n. n.0) e)) first,
  ap (λ n. n.0.made) c.0 ∙ sym (c.1 (subst (λ (u : View). 0 < times 0 u.numbers) (sym (ap (λ n. n.0) at)) first)),
)

pub fetch_add-requires : goal.fetch_add-requires
fetch_add-requires g c =
    let k = counted (view c.args.pass) c.into_seat-seat.result.me c.count.new.seat.me c.count.result c.into_seat-seat.ensures.2 c.requires.first
    c.into_seat-seat.ensures.1 c.count.ensures.counts in
    (search rules, search rules, draws g.S.Kept.stands g.S.Kept.kind _ _ _ c.count.new.seat.me k.0.2 k.0.1 k.1 (omega (arith, c.from.ensures)))

pub split_seat-guest-requires : goal.split_seat-guest-requires
split_seat-guest-requires g c =
    let k = counted (view c.args.pass) c.into_seat-seat.result.me c.count.new.seat.me c.count.result c.into_seat-seat.ensures.2 c.requires.first
    c.into_seat-seat.ensures.1 c.count.ensures.counts in
    let drew = ap (λ (m : Me (Option g.row.S.Denot) View). length m.0.numbers) c.fetch_add.ensures.2.2 in
    (search rules, search rules, splits g.S.Kept.stands g.S.Kept.kind _ _ c.fetch_add.new.seat.me.0 (omega (arith, drew, has_one c.count.new.seat.me.0 k.0)))
