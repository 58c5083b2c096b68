use Rattle.std.proofs.Common.{rules, ◌≡◌, ℕ, ◌<◌, false, List, [], ◌∷◌, length, sym, ap, ◌∙◌, subst, Option}
use Rattle.atomic_table.specs.Table.{Me}
use Rattle.osc_turn.specs.declared.pass.Pass.{Pass}
use Rattle.osc_turn.specs.declared.view.View.{View}
use Rattle.osc_turn.specs.Numbers.{times}
use Rattle.osc_turn.specs.Rule.{number_of}
use Rattle.osc_turn.specs.Steps.{Counts}
use Rattle.osc_turn.specs.Passes.{view, opened_with}
use Rattle.osc_turn.specs.Closing.{Gathers, first_view}
use Rattle.osc_turn.proofs.Acting.{has_first}
use Rattle.osc_turn.proofs.Gathering.{gathered_whole, closes, parted}
use Rattle.osc_turn.proofs.turn.Turn.close.Goals as goal

-- what is known of the first pass, and of its view after the others were joined into it
record Gathered (passes : List Pass) (p : Pass) (others : List Pass) (w : View) : Type 0 where
  is : passes ≡ p ∷ others
  gathers : Gathers (view p) others w
  made : (view p).made ≡ length passes
  whole : (w.holds ≡ false) × (w.spare ≡ []) × (0 < times 0 w.numbers) × (length w.numbers ≡ w.made)

gathered : {S : Type 0} (passes : List Pass) (p : Pass) (others : List Pass) (m m' : Me (Option S) View) (r : ℕ) (w : View) → passes ≡ p ∷ others
    → number_of (first_view passes) ≡ 0 → m ≡ (view p, []) → Counts m r m'
    → r ≡ length passes → Gathers m'.0 others w → Gathered passes p others w
gathered passes p others m m' r w is zero_is at c counted g = record {
  is = is;
  gathers = g';
  made = made ∙ counted;
  whole = gathered_whole (view p) w others p.rests first g' (made ∙ (counted ∙ ap length is));
}
  where
    g' : Gathers (view p) others w
    g' = subst (λ (u : View). Gathers u others w) (ap (λ n. n.0) (c.0 ∙ at)) g

    first : number_of (view p) ≡ 0
    first = ap (λ ps. number_of (first_view ps)) (sym is) ∙ zero_is

    made : (view p).made ≡ r
    made = sym (ap (λ n. n.0.made) at) ∙ sym (c.1 (subst (λ (u : View). 0 < times 0 u.numbers) (sym (ap (λ n. n.0) at)) (has_first (view p) p.rests first)))

pub into_value-requires-clause-whole : goal.into_value-requires-clause-whole
into_value-requires-clause-whole g c =
    let is = parted c.args.passes.items c.remove.new.self.items c.remove.result c.requires.few.0 c.remove.ensures.value c.remove.ensures.items in
    (gathered c.args.passes.items c.remove.result c.remove.new.self.items c.into_seat-seat.result.me c.count-made.new.seat.me c.count-made.result
    c.gather.new.seat.me.0 is c.requires.first c.into_seat-seat.ensures.1
    c.count-made.ensures.counts (search rules) c.gather.ensures.gathers).whole

pub returns-clause-closes : goal.returns-clause-closes
returns-clause-closes g c =
    let is = parted c.args.passes.items c.remove.new.self.items c.remove.result c.requires.few.0 c.remove.ensures.value c.remove.ensures.items in
    let all = gathered c.args.passes.items c.remove.result c.remove.new.self.items c.into_seat-seat.result.me c.count-made.new.seat.me c.count-made.result
    c.gather.new.seat.me.0 is c.requires.first c.into_seat-seat.ensures.1
    c.count-made.ensures.counts (search rules) c.gather.ensures.gathers in
    closes g.S.Kept.stands (g.S.Kept.history (opened_with c.args.self)) c.into_value.result c.args.passes.items c.remove.result c.remove.new.self.items
    c.gather.new.seat.me.0 is all.gathers c.into_value.ensures.stands c.into_value.ensures.each c.into_value.ensures.begins

pub returns-clause-all_in : goal.returns-clause-all_in
returns-clause-all_in g c =
    let is = parted c.args.passes.items c.remove.new.self.items c.remove.result c.requires.few.0 c.remove.ensures.value c.remove.ensures.items in
    let all = gathered c.args.passes.items c.remove.result c.remove.new.self.items c.into_seat-seat.result.me c.count-made.new.seat.me c.count-made.result
    c.gather.new.seat.me.0 is c.requires.first c.into_seat-seat.ensures.1
    c.count-made.ensures.counts (search rules) c.gather.ensures.gathers in
    ap (λ ps. (first_view ps).made) is ∙ all.made

pub returns-clause-kind : goal.returns-clause-kind
returns-clause-kind g c =
    let is = parted c.args.passes.items c.remove.new.self.items c.remove.result c.requires.few.0 c.remove.ensures.value c.remove.ensures.items in
    let all = gathered c.args.passes.items c.remove.result c.remove.new.self.items c.into_seat-seat.result.me c.count-made.new.seat.me c.count-made.result
    c.gather.new.seat.me.0 is c.requires.first c.into_seat-seat.ensures.1
    c.count-made.ensures.counts (search rules) c.gather.ensures.gathers in
    c.into_value.ensures.kind ∙ (all.gathers.same_kind ∙ ap (λ ps. (first_view ps).kind) (sym is))

pub returns-clause-opened : goal.returns-clause-opened
returns-clause-opened g c =
    let is = parted c.args.passes.items c.remove.new.self.items c.remove.result c.requires.few.0 c.remove.ensures.value c.remove.ensures.items in
    let all = gathered c.args.passes.items c.remove.result c.remove.new.self.items c.into_seat-seat.result.me c.count-made.new.seat.me c.count-made.result
    c.gather.new.seat.me.0 is c.requires.first c.into_seat-seat.ensures.1
    c.count-made.ensures.counts (search rules) c.gather.ensures.gathers in
    ap (λ ps. (first_view ps).opened_at) is ∙ (sym all.gathers.same_opened ∙ c.into_value.ensures.opened)
