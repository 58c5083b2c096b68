use Rattle.std.proofs.Common.{rules, ◌≡◌, suc, ◌+◌, ◌<◌, [], ◌∷◌, All, refl, sym, ap, subst, ◌∙◌, arith}
use Rattle.std.proofs.lemmas.List.Elements.{All-append, All-cons, All-nil}
use Rattle.osc_turn.specs.declared.view.View.{View}
use Rattle.osc_turn.specs.Rule.{number_of}
use Rattle.osc_turn.specs.Passes.{view, one_more, guest_of}
use Rattle.osc_live.specs.declared.caller.Caller.{Caller}
use Rattle.osc_live.specs.Seen.{names, old_own, IsTokenOf, past_of}
use Rattle.osc_live.specs.Closing.{known}
use Rattle.osc_live.proofs.Answered.{none_named}
use Rattle.osc_live.proofs.Resumed.{ok_there, on_ok, seen_enrolled, first_named, tokens_more}
use Rattle.osc_live.proofs.live.Live.hand_tokens.Goals as goal

pub invariant_of-push_reserved : goal.invariant_of-push_reserved
invariant_of-push_reserved g c =
    let guest = c.in-Ok.guest in
    let opened = past_of c.args.self.now.turn in
    let from = c.loop-number.invariant.from in
    let less : c.loop-number.number < c.args.count = search rules in
    let sees : view guest ≡ guest_of (view c.loop-number.pass) = ok_there _ c.guest-first.result.1 guest c.in-Ok.is c.guest-first.ensures.guest in
    let none = ok_there _ c.guest-first.result.1 guest c.in-Ok.is c.guest-first.ensures.no_entries in
    record {
      enrolled = seen_enrolled opened (view guest) c.loop-number.number c.args.count
          (ap (λ (v : View). v.seen) sees ∙ ap (λ (v : View). v.seen) c.loop-number.invariant.first) c.requires.enrolled less;
      named = none_named (names c.loop-number.number) (old_own (view guest)) _ none;
      first = λ zero. absurd (omega (arith, from.0));
    }

pub loop-number-preserved : goal.loop-number-preserved
loop-number-preserved g c =
    let guest = c.in-Ok.guest in
    let caps = c.args.self.now.caps in
    let opened = past_of c.args.self.now.turn in
    let inv = c.loop-number.invariant in
    let first = inv.first in
    let less : c.loop-number.number < c.args.count = search rules in
    let from = inv.from in
    let room = inv.room in
    let sees : view guest ≡ guest_of (view c.loop-number.pass) = ok_there _ c.guest-first.result.1 guest c.in-Ok.is c.guest-first.ensures.guest in
    let ours = ok_there _ c.guest-first.result.1 guest c.in-Ok.is c.guest-first.ensures.guest_ours in
    let made : view c.guest-first.result.0 ≡ one_more (view c.loop-number.pass) = on_ok c.guest-first.result.1 guest c.in-Ok.is c.guest-first.ensures.made in
    let kind = ap (λ (v : View). v.kind) made ∙ inv.ours.1 in
    let token : IsTokenOf c.args.self.now.turn caps guest = (ours, ap (λ (v : View). v.kind) sees ∙ inv.ours.1) in
    let longer = tokens_more caps opened c.loop-number.callers.items _ inv.tokens.0 c.loop-number.number inv.tokens.2 inv.tokens.1 refl
    (sees ∙ ap guest_of first) in
    let counted = inv.tokens.1 in
    record {
      ours = (c.guest-first.ensures.ours, kind);
      first = made ∙ ap one_more first;
      from = (omega arith, omega (arith, less));
      tokens = (
        suc inv.tokens.0,
        (let e : c.loop-number.number + 1 ≡ suc (suc inv.tokens.0) = omega (arith, counted) in e),
        ap known c.push_reserved.ensures.items ∙ longer,
      );
      each = subst (All (λ (caller : Caller). IsTokenOf c.args.self.now.turn caps caller.pass)) (sym c.push_reserved.ensures.items)
          (All-append (λ (caller : Caller). IsTokenOf c.args.self.now.turn caps caller.pass) c.loop-number.callers.items (_ ∷ []) inv.each
          (All-cons (λ (caller : Caller). IsTokenOf c.args.self.now.turn caps caller.pass) _ [] token
          (All-nil (λ (caller : Caller). IsTokenOf c.args.self.now.turn caps caller.pass))));
      room = (omega (arith, room.0, c.push_reserved.ensures.capacity), omega (arith, room.1, c.push_reserved.ensures.len));
    }

pub invariant_of-insert : goal.invariant_of-insert
invariant_of-insert g c =
    let v = view c.loop-number.pass in
    let opened = past_of c.args.self.now.turn in
    let some = c.requires.some in
    record {
      enrolled = seen_enrolled opened v 0 c.args.count (ap (λ (v : View). v.seen) c.loop-number.invariant.first) c.requires.enrolled (omega arith);
      named = first_named c.args.self.now.caps opened c.loop-number.number v c.loop-number.invariant.first;
      first = λ zero. ap number_of c.loop-number.invariant.first;
    }
