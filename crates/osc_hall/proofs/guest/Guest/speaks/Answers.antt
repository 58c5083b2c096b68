use Rattle.std.proofs.Common.{ℕ, ◌≤◌, List, length, subst, ap, refl, not}
use Rattle.std.specs.Prelude.{option_map}
use Rattle.osc_door.specs.declared.door.Took.{Took}
use Rattle.osc_door.specs.Visitors.{TakesFront}
use Rattle.osc_hall.specs.declared.limits.TheConstants.{SHARE}
use Rattle.osc_hall.specs.Visits.{text_of}
use Rattle.osc_hall.specs.Turns.{Seen, IsTold}
use Rattle.osc_hall.proofs.ToldFronts.{room_left, goes_while}
use Rattle.osc_hall.proofs.guest.Guest.speaks.Goals as goal

pub took-requires : goal.took-requires
took-requires g c = record {
  within = room_left c.self.inside.visit.told SHARE c.in-Bytes.count _ c.share.result.now c.share.ensures c.in-Bytes.ensures.within
      c.self.inside.visit.within;
}

pub returns-in-Bytes : goal.returns-in-Bytes
returns-in-Bytes g c =
    let after : Seen g.row.V.Denot = record {
      visitor = c.write.new.self;
      heard = c.took.new.self.heard.items;
      answer = option_map (λ text. text.items) c.took.new.self.answer;
      told = c.took.new.self.told;
      rounds = c.self.inside.rounds;
    } in
    subst (λ (b : Seen g.row.V.Denot). IsTold g.V.Visitor.left g.V.Visitor.taken (text_of b.answer) b after (not c.is_empty.result))
    c.self.view_is
    (record {
      took = Took.Bytes c.in-Bytes.count;
      within = subst (λ (l : List ℕ). c.in-Bytes.count ≤ length l) c.share.ensures c.in-Bytes.ensures.within;
      takes = subst (λ (l : List ℕ). TakesFront (g.V.Visitor.taken c.self.inside.visitor) (g.V.Visitor.taken c.write.new.self)
          (Took.Bytes c.in-Bytes.count) l) c.share.ensures c.in-Bytes.ensures.took;
      goes_is = goes_while c.rest.result.now (text_of (option_map (λ text. text.items) c.self.inside.visit.answer))
          (text_of (option_map (λ text. text.items) c.took.new.self.answer)) c.took.new.self.told c.is_empty.result c.is_empty.ensures
          c.rest.ensures (ap (λ a. text_of (option_map (λ text. text.items) a)) c.took.ensures.answer);
      told_is = c.took.ensures.told;
      left_is = c.in-Bytes.ensures.left;
      heard_is = ap (λ h. h.items) c.took.ensures.heard;
      answer_is = ap (λ a. option_map (λ text. text.items) a) c.took.ensures.answer;
      rounds_is = refl;
    })
