use Rattle.std.proofs.Common.{◌≡◌, length, rules, ◌∙◌, sym}
use Rattle.osc_tree.proofs.Advances.{none_near}
use Rattle.osc_tree.proofs.matches.walk_near.Goals as goal

pub returns-then-is_empty-clause-ids : goal.returns-then-is_empty-clause-ids
returns-then-is_empty-clause-ids g c =
    let none : length c.args.near.now ≡ 0 = search rules in
    c.requires.empty ∙ sym (none_near c.args.pattern.now c.args.methods.now c.args.near.now none)

pub walk_found-requires-clause-set : goal.walk_found-requires-clause-set
walk_found-requires-clause-set g c = record {
  parts = c.requires.parts;
  few = c.requires.few;
  found = c.find_parts-found.ensures;
  within = c.requires.within;
  sorted = c.requires.sorted;
  front = c.requires.front;
  plain = c.count_wild-wild.ensures;
  rest = c.plain_from.ensures;
}
