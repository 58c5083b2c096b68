use Rattle.osc_tree.proofs.matches.walk_read.Goals as goal

pub walk_found-requires-clause-set : goal.walk_found-requires-clause-set
walk_found-requires-clause-set g c = record {
  parts = c.requires.parts;
  few = c.requires.few;
  found = c.ready_parts-found.ensures;
  within = c.requires.within;
  sorted = c.requires.sorted;
  front = c.requires.front;
  plain = c.count_wild-wild.ensures;
  rest = c.plain_from.ensures;
}
