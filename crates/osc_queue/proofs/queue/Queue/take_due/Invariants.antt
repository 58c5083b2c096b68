use Rattle.osc_queue.proofs.queue.Queue.take_due.Given as goal

abbrev pub ghosts-take_from : goal.ghosts-take_from
ghosts-take_from a b = record { name = b.blank.name; parts = b.blank.parts }
