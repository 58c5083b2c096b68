use Rattle.osc_queue.proofs.queue.Queue.enter.Given as goal

abbrev pub ghosts-enter_in : goal.ghosts-enter_in
ghosts-enter_in a b = record { name = b.blank.name; parts = b.blank.parts }
