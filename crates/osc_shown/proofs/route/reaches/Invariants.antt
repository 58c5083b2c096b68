use Rattle.osc_shown.proofs.route.reaches.Given as goal

abbrev pub ghosts-reaches_in : goal.ghosts-reaches_in
ghosts-reaches_in a = record { name = a.blank.name; parts = a.blank.parts }
