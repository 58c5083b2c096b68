use Rattle.osc_drawing.proofs.target.matches_one.Given as goal

abbrev pub ghosts-matches_in : goal.ghosts-matches_in
ghosts-matches_in a = record { name = a.blank.name; parts = a.blank.parts }
