use Rattle.osc_report.proofs.selector.matches_names.Given as goal

abbrev pub ghosts-matches_in : goal.ghosts-matches_in
ghosts-matches_in a = record { name = a.blank.name; parts = a.blank.parts }
