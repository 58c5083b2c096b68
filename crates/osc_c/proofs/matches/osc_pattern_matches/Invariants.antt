use Rattle.osc_c.proofs.matches.osc_pattern_matches.Given as goal

abbrev pub ghosts-is_match : goal.ghosts-is_match
ghosts-is_match a = record { name = a.blank.name; parts = a.blank.parts }
