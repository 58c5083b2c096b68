use Rattle.osc_tests_server.proofs.matched_addresses.each_address_that_a_pattern_matches_is_counted.Given as goal

abbrev pub ghosts-count : goal.ghosts-count
ghosts-count g a = record { name = a.blank.name; parts = a.blank.parts }
