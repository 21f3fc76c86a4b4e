use Rattle.sk_bench.proofs.call_tests.a_walk_gathers_its_calls.Given as goal

abbrev pub ghosts-gathered_calls : goal.ghosts-gathered_calls
ghosts-gathered_calls g a = record { name = a.blank.name; parts = a.blank.parts }
