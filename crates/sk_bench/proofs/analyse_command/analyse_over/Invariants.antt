use Rattle.sk_bench.proofs.analyse_command.analyse_over.Given as goal

abbrev pub ghosts-analysis : goal.ghosts-analysis
ghosts-analysis g a = record { name = a.blank.name; parts = a.blank.parts }
