use Rattle.test_threads.proofs.turn_run.play.Given as goal

abbrev pub ghosts-play_at : goal.ghosts-play_at
ghosts-play_at g a = record { table = a.first.table }
