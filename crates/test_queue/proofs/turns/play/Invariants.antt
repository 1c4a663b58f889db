use Rattle.test_queue.proofs.turns.play.Given as goal

abbrev pub ghosts-play_at : goal.ghosts-play_at
ghosts-play_at g a = record { table = a.seat.table }
