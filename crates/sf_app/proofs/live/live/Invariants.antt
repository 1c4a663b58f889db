use Rattle.sf_app.proofs.live.live.Given as goal

abbrev pub ghosts-live : goal.ghosts-live
ghosts-live g a = record { table = a.seat.table }

abbrev pub ghosts-live_queue : goal.ghosts-live_queue
ghosts-live_queue g a = record { table = a.seat.table }
