use Rattle.sf_app.proofs.play.play.Given as goal

abbrev pub ghosts-show_play : goal.ghosts-show_play
ghosts-show_play g a = record { table = a.seat.table }
