use Rattle.turn_cell.proofs.cell.Turn.split.Given as goal

-- the share that is given away
abbrev pub ghosts-cut : goal.ghosts-cut
ghosts-cut g a = record { share = a.share }
