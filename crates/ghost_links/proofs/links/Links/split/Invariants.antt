use Rattle.ghost_links.proofs.links.Links.split.Given as goal

abbrev pub ghosts-split_as : goal.ghosts-split_as
ghosts-split_as a = record { rank = a.rank }
