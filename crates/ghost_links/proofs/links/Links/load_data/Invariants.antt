use Rattle.ghost_links.proofs.links.Links.load_data.Given as goal

abbrev pub ghosts-load_data_as : goal.ghosts-load_data_as
ghosts-load_data_as a = record { link = a.link; place = a.place }
