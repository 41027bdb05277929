use Rattle.ghost_links.proofs.links.Links.store_data.Given as goal

abbrev pub ghosts-store_data_as : goal.ghosts-store_data_as
ghosts-store_data_as a = record { link = a.link; place = a.place }
