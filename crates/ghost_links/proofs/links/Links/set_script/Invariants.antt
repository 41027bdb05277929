use Rattle.ghost_links.proofs.links.Links.set_script.Given as goal

abbrev pub ghosts-set_script_as : goal.ghosts-set_script_as
ghosts-set_script_as g a = record { layout = a.self.now.layout; packets = g.S.Script.packets a.script.now }
