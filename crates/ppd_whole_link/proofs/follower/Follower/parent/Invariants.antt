use Rattle.ppd_whole_link.proofs.follower.Follower.parent.Given as goal

abbrev pub ghosts-parent_from : goal.ghosts-parent_from
ghosts-parent_from a = record { name = a.blank.name; parts = a.blank.parts }
