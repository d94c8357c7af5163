use Rattle.confluence_test.proofs.path.+follow.Given as goal

abbrev pub decreases-follow : goal.decreases-follow
decreases-follow l = l.depth
