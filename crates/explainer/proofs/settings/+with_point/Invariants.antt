use Rattle.explainer.proofs.settings.+with_point.Given as goal

abbrev pub decreases-with_point : goal.decreases-with_point
decreases-with_point g l = l.places
