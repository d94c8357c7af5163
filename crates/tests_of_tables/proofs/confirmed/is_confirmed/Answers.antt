use Rattle.tests_of_tables.proofs.confirmed.is_confirmed.Goals as goal

pub confirms-requires-after_bounds : goal.confirms-requires-after_bounds
confirms-requires-after_bounds c κs = c.in-Some.ensures _
