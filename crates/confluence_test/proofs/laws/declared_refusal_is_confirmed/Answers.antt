use Rattle.confluence_test.proofs.laws.declared_refusal_is_confirmed.Goals as goal
use Rattle.table_model.specs.Visible.{rules_with}

pub returns : goal.returns
returns c relation text schema which example declares refused =
    c.refused_is_confirmed.ensures (rules_with relation schema.tables) which example refused
    (c.declared_is_sound.ensures relation text schema declares).tables
    (c.declared_samples_pass.ensures relation text schema declares)
