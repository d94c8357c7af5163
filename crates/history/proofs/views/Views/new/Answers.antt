use Rattle.history.proofs.Steps.{views_none}
use Rattle.history.proofs.views.Views.new.Goals as goal

pub returns : goal.returns
returns c = λ ask members. views_none ask c.args.schema.now members (record { heads = c.new-heads.result; ancestry = c.new-ancestry.result; tables = c.in_ok-tables.tables })
    c.new-heads.ensures c.new-ancestry.ensures (c.in_ok-tables.ensures ask)
