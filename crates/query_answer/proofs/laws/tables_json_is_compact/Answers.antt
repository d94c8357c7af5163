use Rattle.query_answer.proofs.TablesCompact.{tables_compact}
use Rattle.query_answer.proofs.laws.tables_json_is_compact.Goals as goal

pub returns : goal.returns
returns c = tables_compact
