use Rattle.std.proofs.lemmas.List.{get_or-replicate}
use Rattle.std.proofs.Common.{length}
use Rattle.tuple_state.proofs.settling.spread_causes.Goals as goal

pub thread-requires-clause-none : goal.thread-requires-clause-none
thread-requires-clause-none c table low = get_or-replicate 256 table (length c.args.grounds.now.rows.now) 0 low
