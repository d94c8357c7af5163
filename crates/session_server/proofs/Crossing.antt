-- Which of what a session is given and gives back may go to another thread.
use denote.RattleType.{RattleType}
use denote.Param.Send.{IsSend, IsSync, sendable}
use Rattle.std.proofs.Crossing.{crosses, Box-send}
use Rattle.row_check.specs.contracts.expr.Expr as Expr
use Rattle.row_check.proofs.expr.Expr.TheLaws.TheKnot as knot
use Rattle.row_check.specs.contracts.term.Term as Term
use Rattle.row_check.specs.contracts.cmp.Cmp as Cmp
use Rattle.update_model.proofs.lists.ByteList.TheSendSync as bytes
use Rattle.update_model.proofs.db_rule.DbRule.TheSendSync as rule
use Rattle.update_model.proofs.text_value.TextValue.TheSendSync as text
use Rattle.update_model.proofs.value_list.ValueList.TheSendSync as values
use Rattle.schema.proofs.lists.ColumnList.TheSendSync as columns
use Rattle.schema.proofs.lists.MatchList.TheSendSync as matches
use Rattle.schema.proofs.lists.UniqueList.TheSendSync as uniques
use Rattle.schema.specs.contracts.rules.CheckRule as CheckRule
use Rattle.schema.specs.contracts.lists.CheckList as CheckList
use Rattle.schema.specs.contracts.table_def.TableDef as TableDef
use Rattle.schema.specs.contracts.lists.TableList as TableList
use Rattle.schema.specs.contracts.schema.Schema as Schema
use Rattle.bec_disk.specs.declared.disk.Disk as disk
use Rattle.bec_bytes.specs.declared.counted.Counted as counted
use Rattle.hash_graph.proofs.graph.Graph.TheSendSync as graph
use Rattle.update_check.proofs.checked_update.Checked.TheSendSync as checked
use Rattle.row_check.proofs.luhn.Luhn.TheSendSync as luhn
use Rattle.update_log.proofs.log.Log.TheSendSync as log
use Rattle.shared_replica.specs.contracts.stored.Stored as Stored
use Rattle.replica.specs.contracts.replica.Replica as Replica
use Rattle.history.specs.contracts.history.History as History
use Rattle.history.specs.contracts.views.Views as Views
use Rattle.row_check.specs.contracts.native.Native as Native
use Rattle.head_set.proofs.heads.Heads.TheSendSync as heads
use Rattle.ancestry.proofs.ancestry.Ancestry.TheSendSync as ancestry
use Rattle.tuple_state.proofs.tables.Tables.TheSendSync as tables
use Rattle.row_check.specs.declared.relation.Relation as relation
use Rattle.turn_lock.proofs.lock.TurnLock.TheSendSync as lock
use Rattle.turn_lock.proofs.seat.Seat.TheSendSync as seat
use Rattle.shared_replica.specs.contracts.shared.Shared as Shared
use Rattle.session_server.specs.contracts.running.Ended as Ended
use Rattle.session_server.specs.contracts.served.Served as Served
use Rattle.turn_lock.specs.contracts.seat.Seat as Seat
use Rattle.turn_lock.specs.declared.kept.Kept as kept
use Rattle.update_model.proofs.lists.IdList.TheSendSync as ids

term_send : IsSend (Term.the_field).row
term_send = search (sendable, crosses) depth 20

cmp_send : IsSend (Cmp.the_field).row
cmp_send = search sendable depth 20

expr_send : IsSend (Expr.the_field).row
expr_send = knot.send-Expr Box-send term_send cmp_send (search sendable) (search sendable) (search (sendable, crosses) depth 20)

check_rule_send : IsSend CheckRule.the_row
check_rule_send = let e = expr_send in search (sendable, crosses) depth 20

check_list_send : IsSend CheckList.the_row
check_list_send = let r = check_rule_send in search (sendable, crosses) depth 20

table_send : IsSend TableDef.the_row
table_send = let t : IsSend _ = text.the_send in let c : IsSend _ = columns.the_send in let l = check_list_send in let m : IsSend _ = matches.the_send in let u : IsSend _ = uniques.the_send in let v : IsSend _ = values.the_send in search (sendable, crosses) depth 20

tables_send : IsSend TableList.the_row
tables_send = let t = table_send in search (sendable, crosses) depth 20

schema_send : IsSend Schema.the_row
schema_send = let r : IsSend _ = rule.the_send in let t = tables_send in let b : IsSend _ = bytes.the_send in search (sendable, crosses) depth 20

views_send : IsSend (Views.the_field).row
views_send = search (sendable, crosses, heads.the_send, ancestry.the_send, tables.the_send) depth 20

module _ (L C : RattleType) (r : relation.Ghosts L.Denot) where
  native_send : IsSend C → IsSend (Native.the_field L C r).row
  native_send s = search (sendable, crosses) depth 20

  history_send : IsSend C → IsSend (History.the_row L C r)
  history_send s = let h = schema_send in let n = native_send s in let v = views_send in search (sendable, crosses, graph.the_send, checked.the_send) depth 20

  module _ (D : RattleType) (d : disk.Ghosts D.Denot) (c : counted.Ghosts D.Denot) where
    replica_send : IsSend C → IsSend D → IsSend (Replica.the_row D L C d c r)
    replica_send s t = let h = history_send s in search (sendable, crosses, log.the_send) depth 20

pub stored_send : (D : RattleType) (d : disk.Ghosts D.Denot) (c : counted.Ghosts D.Denot) → IsSend D → IsSend (Stored.the_row D d c)
stored_send D d c s = search (sendable, crosses, replica_send, luhn.the_send) depth 20

pub pass_send : (D : RattleType) (d : disk.Ghosts D.Denot) (c : counted.Ghosts D.Denot) (E : RattleType) (k : kept.Ghosts (Stored.the_row D d c).Denot E.Denot) → IsSend D → IsSend (Seat.the_row (Stored.the_row D d c) E k)
pass_send D d c E k s = seat.the_send (Stored.the_row D d c) E k (stored_send D d c s)

pub shared_sync : (D : RattleType) (d : disk.Ghosts D.Denot) (c : counted.Ghosts D.Denot) → IsSend D → IsSync (Shared.the_row D d c)
shared_sync D d c s = let t = stored_send D d c s in search (sendable, crosses, lock.the_sync) depth 20

served_send : IsSend (Served.the_field).row
served_send = search (sendable, crosses, ids.the_send) depth 20

pub ended_send : (D K : RattleType) (d : disk.Ghosts D.Denot) (c : counted.Ghosts D.Denot) → IsSend D → IsSend K → IsSend (Ended.the_row D K d c)
ended_send D K d c s t = let u = served_send in search (sendable, crosses, pass_send) depth 20
