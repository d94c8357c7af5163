use denote.Param.Send.{sendable, param_send}
use Rattle.std.proofs.Crossing.{crosses}
use Rattle.update_model.proofs.db_rule.DbRule.TheSendSync as rule
use Rattle.peer_memory.proofs.peers.Peers.TheSendSync as peers
use Rattle.session_server.proofs.Crossing.{ended_send, pass_send, shared_sync}
use Rattle.session_server.proofs.running.start.Lts.{arg-4-2, arg-4-3}
use Rattle.session_server.proofs.running.start.Goals as goal

-- the search takes what the closure captures in the order in which its body names it, and breaks off where `rt` is not the first
pub spawn_with-requires-send-F : goal.spawn_with-requires-send-F
spawn_with-requires-send-F g c κs within = param_send 2
    (arg-4-2 g.row.E g.row.R g.row.K g.row.D g.E.laws g.R.laws g.K.laws g.D.laws g.R.Threads g.R.Threads-dict g.R.Wait g.R.Wait-dict g.K.Link g.K.Link-dict g.K.Source g.K.Source-dict g.K.Counted g.K.Counted-dict g.K.Sink g.K.Sink-dict g.D.Disk g.D.Disk-dict g.D.Counted g.D.Counted-dict g.K.Destruct-dict κs)
    (search (sendable, crosses, pass_send, shared_sync, rule.the_sync, peers.the_sync) depth 20)

pub spawn_with-requires-send-T : goal.spawn_with-requires-send-T
spawn_with-requires-send-T g c κs within = param_send 3
    (arg-4-3 g.row.E g.row.R g.row.K g.row.D g.E.laws g.R.laws g.K.laws g.D.laws g.R.Threads g.R.Threads-dict g.R.Wait g.R.Wait-dict g.K.Link g.K.Link-dict g.K.Source g.K.Source-dict g.K.Counted g.K.Counted-dict g.K.Sink g.K.Sink-dict g.D.Disk g.D.Disk-dict g.D.Counted g.D.Counted-dict g.K.Destruct-dict κs)
    (search (sendable, crosses, ended_send) depth 20)
