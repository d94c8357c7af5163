use Rattle.std.proofs.Common.{◌≡◌, ◌≢◌, map, subst, IfOk}
use Rattle.std.proofs.lemmas.Result.{IfOk-weaker}
use Rattle.update_codec.specs.Parts.{entry_of}
use Rattle.session_rules.specs.Laws.{NoCollision}
use Rattle.session_rules.specs.declared.end.End.TheVariants.{Full, Store}
use Rattle.session_rules.specs.declared.role.Role.TheVariants.{Initiator, Responder}
use Rattle.sync_session.specs.Carrying.{HasRoom, Syncs, Unites}
use Rattle.sync_session.specs.declared.pair.PairStart.{PairStart}
use Rattle.sync_session.proofs.Room.{room_for_all}
use Rattle.sync_session.proofs.Sessions.{start_is}
use Rattle.sync_session.proofs.Starting.{fresh_is}
use Rattle.sync_session.proofs.Syncing.{unites_from}
use Rattle.sync_session.proofs.pair.sync_pair.Goals as goal

pub run-requires-clause-fresh_a : goal.run-requires-clause-fresh_a
run-requires-clause-fresh_a g c = fresh_is Initiator c.args.start.database_a c.args.start.node_a c.args.start.old_a c.fresh-session_a.result c.fresh-session_a.ensures

pub run-requires-clause-fresh_b : goal.run-requires-clause-fresh_b
run-requires-clause-fresh_b g c = fresh_is Responder c.args.start.database_b c.args.start.node_b c.args.start.old_b c.fresh-session_b.result c.fresh-session_b.ensures

pub returns-clause-syncs : goal.returns-clause-syncs
returns-clause-syncs g c = subst (λ (start : PairStart). IfOk c.run.result (λ ended. Syncs (g.A.Holder.limits c.args.a.now) (g.B.Holder.limits c.args.b.now) (g.A.Holder.rule c.args.a.now) (g.B.Holder.rule c.args.b.now) start (g.A.Holder.members c.args.a.now) (g.B.Holder.members c.args.b.now) ended (g.A.Holder.members c.run.new.a) (g.B.Holder.members c.run.new.b))) (start_is c.args.start c.fresh-session_a.result c.fresh-session_b.result c.fresh-session_a.ensures c.fresh-session_b.ensures) c.run.ensures.syncs

pub returns-clause-unites : goal.returns-clause-unites
returns-clause-unites g c =
    IfOk-weaker c.run.result (λ ended. Syncs (g.A.Holder.limits c.args.a.now) (g.B.Holder.limits c.args.b.now) (g.A.Holder.rule c.args.a.now) (g.B.Holder.rule c.args.b.now) c.args.start (g.A.Holder.members c.args.a.now) (g.B.Holder.members c.args.b.now) ended (g.A.Holder.members c.run.new.a) (g.B.Holder.members c.run.new.b))
    (λ ended. g.A.Holder.rule c.args.a.now ≡ g.B.Holder.rule c.args.b.now → c.args.start.database_a ≡ c.args.start.database_b
    → NoCollision (map entry_of (g.A.Holder.members c.args.a.now)) (map entry_of (g.B.Holder.members c.args.b.now)) → ended.a ≢ Full → ended.a ≢ Store
    → Unites (g.A.Holder.members c.args.a.now) (g.B.Holder.members c.args.b.now) ended (g.A.Holder.members c.run.new.a) (g.B.Holder.members c.run.new.b))
    (λ ended syncs one_rule one_database alike room disk. unites_from c.no_cause.ensures c.args.start (g.A.Holder.limits c.args.a.now) (g.B.Holder.limits c.args.b.now) (g.A.Holder.rule c.args.a.now) (g.B.Holder.rule c.args.b.now) (g.A.Holder.members c.args.a.now) (g.B.Holder.members c.args.b.now) (g.A.Holder.members c.run.new.a) (g.B.Holder.members c.run.new.b) ended c.len.ensures.held c.len-2.ensures.held syncs one_rule one_database alike room disk)
    (subst (λ (start : PairStart). IfOk c.run.result (λ ended. Syncs (g.A.Holder.limits c.args.a.now) (g.B.Holder.limits c.args.b.now) (g.A.Holder.rule c.args.a.now) (g.B.Holder.rule c.args.b.now) start (g.A.Holder.members c.args.a.now) (g.B.Holder.members c.args.b.now) ended (g.A.Holder.members c.run.new.a) (g.B.Holder.members c.run.new.b))) (start_is c.args.start c.fresh-session_a.result c.fresh-session_b.result c.fresh-session_a.ensures c.fresh-session_b.ensures) c.run.ensures.syncs)

pub returns-clause-room : goal.returns-clause-room
returns-clause-room g c =
    IfOk-weaker c.run.result (λ ended. Syncs (g.A.Holder.limits c.args.a.now) (g.B.Holder.limits c.args.b.now) (g.A.Holder.rule c.args.a.now) (g.B.Holder.rule c.args.b.now) c.args.start (g.A.Holder.members c.args.a.now) (g.B.Holder.members c.args.b.now) ended (g.A.Holder.members c.run.new.a) (g.B.Holder.members c.run.new.b))
    (λ ended. NoCollision (map entry_of (g.A.Holder.members c.args.a.now)) (map entry_of (g.B.Holder.members c.args.b.now))
    → HasRoom (g.A.Holder.limits c.args.a.now) (g.A.Holder.members c.args.a.now) (g.B.Holder.members c.args.b.now)
    → HasRoom (g.B.Holder.limits c.args.b.now) (g.B.Holder.members c.args.b.now) (g.A.Holder.members c.args.a.now) → ended.a ≢ Full)
    (λ ended syncs alike room_a room_b. room_for_all c.args.start (g.A.Holder.limits c.args.a.now) (g.B.Holder.limits c.args.b.now) (g.A.Holder.rule c.args.a.now) (g.B.Holder.rule c.args.b.now) (g.A.Holder.members c.args.a.now) (g.B.Holder.members c.args.b.now) (g.A.Holder.members c.run.new.a) (g.B.Holder.members c.run.new.b) ended c.len.ensures.held c.len-2.ensures.held syncs alike room_a room_b)
    (subst (λ (start : PairStart). IfOk c.run.result (λ ended. Syncs (g.A.Holder.limits c.args.a.now) (g.B.Holder.limits c.args.b.now) (g.A.Holder.rule c.args.a.now) (g.B.Holder.rule c.args.b.now) start (g.A.Holder.members c.args.a.now) (g.B.Holder.members c.args.b.now) ended (g.A.Holder.members c.run.new.a) (g.B.Holder.members c.run.new.b))) (start_is c.args.start c.fresh-session_a.result c.fresh-session_b.result c.fresh-session_a.ensures c.fresh-session_b.ensures) c.run.ensures.syncs)
