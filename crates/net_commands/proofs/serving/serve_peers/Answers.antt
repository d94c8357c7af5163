use Rattle.std.proofs.Common.{rules, ◌≡◌, false, ap}
use Rattle.schema_verdict.specs.declared.status.TheConstants.{OUT_OF_MEMORY}
use Rattle.net_commands.specs.Words.{has_status}
use Rattle.net_commands.proofs.Sessions.{serves_failed, serves_held, serves_none_open}
use Rattle.net_commands.proofs.serving.serve_peers.Goals as goal

pub returns-in-Err : goal.returns-in-Err
returns-in-Err g c = serves_none_open _ _ _ _ _ _ _ c.in-Err.ensures.err

pub returns-then-memory : goal.returns-then-memory
returns-then-memory g c =
    serves_failed c.args.known.now.rule _ _ _ _ _ _ _ _ c.in-Ok.both.1 c.serve-all.result.pass c.serve-all.result.sessions c.serve-all.result.net_failed c.serve-all.result.memory c.end-replica.ensures.0
    c.serve-all.ensures (ap (λ k. k.seen) c.in-Ok.ensures.ok) c.end-replica.ensures.1 c.end-replica.ensures.2 _

pub returns : goal.returns
returns g c =
    let none : has_status OUT_OF_MEMORY c.serve-all.result.sessions ≡ false = search rules in
    serves_held c.args.known.now.rule _ _ _ _ _ _ _ _ c.in-Ok.both.1 c.serve-all.result.pass c.serve-all.result.sessions c.serve-all.result.net_failed c.serve-all.result.memory c.end-replica.ensures.0
    c.serve-all.ensures (ap (λ k. k.seen) c.in-Ok.ensures.ok) c.end-replica.ensures.1 c.end-replica.ensures.2 c.if-memory.false none c.requires.rule
