use Rattle.std.proofs.Common.{◌∙◌, take, sym, ap, IsTrue}
use Rattle.bec_disk.specs.Disk.{DiskState}
use Rattle.update_log.proofs.Keeping.{stop_logset, whole_seen, cut_seen, stops_on_disk, keeps_read, keeps_cut}
use Rattle.update_log.proofs.opening.open_at.Goals as goal

pub returns-in_err-len-clause-any_moment : goal.returns-in_err-len-clause-any_moment
returns-in_err-len-clause-any_moment g c = keeps_read c.args.rule.now (g.D.Disk.state c.args.disk.now) (g.D.Disk.state c.len.new.self) c.requires c.len.ensures.same

pub returns-in_err-reader-clause-any_moment : goal.returns-in_err-reader-clause-any_moment
returns-in_err-reader-clause-any_moment g c = keeps_read c.args.rule.now (g.D.Disk.state c.args.disk.now) (g.D.Disk.state c.len.new.self) c.requires c.len.ensures.same

pub returns-in_err-graph-clause-any_moment : goal.returns-in_err-graph-clause-any_moment
returns-in_err-graph-clause-any_moment g c =
    keeps_read c.args.rule.now (g.D.Disk.state c.args.disk.now) (g.D.Disk.state c.scan.new.disk) c.requires (c.scan.ensures.same ∙ c.len.ensures.same)

pub returns-then-end-len-clause-list : goal.returns-then-end-len-clause-list
returns-then-end-len-clause-list g c tells =
    let old = g.D.Disk.state c.args.disk.now in
    let stops = stops_on_disk c.args.rule.now c.in_ok-reader.reader old (g.D.Disk.state c.len.new.self) c.in_ok-graph.graph c.in_ok-len.len c.in_ok-reader.ensures c.in_ok-len.ensures.same c.in_ok-graph.ensures.stops in
    stop_logset c.args.rule.now old.seen c.in_ok-graph.graph c.in_ok-graph.ensures.members (stops tells)

pub returns-then-end-len-clause-seen : goal.returns-then-end-len-clause-seen
returns-then-end-len-clause-seen g c tells =
    let old = g.D.Disk.state c.args.disk.now in
    let stops = stops_on_disk c.args.rule.now c.in_ok-reader.reader old (g.D.Disk.state c.len.new.self) c.in_ok-graph.graph c.in_ok-len.len c.in_ok-reader.ensures c.in_ok-len.ensures.same c.in_ok-graph.ensures.stops in
    ap (λ (s : DiskState). s.seen) (c.in_ok-graph.ensures.same ∙ c.in_ok-len.ensures.same)
    ∙ whole_seen c.args.rule.now old.seen c.in_ok-graph.graph c.end_of-end.result (stops tells) c.end_of-end.ensures (c.if-end-len.true ∙ c.in_ok-len.ensures.value tells)

pub returns-then-end-len-clause-any_moment : goal.returns-then-end-len-clause-any_moment
returns-then-end-len-clause-any_moment g c =
    keeps_read c.args.rule.now (g.D.Disk.state c.args.disk.now) (g.D.Disk.state c.scan.new.disk) c.requires (c.in_ok-graph.ensures.same ∙ c.in_ok-len.ensures.same)

pub returns-in_err-cut_synced-clause-any_moment : goal.returns-in_err-cut_synced-clause-any_moment
returns-in_err-cut_synced-clause-any_moment g c =
    let old = g.D.Disk.state c.args.disk.now in
    let stops = stops_on_disk c.args.rule.now c.in_ok-reader.reader old (g.D.Disk.state c.len.new.self) c.in_ok-graph.graph c.in_ok-len.len c.in_ok-reader.ensures c.in_ok-len.ensures.same c.in_ok-graph.ensures.stops in
    keeps_cut c.args.rule.now old (g.D.Disk.state c.scan.new.disk) (g.D.Disk.state c.cut_synced.new.disk) c.in_ok-graph.graph c.end_of-end.result c.requires
    (c.in_ok-graph.ensures.same ∙ c.in_ok-len.ensures.same) c.in_ok-graph.ensures.members c.end_of-end.ensures stops c.cut_synced.ensures.any_moment

pub returns-clause-list : goal.returns-clause-list
returns-clause-list g c tells =
    let old = g.D.Disk.state c.args.disk.now in
    let stops = stops_on_disk c.args.rule.now c.in_ok-reader.reader old (g.D.Disk.state c.len.new.self) c.in_ok-graph.graph c.in_ok-len.len c.in_ok-reader.ensures c.in_ok-len.ensures.same c.in_ok-graph.ensures.stops in
    stop_logset c.args.rule.now old.seen c.in_ok-graph.graph c.in_ok-graph.ensures.members (stops tells)

pub returns-clause-seen : goal.returns-clause-seen
returns-clause-seen g c tells =
    let old = g.D.Disk.state c.args.disk.now in
    let stops = stops_on_disk c.args.rule.now c.in_ok-reader.reader old (g.D.Disk.state c.len.new.self) c.in_ok-graph.graph c.in_ok-len.len c.in_ok-reader.ensures c.in_ok-len.ensures.same c.in_ok-graph.ensures.stops in
    let same = c.in_ok-graph.ensures.same ∙ c.in_ok-len.ensures.same in
    let told = Rattle.std.proofs.Common.subst (λ (s : DiskState). IsTrue s.tells) (sym same) tells in
    c.in_ok-cut_synced.ensures.cut told ∙ ap (λ (s : DiskState). take c.end_of-end.result s.seen) same
    ∙ cut_seen c.args.rule.now old.seen c.in_ok-graph.graph c.end_of-end.result (stops tells) c.end_of-end.ensures

pub returns-clause-any_moment : goal.returns-clause-any_moment
returns-clause-any_moment g c =
    let old = g.D.Disk.state c.args.disk.now in
    let stops = stops_on_disk c.args.rule.now c.in_ok-reader.reader old (g.D.Disk.state c.len.new.self) c.in_ok-graph.graph c.in_ok-len.len c.in_ok-reader.ensures c.in_ok-len.ensures.same c.in_ok-graph.ensures.stops in
    keeps_cut c.args.rule.now old (g.D.Disk.state c.scan.new.disk) (g.D.Disk.state c.cut_synced.new.disk) c.in_ok-graph.graph c.end_of-end.result c.requires
    (c.in_ok-graph.ensures.same ∙ c.in_ok-len.ensures.same) c.in_ok-graph.ensures.members c.end_of-end.ensures stops c.cut_synced.ensures.any_moment
