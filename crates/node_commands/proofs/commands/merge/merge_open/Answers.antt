use Rattle.std.proofs.Common.{IsTrue, List, ℕ, true, false, ap, Ok, Err, inl, inr, refl, sym, subst, ◌∙◌, arith}
use Rattle.std.proofs.lemmas.Bool.{true≢false}
use Rattle.std.proofs.lemmas.Result.{err_from_is_err_and}
use Rattle.session_rules.specs.declared.end.End.TheVariants.{Done, Store}
use Rattle.outcomes.specs.Outcome.{from_disk}
use Rattle.store_directory.specs.Remembering.{RemembersIn, memory_in}
use Rattle.node_commands.specs.Merging.{done, full, peer}
use Rattle.node_commands.proofs.Merging.{if_fault}
use Rattle.node_commands.proofs.Meeting.{stopped_in, KeepsBoth, ReadsBoth, Shelved, both_kept, both_read, is_done_end, is_store_end, meets, merges_open, met_by, open_stopped, peers_fault, shelved_first, shelved_none, shelved_second, told_apart}
use Rattle.node_commands.proofs.commands.merge.merge_open.Goals as goal

pub returns-in_err-peers : goal.returns-in_err-peers
returns-in_err-peers g c =
    let p = err_from_is_err_and c.from_residual.result c.from_residual.ensures.1 in
    let before = g.H.Shelf.state c.args.shelf.now in
    let after = g.H.Shelf.state c.peers_of.new.shelf in
    let old = g.H.Counted.faults c.args.shelf.now in
    let new = g.H.Counted.faults c.peers_of.new.shelf in
    let e = c.in_err-peers.ensures in
    let shelf : Shelved c.args.first.now c.args.second.now before after old new = shelved_first c.args.first.now c.args.second.now before old before after old new (shelved_none c.args.first.now c.args.second.now before old) e.later e.keeps in
    rw (p.1, p.2) (open_stopped c.args.first.now c.args.second.now before after old new c.args.one.now c.args.other.now (from_disk c.in_err-peers.field-0.0) c.each_stands.ensures c.each_stands-2.ensures shelf
    (peers_fault old old new c.args.one.now c.args.other.now c.args.one.now c.args.other.now c.in_err-peers.field-0.0 (omega arith) (λ is. e.failed (ap Err is))))

pub returns-in_err-peers_other : goal.returns-in_err-peers_other
returns-in_err-peers_other g c =
    let p = err_from_is_err_and c.from_residual-in_err-peers_other.result c.from_residual-in_err-peers_other.ensures.1 in
    let before = g.H.Shelf.state c.args.shelf.now in
    let after = g.H.Shelf.state c.peers_of-2.new.shelf in
    let old = g.H.Counted.faults c.args.shelf.now in
    let new = g.H.Counted.faults c.peers_of-2.new.shelf in
    let mid = g.H.Shelf.state c.peers_of.new.shelf in
    let between = g.H.Counted.faults c.peers_of.new.shelf in
    let r = c.in_ok-peers.ensures in
    let e = c.in_err-peers_other.ensures in
    let first : Shelved c.args.first.now c.args.second.now before mid old between = shelved_first c.args.first.now c.args.second.now before old before mid old between (shelved_none c.args.first.now c.args.second.now before old) r.later r.keeps in
    let shelf : Shelved c.args.first.now c.args.second.now before after old new = shelved_second c.args.first.now c.args.second.now before old mid after between new first e.later e.keeps in
    rw (p.1, p.2) (open_stopped c.args.first.now c.args.second.now before after old new c.args.one.now c.args.other.now (from_disk c.in_err-peers_other.field-0.0) c.each_stands.ensures c.each_stands-2.ensures shelf
    (peers_fault old between new c.args.one.now c.args.other.now c.args.one.now c.args.other.now c.in_err-peers_other.field-0.0 r.later (λ is. e.failed (ap Err is))))

pub returns-in_err-start : goal.returns-in_err-start
returns-in_err-start g c =
    let p = err_from_is_err_and c.from_residual-in_err-start.result c.from_residual-in_err-start.ensures.1 in
    let before = g.H.Shelf.state c.args.shelf.now in
    let after = g.H.Shelf.state c.peers_of-2.new.shelf in
    let old = g.H.Counted.faults c.args.shelf.now in
    let new = g.H.Counted.faults c.peers_of-2.new.shelf in
    let mid = g.H.Shelf.state c.peers_of.new.shelf in
    let between = g.H.Counted.faults c.peers_of.new.shelf in
    let then = g.H.Shelf.state c.peers_of-2.new.shelf in
    let counted = g.H.Counted.faults c.peers_of-2.new.shelf in
    let r = c.in_ok-peers.ensures in
    let s = c.in_ok-peers_other.ensures in
    let read : ReadsBoth c.args.first.now c.args.second.now before then old counted c.in_ok-peers.peers c.in_ok-peers_other.peers_other =
    both_read c.args.first.now c.args.second.now c.requires.differ before mid then old between counted c.in_ok-peers.peers c.in_ok-peers_other.peers_other r.keeps s.keeps r.later s.later r.reads s.reads r.untouched s.untouched in
    rw (p.1, p.2) (open_stopped c.args.first.now c.args.second.now before after old new c.args.one.now c.args.other.now _ c.each_stands.ensures c.each_stands-2.ensures read.shelf (inl refl))

pub returns-in_err-ended : goal.returns-in_err-ended
returns-in_err-ended g c =
    let p = err_from_is_err_and c.from_residual-in_err-ended.result c.from_residual-in_err-ended.ensures.1 in
    let before = g.H.Shelf.state c.args.shelf.now in
    let after = g.H.Shelf.state c.peers_of-2.new.shelf in
    let old = g.H.Counted.faults c.args.shelf.now in
    let new = g.H.Counted.faults c.peers_of-2.new.shelf in
    let mid = g.H.Shelf.state c.peers_of.new.shelf in
    let between = g.H.Counted.faults c.peers_of.new.shelf in
    let then = g.H.Shelf.state c.peers_of-2.new.shelf in
    let counted = g.H.Counted.faults c.peers_of-2.new.shelf in
    let r = c.in_ok-peers.ensures in
    let s = c.in_ok-peers_other.ensures in
    let read : ReadsBoth c.args.first.now c.args.second.now before then old counted c.in_ok-peers.peers c.in_ok-peers_other.peers_other =
    both_read c.args.first.now c.args.second.now c.requires.differ before mid then old between counted c.in_ok-peers.peers c.in_ok-peers_other.peers_other r.keeps s.keeps r.later s.later r.reads s.reads r.untouched s.untouched in
    let e = c.in_err-ended.ensures in
    let one = c.args.one.now in
    let other = c.args.other.now in
    let one_new = c.sync_pair-ended.new.a in
    let other_new = c.sync_pair-ended.new.b in
    let met = met_by one other one_new other_new false c.each_stands.ensures c.each_stands-2.ensures c.each_stands-3.ensures c.each_stands-4.ensures e.keeps_a e.keeps_b e.moves_a.grows e.moves_b.grows e.moves_a.later e.moves_b.later
    (λ is_done. absurd (true≢false (sym is_done))) in
    rw (p.1, p.2) (merges_open c.args.first.now c.args.second.now before after old new one other one_new other_new (Err _) read.shelf met (inr (inl refl)) (λ tells. tt))

pub returns-in_err-keep_peers-in-Done : goal.returns-in_err-keep_peers-in-Done
returns-in_err-keep_peers-in-Done g c =
    let p = err_from_is_err_and c.from_residual-in_err-keep_peers-in-Done.result c.from_residual-in_err-keep_peers-in-Done.ensures.1 in
    let before = g.H.Shelf.state c.args.shelf.now in
    let after = g.H.Shelf.state c.keep_peers.new.shelf in
    let old = g.H.Counted.faults c.args.shelf.now in
    let new = g.H.Counted.faults c.keep_peers.new.shelf in
    let mid = g.H.Shelf.state c.peers_of.new.shelf in
    let between = g.H.Counted.faults c.peers_of.new.shelf in
    let then = g.H.Shelf.state c.peers_of-2.new.shelf in
    let counted = g.H.Counted.faults c.peers_of-2.new.shelf in
    let r = c.in_ok-peers.ensures in
    let s = c.in_ok-peers_other.ensures in
    let read : ReadsBoth c.args.first.now c.args.second.now before then old counted c.in_ok-peers.peers c.in_ok-peers_other.peers_other =
    both_read c.args.first.now c.args.second.now c.requires.differ before mid then old between counted c.in_ok-peers.peers c.in_ok-peers_other.peers_other r.keeps s.keeps r.later s.later r.reads s.reads r.untouched s.untouched in
    let e = c.in_ok-ended.ensures in
    let one = c.args.one.now in
    let other = c.args.other.now in
    let one_new = c.sync_pair-ended.new.a in
    let other_new = c.sync_pair-ended.new.b in
    let met = met_by one other one_new other_new false c.each_stands.ensures c.each_stands-2.ensures c.each_stands-3.ensures c.each_stands-4.ensures e.keeps_a e.keeps_b e.moves_a.grows e.moves_b.grows e.moves_a.later e.moves_b.later
    (λ is_done. absurd (true≢false (sym is_done))) in
    let k = c.in_err-keep_peers-in-Done.ensures in
    let shelf : Shelved c.args.first.now c.args.second.now before after old new = shelved_first c.args.first.now c.args.second.now before old then after counted new read.shelf k.later k.keeps in
    rw (p.1, p.2) (merges_open c.args.first.now c.args.second.now before after old new one other one_new other_new (Err (from_disk c.in_err-keep_peers-in-Done.field-0.0)) shelf met
    (inr (peers_fault old counted new one other one_new other_new c.in_err-keep_peers-in-Done.field-0.0 read.shelf.later (λ is. k.failed (ap Err is))))
    (λ tells. if_fault (Err (from_disk c.in_err-keep_peers-in-Done.field-0.0)) (stopped_in one other one_new other_new c.in_ok-start.start c.in_ok-ended.ended c.in_ok-peers.peers c.in_ok-peers_other.peers_other c.in_ok-start.ensures.is e.moves_a.grows e.moves_b.grows e.syncs
    (memory_in before c.args.first.now) (memory_in before c.args.second.now) (read.reads tells) (read.reads_other tells) (inr c.in-Done.is))))

pub returns-in_err-keep_peers-in-Done-2 : goal.returns-in_err-keep_peers-in-Done-2
returns-in_err-keep_peers-in-Done-2 g c =
    let p = err_from_is_err_and c.from_residual-in_err-keep_peers-in-Done-2.result c.from_residual-in_err-keep_peers-in-Done-2.ensures.1 in
    let before = g.H.Shelf.state c.args.shelf.now in
    let after = g.H.Shelf.state c.keep_peers-in-Done.new.shelf in
    let old = g.H.Counted.faults c.args.shelf.now in
    let new = g.H.Counted.faults c.keep_peers-in-Done.new.shelf in
    let mid = g.H.Shelf.state c.peers_of.new.shelf in
    let between = g.H.Counted.faults c.peers_of.new.shelf in
    let then = g.H.Shelf.state c.peers_of-2.new.shelf in
    let counted = g.H.Counted.faults c.peers_of-2.new.shelf in
    let r = c.in_ok-peers.ensures in
    let s = c.in_ok-peers_other.ensures in
    let read : ReadsBoth c.args.first.now c.args.second.now before then old counted c.in_ok-peers.peers c.in_ok-peers_other.peers_other =
    both_read c.args.first.now c.args.second.now c.requires.differ before mid then old between counted c.in_ok-peers.peers c.in_ok-peers_other.peers_other r.keeps s.keeps r.later s.later r.reads s.reads r.untouched s.untouched in
    let e = c.in_ok-ended.ensures in
    let one = c.args.one.now in
    let other = c.args.other.now in
    let one_new = c.sync_pair-ended.new.a in
    let other_new = c.sync_pair-ended.new.b in
    let met = met_by one other one_new other_new false c.each_stands.ensures c.each_stands-2.ensures c.each_stands-3.ensures c.each_stands-4.ensures e.keeps_a e.keeps_b e.moves_a.grows e.moves_b.grows e.moves_a.later e.moves_b.later
    (λ is_done. absurd (true≢false (sym is_done))) in
    let wrote = g.H.Shelf.state c.keep_peers.new.shelf in
    let writing = g.H.Counted.faults c.keep_peers.new.shelf in
    let k = c.in_ok-keep_peers-in-Done.ensures in
    let shelf_one : Shelved c.args.first.now c.args.second.now before wrote old writing = shelved_first c.args.first.now c.args.second.now before old then wrote counted writing read.shelf k.later k.keeps in
    let l = c.in_err-keep_peers-in-Done-2.ensures in
    let shelf : Shelved c.args.first.now c.args.second.now before after old new = shelved_second c.args.first.now c.args.second.now before old wrote after writing new shelf_one l.later l.keeps in
    rw (p.1, p.2) (merges_open c.args.first.now c.args.second.now before after old new one other one_new other_new (Err (from_disk c.in_err-keep_peers-in-Done-2.field-0.0)) shelf met
    (inr (peers_fault old writing new one other one_new other_new c.in_err-keep_peers-in-Done-2.field-0.0 shelf_one.later (λ is. l.failed (ap Err is))))
    (λ tells. if_fault (Err (from_disk c.in_err-keep_peers-in-Done-2.field-0.0)) (stopped_in one other one_new other_new c.in_ok-start.start c.in_ok-ended.ended c.in_ok-peers.peers c.in_ok-peers_other.peers_other c.in_ok-start.ensures.is e.moves_a.grows e.moves_b.grows e.syncs
    (memory_in before c.args.first.now) (memory_in before c.args.second.now) (read.reads tells) (read.reads_other tells) (inr c.in-Done.is))))

pub returns-in_err-merged_lines-in-Done : goal.returns-in_err-merged_lines-in-Done
returns-in_err-merged_lines-in-Done g c =
    let p = err_from_is_err_and c.from_residual-in_err-merged_lines-in-Done.result c.from_residual-in_err-merged_lines-in-Done.ensures.1 in
    let before = g.H.Shelf.state c.args.shelf.now in
    let after = g.H.Shelf.state c.keep_peers-in-Done.new.shelf in
    let old = g.H.Counted.faults c.args.shelf.now in
    let new = g.H.Counted.faults c.keep_peers-in-Done.new.shelf in
    let mid = g.H.Shelf.state c.peers_of.new.shelf in
    let between = g.H.Counted.faults c.peers_of.new.shelf in
    let then = g.H.Shelf.state c.peers_of-2.new.shelf in
    let counted = g.H.Counted.faults c.peers_of-2.new.shelf in
    let r = c.in_ok-peers.ensures in
    let s = c.in_ok-peers_other.ensures in
    let read : ReadsBoth c.args.first.now c.args.second.now before then old counted c.in_ok-peers.peers c.in_ok-peers_other.peers_other =
    both_read c.args.first.now c.args.second.now c.requires.differ before mid then old between counted c.in_ok-peers.peers c.in_ok-peers_other.peers_other r.keeps s.keeps r.later s.later r.reads s.reads r.untouched s.untouched in
    let e = c.in_ok-ended.ensures in
    let one = c.args.one.now in
    let other = c.args.other.now in
    let one_new = c.sync_pair-ended.new.a in
    let other_new = c.sync_pair-ended.new.b in
    let met = met_by one other one_new other_new false c.each_stands.ensures c.each_stands-2.ensures c.each_stands-3.ensures c.each_stands-4.ensures e.keeps_a e.keeps_b e.moves_a.grows e.moves_b.grows e.moves_a.later e.moves_b.later
    (λ is_done. absurd (true≢false (sym is_done))) in
    let wrote = g.H.Shelf.state c.keep_peers.new.shelf in
    let writing = g.H.Counted.faults c.keep_peers.new.shelf in
    let k = c.in_ok-keep_peers-in-Done.ensures in
    let shelf_one : Shelved c.args.first.now c.args.second.now before wrote old writing = shelved_first c.args.first.now c.args.second.now before old then wrote counted writing read.shelf k.later k.keeps in
    let l = c.in_ok-keep_peers-in-Done-2.ensures in
    let shelf : Shelved c.args.first.now c.args.second.now before after old new = shelved_second c.args.first.now c.args.second.now before old wrote after writing new shelf_one l.later l.keeps in
    rw (p.1, p.2) (merges_open c.args.first.now c.args.second.now before after old new one other one_new other_new (Err _) shelf met (inr (inl refl)) (λ tells. tt))

pub returns-in_ok-merged_lines-in-Done : goal.returns-in_ok-merged_lines-in-Done
returns-in_ok-merged_lines-in-Done g c =
    let before = g.H.Shelf.state c.args.shelf.now in
    let after = g.H.Shelf.state c.keep_peers-in-Done.new.shelf in
    let old = g.H.Counted.faults c.args.shelf.now in
    let new = g.H.Counted.faults c.keep_peers-in-Done.new.shelf in
    let mid = g.H.Shelf.state c.peers_of.new.shelf in
    let between = g.H.Counted.faults c.peers_of.new.shelf in
    let then = g.H.Shelf.state c.peers_of-2.new.shelf in
    let counted = g.H.Counted.faults c.peers_of-2.new.shelf in
    let r = c.in_ok-peers.ensures in
    let s = c.in_ok-peers_other.ensures in
    let read : ReadsBoth c.args.first.now c.args.second.now before then old counted c.in_ok-peers.peers c.in_ok-peers_other.peers_other =
    both_read c.args.first.now c.args.second.now c.requires.differ before mid then old between counted c.in_ok-peers.peers c.in_ok-peers_other.peers_other r.keeps s.keeps r.later s.later r.reads s.reads r.untouched s.untouched in
    let e = c.in_ok-ended.ensures in
    let one = c.args.one.now in
    let other = c.args.other.now in
    let one_new = c.sync_pair-ended.new.a in
    let other_new = c.sync_pair-ended.new.b in
    let met = met_by one other one_new other_new true c.each_stands.ensures c.each_stands-2.ensures c.each_stands-3.ensures c.each_stands-4.ensures e.keeps_a e.keeps_b e.moves_a.grows e.moves_b.grows e.moves_a.later e.moves_b.later
    (λ is_done was was_other. e.whole was was_other c.in-Done.is) in
    let wrote = g.H.Shelf.state c.keep_peers.new.shelf in
    let writing = g.H.Counted.faults c.keep_peers.new.shelf in
    let k = c.in_ok-keep_peers-in-Done.ensures in
    let shelf_one : Shelved c.args.first.now c.args.second.now before wrote old writing = shelved_first c.args.first.now c.args.second.now before old then wrote counted writing read.shelf k.later k.keeps in
    let l = c.in_ok-keep_peers-in-Done-2.ensures in
    let shelf : Shelved c.args.first.now c.args.second.now before after old new = shelved_second c.args.first.now c.args.second.now before old wrote after writing new shelf_one l.later l.keeps in
    let node_is = c.node.ensures ∙ e.keeps_b.store.node in
    let node_other_is = c.node-in-Done.ensures ∙ e.keeps_a.store.node in
    let kept : KeepsBoth c.args.first.now c.args.second.now then after c.in_ok-peers.peers c.in_ok-peers_other.peers_other one.node other.node c.in_ok-ended.ended =
    both_kept c.args.first.now c.args.second.now c.requires.differ then wrote after c.in_ok-peers.peers c.in_ok-peers_other.peers_other one.node other.node c.in_ok-ended.ended k.keeps l.keeps
    (λ tells. subst (λ (node : List ℕ). RemembersIn c.in_ok-peers.peers node c.in_ok-ended.ended.remembered_a (memory_in wrote c.args.first.now)) node_is (k.remembers tells))
    (λ tells. subst (λ (node : List ℕ). RemembersIn c.in_ok-peers_other.peers_other node c.in_ok-ended.ended.remembered_b (memory_in after c.args.second.now)) node_other_is (l.remembers tells)) in
    merges_open c.args.first.now c.args.second.now before after old new one other one_new other_new (Ok c.in_ok-merged_lines-in-Done.field-0) shelf met
    (inl (
      (λ tells. meets one other one_new other_new c.in_ok-start.start c.in_ok-ended.ended c.in_ok-peers.peers c.in_ok-peers_other.peers_other c.in_ok-start.ensures.is e.moves_a.grows e.moves_b.grows e.syncs e.unites e.room
          (λ is. told_apart is_store_end c.in_ok-ended.ended.a _ Store refl refl c.in-Done.is is)
          (memory_in before c.args.first.now) (memory_in before c.args.second.now) (memory_in after c.args.first.now) (memory_in after c.args.second.now) (Ok c.in_ok-merged_lines-in-Done.field-0) (read.reads tells) (read.reads_other tells)
          (done c.in-Done.is c.in_ok-merged_lines-in-Done.ensures) (λ is. kept.remembers (subst IsTrue (sym read.shelf.tells) tells)) (λ is. kept.remembers_other (subst IsTrue (sym read.shelf.tells) tells))),
      tt,
      λ is. absurd is,
    )) (λ tells. tt)

pub returns-in-Peer : goal.returns-in-Peer
returns-in-Peer g c =
    let before = g.H.Shelf.state c.args.shelf.now in
    let after = g.H.Shelf.state c.peers_of-2.new.shelf in
    let old = g.H.Counted.faults c.args.shelf.now in
    let new = g.H.Counted.faults c.peers_of-2.new.shelf in
    let mid = g.H.Shelf.state c.peers_of.new.shelf in
    let between = g.H.Counted.faults c.peers_of.new.shelf in
    let then = g.H.Shelf.state c.peers_of-2.new.shelf in
    let counted = g.H.Counted.faults c.peers_of-2.new.shelf in
    let r = c.in_ok-peers.ensures in
    let s = c.in_ok-peers_other.ensures in
    let read : ReadsBoth c.args.first.now c.args.second.now before then old counted c.in_ok-peers.peers c.in_ok-peers_other.peers_other =
    both_read c.args.first.now c.args.second.now c.requires.differ before mid then old between counted c.in_ok-peers.peers c.in_ok-peers_other.peers_other r.keeps s.keeps r.later s.later r.reads s.reads r.untouched s.untouched in
    let e = c.in_ok-ended.ensures in
    let one = c.args.one.now in
    let other = c.args.other.now in
    let one_new = c.sync_pair-ended.new.a in
    let other_new = c.sync_pair-ended.new.b in
    let met = met_by one other one_new other_new false c.each_stands.ensures c.each_stands-2.ensures c.each_stands-3.ensures c.each_stands-4.ensures e.keeps_a e.keeps_b e.moves_a.grows e.moves_b.grows e.moves_a.later e.moves_b.later
    (λ is_done. absurd (true≢false (sym is_done))) in
    merges_open c.args.first.now c.args.second.now before after old new one other one_new other_new (Err _) read.shelf met
    (inl (
      (λ tells. meets one other one_new other_new c.in_ok-start.start c.in_ok-ended.ended c.in_ok-peers.peers c.in_ok-peers_other.peers_other c.in_ok-start.ensures.is e.moves_a.grows e.moves_b.grows e.syncs e.unites e.room
          (λ is. told_apart is_store_end c.in_ok-ended.ended.a _ Store refl refl c.in-Peer.is is)
          (memory_in before c.args.first.now) (memory_in before c.args.second.now) (memory_in after c.args.first.now) (memory_in after c.args.second.now) (Err _) (read.reads tells) (read.reads_other tells)
          (peer c.in-Peer.fault c.in-Peer.is refl) (λ is. absurd (told_apart is_done_end c.in_ok-ended.ended.a _ Done refl refl c.in-Peer.is is)) (λ is. absurd (told_apart is_done_end c.in_ok-ended.ended.a _ Done refl refl c.in-Peer.is is))),
      tt,
      λ is. read.untouched,
    )) (λ tells. tt)

pub returns-in-Full : goal.returns-in-Full
returns-in-Full g c =
    let before = g.H.Shelf.state c.args.shelf.now in
    let after = g.H.Shelf.state c.peers_of-2.new.shelf in
    let old = g.H.Counted.faults c.args.shelf.now in
    let new = g.H.Counted.faults c.peers_of-2.new.shelf in
    let mid = g.H.Shelf.state c.peers_of.new.shelf in
    let between = g.H.Counted.faults c.peers_of.new.shelf in
    let then = g.H.Shelf.state c.peers_of-2.new.shelf in
    let counted = g.H.Counted.faults c.peers_of-2.new.shelf in
    let r = c.in_ok-peers.ensures in
    let s = c.in_ok-peers_other.ensures in
    let read : ReadsBoth c.args.first.now c.args.second.now before then old counted c.in_ok-peers.peers c.in_ok-peers_other.peers_other =
    both_read c.args.first.now c.args.second.now c.requires.differ before mid then old between counted c.in_ok-peers.peers c.in_ok-peers_other.peers_other r.keeps s.keeps r.later s.later r.reads s.reads r.untouched s.untouched in
    let e = c.in_ok-ended.ensures in
    let one = c.args.one.now in
    let other = c.args.other.now in
    let one_new = c.sync_pair-ended.new.a in
    let other_new = c.sync_pair-ended.new.b in
    let met = met_by one other one_new other_new false c.each_stands.ensures c.each_stands-2.ensures c.each_stands-3.ensures c.each_stands-4.ensures e.keeps_a e.keeps_b e.moves_a.grows e.moves_b.grows e.moves_a.later e.moves_b.later
    (λ is_done. absurd (true≢false (sym is_done))) in
    merges_open c.args.first.now c.args.second.now before after old new one other one_new other_new (Err _) read.shelf met
    (inl (
      (λ tells. meets one other one_new other_new c.in_ok-start.start c.in_ok-ended.ended c.in_ok-peers.peers c.in_ok-peers_other.peers_other c.in_ok-start.ensures.is e.moves_a.grows e.moves_b.grows e.syncs e.unites e.room
          (λ is. told_apart is_store_end c.in_ok-ended.ended.a _ Store refl refl c.in-Full.is is)
          (memory_in before c.args.first.now) (memory_in before c.args.second.now) (memory_in after c.args.first.now) (memory_in after c.args.second.now) (Err _) (read.reads tells) (read.reads_other tells)
          (full c.in-Full.is refl) (λ is. absurd (told_apart is_done_end c.in_ok-ended.ended.a _ Done refl refl c.in-Full.is is)) (λ is. absurd (told_apart is_done_end c.in_ok-ended.ended.a _ Done refl refl c.in-Full.is is))),
      tt,
      λ is. read.untouched,
    )) (λ tells. tt)

pub returns-in-Store : goal.returns-in-Store
returns-in-Store g c =
    let before = g.H.Shelf.state c.args.shelf.now in
    let after = g.H.Shelf.state c.peers_of-2.new.shelf in
    let old = g.H.Counted.faults c.args.shelf.now in
    let new = g.H.Counted.faults c.peers_of-2.new.shelf in
    let mid = g.H.Shelf.state c.peers_of.new.shelf in
    let between = g.H.Counted.faults c.peers_of.new.shelf in
    let then = g.H.Shelf.state c.peers_of-2.new.shelf in
    let counted = g.H.Counted.faults c.peers_of-2.new.shelf in
    let r = c.in_ok-peers.ensures in
    let s = c.in_ok-peers_other.ensures in
    let read : ReadsBoth c.args.first.now c.args.second.now before then old counted c.in_ok-peers.peers c.in_ok-peers_other.peers_other =
    both_read c.args.first.now c.args.second.now c.requires.differ before mid then old between counted c.in_ok-peers.peers c.in_ok-peers_other.peers_other r.keeps s.keeps r.later s.later r.reads s.reads r.untouched s.untouched in
    let e = c.in_ok-ended.ensures in
    let one = c.args.one.now in
    let other = c.args.other.now in
    let one_new = c.sync_pair-ended.new.a in
    let other_new = c.sync_pair-ended.new.b in
    let met = met_by one other one_new other_new false c.each_stands.ensures c.each_stands-2.ensures c.each_stands-3.ensures c.each_stands-4.ensures e.keeps_a e.keeps_b e.moves_a.grows e.moves_b.grows e.moves_a.later e.moves_b.later
    (λ is_done. absurd (true≢false (sym is_done))) in
    merges_open c.args.first.now c.args.second.now before after old new one other one_new other_new (Err _) read.shelf met (inr (inr (refl, inr (e.store c.in-Store.is))))
    (λ tells. stopped_in one other one_new other_new c.in_ok-start.start c.in_ok-ended.ended c.in_ok-peers.peers c.in_ok-peers_other.peers_other c.in_ok-start.ensures.is e.moves_a.grows e.moves_b.grows e.syncs
    (memory_in before c.args.first.now) (memory_in before c.args.second.now) (read.reads tells) (read.reads_other tells) (inl c.in-Store.is))
