use Rattle.std.proofs.Common.{◌≡◌, ◌+◌, ◌++◌, ◌∷◌, [], length, ap, sym, ◌∙◌, rules}
use Rattle.shared_replica.specs.Entries.{updates_of}
use Rattle.shared_replica.proofs.Pieces.{full_now, open_more}
use Rattle.shared_replica.proofs.stored.Stored.fetch_some.Goals as goal

pub returns-then-is_full-clause-piece : goal.returns-then-is_full-clause-piece
returns-then-is_full-clause-piece g c =
    let pushed : c.push.new.self.items ≡ c.positions.piece.items ++ c.in_ok-update.update ∷ [] = search rules in
    let counted : c.len-in-positions.result ≡ length c.push.new.self.items = search rules in
    full_now (updates_of c.args.self.now.entries) c.args.positions.now c.positions.position-index c.positions.size c.positions.piece.items c.push.new.self.items c.in_ok-update.update c.len-in-positions.result _
    c.positions.invariant c.positions-test.true c.in_ok-update.ensures.bytes c.in_ok-update.ensures.short pushed counted (ap (λ b. c.positions.size + length b) c.as_slice.ensures)
    (sym c.is_full.ensures ∙ c.if-is_full.true)

pub positions-preserved : goal.positions-preserved
positions-preserved g c =
    let pushed : c.push.new.self.items ≡ c.positions.piece.items ++ c.in_ok-update.update ∷ [] = search rules in
    let counted : c.len-in-positions.result ≡ length c.push.new.self.items = search rules in
    open_more (updates_of c.args.self.now.entries) c.args.positions.now c.positions.position-index c.positions.size c.positions.piece.items c.push.new.self.items c.in_ok-update.update c.len-in-positions.result _
    c.positions.invariant c.positions-test.true c.in_ok-update.ensures.bytes c.in_ok-update.ensures.short pushed counted (ap (λ b. c.positions.size + length b) c.as_slice.ensures)
    (sym c.is_full.ensures ∙ c.if-is_full.false)
