use Rattle.sync_session.proofs.Standing.{stands_end}
use Rattle.session_rules.specs.declared.end.End.TheVariants.{Peer}
use Rattle.sync_session.proofs.Sending.{closing_sends}
use Rattle.sync_session.proofs.session.Session.take_bad_item.Goals as goal

pub returns-then-takes_item-clause-stands : goal.returns-then-takes_item-clause-stands
returns-then-takes_item-clause-stands c = stands_end _ c.args.self.now c.end.new.self c.end.ensures.state

pub returns-else-takes_item-clause-stands : goal.returns-else-takes_item-clause-stands
returns-else-takes_item-clause-stands c = stands_end _ c.args.self.now c.end-else-takes_item.new.self c.end-else-takes_item.ensures.state

pub returns-then-takes_item-clause-nothing : goal.returns-then-takes_item-clause-nothing
returns-then-takes_item-clause-nothing c = closing_sends (Peer _) c.end.result c.end.ensures.out

pub returns-else-takes_item-clause-nothing : goal.returns-else-takes_item-clause-nothing
returns-else-takes_item-clause-nothing c = closing_sends (Peer _) c.end-else-takes_item.result c.end-else-takes_item.ensures.out
