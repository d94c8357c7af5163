use Rattle.std.proofs.Common.{◌∙◌, ◌||◌, sym, ap, map}
use Rattle.update_codec.specs.Parts.{entry_of}
use Rattle.update_model.specs.Graph.{holds}
use Rattle.sync_session.specs.Pending.{PendingData}
use Rattle.sync_session.proofs.Wanting.{has_key}
use Rattle.sync_session.proofs.pending.Pending.contains.Goals as goal

pub returns-clause-found : goal.returns-clause-found
returns-clause-found c =
    c.contains_key.ensures ∙ sym (has_key c.self.inside.ids c.args.id.now) ∙ c.self.invariant.indexed c.args.id.now
    ∙ ap (λ (p : PendingData). holds (map entry_of p.gathered) c.args.id.now || holds (map entry_of p.waiting) c.args.id.now) c.self.view_is
