use Rattle.std.proofs.Common.{map, not, ◌∙◌, rules, tests}
use Rattle.std.proofs.lemmas.Iterator.{YieldsList-from_slice}
use Rattle.std.proofs.lemmas.Iterator.Search.{find_from_yields_List}
use Rattle.update_model.specs.declared.update_id.UpdateId.{UpdateId}
use Rattle.update_model.specs.Graph.{holds}
use Rattle.update_codec.specs.Parts.{entry_of}
use Rattle.watch_command.proofs.records.first_lacking.Goals as goal

pub returns : goal.returns
returns g c =
    c.copied.ensures
    ∙ find_from_yields_List (λ (id : UpdateId). not (holds (map entry_of c.args.replica.now.history.members) id)) _ _ c.find.result c.find.ensures.ran
    (YieldsList-from_slice c.args.ids.now cc) (λ x b q k. search (rules, tests))
