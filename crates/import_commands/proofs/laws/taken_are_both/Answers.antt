use Rattle.std.proofs.Common.{◌++◌, List, map, subst, sym}
use Rattle.std.proofs.lemmas.List.{map-append}
use Rattle.update_codec.specs.Parts.{entry_of}
use Rattle.update_model.specs.Entry.{Entry}
use Rattle.update_model.specs.Graph.{HaveSameMembers}
use Rattle.import_commands.proofs.Batches.{same_members}
use Rattle.import_commands.proofs.laws.taken_are_both.Goals as goal

pub returns : goal.returns
returns c before updates added closed alike takes =
    subst (λ (l : List Entry). HaveSameMembers l (map entry_of (before ++ updates))) (sym (map-append entry_of before added))
    (subst (λ (l : List Entry). HaveSameMembers (map entry_of before ++ map entry_of added) l) (sym (map-append entry_of before updates))
    (same_members (map entry_of before) (map entry_of updates) (map entry_of added) closed alike takes))
