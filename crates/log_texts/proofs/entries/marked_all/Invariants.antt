use Rattle.std.proofs.Common.{◌≡◌, ◌++◌, map}
use Rattle.std.specs.BTreeMap.{get}
use Rattle.std.specs.Option.{is_some, option_copied}
use Rattle.std.specs.Vec.Iter.{into_iter_items}
use Rattle.update_model.specs.Entry.{id_cmp}
use Rattle.log_texts.specs.Entries.{entry_by}
use Rattle.log_texts.proofs.entries.marked_all.Given as goal

-- the entries of the updates so far
abbrev pub invariant-loop-next : goal.invariant-loop-next
invariant-loop-next l =
    (l.entries.items ≡ map (entry_by (λ id. is_some (get id_cmp l.marks.heads id)) (get id_cmp l.marks.reasons) (λ id. option_copied (get id_cmp l.marks.notes id))) l.yielded)
    × (l.fn.placed.items ≡ l.yielded ++ into_iter_items l.next-iterator)
