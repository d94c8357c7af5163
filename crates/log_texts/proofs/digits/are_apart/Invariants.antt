use Rattle.std.proofs.Common.{◌≡◌, ℕ, true, drop, Vec}
use Rattle.std.specs.declared.alloc.Global.{Global}
use Rattle.std.specs.BTreeMap.{get}
use Rattle.std.specs.List.{list_any}
use Rattle.std.specs.Option.{is_some}
use Rattle.log_texts.specs.Digits.{are_apart, starts_as}
use Rattle.log_texts.proofs.Marks.{text_cmp}
use Rattle.log_texts.proofs.digits.are_apart.Given as goal

-- the ids from here on are apart, and their starts are known
abbrev pub invariant-loop-position : goal.invariant-loop-position
invariant-loop-position l =
    (are_apart l.digits (drop l.position l.ids) ≡ true)
    × ((text : Vec ℕ Global) → is_some (get text_cmp l.known text) ≡ list_any (starts_as l.digits text.items) (drop l.position l.ids))
