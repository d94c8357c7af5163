use Rattle.std.proofs.Common.{◌≡◌, ℕ, true, take}
use Rattle.std.specs.Prelude.{◌==◌}
use Rattle.std.specs.List.{list_any}
use Rattle.ancestry.specs.Named.{is_noted}
use Rattle.ancestry.proofs.namers.note.Given as goal

abbrev pub invariant-loop-pred : goal.invariant-loop-pred
invariant-loop-pred l = record {
  kept : (p q : ℕ) → is_noted l.initial.namers p q ≡ true → is_noted l.namers p q ≡ true;
  noted : (p : ℕ) → list_any (λ k. k == p) (take l.pred-index l.preds) ≡ true → is_noted l.namers p l.position ≡ true;
}
