use Rattle.std.proofs.Common.{◌≡◌, ◌<◌, ◌||◌, All, take}
use Rattle.std.specs.List.{list_any}
use Rattle.ancestry.specs.Walks.{is_ancestor}
use Rattle.ancestry.proofs.Naming.{goes_up}
use Rattle.ancestry.proofs.ancestry.Ancestry.look.Given as goal

-- What is pending leads to the member at `b` exactly where what was pending does, or one of those that were looked at.
abbrev pub invariant-loop-namer : goal.invariant-loop-namer
invariant-loop-namer l = record {
  goes_on : list_any (λ k. is_ancestor l.self k l.b) l.pending.keys ≡ (list_any (λ k. is_ancestor l.self k l.b) l.initial.pending.keys || list_any (goes_up l.self l.p l.b) (take l.namer-index l.namer-items));
  lower : All (λ k. k < l.b) l.initial.pending.keys → All (λ k. k < l.b) l.pending.keys;
}
