use Rattle.std.proofs.Common.{◌≡◌, ◌<◌, ◌∙◌, sym, refl, subst, arith, length, inl, inr, false, slice_index_or}
use Rattle.std.proofs.lemmas.Bool.{cases_eq}
use Rattle.ancestry.specs.Chains.{chains}
use Rattle.ancestry.proofs.Chained.{long}
use Rattle.ancestry.proofs.Merging.{is_free, free_none, free_not, joined_none, joined_better, joined_as_before, joins_there, joins_new}
use Rattle.ancestry.proofs.clock.join.Goals.{then-p-least+then-ends, else-p-least, else-p-least-via-then-p-least+else-ends, else-p-least-via-else-p-least}
use Rattle.ancestry.proofs.clock.join.Goals as goal

pub loop-position-init : goal.loop-position-init
loop-position-init c = sym (long c.args.members.now (length c.args.members.now)) ∙ joined_none (chains c.args.members.now (length c.args.members.now)) c.args.preds.now

pub loop-position-preserved : goal.loop-position-preserved
loop-position-preserved c =
    let before = chains c.args.members.now (length c.args.members.now) in
    let i = c.loop-position.position-index in
    let low : i < length c.args.preds.now = omega arith in
    elim c.if-p-least.branch [
      | then-p-least+then-ends w ↦
          w.least-is ∙ joined_better before c.args.preds.now i (slice_index_or c.args.preds.now i 0) c.loop-position.least low refl
          (let held = c.requires.earlier i 0 low in omega (arith, held, long c.args.members.now (length c.args.members.now)))
          c.loop-position.invariant w.if-p-least.true (sym w.ends.ensures ∙ w.if-ends.true)
      | else-p-least w ↦
          w.least-is ∙ joined_as_before before c.args.preds.now i (slice_index_or c.args.preds.now i 0) c.loop-position.least low refl c.loop-position.invariant
          (elim w.else-p-least.branch [
            | else-p-least-via-then-p-least+else-ends v ↦ inr (sym v.ends.ensures ∙ v.if-ends.false)
            | else-p-least-via-else-p-least v ↦ inl v.if-p-least.false
          ])
    ]

pub returns-then-least-members : goal.returns-then-least-members
returns-then-least-members c =
    (c.requires.clocked.are c.loop-position.least _ c.if-least-members.true).chain
    ∙ joins_there c.args.members.now c.args.preds.now c.loop-position.position-index c.loop-position.least (omega arith) c.loop-position.invariant c.if-least-members.true

pub returns-then-sizes-c-eq0 : goal.returns-then-sizes-c-eq0
returns-then-sizes-c-eq0 c =
    joins_new c.args.members.now c.args.preds.now c.loop-position.position-index c.loop-position.least c.loop-c.c (omega arith) c.loop-position.invariant (omega arith) (omega arith)
    (λ low. free_none c.args.members.now c.loop-c.c (sym (c.requires.sized.are c.loop-c.c low) ∙ c.if-sizes-c-eq0.true)) c.loop-c.invariant

pub loop-c-preserved : goal.loop-c-preserved
loop-c-preserved c = λ k low. elim (cases_eq k c.loop-c.c) [
  | inl same ↦ subst (λ j. is_free c.args.members.now j ≡ false) (sym same)
      (free_not c.args.members.now c.loop-c.c (let is = c.requires.sized.are c.loop-c.c (omega arith) in let some = c.if-sizes-c-eq0.false in omega (arith, is, some)))
  | inr apart ↦ c.loop-c.invariant k (omega arith)
]

pub returns : goal.returns
returns c =
    joins_new c.args.members.now c.args.preds.now c.loop-position.position-index c.loop-position.least 64 (omega arith) c.loop-position.invariant (omega arith) (omega arith)
    (λ low. absurd (omega arith)) (λ k low. c.loop-c.invariant k (omega arith))
