use Rattle.std.proofs.Common.{◌≡◌, ◌<◌, ◌≤◌, ◌++◌, ◌∷◌, [], ◌∙◌, ℕ, List, All, length, sym, ap, subst, arith, false}
use Rattle.std.proofs.lemmas.List.{get_or_read}
use Rattle.ancestry.specs.Chains.{chain_of}
use Rattle.ancestry.specs.Since.{is_behind}
use Rattle.ancestry.proofs.Passed.{top_tells, chain_read, since_none, since_passed, since_more}
use Rattle.ancestry.proofs.ancestry.Ancestry.since.Goals.{then-chain-lt-CHAINS, else-chain-lt-CHAINS, then-not-is_behind+in_ok-push, else-not-is_behind}
use Rattle.ancestry.proofs.ancestry.Ancestry.since.Goals as goal

pub loop-p-init : goal.loop-p-init
loop-p-init c = c.new-positions.ensures.items ∙ sym (since_none c.args.self.now c.args.old.now)

pub loop-p-preserved : goal.loop-p-preserved
loop-p-preserved c =
    let is = c.self.view_is in
    let old = c.args.old.now in
    let low : c.loop-p.p < length c.self.inside.members.items = rw is (omega (arith, c.loop-p-test.true, c.requires.held)) in
    let told : c.if-chain-lt-CHAINS.is_behind ≡ is_behind c.args.self.now old c.loop-p.p = elim c.if-chain-lt-CHAINS.branch [
      | then-chain-lt-CHAINS w ↦
          w.is_behind-is ∙ rw (← is) (top_tells c.self.inside.members.items c.self.inside.clocks.items old c.merged-top.result c.loop-p.p c.index-clock.result.now c.self.invariant.lower c.self.invariant.clocked
          (subst (λ (g : List (List ℕ)). All (λ q. q < length g) old) (sym is) c.requires.earlier)
          (rw c.as_slice.ensures.value at c.merged-top.ensures) low c.index-clock.ensures w.if-chain-lt-CHAINS.true)
      | else-chain-lt-CHAINS w ↦
          let chain = chain_read c.self.inside.members.items c.self.inside.clocks.items c.loop-p.p c.index-clock.result.now c.self.invariant.clocked low c.index-clock.ensures in
          let none : 64 ≤ chain_of c.args.self.now c.loop-p.p = rw (← is) (omega (arith, chain, w.if-chain-lt-CHAINS.false)) in
          let marked = c.in_ok-marks.ensures c.loop-p.p c.loop-p-test.true none in
          w.is_behind-is ∙ get_or_read c.in_ok-marks.marks.items c.loop-p.p w.index.result.now marked.0 w.index.ensures false ∙ marked.1
    ] in
    elim c.if-not-is_behind.branch [
      | then-not-is_behind+in_ok-push w ↦
          rw (w.positions-is) (w.in_ok-push.ensures.items ∙ ap (λ (ps : List ℕ). ps ++ c.loop-p.p ∷ []) c.loop-p.invariant
          ∙ sym (since_more c.args.self.now old c.loop-p.p (sym told ∙ w.if-not-is_behind.true)))
      | else-not-is_behind w ↦
          rw (w.positions-is) (c.loop-p.invariant ∙ sym (since_passed c.args.self.now old c.loop-p.p (sym told ∙ w.if-not-is_behind.false)))
    ]
