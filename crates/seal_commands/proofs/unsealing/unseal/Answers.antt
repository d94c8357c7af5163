use Rattle.std.proofs.Common.{inl, refl, sym, subst, ◌∙◌, List, ℕ}
use Rattle.std.proofs.lemmas.Bool.{true≢false}
use Rattle.hss_chain.specs.Sealing.{SealedBy}
use Rattle.seal_commands.specs.Unsealing.{bad, good}
use Rattle.seal_commands.proofs.unsealing.unseal.Goals as goal

pub returns-then-not-verify_hss-clause-refused : goal.returns-then-not-verify_hss-clause-refused
returns-then-not-verify_hss-clause-refused g c =
    let whole = c.in_ok-msg.ensures.whole in
    inl (bad c.in_ok-msg.msg.items whole.0 whole.1 (λ sealed.
    let as_asked = subst (λ (m : List ℕ). SealedBy c.args.key.now m c.args.sig.now) (sym c.deref.ensures.value) sealed in
    true≢false (sym (c.verify_hss.ensures.1 as_asked) ∙ c.if-not-verify_hss.true)) refl)

pub returns-clause-done : goal.returns-clause-done
returns-clause-done g c =
    let whole = c.in_ok-msg.ensures.whole in
    let sealed = subst (λ (m : List ℕ). SealedBy c.args.key.now m c.args.sig.now) c.deref.ensures.value (c.verify_hss.ensures.0 c.if-not-verify_hss.false) in
    good c.in_ok-msg.msg.items whole.0 whole.1 sealed c.in_ok-good.ensures.items
