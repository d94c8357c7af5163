use Rattle.std.proofs.Common.{◌≡◌, ◌∙◌, ◌++◌, ◌∷◌, [], ℕ, List, inl, inr, sym, refl, ap, subst, IsTrue, Err}
use Rattle.std.proofs.lemmas.Result.{err_from_is_err_and}
use Rattle.hex.specs.Hex.{encode_lower}
use Rattle.lms_tree.specs.LmsKind.{leaf_count}
use Rattle.lms_tree.specs.SecretKey.{SecretData, public_key}
use Rattle.hss_chain.specs.Sealing.{SealedBy, public_bytes}
use Rattle.hss_directory.specs.Calls.{RefusesToSign, Signs}
use Rattle.hss_directory.specs.declared.fault.HssFault.{HssFault}
use Rattle.seal_commands.specs.Sealing.{SealsMessage, read_whole}
use Rattle.seal_commands.specs.declared.refusal.SealRefusal.{SealRefusal}
use Rattle.seal_commands.proofs.Home.{err_same, keeps_still, never_store, store_is_disk, unread_input}
use Rattle.seal_commands.proofs.sealing.seal_input.Goals as goal

pub returns-in_err-msg-clause-seals : goal.returns-in_err-msg-clause-seals
returns-in_err-msg-clause-seals g c =
    let p = err_from_is_err_and c.from_residual.result c.from_residual.ensures.1 in
    rw (p.1, p.2) (unread_input c.args.hss.now (g.H.Shelf.state c.args.shelf.now) (g.R.Rng.stream c.args.random.now) (g.S.Source.left c.args.input.now) (g.S.Source.left c.read_input.new.input)
    (g.S.Counted.faults c.args.input.now) (g.S.Counted.faults c.read_input.new.input) c.in_err-msg.field-0.0 c.in_err-msg.ensures.refused)

pub returns-in_err-msg-clause-keeps : goal.returns-in_err-msg-clause-keeps
returns-in_err-msg-clause-keeps g c = keeps_still (g.H.Shelf.state c.args.shelf.now) c.args.hss.now c.requires.sound c.requires.held

pub returns-in_err-msg-clause-failed : goal.returns-in_err-msg-clause-failed
returns-in_err-msg-clause-failed g c is =
    let p = err_from_is_err_and c.from_residual.result c.from_residual.ensures.1 in
    absurd (never_store (g.S.Source.left c.args.input.now) (g.S.Source.left c.read_input.new.input) (g.S.Counted.faults c.args.input.now) (g.S.Counted.faults c.read_input.new.input) c.in_err-msg.field-0.0 c.in_err-msg.ensures.refused
    (sym p.2 ∙ err_same _ _ (sym p.1 ∙ is)))

pub returns-clause-seals : goal.returns-clause-seals
returns-clause-seals g c =
    let read = c.in_ok-msg.ensures.whole in
    let seals = subst (λ (m : List ℕ). SealsMessage c.args.hss.now (g.H.Shelf.state c.args.shelf.now) (g.R.Rng.stream c.args.random.now) (g.R.Rng.stream c.seal_message.new.random) m c.seal_message.result c.seal_message.new.hss (g.H.Shelf.state c.seal_message.new.shelf))
    c.as_slice.ensures.value c.seal_message.ensures.seals in
    read_whole c.in_ok-msg.msg.items read.0 read.1 c.seal_message.ensures.reads seals
