use Rattle.std.proofs.Common.{◌∙◌, ℕ, List, ap, subst, Vec}
use Rattle.std.specs.declared.alloc.Global.{Global}
use Rattle.std.proofs.lemmas.Result.{err_from_is_err_and}
use Rattle.audit_text.specs.Certificates.{HoldsDoubled, HoldsNone}
use Rattle.audit_commands.proofs.Answering.{certified, uncertified, unread}
use Rattle.audit_commands.proofs.confirming.confirm.Goals as goal

pub returns-in_err-text : goal.returns-in_err-text
returns-in_err-text g c =
    let p = err_from_is_err_and c.from_residual.result c.from_residual.ensures.1 in
    rw (p.1, p.2) (unread (g.S.Source.left c.args.input.now) (g.S.Source.left c.read_text.new.input) (g.S.Counted.faults c.args.input.now) (g.S.Counted.faults c.read_text.new.input)
    c.in_err-text.field-0.0 c.in_err-text.ensures.failed)

pub returns-in-Some : goal.returns-in-Some
returns-in-Some g c =
    let here = rw c.in-Some.is at c.in_ok-key.ensures in
    let held = subst (λ (t : List ℕ). HoldsDoubled t c.in-Some.key c.in-Some.index) c.deref.ensures.value here in
    certified c.certificates_are_short.ensures (g.S.Source.left c.args.input.now) (g.S.Source.left c.read_text.new.input) c.in_ok-text.text.items c.in-Some.key c.in-Some.index c.into_bytes.result
    c.in_ok-text.ensures.text held (ap (λ (v : Vec ℕ Global). v.items) c.into_bytes.ensures.value ∙ c.in_ok-doubled_line-in-Some.ensures)

pub returns : goal.returns
returns g c =
    let here = rw c.in-None.is at c.in_ok-key.ensures in
    let none = subst (λ (t : List ℕ). HoldsNone t) c.deref.ensures.value here in
    uncertified c.certificates_are_short.ensures (g.S.Source.left c.args.input.now) (g.S.Source.left c.read_text.new.input) (g.S.Counted.faults c.args.input.now) (g.S.Counted.faults c.read_text.new.input)
    c.in_ok-text.text.items c.in_ok-text.ensures.text none
