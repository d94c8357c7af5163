use Rattle.std.proofs.Common.{ℕ, List, sym, subst}
use Rattle.std.proofs.lemmas.Result.{err_from_is_err_and}
use Rattle.schema_verdict.specs.Inputs.{ReadsText}
use Rattle.node_commands.proofs.Signs.{text_refused, text_taken}
use Rattle.node_commands.proofs.commands.apply.read_ops.Goals as goal

pub returns-in_err-ops-clause-stopped : goal.returns-in_err-ops-clause-stopped
returns-in_err-ops-clause-stopped g c =
    let p = err_from_is_err_and c.from_residual-in_err-ops.result c.from_residual-in_err-ops.ensures.1 in
    let P : List ℕ → Type 0 = λ w. ReadsText 4194304 (g.S.Source.left c.args.input.now) (g.S.Source.left c.read_text.new.input) w in
    rw (p.1, p.2) (text_refused (g.S.Source.left c.args.input.now) (g.S.Source.left c.read_text.new.input) (g.S.Counted.faults c.args.input.now) (g.S.Counted.faults c.read_text.new.input)
    c.args.schema.now c.deref.result.now c.in_err-ops.field-0.0 (subst P (sym c.deref.ensures.value) c.in_ok-text.ensures.text) c.in_err-ops.ensures.fault)

pub returns-clause-read : goal.returns-clause-read
returns-clause-read g c =
    let P : List ℕ → Type 0 = λ w. ReadsText 4194304 (g.S.Source.left c.args.input.now) (g.S.Source.left c.read_text.new.input) w in
    text_taken (g.S.Source.left c.args.input.now) (g.S.Source.left c.read_text.new.input) c.args.schema.now c.deref.result.now c.in_ok-ops.ops
    (subst P (sym c.deref.ensures.value) c.in_ok-text.ensures.text) c.in_ok-ops.ensures.found
