use Rattle.std.proofs.Common.{ℕ, List, subst, sym}
use Rattle.std.proofs.lemmas.Result.{err_from_is_err_and}
use Rattle.schema_verdict.specs.Inputs.{ReadsText}
use Rattle.world_commands.proofs.Inputs.{not_told, told}
use Rattle.world_commands.proofs.world.run_world.Goals as goal

pub returns-in_err-script-clause-refused : goal.returns-in_err-script-clause-refused
returns-in_err-script-clause-refused g c =
    let before = g.S.Source.left c.args.input.now in
    let after = g.S.Source.left c.read_text.new.input in
    let p = err_from_is_err_and c.from_residual-in_err-script.result c.from_residual-in_err-script.ensures.1 in
    rw (p.1, p.2) (not_told c.args.audit before after (g.S.Counted.faults c.args.input.now) (g.S.Counted.faults c.read_text.new.input) c.as_slice.result.now c.in_err-script.field-0.0
    (subst (λ (t : List ℕ). ReadsText 16777216 before after t) (sym c.as_slice.ensures.value) c.in_ok-text.ensures.text) c.in_err-script.ensures.refused)

pub returns-clause-reported : goal.returns-clause-reported
returns-clause-reported g c =
    let before = g.S.Source.left c.args.input.now in
    let after = g.S.Source.left c.read_text.new.input in
    told c.args.audit before after c.as_slice.result.now c.in_ok-script.script c.in_ok-report.report
    (subst (λ (t : List ℕ). ReadsText 16777216 before after t) (sym c.as_slice.ensures.value) c.in_ok-text.ensures.text) c.in_ok-script.ensures.found c.in_ok-script.ensures.taken c.in_ok-report.ensures
