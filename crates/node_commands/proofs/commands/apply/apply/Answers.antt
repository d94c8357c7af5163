use Rattle.std.proofs.Common.{subst}
use Rattle.std.specs.Prelude.{option_map}
use Rattle.std.proofs.lemmas.Result.{err_from_is_err_and}
use Rattle.schema.specs.Data.{SchemaData}
use Rattle.node_commands.specs.Signing.{StopsReading, TakesText}
use Rattle.node_commands.proofs.Signs.{apply_asked, apply_stopped}
use Rattle.node_commands.proofs.commands.apply.apply.Goals as goal

pub returns-in_err-ops : goal.returns-in_err-ops
returns-in_err-ops g c =
    let p = err_from_is_err_and c.from_residual.result c.from_residual.ensures.1 in
    let before = g.S.Source.left c.args.input.now in
    let after = g.S.Source.left c.read_ops.new.input in
    let old = g.S.Counted.faults c.args.input.now in
    let new = g.S.Counted.faults c.read_ops.new.input in
    rw (p.1, p.2) (apply_stopped (option_map (λ n. n.now) c.args.note) before after (g.R.Rng.stream c.args.random.now) old new c.args.replica.now c.args.key.now c.in_err-ops.field-0.0 c.each_stands.ensures
    (subst (λ (s : SchemaData). StopsReading before after old new s c.in_err-ops.field-0.0) c.schema.ensures c.in_err-ops.ensures.stopped))

pub returns : goal.returns
returns g c =
    let before = g.S.Source.left c.args.input.now in
    let after = g.S.Source.left c.read_ops.new.input in
    apply_asked (option_map (λ n. n.now) c.args.note) before after (g.R.Rng.stream c.args.random.now) (g.R.Rng.stream c.make_update.new.random) (g.S.Counted.faults c.args.input.now) (g.S.Counted.faults c.read_ops.new.input) c.args.replica.now c.args.key.now c.make_update.new.replica c.make_update.new.key
    c.in_ok-ops.ops c.make_update.result (subst (λ (s : SchemaData). TakesText before after s c.in_ok-ops.ops) c.schema.ensures c.in_ok-ops.ensures.read) c.make_update.ensures
