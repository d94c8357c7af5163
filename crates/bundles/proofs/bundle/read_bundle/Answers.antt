use Rattle.std.proofs.Common.{◌∙◌, ℕ, List, Some, sym, ap, subst}
use Rattle.std.proofs.lemmas.Result.{err_from_is_err_and}
use Rattle.node_commands.specs.Bundle.{HoldsText}
use Rattle.bundles.proofs.Reading.{held_whole, refused_record, refused_text, taken_again}
use Rattle.bundles.proofs.bundle.read_bundle.Goals as goal

pub returns-in_err-schema-clause-refused : goal.returns-in_err-schema-clause-refused
returns-in_err-schema-clause-refused g c =
    let p = err_from_is_err_and c.from_residual-in_err-schema.result c.from_residual-in_err-schema.ensures.1 in
    let P : List ℕ → Type 0 = λ w. HoldsText (g.S.Source.left c.args.input.now) (g.S.Source.left c.bundle_schema.new.input) w in
    rw (p.1, p.2) (refused_text (g.S.Source.left c.args.input.now) (g.S.Source.left c.bundle_schema.new.input) (g.S.Counted.faults c.args.input.now) (g.S.Counted.faults c.bundle_schema.new.input)
    c.deref.result.now c.in_err-schema.field-0.0 (subst P (sym c.deref.ensures.value) c.in_ok-declared.ensures.text) c.in_err-schema.ensures.refused)

pub returns-in_err-graph-clause-refused : goal.returns-in_err-graph-clause-refused
returns-in_err-graph-clause-refused g c =
    let p = err_from_is_err_and c.from_residual-in_err-graph.result c.from_residual-in_err-graph.ensures.1 in
    let P : List ℕ → Type 0 = λ w. HoldsText (g.S.Source.left c.args.input.now) (g.S.Source.left c.bundle_schema.new.input) w in
    rw (p.1, p.2) (refused_record (g.S.Source.left c.args.input.now) (g.S.Source.left c.bundle_schema.new.input) (g.S.Source.left c.read_graph.new.input)
    (g.S.Counted.faults c.args.input.now) (g.S.Counted.faults c.bundle_schema.new.input) (g.S.Counted.faults c.read_graph.new.input)
    c.deref.result.now c.in_ok-schema.schema (Some c.in_ok-copy.field-0) c.in_err-graph.field-0.0 (subst P (sym c.deref.ensures.value) c.in_ok-declared.ensures.text) c.in_ok-schema.ensures.taken
    (ap Some (c.in_ok-copy.ensures ∙ c.rule.ensures)) c.in_ok-declared.ensures.later c.in_err-graph.ensures.refused)

pub returns-clause-held : goal.returns-clause-held
returns-clause-held g c =
    let P : List ℕ → Type 0 = λ w. HoldsText (g.S.Source.left c.args.input.now) (g.S.Source.left c.bundle_schema.new.input) w in
    held_whole (g.S.Source.left c.args.input.now) (g.S.Source.left c.bundle_schema.new.input) (g.S.Source.left c.read_graph.new.input)
    c.deref.result.now c.in_ok-schema.schema (Some c.in_ok-copy.field-0) c.in_ok-graph.graph (subst P (sym c.deref.ensures.value) c.in_ok-declared.ensures.text) c.in_ok-schema.ensures.taken
    (ap Some (c.in_ok-copy.ensures ∙ c.rule.ensures)) c.in_ok-graph.ensures.whole

pub returns-clause-taken : goal.returns-clause-taken
returns-clause-taken g c = taken_again c.deref.result.now c.in_ok-schema.schema c.in_ok-schema.ensures.taken
