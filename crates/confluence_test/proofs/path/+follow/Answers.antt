use Rattle.std.proofs.Common.{◌≡◌, ◌-◌, ◌<◌, ◌∙◌, false, ap, sym, arith, Some}
use Rattle.schema.specs.declared.table_def.TableDef.{TableDef}
use Rattle.table_model.specs.Visible.{table_of, bare_rules}
use Rattle.confluence_laws.specs.Examples.{Step, path_from}
use Rattle.confluence_test.proofs.Paths.{next_of, next_low, path_stop, path_on, path_more}
use Rattle.confluence_test.proofs.Sounds.{sound_columns}
use Rattle.confluence_test.proofs.path.+follow.Goals as goal

pub returns-in-None : goal.returns-in-None
returns-in-None t c =
    let tables = c.args.schema.now.tables in
    let rules = bare_rules tables in
    let some : 0 < c.args.depth = omega arith in
    let same : c.as_slice.result.now ≡ (table_of rules c.args.table).columns = cc in
    let stays : (table_of rules c.args.table).deletable ≡ false = sym (ap (λ (x : TableDef). x.deletable) c.table_of-of.ensures.table) ∙ c.if-of.false in
    let next = next_of tables c.table_of-of.ensures.sound c.args.permanence.now c.requires.permanence c.args.table c.requires.table c.as_slice.result.now same c.next_step.result c.next_step.ensures in
    record { steps = path_stop rules c.args.depth c.args.table c.args.steps.now.items some stays (next ∙ c.in-None.is) }

pub follow-requires : goal.follow-requires
follow-requires t c =
    let tables = c.args.schema.now.tables in
    let rules = bare_rules tables in
    let same : c.as_slice.result.now ≡ (table_of rules c.args.table).columns = cc in
    let next = next_of tables c.table_of-of.ensures.sound c.args.permanence.now c.requires.permanence c.args.table c.requires.table c.as_slice.result.now same c.next_step.result c.next_step.ensures in
    let low = next_low rules c.args.table (table_of rules c.args.table).columns (sound_columns tables c.table_of-of.ensures.sound c.args.table) c.in-Some.column c.in-Some.target (next ∙ c.in-Some.is) in
    let known = c.requires.table in
    (omega arith, (omega arith, c.requires.permanence))

pub returns-in_ok-follow-in-Some : goal.returns-in_ok-follow-in-Some
returns-in_ok-follow-in-Some t c =
    let tables = c.args.schema.now.tables in
    let rules = bare_rules tables in
    let some : 0 < c.args.depth = omega arith in
    let same : c.as_slice.result.now ≡ (table_of rules c.args.table).columns = cc in
    let stays : (table_of rules c.args.table).deletable ≡ false = sym (ap (λ (x : TableDef). x.deletable) c.table_of-of.ensures.table) ∙ c.if-of.false in
    let next = next_of tables c.table_of-of.ensures.sound c.args.permanence.now c.requires.permanence c.args.table c.requires.table c.as_slice.result.now same c.next_step.result c.next_step.ensures in
    let step : Step = record { table = c.args.table; column = Some c.in-Some.column } in
    record {
      steps = path_more c.args.steps.now.items c.push-in-Some.new.self.items (path_from rules c.args.depth c.args.table) (path_from rules (c.args.depth - 1) c.in-Some.target) c.follow.new.steps.items step
          c.in_ok-follow-in-Some.ensures.steps c.in_ok-push-in-Some.ensures.items (path_on rules c.args.depth c.args.table c.in-Some.column c.in-Some.target some stays (next ∙ c.in-Some.is));
    }
