use Rattle.std.proofs.Common.{◌≡◌, ℕ, ◌+◌, ◌∙◌, List, length, length-append, reverse, ap, subst, arith, IfOk}
use Rattle.std.proofs.lemmas.List.{length-reverse}
use Rattle.update_model.specs.declared.op.Op.TheVariants as op
use Rattle.update_model.specs.declared.row_name.RowName.{RowName}
use Rattle.table_model.specs.declared.counterexample.Counterexample.{Counterexample}
use Rattle.confluence_laws.specs.Examples.{Step, path_items, shared_of, one_after, row_numbered}
use Rattle.table_model.specs.Visible.{bare_rules}
use Rattle.confluence_test.proofs.Restricts.{restrict_is}
use Rattle.confluence_test.proofs.examples.restrict_example.Goals as goal

pub returns : goal.returns
returns c =
    let rules = bare_rules c.args.schema.now.tables in
    let base = c.in_ok-base.base in
    let path = c.in_ok-path.path.items in
    let steps = reverse c.in_ok-back.back.items in
    let items = c.push_all.new.chain in
    let older : ℕ = c.len.result + c.len-2.result in
    let shared : base ≡ shared_of rules steps c.args.table c.args.column =
    c.in_ok-base.ensures.shared ∙ ap (λ (l : List Step). shared_of rules (reverse l) c.args.table c.args.column) c.as_slice.ensures.value in
    let made : items ≡ path_items rules base steps = c.in_ok-push_all.ensures ∙ c.in_ok-path.ensures.rows ∙ ap (λ (l : List Step). path_items rules base (reverse l)) c.as_slice-2.ensures.value in
    let many : older ≡ length items =
    (let a = ap length c.in_ok-push_all.ensures in
    let b = length-append (reverse path) base in
    let d = length-reverse path in
    let e = c.len.ensures in
    let f = c.len-2.ensures in
    omega arith) in
    let end : c.len-end.result + 1 ≡ length base + 1 = ap (λ (n : ℕ). n + 1) c.len-end.ensures in
    let right : c.in_ok-right.right ≡ one_after older (older + 2) (op.Delete (row_numbered (c.len-end.result + 1))) =
    c.in_ok-right.ensures ∙ ap (λ (r : RowName). one_after older (older + 2) (op.Delete r)) c.row_numbered-row.ensures in
    let is = restrict_is rules c.args.table c.args.column c.args.target steps base items c.in_ok-row.row (c.len-end.result + 1) older c.in_ok-left.left c.in_ok-right.right
    c.in_ok-back.ensures.steps shared made many c.in_ok-row.ensures end c.in_ok-left.ensures right in
    subst (λ (x : Counterexample). IfOk c.split_after.result (λ example. example ≡ x)) is c.split_after.ensures
