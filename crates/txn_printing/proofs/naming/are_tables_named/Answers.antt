use Rattle.std.proofs.Common.{rules, ◌≡◌, inl, inr, true, false, refl, arith}
use Rattle.std.proofs.lemmas.Bool.{cases_lt}
use Rattle.std.proofs.lemmas.Option.{slice_get_within}
use Rattle.txn_printing.proofs.Named.{kept_table, last_table, lost_table}
use Rattle.txn_printing.proofs.naming.are_tables_named.Goals as goal

pub returns-then-not-is_found : goal.returns-then-not-is_found
returns-then-not-is_found c =
    let tables = c.args.schema.now.tables in
    let number = c.loop-number.number in
    let lost : c.is_found.result ≡ false = first_of (cc, grind (arith, c.if-not-is_found.true, c.if-not-is_found.ensures), search rules) in (
      λ yes. absurd (let no : false ≡ true = yes in cc),
      λ named. absurd (lost_table tables number c.table.result.now c.as_slice.result.now c.is_found.result c.as_slice.ensures.value c.is_found.ensures lost (named number c.table.result.now c.table.ensures)),
    )

pub loop-number-preserved : goal.loop-number-preserved
loop-number-preserved c = λ k table below there.
    let tables = c.args.schema.now.tables in
    let number = c.loop-number.number in
    let kept : c.is_found.result ≡ true = first_of (cc, grind (arith, c.if-not-is_found.false, c.if-not-is_found.ensures), search rules) in
    elim (cases_lt k number) [
      | inl lower ↦ c.loop-number.invariant k table lower there
      | inr top ↦
          last_table tables k number table c.table.result.now (omega (arith, top, below)) there c.table.ensures
          (kept_table tables number c.table.result.now c.as_slice.result.now c.is_found.result c.as_slice.ensures.value c.is_found.ensures kept)
    ]

pub returns : goal.returns
returns c = (
  λ yes number table there.
      let within = slice_get_within c.args.schema.now.tables number table there in
      let end = c.tables-number-end.ensures.number in
      c.loop-number.invariant number table (omega (arith, within, end)) there,
  λ named. refl,
)
