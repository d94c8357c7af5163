use Rattle.std.proofs.Common.{ℕ, length, subst, ap, ◌∙◌, arith}
use Rattle.row_check.specs.Checksum.{is_luhn}
use Rattle.schema.specs.Data.{SchemaData}
use Rattle.byzantine_world.specs.Shown.{AreRowCounts}
use Rattle.byzantine_world.proofs.Reported.{counted}
use Rattle.byzantine_world.proofs.reporting.counts_of.Goals as goal

pub returns : goal.returns
returns c =
    let heads = c.len-2.ensures in
    let whole = c.in_ok-heads.heads.ok.0 in
    let small = c.in_ok-small.ensures in
    let many = c.tables.ensures.number ∙ ap (λ (s : SchemaData). length s.tables) c.schema.ensures in
    counted is_luhn c.args.site.now _ _ c.in_ok-heads.heads.items c.in_ok-voids.voids _ c.store-store.ensures c.len.ensures.value c.in_ok-heads.ensures (omega (arith, small, heads, whole)) c.tables-tables.ensures
    (λ rules nodes is. subst (λ (n : ℕ). AreRowCounts rules nodes n c.in_ok-rows.rows.items) many (c.in_ok-rows.ensures rules nodes is)) c.in_ok-voids.ensures
    (c.in_ok-small-2.ensures ∙ ap length c.as_slice.ensures)
