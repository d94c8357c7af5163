use Rattle.std.proofs.Common.{◌≡◌, ◌∙◌}
use Rattle.replica.specs.declared.open_fault.OpenKind.TheVariants.{BadSchema}
use Rattle.replica.proofs.Declaring.{declares_both, declares_none}
use Rattle.replica.proofs.Mapped.{bad_not_memory, declares_two}
use Rattle.replica.proofs.opening.read_declaration.Goals as goal

pub returns-in-Ok-clause-declared : goal.returns-in-Ok-clause-declared
returns-in-Ok-clause-declared g c =
    let parts = c.split_at-parts.ensures in
    declares_both g.L.Relation.answer c.args.payload.now c.copy_from_slice.new.self c.split_at-parts.result.1.now c.in-Ok.schema (c.copy_from_slice.ensures.after ∙ parts.front) parts.back c.copy_from_slice.ensures.len c.in-Ok.ensures.taken

pub returns-in-Err-clause-none : goal.returns-in-Err-clause-none
returns-in-Err-clause-none g c = λ same node schema is.
    let bad : c.declaring_kind.result ≡ BadSchema = cc in
    declares_none g.L.Relation.answer c.args.payload.now node c.split_at-parts.result.1.now schema c.in-Err.refusal c.taken_or_refused.ensures c.split_at-parts.ensures.back c.in-Err.ensures.refused
    (bad_not_memory c.in-Err.refusal c.declaring_kind.result c.declaring_kind.ensures bad) is

pub returns-in-Err-clause-only : goal.returns-in-Err-clause-only
returns-in-Err-clause-only g c = declares_two c.in-Err.refusal c.declaring_kind.result c.declaring_kind.ensures
