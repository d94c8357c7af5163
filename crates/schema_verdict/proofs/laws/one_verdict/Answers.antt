use Rattle.row_check.specs.Checksum.{is_luhn}
use Rattle.schema_verdict.proofs.Telling.{TextLaws, once}
use Rattle.schema_verdict.proofs.laws.one_verdict.Goals as goal

pub returns : goal.returns
returns c =
    let laws : TextLaws = record { taken_or_refused = c.taken_or_refused.ensures is_luhn; refused_once = c.refused_once.ensures is_luhn } in
    once laws
