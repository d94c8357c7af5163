-- Sides of a comparison, as they are computed.
use Rattle.update_model.specs.declared.value.Value.{Value}
use Rattle.row_check.specs.declared.side.Side.{Side}
use Rattle.row_check.specs.declared.side.Side.TheVariants.{Lent, Length}

-- the value of a side
abbrev pub side_value : Side → Value
side_value (Lent value) = value.now
side_value (Length value) = value
