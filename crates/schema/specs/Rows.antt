-- Samples: what fits in each column of one.
use Rattle.std.specs.Prelude.{Bool, true, false, ◌&&◌, List, [], ◌∷◌, if◌then◌else◌}
use Rattle.update_model.specs.declared.value.Value.{Value}
use Rattle.row_check.specs.Meaning.{is_null}
use Rattle.schema.specs.declared.column.Column.{Column}
use Rattle.schema.specs.Columns.{is_reference, fits}

-- whether a sample may have this in a column: null in a reference, and what fits in any other
abbrev pub fits_sample_at : Column → Value → Bool
fits_sample_at column v = if is_reference column.kind then is_null v else fits column v

-- whether a sample has what it may have in each column
abbrev pub fits_sample : List Column → List Value → Bool
fits_sample [] [] = true
fits_sample [] (v ∷ vs) = false
fits_sample (c ∷ cs) [] = false
fits_sample (c ∷ cs) (v ∷ vs) = fits_sample_at c v && fits_sample cs vs
