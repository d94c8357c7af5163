-- What reading a stream tells.
use Rattle.std.specs.Prelude.{◌≡◌, ℕ, List, []}
use Rattle.std.specs.declared.option.Option.{Option}
use Rattle.bec_bytes.specs.Moved.{IfTold}
use Rattle.update_model.specs.Rule.{RuleData}
use Rattle.update_stream.specs.declared.reading.Reading.{Reading}
use Rattle.update_stream.specs.declared.reading.Reading.TheVariants.{Whole, Refused}
use Rattle.update_stream.specs.Stream.{IsWhole, IsRefused}

-- what a whole reading tells of the input, of which this is left
abbrev pub Tells : Option RuleData → List ℕ → List ℕ → Reading → Type 0
Tells given input rest (Whole members) = IsWhole given input members × (rest ≡ [])
Tells given input rest (Refused n fault) = IsRefused given input rest n fault

-- the same, where the source tells its bytes
abbrev pub Reads : Option RuleData → Option (List ℕ) → Option (List ℕ) → Reading → Type 0
Reads given before after reading = IfTold before after (λ input rest. Tells given input rest reading)
