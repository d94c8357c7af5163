use Rattle.std.proofs.Common.{◌≡◌, ◌++◌, ◌∷◌, take}
use Rattle.std.specs.List.{flat_map}
use Rattle.csv_text.specs.Csv.{csv_byte}
use Rattle.csv_text.proofs.values.push_quoted.Given as goal

-- the opening quote and the bytes so far
abbrev pub invariant-loop-byte : goal.invariant-loop-byte
invariant-loop-byte l = l.out.items ≡ l.fn.out.items ++ (34 ∷ flat_map csv_byte (take l.byte-index l.text))
