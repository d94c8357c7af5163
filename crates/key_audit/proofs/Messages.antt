-- The message of an update stands in front of its signature's length.
use Rattle.std.proofs.Common.{◌≡◌, ◌∙◌, ◌+◌, ◌-◌, ◌++◌, ℕ, List, ap, arith, length, length-append, take}
use Rattle.std.proofs.Math.Seq.{take-append_seam}
use Rattle.std.specs.Int.{w32, to_be_bytes}

pub front : (bytes message sig : List ℕ) → bytes ≡ message ++ (to_be_bytes w32 (length sig) ++ sig) → take (length bytes - length sig - 4) bytes ≡ message
front bytes message sig is =
    let rest : List ℕ = to_be_bytes w32 (length sig) ++ sig in
    let whole : length bytes ≡ length message + (4 + length sig) = ap length is ∙ length-append message rest ∙ ap (λ (n : ℕ). length message + n) (length-append (to_be_bytes w32 (length sig)) sig) in
    let size : length bytes - length sig - 4 ≡ length message = omega (arith, whole) in
    (λ i. take (size i) (is i)) ∙ take-append_seam message rest
