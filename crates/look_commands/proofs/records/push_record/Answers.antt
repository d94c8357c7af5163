use Rattle.std.proofs.Common.{◌≡◌, ◌∙◌, ◌++◌, ℕ, List, ap, append_assoc, arith, length}
use Rattle.bec_bytes.specs.Framed.{framed}
use Rattle.look_commands.proofs.records.push_record.Goals as goal

pub overflow_cast-size : goal.overflow_cast-size
overflow_cast-size c =
    let short = c.author.ensures.signed.spells.short in
    let same : length c.bytes-bytes.result.now ≡ length c.args.update.now = ap length c.bytes-bytes.ensures in
    omega (arith, short, same)

pub returns : goal.returns
unfolding framed
returns c =
    let old = c.args.records.now.items in
    let update = c.args.update.now in
    let bytes : c.bytes-bytes.result.now ≡ update = c.bytes-bytes.ensures in
    let front = c.in_ok-extend_from_slice.ensures.items in
    c.in_ok-extend_from_slice-2.ensures.items ∙ ap (λ (w : List ℕ). w ++ c.bytes-bytes.result.now) front ∙ append_assoc old c.to_be_bytes.result c.bytes-bytes.result.now
    ∙ ap (λ (t : List ℕ). old ++ (t ++ c.bytes-bytes.result.now)) c.to_be_bytes.ensures ∙ ap (λ (w : List ℕ). old ++ framed w) bytes
