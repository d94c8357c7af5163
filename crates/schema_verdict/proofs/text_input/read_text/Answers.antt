use Rattle.std.proofs.Common.{◌≡◌, ◌∙◌, ◌+◌, ℕ, List, length, take, sym, ap, subst, arith}
use Rattle.bec_bytes.proofs.ReadFrames.{rewritten}
use Rattle.schema_verdict.specs.Inputs.{ReadsText}
use Rattle.schema_verdict.proofs.Reading.{text_read}
use Rattle.schema_verdict.proofs.text_input.read_text.Goals as goal

pub returns-clause-text : goal.returns-clause-text
returns-clause-text g c =
    let read = c.in_ok-count.ensures.bytes in
    let kept = c.read_full.auto.buf in
    let lent = c.deref_mut.ensures.len in
    let made = c.in_ok-text.ensures.len in
    let size : length c.read_full.new.buf ≡ c.args.limit + 1 = omega (arith, kept, lent, made) in
    let whole : length c.read_full.new.buf ≡ c.in_ok-text.text.len = omega (arith, kept, lent) in
    let P : List ℕ → Type 0 = λ w. ReadsText c.args.limit (g.S.Source.left c.args.input.now) (g.S.Source.left c.read_full.new.source) w in
    subst P (sym (c.truncate.ensures.items ∙ ap (take c.in_ok-count.count) (rewritten c.in_ok-text.text.len c.read_full.new.buf c.in_ok-text.text.items whole)))
    (text_read c.args.limit (g.S.Source.left c.args.input.now) (g.S.Source.left c.read_full.new.source) c.in_ok-count.count c.read_full.new.buf size read.0 read.1 read.2)
