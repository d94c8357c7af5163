use Rattle.std.proofs.Common.{drop, sym, ◌∙◌, ap, subst, arith, IsTrue}
use Rattle.bec_disk.specs.Disk.{DiskState}
use Rattle.bec_disk.proofs.Gates.{gated_damaged, gated_read, gated_short, gated_shut}
use Rattle.bec_disk.proofs.gated.read_gated.Goals as goal

pub returns-clause-value : goal.returns-clause-value
returns-clause-value g c tells =
    let same = c.len.ensures.same in
    let still = c.read.ensures.same ∙ same in
    let told = subst (λ (s : DiskState). IsTrue s.tells) (sym same) tells in
    let told_then = subst (λ (s : DiskState). IsTrue s.tells) (sym still) tells in
    gated_read _ (g.D.Disk.state c.args.disk.now).seen c.read.new.buf _ c.read_u32-size.result (ap (λ (s : DiskState). s.seen) same) (c.in_ok-read.ensures.bytes told) c.if-head-eq0.false
    c.read_u32-size.ensures (omega (arith, c.in_ok-len.ensures.value tells, c.if-len-from.false, c.from.ensures))
    (c.in_ok-read_payload.ensures.value told_then ∙ ap (λ (s : DiskState). drop 5 s.seen) still)

pub returns-then-len-lt5-clause-value : goal.returns-then-len-lt5-clause-value
returns-then-len-lt5-clause-value g c tells = gated_short (g.D.Disk.state c.args.disk.now).seen c.in_ok-len.len (c.in_ok-len.ensures.value tells) c.if-len-lt5.true

pub returns-then-head-eq0-clause-value : goal.returns-then-head-eq0-clause-value
returns-then-head-eq0-clause-value g c tells =
    let same = c.len.ensures.same in
    let told = subst (λ (s : DiskState). IsTrue s.tells) (sym same) tells in
    gated_shut _ (g.D.Disk.state c.args.disk.now).seen c.read.new.buf (ap (λ (s : DiskState). s.seen) same) (c.in_ok-read.ensures.bytes told) c.if-head-eq0.true

pub returns-then-len-from-clause-value : goal.returns-then-len-from-clause-value
returns-then-len-from-clause-value g c tells =
    let same = c.len.ensures.same in
    let told = subst (λ (s : DiskState). IsTrue s.tells) (sym same) tells in
    gated_damaged _ (g.D.Disk.state c.args.disk.now).seen c.read.new.buf c.read_u32-size.result (ap (λ (s : DiskState). s.seen) same) (c.in_ok-read.ensures.bytes told)
    (omega (arith, c.in_ok-len.ensures.value tells, c.if-len-lt5.false)) c.if-head-eq0.false c.read_u32-size.ensures (omega (arith, c.in_ok-len.ensures.value tells, c.if-len-from.true, c.from.ensures))
