use Rattle.std.proofs.Common.{◌∙◌, ap, sym, subst, map, length, arith}
use Rattle.update_codec.specs.Parts.{entry_of, id_of}
use Rattle.sync_session.specs.Greeting.{IsHelloOver}
use Rattle.update_check.specs.Holding.{at_positions}
use Rattle.sync_session.proofs.Hellos.{since_few, hello_form, hello_over}
use Rattle.sync_session.proofs.greeting.own_hello.Goals as goal

pub of-requires : goal.of-requires
of-requires g c =
    let members = g.H.Holder.members c.args.holder.now in
    since_few _ _ members c.len.result c.args.old.now c.in_ok-positions.positions.items c.as_slice-2.result.now c.len.ensures.held (let all = c.len.ensures.value in omega arith) c.in_ok-positions.ensures
    (c.as_slice-2.ensures.value ∙ c.in_ok-ids.ensures ∙ ap (λ ps. map id_of (at_positions members ps)) c.as_slice.ensures.value)

pub new-requires-clause-few_heads : goal.new-requires-clause-few_heads
new-requires-clause-few_heads g c =
    let members = g.H.Holder.members c.args.holder.now in
    (hello_form _ _ members c.args.database c.args.node c.args.heads.now c.from_vec.result c.args.old.now c.from_vec-2.result c.bytes.result.now c.from_vec-3.result c.len.ensures.held
    c.requires.heads (c.from_vec.ensures ∙ c.in_ok-from_slice.ensures.items) c.requires.few c.requires.rising (c.from_vec-2.ensures ∙ c.in_ok-from_slice-2.ensures.items) (let few = c.bytes.ensures.few in let same = ap length c.bytes.ensures.value in omega arith) (c.from_vec-3.ensures ∙ c.in_ok-from_slice-3.ensures.items)).few_heads

pub new-requires-clause-heads : goal.new-requires-clause-heads
new-requires-clause-heads g c =
    let members = g.H.Holder.members c.args.holder.now in
    (hello_form _ _ members c.args.database c.args.node c.args.heads.now c.from_vec.result c.args.old.now c.from_vec-2.result c.bytes.result.now c.from_vec-3.result c.len.ensures.held
    c.requires.heads (c.from_vec.ensures ∙ c.in_ok-from_slice.ensures.items) c.requires.few c.requires.rising (c.from_vec-2.ensures ∙ c.in_ok-from_slice-2.ensures.items) (let few = c.bytes.ensures.few in let same = ap length c.bytes.ensures.value in omega arith) (c.from_vec-3.ensures ∙ c.in_ok-from_slice-3.ensures.items)).heads

pub new-requires-clause-few_old : goal.new-requires-clause-few_old
new-requires-clause-few_old g c =
    let members = g.H.Holder.members c.args.holder.now in
    (hello_form _ _ members c.args.database c.args.node c.args.heads.now c.from_vec.result c.args.old.now c.from_vec-2.result c.bytes.result.now c.from_vec-3.result c.len.ensures.held
    c.requires.heads (c.from_vec.ensures ∙ c.in_ok-from_slice.ensures.items) c.requires.few c.requires.rising (c.from_vec-2.ensures ∙ c.in_ok-from_slice-2.ensures.items) (let few = c.bytes.ensures.few in let same = ap length c.bytes.ensures.value in omega arith) (c.from_vec-3.ensures ∙ c.in_ok-from_slice-3.ensures.items)).few_old

pub new-requires-clause-old : goal.new-requires-clause-old
new-requires-clause-old g c =
    let members = g.H.Holder.members c.args.holder.now in
    (hello_form _ _ members c.args.database c.args.node c.args.heads.now c.from_vec.result c.args.old.now c.from_vec-2.result c.bytes.result.now c.from_vec-3.result c.len.ensures.held
    c.requires.heads (c.from_vec.ensures ∙ c.in_ok-from_slice.ensures.items) c.requires.few c.requires.rising (c.from_vec-2.ensures ∙ c.in_ok-from_slice-2.ensures.items) (let few = c.bytes.ensures.few in let same = ap length c.bytes.ensures.value in omega arith) (c.from_vec-3.ensures ∙ c.in_ok-from_slice-3.ensures.items)).old

pub new-requires-clause-small : goal.new-requires-clause-small
new-requires-clause-small g c =
    let members = g.H.Holder.members c.args.holder.now in
    (hello_form _ _ members c.args.database c.args.node c.args.heads.now c.from_vec.result c.args.old.now c.from_vec-2.result c.bytes.result.now c.from_vec-3.result c.len.ensures.held
    c.requires.heads (c.from_vec.ensures ∙ c.in_ok-from_slice.ensures.items) c.requires.few c.requires.rising (c.from_vec-2.ensures ∙ c.in_ok-from_slice-2.ensures.items) (let few = c.bytes.ensures.few in let same = ap length c.bytes.ensures.value in omega arith) (c.from_vec-3.ensures ∙ c.in_ok-from_slice-3.ensures.items)).small

pub returns-clause-over : goal.returns-clause-over
returns-clause-over g c =
    let members = g.H.Holder.members c.args.holder.now in
    subst (IsHelloOver c.args.database c.args.node c.args.old.now (map entry_of members)) (sym c.new.ensures)
    (hello_over c.args.database c.args.node c.args.heads.now c.from_vec.result c.args.old.now c.from_vec-2.result members c.len.result c.in_ok-positions.positions.items c.as_slice-2.result.now
    c.in_ok-summary.summary c.from_vec-3.result c.len.ensures.value c.in_ok-positions.ensures
    (c.as_slice-2.ensures.value ∙ c.in_ok-ids.ensures ∙ ap (λ ps. map id_of (at_positions members ps)) c.as_slice.ensures.value)
    c.requires.heads (c.from_vec.ensures ∙ c.in_ok-from_slice.ensures.items) (c.from_vec-2.ensures ∙ c.in_ok-from_slice-2.ensures.items) c.in_ok-summary.ensures
    (c.from_vec-3.ensures ∙ c.in_ok-from_slice-3.ensures.items ∙ c.bytes.ensures.value))
