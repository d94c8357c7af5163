use Rattle.peer_memory.proofs.Refusing.{behind_name, handed}
use Rattle.peer_memory.proofs.reading.peer_of.Goals as goal

pub returns-in_err-heads-clause-none : goal.returns-in_err-heads-clause-none
returns-in_err-heads-clause-none c refused peer rest is spelled =
    c.in_err-heads.ensures.none (handed c.from_residual.result _ _ c.from_residual.ensures.1 refused) peer.heads rest is.few is.ids is.rising
    (behind_name c.args.bytes.now c.split_at.result.0.now c.split_at.result.1.now rest peer c.split_at.ensures.by_index.0 c.split_at.ensures.front_len is spelled)
