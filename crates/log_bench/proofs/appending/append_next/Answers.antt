use Rattle.std.proofs.Common.{◌≡◌, ◌+◌, ◌-◌, ◌++◌, ◌∙◌, ℕ, List, ap, subst, sym, take, arith}
use Rattle.update_log.specs.Log.{IsLogOf, IsNextBatch}
use Rattle.log_bench.proofs.Batches.{front_and_next, next_of}
use Rattle.log_bench.proofs.appending.append_next.Goals as goal

pub append-requires-clause-next : goal.append-requires-clause-next
append-requires-clause-next g c =
    let count = c.min-end.result - c.args.held in
    subst (λ (rest : List (List ℕ)). IsNextBatch c.args.log.now (take count rest)) (sym c.tail.ensures)
    (next_of c.requires.checked.0 c.args.graph.now c.args.log.now c.args.held count c.requires.checked.1 c.len.ensures.closed c.len.ensures.within c.requires.log)

pub returns-clause-log : goal.returns-clause-log
returns-clause-log g c =
    let members = c.args.graph.now in
    let front = take c.args.held members in
    let count = c.min-end.result - c.args.held in
    let end : c.args.held + count ≡ c.min-end.result = omega (arith, c.min-end.ensures, c.saturating_add.ensures, c.len.ensures.value, c.requires.low) in
    let all : front ++ take count c.tail.result.now ≡ take c.min-end.result members =
    ap (λ (rest : List (List ℕ)). front ++ take count rest) c.tail.ensures ∙ front_and_next c.args.held count members ∙ ap (λ (n : ℕ). take n members) end in
    subst (λ (l : List (List ℕ)). IsLogOf l c.append.new.self) all (c.in_ok-append.ensures.added front c.requires.log)
