use Rattle.std.proofs.Common.{◌≡◌, List, ℕ, ◌++◌, take, subst, sym, ap, ◌∙◌}
use Rattle.std.proofs.lemmas.List.{take-append-drop}
use Rattle.update_check.specs.Members.{AreMembers}
use Rattle.replica.proofs.Logs.{log_follows, log_stays}
use Rattle.replica.proofs.commit.write_tail.Goals as goal

pub returns-in_err-ids-clause-any_moment : goal.returns-in_err-ids-clause-any_moment
returns-in_err-ids-clause-any_moment g c = log_stays (take c.args.from c.args.history.now.members) c.args.log.now c.requires.log c.is_unsure.ensures.kept

pub append-requires-clause-next : goal.append-requires-clause-next
append-requires-clause-next g c =
    let members = c.args.history.now.members in
    let front = take c.args.from members in
    let all : members ≡ front ++ c.tail-2.result.now = sym (take-append-drop c.args.from members) ∙ ap (λ (l : List (List ℕ)). front ++ l) (sym c.tail-2.ensures) in
    (c.args.history.now.schema.rule, (front, c.repair_if_unsure.ensures.kept front c.requires.log, subst (AreMembers c.args.history.now.schema.rule) all c.len.ensures.kept.members))

pub returns-in_err-append-clause-any_moment : goal.returns-in_err-append-clause-any_moment
returns-in_err-append-clause-any_moment g c =
    let front = take c.args.from c.args.history.now.members in
    log_follows front c.args.log.now c.repair_if_unsure.new.log c.append.new.self (c.repair_if_unsure.ensures.any_moment front c.requires.log) (c.repair_if_unsure.ensures.kept front c.requires.log) c.append.ensures.any_moment

pub returns-clause-any_moment : goal.returns-clause-any_moment
returns-clause-any_moment g c =
    let front = take c.args.from c.args.history.now.members in
    log_follows front c.args.log.now c.repair_if_unsure.new.log c.append.new.self (c.repair_if_unsure.ensures.any_moment front c.requires.log) (c.repair_if_unsure.ensures.kept front c.requires.log) c.append.ensures.any_moment
