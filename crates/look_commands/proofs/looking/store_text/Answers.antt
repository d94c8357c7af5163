use Rattle.std.proofs.Common.{◌≡◌, ◌⊎◌, ap, Err, rules, subst}
use Rattle.std.proofs.lemmas.Result.{err_from_is_err_and}
use Rattle.outcomes.specs.declared.refusal.Refusal.TheVariants.{Memory}
use Rattle.replica.specs.Replicas.{ReplicaState}
use Rattle.store_directory.specs.Standing.{Stands}
use Rattle.command_words.specs.Seen.{question_seen}
use Rattle.outcomes.proofs.Reading.{open_answered, open_refused, opened_out}
use Rattle.look_commands.specs.Looks.{ShowsMembers, ShowsStore}
use Rattle.look_commands.proofs.looking.store_text.Goals as goal

pub close-requires-clause-store_of : goal.close-requires-clause-store_of
close-requires-clause-store_of g c tells =
    (opened_out (g.H.Shelf.state c.args.shelf.now) (g.H.Shelf.state c.open.new.shelf) c.args.dir.now c.in_ok-opened.opened.store c.in_ok-opened.opened.key c.in_ok-opened.ensures.opens tells).0

pub close-requires-clause-key_of : goal.close-requires-clause-key_of
close-requires-clause-key_of g c tells =
    (opened_out (g.H.Shelf.state c.args.shelf.now) (g.H.Shelf.state c.open.new.shelf) c.args.dir.now c.in_ok-opened.opened.store c.in_ok-opened.opened.key c.in_ok-opened.ensures.opens tells).1

pub returns-in_err-opened : goal.returns-in_err-opened
returns-in_err-opened g c =
    let p = err_from_is_err_and c.from_residual.result c.from_residual.ensures.1 in
    let e = c.in_err-opened.ensures in
    rw (p.1, p.2) (open_refused (ShowsStore (question_seen c.args.question.now)) c.args.dir.now (g.H.Shelf.state c.args.shelf.now) (g.H.Shelf.state c.open.new.shelf)
    (g.H.Counted.faults c.args.shelf.now) (g.H.Counted.faults c.open.new.shelf) c.in_err-opened.field-0.0 c.requires e.lets_go e.refused (λ is. e.store_failed (ap Err is)))

pub returns : goal.returns
returns g c =
    let o = c.in_ok-opened.opened in
    let same : c.opened.inside.0.0.replica ≡ o.store.replica = search rules in
    let outcome = c.opened_text-outcome in
    open_answered (ShowsStore (question_seen c.args.question.now)) c.args.dir.now (g.H.Shelf.state c.args.shelf.now) (g.H.Shelf.state c.close.new.shelf)
    (g.H.Counted.faults c.args.shelf.now) (g.H.Counted.faults c.close.new.shelf) c.one_schema.ensures (g.H.Shelf.state c.open.new.shelf) (g.H.Counted.faults c.open.new.shelf)
    o.store o.key outcome.result c.requires c.in_ok-opened.ensures.opens c.close.ensures.closes (subst Stands same outcome.ensures.stands)
    (subst (λ (r : ReplicaState). ShowsMembers (question_seen c.args.question.now) r.history.schema r.history.members outcome.result ⊎ (outcome.result ≡ Err Memory)) same outcome.ensures.shows)
