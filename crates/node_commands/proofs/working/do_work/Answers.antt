use Rattle.std.proofs.Common.{◌≡◌, ◌⊎◌, Err, refl, rules, subst}
use Rattle.replica.specs.Replicas.{ReplicaState}
use Rattle.outcomes.specs.declared.refusal.Refusal.TheVariants.{Memory}
use Rattle.outcomes.specs.OpenStores.{opened_store}
use Rattle.node_commands.specs.Asking.{QueryAnswer}
use Rattle.node_commands.proofs.working.do_work.Goals as goal

pub returns-in-Query : goal.returns-in-Query
returns-in-Query g c =
    let same : c.opened.inside.0.0.replica ≡ c.args.opened.now.store.replica = search rules in
    rw c.in-Query.is (record {
      stands = search rules;
      answers = subst (λ (r : ReplicaState). QueryAnswer c.in-Query.text.now c.in-Query.json (opened_store r) c.asked.result ⊎ (c.asked.result ≡ Err Memory)) same c.asked.ensures;
      same_store = refl;
      same_key = refl;
      same_source = refl;
      same_random = refl;
    })
