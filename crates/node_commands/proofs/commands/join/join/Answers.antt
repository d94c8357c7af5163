use Rattle.std.proofs.Common.{◌≡◌, ◌∙◌, Err, List, Ok, ap, inl, inr, refl, rules, subst, sym, ℕ}
use Rattle.std.proofs.lemmas.Result.{err_from_is_err_and}
use Rattle.lms_tree.specs.SecretKey.{SecretData}
use Rattle.replica.specs.Making.{IsJoinCause, JoinsTo}
use Rattle.store_directory.proofs.Signing.{tried_by_joining}
use Rattle.outcomes.specs.declared.refusal.Refusal.{Refusal}
use Rattle.outcomes.specs.Outcome.{from_make}
use Rattle.node_commands.specs.Signing.{IsNoStop, JoinAnswer, SignsOpen}
use Rattle.outcomes.specs.StoreAnswers.{after_bytes, next_bytes}
use Rattle.node_commands.proofs.Signs.{joins_not, joins_to, same_secret, signs_nothing}
use Rattle.node_commands.proofs.commands.join.join.Goals as goal

pub returns-in_err-room : goal.returns-in_err-room
returns-in_err-room g c =
    let p = err_from_is_err_and c.from_residual.result c.from_residual.ensures.1 in
    rw (p.1, p.2) (signs_nothing (JoinAnswer (g.R.Rng.stream c.args.random.now)) IsNoStop (g.R.Rng.stream c.args.random.now) (g.R.Rng.stream c.args.random.now) c.args.replica.now c.args.key.now (Err _) c.each_stands.ensures (inr (inl refl)) (inl refl) (inl refl))

pub returns-in-Ok : goal.returns-in-Ok
returns-in-Ok g c =
    let old = c.args.replica.now in
    let key = c.args.key.now in
    let new = c.join-joined.new.self in
    let key_new = c.join-joined.new.key in
    let e = c.in-Ok.ensures in
    let stream = g.R.Rng.stream c.args.random.now in
    let stream_new = g.R.Rng.stream c.fill_bytes.new.self in
    let drawn : c.fill_bytes.new.dst ≡ next_bytes stream = search rules in
    let went : stream_new ≡ after_bytes stream = search rules in
    joins_to old key new key_new c.each_stands-2.ensures e.any_moment e.used e.later e.key_later (tried_by_joining key (Ok c.in-Ok.id) key_new e.key) stream stream_new went c.in-Ok.id c.line_or_none.result
    (subst (λ (w : List ℕ). JoinsTo old.history key.secret key.taken w c.in-Ok.id new.history) drawn e.joined) e.clean e.untouched c.line_or_none.ensures e.key

pub returns-in-Err : goal.returns-in-Err
returns-in-Err g c =
    let old = c.args.replica.now in
    let key = c.args.key.now in
    let new = c.join-joined.new.self in
    let key_new = c.join-joined.new.key in
    let e = c.in-Err.ensures in
    let tried = tried_by_joining key (Err c.in-Err.fault) key_new e.key in
    let stream = g.R.Rng.stream c.args.random.now in
    let stream_new = g.R.Rng.stream c.fill_bytes.new.self in
    let drawn : c.fill_bytes.new.dst ≡ next_bytes stream = search rules in
    let went : stream_new ≡ after_bytes stream = search rules in
    subst (λ (r : Refusal). SignsOpen (JoinAnswer stream) IsNoStop stream stream_new old key new key_new (Err r)) (sym (c.made_refusal.ensures ∙ ap (λ (s : SecretData). from_make s c.in-Err.fault) (same_secret key key_new tried)))
    (joins_not old key new key_new c.each_stands-2.ensures e.any_moment e.used e.later e.key_later tried stream stream_new went c.in-Err.fault e.same
    (subst (λ (w : List ℕ). IsJoinCause old.history key.secret key.taken w c.in-Err.fault) drawn e.refused) (λ is. e.key_failed (ap Err is)) (λ is. e.log_failed (ap Err is)) e.key)
