use Rattle.std.proofs.Common.{◌≡◌, ◌∙◌, Err, List, Ok, ap, inl, inr, refl, rules, subst, sym, ℕ}
use Rattle.std.specs.Prelude.{Option, option_map}
use Rattle.std.proofs.lemmas.Result.{err_from_is_err_and}
use Rattle.store_directory.proofs.Signing.{tried_by}
use Rattle.lms_tree.specs.SecretKey.{SecretData}
use Rattle.update_model.specs.declared.update_id.UpdateId.{UpdateId}
use Rattle.replica.specs.Making.{saying}
use Rattle.outcomes.specs.declared.refusal.Refusal.{Refusal}
use Rattle.outcomes.specs.Outcome.{from_make}
use Rattle.node_commands.specs.Signing.{IsNoStop, MakeAnswer, SignsOpen}
use Rattle.outcomes.specs.StoreAnswers.{after_bytes, next_bytes}
use Rattle.node_commands.proofs.Signs.{makes, makes_not, same_secret, signs_nothing}
use Rattle.node_commands.proofs.commands.apply.make_update.Goals as goal

pub returns-in_err-room : goal.returns-in_err-room
returns-in_err-room g c =
    let p = err_from_is_err_and c.from_residual.result c.from_residual.ensures.1 in
    rw (p.1, p.2) (signs_nothing (MakeAnswer (saying (option_map (λ n. n.now) c.args.note) c.args.ops) (next_bytes (g.R.Rng.stream c.args.random.now))) IsNoStop (g.R.Rng.stream c.args.random.now) (g.R.Rng.stream c.args.random.now) c.args.replica.now c.args.key.now (Err _) c.each_stands.ensures (inr (inl refl)) (inl refl) (inl refl))

pub returns-in_err-text : goal.returns-in_err-text
returns-in_err-text g c =
    let p = err_from_is_err_and c.from_residual-in_err-text.result c.from_residual-in_err-text.ensures.1 in
    rw (p.1, p.2) (signs_nothing (MakeAnswer (saying (option_map (λ n. n.now) c.args.note) c.args.ops) (next_bytes (g.R.Rng.stream c.args.random.now))) IsNoStop (g.R.Rng.stream c.args.random.now) (g.R.Rng.stream c.args.random.now) c.args.replica.now c.args.key.now (Err _) c.each_stands.ensures (inr (inl refl)) (inl refl) (inl refl))

pub returns-in-Ok : goal.returns-in-Ok
returns-in-Ok g c =
    let old = c.args.replica.now in
    let key = c.args.key.now in
    let new = c.make_noted-made.new.self in
    let key_new = c.make_noted-made.new.key in
    let e = c.in-Ok.ensures in
    let stream = g.R.Rng.stream c.args.random.now in
    let stream_new = g.R.Rng.stream c.fill_bytes.new.self in
    let says = saying c.in_ok-text.text c.args.ops in
    let drawn : c.fill_bytes.new.dst ≡ next_bytes stream = search rules in
    let went : stream_new ≡ after_bytes stream = search rules in
    subst (λ (n : Option (List ℕ)). SignsOpen (MakeAnswer (saying n c.args.ops) (next_bytes stream)) IsNoStop stream stream_new old key new key_new (Ok c.id_line.result)) c.in_ok-text.ensures
    (subst (λ (w : List ℕ). SignsOpen (MakeAnswer says w) IsNoStop stream stream_new old key new key_new (Ok c.id_line.result)) drawn
    (makes old key new key_new c.each_stands-2.ensures e.any_moment e.used e.later e.key_later (tried_by key (Ok c.in-Ok.id) key_new e.key) stream stream_new went says c.fill_bytes.new.dst c.in-Ok.id c.id_line.result e.made e.clean c.id_line.ensures e.key))

pub returns-in-Err : goal.returns-in-Err
returns-in-Err g c =
    let old = c.args.replica.now in
    let key = c.args.key.now in
    let new = c.make_noted-made.new.self in
    let key_new = c.make_noted-made.new.key in
    let e = c.in-Err.ensures in
    let tried = tried_by {T = UpdateId} key (Err c.in-Err.fault) key_new e.key in
    let stream = g.R.Rng.stream c.args.random.now in
    let stream_new = g.R.Rng.stream c.fill_bytes.new.self in
    let says = saying c.in_ok-text.text c.args.ops in
    let drawn : c.fill_bytes.new.dst ≡ next_bytes stream = search rules in
    let went : stream_new ≡ after_bytes stream = search rules in
    subst (λ (n : Option (List ℕ)). SignsOpen (MakeAnswer (saying n c.args.ops) (next_bytes stream)) IsNoStop stream stream_new old key new key_new (Err c.made_refusal.result)) c.in_ok-text.ensures
    (subst (λ (w : List ℕ). SignsOpen (MakeAnswer says w) IsNoStop stream stream_new old key new key_new (Err c.made_refusal.result)) drawn
    (subst (λ (r : Refusal). SignsOpen (MakeAnswer says c.fill_bytes.new.dst) IsNoStop stream stream_new old key new key_new (Err r)) (sym (c.made_refusal.ensures ∙ ap (λ (s : SecretData). from_make s c.in-Err.fault) (same_secret key key_new tried)))
    (makes_not old key new key_new c.each_stands-2.ensures e.any_moment e.used e.later e.key_later tried stream stream_new went says c.fill_bytes.new.dst c.in-Err.fault e.same e.refused (λ is. e.key_failed (ap Err is)) (λ is. e.log_failed (ap Err is)) e.key)))
