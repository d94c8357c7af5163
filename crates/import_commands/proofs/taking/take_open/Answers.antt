use Rattle.std.proofs.Common.{◌≡◌, ◌∙◌, ◌++◌, All, Err, ap, length, subst, sym, ℕ}
use Rattle.std.proofs.lemmas.Result.{err_from_is_err_and}
use Rattle.outcomes.specs.declared.refusal.Refusal.{Refusal}
use Rattle.schema.specs.Data.{SchemaData}
use Rattle.update_check.specs.Signed.{IsChecked}
use Rattle.import_commands.specs.Taking.{ContentsData, IsOfDatabase, TakesOpen, gained_text}
use Rattle.import_commands.proofs.Opened.{not_taken, of_another, said, unsaid}
use Rattle.import_commands.proofs.taking.take_open.Goals as goal

pub commit-committed-requires-after_bounds : goal.commit-committed-requires-after_bounds
commit-committed-requires-after_bounds g c κs lives = subst (λ (s : SchemaData). All (IsChecked s.rule) c.args.contents.updates.items) c.schema.ensures (c.is_of_database.ensures.checked c.if-not-is_of_database.false)

pub returns-then-not-is_of_database : goal.returns-then-not-is_of_database
returns-then-not-is_of_database g c =
    let contents : ContentsData = record { text = c.args.contents.text.items; updates = c.args.contents.updates.items } in
    of_another contents c.args.lines.items c.args.replica.now c.each_stands.ensures
    (λ mine. let is_so = c.is_of_database.ensures.is.1 (subst (λ (s : SchemaData). IsOfDatabase s contents) (sym c.schema.ensures) mine) in let not_so = c.if-not-is_of_database.true in cc)

pub returns-in_err-push_gained-in-Ok : goal.returns-in_err-push_gained-in-Ok
returns-in_err-push_gained-in-Ok g c =
    let p = err_from_is_err_and c.from_residual.result c.from_residual.ensures.1 in
    let contents : ContentsData = record { text = c.args.contents.text.items; updates = c.args.contents.updates.items } in
    let e = c.in-Ok.ensures in
    let mine : IsOfDatabase c.args.replica.now.history.schema contents = subst (λ (s : SchemaData). IsOfDatabase s contents) c.schema.ensures (c.is_of_database.ensures.is.0 c.if-not-is_of_database.false) in
    rw (p.1, p.2) (unsaid contents c.args.lines.items c.args.replica.now c.each_stands.ensures mine c.commit-committed.new.self c.each_stands-2.ensures e.store e.any_moment e.later c.requires c.in-Ok.committed e.commits)

pub returns-in-Ok : goal.returns-in-Ok
returns-in-Ok g c =
    let contents : ContentsData = record { text = c.args.contents.text.items; updates = c.args.contents.updates.items } in
    let e = c.in-Ok.ensures in
    let mine : IsOfDatabase c.args.replica.now.history.schema contents = subst (λ (s : SchemaData). IsOfDatabase s contents) c.schema.ensures (c.is_of_database.ensures.is.0 c.if-not-is_of_database.false) in
    let count : length c.as_slice.result.now ≡ length c.in-Ok.committed.added = ap length c.as_slice.ensures in
    said contents c.args.lines.items c.args.replica.now c.each_stands.ensures mine c.commit-committed.new.self c.each_stands-2.ensures e.store e.any_moment e.later c.requires c.in-Ok.committed e.commits e.clean
    c.push_gained.new.lines (c.in_ok-push_gained-in-Ok.ensures ∙ ap (λ (n : ℕ). c.args.lines.items ++ gained_text n) count)

pub returns : goal.returns
returns g c =
    let contents : ContentsData = record { text = c.args.contents.text.items; updates = c.args.contents.updates.items } in
    let e = c.in-Err.ensures in
    let mine : IsOfDatabase c.args.replica.now.history.schema contents = subst (λ (s : SchemaData). IsOfDatabase s contents) c.schema.ensures (c.is_of_database.ensures.is.0 c.if-not-is_of_database.false) in
    subst (λ (r : Refusal). TakesOpen contents c.args.lines.items c.args.replica.now c.commit-committed.new.self (Err r)) (sym c.not_committed.ensures)
    (not_taken contents c.args.lines.items c.args.replica.now c.each_stands.ensures mine c.commit-committed.new.self c.each_stands-2.ensures e.store e.any_moment e.later c.in-Err.fault e.commits)
