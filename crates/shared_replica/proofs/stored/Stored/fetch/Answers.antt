use Rattle.std.proofs.Common.{rules, ◌≡◌, ◌<◌, ◌≤◌, ℕ, List, Some, length, slice_get, sym, ap, ◌∙◌, subst}
use Rattle.update_codec.specs.declared.limits.TheConstants.{UPDATE_LIMIT}
use Rattle.shared_replica.proofs.Growing.{updates_now}
use Rattle.shared_replica.proofs.stored.Stored.fetch.Goals as goal

pub update_at-requires-after_bounds : goal.update_at-requires-after_bounds
update_at-requires-after_bounds g c κs within = subst (λ (us : List (List ℕ)). c.args.position < length us) (sym (updates_now _ _ _ _ _ c.self.invariant _ c.self.view_is)) c.requires

pub returns-clause-bytes : goal.returns-clause-bytes
returns-clause-bytes g c =
    let same : c.in_ok-copy.copy ≡ c.update_at.result.now = search rules in
    let bytes : c.from_vec.result ≡ c.in_ok-copy.copy = search rules in
    ap (λ us. slice_get us c.args.position) (sym (updates_now _ _ _ _ _ c.self.invariant _ c.self.view_is)) ∙ c.update_at.ensures ∙ ap Some (sym (bytes ∙ same))

pub returns-clause-short : goal.returns-clause-short
returns-clause-short g c =
    let bytes : c.from_vec.result ≡ c.in_ok-copy.copy = search rules in
    subst (λ (b : List ℕ). length b ≤ UPDATE_LIMIT) (sym bytes) c.into_bytes.ensures.signed.1.spells.short
