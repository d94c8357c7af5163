use Rattle.std.proofs.Common.{ap, ◌∙◌, ◌≡◌, Result, Err, sym, subst, refl, arith, inl, length}
use Rattle.std.specs.Prelude.{MatchResult}
use Rattle.lms_tree.specs.LmsKind.{leaf_count}
use Rattle.lms_tree.specs.SecretKey.{SecretData}
use Rattle.key_index.specs.KeyState.{parts_of, store_of}
use Rattle.key_index.specs.Opening.{Holds, OpensKey, RefusesToOpen}
use Rattle.key_index.specs.declared.faults.KeyFaultKind.{KeyFaultKind}
use Rattle.key_index.specs.declared.opened.OpenedKey.{OpenedKey}
use Rattle.key_index.proofs.OpenLaws.{same_error, same_size}
use Rattle.key_index.proofs.open.read_parts.Goals as goal

pub returns-in_err-seed-clause-opens : goal.returns-in_err-seed-clause-opens
returns-in_err-seed-clause-opens g c =
    let failed = c.in_err-seed.ensures in
    let is = same_error _ c.in_err-seed.field-0.0 c.from_residual.ensures.0 c.from_residual.ensures.1 in
    let old = parts_of g.D.Disk.state g.D.Counted.faults c.args.key.now c.args.used.now in
    let new = parts_of g.D.Disk.state g.D.Counted.faults c.read_seed.new.key c.args.used.now in
    subst (λ (r : Result OpenedKey KeyFaultKind). MatchResult r (λ opened. OpensKey old (store_of g.D.Disk.state g.D.Counted.faults c.read_seed.new.key c.args.used.now opened.secret opened.indices)) (λ why. RefusesToOpen old why new))
    (sym is)
    record {
      same = record { key_same = failed.same; used_same = refl };
      later = record { key_later = failed.later; used_later = omega arith };
      no_key = λ told why. failed.no_key told.0 (ap (λ (e : KeyFaultKind). Err e) why);
      bad_file = λ told why.
          let none = failed.bad_file told.0 (ap (λ (e : KeyFaultKind). Err e) why) in record { there = none.there; no_key = λ secret are. none.no_secret secret are.holds };
      disk_fault = λ why. inl (failed.failed (ap (λ (e : KeyFaultKind). Err e) why));
    }

pub returns-clause-opens : goal.returns-clause-opens
returns-clause-opens g c =
    let held = c.in_ok-seed.ensures in
    let read = rw c.in-Some.is at c.in_ok-taken.ensures in
    let made = c.in_ok-make.ensures in
    let count : length c.in-Some.taken.items ≡ leaf_count c.in_ok-make.field-0.secret.lms =
    sym c.in-Some.taken.ok.0 ∙ read.size ∙ c.leaf_count.ensures ∙ ap (λ (s : SecretData). leaf_count s.lms) (c.seed.view_is ∙ sym made.secret) in
    record {
      same = record { key_same = held.same; used_same = read.same };
      later = record { key_later = held.later; used_later = read.later };
      holds = λ tells. subst (Holds (g.D.Disk.state c.args.key.now).seen) (sym made.secret) (held.held tells);
      size = λ tells. same_size c.in-Some.taken.items _ _ (read.value tells) count;
      taken = λ tells. made.used ∙ read.value tells;
      tried = refl;
    }
