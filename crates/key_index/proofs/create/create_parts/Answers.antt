use Rattle.std.proofs.Common.{◌≡◌, ap, ◌∙◌, IsTrue, Result, Err, sym, subst, refl, arith, inl, length}
use Rattle.std.specs.Prelude.{IfErr, MatchResult, false, replicate}
use Rattle.std.proofs.Math.Nat.{le_refl}
use Rattle.bec_disk.specs.Disk.{DiskState, IsSettled}
use Rattle.bec_disk.specs.declared.disk_error.DiskError.{DiskError}
use Rattle.key_index.specs.Creating.{CreatesKey, RefusesToCreate, drawn_key}
use Rattle.key_index.specs.Faults.{creating_kind}
use Rattle.lms_tree.specs.LmsKind.{leaf_count}
use Rattle.lms_tree.specs.SecretKey.{SecretData}
use Rattle.key_index.specs.KeyState.{AreLater, AreSame, OneRose, parts_of, store_of}
use Rattle.key_index.specs.Payload.{payload_of}
use Rattle.key_index.specs.Used.{none_used}
use Rattle.key_index.specs.declared.faults.CreateKeyKind.TheVariants.{DiskFault, KeyThere}
use Rattle.key_index.specs.declared.faults.CreateKeyKind.{CreateKeyKind}
use Rattle.key_index.specs.declared.opened.OpenedKey.{OpenedKey}
use Rattle.key_index.proofs.CreateLaws.{not_there, nothing_written, parts_written, refused_early, unused_count, writing_failed}
use Rattle.key_index.proofs.OpenLaws.{same_error}
use Rattle.key_index.proofs.create.create_parts.Goals as goal

pub returns-in_err-read_gated-clause-creates : goal.returns-in_err-read_gated-clause-creates
returns-in_err-read_gated-clause-creates g c =
    let failed = c.in_err-read_gated.ensures in
    let error = c.in_err-read_gated.field-0.0 in
    let is = same_error _ (creating_kind error) c.from_residual.ensures.0 c.from_residual.ensures.1 in
    let secret = drawn_key c.args.types.lms c.args.types.ots (g.R.Rng.stream c.args.random.now) in
    let old = parts_of g.D.Disk.state g.D.Counted.faults c.args.key.now c.args.used.now in
    let new = parts_of g.D.Disk.state g.D.Counted.faults c.read_gated.new.disk c.args.used.now in
    subst (λ (r : Result OpenedKey CreateKeyKind). MatchResult r (λ opened. CreatesKey secret old (store_of g.D.Disk.state g.D.Counted.faults c.read_gated.new.disk c.args.used.now opened.secret opened.indices)) (λ why. RefusesToCreate secret old why new))
    (sym is)
    (refused_early secret old new error c.requires (record { key_same = failed.same; used_same = refl }) (record { key_later = failed.later; used_later = omega arith })
    (λ why. inl (failed.failed (ap (λ (e : DiskError). Err e) why))))

pub returns-in_default : goal.returns-in_default
returns-in_default g c =
    let there = c.in_ok-read_gated.ensures in
    let secret = drawn_key c.args.types.lms c.args.types.ots (g.R.Rng.stream c.args.random.now) in
    let old = parts_of g.D.Disk.state g.D.Counted.faults c.args.key.now c.args.used.now in
    let new = parts_of g.D.Disk.state g.D.Counted.faults c.read_gated.new.disk c.args.used.now in
    let same : AreSame old new = record { key_same = there.same; used_same = refl } in
    record {
      creates = record {
        creating = nothing_written secret old new c.requires same (record { key_later = there.later; used_later = omega arith });
        key_there = λ tells why absent. c.in_default.not-Absent (there.value tells ∙ absent);
        same = λ why. same;
        disk_fault = λ why. absurd {A = OneRose old new} cc;
      };
      drawn = tt;
      may_draw = inl refl;
      undrawn = λ why. refl;
    }

pub write_parts-requires-clause-settled : goal.write_parts-requires-clause-settled
write_parts-requires-clause-settled g c = record {
  key_settled = subst (λ (s : DiskState). IsTrue s.tells → IsSettled s) (sym c.in_ok-read_gated.ensures.same) c.requires.key_settled;
  used_settled = c.requires.used_settled;
}

pub write_parts-requires-clause-zeros : goal.write_parts-requires-clause-zeros
write_parts-requires-clause-zeros g c =
    let zeros = c.deref-2.ensures.value ∙ c.in_ok-fresh.ensures.unused in
    zeros ∙ ap none_used (sym (unused_count c.deref-2.result.now (leaf_count c.draw_seed-seed.result.lms) zeros))

pub returns-in_err-fresh-clause-creates : goal.returns-in_err-fresh-clause-creates
returns-in_err-fresh-clause-creates g c =
    let error = c.in_err-fresh.field-0.0 in
    let is = same_error _ (creating_kind error) c.from_residual-in_err-fresh.ensures.0 c.from_residual-in_err-fresh.ensures.1 in
    let there = c.in_ok-read_gated.ensures in
    let secret = drawn_key c.args.types.lms c.args.types.ots (g.R.Rng.stream c.args.random.now) in
    let old = parts_of g.D.Disk.state g.D.Counted.faults c.args.key.now c.args.used.now in
    let mid = parts_of g.D.Disk.state g.D.Counted.faults c.read_gated.new.disk c.args.used.now in
    let same : AreSame old mid = record { key_same = there.same; used_same = refl } in
    let later : AreLater old mid = record { key_later = there.later; used_later = le_refl _ } in
    subst (λ (r : Result OpenedKey CreateKeyKind). MatchResult r (λ opened. CreatesKey secret old (store_of g.D.Disk.state g.D.Counted.faults c.read_gated.new.disk c.args.used.now opened.secret opened.indices)) (λ why. RefusesToCreate secret old why mid))
    (sym is)
    (refused_early secret old mid error c.requires same later (λ why. absurd (c.in_err-fresh.ensures.memory (ap (λ (e : DiskError). Err e) why))))

pub returns-in_err-fresh-clause-undrawn : goal.returns-in_err-fresh-clause-undrawn
returns-in_err-fresh-clause-undrawn g c =
    let error = c.in_err-fresh.field-0.0 in
    let is = same_error _ (creating_kind error) c.from_residual-in_err-fresh.ensures.0 c.from_residual-in_err-fresh.ensures.1 in
    subst (λ (r : Result OpenedKey CreateKeyKind). IfErr r (λ why. why ≡ KeyThere → g.R.Rng.stream c.draw_seed-seed.new.random ≡ g.R.Rng.stream c.args.random.now)) (sym is) (λ why. absurd (not_there error why))

pub returns-in_err-write_parts-clause-creates : goal.returns-in_err-write_parts-clause-creates
returns-in_err-write_parts-clause-creates g c =
    let is = same_error _ DiskFault c.from_residual-in_err-write_parts.ensures.0 c.from_residual-in_err-write_parts.ensures.1 in
    let there = c.in_ok-read_gated.ensures in
    let secret = drawn_key c.args.types.lms c.args.types.ots (g.R.Rng.stream c.args.random.now) in
    let old = parts_of g.D.Disk.state g.D.Counted.faults c.args.key.now c.args.used.now in
    let mid = parts_of g.D.Disk.state g.D.Counted.faults c.read_gated.new.disk c.args.used.now in
    let same : AreSame old mid = record { key_same = there.same; used_same = refl } in
    let later : AreLater old mid = record { key_later = there.later; used_later = le_refl _ } in
    let drawn = c.draw_seed-seed.ensures.value in
    let absent = λ (tells : IsTrue old.key.tells). sym (there.value tells) ∙ c.in-Absent.is in
    let spelled = c.deref.ensures.value ∙ c.in_ok-fresh.ensures.payload.spelled ∙ ap payload_of drawn in
    let long = unused_count c.deref-2.result.now (leaf_count secret.lms) (c.deref-2.ensures.value ∙ c.in_ok-fresh.ensures.unused ∙ ap (λ (s : SecretData). none_used (leaf_count s.lms)) drawn) in
    let new = parts_of g.D.Disk.state g.D.Counted.faults c.write_parts.new.key c.write_parts.new.used in
    subst (λ (r : Result OpenedKey CreateKeyKind). MatchResult r (λ opened. CreatesKey secret old (store_of g.D.Disk.state g.D.Counted.faults c.write_parts.new.key c.write_parts.new.used opened.secret opened.indices)) (λ why. RefusesToCreate secret old why new))
    (sym is)
    (writing_failed secret old mid new c.deref.result.now (length c.deref-2.result.now) _ same later absent spelled long c.in_err-write_parts.ensures)

pub returns-in_err-write_parts-clause-undrawn : goal.returns-in_err-write_parts-clause-undrawn
returns-in_err-write_parts-clause-undrawn g c =
    let is = same_error _ DiskFault c.from_residual-in_err-write_parts.ensures.0 c.from_residual-in_err-write_parts.ensures.1 in
    subst (λ (r : Result OpenedKey CreateKeyKind). IfErr r (λ why. why ≡ KeyThere → g.R.Rng.stream c.draw_seed-seed.new.random ≡ g.R.Rng.stream c.args.random.now)) (sym is) (λ why. absurd cc)

pub returns-clause-creates : goal.returns-clause-creates
returns-clause-creates g c =
    let there = c.in_ok-read_gated.ensures in
    let secret = drawn_key c.args.types.lms c.args.types.ots (g.R.Rng.stream c.args.random.now) in
    let old = parts_of g.D.Disk.state g.D.Counted.faults c.args.key.now c.args.used.now in
    let mid = parts_of g.D.Disk.state g.D.Counted.faults c.read_gated.new.disk c.args.used.now in
    let same : AreSame old mid = record { key_same = there.same; used_same = refl } in
    let later : AreLater old mid = record { key_later = there.later; used_later = le_refl _ } in
    let drawn = c.draw_seed-seed.ensures.value in
    let absent = λ (tells : IsTrue old.key.tells). sym (there.value tells) ∙ c.in-Absent.is in
    let spelled = c.deref.ensures.value ∙ c.in_ok-fresh.ensures.payload.spelled ∙ ap payload_of drawn in
    let long = unused_count c.deref-2.result.now (leaf_count secret.lms) (c.deref-2.ensures.value ∙ c.in_ok-fresh.ensures.unused ∙ ap (λ (s : SecretData). none_used (leaf_count s.lms)) drawn) in
    let opened = c.in_ok-fresh.fresh.opened in
    let store = store_of g.D.Disk.state g.D.Counted.faults c.write_parts.new.key c.write_parts.new.used opened.secret opened.indices in
    parts_written secret old mid store c.deref.result.now (length c.deref-2.result.now) _ same later absent spelled long c.in_ok-write_parts.ensures (c.in_ok-fresh.ensures.secret ∙ drawn)
    (c.in_ok-fresh.ensures.indices ∙ ap (λ (s : SecretData). replicate (leaf_count s.lms) false) drawn) refl
