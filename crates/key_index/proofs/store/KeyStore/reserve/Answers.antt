use Rattle.std.proofs.Common.{ℕ, ◌≡◌, [], ◌∷◌, refl, sym, subst, arith, Result, Err, Ok, Some}
use Rattle.bec_disk.specs.Disk.{overwritten}
use Rattle.key_index.specs.KeyState.{KeyState, store_of}
use Rattle.key_index.specs.Reserving.{Reserves}
use Rattle.key_index.specs.declared.reserve.Reserve.{Reserve}
use Rattle.key_index.specs.declared.reserve.Reserve.TheVariants.{DiskFault}
use Rattle.key_index.proofs.ReserveLaws.{has_tried, is_unused, only_fault, reserve_answers, reserve_fails, still_store}
use Rattle.key_index.proofs.store.KeyStore.reserve.Goals as goal

pub write_synced-requires : goal.write_synced-requires
write_synced-requires g c tells =
    let at = is_unused c.self.inside.indices c.in-Some.index (sym c.in-Some.ensures.least) in
    let unused = c.self.invariant.free tells c.in-Some.index at.0 at.1 _ (g.met.D.Disk.reads c.self.inside.used tells) in
    omega (arith, unused.within)

pub invariant_of-self-in_err-write_synced : goal.invariant_of-self-in_err-write_synced
invariant_of-self-in_err-write_synced g c =
    let here = c.self.inside in
    let old : KeyState = record (store_of g.D.Disk.state g.D.Counted.faults here.key here.used here.secret here.indices) { tried = here.tried } in
    let new : KeyState = record (store_of g.D.Disk.state g.D.Counted.faults here.key c.write_synced.new.disk here.secret c.take_least.new.self) { tried = Some c.in-Some.index } in
    let tried =
    has_tried old new c.in-Some.index c.from.result c.self.invariant (g.met.D.Disk.reads here.used) c.in-Some.ensures.least c.in-Some.ensures.used refl
    c.from.ensures c.write_synced.ensures.any_moment c.write_synced.ensures.cause.later refl refl refl in
    still_store old new c.in-Some.index tried

pub invariant_of-self-2 : goal.invariant_of-self-2
invariant_of-self-2 g c =
    let here = c.self.inside in
    let old : KeyState = record (store_of g.D.Disk.state g.D.Counted.faults here.key here.used here.secret here.indices) { tried = here.tried } in
    let new : KeyState = record (store_of g.D.Disk.state g.D.Counted.faults here.key c.write_synced.new.disk here.secret c.take_least.new.self) { tried = Some c.in-Some.index } in
    let tried =
    has_tried old new c.in-Some.index c.from.result c.self.invariant (g.met.D.Disk.reads here.used) c.in-Some.ensures.least c.in-Some.ensures.used refl
    c.from.ensures c.write_synced.ensures.any_moment c.write_synced.ensures.cause.later refl refl refl in
    still_store old new c.in-Some.index tried

pub returns-in_err-write_synced : goal.returns-in_err-write_synced
returns-in_err-write_synced g c =
    let here = c.self.inside in
    let old : KeyState = record (store_of g.D.Disk.state g.D.Counted.faults here.key here.used here.secret here.indices) { tried = here.tried } in
    let new : KeyState = record (store_of g.D.Disk.state g.D.Counted.faults here.key c.write_synced.new.disk here.secret c.take_least.new.self) { tried = Some c.in-Some.index } in
    let tried =
    has_tried old new c.in-Some.index c.from.result c.self.invariant (g.met.D.Disk.reads here.used) c.in-Some.ensures.least c.in-Some.ensures.used refl
    c.from.ensures c.write_synced.ensures.any_moment c.write_synced.ensures.cause.later refl refl refl in
    subst (λ (r : Result ℕ Reserve). Reserves c.args.self.now r new) (sym (only_fault _ c.from_residual.ensures.0 c.from_residual.ensures.1))
    (subst (λ (k : KeyState). Reserves k (Err DiskFault) new) c.self.view_is (reserve_fails old new c.in-Some.index tried c.in_err-write_synced.ensures.cause.failed))

pub returns : goal.returns
returns g c =
    let here = c.self.inside in
    let old : KeyState = record (store_of g.D.Disk.state g.D.Counted.faults here.key here.used here.secret here.indices) { tried = here.tried } in
    let new : KeyState = record (store_of g.D.Disk.state g.D.Counted.faults here.key c.write_synced.new.disk here.secret c.take_least.new.self) { tried = Some c.in-Some.index } in
    let tried =
    has_tried old new c.in-Some.index c.from.result c.self.invariant (g.met.D.Disk.reads here.used) c.in-Some.ensures.least c.in-Some.ensures.used refl
    c.from.ensures c.write_synced.ensures.any_moment c.write_synced.ensures.cause.later refl refl refl in
    subst (λ (k : KeyState). Reserves k (Ok c.in-Some.index) new) c.self.view_is
    (reserve_answers old new c.in-Some.index tried
    (λ tells. subst (λ (k : ℕ). (g.D.Disk.state c.write_synced.new.disk).seen ≡ overwritten (g.D.Disk.state here.used).seen k (1 ∷ [])) c.from.ensures (c.in_ok-write_synced.ensures.written tells))
    c.in_ok-write_synced.ensures.settled)
