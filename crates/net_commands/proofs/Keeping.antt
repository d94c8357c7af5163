-- Why a log was not settled, or what is remembered not kept.
use Rattle.std.proofs.Common.{◌≡◌, ◌⊎◌, inl, inr, ℕ, ◌<◌, refl, arith}
use Rattle.bec_bytes.specs.Causes.{Rose}
use Rattle.bec_disk.specs.declared.disk_error.DiskError.{DiskError}
use Rattle.bec_disk.specs.declared.disk_error.DiskError.TheVariants.{DiskFault, Memory}
use Rattle.replica.specs.Replicas.{ReplicaState}
use Rattle.session_server.specs.declared.ending.Ending.TheVariants.{Done}
use Rattle.session_server.specs.declared.served.Served.{Served}
use Rattle.outcomes.specs.declared.refusal.Refusal.TheVariants as refusals
use Rattle.outcomes.specs.Outcome.{from_disk}
use Rattle.net_commands.specs.Open.{IsKeepFault}

module _ (faults faults_new : ℕ) (now : ReplicaState) where
  -- by the log, or by the shelf, after a session that is done
  pub log_fault : (log_faults : ℕ) (served : Served) (error : DiskError) → served.ending ≡ Done → (error ≡ DiskFault → Rose log_faults now.log.faults) → IsKeepFault faults faults_new now served (from_disk error)
  log_fault log_faults served Memory done failed = inl refl
  log_fault log_faults served DiskFault done failed = let rose = failed refl in inr (refl, done, inr (omega (arith, rose)))

  pub shelf_fault : (served : Served) (error : DiskError) → served.ending ≡ Done → (error ≡ DiskFault → Rose faults faults_new) → IsKeepFault faults faults_new now served (from_disk error)
  shelf_fault served Memory done failed = inl refl
  shelf_fault served DiskFault done failed = inr (refl, done, inl (failed refl))

  -- by the log, after several sessions
  pub log_faults : (log_faults_old : ℕ) (error : DiskError) → (error ≡ DiskFault → Rose log_faults_old now.log.faults)
      → (from_disk error ≡ refusals.Memory) ⊎ ((from_disk error ≡ refusals.StoreFault) × (Rose faults faults_new ⊎ (0 < now.log.faults)))
  log_faults log_faults_old Memory failed = inl refl
  log_faults log_faults_old DiskFault failed = let rose = failed refl in inr (refl, inr (omega (arith, rose)))
