-- Whom a command over worlds blames: no store, and a stream only where the source or the sink failed.
use Rattle.std.proofs.Common.{◌≡◌, ◌⊎◌, inl, inr, ℕ, Bool, List, sym, ◌∙◌, Option, arith}
use Rattle.bec_bytes.specs.Causes.{Rose}
use Rattle.schema_verdict.specs.Checks.{SourceState}
use Rattle.schema_verdict.specs.Written.{Puts, SinkState}
use Rattle.schema_verdict.specs.declared.status.TheConstants.{DONE, REFUSED, STORE_FAULT, STREAM_FAULT}
use Rattle.world_commands.specs.Answers.{TellsWorld, nothing_said, refused_so, reported_so, source_failed}
use Rattle.world_commands.specs.Demos.{TellsDemo, counted, uncounted}

put_store : (old new : ℕ) (held held_new : Option (List ℕ)) (own : ℕ) (text : List ℕ) (status : ℕ) → Puts old new held held_new own text status → status ≡ STORE_FAULT → own ≡ STORE_FAULT
put_store old new held held_new own text status (inl whole) e = sym whole.0 ∙ e
put_store old new held held_new own text status (inr front) e = absurd (let is = front.0 in omega (arith, e, is))

put_stream : (old new : ℕ) (held held_new : Option (List ℕ)) (own : ℕ) (text : List ℕ) (status : ℕ) → Puts old new held held_new own text status → status ≡ STREAM_FAULT
    → (own ≡ STREAM_FAULT) ⊎ Rose old new
put_stream old new held held_new own text status (inl whole) e = inl (sym whole.0 ∙ e)
put_stream old new held held_new own text status (inr front) e = inr front.1

-- where its own status is none of a stream fault, the sink failed
sink_failed : {A B : Type 0} (own : ℕ) → (own ≡ STREAM_FAULT → ⊥) → (own ≡ STREAM_FAULT) ⊎ B → A ⊎ B
sink_failed own other (inl is) = absurd (other is)
sink_failed own other (inr rose) = inr rose

module _ (sink sink_new : SinkState) (status : ℕ) where
  pub world_store : (audit : Bool) (source source_new : SourceState) → TellsWorld audit source source_new sink sink_new status → status ≡ STORE_FAULT → ⊥
  world_store audit source source_new (reported_so report outcome prints answer puts) e =
      let own = put_store sink.faults sink_new.faults sink.held sink_new.held DONE report status puts e in omega (arith, own)
  world_store audit source source_new (refused_so why answer puts) e =
      let own = put_store sink.faults sink_new.faults sink.held sink_new.held REFUSED _ status puts e in omega (arith, own)
  world_store audit source source_new (source_failed rose puts) e =
      let own = put_store sink.faults sink_new.faults sink.held sink_new.held STREAM_FAULT _ status puts e in omega (arith, own)
  world_store audit source source_new (nothing_said is none) e = omega (arith, e, is)

  pub world_stream : (audit : Bool) (source source_new : SourceState) → TellsWorld audit source source_new sink sink_new status → status ≡ STREAM_FAULT
      → Rose source.faults source_new.faults ⊎ Rose sink.faults sink_new.faults
  world_stream audit source source_new (reported_so report outcome prints answer puts) e =
      sink_failed DONE (λ own. omega (arith, own)) (put_stream sink.faults sink_new.faults sink.held sink_new.held DONE report status puts e)
  world_stream audit source source_new (refused_so why answer puts) e =
      sink_failed REFUSED (λ own. omega (arith, own)) (put_stream sink.faults sink_new.faults sink.held sink_new.held REFUSED _ status puts e)
  world_stream audit source source_new (source_failed rose puts) e = inl rose
  world_stream audit source source_new (nothing_said is none) e = absurd (let own = is in omega (arith, e, own))

  pub demo_store : (number count : ℕ) → TellsDemo number count sink sink_new status → status ≡ STORE_FAULT → ⊥
  demo_store number count (counted counts are demo puts) e =
      let own = put_store sink.faults sink_new.faults sink.held sink_new.held DONE _ status puts e in omega (arith, own)
  demo_store number count (uncounted is none) e = omega (arith, e, is)

  pub demo_stream : {A : Type 0} (number count : ℕ) → TellsDemo number count sink sink_new status → status ≡ STREAM_FAULT → A ⊎ Rose sink.faults sink_new.faults
  demo_stream number count (counted counts are demo puts) e =
      sink_failed DONE (λ own. omega (arith, own)) (put_stream sink.faults sink_new.faults sink.held sink_new.held DONE _ status puts e)
  demo_stream number count (uncounted is none) e = absurd (let own = is in omega (arith, e, own))
