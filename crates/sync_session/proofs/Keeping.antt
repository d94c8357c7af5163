-- What goes on at a holder that a call leaves alone.
use Rattle.std.proofs.Common.{◌≢◌, Some, Result, Ok, Err, IfOk}
use Rattle.std.specs.declared.alloc.AllocError.{AllocError}
use Rattle.session_rules.specs.declared.end.End.TheVariants.{Full, Store}
use Rattle.sync_session.specs.declared.out.Out.{Out}

-- what holds anyway
pub whole_anyway : (r : Result Out AllocError) (X : Type 0) → X → IfOk r (λ out. out.end ≢ Some Full → out.end ≢ Some Store → X)
whole_anyway (Ok out) X x = λ room disk. x
whole_anyway (Err e) X x = tt
