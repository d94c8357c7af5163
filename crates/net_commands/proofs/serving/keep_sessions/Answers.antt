use Rattle.std.proofs.Common.{rules, ◌≡◌, false, refl, arith}
use Rattle.schema_verdict.specs.declared.status.TheConstants.{DONE}
use Rattle.net_commands.specs.Words.{has_status}
use Rattle.net_commands.proofs.Remembering.{remembers_none}
use Rattle.net_commands.proofs.serving.keep_sessions.Goals as goal

pub returns-then-not-has_status : goal.returns-then-not-has_status
returns-then-not-has_status g c =
    let none : has_status DONE c.args.sessions.now ≡ false = search rules in
    record {
      grows = c.settle.ensures.grows;
      clean = search rules;
      keeps = record { tells = refl; others = λ tells other away. refl; places = λ tells place here. here };
      remembers = λ tells. remembers_none c.args.peers c.args.sessions.now _ none;
      failed = tt;
      later = omega arith;
      log_later = c.settle.ensures.later;
    }
