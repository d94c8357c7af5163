use Rattle.std.proofs.Common.{Err, refl}
use Rattle.demonstration.specs.Sites.{makes, refuses}
use Rattle.demonstration.proofs.Sites.{key_kept, on_ok}
use Rattle.demonstration.proofs.author.Author.make.Goals as goal

pub returns-in-Ok : goal.returns-in-Ok
returns-in-Ok c = makes _ c.in-Ok.id c.in-Ok.ensures.made refl c.in-Ok.ensures.key

pub returns-in-Err : goal.returns-in-Err
returns-in-Err c = on_ok c.passed_over.result c.passed_over.ensures
    (λ refusal. refuses _ c.in-Err.why refusal c.in-Err.ensures.refused c.in-Err.ensures.same (key_kept c.args.self.now.key c.make.new.key (Err c.in-Err.why) c.in-Err.ensures.key))
