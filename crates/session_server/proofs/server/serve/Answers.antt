use Rattle.std.proofs.Common.{rules, ◌≡◌, [], length, refl, ap, arith}
use Rattle.std.proofs.lemmas.List.Elements.{All-nil}
use Rattle.bec_links.specs.Nets.{NetState}
use Rattle.session_server.specs.Serving.{IsResponse, IsTold, IsWithin}
use Rattle.session_server.proofs.Passing.{prefix_self}
use Rattle.session_server.proofs.server.serve.Goals as goal

pub returns-in-Err : goal.returns-in-Err
returns-in-Err g c =
    let e = c.in-Err.ensures in let empty : c.from_vec.result ≡ [] = search rules in let none = ap length empty in record {
      same_lock = refl;
      same_number = refl;
      same_acts = refl;
      seen = prefix_self c.args.pass.seen;
      ran = [];
      links = ap (λ (s : NetState). s.coming) e.tried;
      responses = All-nil (IsResponse c.args.common.now.rule.now c.args.common.now.peers.now c.args.pass);
      given = ap (λ (s : NetState). s.given) e.tried;
      out = ap (λ (s : NetState). s.out) e.tried;
      failed = ap (λ (s : NetState). s.failed) e.tried;
      later = e.cause.later;
      told = All-nil (IsTold _ _);
      within = λ none. All-nil (IsWithin c.args.pass);
      apart = λ none. tt;
      counted = λ none. empty;
      whole = λ none is. absurd (cc (is));
      fewer = λ is. ((let some = c.requires.some in omega (arith, some, none)), (let n = ap (λ (s : NetState). s.failed) e.tried in omega (arith, n)), e.cause.failed);
    }
