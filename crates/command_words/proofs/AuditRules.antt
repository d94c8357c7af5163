-- The request about keys that signed twice that is read from words is the one that the rules tell.
use Rattle.std.proofs.Common.{◌≡◌, ◌∙◌, ap, List, [], ◌∷◌, Some, option_map, subst, codes}
use Rattle.std.specs.Prelude.{◌↔◌}
use Rattle.clap.specs.Words.{Row, Text}
use Rattle.command_words.specs.AuditRequests.{AsksAudit, AuditText, audit, confirm, confirm_app, for_audit, for_confirm}
use Rattle.command_words.specs.AuditCommands.{audit_request_named, audit_request_of, confirm_of}
use Rattle.command_words.specs.Requests.{directory_app}
use Rattle.command_words.specs.Words.{rows_given}
use Rattle.command_words.proofs.Rules.{alone, either, from_one, mapped, named, rows_are, takes}

pub by_rule : (words : List Text) (request : AuditText) → AsksAudit words request → audit_request_of words ≡ Some request
by_rule words request (for_audit directory h g) =
    named audit_request_named (codes "audit") (directory_app (codes "audit")) words h ∙ ap (option_map audit) (alone (codes "audit") words directory h g)
by_rule words request (for_confirm h) =
    named audit_request_named (codes "confirm") confirm_app words h ∙ ap (option_map (λ (rows : List Row). confirm)) (rows_are (codes "confirm") confirm_app words h)

from_confirm : (words rest : List Text) (request : AuditText) → words ≡ codes "confirm" ∷ rest → confirm_of words ≡ Some request → AsksAudit words request
from_confirm words rest request n e =
    let m = mapped (λ (rows : List Row). confirm) (rows_given confirm_app words) request e in
    let t = takes (codes "confirm") confirm_app words rest m.0 n m.1 in
    subst (λ (r : AuditText). AsksAudit words r) m.2 (for_confirm t.0)

pub to_rule : (words : List Text) (request : AuditText) → audit_request_of words ≡ Some request → AsksAudit words request
to_rule [] request e = absurd (cc)
to_rule (first ∷ rest) request e =
    let words : List Text = first ∷ rest in
    either first (codes "audit") rest request _ _ (λ n. from_one (λ (r : AuditText). AsksAudit words r) (codes "audit") audit words rest request n for_audit)
    (either first (codes "confirm") rest request _ _ (λ n. from_confirm words rest request n) (λ e. absurd (cc))) e

pub are_by_rule : (words : List Text) (request : AuditText) → AsksAudit words request ↔ (audit_request_of words ≡ Some request)
are_by_rule words request = (by_rule words request, to_rule words request)

pub one_only : (words : List Text) (request other : AuditText) → AsksAudit words request → AsksAudit words other → request ≡ other
one_only words request other h k = let a = by_rule words request h in let b = by_rule words other k in cc
