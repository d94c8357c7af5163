use Rattle.outcomes.specs.StoreAnswers.{Printing}
use Rattle.outcomes.proofs.StoreOnce.{StoreLaws, printed_once, read_answered}
use Rattle.audit_commands.specs.Audits.{ShowsDoubled}
use Rattle.audit_commands.proofs.AuditOnce.{audit_shown, confirm_answered}
use Rattle.audit_commands.proofs.laws.one_answer_of_audits.Goals as goal

pub returns : goal.returns
returns c =
    let stores : StoreLaws = record { one_store = c.one_store.ensures; not_bad = c.store_or_not.ensures.not_bad; no_store = c.store_or_not.ensures.no_store; bad_store = c.store_or_not.ensures.bad_store } in
    record { audit = read_answered stores (Printing ShowsDoubled) (printed_once ShowsDoubled (audit_shown c.found_once.ensures)); confirm = confirm_answered c.one_certificate.ensures }
