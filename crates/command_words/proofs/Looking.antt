-- Words that ask for something else ask for nothing that looks at a store: no first word of theirs is one of its.
use Rattle.std.proofs.Common.{◌≡◌, ap, List, None}
use Rattle.clap.specs.Words.{Text}
use Rattle.command_words.specs.AuditRequests.{AsksAudit, AuditText, for_audit, for_confirm}
use Rattle.command_words.specs.LookRequests.{look_request_of}
use Rattle.command_words.specs.NetRequests.{AsksNet, NetText, for_serve, for_sync}
use Rattle.command_words.specs.Requests.{Asks, RequestText, for_apply, for_check, for_dump, for_export, for_heads, for_init, for_join, for_keygen, for_merge, for_notes, for_query}
use Rattle.command_words.specs.SealRequests.{AsksSeal, SealText, for_hsskey, for_seal, for_unseal}
use Rattle.command_words.specs.WatchRequests.{AsksWatch, WatchText, for_watch}
use Rattle.command_words.specs.WorldRequests.{AsksWorld, WorldText, for_demo, for_world}

pub of_alone : (words : List Text) (request : RequestText) → Asks words request → look_request_of words ≡ None
of_alone words request (for_heads h) = ap look_request_of h.named
of_alone words request (for_check h) = ap look_request_of h.named
of_alone words request (for_dump h) = ap look_request_of h.named
of_alone words request (for_init directory h g) = ap look_request_of h.named
of_alone words request (for_keygen directory height width h d e f) = ap look_request_of h.named
of_alone words request (for_apply directory text h d n) = ap look_request_of h.named
of_alone words request (for_join directory h g) = ap look_request_of h.named
of_alone words request (for_export directory h g) = ap look_request_of h.named
of_alone words request (for_query directory text h f s) = ap look_request_of h.named
of_alone words request (for_merge first second h f s differ) = ap look_request_of h.named
of_alone words request (for_notes directory h g) = ap look_request_of h.named

pub of_net : (words : List Text) (request : NetText) → AsksNet words request → look_request_of words ≡ None
of_net words request (for_sync directory address h d a) = ap look_request_of h.named
of_net words request (for_serve directory address sessions h d a n least most) = ap look_request_of h.named

pub of_seals : (words : List Text) (request : SealText) → AsksSeal words request → look_request_of words ≡ None
of_seals words request (for_hsskey directory height width h d e f) = ap look_request_of h.named
of_seals words request (for_seal directory h g) = ap look_request_of h.named
of_seals words request (for_unseal key_word signature_word key signature h k read s decoded) = ap look_request_of h.named

pub of_watching : (words : List Text) (request : WatchText) → AsksWatch words request → look_request_of words ≡ None
of_watching words request (for_watch directory text every h d t is) = ap look_request_of h.named

pub of_audits : (words : List Text) (request : AuditText) → AsksAudit words request → look_request_of words ≡ None
of_audits words request (for_audit directory h g) = ap look_request_of h.named
of_audits words request (for_confirm h) = ap look_request_of h.named

pub of_worlds : (words : List Text) (request : WorldText) → AsksWorld words request → look_request_of words ≡ None
of_worlds words request (for_world h) = ap look_request_of h.named
of_worlds words request (for_demo number count h n small c least most) = ap look_request_of h.named
