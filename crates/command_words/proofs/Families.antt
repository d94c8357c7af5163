-- No words ask for things of two kinds: the first of them tells the kind.
use Rattle.std.proofs.Common.{◌≡◌, ℕ, ◌||◌, ap, List, [], ◌∷◌, if◌then◌else◌, codes}
use Rattle.std.specs.Prelude.{bytes_eq}
use Rattle.clap.specs.Words.{Text}
use Rattle.command_words.specs.AuditRequests.{AsksAudit, AuditText, for_audit, for_confirm}
use Rattle.command_words.specs.NetRequests.{AsksNet, NetText, for_serve, for_sync}
use Rattle.command_words.specs.Requests.{Asks, RequestText, for_apply, for_check, for_dump, for_export, for_heads, for_init, for_join, for_keygen, for_merge, for_notes, for_query}
use Rattle.command_words.specs.SealRequests.{AsksSeal, SealText, for_hsskey, for_seal, for_unseal}
use Rattle.command_words.specs.WatchRequests.{AsksWatch, WatchText, for_watch}
use Rattle.command_words.specs.WorldRequests.{AsksWorld, WorldText, for_demo, for_world}

-- the kind of a command by its name: 1 over a net, 2 about seals, 3 to watch, 4 about keys that signed twice, 5 about worlds, 0 any other
abbrev kind_of : Text → ℕ
kind_of name =
    if bytes_eq name (codes "sync") || bytes_eq name (codes "serve") then 1
    else if bytes_eq name (codes "hsskey") || (bytes_eq name (codes "seal") || bytes_eq name (codes "unseal")) then 2
    else if bytes_eq name (codes "watch") then 3
    else if bytes_eq name (codes "audit") || bytes_eq name (codes "confirm") then 4
    else if bytes_eq name (codes "world") || bytes_eq name (codes "demo") then 5
    else 0

abbrev first_kind : List Text → ℕ
first_kind [] = 0
first_kind (name ∷ rest) = kind_of name

pub of_alone : (words : List Text) (request : RequestText) → Asks words request → first_kind words ≡ 0
of_alone words request (for_heads h) = ap first_kind h.named
of_alone words request (for_check h) = ap first_kind h.named
of_alone words request (for_dump h) = ap first_kind h.named
of_alone words request (for_init directory h g) = ap first_kind h.named
of_alone words request (for_keygen directory height width h d e f) = ap first_kind h.named
of_alone words request (for_apply directory text h d n) = ap first_kind h.named
of_alone words request (for_join directory h g) = ap first_kind h.named
of_alone words request (for_export directory h g) = ap first_kind h.named
of_alone words request (for_query directory text h f s) = ap first_kind h.named
of_alone words request (for_merge first second h f s differ) = ap first_kind h.named
of_alone words request (for_notes directory h g) = ap first_kind h.named

pub of_net : (words : List Text) (request : NetText) → AsksNet words request → first_kind words ≡ 1
of_net words request (for_sync directory address h d a) = ap first_kind h.named
of_net words request (for_serve directory address sessions h d a n least most) = ap first_kind h.named

pub of_seals : (words : List Text) (request : SealText) → AsksSeal words request → first_kind words ≡ 2
of_seals words request (for_hsskey directory height width h d e f) = ap first_kind h.named
of_seals words request (for_seal directory h g) = ap first_kind h.named
of_seals words request (for_unseal key_word signature_word key signature h k read s decoded) = ap first_kind h.named

pub of_watching : (words : List Text) (request : WatchText) → AsksWatch words request → first_kind words ≡ 3
of_watching words request (for_watch directory text every h d t is) = ap first_kind h.named

pub of_audits : (words : List Text) (request : AuditText) → AsksAudit words request → first_kind words ≡ 4
of_audits words request (for_audit directory h g) = ap first_kind h.named
of_audits words request (for_confirm h) = ap first_kind h.named

pub of_worlds : (words : List Text) (request : WorldText) → AsksWorld words request → first_kind words ≡ 5
of_worlds words request (for_world h) = ap first_kind h.named
of_worlds words request (for_demo number count h n small c least most) = ap first_kind h.named
