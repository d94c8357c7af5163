-- Words that ask for something else ask for nothing that brings updates into a directory: no first word of theirs is one of its.
use Rattle.std.proofs.Common.{◌≡◌, ◌⊎◌, ◌∙◌, ap, refl, sym, inl, inr, Bool, true, false, cond, codes, List, [], ◌∷◌, Option, None, Some}
use Rattle.std.specs.Prelude.{bytes_eq}
use Rattle.std.proofs.lemmas.Slice.Eq.{bytes_eq-Decides}
use Rattle.clap.specs.Words.{Text}
use Rattle.command_words.specs.AuditRequests.{AsksAudit, AuditText, for_audit, for_confirm}
use Rattle.command_words.specs.ImportRequests.{ImportText, clone_of, import_of, import_request_named, import_request_of}
use Rattle.command_words.specs.LookRequests.{LookText, look_request_named, look_request_of}
use Rattle.command_words.specs.NetRequests.{AsksNet, NetText, for_serve, for_sync}
use Rattle.command_words.specs.Requests.{Asks, RequestText, for_apply, for_check, for_dump, for_export, for_heads, for_init, for_join, for_keygen, for_merge, for_notes, for_query}
use Rattle.command_words.specs.SealRequests.{AsksSeal, SealText, for_hsskey, for_seal, for_unseal}
use Rattle.command_words.specs.WatchRequests.{AsksWatch, WatchText, for_watch}
use Rattle.command_words.specs.WorldRequests.{AsksWorld, WorldText, for_demo, for_world}

pub of_alone : (words : List Text) (request : RequestText) → Asks words request → import_request_of words ≡ None
of_alone words request (for_heads h) = ap import_request_of h.named
of_alone words request (for_check h) = ap import_request_of h.named
of_alone words request (for_dump h) = ap import_request_of h.named
of_alone words request (for_init directory h g) = ap import_request_of h.named
of_alone words request (for_keygen directory height width h d e f) = ap import_request_of h.named
of_alone words request (for_apply directory text h d n) = ap import_request_of h.named
of_alone words request (for_join directory h g) = ap import_request_of h.named
of_alone words request (for_export directory h g) = ap import_request_of h.named
of_alone words request (for_query directory text h f s) = ap import_request_of h.named
of_alone words request (for_merge first second h f s differ) = ap import_request_of h.named
of_alone words request (for_notes directory h g) = ap import_request_of h.named

pub of_net : (words : List Text) (request : NetText) → AsksNet words request → import_request_of words ≡ None
of_net words request (for_sync directory address h d a) = ap import_request_of h.named
of_net words request (for_serve directory address sessions h d a n least most) = ap import_request_of h.named

pub of_seals : (words : List Text) (request : SealText) → AsksSeal words request → import_request_of words ≡ None
of_seals words request (for_hsskey directory height width h d e f) = ap import_request_of h.named
of_seals words request (for_seal directory h g) = ap import_request_of h.named
of_seals words request (for_unseal key_word signature_word key signature h k read s decoded) = ap import_request_of h.named

pub of_watching : (words : List Text) (request : WatchText) → AsksWatch words request → import_request_of words ≡ None
of_watching words request (for_watch directory text every h d t is) = ap import_request_of h.named

pub of_audits : (words : List Text) (request : AuditText) → AsksAudit words request → import_request_of words ≡ None
of_audits words request (for_audit directory h g) = ap import_request_of h.named
of_audits words request (for_confirm h) = ap import_request_of h.named

pub of_worlds : (words : List Text) (request : WorldText) → AsksWorld words request → import_request_of words ≡ None
of_worlds words request (for_world h) = ap import_request_of h.named
of_worlds words request (for_demo number count h n small c least most) = ap import_request_of h.named

-- which first words a request has
first_word : (first : Text) (words : List Text) (request : ImportText) → import_request_named first words ≡ Some request → (first ≡ codes "import") ⊎ (first ≡ codes "clone")
first_word first words request = by (bytes_eq first (codes "import")) (bytes_eq first (codes "clone")) (bytes_eq-Decides first (codes "import")).0 (bytes_eq-Decides first (codes "clone")).0
  where
    by : (one other : Bool) → (one ≡ true → first ≡ codes "import") → (other ≡ true → first ≡ codes "clone") → cond one (import_of words) (cond other (clone_of words) None) ≡ Some request
        → (first ≡ codes "import") ⊎ (first ≡ codes "clone")
    by true other is_one is_other e = inl (is_one refl)
    by false true is_one is_other e = inr (is_other refl)
    by false false is_one is_other e = absurd cc

-- no request that looks at a store is one
pub of_looks : (words : List Text) (request : LookText) → look_request_of words ≡ Some request → import_request_of words ≡ None
of_looks [] request e = refl
of_looks (first ∷ rest) request e = by (import_request_named first (first ∷ rest)) refl
  where
    none : (first ≡ codes "import") ⊎ (first ≡ codes "clone") → look_request_named first (first ∷ rest) ≡ None
    none (inl is) = ap (λ (f : Text). look_request_named f (first ∷ rest)) is
    none (inr is) = ap (λ (f : Text). look_request_named f (first ∷ rest)) is

    by : (found : Option ImportText) → import_request_named first (first ∷ rest) ≡ found → found ≡ None
    by None is = refl
    by (Some asked) is = absurd (let nothing : None ≡ Some request = sym (none (first_word first (first ∷ rest) asked is)) ∙ e in cc)
