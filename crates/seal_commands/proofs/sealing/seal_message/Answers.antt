use Rattle.std.proofs.Common.{◌≡◌, ◌∙◌, ◌++◌, ◌∷◌, [], ℕ, List, inl, inr, sym, refl, ap, Err}
use Rattle.std.proofs.lemmas.Result.{err_from_is_err_and}
use Rattle.hex.specs.Hex.{encode_lower}
use Rattle.lms_tree.specs.LmsKind.{leaf_count}
use Rattle.lms_tree.specs.SecretKey.{SecretData}
use Rattle.hss_directory.specs.declared.fault.HssFault.{HssFault}
use Rattle.seal_commands.specs.Sealing.{refusal_of, sealed, unsealed}
use Rattle.seal_commands.specs.declared.refusal.SealRefusal.{SealRefusal}
use Rattle.seal_commands.proofs.Home.{err_same, store_is_disk}
use Rattle.seal_commands.proofs.sealing.seal_message.Goals as goal

pub returns-in_ok-hex_line-in-Ok-clause-seals : goal.returns-in_ok-hex_line-in-Ok-clause-seals
returns-in_ok-hex_line-in-Ok-clause-seals g c =
    sealed c.in-Ok.seal.items c.in-Ok.ensures.signs c.in-Ok.ensures.sealed
    (inl (c.in_ok-hex_line-in-Ok.ensures ∙ ap (λ (b : List ℕ). encode_lower b ++ 10 ∷ []) c.as_slice.ensures.value))

pub returns-in_err-hex_line-in-Ok-clause-seals : goal.returns-in_err-hex_line-in-Ok-clause-seals
returns-in_err-hex_line-in-Ok-clause-seals g c =
    let p = err_from_is_err_and c.from_residual.result c.from_residual.ensures.1 in
    rw (p.1, p.2) (sealed c.in-Ok.seal.items c.in-Ok.ensures.signs c.in-Ok.ensures.sealed (inr refl))

pub returns-in-Err-clause-seals : goal.returns-in-Err-clause-seals
returns-in-Err-clause-seals g c =
    let why = c.in-Err.why in
    let count : c.top_count.result ≡ leaf_count c.args.hss.now.top.secret.lms = c.top_count.ensures ∙ ap (λ (s : SecretData). leaf_count s.lms) c.sign.ensures.keeps.secret in
    unsealed why c.in-Err.ensures.refused (ap (λ (w : SealRefusal). Err w) (c.refusal_of.ensures ∙ ap (λ (n : ℕ). refusal_of why n) count))

pub returns-in-Err-clause-failed : goal.returns-in-Err-clause-failed
returns-in-Err-clause-failed g c is =
    c.in-Err.ensures.failed (ap (λ (w : HssFault). Err w) (store_is_disk c.in-Err.why c.top_count.result (sym c.refusal_of.ensures ∙ err_same _ _ is)))
