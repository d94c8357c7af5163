-- What a text writes as a value.
use Rattle.std.proofs.Common.{◌≡◌, ℕ, ◌≤◌, Bool, true, false, List, length, refl, sym, ap, ◌∙◌, cond, Ok, Err}
use Rattle.std.specs.Str.{is_utf8}
use Rattle.std.proofs.lemmas.Bool.{le-ltb}
use Rattle.std.proofs.lemmas.Str.{IsUtf8-from_is_utf8, is_utf8-from_IsUtf8}
use Rattle.update_model.specs.declared.value.Value.TheVariants.{Text}
use Rattle.update_model.specs.Text.{IsText}
use Rattle.txn_text.specs.declared.fault.TextKind.TheVariants.{TextTooLong, NotUtf8}
use Rattle.txn_text.specs.Values.{Written, text_value}

-- what a text that is not too long writes
short : (bytes : List ℕ) (written : Written) → length bytes ≤ 1024 → written ≡ cond (is_utf8 bytes) (Ok (Text bytes)) (Err NotUtf8) → written ≡ text_value bytes
short bytes written h e = e ∙ ap (λ (b : Bool). cond b (Err TextTooLong) (cond (is_utf8 bytes) (Ok (Text bytes)) (Err NotUtf8))) (sym (le-ltb 1024 (length bytes) h))

pub text_good : (bytes : List ℕ) → IsText bytes → Ok (Text bytes) ≡ text_value bytes
text_good bytes h =
    short bytes (Ok (Text bytes)) h.0 (ap (λ (b : Bool). cond b (Ok (Text bytes)) (Err NotUtf8)) (sym (is_utf8-from_IsUtf8 bytes h.1)))

pub text_bad : (bytes : List ℕ) → length bytes ≤ 1024 → ¬ IsText bytes → Err NotUtf8 ≡ text_value bytes
text_bad bytes h bad =
    let step : (b : Bool) → is_utf8 bytes ≡ b → Err NotUtf8 ≡ cond b (Ok (Text bytes)) (Err NotUtf8) = elim [
      | true ↦ λ e. absurd (bad (h, IsUtf8-from_is_utf8 bytes e))
      | false ↦ λ e. refl
    ] in
    short bytes (Err NotUtf8) h (step (is_utf8 bytes) refl)
