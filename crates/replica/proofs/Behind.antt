-- An update that is made, behind all others.
use Rattle.std.proofs.Common.{◌≡◌, ℕ, suc, ◌+◌, ◌≤◌, ◌<◌, Bool, true, false, ◌&&◌, List, [], ◌∷◌, ◌++◌, length, map, All, sym, ap, subst, ◌∙◌, arith, length-append}
use Rattle.std.specs.Prelude.{nat_le}
use Rattle.std.specs.Int.{w32, to_be_bytes}
use Rattle.std.proofs.lemmas.List.{map-append, length-map}
use Rattle.std.proofs.lemmas.List.Elements.{All-push}
use Rattle.std.proofs.lemmas.List.Sums.{sum_by_push}
use Rattle.std.proofs.lemmas.Bool.Decides.{nat_tests}
use Rattle.update_model.specs.declared.limits.TheConstants.{MAX_BYTES, MAX_MEMBERS}
use Rattle.update_model.specs.declared.update_id.UpdateId.{UpdateId}
use Rattle.update_model.specs.Entry.{Entry}
use Rattle.update_model.specs.Form.{UpdateData, signature_length}
use Rattle.update_model.specs.Graph.{IsClosed, byte_count, holds, is_within}
use Rattle.update_model.proofs.Closed.{Follows-push}
use Rattle.update_codec.specs.Parts.{entry_of, id_of}
use Rattle.update_codec.specs.Spelling.{Spells, message, signed_length}
use Rattle.update_codec.proofs.Places.{preds_stand}
use Rattle.update_check.specs.Members.{AreMembers}
use Rattle.update_check.specs.Signed.{IsChecked}
use Rattle.lms_tree.specs.SecretKey.{SecretData, public_key}
use Rattle.history.specs.Histories.{HistoryData}
use Rattle.replica.specs.declared.contents.Contents.{Contents}
use Rattle.replica.specs.Making.{HasLength, IsMadeWith, body_with, update_by}

-- how long a spelling is
pub spelled_length : (bytes : List ℕ) (update : UpdateData) → Spells bytes update → length bytes ≡ signed_length update.body
spelled_length bytes update s =
    total (length (message update.body)) (length update.signature) (signature_length update.body.author) (length bytes) s.form.signature.len
    (ap length s.spells ∙ length-append (message update.body) (to_be_bytes w32 (length update.signature) ++ update.signature))
  where
    total : (m s n l : ℕ) → s ≡ n → l ≡ m + suc (suc (suc (suc s))) → l ≡ m + 4 + n
    total m s n l e f = omega arith

within : (m b n : ℕ) → m < MAX_MEMBERS → b + n ≤ MAX_BYTES → (nat_le (m + 1) MAX_MEMBERS && nat_le (b + n) MAX_BYTES) ≡ true
within m b n one_more bytes = grind (arith, nat_tests)

within_push : (graph : List Entry) (e : Entry) → length graph < MAX_MEMBERS → byte_count graph + length e.bytes ≤ MAX_BYTES → is_within (graph ++ e ∷ []) ≡ true
within_push graph e one_more bytes =
    ap (λ n. nat_le n MAX_MEMBERS && nat_le (byte_count (graph ++ e ∷ [])) MAX_BYTES) (length-append graph (e ∷ []))
    ∙ ap (λ n. nat_le (length graph + 1) MAX_MEMBERS && nat_le n MAX_BYTES) (sum_by_push (λ (x : Entry). length x.bytes) graph e)
    ∙ within (length graph) (byte_count graph) (length e.bytes) one_more bytes

-- an update that was made may stand last
pub members_push : (history : HistoryData) (secret : SecretData) (taken : List Bool) (preds : List UpdateId) (says : Contents) (c bytes : List ℕ)
    → AreMembers history.schema.rule history.members → All (λ id. holds (map entry_of history.members) id ≡ true) preds
    → IsMadeWith history secret taken preds says c bytes → IsChecked history.schema.rule bytes → HasLength history secret preds says
    → holds (map entry_of history.members) (id_of bytes) ≡ false → AreMembers history.schema.rule (history.members ++ bytes ∷ [])
members_push history secret taken preds says c bytes members held made checked fits new =
    let graph = map entry_of history.members in
    let update = update_by secret made.index c (body_with history (public_key secret) preds says) in
    let pushed : map entry_of (history.members ++ bytes ∷ []) ≡ graph ++ entry_of bytes ∷ [] = map-append entry_of history.members (bytes ∷ []) in
    let low : length graph < MAX_MEMBERS = subst (λ (n : ℕ). n < MAX_MEMBERS) (sym (length-map history.members entry_of)) fits.room.one_more in
    let few : byte_count graph + length bytes ≤ MAX_BYTES = subst (λ (n : ℕ). byte_count graph + n ≤ MAX_BYTES) (sym (spelled_length bytes update made.spells)) fits.room.bytes in
    record {
      checked = All-push (IsChecked history.schema.rule) history.members bytes members.checked checked;
      closed = subst IsClosed (sym pushed) (Follows-push [] graph (entry_of bytes) members.closed (record {
        new = new;
        preds = subst (All (λ (id : UpdateId). holds graph id ≡ true)) (sym (preds_stand bytes update made.spells)) held;
      }));
      within = subst (λ (g : List Entry). is_within g ≡ true) (sym pushed) (within_push graph (entry_of bytes) low few);
    }
