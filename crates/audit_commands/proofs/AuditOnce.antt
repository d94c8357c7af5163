-- What the parts of a directory read as has one answer to `audit`, and an input one to `confirm`.
use Rattle.std.proofs.Common.{◌≡◌, ◌∙◌, List, ℕ, refl, sym, ap, subst, map}
use Rattle.update_model.specs.Graph.{IsClosed}
use Rattle.update_model.specs.declared.author_key.AuthorKey.{AuthorKey}
use Rattle.update_codec.specs.Parts.{entry_of}
use Rattle.key_audit.specs.Entries.{AreFound}
use Rattle.key_audit.specs.declared.doubled.Doubled.{Doubled}
use Rattle.outcomes.specs.declared.refusal.Refusal.TheVariants.{NotDoubled}
use Rattle.outcomes.proofs.Same.{IsOneAnswer, same_prints, same_refused}
use Rattle.outcomes.proofs.StoreOnce.{IsShownOnce}
use Rattle.audit_commands.specs.Audits.{ShowsDoubled}
use Rattle.audit_commands.specs.Confirming.{ConfirmAnswer, confirmed, refused}
use Rattle.audit_text.specs.Certificates.{HoldsDoubled}
use Rattle.audit_text.specs.Texts.{audit_text, doubled_text}

pub audit_shown : ((members : List (List ℕ)) (doubles others : List Doubled) → IsClosed (map entry_of members) → AreFound members doubles → AreFound members others → doubles ≡ others) → IsShownOnce ShowsDoubled
audit_shown once store text line a b = a.2 ∙ ap audit_text (once store.members a.0 b.0 a.1.taken.closed a.1.found b.1.found) ∙ sym b.2

module _ (one : (bytes : List ℕ) (key other : AuthorKey) (index number : ℕ) → HoldsDoubled bytes key index → HoldsDoubled bytes other number → (key ≡ other) × (index ≡ number)) where
  pub confirm_answered : IsOneAnswer ConfirmAnswer
  confirm_answered input after other a b (confirmed text key index whole held p) (confirmed again owner number read found q) =
      let same = one input key owner index number (subst (λ (t : List ℕ). HoldsDoubled t key index) whole.0 held) (subst (λ (t : List ℕ). HoldsDoubled t owner number) read.0 found) in
      same_prints a b (doubled_text key index) (doubled_text owner number) (λ i. doubled_text (same.0 i) (same.1 i)) p q
  confirm_answered input after other a b (confirmed text key index whole held p) (refused again read none e) = absurd (none key index (subst (λ (t : List ℕ). HoldsDoubled t key index) (whole.0 ∙ sym read.0) held))
  confirm_answered input after other a b (refused text whole none e) (confirmed again owner number read found q) = absurd (none owner number (subst (λ (t : List ℕ). HoldsDoubled t owner number) (read.0 ∙ sym whole.0) found))
  confirm_answered input after other a b (refused text whole none e) (refused again read naught f) = same_refused a b NotDoubled NotDoubled refl e f
