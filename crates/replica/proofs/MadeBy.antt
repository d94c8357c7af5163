-- What is made of a body that was signed.
use Rattle.std.proofs.Common.{◌≡◌, ℕ, ◌≤◌, Bool, List, ◌++◌, length, Some, Err, refl, sym, subst, ap, ◌∙◌}
use Rattle.std.specs.Int.{w32, to_be_bytes}
use Rattle.update_model.specs.declared.author_key.AuthorKey.{AuthorKey}
use Rattle.update_model.specs.declared.update_id.UpdateId.{UpdateId}
use Rattle.update_model.specs.Block.{IsBlock}
use Rattle.update_model.specs.Form.{BodyData, IsBody, signature_length}
use Rattle.update_model.specs.Rule.{IsListed}
use Rattle.update_check.specs.Causes.{Takes}
use Rattle.update_check.specs.Signed.{IsChecked}
use Rattle.update_check.specs.declared.check_error.CheckError.{CheckError}
use Rattle.update_check.specs.declared.check_error.CheckError.TheVariants as check_errors
use Rattle.update_codec.specs.declared.limits.TheConstants.{UPDATE_LIMIT}
use Rattle.update_codec.specs.Spelling.{message, signed_length}
use Rattle.lms_tree.specs.SecretKey.{SecretData, public_key, signature_by}
use Rattle.lms_tree.specs.Signature.{Signed}
use Rattle.history.specs.Histories.{HistoryData}
use Rattle.replica.specs.Making.{AreSignedBy, HasLength, HasRoom, IsMadeWith, IsNewCause, IsSignCause, body_with, update_by}
use Rattle.replica.specs.declared.contents.Contents.{Contents}
use Rattle.replica.specs.declared.make_fault.MakeFault.{MakeFault}
use Rattle.replica.specs.declared.make_fault.MakeFault.TheVariants.{NotListed, TooManyHeads, Invalid, TooLong, Full, Spent, Taken, DiskFault, Memory}

-- bytes of a signed message are those of an update that is made
pub made_by : (history : HistoryData) (secret : SecretData) (taken : List Bool) (preds : List UpdateId) (says : Contents) (c bytes : List ℕ)
    → IsBody (body_with history (public_key secret) preds says) → AreSignedBy secret taken c (message (body_with history (public_key secret) preds says)) bytes → length bytes ≤ UPDATE_LIMIT
    → IsMadeWith history secret taken preds says c bytes
made_by history secret taken preds says c bytes body signed short =
    let text = message (body_with history (public_key secret) preds says) in
    record {
      index = signed.signed.index;
      least = signed.signed.least;
      spells = record {
        form = record { body = body; signature = subst (IsBlock (signature_length (public_key secret))) signed.signed.made signed.block };
        spells = signed.spelled ∙ ap (λ (s : List ℕ). text ++ (to_be_bytes w32 (length s) ++ s)) signed.signed.made;
        short = short;
      };
    }

-- a body of these parts is what the key signs
pub body_is : (history : HistoryData) (secret : SecretData) (preds : List UpdateId) (says : Contents) (database : List ℕ) (author : AuthorKey) → database ≡ history.schema.rule.database → author ≡ public_key secret
    → (body : BodyData) → body ≡ record { database = database; author = author; preds = preds; ops = says.ops; note = says.note } → body ≡ body_with history (public_key secret) preds says
body_is history secret preds says database author d a body is =
    is
    ∙ ap (λ (l : List ℕ). let b : BodyData = record { database = l; author = author; preds = preds; ops = says.ops; note = says.note } in b) d
    ∙ ap (λ (k : AuthorKey). let b : BodyData = record { database = history.schema.rule.database; author = k; preds = preds; ops = says.ops; note = says.note } in b) a

pub has_length : (history : HistoryData) (secret : SecretData) (preds : List UpdateId) (says : Contents) (body : BodyData) → body ≡ body_with history (public_key secret) preds says
    → signed_length body ≤ UPDATE_LIMIT → HasRoom history (signed_length body) → HasLength history secret preds says
has_length history secret preds says body is short room = record {
  short = subst (λ (b : BodyData). signed_length b ≤ UPDATE_LIMIT) is short;
  room = subst (λ (b : BodyData). HasRoom history (signed_length b)) is room;
}

-- why they are no new update
pub new_cause : (history : HistoryData) (secret : SecretData) (taken : List Bool) (preds : List UpdateId) (says : Contents) (c bytes : List ℕ) (why : MakeFault)
    → HasLength history secret preds says → IsMadeWith history secret taken preds says c bytes → IsNewCause history bytes why → IsSignCause history secret taken preds says c why
new_cause history secret taken preds says c bytes NotListed len made h = absurd h
new_cause history secret taken preds says c bytes (TooManyHeads n) len made h = absurd h
new_cause history secret taken preds says c bytes (Invalid reason operation) len made h = absurd h
new_cause history secret taken preds says c bytes (TooLong n) len made h = absurd h
new_cause history secret taken preds says c bytes Full len made h = absurd h
new_cause history secret taken preds says c bytes Spent len made h = absurd h
new_cause history secret taken preds says c bytes (Taken id) len made h = (len, (bytes, made, h.0, h.1))
new_cause history secret taken preds says c bytes (DiskFault side) len made h = absurd h
new_cause history secret taken preds says c bytes Memory len made h = tt

-- they are under the rule of a database that lists the key
pub made_checked : (history : HistoryData) (secret : SecretData) (taken : List Bool) (preds : List UpdateId) (says : Contents) (c bytes : List ℕ)
    → IsListed history.schema.rule.authors (public_key secret) → AreSignedBy secret taken c (message (body_with history (public_key secret) preds says)) bytes
    → IsMadeWith history secret taken preds says c bytes → IsChecked history.schema.rule bytes
made_checked history secret taken preds says c bytes listed signed made = (
  update_by secret made.index c (body_with history (public_key secret) preds says),
  record { spells = made.spells; signed = subst (λ (s : List ℕ). Signed (public_key secret) (message (body_with history (public_key secret) preds says)) s) (signed.signed.made ∙ ap (λ (i : ℕ). signature_by secret i c (message (body_with history (public_key secret) preds says))) (some_index signed.signed.index made.index (sym signed.signed.least ∙ made.least))) signed.signed.valid },
  record { database = refl; author = listed },
)
  where
    some_index : (i j : ℕ) → Some i ≡ Some j → i ≡ j
    some_index i j e = cc

-- a check that takes them fails for want of memory alone
pub memory_alone : (error : CheckError) (bytes : List ℕ) → Takes (Err error) bytes → error ≡ check_errors.Memory
memory_alone check_errors.Memory bytes t = refl
memory_alone (check_errors.Fault fault) bytes t = absurd t
