-- What was made and added, as what making and joining answer.
use Rattle.std.proofs.Common.{◌≡◌, ◌⊎◌, inl, inr, ℕ, ◌+◌, ◌*◌, ◌≤◌, ◌<◌, Bool, true, false, List, [], ◌∷◌, ◌++◌, length, Option, Some, None, Result, Ok, Err, refl, ap, ◌∙◌, arith, length-append}
use Rattle.std.proofs.lemmas.List.{append-nil}
use Rattle.std.specs.List.{flat_map}
use Rattle.std.specs.Int.{w16, to_be_bytes}
use Rattle.std.proofs.lemmas.Bool.Decides.{nat_tests}
use Rattle.update_model.specs.declared.op.Op.{Op}
use Rattle.update_model.specs.declared.author_key.AuthorKey.{AuthorKey}
use Rattle.update_model.specs.declared.limits.TheConstants.{MAX_PREDS}
use Rattle.update_model.specs.declared.update_id.UpdateId.{UpdateId}
use Rattle.update_model.specs.Form.{BodyData, IsBody, signature_length}
use Rattle.update_model.specs.Rule.{IsListed}
use Rattle.update_codec.specs.declared.limits.TheConstants.{UPDATE_LIMIT}
use Rattle.update_codec.specs.Spelling as spell
use Rattle.update_codec.specs.Spelling.{before_ops, message, signed_length}
use Rattle.update_codec.proofs.Stops.{ids_place}
use Rattle.lms_tree.specs.SecretKey.{SecretData, public_key}
use Rattle.schema.specs.Data.{Meaning}
use Rattle.history.specs.Histories.{HistoryData}
use Rattle.replica.specs.Making.{AddsMade, AfterAllHeads, AfterLeastHeads, IsAddCause, IsJoinCause, IsMakeCauseWith, IsSignCause, HasBodyWith, MaySign, Joins, MakesWith, SignsBodyWith, body_by, plain}
use Rattle.replica.specs.declared.contents.Contents.{Contents}
use Rattle.replica.specs.declared.make_fault.MakeFault.{MakeFault}
use Rattle.replica.specs.declared.make_fault.Side.TheVariants.{Key, Log}
use Rattle.replica.specs.declared.make_fault.MakeFault.TheVariants.{NotListed, TooManyHeads, Invalid, TooLong, Full, Spent, Taken, DiskFault, Memory}

pub makes : (ask : Meaning) (old : HistoryData) (secret : SecretData) (taken : List Bool) (preds : List UpdateId) (says : Contents) (c : List ℕ) (id : UpdateId) (new : HistoryData)
    → AfterAllHeads old preds → AddsMade ask true old secret taken preds says c id new → MakesWith ask old secret taken says c id new
makes ask old secret taken preds says c id new after adds = record {
  preds = preds;
  bytes = adds.bytes;
  after = after;
  made = adds.made;
  members = adds.members;
  valid = adds.valid refl;
  id_is = adds.id_is;
  last = adds.last;
}

pub joins : (ask : Meaning) (old : HistoryData) (secret : SecretData) (taken : List Bool) (preds : List UpdateId) (c : List ℕ) (id : UpdateId) (new : HistoryData)
    → AfterLeastHeads old preds → AddsMade ask false old secret taken preds (plain []) c id new → Joins old secret taken c id new
joins ask old secret taken preds c id new after adds = record {
  preds = preds;
  bytes = adds.bytes;
  after = after;
  made = adds.made;
  members = adds.members;
  id_is = adds.id_is;
  last = adds.last;
}

-- without operations an update is short enough
signature_low : (key : AuthorKey) → signature_length key ≤ 9004
signature_low key = grind (arith, nat_tests)

pub short_without_ops : (body : BodyData) → IsBody body → body.ops ≡ [] → body.note ≡ None → signed_length body ≤ UPDATE_LIMIT
short_without_ops body is no_ops no_note =
    let empty : length (message body) ≡ length (before_ops body ++ to_be_bytes w16 0) = plain_length (before_ops body) body.ops body.note no_ops no_note in
    total (length body.preds) (length (before_ops body)) (length (message body)) (signature_length body.author) is.few_preds (ids_place body.note body.database body.author (length body.preds) body.preds is.database is.author is.ids)
    (empty ∙ length-append (before_ops body) (to_be_bytes w16 0)) (signature_low body.author)
  where
    -- what stands behind the predecessors is a number alone
    plain_length : (front : List ℕ) (ops : List Op) (noted : Option (List ℕ)) → ops ≡ [] → noted ≡ None
        → length ((front ++ (to_be_bytes w16 (length ops) ++ flat_map spell.op ops)) ++ spell.note noted) ≡ length (front ++ to_be_bytes w16 0)
    plain_length front [] None e f = ap length (append-nil (front ++ to_be_bytes w16 0))
    plain_length front [] (Some text) e f = absurd cc
    plain_length front (op ∷ ops) noted e f = absurd cc

    total : (n b m s : ℕ) → n ≤ MAX_PREDS → b ≡ 91 + 32 * n → m ≡ b + 2 → s ≤ 9004 → m + 4 + s ≤ UPDATE_LIMIT
    total n b m s few e f low = omega arith

-- why they were not joined
pub join_cause : (history : HistoryData) (secret : SecretData) (taken : List Bool) (preds : List UpdateId) (c : List ℕ) (why : MakeFault) → AfterLeastHeads history preds
    → IsListed history.schema.rule.authors (public_key secret) → IsBody (body_by history (public_key secret) preds [])
    → IsSignCause history secret taken preds (plain []) c why ⊎ IsAddCause why → IsJoinCause history secret taken c why
join_cause history secret taken preds c NotListed after listed form (inl h) = absurd h
join_cause history secret taken preds c NotListed after listed form (inr h) = absurd h
join_cause history secret taken preds c (TooManyHeads n) after listed form (inl h) = h
join_cause history secret taken preds c (TooManyHeads n) after listed form (inr h) = h
join_cause history secret taken preds c (Invalid reason operation) after listed form (inl h) = h
join_cause history secret taken preds c (Invalid reason operation) after listed form (inr h) = h
join_cause history secret taken preds c (TooLong n) after listed form (inl h) =
    over (signed_length (body_by history (public_key secret) preds [])) n h.0 h.1 (short_without_ops (body_by history (public_key secret) preds []) form refl refl)
  where
    over : (l n : ℕ) → l ≡ n → UPDATE_LIMIT < n → l ≤ UPDATE_LIMIT → ⊥
    over l n e low high = omega arith
join_cause history secret taken preds c (TooLong n) after listed form (inr h) = h
join_cause history secret taken preds c Full after listed form (inl h) = (preds, after, listed, h.1)
join_cause history secret taken preds c Full after listed form (inr h) = absurd h
join_cause history secret taken preds c Spent after listed form (inl h) = (preds, after, listed, h.0.room, h.1)
join_cause history secret taken preds c Spent after listed form (inr h) = absurd h
join_cause history secret taken preds c (Taken id) after listed form (inl h) = (preds, after, listed, h.0.room, h.1)
join_cause history secret taken preds c (Taken id) after listed form (inr h) = absurd h
join_cause history secret taken preds c (DiskFault side) after listed form h = (preds, after)
join_cause history secret taken preds c Memory after listed form h = tt

-- why they were not made
pub make_cause : (ask : Meaning) (history : HistoryData) (secret : SecretData) (taken : List Bool) (preds : List UpdateId) (says : Contents) (c : List ℕ) (why : MakeFault)
    → MaySign ask history secret preds says.ops → IsSignCause history secret taken preds says c why ⊎ IsAddCause why → IsMakeCauseWith ask history secret taken says c why
make_cause ask history secret taken preds says c NotListed may (inl h) = absurd h
make_cause ask history secret taken preds says c NotListed may (inr h) = absurd h
make_cause ask history secret taken preds says c (TooManyHeads n) may (inl h) = absurd h
make_cause ask history secret taken preds says c (TooManyHeads n) may (inr h) = absurd h
make_cause ask history secret taken preds says c (Invalid reason operation) may (inl h) = absurd h
make_cause ask history secret taken preds says c (Invalid reason operation) may (inr h) = absurd h
make_cause ask history secret taken preds says c (TooLong n) may (inl h) = (preds, may, h.0, h.1)
make_cause ask history secret taken preds says c (TooLong n) may (inr h) = absurd h
make_cause ask history secret taken preds says c Full may (inl h) = (preds, may, h.0, h.1)
make_cause ask history secret taken preds says c Full may (inr h) = absurd h
make_cause ask history secret taken preds says c Spent may (inl h) = (preds, may, h.0, h.1)
make_cause ask history secret taken preds says c Spent may (inr h) = absurd h
make_cause ask history secret taken preds says c (Taken id) may (inl h) = (preds, may, h.0, h.1)
make_cause ask history secret taken preds says c (Taken id) may (inr h) = absurd h
make_cause ask history secret taken preds says c (DiskFault side) may h = tt
make_cause ask history secret taken preds says c Memory may h = tt

-- what was signed is a body after all heads, whatever the answer
pub signs_any : (history : HistoryData) (secret : SecretData) (says : Contents) (result : Result UpdateId MakeFault) → HasBodyWith history secret says → SignsBodyWith result history secret says
signs_any history secret says (Ok id) has = has
signs_any history secret says (Err NotListed) has = tt
signs_any history secret says (Err (TooManyHeads n)) has = tt
signs_any history secret says (Err (Invalid reason operation)) has = tt
signs_any history secret says (Err (TooLong len)) has = tt
signs_any history secret says (Err Full) has = tt
signs_any history secret says (Err Spent) has = tt
signs_any history secret says (Err (Taken id)) has = has
signs_any history secret says (Err (DiskFault Key)) has = tt
signs_any history secret says (Err (DiskFault Log)) has = has
signs_any history secret says (Err Memory) has = tt
