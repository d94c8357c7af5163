-- The commands that make a store, a key or an update have one answer to what stands outside.
use Rattle.std.proofs.Common.{◌≡◌, ◌⊎◌, inl, inr, ℕ, Bool, List, [], refl, sym, subst, ◌∙◌, ap, Option, Some, Ok, Err}
use Rattle.rand_core.specs.Stream.{Stream}
use Rattle.row_check.specs.Checksum.{is_luhn}
use Rattle.lm_ots.specs.declared.ots_type.OtsType.{OtsType}
use Rattle.lms_tree.specs.declared.lms_type.LmsType.{LmsType}
use Rattle.lms_tree.specs.SecretKey.{SecretData}
use Rattle.update_model.specs.declared.op.Op.{Op}
use Rattle.update_model.specs.declared.update_id.UpdateId.{UpdateId}
use Rattle.schema_text.specs.Schemas.{Declares}
use Rattle.schema.specs.Data.{Meaning, SchemaData}
use Rattle.confluence_test.specs.Taking.{RefusesSchema}
use Rattle.history.specs.Histories.{HistoryData}
use Rattle.replica.specs.declared.contents.Contents.{Contents}
use Rattle.replica.specs.Making.{HasNoneToJoin, IsJoinCause, IsMakeCauseWith, Joins, MakesWith, saying}
use Rattle.replica.specs.Told.{IsAfterVerdict, IsBeforeVerdict, IsTold}
use Rattle.replica.specs.declared.make_fault.MakeFault.{MakeFault}
use Rattle.replica.specs.declared.make_fault.MakeFault.TheVariants.{NotListed, TooManyHeads, Invalid, TooLong, Full, Spent, Taken, DiskFault, Memory}
use Rattle.key_directory.specs.Keys.{IsBadKey, IsNoKey, ReadsAsKey}
use Rattle.store_directory.specs.Stores.{StoreData}
use Rattle.txn_text.specs.Transactions.{FirstFault, Reads}
use Rattle.txn_text.specs.declared.fault.TextFault.{TextFault}
use Rattle.txn_text.specs.declared.fault.TextKind.{TextKind}
use Rattle.outcomes.specs.declared.refusal.Refusal.{Refusal}
use Rattle.outcomes.specs.declared.refusal.Refusal.TheVariants as refusals
use Rattle.node_commands.specs.Creating.{InitAnswer, KeygenAnswer, created, drawn, refused as text_refused, there}
use Rattle.outcomes.specs.Comes.{IsRefused}
use Rattle.outcomes.specs.Outcome.{Outcome, from_make, from_taking}
use Rattle.schema_verdict.specs.Verdict.{Prints}
use Rattle.node_commands.specs.Signing.{ApplyAnswer, IsBeforeOperations, IsInvalid, IsSureOfApply, JoinAnswer, KeyedAnswer, MakeAnswer, MayApply, SignAnswer, StoreAnswer, asked, bad_text, history_of, joined, made, none, not_joined, not_made, taken_of, with_key, with_store, with_update, without_key, without_store}
use Rattle.outcomes.specs.StoreAnswers.{RefusesKey, bad_key, no_key, Readings, next_bytes}
use Rattle.outcomes.specs.Texts.{database_text, line_of}
use Rattle.outcomes.proofs.Same.{Same, same_prints, same_refused}
use Rattle.node_commands.proofs.Answer.{SchemaLaws, not_both}
use Rattle.outcomes.proofs.StoreOnce.{StoreLaws, read_or_refused, refused_once}

-- ---- making a store

init_answered : SchemaLaws → (input : List ℕ) (after other : Option (List ℕ)) (stream : Stream) (parts later another : Readings) (a b : Outcome)
    → InitAnswer (Some input) after stream parts later a → InitAnswer (Some input) other stream parts another b → Same a b
init_answered laws input after other stream parts later another a b (there has is) (there had so) = same_refused a b refusals.StoreThere refusals.StoreThere refl is so
init_answered laws input after other stream parts later another a b (there has is) (text_refused u s absent k not so) = absurd (has absent)
init_answered laws input after other stream parts later another a b (there has is) (created u y absent k take stands q) = absurd (has absent)
init_answered laws input after other stream parts later another a b (text_refused t r absent h not is) (there has so) = absurd (has absent)
init_answered laws input after other stream parts later another a b (text_refused t r absent h one is) (text_refused u s lacks k two so) =
    let same : r ≡ s = laws.refused_once is_luhn input r s (subst (λ (w : List ℕ). RefusesSchema is_luhn w r) h.0 one) (subst (λ (w : List ℕ). RefusesSchema is_luhn w s) k.0 two) in
    same_refused a b (from_taking r) (from_taking s) (ap from_taking same) is so
init_answered laws input after other stream parts later another a b (text_refused t r absent h not is) (created u y lacks k take stands q) = absurd (not_both laws input u t y r k.0 h.0 take not)
init_answered laws input after other stream parts later another a b (created t x absent h take stands p) (there has so) = absurd (has absent)
init_answered laws input after other stream parts later another a b (created t x absent h take stands p) (text_refused u s lacks k not so) = absurd (not_both laws input t u x s h.0 k.0 take not)
init_answered laws input after other stream parts later another a b (created t x absent h take stands p) (created u y lacks k takes stood q) =
    let same : x ≡ y = laws.one_schema is_luhn input x y (subst (λ (w : List ℕ). Declares is_luhn w x) h.0 take.declares) (subst (λ (w : List ℕ). Declares is_luhn w y) k.0 takes.declares) in
    same_prints a b (database_text x.rule.database) (database_text y.rule.database) (ap (λ (s : SchemaData). database_text s.rule.database) same) p q

-- ---- making a key

keygen_answered : (lms : LmsType) (ots : OtsType) (stream : Stream) (parts later another : Readings) (a b : Outcome) → KeygenAnswer lms ots stream parts later a → KeygenAnswer lms ots stream parts another b → Same a b
keygen_answered lms ots stream parts later another a b (there has is) (there had so) = same_refused a b refusals.KeyThere refusals.KeyThere refl is so
keygen_answered lms ots stream parts later another a b (there has is) (drawn lacks key used q) = absurd (has lacks)
keygen_answered lms ots stream parts later another a b (drawn lacks key used p) (there has so) = absurd (has lacks)
keygen_answered lms ots stream parts later another a b (drawn lacks key used p) (drawn absent key_is used_is q) = same_prints a b _ _ refl p q

-- ---- making an update

-- what is known of two parts: they read as one key, or as none, or as a bad one
pub record KeyLaws : Type 0 where
  pub one_key : (key used : Option (List ℕ)) (secret other : SecretData) → ReadsAsKey key used secret → ReadsAsKey key used other → secret ≡ other
  pub not_bad : (key used : Option (List ℕ)) → IsNoKey key → IsBadKey key used → ⊥
  pub no_key : (key used : Option (List ℕ)) (secret : SecretData) → IsNoKey key → ReadsAsKey key used secret → ⊥
  pub bad_key : (key used : Option (List ℕ)) (secret : SecretData) → IsBadKey key used → ReadsAsKey key used secret → ⊥

-- what is known of transactions: a text is one, or has one first fault
pub record TextLaws : Type 0 where
  pub one_transaction : (schema : SchemaData) (text : List ℕ) (ops other : List Op) → Reads schema text ops → Reads schema text other → ops ≡ other
  pub one_fault : (schema : SchemaData) (text : List ℕ) (kind other : TextKind) (line number column place : ℕ)
      → FirstFault schema text kind line column → FirstFault schema text other number place → (kind ≡ other) × (line ≡ number) × (column ≡ place)
  pub no_fault : (schema : SchemaData) (text : List ℕ) (ops : List Op) (kind : TextKind) (line column : ℕ) → Reads schema text ops → FirstFault schema text kind line column → ⊥

-- what is known of joining: heads are joined by one update, or there are none to join, or one refusal has its cause
pub record JoinLaws : Type 0 where
  pub joined : (history : HistoryData) (secret : SecretData) (taken : List Bool) (c : List ℕ) (id other : UpdateId) (new newer : HistoryData) → Joins history secret taken c id new → Joins history secret taken c other newer → id ≡ other
  pub refused : (history : HistoryData) (secret : SecretData) (taken : List Bool) (c : List ℕ) (why other : MakeFault) → IsTold why → IsTold other
      → IsJoinCause history secret taken c why → IsJoinCause history secret taken c other → why ≡ other
  pub joined_or_none : (history : HistoryData) (secret : SecretData) (taken : List Bool) (c : List ℕ) (id : UpdateId) (new : HistoryData) → Joins history secret taken c id new → HasNoneToJoin history → ⊥
  pub joined_or_refused : (history : HistoryData) (secret : SecretData) (taken : List Bool) (c : List ℕ) (id : UpdateId) (new : HistoryData) (why : MakeFault) → IsTold why
      → Joins history secret taken c id new → IsJoinCause history secret taken c why → ⊥
  pub none_or_refused : (history : HistoryData) (secret : SecretData) (taken : List Bool) (c : List ℕ) (why : MakeFault) → IsTold why → HasNoneToJoin history → IsJoinCause history secret taken c why → ⊥

-- what is known of making: a refusal that comes before operations are judged excludes every other one, and that an update is made
pub record EarlyLaws : Type 0 where
  pub refused : (ask : Meaning) (history : HistoryData) (secret : SecretData) (taken : List Bool) (says : Contents) (c : List ℕ) (why other : MakeFault) → IsBeforeVerdict why → IsTold other
      → IsMakeCauseWith ask history secret taken says c why → IsMakeCauseWith ask history secret taken says c other → why ≡ other
  pub made_or_refused : (ask : Meaning) (history : HistoryData) (secret : SecretData) (taken : List Bool) (says : Contents) (c : List ℕ) (id : UpdateId) (new : HistoryData) (why : MakeFault) → IsBeforeVerdict why
      → MakesWith ask history secret taken says c id new → IsMakeCauseWith ask history secret taken says c why → ⊥

-- what is known of making where the operations are valid: they make one update, or one refusal has its cause, and not both
pub record MakeLaws : Type 0 where
  pub made : (ask : Meaning) (history : HistoryData) (secret : SecretData) (taken : List Bool) (says : Contents) (c : List ℕ) (id other : UpdateId) (new newer : HistoryData)
      → MakesWith ask history secret taken says c id new → MakesWith ask history secret taken says c other newer → id ≡ other
  pub refused : (ask : Meaning) (history : HistoryData) (secret : SecretData) (taken : List Bool) (says : Contents) (c : List ℕ) (why other : MakeFault) → IsAfterVerdict why → IsAfterVerdict other
      → IsMakeCauseWith ask history secret taken says c why → IsMakeCauseWith ask history secret taken says c other → why ≡ other
  pub made_or_refused : (ask : Meaning) (history : HistoryData) (secret : SecretData) (taken : List Bool) (says : Contents) (c : List ℕ) (id : UpdateId) (new : HistoryData) (why : MakeFault) → IsAfterVerdict why
      → MakesWith ask history secret taken says c id new → IsMakeCauseWith ask history secret taken says c why → ⊥

-- One answer over what is open: two outcomes that this is said of are one.
abbrev IsSignedOnce : (Outcome → Outcome → Type 0) → SignAnswer → SignAnswer → Type 0
IsSignedOnce Shown Answer Other = (history : HistoryData) (secret : SecretData) (taken : List Bool) (added others : List (List ℕ)) (a b : Outcome)
    → Shown a b → Answer history secret taken added a → Other history secret taken others b → Same a b

module _ (stores : StoreLaws) (keys : KeyLaws) where
  -- a key that is read is not refused
  key_or_refused : (key used : Option (List ℕ)) (secret : SecretData) (refusal : Refusal) → ReadsAsKey key used secret → RefusesKey key used refusal → ⊥
  key_or_refused key used secret refusal has (no_key without is) = keys.no_key key used secret without has
  key_or_refused key used secret refusal has (bad_key bad is) = keys.bad_key key used secret bad has

  -- and one is refused in one way
  key_refused_once : (key used : Option (List ℕ)) (r s : Refusal) → RefusesKey key used r → RefusesKey key used s → r ≡ s
  key_refused_once key used r s (no_key without is) (no_key again so) = is ∙ sym so
  key_refused_once key used r s (no_key without is) (bad_key bad so) = absurd (keys.not_bad key used without bad)
  key_refused_once key used r s (bad_key bad is) (no_key without so) = absurd (keys.not_bad key used without bad)
  key_refused_once key used r s (bad_key bad is) (bad_key again so) = is ∙ sym so

  module _ (Shown : Outcome → Outcome → Type 0) (Answer Other : SignAnswer) (once : IsSignedOnce Shown Answer Other) where
    keyed_answered : (key used : Option (List ℕ)) (history : HistoryData) (added others : List (List ℕ)) (a b : Outcome) → Shown a b
        → KeyedAnswer (Unit {0}) Answer key used history added a → KeyedAnswer (Unit {0}) Other key used history others b → Same a b
    keyed_answered key used history added others a b shown (without_key r refuses unused nothing is) (without_key s refuses_too free naught so) = same_refused a b r s (key_refused_once key used r s refuses refuses_too) is so
    keyed_answered key used history added others a b shown (without_key r refuses unused nothing is) (with_key secret has answer) = absurd (key_or_refused key used secret r has refuses)
    keyed_answered key used history added others a b shown (with_key secret has answer) (without_key r refuses unused nothing is) = absurd (key_or_refused key used secret r has refuses)
    keyed_answered key used history added others a b shown (with_key secret has answer) (with_key owner had reply) =
        let same : secret ≡ owner = keys.one_key key used secret owner has had in
        once history owner (taken_of used) added others a b shown (subst (λ (s : SecretData). Answer history s (taken_of used) added a) same answer) reply

    stored_answered : (parts : Readings) (added others : List (List ℕ)) (a b : Outcome) → Shown a b → StoreAnswer (Unit {0}) Answer parts added a → StoreAnswer (Unit {0}) Other parts others b → Same a b
    stored_answered parts added others a b shown (without_store r refuses unused nothing is) (without_store s refuses_too free naught so) = same_refused a b r s (refused_once stores parts r s refuses refuses_too) is so
    stored_answered parts added others a b shown (without_store r refuses unused nothing is) (with_store store has answer) = absurd (read_or_refused stores parts store r has refuses)
    stored_answered parts added others a b shown (with_store store has answer) (without_store r refuses unused nothing is) = absurd (read_or_refused stores parts store r has refuses)
    stored_answered parts added others a b shown (with_store store has answer) (with_store other had reply) =
        let same : store ≡ other = stores.one_store is_luhn parts.schema parts.updates store other has had in
        keyed_answered parts.key parts.used (history_of other) added others a b shown (subst (λ (s : StoreData). KeyedAnswer (Unit {0}) Answer parts.key parts.used (history_of s) added a) same answer) reply

-- no disk failed and memory did not run out, where nothing was made for what was held
told_of : (secret : SecretData) (why : MakeFault) → IsRefused (Err (from_make secret why)) → IsTold why
told_of secret NotListed h = tt
told_of secret (TooManyHeads n) h = tt
told_of secret (Invalid reason operation) h = tt
told_of secret (TooLong len) h = tt
told_of secret Full h = tt
told_of secret Spent h = tt
told_of secret (Taken id) h = tt
told_of secret (DiskFault side) h = h
told_of secret Memory h = h

join_answered : JoinLaws → (stream : Stream) → IsSignedOnce (λ a b. Unit {0}) (JoinAnswer stream) (JoinAnswer stream)
join_answered laws stream history secret taken added others a b shown (joined id bytes joins adds p) (joined name more joining add q) =
    same_prints a b (line_of id) (line_of name) (ap line_of (laws.joined history secret taken (next_bytes stream) id name (with_update history bytes) (with_update history more) joins joining)) p q
join_answered laws stream history secret taken added others a b shown (joined id bytes joins adds p) (none few nothing q) = absurd (laws.joined_or_none history secret taken (next_bytes stream) id (with_update history bytes) joins few)
join_answered laws stream history secret taken added others a b shown (joined id bytes joins adds p) (not_joined why cause stopped nothing is) =
    absurd (laws.joined_or_refused history secret taken (next_bytes stream) id (with_update history bytes) why (told_of secret why (subst IsRefused is stopped)) joins cause)
join_answered laws stream history secret taken added others a b shown (none few nothing p) (joined id bytes joins adds q) = absurd (laws.joined_or_none history secret taken (next_bytes stream) id (with_update history bytes) joins few)
join_answered laws stream history secret taken added others a b shown (none few nothing p) (none fewer naught q) = same_prints a b [] [] refl p q
join_answered laws stream history secret taken added others a b shown (none few nothing p) (not_joined why cause stopped naught is) =
    absurd (laws.none_or_refused history secret taken (next_bytes stream) why (told_of secret why (subst IsRefused is stopped)) few cause)
join_answered laws stream history secret taken added others a b shown (not_joined why cause stopped nothing is) (joined id bytes joins adds q) =
    absurd (laws.joined_or_refused history secret taken (next_bytes stream) id (with_update history bytes) why (told_of secret why (subst IsRefused is stopped)) joins cause)
join_answered laws stream history secret taken added others a b shown (not_joined why cause stopped nothing is) (none few naught q) =
    absurd (laws.none_or_refused history secret taken (next_bytes stream) why (told_of secret why (subst IsRefused is stopped)) few cause)
join_answered laws stream history secret taken added others a b shown (not_joined why cause stopped nothing is) (not_joined other reason refuses naught so) =
    same_refused a b (from_make secret why) (from_make secret other)
    (ap (from_make secret) (laws.refused history secret taken (next_bytes stream) why other (told_of secret why (subst IsRefused is stopped)) (told_of secret other (subst IsRefused so refuses)) cause reason)) is so

-- ---- a transaction

-- nothing is printed where a refusal comes
not_printed : (b : Outcome) (line : List ℕ) → IsBeforeOperations b → Prints b line → ⊥
not_printed (Ok text) line early p = early
not_printed (Err refusal) line early p = p

early_of : (secret : SecretData) (why : MakeFault) → IsBeforeOperations (Err (from_make secret why)) → IsBeforeVerdict why
early_of secret NotListed h = tt
early_of secret (TooManyHeads n) h = tt
early_of secret (Invalid reason operation) h = h
early_of secret (TooLong len) h = h
early_of secret Full h = h
early_of secret Spent h = h
early_of secret (Taken id) h = h
early_of secret (DiskFault side) h = h
early_of secret Memory h = h

fault_same : (f g : TextFault) → f.kind ≡ g.kind → f.line ≡ g.line → f.column ≡ g.column → f ≡ g
fault_same f g kind line column =
    ap (λ (k : TextKind). let t : TextFault = record { line = f.line; column = f.column; kind = k } in t) kind
    ∙ ap (λ (n : ℕ). let t : TextFault = record { line = n; column = f.column; kind = g.kind } in t) line
    ∙ ap (λ (n : ℕ). let t : TextFault = record { line = g.line; column = n; kind = g.kind } in t) column

-- a refusal that is none of a disk, of memory or of invalid operations comes before they are judged, or after
before_or_after : (secret : SecretData) (why : MakeFault) → IsRefused (Err (from_make secret why)) → (IsInvalid (Err (from_make secret why)) → ⊥) → IsBeforeVerdict why ⊎ IsAfterVerdict why
before_or_after secret NotListed h apart = inl tt
before_or_after secret (TooManyHeads n) h apart = inl tt
before_or_after secret (Invalid reason operation) h apart = absurd (apart tt)
before_or_after secret (TooLong len) h apart = inr tt
before_or_after secret Full h apart = inr tt
before_or_after secret Spent h apart = inr tt
before_or_after secret (Taken id) h apart = inr tt
before_or_after secret (DiskFault side) h apart = absurd h
before_or_after secret Memory h apart = absurd h

-- The second comes before the operations are judged, or neither is that they are invalid.
abbrev IsToldApart : Outcome → Outcome → Type 0
IsToldApart a b = IsBeforeOperations b ⊎ ((IsInvalid a → ⊥) × (IsInvalid b → ⊥))

module _ (early : EarlyLaws) (makes : MakeLaws) (says : Contents) (c : List ℕ) (history : HistoryData) (secret : SecretData) (taken : List Bool) where
  made_or_not : (id : UpdateId) (new : HistoryData) (why : MakeFault) → IsBeforeVerdict why ⊎ IsAfterVerdict why → MakesWith is_luhn history secret taken says c id new
      → IsMakeCauseWith is_luhn history secret taken says c why → ⊥
  made_or_not id new why (inl before) done cause = early.made_or_refused is_luhn history secret taken says c id new why before done cause
  made_or_not id new why (inr after) done cause = makes.made_or_refused is_luhn history secret taken says c id new why after done cause

  stopped_once : (why other : MakeFault) → IsBeforeVerdict why ⊎ IsAfterVerdict why → IsBeforeVerdict other ⊎ IsAfterVerdict other → IsTold why → IsTold other
      → IsMakeCauseWith is_luhn history secret taken says c why → IsMakeCauseWith is_luhn history secret taken says c other → why ≡ other
  stopped_once why other (inl before) side told known cause reason = early.refused is_luhn history secret taken says c why other before known cause reason
  stopped_once why other (inr after) (inl before) told known cause reason = sym (early.refused is_luhn history secret taken says c other why before told reason cause)
  stopped_once why other (inr after) (inr later) told known cause reason = makes.refused is_luhn history secret taken says c why other after later cause reason

  second_side : (a b : Outcome) (why : MakeFault) → IsToldApart a b → IsRefused b → b ≡ Err (from_make secret why) → IsBeforeVerdict why ⊎ IsAfterVerdict why
  second_side a b why (inl before) stopped is = inl (early_of secret why (subst IsBeforeOperations is before))
  second_side a b why (inr apart) stopped is = before_or_after secret why (subst IsRefused is stopped) (λ invalid. apart.1 (subst IsInvalid (sym is) invalid))

  first_side : (a : Outcome) (why : MakeFault) → (IsInvalid a → ⊥) → IsRefused a → a ≡ Err (from_make secret why) → IsBeforeVerdict why ⊎ IsAfterVerdict why
  first_side a why apart stopped is = before_or_after secret why (subst IsRefused is stopped) (λ invalid. apart (subst IsInvalid (sym is) invalid))

  -- the second is printed, so it is no refusal
  first_apart : (a b : Outcome) (line : List ℕ) → IsToldApart a b → Prints b line → IsInvalid a → ⊥
  first_apart a b line (inl before) p invalid = not_printed b line before p
  first_apart a b line (inr apart) p invalid = apart.0 invalid

  refused_alike : (a b : Outcome) (why other : MakeFault) → IsToldApart a b → IsRefused a → IsRefused b → a ≡ Err (from_make secret why) → b ≡ Err (from_make secret other)
      → IsMakeCauseWith is_luhn history secret taken says c why → IsMakeCauseWith is_luhn history secret taken says c other → why ≡ other
  refused_alike a b why other (inl before) stopped refuses is so cause reason =
      sym (early.refused is_luhn history secret taken says c other why (early_of secret other (subst IsBeforeOperations so before)) (told_of secret why (subst IsRefused is stopped)) reason cause)
  refused_alike a b why other (inr apart) stopped refuses is so cause reason =
      stopped_once why other (first_side a why apart.0 stopped is) (second_side a b other (inr apart) refuses so) (told_of secret why (subst IsRefused is stopped)) (told_of secret other (subst IsRefused so refuses)) cause reason

make_answered : EarlyLaws → MakeLaws → (says : Contents) (c : List ℕ) → IsSignedOnce IsToldApart (MakeAnswer says c) (MakeAnswer says c)
make_answered early makes says c history secret taken added others a b shown (made id bytes done adds p) (made name more twice add q) =
    same_prints a b (line_of id) (line_of name) (ap line_of (makes.made is_luhn history secret taken says c id name (with_update history bytes) (with_update history more) done twice)) p q
make_answered early makes says c history secret taken added others a b shown (made id bytes done adds p) (not_made why cause stopped nothing is) =
    absurd (made_or_not early makes says c history secret taken id (with_update history bytes) why (second_side early makes says c history secret taken a b why shown stopped is) done cause)
make_answered early makes says c history secret taken added others a b shown (not_made why cause stopped nothing is) (made id bytes done adds q) =
    absurd (made_or_not early makes says c history secret taken id (with_update history bytes) why
    (first_side early makes says c history secret taken a why (first_apart early makes says c history secret taken a b (line_of id) shown q) stopped is) done cause)
make_answered early makes says c history secret taken added others a b shown (not_made why cause stopped nothing is) (not_made other reason refuses naught so) =
    same_refused a b (from_make secret why) (from_make secret other)
    (ap (from_make secret) (refused_alike early makes says c history secret taken a b why other shown stopped refuses is so cause reason)) is so

module _ (texts : TextLaws) (early : EarlyLaws) (makes : MakeLaws) (note : Option (List ℕ)) (input : List ℕ) (after other : Option (List ℕ)) (stream : Stream) where
  apply_answered : IsSignedOnce IsToldApart (ApplyAnswer note (Some input) after stream) (ApplyAnswer note (Some input) other stream)
  apply_answered history secret taken added others a b shown (bad_text t f h first nothing is) (bad_text u g k second naught so) =
      let here : FirstFault history.schema input f.kind f.line f.column = subst (λ (w : List ℕ). FirstFault history.schema w f.kind f.line f.column) h.0 first in
      let twice : FirstFault history.schema input g.kind g.line g.column = subst (λ (w : List ℕ). FirstFault history.schema w g.kind g.line g.column) k.0 second in
      let same = texts.one_fault history.schema input f.kind g.kind f.line g.line f.column g.column here twice in
      same_refused a b (refusals.Transaction f) (refusals.Transaction g) (ap refusals.Transaction (fault_same f g same.0 same.1 same.2)) is so
  apply_answered history secret taken added others a b shown (bad_text t f h first nothing is) (asked u ops k reads answer) =
      absurd (texts.no_fault history.schema input ops f.kind f.line f.column (subst (λ (w : List ℕ). Reads history.schema w ops) k.0 reads) (subst (λ (w : List ℕ). FirstFault history.schema w f.kind f.line f.column) h.0 first))
  apply_answered history secret taken added others a b shown (asked u ops k reads answer) (bad_text t f h first nothing is) =
      absurd (texts.no_fault history.schema input ops f.kind f.line f.column (subst (λ (w : List ℕ). Reads history.schema w ops) k.0 reads) (subst (λ (w : List ℕ). FirstFault history.schema w f.kind f.line f.column) h.0 first))
  apply_answered history secret taken added others a b shown (asked t ops h reads answer) (asked u more k read reply) =
      let same : ops ≡ more = texts.one_transaction history.schema input ops more (subst (λ (w : List ℕ). Reads history.schema w ops) h.0 reads) (subst (λ (w : List ℕ). Reads history.schema w more) k.0 read) in
      make_answered early makes (saying note more) (next_bytes stream) history secret taken added others a b shown
      (subst (λ (l : List Op). MakeAnswer (saying note l) (next_bytes stream) history secret taken added a) same answer) reply

-- what an answer leaves unused was used or not
pub used_or_not : (Unused : Type 0) (Answer : SignAnswer) (parts : Readings) (added : List (List ℕ)) (outcome : Outcome) → StoreAnswer Unused Answer parts added outcome → StoreAnswer (Unit {0}) Answer parts added outcome
used_or_not Unused Answer parts added outcome (without_store r refuses unused nothing is) = without_store r refuses tt nothing is
used_or_not Unused Answer parts added outcome (with_store store has (without_key r refuses unused nothing is)) = with_store store has (without_key r refuses tt nothing is)
used_or_not Unused Answer parts added outcome (with_store store has (with_key secret reads answer)) = with_store store has (with_key secret reads answer)

-- so it is of each command that makes something
pub record OneOfMakers : Type 0 where
  pub init : (input : List ℕ) (after other : Option (List ℕ)) (stream : Stream) (parts later another : Readings) (a b : Outcome)
      → InitAnswer (Some input) after stream parts later a → InitAnswer (Some input) other stream parts another b → Same a b
  pub keygen : (lms : LmsType) (ots : OtsType) (stream : Stream) (parts later another : Readings) (a b : Outcome) → KeygenAnswer lms ots stream parts later a → KeygenAnswer lms ots stream parts another b → Same a b
  pub apply : (note : Option (List ℕ)) (input : List ℕ) (stream : Stream) (parts : Readings) (a b : Outcome) → MayApply note input stream parts a → IsSureOfApply note input stream parts b → Same a b
  pub join : (stream : Stream) (parts : Readings) (added others : List (List ℕ)) (a b : Outcome)
      → StoreAnswer (Unit {0}) (JoinAnswer stream) parts added a → StoreAnswer (Unit {0}) (JoinAnswer stream) parts others b → Same a b

may_tell : (note : Option (List ℕ)) (input : List ℕ) (stream : Stream) (parts : Readings) (a b : Outcome) → MayApply note input stream parts a → IsSureOfApply note input stream parts b → IsToldApart a b
may_tell note input stream parts a b may sure = by sure.1
  where
    by : IsBeforeOperations b ⊎ ((other : Outcome) → MayApply note input stream parts other → IsInvalid other → ⊥) → IsToldApart a b
    by (inl before) = inl before
    by (inr never) = inr (never a may, never b sure.0)

pub answered_of_makers : SchemaLaws → StoreLaws → KeyLaws → TextLaws → EarlyLaws → MakeLaws → JoinLaws → OneOfMakers
answered_of_makers schemas stores keys texts early makes joining = record {
  init = init_answered schemas;
  keygen = keygen_answered;
  apply = λ note input stream parts a b may sure.
      stored_answered stores keys IsToldApart (ApplyAnswer note (Some input) may.0 stream) (ApplyAnswer note (Some input) sure.0.0 stream) (apply_answered texts early makes note input may.0 sure.0.0 stream) parts may.1 sure.0.1 a b
      (may_tell note input stream parts a b may sure) may.2 sure.0.2;
  join = λ stream parts added others a b. stored_answered stores keys (λ first second. Unit {0}) (JoinAnswer stream) (JoinAnswer stream) (join_answered joining stream) parts added others a b tt;
}
