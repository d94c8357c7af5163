-- What the parts of a directory read as has one answer to a command that only reads its store.
use Rattle.std.proofs.Common.{List, Option, subst, sym, ℕ, ◌∙◌, ◌≡◌}
use Rattle.schema.specs.Data.{Meaning}
use Rattle.row_check.specs.Checksum.{is_luhn}
use Rattle.store_directory.specs.Stores.{IsBadStore, IsNoStore, ReadsAs, StoreData}
use Rattle.outcomes.specs.declared.refusal.Refusal.{Refusal}
use Rattle.outcomes.specs.Outcome.{Outcome}
use Rattle.outcomes.specs.StoreAnswers.{HasStore, Readings, Printing, ReadsStore, RefusesStore, answered, bad_store, no_store, refused}
use Rattle.outcomes.proofs.Same.{Same, same_prints, same_refused}

-- what is known of two parts: they read as one store, or as none, or as a bad one
pub record StoreLaws : Type 0 where
  pub one_store : (ask : Meaning) (schema updates : Option (List ℕ)) (store other : StoreData) → ReadsAs ask schema updates store → ReadsAs ask schema updates other → store ≡ other
  pub not_bad : (ask : Meaning) (schema updates : Option (List ℕ)) → IsNoStore schema → IsBadStore ask schema updates → ⊥
  pub no_store : (ask : Meaning) (schema updates : Option (List ℕ)) (store : StoreData) → IsNoStore schema → ReadsAs ask schema updates store → ⊥
  pub bad_store : (ask : Meaning) (schema updates : Option (List ℕ)) (store : StoreData) → IsBadStore ask schema updates → ReadsAs ask schema updates store → ⊥

-- what the parts read as has one answer, whatever is added
abbrev pub IsOneOfParts : (Readings → List (List ℕ) → Outcome → Type 0) → Type 0
IsOneOfParts Answer = (parts : Readings) (added others : List (List ℕ)) (a b : Outcome) → Answer parts added a → Answer parts others b → Same a b

-- a store shows one text
abbrev pub IsShownOnce : (StoreData → List ℕ → Type 0) → Type 0
IsShownOnce Shows = (store : StoreData) (text line : List ℕ) → Shows store text → Shows store line → text ≡ line

-- a store is answered to in one way
abbrev pub IsAnsweredOnce : (StoreData → Outcome → Type 0) → Type 0
IsAnsweredOnce Answers = (store : StoreData) (a b : Outcome) → Answers store a → Answers store b → Same a b

pub printed_once : (Shows : StoreData → List ℕ → Type 0) → IsShownOnce Shows → IsAnsweredOnce (Printing Shows)
printed_once Shows once store a b p q = same_prints a b p.0 q.0 (once store p.0 q.0 p.1 q.1) p.2 q.2

module _ (stores : StoreLaws) where
  -- a store that is read is not refused
  pub read_or_refused : (parts : Readings) (store : StoreData) (refusal : Refusal) → HasStore parts store → RefusesStore parts refusal → ⊥
  read_or_refused parts store refusal has (no_store none is) = stores.no_store is_luhn parts.schema parts.updates store none has
  read_or_refused parts store refusal has (bad_store bad is) = stores.bad_store is_luhn parts.schema parts.updates store bad has

  -- and one is refused in one way
  pub refused_once : (parts : Readings) (r s : Refusal) → RefusesStore parts r → RefusesStore parts s → r ≡ s
  refused_once parts r s (no_store none is) (no_store again so) = is ∙ sym so
  refused_once parts r s (no_store none is) (bad_store bad so) = absurd (stores.not_bad is_luhn parts.schema parts.updates none bad)
  refused_once parts r s (bad_store bad is) (no_store none so) = absurd (stores.not_bad is_luhn parts.schema parts.updates none bad)
  refused_once parts r s (bad_store bad is) (bad_store again so) = is ∙ sym so

  pub read_answered : (Answers : StoreData → Outcome → Type 0) → IsAnsweredOnce Answers → IsOneOfParts (ReadsStore Answers)
  read_answered Answers once parts added others a b (answered store has is none) (answered other had so naught) =
      let same : store ≡ other = stores.one_store is_luhn parts.schema parts.updates store other has had in
      once other a b (subst (λ (s : StoreData). Answers s a) same is) so
  read_answered Answers once parts added others a b (answered store has is none) (refused r refuses naught so) = absurd (read_or_refused parts store r has refuses)
  read_answered Answers once parts added others a b (refused r refuses naught is) (answered store has so none) = absurd (read_or_refused parts store r has refuses)
  read_answered Answers once parts added others a b (refused r refuses naught is) (refused s refused_too none so) = same_refused a b r s (refused_once parts r s refuses refused_too) is so
