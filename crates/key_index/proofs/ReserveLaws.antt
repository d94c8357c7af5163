-- What a reservation answers and leaves, once its index was tried.
use Rattle.std.proofs.Common.{◌≡◌, ℕ, ◌<◌, ◌≤◌, List, [], ◌∷◌, length, get_or, set, length-set, ◌+◌, sym, ◌∙◌, ap, subst, Bool, true, false, IsTrue, Some, Option, Ok, Err, Result}
use Rattle.std.specs.Prelude.{not, is_some, IsNone, IsErr, IsErrAnd, MatchOption}
use Rattle.std.proofs.lemmas.List.Quantifiers.{position-Some}
use Rattle.std.proofs.lemmas.Bool.{not-true, true≢false}
use Rattle.bec_bytes.specs.Causes.{Rose}
use Rattle.bec_disk.specs.Disk.{IsImage, EveryImage, IsSettled, LeavesOnly, overwritten}
use Rattle.bec_disk.specs.Images.{IsTornFrom}
use Rattle.lms_tree.specs.LmsKind.{leaf_count}
use Rattle.lms_tree.specs.SecretKey.{SecretData}
use Rattle.key_index.specs.Used.{IsUsed, IsUnused, least_unused}
use Rattle.key_index.specs.KeyState.{KeyState}
use Rattle.key_index.specs.Kept.{AreFree, IsStore}
use Rattle.key_index.specs.Reserving.{Reserves, Tries}
use Rattle.key_index.specs.declared.reserve.Reserve.{Reserve}
use Rattle.key_index.specs.declared.reserve.Reserve.TheVariants.{DiskFault}
use Rattle.key_index.proofs.UsedLaws.{is_reserved, others_free, stays_used}

-- the least index that is not used is one that is not used
pub is_unused : (taken : List Bool) (index : ℕ) → least_unused taken ≡ Some index → (index < length taken) × (get_or taken index true ≡ false)
is_unused taken index least = let at = position-Some not taken index true least in (at.0, not-true (get_or taken index true) at.1)

-- The least index that is not used was tried.
pub record HasTried (old : KeyState) (index : ℕ) (new : KeyState) : Type 0 where
  pub store : IsStore old.parts.used old.secret old.taken
  pub reads : IsTrue old.parts.used.tells → IsImage old.parts.used.now old.parts.used.seen
  pub least : least_unused old.taken ≡ Some index
  pub tries : Tries old index new
  pub later : old.parts.used_faults ≤ new.parts.used_faults

-- One byte of Used was written, where that index stands.
pub has_tried : (old new : KeyState) (index at : ℕ) → IsStore old.parts.used old.secret old.taken → (IsTrue old.parts.used.tells → IsImage old.parts.used.now old.parts.used.seen)
    → Some index ≡ least_unused old.taken → new.taken ≡ set old.taken index true → new.tried ≡ Some index → at ≡ index → LeavesOnly old.parts.used new.parts.used (IsTornFrom old.parts.used.now at (at + 1))
    → old.parts.used_faults ≤ new.parts.used_faults → new.parts.key ≡ old.parts.key → new.parts.key_faults ≡ old.parts.key_faults → new.secret ≡ old.secret → HasTried old index new
has_tried old new index at store reads least taken tried same only later key key_faults secret = record {
  store = store;
  reads = reads;
  least = sym least;
  tries = record {
    taken = taken;
    tried = tried;
    only = subst (λ (k : ℕ). LeavesOnly old.parts.used new.parts.used (IsTornFrom old.parts.used.now k (k + 1))) same only;
    key = key;
    key_faults = key_faults;
    secret = secret;
  };
  later = later;
}

-- It is still a store.
pub still_store : (old new : KeyState) (index : ℕ) → HasTried old index new → IsStore new.parts.used new.secret new.taken
still_store old new index tried =
    let within = (is_unused old.taken index tried.least).0 in
    record {
      long = ap length tried.tries.taken ∙ length-set old.taken index true ∙ tried.store.long ∙ ap (λ (s : SecretData). leaf_count s.lms) (sym tried.tries.secret);
      free = subst (λ (taken : List Bool). IsTrue new.parts.used.tells → AreFree taken new.parts.used.now) (sym tried.tries.taken)
          (others_free old.taken old.parts.used new.parts.used index tried.store.free tried.tries.only within);
    }

free_then : (old new : KeyState) (index : ℕ) → HasTried old index new → IsTrue old.parts.used.tells → EveryImage old.parts.used.now (IsUnused index)
free_then old new index tried tells = let at = is_unused old.taken index tried.least in tried.store.free tells index at.0 at.1

-- an index was there to be tried
some_left : (old new : KeyState) (index : ℕ) → HasTried old index new → IsNone (least_unused old.taken) → ⊥
some_left old new index tried none = true≢false (subst (λ (o : Option ℕ). is_some o ≡ false) tried.least none)

as_tried : (old new : KeyState) (index : ℕ) → HasTried old index new → MatchOption (least_unused old.taken) (new ≡ old) (λ i. Tries old i new)
as_tried old new index tried = subst (λ (o : Option ℕ). MatchOption o (new ≡ old) (λ i. Tries old i new)) (sym tried.least) tried.tries

others_kept : (old new : KeyState) (index : ℕ) → HasTried old index new → (q : ℕ) → (IsTrue old.parts.used.tells → EveryImage old.parts.used.now (IsUsed q)) → LeavesOnly old.parts.used new.parts.used (IsUsed q)
others_kept old new index tried q used =
    stays_used old.parts.used new.parts.used index q tried.reads (free_then old new index tried) used tried.tries.only

pub reserve_answers : (old new : KeyState) (index : ℕ) → HasTried old index new → (IsTrue old.parts.used.tells → new.parts.used.seen ≡ overwritten old.parts.used.seen index (1 ∷ []))
    → (IsTrue old.parts.used.tells → IsSettled new.parts.used) → Reserves old (Ok index) new
reserve_answers old new index tried seen settled = record {
  least = tried.least;
  spent = (λ is. absurd cc, λ none. absurd (some_left old new index tried none));
  tries = as_tried old new index tried;
  reserved = λ tells. is_reserved old.parts.used new.parts.used index (tried.reads tells) (free_then old new index tried tells) (seen tells) (settled tells);
  not_again = λ tells q used is.
      let same : index ≡ q = cc in
      used old.parts.used.seen (tried.reads tells)
      (ap (λ (k : ℕ). get_or old.parts.used.seen k 0) (sym same) ∙ (free_then old new index tried tells old.parts.used.seen (tried.reads tells)).zero_byte);
  kept = others_kept old new index tried;
  disk = tried.tries.only.disk;
  later = tried.later;
  failed = λ is. absurd cc;
}

pub reserve_fails : (old new : KeyState) (index : ℕ) → HasTried old index new → Rose old.parts.used_faults new.parts.used_faults → Reserves old (Err DiskFault) new
reserve_fails old new index tried rose = record {
  least = tt;
  spent = (λ is. absurd cc, λ none. absurd (some_left old new index tried none));
  tries = as_tried old new index tried;
  reserved = λ tells. tt;
  not_again = λ tells q used is. cc;
  kept = others_kept old new index tried;
  disk = tried.tries.only.disk;
  later = tried.later;
  failed = λ is. rose;
}

-- what a `?` on a call of a disk answers
pub only_fault : (result : Result ℕ Reserve) → IsErr result → IsErrAnd result (λ e. e ≡ DiskFault) → result ≡ Err DiskFault
only_fault (Ok index) err and = absurd (true≢false (sym err))
only_fault (Err e) err and = ap (λ (x : Reserve). Err x) and
