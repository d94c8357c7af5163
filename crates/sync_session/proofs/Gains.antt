-- What a list gains.
use Rattle.std.proofs.Common.{◌≡◌, inl, inr, ℕ, List, [], ◌∷◌, ◌++◌, All, Contains, map, Result, Ok, Err, sym, ap, subst, ◌∙◌, append-nil, append_assoc, arith}
use Rattle.std.specs.List.{AllByRecursion}
use Rattle.std.proofs.lemmas.List.Elements.{All-append, All-from_recursion, All-nil, All-weaker, recursion_from_All}
use Rattle.update_check.specs.Holding.{Commits}
use Rattle.update_check.specs.declared.holder.CommitFault.{CommitFault}
use Rattle.update_check.specs.declared.holder.CommitFault.TheVariants as commit_faults
use Rattle.update_check.specs.declared.holder.Committed.{Committed as Answer}
use Rattle.update_codec.specs.Parts.{entry_of}
use Rattle.update_model.specs.Batch.{Limits}
use Rattle.update_model.specs.Entry.{Entry}
use Rattle.session_rules.proofs.Words.{cons_cases, each_weaker, first_member, later_member}
use Rattle.sync_session.specs.Kept.{GrowsBy}

pub grows_none : (from before after : List (List ℕ)) → after ≡ before → GrowsBy from before after
grows_none from before after is = record { added = []; behind = is ∙ sym (append-nil before); of = All-nil (Contains from) }

-- of a larger set
pub grows_wider : (from wider before after : List (List ℕ)) → ((u : List ℕ) → Contains from u → Contains wider u) → GrowsBy from before after → GrowsBy wider before after
grows_wider from wider before after f g = record { added = g.added; behind = g.behind; of = All-weaker (Contains from) (Contains wider) f g.added g.of }

-- once more
pub grows_on : (from before mid after : List (List ℕ)) → GrowsBy from before mid → GrowsBy from mid after → GrowsBy from before after
grows_on from before mid after g h = record {
  added = g.added ++ h.added;
  behind = h.behind ∙ ap (λ (xs : List (List ℕ)). xs ++ h.added) g.behind ∙ append_assoc before g.added h.added;
  of = All-append (Contains from) g.added h.added g.of h.of;
}

-- ---- updates and their entries

pub member_back : (us : List (List ℕ)) (e : Entry) → Contains (map entry_of us) e → Contains us e.bytes
member_back [] e c = absurd (omega (arith, c.1))
member_back (u ∷ us) e c = elim (cons_cases (entry_of u) (map entry_of us) e c) [
  | inl is ↦ subst (λ (x : Entry). Contains (u ∷ us) x.bytes) is (first_member u us)
  | inr held ↦ later_member u us e.bytes (member_back us e held)
]

-- of a set, as updates
pub updates_of : (P : List ℕ → Type 0) (us : List (List ℕ)) → AllByRecursion (λ (e : Entry). P e.bytes) (map entry_of us) → All P us
updates_of P us all = All-from_recursion P us (by_list us all)
  where
    by_list : (us : List (List ℕ)) → AllByRecursion (λ (e : Entry). P e.bytes) (map entry_of us) → AllByRecursion P us
    by_list [] all = tt
    by_list (u ∷ us) all = (all.0, by_list us all.1)

-- and as entries
pub entries_from : (P : List ℕ → Type 0) (us : List (List ℕ)) → All P us → AllByRecursion (λ (e : Entry). P e.bytes) (map entry_of us)
entries_from P us all = by_list us (recursion_from_All P us all)
  where
    by_list : (us : List (List ℕ)) → AllByRecursion P us → AllByRecursion (λ (e : Entry). P e.bytes) (map entry_of us)
    by_list [] all = tt
    by_list (u ∷ us) all = (all.0, by_list us all.1)

-- a commit adds some of its batch, or nothing
pub grows_commit : (limits : Limits) (before batch : List (List ℕ)) (r : Result Answer CommitFault) (faults later : ℕ) (after : List (List ℕ)) → Commits limits before batch r faults later after → GrowsBy batch before after
grows_commit limits before batch (Ok committed) faults later after a = record {
  added = a.added;
  behind = a.behind;
  of = updates_of (Contains batch) a.added (each_weaker (Contains (map entry_of batch)) (λ (e : Entry). Contains batch e.bytes) (member_back batch) (map entry_of a.added) a.adds.from);
}
grows_commit limits before batch (Err commit_faults.Full) faults later after c = grows_none batch before after c.1
grows_commit limits before batch (Err commit_faults.DiskFault) faults later after c = grows_none batch before after c.1
grows_commit limits before batch (Err commit_faults.Memory) faults later after c = grows_none batch before after c

-- a list that grew is of a set where it was before and where all that it gained is
pub grown_within : (P : List ℕ → Type 0) (from before after : List (List ℕ)) → GrowsBy from before after → All P before → ((u : List ℕ) → Contains from u → P u) → All P after
grown_within P from before after g all f = subst (All P) (sym g.behind) (All-append P before g.added all (All-weaker (Contains from) P f g.added g.of))
