-- A session whose holder's list grows between two calls.
use Rattle.std.proofs.Common.{◌≤◌, ℕ, List, ◌++◌, length, map, refl, sym, ap, subst, arith, length-append}
use Rattle.std.proofs.lemmas.List.{length-map, map-append}
use Rattle.update_codec.specs.Parts.{entry_of}
use Rattle.update_model.specs.declared.limits.TheConstants.{MAX_MEMBERS}
use Rattle.update_model.specs.Batch.{Limits}
use Rattle.update_model.specs.Entry.{Entry}
use Rattle.update_model.specs.Rule.{RuleData}
use Rattle.session_rules.specs.Course.{Continues}
use Rattle.session_rules.specs.Pair.{grown}
use Rattle.session_rules.specs.State.{SessionData}
use Rattle.sync_session.specs.Kept.{Kept, BelongsTo, Stands, seen, whole}
use Rattle.sync_session.proofs.TurnTaking.{front_stays}
use Rattle.sync_session.proofs.Wanting.{sought_grown}
use Rattle.session_rules.specs.Steps.{heads_in}

-- an end whose list grows has been through one thing more
continues_grown : (limits : Limits) (s : SessionData) (list more : List Entry) → Continues limits s list → length (list ++ more) ≤ MAX_MEMBERS → Continues limits s (list ++ more)
continues_grown limits s list more c few = record {
  role = c.role;
  database = c.database;
  node = c.node;
  old = c.old;
  first = c.first;
  few = c.few;
  feeds = grown s list more c.feeds few;
}

-- the start set is the same part of the longer list
stands_grown : (rule : RuleData) (k : Kept) (members more : List (List ℕ)) → Stands rule k members → Stands rule k (members ++ more)
stands_grown rule k members more s = record {
  below = let low = s.below in omega (arith, length-append members more);
  heads = λ id. rw (front_stays members more (members ++ more) k.below refl s.below) (s.heads id);
  under = s.under;
  seeks = λ going. rw map-append (sought_grown (heads_in k.state.peer) (map entry_of members) (map entry_of more) k.pending k.state.asked k.sought (s.seeks going));
}

-- a session belongs to the longer list
pub belongs_grown : (limits : Limits) (rule : RuleData) (k : Kept) (members more : List (List ℕ)) → BelongsTo limits rule k members → length (members ++ more) ≤ MAX_MEMBERS → BelongsTo limits rule k (members ++ more)
belongs_grown limits rule k members more b few fine =
    let old = b fine in
    let longer = map-append entry_of members more in
    let same = length-map (members ++ more) entry_of in
    let within : length (map entry_of members ++ map entry_of more) ≤ MAX_MEMBERS = subst (λ (es : List Entry). length es ≤ MAX_MEMBERS) longer (omega arith) in
    record {
      stands = stands_grown rule k members more old.stands;
      continues =
          subst (λ (s : SessionData). Continues limits s (map entry_of (members ++ more))) (sym (ap (λ (start : List Entry). whole start k) (front_stays members more (members ++ more) k.below refl old.stands.below)))
          (subst (Continues limits (seen members k)) (sym longer) (continues_grown limits (seen members k) (map entry_of members) (map entry_of more) old.continues within));
    }
