-- A session that belongs to a list belongs to it when the list has grown.
use Rattle.std.proofs.Common.{◌≡◌, ℕ, ◌≤◌, ◌&&◌, List, ◌++◌, length, map, take, sym, ap, subst, ◌∙◌, arith, length-append}
use Rattle.std.specs.Prelude.{not}
use Rattle.std.proofs.lemmas.List.{take-append-le, length-map, map-append}
use Rattle.session_rules.specs.Course.{opened}
use Rattle.session_rules.specs.Pair.{Feeds, grown}
use Rattle.session_rules.specs.State.{SessionData}
use Rattle.session_rules.specs.Steps.{heads_in}
use Rattle.sync_session.specs.Kept.{Kept, BelongsTo, seen, whole}
use Rattle.sync_session.specs.Wants.{AreSought}
use Rattle.sync_session.proofs.Wanting.{sought_grown}
use Rattle.update_codec.specs.Parts.{entry_of}
use Rattle.update_model.specs.declared.limits.TheConstants.{MAX_MEMBERS}
use Rattle.update_model.specs.Batch.{store_limits}
use Rattle.update_model.specs.Entry.{Entry}
use Rattle.update_model.specs.Graph.{has, holds, names}
use Rattle.update_model.specs.Rule.{RuleData}
use Rattle.world_rules.specs.Lists.{Extends}
use Rattle.world_rules.proofs.Courses.{few_members}

-- the first members stay the first
entries_front : (old new more : List (List ℕ)) (n : ℕ) → n ≤ length old → new ≡ old ++ more → take n (map entry_of new) ≡ take n (map entry_of old)
entries_front old new more n low is =
    ap (λ (xs : List (List ℕ)). take n (map entry_of xs)) is ∙ ap (take n) (map-append entry_of old more)
    ∙ take-append-le n (map entry_of old) (map entry_of more) (subst (λ k. n ≤ k) (sym (length-map old entry_of)) low)

-- the rules see the same session over the longer list
pub seen_still : (old new more : List (List ℕ)) (k : Kept) → k.below ≤ length old → new ≡ old ++ more → seen new k ≡ seen old k
seen_still old new more k low is = ap (λ (start : List Entry). whole start k) (entries_front old new more k.below low is)

pub belongs_still : (rule : RuleData) (k : Kept) (before now : List (List ℕ)) → Extends rule before now → BelongsTo store_limits rule k before → BelongsTo store_limits rule k now
belongs_still rule k before now e belongs fine =
    let was = belongs fine in
    let low = was.stands.below in
    let front = entries_front before now e.more k.below low e.begins in
    let same = seen_still before now e.more k low e.begins in
    let list : map entry_of now ≡ map entry_of before ++ map entry_of e.more = ap (map entry_of) e.begins ∙ map-append entry_of before e.more in
    let few : length (map entry_of before ++ map entry_of e.more) ≤ MAX_MEMBERS = subst (λ (xs : List Entry). length xs ≤ MAX_MEMBERS) list (few_members rule now e.members) in
    let feeds = grown (seen before k) (map entry_of before) (map entry_of e.more) was.continues.feeds few in
    record {
      stands = record {
        below = let size = ap length e.begins in omega (arith, low, size, length-append before e.more);
        heads = λ id. subst (λ (start : List Entry). has k.heads id ≡ (holds start id && not (names start id))) (sym front) (was.stands.heads id);
        under = was.stands.under;
        seeks = λ going. subst (λ (xs : List Entry). AreSought (heads_in k.state.peer) xs k.pending k.state.asked k.sought) (sym list)
            (sought_grown (heads_in k.state.peer) (map entry_of before) (map entry_of e.more) k.pending k.state.asked k.sought (was.stands.seeks going));
      };
      continues = record {
        role = was.continues.role;
        database = was.continues.database;
        node = was.continues.node;
        old = was.continues.old;
        first = was.continues.first;
        few = was.continues.few;
        feeds = subst (λ (s : SessionData). Feeds store_limits (opened was.continues.role was.continues.database was.continues.node was.continues.old was.continues.first) was.continues.first s (map entry_of now)) (sym same)
            (subst (λ (xs : List Entry). Feeds store_limits (opened was.continues.role was.continues.database was.continues.node was.continues.old was.continues.first) was.continues.first (seen before k) xs) (sym list) feeds);
      };
    }
