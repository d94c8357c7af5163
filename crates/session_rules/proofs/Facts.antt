-- What the invariant says of the ends.
use Rattle.std.proofs.Common.{◌≡◌, ◌≢◌, inl, inr, ℕ, ◌+◌, ◌≤◌, Bool, true, false, ◌&&◌, cond, if◌then◌else◌, List, [], ◌∷◌, ◌++◌, length, map, Contains, Some, None, refl, sym, ap, subst, ◌∙◌, arith}
use Rattle.std.proofs.lemmas.List.Elements.{Contains-append_left}
use Rattle.update_model.specs.Entry.{Entry}
use Rattle.update_model.proofs.Ids.{same_id-symm}
use Rattle.session_rules.specs.Laws.{NoCollision, HasAll, InBound, IsLive, moves_a, moves_b, both_done, stops_a, stops_b}
use Rattle.session_rules.specs.Pair.{PairData, swapped, missing, bound, IsNoFault}
use Rattle.session_rules.specs.State.{Item, Turn, End, Done, Peer, Full, Store, Burst, SessionData}
use Rattle.session_rules.specs.Steps.{heads_in, counted}
use Rattle.session_rules.proofs.Words.{and_both}
use Rattle.session_rules.proofs.ItemStep.{turns_below}
use Rattle.session_rules.proofs.Covers.{all_members}
use Rattle.session_rules.proofs.Ends.{KnowsEnd}
use Rattle.session_rules.proofs.Phases.{Reads, is_fine, Over}
use Rattle.session_rules.proofs.Runs.{Starts, Inv, starts, greeted, reads_a, reads_b, over_a, over_b}

running_fine : (s : SessionData) → s.ended ≡ None → IsNoFault s
running_fine s is fault h = cc

done_or_none : (s : SessionData) (b : Bool) → s.ended ≡ (if b then Some Done else None) → IsNoFault s
done_or_none s true is fault h = cc
done_or_none s false is fault h = cc

waits_fine : (s : SessionData) → s.ended ≡ (if s.sent_have && s.got_have then Some Done else None) → IsNoFault s
waits_fine s is = done_or_none s (s.sent_have && s.got_have) is

over_fine : (s : SessionData) (ending : End) → s.ended ≡ Some ending → is_fine ending ≡ true → IsNoFault s
over_fine s Done is fine fault h = cc
over_fine s (Peer f) is fine fault h = cc
over_fine s Full is fine fault h = cc
over_fine s Store is fine fault h = cc

pub no_faults : (p : PairData) → Inv p → IsNoFault p.a × IsNoFault p.b
no_faults p (starts s) = (running_fine p.a (ap (λ (p : PairData). p.a.ended) s.is), running_fine p.b (ap (λ (p : PairData). p.b.ended) s.is))
no_faults p (greeted g) = (running_fine p.a g.running, waits_fine p.b g.reads.ended_b)
no_faults p (reads_a r) = (running_fine p.a r.running, waits_fine p.b r.ended_b)
no_faults p (reads_b r) = (waits_fine p.a r.ended_b, running_fine p.b r.running)
no_faults p (over_a o) = (over_fine p.a o.ending o.ended o.fine, waits_fine p.b o.ended_b)
no_faults p (over_b o) = (waits_fine p.a o.ended_b, over_fine p.b o.ending o.ended o.fine)

-- ---- what an end that is done holds

has_all : (s : SessionData) (sent : ℕ) (list other more : List Entry) (list_other : List Entry) → KnowsEnd s sent list other → list_other ≡ other ++ more → NoCollision list_other list
    → s.sent_have ≡ true → HasAll list other
has_all s sent list other more list_other k begins alike have =
    all_members other list (heads_in s.peer) k.closed_other k.closed (λ a b ca cb same. alike a b (subst (λ (l : List Entry). Contains l a) (sym begins) (Contains-append_left other more a ca)) cb same)
    k.are_heads (k.kept have)

turned : (xs ys : List Entry) → NoCollision xs ys → NoCollision ys xs
turned xs ys alike = λ a b ca cb same. sym (alike b a cb ca (same_id-symm b.id a.id ∙ same))

waiter_done : (s : SessionData) → s.ended ≡ (if s.sent_have && s.got_have then Some Done else None) → s.ended ≡ Some Done → s.sent_have ≡ true
waiter_done s is done = by_have (s.sent_have && s.got_have) refl is
  where
    by_have : (b : Bool) → (s.sent_have && s.got_have) ≡ b → s.ended ≡ (if b then Some Done else None) → s.sent_have ≡ true
    by_have true e f = (and_both s.sent_have s.got_have e).0
    by_have false e f = absurd cc

-- of either end: once it has said that it has all, it holds the other's start set
holds_all_a : (p : PairData) (sent_a sent_b : ℕ) → KnowsEnd p.a sent_a p.list_a p.b.start → KnowsEnd p.b sent_b p.list_b p.a.start → NoCollision p.list_a p.list_b → p.a.sent_have ≡ true → HasAll p.list_a p.b.start
holds_all_a p sent_a sent_b ka kb alike have = has_all p.a sent_a p.list_a p.b.start kb.more p.list_b ka kb.begins (turned p.list_a p.list_b alike) have

holds_all_b : (p : PairData) (sent_a sent_b : ℕ) → KnowsEnd p.a sent_a p.list_a p.b.start → KnowsEnd p.b sent_b p.list_b p.a.start → NoCollision p.list_a p.list_b → p.b.sent_have ≡ true → HasAll p.list_b p.a.start
holds_all_b p sent_a sent_b ka kb alike have = has_all p.b sent_b p.list_b p.a.start ka.more p.list_a kb ka.begins alike have

pub done_a : (p : PairData) → Inv p → NoCollision p.list_a p.list_b → p.a.ended ≡ Some Done → HasAll p.list_a p.b.start
done_a p (starts s) alike d = absurd (let not_yet : p.a.ended ≡ None = ap (λ (p : PairData). p.a.ended) s.is in cc)
done_a p (greeted g) alike d = absurd (let not_yet = g.running in cc)
done_a p (reads_a r) alike d = absurd (let not_yet = r.running in cc)
done_a p (reads_b r) alike d = holds_all_a p p.a.turns r.last r.knows_b r.knows alike (waiter_done p.a r.ended_b d)
done_a p (over_a o) alike d = holds_all_a p o.last o.last_b o.knows o.knows_b alike (o.done (let is = o.ended in cc))
done_a p (over_b o) alike d = holds_all_a p o.last_b o.last o.knows_b o.knows alike (waiter_done p.a o.ended_b d)

pub done_b : (p : PairData) → Inv p → NoCollision p.list_a p.list_b → p.b.ended ≡ Some Done → HasAll p.list_b p.a.start
done_b p (starts s) alike d = absurd (let not_yet : p.b.ended ≡ None = ap (λ (p : PairData). p.b.ended) s.is in cc)
done_b p (greeted g) alike d = has_all p.b p.b.turns p.list_b p.a.start g.reads.knows.more p.list_a g.reads.knows_b g.reads.knows.begins alike (waiter_done p.b g.reads.ended_b d)
done_b p (reads_a r) alike d = holds_all_b p r.last p.b.turns r.knows r.knows_b alike (waiter_done p.b r.ended_b d)
done_b p (reads_b r) alike d = absurd (let not_yet = r.running in cc)
done_b p (over_a o) alike d = holds_all_b p o.last o.last_b o.knows o.knows_b alike (waiter_done p.b o.ended_b d)
done_b p (over_b o) alike d = holds_all_b p o.last_b o.last o.knows_b o.knows alike (o.done (let is = o.ended in cc))

-- ---- the bound

reader_low : (p : PairData) → Reads p → p.a.turns ≤ bound (length (missing p.a.start p.b.start)) (length (missing p.b.start p.a.start))
reader_low p r = turns_below p.a.began p.a.turns r.last p.b.turns r.turns_a r.turns r.low

same_bound : (m n turns : ℕ) → turns ≤ bound m n → turns ≤ bound n m
same_bound m n turns h = omega arith

starts_low : (p : PairData) → Starts p → InBound p
starts_low p s =
    let a : p.a.turns ≡ 1 = ap (λ (p : PairData). p.a.turns) s.is in
    let b : p.b.turns ≡ 0 = ap (λ (p : PairData). p.b.turns) s.is in
    (omega arith, omega arith)

pub in_bound : (p : PairData) → Inv p → InBound p
in_bound p (starts s) = starts_low p s
in_bound p (greeted g) = let low = reader_low (record p { a = record (counted p.a) { peer = Some g.own; reading = Burst }; to_a = g.rest }) g.reads in (fewer p.a.began low, g.reads.low)
  where
    fewer : (b : Bool) {n : ℕ} → p.a.turns + cond b 0 1 ≤ n → p.a.turns ≤ n
    fewer true h = omega arith
    fewer false h = omega arith
in_bound p (reads_a r) = (reader_low p r, r.low)
in_bound p (reads_b r) = (same_bound _ _ p.a.turns r.low, same_bound _ _ p.b.turns (reader_low (swapped p) r))
in_bound p (over_a o) = (o.low, o.low_b)
in_bound p (over_b o) = (same_bound _ _ p.a.turns o.low_b, same_bound _ _ p.b.turns o.low)

-- ---- no end waits for ever

pub nonempty_way : (p : PairData) → Reads p → p.to_a ≢ []
nonempty_way p r e = by_items r.items (sym r.way ∙ e)
  where
    by_items : (items : List Entry) → map Item items ++ Turn r.turn ∷ [] ≡ [] → ⊥
    by_items [] h = cc
    by_items (x ∷ xs) h = cc

over_live_a : (p : PairData) (o : Over p) (ending : End) → o.ending ≡ ending → IsLive p
over_live_a p o Done is = both_done (o.ended ∙ ap Some is) (o.both is)
over_live_a p o (Peer f) is = absurd (let fine : is_fine (Peer f) ≡ true = subst (λ e. is_fine e ≡ true) is o.fine in cc)
over_live_a p o Full is = stops_a (inl (o.ended ∙ ap Some is))
over_live_a p o Store is = stops_a (inr (o.ended ∙ ap Some is))

over_live_b : (p : PairData) (o : Over (swapped p)) (ending : End) → o.ending ≡ ending → IsLive p
over_live_b p o Done is = both_done (o.both is) (o.ended ∙ ap Some is)
over_live_b p o (Peer f) is = absurd (let fine : is_fine (Peer f) ≡ true = subst (λ e. is_fine e ≡ true) is o.fine in cc)
over_live_b p o Full is = stops_b (inl (o.ended ∙ ap Some is))
over_live_b p o Store is = stops_b (inr (o.ended ∙ ap Some is))

pub live : (p : PairData) → Inv p → IsLive p
live p (starts s) = moves_b (ap (λ (p : PairData). p.b.ended) s.is) (λ e. let some = ap (λ (p : PairData). p.to_b) s.is in cc)
live p (greeted g) = moves_a g.running (λ e. let some = g.coming in cc)
live p (reads_a r) = moves_a r.running (nonempty_way p r)
live p (reads_b r) = moves_b r.running (nonempty_way (swapped p) r)
live p (over_a o) = over_live_a p o o.ending refl
live p (over_b o) = over_live_b p o o.ending refl
