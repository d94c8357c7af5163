-- Two holders of one rule and one database: both lists become the union.
use Rattle.std.proofs.Common.{◌≡◌, ◌≢◌, ◌⊎◌, inl, inr, ℕ, ◌≤◌, max, List, [], ◌++◌, Contains, length, Some, None, refl, sym, ap, subst, ◌∙◌, arith}
use Rattle.std.specs.List.{AllByRecursion}
use Rattle.std.proofs.lemmas.List.Elements.{Contains-append_cases}
use Rattle.update_check.specs.Causes.{IsCause}
use Rattle.update_check.specs.Signed.{IsChecked}
use Rattle.update_check.specs.declared.check_error.CheckFault.{CheckFault}
use Rattle.update_model.specs.declared.limits.TheConstants.{MAX_MEMBERS}
use Rattle.update_model.specs.Batch.{Limits}
use Rattle.update_model.specs.Entry.{Entry}
use Rattle.update_model.specs.Graph.{IsClosed}
use Rattle.update_model.specs.Rule.{RuleData}
use Rattle.update_model.proofs.Ids.{same_id-symm}
use Rattle.session_rules.specs.Laws.{NoCollision, IsUnion}
use Rattle.session_rules.specs.Pair.{PairData, swapped, bound, missing, Carries, CarriesOn, at_first, then_a, then_b, Opens, Reaches, begins, goes, carries_a, carries_b}
use Rattle.session_rules.specs.declared.role.Role.TheVariants.{Responder}
use Rattle.session_rules.specs.declared.end.End.{End}
use Rattle.session_rules.specs.declared.end.End.TheVariants.{Done, Peer, Full, Store}
use Rattle.session_rules.specs.State.{FrameData, Hello, OtherVersion, Item, BadItem, Turn, NoFrame, SessionData}
use Rattle.session_rules.specs.Steps.{Steps, begun}
use Rattle.session_rules.proofs.Exact.{carries_on, is_union}
use Rattle.session_rules.proofs.Facts.{in_bound, no_faults}
use Rattle.session_rules.proofs.Held.{Within, distinct}
use Rattle.session_rules.proofs.Runs.{holds_always}
use Rattle.session_rules.proofs.Words.{each_member}
use Rattle.sync_session.specs.Carrying.{Arrives, Begins, EndsBy, Hands, HandsOn, Syncs, Unites}
use Rattle.sync_session.specs.Carrying as carrying
use Rattle.sync_session.specs.declared.pair.PairStart.{PairStart}
use Rattle.sync_session.proofs.Within.{FrameIn, PairIn, run_in, swapped_in}

-- what is checked is not refused
abbrev pub NoCause : Type 0
NoCause = (rule : RuleData) (bytes : List ℕ) (fault : CheckFault) → IsCause rule bytes fault → IsChecked rule bytes → ⊥

-- an update under the rule
abbrev pub IsFine : RuleData → Entry → Type 0
IsFine rule e = IsChecked rule e.bytes

module _ (no_cause : NoCause) (rule : RuleData) where
  -- it arrives as it was sent
  same_frame : (frame arrived : FrameData) → FrameIn (IsFine rule) frame → Arrives rule frame arrived → arrived ≡ frame
  same_frame (Item e) arrived p (inl fine) = fine.0
  same_frame (Item e) arrived p (inr bad) = absurd (no_cause rule e.bytes bad.0 bad.2 p)
  same_frame (Hello hello) arrived p is = is
  same_frame OtherVersion arrived p is = is
  same_frame (BadItem why) arrived p is = is
  same_frame (Turn turn) arrived p is = is
  same_frame (NoFrame place) arrived p is = is

  carries_from : (limits : Limits) (p q : PairData) → PairIn (IsFine rule) p → Hands limits rule p q → Carries limits p q
  carries_from limits p q i k = record {
    frame = k.frame;
    rest = k.rest;
    next = k.next;
    out = k.out;
    after = k.after;
    first = k.first;
    step = subst (λ (f : FrameData). Steps limits p.a p.list_a f k.next k.out k.after) (same_frame k.frame k.arrived (subst (AllByRecursion (FrameIn (IsFine rule))) k.first i.to_a).0 k.arrives) k.step;
    is = k.is;
  }

  -- so what is handed on is carried on
  pub carries_all : (limits_a limits_b : Limits) (p q : PairData) → PairIn (IsFine rule) p → HandsOn limits_a limits_b rule rule p q → CarriesOn limits_a limits_b p q
  carries_all limits_a limits_b p q i (carrying.at_first q' is) = at_first q is
  carries_all limits_a limits_b p q i (carrying.then_a m q' before k) =
      then_a m q (carries_all limits_a limits_b p m i before) (carries_from limits_a m q (run_in (IsFine rule) limits_a limits_b rule rule p m before i) k)
  carries_all limits_a limits_b p q i (carrying.then_b m q' before k) =
      then_b m q (carries_all limits_a limits_b p m i before) (carries_from limits_b (swapped m) (swapped q) (swapped_in (IsFine rule) m (run_in (IsFine rule) limits_a limits_b rule rule p m before i)) k)

reaches : (limits_a limits_b : Limits) (p q : PairData) → CarriesOn limits_a limits_b p q → Reaches limits_a limits_b p q
reaches limits_a limits_b p q (at_first q' is) = begins q is
reaches limits_a limits_b p q (then_a m q' before k) = goes m q (reaches limits_a limits_b p m before) (carries_a k)
reaches limits_a limits_b p q (then_b m q' before k) = goes m q (reaches limits_a limits_b p m before) (carries_b k)

-- two ends of one database
pub opens_from : (start : PairStart) (list_a list_b : List Entry) (p : PairData) → IsClosed list_a → IsClosed list_b → length list_a ≤ MAX_MEMBERS → length list_b ≤ MAX_MEMBERS → start.database_a ≡ start.database_b
    → Begins start list_a list_b p → Opens p
opens_from start list_a list_b p closed_a closed_b few_a few_b same b = subst Opens (sym b.is) (record {
  database = start.database_a;
  node_a = start.node_a;
  node_b = start.node_b;
  old_a = start.old_a;
  old_b = start.old_b;
  hello = b.hello;
  closed_a = closed_a;
  closed_b = closed_b;
  few_a = few_a;
  few_b = few_b;
  a = refl;
  b = ap (λ (database : List ℕ). begun Responder database start.node_b start.old_b []) (sym same);
  is_hello = b.is_hello;
  to_a = refl;
  to_b = refl;
})

-- no two updates of the grown lists share an id where none of the first lists did
still_alike : (la lb added_a added_b list_a list_b : List Entry) → IsClosed la → IsClosed lb → list_a ≡ la ++ added_a → list_b ≡ lb ++ added_b → Within lb added_a → Within la added_b → NoCollision la lb → NoCollision list_a list_b
still_alike la lb added_a added_b list_a list_b closed_a closed_b is_a is_b from_a from_b alike x y cx cy same =
    elim (Contains-append_cases la added_a x (subst (λ (xs : List Entry). Contains xs x) is_a cx)) [
      | inl xa ↦ of_a xa (Contains-append_cases lb added_b y (subst (λ (xs : List Entry). Contains xs y) is_b cy))
      | inr xb ↦ of_b (each_member (Contains lb) added_a x from_a xb) (Contains-append_cases lb added_b y (subst (λ (xs : List Entry). Contains xs y) is_b cy))
    ]
  where
    of_a : Contains la x → Contains lb y ⊎ Contains added_b y → x ≡ y
    of_a xa (inl yb) = alike x y xa yb same
    of_a xa (inr ya) = distinct [] la x y closed_a xa (each_member (Contains la) added_b y from_b ya) same

    of_b : Contains lb x → Contains lb y ⊎ Contains added_b y → x ≡ y
    of_b xb (inl yb) = distinct [] lb x y closed_b xb yb same
    of_b xb (inr ya) = sym (alike y x (each_member (Contains la) added_b y from_b ya) xb (same_id-symm y.id x.id ∙ same))

done_from : (ending : End) (q : PairData) → ((fault : _) → q.a.ended ≢ Some (Peer fault)) × ((fault : _) → q.b.ended ≢ Some (Peer fault)) → ending ≢ Full → ending ≢ Store → EndsBy ending q → ending ≡ Done
done_from Done q fine room disk ends = refl
done_from (Peer fault) q fine room disk (inl a) = absurd (fine.0 fault a)
done_from (Peer fault) q fine room disk (inr b) = absurd (fine.1 fault b)
done_from Full q fine room disk ends = absurd (room refl)
done_from Store q fine room disk ends = absurd (disk refl)

-- of one whole session
pub united : (limits_a limits_b : Limits) (la lb : List Entry) (p q : PairData) (ending : End) → Opens p → p.list_a ≡ la → p.list_b ≡ lb → CarriesOn limits_a limits_b p q → NoCollision la lb → EndsBy ending q → ending ≢ Full → ending ≢ Store
    → (ending ≡ Done) × IsUnion p q × (max q.a.turns q.b.turns ≤ bound (length (missing la lb)) (length (missing lb la)))
united limits_a limits_b la lb p q ending o is_la is_lb run alike ends room disk = elim (carries_on p o limits_a limits_b q run) [
  | inl is ↦ absurd (let done = done_of refl ends in
      let not_yet : q.a.ended ≡ None = ap (λ (p : PairData). p.a.ended) is ∙ ap (λ (s : SessionData). s.ended) o.a in
      let ended = both_of ending done ends in
      let one = ended.0 in cc)
  | inr late ↦
      let l = late.1 in
      let done = done_of refl ends in
      let ended = both_of ending done ends in
      let still = still_alike p.list_a p.list_b l.added_a l.added_b q.list_a q.list_b o.closed_a o.closed_b l.is_a l.is_b l.from_a l.from_b (rw (is_la, is_lb) alike) in
      let low = in_bound q (holds_always limits_a limits_b p q o (reaches limits_a limits_b p q run)) in
      let same_a : q.a.start ≡ la = l.start_a ∙ is_la in
      let same_b : q.b.start ≡ lb = l.start_b ∙ is_lb in
      let low_a : q.a.turns ≤ bound (length (missing la lb)) (length (missing lb la)) = rw (← same_a, ← same_b) low.0 in
      let low_b : q.b.turns ≤ bound (length (missing la lb)) (length (missing lb la)) = rw (← same_a, ← same_b) low.1 in
      (done, is_union limits_a limits_b p q o run still ended.0 ended.1, omega arith)
]
  where
    done_of : ending ≡ ending → EndsBy ending q → ending ≡ Done
    done_of _ e = done_from ending q (no_faults q (holds_always limits_a limits_b p q o (reaches limits_a limits_b p q run))) room disk e

    both_of : (ending : End) → ending ≡ Done → EndsBy ending q → (q.a.ended ≡ Some Done) × (q.b.ended ≡ Some Done)
    both_of ending is e = subst (λ (x : End). EndsBy x q) is e
