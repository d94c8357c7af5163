-- The definitions have runs: one end has one update and the other has none, and after four turns both are done.
use Rattle.std.proofs.Common.{◌≡◌, inl, inr, ℕ, ◌+◌, Bool, true, false, ◌&&◌, ◌||◌, List, [], ◌∷◌, Some, None, refl, arith}
use Rattle.std.specs.List.Sorted.{IsStrictlySortedBy}
use Rattle.std.proofs.lemmas.List.Elements.{All-nil}
use Rattle.update_model.specs.declared.update_id.UpdateId.{UpdateId}
use Rattle.update_model.specs.Entry.{Entry, same_id, id_cmp}
use Rattle.update_model.specs.Graph.{holds, AreHeads}
use Rattle.bloom_summary.specs.Bloom.{AreBits, is_member}
use Rattle.update_model.specs.Since.{IsBehind}
use Rattle.update_model.specs.Batch.{store_limits, Adds}
use Rattle.session_rules.specs.Commit.{Added}
use Rattle.session_rules.specs.Pair.{PairData, swapped, Carries, CarriesOn, at_first, then_a, then_b, Opens}
use Rattle.session_rules.specs.State.{Initiator, Responder, HelloData, TurnData, FrameData, Hello, Item, Turn, Done, Burst, SessionData}
use Rattle.session_rules.specs.Steps.{begun, counted, Joins, committed, replied, silent, closing}
use Rattle.session_rules.proofs.Bounds.{sorted_none}
use Rattle.session_rules.proofs.Words.{first_member}

abbrev one_id : UpdateId
one_id = record { 0 = [] }

abbrev one : Entry
one = record { id = one_id; preds = []; bytes = [] }

none_member : (id : UpdateId) → is_member [] id ≡ false
unfolding is_member
none_member id = refl

no_bits : AreBits [] []
no_bits = record { len = refl; each = λ i. omega arith; exact = λ k h. absurd (omega (arith, h)) }

not_behind : (e : Entry) → ¬ (IsBehind (one ∷ []) [] e)
not_behind e (inl h) = cc
not_behind e (inr h) = let never = h.2 in cc

sorted_one : IsStrictlySortedBy id_cmp (one_id ∷ [])
unfolding IsStrictlySortedBy
sorted_one = (tt, tt)

heads_one : AreHeads (one ∷ []) (one_id ∷ [])
heads_one = record { rising = sorted_one; exact = λ id. both (same_id id one_id || false) }
  where
    both : (b : Bool) → b ≡ (b && true)
    both true = refl
    both false = refl

heads_none : AreHeads [] []
heads_none = record { rising = sorted_none; exact = λ id. refl }

joins_none : Joins [] [] []
joins_none = record { rising = sorted_none; exact = λ id. refl }

nothing_added : (list : List Entry) → Adds list [] [] []
nothing_added list = record { from = tt; next = tt; rest = refl; stuck = tt }

one_added : Adds [] (one ∷ []) (one ∷ []) []
one_added = record {
  from = (first_member one [], tt);
  next = (record { new = refl; preds = All-nil (λ p. holds [] p ≡ true) }, tt);
  rest = refl;
  stuck = tt;
}

module _ (bits : List ℕ) (are_bits : AreBits (one_id ∷ []) bits) where
  abbrev hello_a : HelloData
  hello_a = record { database = []; node = []; heads = one_id ∷ []; old = []; filter = bits }

  abbrev hello_b : HelloData
  hello_b = record { database = []; node = []; heads = []; old = []; filter = [] }

  abbrev turn_1 : TurnData
  turn_1 = record { have = false; needs = [] }

  abbrev all_held : TurnData
  all_held = record { have = true; needs = [] }

  abbrev a0 : SessionData
  a0 = record (begun Initiator [] [] [] (one ∷ [])) { turns = 1 }

  abbrev b0 : SessionData
  b0 = begun Responder [] [] [] []

  abbrev b1 : SessionData
  b1 = record b0 { start = []; peer = Some hello_a; reading = Burst; turns = 0 + 2; sent_have = false }

  abbrev a1 : SessionData
  a1 = record (counted a0) { peer = Some hello_b; reading = Burst }

  abbrev a2 : SessionData
  a2 = replied (committed a1 turn_1 [] []) turn_1 all_held [] []

  abbrev b2 : SessionData
  b2 = record (counted b1) { items = 1; reading = Burst; gathered = one ∷ [] }

  abbrev b3 : SessionData
  b3 = replied (committed b2 all_held (one ∷ []) []) all_held all_held [] []

  abbrev a3 : SessionData
  a3 = record (committed a2 all_held [] []) { ended = Some Done }

  abbrev pair : SessionData → SessionData → List Entry → List FrameData → List FrameData → PairData
  pair a b list_b to_a to_b = record { a = a; list_a = one ∷ []; b = b; list_b = list_b; to_a = to_a; to_b = to_b }

  abbrev p0 : PairData
  p0 = pair a0 b0 [] [] (Hello hello_a ∷ [])

  abbrev p1 : PairData
  p1 = pair a0 b1 [] (Hello hello_b ∷ Turn turn_1 ∷ []) []

  abbrev p2 : PairData
  p2 = pair a1 b1 [] (Turn turn_1 ∷ []) []

  abbrev p3 : PairData
  p3 = pair a2 b1 [] [] (Item one ∷ Turn all_held ∷ [])

  abbrev p4 : PairData
  p4 = pair a2 b2 [] [] (Turn all_held ∷ [])

  abbrev p5 : PairData
  p5 = pair a2 b3 (one ∷ []) (Turn all_held ∷ []) []

  abbrev p6 : PairData
  p6 = pair a3 b3 (one ∷ []) [] []

  opens : Opens p0
  opens = record {
    database = [];
    node_a = [];
    node_b = [];
    old_a = [];
    old_b = [];
    hello = hello_a;
    closed_a = (record { new = refl; preds = All-nil (λ p. holds [] p ≡ true) }, tt);
    closed_b = tt;
    few_a = omega arith;
    few_b = omega arith;
    a = refl;
    b = refl;
    is_hello = record { database = refl; node = refl; heads = heads_one; old = refl; since = one ∷ []; are_since = inl (not_behind one, ([], refl, refl)); filter = are_bits };
    to_a = refl;
    to_b = refl;
  }

  c1 : Carries store_limits (swapped p0) (swapped p1)
  c1 = record {
    frame = Hello hello_a;
    rest = [];
    next = b1;
    out = record { hello = Some hello_b; send = []; turn = Some turn_1; end = None };
    after = [];
    first = refl;
    step = (hello_b, [], record { database = refl; node = refl; heads = heads_none; old = refl; since = []; are_since = refl; filter = no_bits }, ([], refl, refl), (refl, refl), refl);
    is = refl;
  }

  c2 : Carries store_limits p1 p2
  c2 = record { frame = Hello hello_b; rest = Turn turn_1 ∷ []; next = a1; out = silent; after = one ∷ []; first = refl; step = (refl, refl, refl); is = refl }

  c3 : Carries store_limits p2 p3
  c3 = record {
    frame = Turn turn_1;
    rest = [];
    next = a2;
    out = record { hello = None; send = one ∷ []; turn = Some all_held; end = None };
    after = one ∷ [];
    first = refl;
    step = (
      Added [] [],
      (nothing_added (one ∷ []), refl, refl),
      (
        all_held,
        record { have = refl; needs = refl },
        (one ∷ [], [], [], (one ∷ [], inl (not_behind one, ([], refl, refl)), inl (inl (none_member one_id), ([], refl, refl))), joins_none, joins_none, refl, refl),
      ),
    );
    is = refl;
  }

  c4 : Carries store_limits (swapped p3) (swapped p4)
  c4 = record { frame = Item one; rest = Turn all_held ∷ []; next = b2; out = silent; after = []; first = refl; step = (refl, refl, refl); is = refl }

  c5 : Carries store_limits (swapped p4) (swapped p5)
  c5 = record {
    frame = Turn all_held;
    rest = [];
    next = b3;
    out = record { hello = None; send = []; turn = Some all_held; end = Some Done };
    after = one ∷ [];
    first = refl;
    step = (Added (one ∷ []) [], (one_added, refl, refl), (all_held, record { have = refl; needs = refl }, ([], [], [], refl, joins_none, joins_none, refl, refl)));
    is = refl;
  }

  c6 : Carries store_limits p5 p6
  c6 = record {
    frame = Turn all_held;
    rest = [];
    next = a3;
    out = closing Done;
    after = one ∷ [];
    first = refl;
    step = (Added [] [], (nothing_added (one ∷ []), refl, refl), (all_held, record { have = refl; needs = refl }, (refl, refl)));
    is = refl;
  }

  -- four turns, both done, one update gained
  pub run : CarriesOn store_limits store_limits p0 p6 × (p6.a.ended ≡ Some Done) × (p6.b.ended ≡ Some Done) × (p6.a.turns ≡ 4) × (p6.b.turns ≡ 4) × (p6.b.gained ≡ 1) × (p6.list_b ≡ one ∷ [])
  run = (then_a p5 p6 (then_b p4 p5 (then_b p3 p4 (then_a p2 p3 (then_a p1 p2 (then_b p0 p1 (at_first p0 refl) c1) c2) c3) c4) c5) c6, refl, refl, refl, refl, refl, refl)
