-- Each step keeps the rule of the turns.
use Rattle.std.proofs.Common.{◌≡◌, ◌≢◌, ℕ, ◌+◌, ◌-◌, ◌<◌, ◌≤◌, List, [], ◌∷◌, ◌++◌, Bool, true, false, length, drop, get_or, set, append_assoc, cond, eqb, Option, Some, None, zero, suc, refl, sym, ap, ◌∙◌, subst, ⊎_elim, arith, zero-le, eq-eqb, ne_eqb}
use Rattle.std.specs.Prelude.{All}
use Rattle.std.specs.Option.{unwrap_or}
use Rattle.std.proofs.lemmas.List.{length-drop, get_or-drop}
use Rattle.std.proofs.lemmas.List.Elements.{All-append, All-cons, All-head, All-nil, All-rest, All-weaker}
use mathlib.Core.Logic.{dite}
use mathlib.Core.List.{IsPrefix}
use mathlib.Core.Option as maybe
use mathlib.Core.Option.{some-injective, some-ne-none}
use native.Mathlib.Decide.{ℕ_discrete, dec_le}
use lib.ListN.{get_elem?}
use lib.Seq.{set-get_or}
use prog.Atomic.{either}
use Rattle.atomic_table.specs.Table.{State, Me, step, Act, keeps, takes, gives, Valid, carried_after, stepped, rest, Allows, Splits, Joins, opening, Final, Seen}
use Rattle.atomic_table.proofs.Lists.{at_longer, at_set, at_snoc, set_else, exchanged}
use Rattle.turn_lock.proofs.Prefixes.{prefix_self, prefix_nil, prefix_more, prefix_shorter, drop_front}
use Rattle.turn_lock.specs.Numbers.{AreApart, number_in}
use Rattle.turn_lock.specs.declared.view.View.{View}
use Rattle.turn_lock.specs.declared.view.Stage.{Stage}
use Rattle.turn_lock.specs.declared.view.Stage.TheVariants.{Idle, Waiting, Turn, Holding, Stored, Spent}
use Rattle.turn_lock.specs.Turns.{AreOwned, MadeBelow, ActsUpTo, MadeBy, AtStage, Named, NoneBehind, Knows, InPlace, IsInTurn, newcomer, spent, at_stage, drawing, holding, storing, has_drawn, joining, longer_by, meeting, drew, looked, took, stored, passed, met, in_hand}

-- f, but j at t
abbrev put : (ℕ → ℕ) → ℕ → ℕ → ℕ → ℕ
put f t j x = cond (eqb x t) j (f x)

put_here : (f : ℕ → ℕ) (t j : ℕ) → put f t j t ≡ j
put_here f t j = ap (λ b. cond b j (f t)) (eq-eqb t t refl)

put_else : (f : ℕ → ℕ) (t j x : ℕ) → x ≢ t → put f t j x ≡ f x
put_else f t j x ne = ap (λ b. cond b j (f x)) (ne_eqb x t ne)

-- f, but with i for all that had j
abbrev moved : (ℕ → ℕ) → ℕ → ℕ → ℕ → ℕ
moved f j i x = cond (eqb (f x) j) i (f x)

moved_here : (f : ℕ → ℕ) (j i x : ℕ) → f x ≡ j → moved f j i x ≡ i
moved_here f j i x is = ap (λ b. cond b i (f x)) (eq-eqb (f x) j is)

moved_else : (f : ℕ → ℕ) (j i x : ℕ) → f x ≢ j → moved f j i x ≡ f x
moved_else f j i x ne = ap (λ b. cond b i (f x)) (ne_eqb (f x) j ne)

-- the numbers of the seat j are below `next`
abbrev AreOf : (ℕ → ℕ) → ℕ → ℕ → List ℕ → Type 0
AreOf bearer next j ns = All (λ n. (bearer n ≡ j) × (n < next)) ns

others_drew : (next id j : ℕ) (bearer : ℕ → ℕ) (ns : List ℕ) → AreOf bearer next j ns → AreOf (put bearer next id) (next + 1) j ns
others_drew next id j bearer ns of = All-weaker (λ n. (bearer n ≡ j) × (n < next)) (λ n. (put bearer next id n ≡ j) × (n < next + 1))
    (λ n h. let below : n < next = h.1 in (put_else bearer next id n (λ e. omega arith) ∙ h.0, (let g : n < next + 1 = omega arith in g))) ns of

apart_drew : (next j : ℕ) (bearer : ℕ → ℕ) (number : Option ℕ) (ns : List ℕ) → AreOf bearer next j ns → AreApart (number_in number ++ ns) → AreApart (number_in (Some (unwrap_or number next)) ++ ns)
apart_drew next j bearer (Some n) ns of apart = apart
apart_drew next j bearer None ns of apart = (All-weaker (λ n. (bearer n ≡ j) × (n < next)) (λ m. m ≢ next) (λ m h e. let below : m < next = h.1 in absurd (omega arith)) ns of, apart)

others_moved : (next other id j : ℕ) (bearer : ℕ → ℕ) (ns : List ℕ) → j ≢ other → AreOf bearer next j ns → AreOf (moved bearer other id) next j ns
others_moved next other id j bearer ns differs of = All-weaker (λ n. (bearer n ≡ j) × (n < next)) (λ n. (moved bearer other id n ≡ j) × (n < next))
    (λ n h. (moved_else bearer other id n (λ e. differs (sym h.0 ∙ e)) ∙ h.0, h.1)) ns of

others_here : (next other id : ℕ) (bearer : ℕ → ℕ) (ns : List ℕ) → AreOf bearer next other ns → AreOf (moved bearer other id) next id ns
others_here next other id bearer ns of = All-weaker (λ n. (bearer n ≡ other) × (n < next)) (λ n. (moved bearer other id n ≡ id) × (n < next)) (λ n h. (moved_here bearer other id n h.0, h.1)) ns of

-- the numbers of two seats are different ones
apart_append : (next i j : ℕ) (bearer : ℕ → ℕ) (xs ys : List ℕ) → i ≢ j → AreOf bearer next i xs → AreOf bearer next j ys → AreApart xs → AreApart ys → AreApart (xs ++ ys)
apart_append next i j bearer [] ys differs of_xs of_ys apart_xs apart_ys = apart_ys
apart_append next i j bearer (x ∷ xs) ys differs of_xs of_ys apart_xs apart_ys =
    let first = All-head (λ n. (bearer n ≡ i) × (n < next)) x xs of_xs in (
      All-append (λ m. m ≢ x) xs ys apart_xs.0 (All-weaker (λ n. (bearer n ≡ j) × (n < next)) (λ m. m ≢ x) (λ m h e. differs (sym first.0 ∙ ap bearer (sym e) ∙ h.0)) ys of_ys),
      apart_append next i j bearer xs ys differs (All-rest (λ n. (bearer n ≡ i) × (n < next)) x xs (x ∷ xs) refl of_xs) of_ys apart_xs.1 apart_ys,
    )

not_true : (b : Bool) → ¬ (b ≡ true) → b ≡ false
not_true true never = absurd (never refl)
not_true false never = refl

module _ {T E : Type 0} (list : T → List E) (maker : E → Option (ℕ × ℕ)) where
  abbrev V : Type 0
  V = View E

  abbrev St : Type 0
  St = State (Option T) V

  abbrev M : Type 0
  M = Me (Option T) V

  abbrev Rule : St → Type 0
  Rule = IsInTurn list maker

  abbrev Goes : St → ℕ → ℕ → M → (ℕ → M → Type 0) → ℕ → Type 0
  Goes s k id me then x = (w : V) × (a : Act (Option T)) × Valid s.homes me.1 a × Rule (stepped s k x id me.1 w a) × then (get_or s.words k 0) (w, carried_after me.1 a)

  abbrev KnowsIn : (s : St) → Rule s → ℕ → V → Type 0
  KnowsIn s r j v = Knows maker r.next r.served r.log r.taken r.owner r.bearer j v

  -- what the rule knows of the seat at its stage
  stage_of : (s : St) (r : Rule s) (id : ℕ) (v : V) (st : Stage) → get_elem? s.views id ≡ maybe.some v → v.stage ≡ st → AtStage maker r.next r.served r.log r.taken r.owner r.bearer id v st
  stage_of s r id v st at is = subst (AtStage maker r.next r.served r.log r.taken r.owner r.bearer id v) is (r.each id v at).stage

  next_is : (s : St) (r : Rule s) → get_or s.words 0 0 ≡ r.next
  next_is s r = ap (λ ws. get_or ws 0 0) r.words

  served_is : (s : St) (r : Rule s) → get_or s.words 1 0 ≡ r.served
  served_is s r = ap (λ ws. get_or ws 1 0) r.words

  -- one seat's view is w, and the others keep theirs
  seats : (K : ℕ → V → Type 0) (vs : List V) (me : ℕ) (w : V) → K me w → ((j : ℕ) (d : V) → j ≢ me → get_elem? vs j ≡ maybe.some d → K j d)
      → (j : ℕ) (d : V) → get_elem? (set vs me w) j ≡ maybe.some d → K j d
  seats K vs me w mine others j d e = ⊎_elim (λ (t : (j ≡ me) × (w ≡ d)). subst (λ (x : ℕ × V). K x.0 x.1) (λ i. (sym t.0 i, t.1 i)) mine)
      (λ (t : (j ≢ me) × (get_elem? vs j ≡ maybe.some d)). others j d t.0 t.1) (at_set vs me j w d e)

  set_at : (vs : List V) (i : ℕ) (v w : V) → get_elem? vs i ≡ maybe.some v → get_elem? (set vs i w) i ≡ maybe.some w
  set_at [] i v w at = absurd (some-ne-none v (sym at))
  set_at (x ∷ xs) zero v w at = refl
  set_at (x ∷ xs) (suc i) v w at = set_at xs i v w at

  -- one seat's view is w, by which it has each ticket that it had
  owned : (next served : ℕ) (owner : ℕ → ℕ) (vs : List V) (id : ℕ) (v w : V) → get_elem? vs id ≡ maybe.some v
      → ((t : ℕ) → served ≤ t → t < next → has_drawn v.stage ≡ true → v.ticket ≡ t → (has_drawn w.stage ≡ true) × (w.ticket ≡ t)) → AreOwned next served owner vs → AreOwned next served owner (set vs id w)
  owned next served owner vs id v w at same all t from to =
      let h = all t from to in
      dite (ℕ_discrete (owner t) id)
      (λ mine.
      let is : h.0 ≡ v = some-injective h.0 v (sym h.1 ∙ ap (get_elem? vs) mine ∙ at) in
      let now = same t from to (subst (λ (u : V). has_drawn u.stage ≡ true) is h.2) (subst (λ (u : V). u.ticket ≡ t) is h.3) in
      (w, ap (get_elem? (set vs id w)) mine ∙ set_at vs id v w at, now.0, now.1))
      (λ other. (h.0, set_else vs id (owner t) w other ∙ h.1, h.2, h.3))

  -- a seat that has no ticket
  idle_owns : (v : V) → v.stage ≡ Idle → has_drawn v.stage ≡ true → ⊥
  idle_owns v idle drawn = absurd (cc (sym (ap has_drawn idle) ∙ drawn))

  -- the seat id draws the ticket `next`
  owned_drew : (next served : ℕ) (owner : ℕ → ℕ) (vs : List V) (id : ℕ) (v w : V) → get_elem? vs id ≡ maybe.some v → v.stage ≡ Idle → has_drawn w.stage ≡ true → w.ticket ≡ next
      → AreOwned next served owner vs → AreOwned (next + 1) served (put owner next id) (set vs id w)
  owned_drew next served owner vs id v w at idle drawn is all t from to =
      dite (ℕ_discrete t next)
      (λ new. (w, ap (λ (u : ℕ). get_elem? (set vs id w) (put owner next id u)) new ∙ ap (get_elem? (set vs id w)) (put_here owner next id) ∙ set_at vs id v w at, drawn, is ∙ sym new))
      (λ old.
      let h = owned next served owner vs id v w at (λ _ _ _ d _. absurd (idle_owns v idle d)) all t from (omega arith) in
      (h.0, ap (get_elem? (set vs id w)) (put_else owner next id t old) ∙ h.1, h.2, h.3))

  -- a step that changes no word, and takes no slot
  unmoved : (s : St) (r : Rule s) (i id : ℕ) (cs : List (ℕ × Option T)) (v w : V) → get_elem? s.views id ≡ maybe.some v
      → ((t : ℕ) → r.served ≤ t → t < r.next → has_drawn v.stage ≡ true → v.ticket ≡ t → (has_drawn w.stage ≡ true) × (w.ticket ≡ t)) → KnowsIn s r id w
      → Rule (stepped s i (get_or s.words i 0) id cs w keeps)
  unmoved s r i id cs v w at same mine = subst (λ (ws : List ℕ). Rule record { words = ws; homes = s.homes; views = set s.views id w }) (sym (set-get_or s.words i 0)) record {
    next = r.next;
    served = r.served;
    log = r.log;
    taken = r.taken;
    owner = r.owner;
    bearer = r.bearer;
    words = r.words;
    order = r.order;
    busy = r.busy;
    place = r.place;
    makers = r.makers;
    owned = owned r.next r.served r.owner s.views id v w at same r.owned;
    each = seats (KnowsIn s r) s.views id w mine (λ j d _. r.each j d);
  }

  -- behind a later beginning of the list there are no more entries
  none_later : (seat : ℕ) (seen later log : List E) → length seen ≤ length later → NoneBehind maker seat seen log → NoneBehind maker seat later log
  none_later seat seen later log le none k d inside act e =
      let n : ℕ = length seen in let m : ℕ = length later in let i : ℕ = (m - n) + k in
      let short : length (drop m log) ≡ length log - m = length-drop m log in let long : length (drop n log) ≡ length log - n = length-drop n log in
      let within : i < length (drop n log) = omega arith in
      let same : get_or (drop n log) i d ≡ get_or (drop m log) k d = get_or-drop n log i d ∙ ap (λ (j : ℕ). get_or log j d) (omega arith) ∙ sym (get_or-drop m log k d) in
      none i d within act (ap maker same ∙ e)

  -- behind the whole list there is none
  none_whole : (seat : ℕ) (seen log : List E) → seen ≡ log → NoneBehind maker seat seen log
  none_whole seat seen log whole k d inside act e =
      let all : length seen ≡ length log = ap length whole in let short : length (drop (length seen) log) ≡ length log - length seen = length-drop (length seen) log in absurd (omega arith)

  -- a number that is drawn now is in no entry
  own_drew : (next : ℕ) (number : Option ℕ) (seen log : List E) → MadeBelow maker next log → ((seat : ℕ) → number ≡ Some seat → NoneBehind maker seat seen log)
      → (seat : ℕ) → Some (unwrap_or number next) ≡ Some seat → NoneBehind maker seat seen log
  own_drew next (Some n) seen log below own seat is k d inside act e = own seat is k d inside act e
  own_drew next None seen log below own seat is k d inside act e =
      let same : next ≡ seat = cc (is) in let n : ℕ = length seen in let short : length (drop n log) ≡ length log - n = length-drop n log in
      let within : n + k < length log = omega arith in
      let less : seat < next = below (n + k) d within seat act (ap maker (sym (get_or-drop n log k d)) ∙ e) in absurd (omega arith)

  -- the entries of another seat's act are not of this seat
  own_stored : (next served id j seat act acts : ℕ) (seen log new : List E) (taken : Bool) (owner bearer : ℕ → ℕ) (number : Option ℕ) → IsPrefix seen log → bearer seat ≡ id → j ≢ id → MadeBy maker seat act new
      → Named maker next served log taken owner bearer j acts number → ((u : ℕ) → number ≡ Some u → NoneBehind maker u seen log) → (u : ℕ) → number ≡ Some u → NoneBehind maker u seen (log ++ new)
  own_stored next served id j seat act acts seen log new taken owner bearer None front mine other made named own u is = absurd (cc (is))
  own_stored next served id j seat act acts seen log new taken owner bearer (Some n) front mine other made named own u is =
      let same : n ≡ u = cc (is) in let differs : u ≢ seat = λ e. other (sym named.0 ∙ ap bearer (same ∙ e) ∙ mine) in
      subst (All (λ e. (a : ℕ) → maker e ≢ Some (u, a))) (sym (drop_front seen log new front))
      (All-append (λ e. (a : ℕ) → maker e ≢ Some (u, a)) (drop (length seen) log) new (own u is)
      (λ i d inside a e. let clash : u ≡ seat = ap (λ (o : Option (ℕ × ℕ)). (unwrap_or o (u, a)).0) (sym e ∙ made i d inside) in differs clash))

  -- a ticket was drawn by the seat id
  named_drew : (next served id j acts : ℕ) (log : List E) (taken : Bool) (owner bearer : ℕ → ℕ) (number : Option ℕ)
      → Named maker next served log taken owner bearer j acts number → Named maker (next + 1) served log taken (put owner next id) (put bearer next id) j acts number
  named_drew next served id j acts log taken owner bearer None k = k
  named_drew next served id j acts log taken owner bearer (Some n) k = let below : n < next = k.1 in
      (put_else bearer next id n (λ e. omega arith) ∙ k.0, (let g : n < next + 1 = omega arith in g), k.2)

  stage_drew : (next served id j : ℕ) (log : List E) (taken : Bool) (owner bearer : ℕ → ℕ) (v : V) (st : Stage)
      → AtStage maker next served log taken owner bearer j v st → AtStage maker (next + 1) served log taken (put owner next id) (put bearer next id) j v st
  stage_drew next served id j log taken owner bearer v Idle k = k
  stage_drew next served id j log taken owner bearer v Waiting k = let t : ℕ = v.ticket in let h = k.1 in let b : t < next = h.2 in
      (k.0, (put_else owner next id t (λ e. omega arith) ∙ h.0, h.1, (let g : t < next + 1 = omega arith in g)), k.2)
  stage_drew next served id j log taken owner bearer v Turn k = let t : ℕ = v.ticket in let h = k.1 in let b : t < next = h.2 in
      (k.0, (put_else owner next id t (λ e. omega arith) ∙ h.0, h.1, (let g : t < next + 1 = omega arith in g)), k.2, k.3)
  stage_drew next served id j log taken owner bearer v Holding k = let t : ℕ = v.ticket in let h = k.1 in let b : t < next = h.2 in
      (k.0, (put_else owner next id t (λ e. omega arith) ∙ h.0, h.1, (let g : t < next + 1 = omega arith in g)), k.2, k.3, k.4)
  stage_drew next served id j log taken owner bearer v Stored k = let t : ℕ = v.ticket in let h = k.1 in let b : t < next = h.2 in
      (k.0, (put_else owner next id t (λ e. omega arith) ∙ h.0, h.1, (let g : t < next + 1 = omega arith in g)), k.2, k.3, k.4)
  stage_drew next served id j log taken owner bearer v Spent k = tt

  -- the seat that draws has its number from then on
  named_mine : (next served id acts : ℕ) (log : List E) (taken : Bool) (owner bearer : ℕ → ℕ) (number : Option ℕ) → MadeBelow maker next log
      → Named maker next served log taken owner bearer id acts number → Named maker (next + 1) served log taken (put owner next id) (put bearer next id) id acts (Some (unwrap_or number next))
  named_mine next served id acts log taken owner bearer None below k = (
    put_here bearer next id,
    (let g : next < next + 1 = omega arith in g),
    λ i d inside act is. let g : next < next = below i d inside next act is in absurd (omega arith),
  )
  named_mine next served id acts log taken owner bearer (Some n) below k = named_drew next served id id acts log taken owner bearer (Some n) k

  pub draws : (n id : ℕ) (me : M) (old : ℕ) → me.0.stage ≡ Idle → Allows Rule n id me 0 (λ y. either (eqb y old) (old + 1) y) (drew (step n 0 old (old + 1) maybe.none) me)
  draws n id me old st s r wide at _ =
      let y : ℕ = get_or s.words 0 0 in let then = drew (step n 0 old (old + 1) maybe.none) me in let k = r.each id me.0 at in
      exchanged y old (old + 1) (Goes s 0 id me then)
      (λ hit.
      let next : ℕ = r.next in let served : ℕ = r.served in let owner = r.owner in let bearer = r.bearer in
      let is : next ≡ old = sym (next_is s r) ∙ hit in let w : V = drawing me.0 next in
      let order : served ≤ next = r.order in (
        w,
        keeps,
        tt,
        record {
          next = next + 1;
          served = served;
          log = r.log;
          taken = r.taken;
          owner = put owner next id;
          bearer = put bearer next id;
          words = ap (λ ws. set ws 0 (old + 1)) r.words ∙ ap (λ (z : ℕ). (z + 1) ∷ served ∷ length r.log ∷ []) (sym is);
          order = (let g : served ≤ next + 1 = omega arith in g);
          busy = λ e. let b : served < next = r.busy e in let g : served < next + 1 = omega arith in g;
          place = r.place;
          makers = λ i d inside seat act e. let m : seat < next = r.makers i d inside seat act e in let g : seat < next + 1 = omega arith in g;
          owned = owned_drew next served owner s.views id me.0 w at st refl refl r.owned;
          each = seats (Knows maker (next + 1) served r.log r.taken (put owner next id) (put bearer next id)) s.views id w
              record {
                seen = k.seen;
                also = k.also;
                named = named_mine next served id me.0.acts r.log r.taken owner bearer me.0.number r.makers k.named;
                own = own_drew next me.0.number me.0.seen r.log r.makers k.own;
                others = others_drew next id id bearer me.0.others k.others;
                apart = apart_drew next id bearer me.0.number me.0.others k.others k.apart;
                stage = (
                  stage_of s r id me.0 Idle at st,
                  (put_here owner next id, order, (let g : next < next + 1 = omega arith in g)),
                  λ e. not_true r.taken (λ t. let b : served < next = r.busy t in let e' : next ≡ served = e in absurd (omega arith)),
                );
              }
              (λ j d _ a. let kd = r.each j d a in record {
                seen = kd.seen;
                also = kd.also;
                named = named_drew next served id j d.acts r.log r.taken owner bearer d.number kd.named;
                own = kd.own;
                others = others_drew next id j bearer d.others kd.others;
                apart = kd.apart;
                stage = stage_drew next served id j r.log r.taken owner bearer d d.stage kd.stage;
              });
        },
        ((λ _. ap (λ (z : ℕ). (drawing me.0 z, me.1)) (sym (next_is s r))), λ miss. absurd (miss hit)),
      ))
      (λ miss. (me.0, keeps, tt, unmoved s r 0 id me.1 me.0 me.0 at (λ _ _ _ d e. (d, e)) k, ((λ hit. absurd (miss hit)), λ _. refl)))

  -- a look at the ticket that is served
  pub looks : (n id : ℕ) (me : M) → me.0.stage ≡ Waiting → Allows Rule n id me 1 (λ y. y) (looked (step n 1 0 0 maybe.none) me)
  looks n id me st s r wide at _ =
      let y : ℕ = get_or s.words 1 0 in let k = r.each id me.0 at in let now = stage_of s r id me.0 Waiting at st in let t : ℕ = me.0.ticket in let served : ℕ = r.served in
      let is : y ≡ served = served_is s r in let acts : ℕ = me.0.acts in let few : acts ≤ served = now.0 in
      dite (ℕ_discrete y t)
      (λ hit. let own : t ≡ served = sym hit ∙ is in (
        at_stage Turn me.0,
        keeps,
        tt,
        unmoved s r 1 id me.1 me.0 (at_stage Turn me.0) at (λ _ _ _ d e. (refl, e)) record { seen = k.seen; also = k.also; named = k.named; own = k.own; others = k.others; apart = k.apart; stage = (now.0, now.1, own, now.2 own) },
        ((λ _. (refl, (let g : acts ≤ y = omega arith in g))), λ miss. absurd (miss hit)),
      ))
      (λ miss. (me.0, keeps, tt, unmoved s r 1 id me.1 me.0 me.0 at (λ _ _ _ d e. (d, e)) k, ((λ hit. absurd (miss hit)), λ _. refl)))

  -- while the seat id has the ticket that is served, no other seat has it
  apart : (next served id j t u : ℕ) (owner : ℕ → ℕ) → owner t ≡ id → t ≡ served → j ≢ id → owner u ≡ j → u ≡ served → ⊥
  apart next served id j t u owner mine a other its b = other (sym its ∙ ap owner (b ∙ sym a) ∙ mine)

  stage_taken : (next served id j t : ℕ) (log : List E) (owner bearer : ℕ → ℕ) → owner t ≡ id → t ≡ served → j ≢ id → (v : V) (st : Stage)
      → AtStage maker next served log false owner bearer j v st → AtStage maker next served log true owner bearer j v st
  stage_taken next served id j t log owner bearer mine a other v Idle k = k
  stage_taken next served id j t log owner bearer mine a other v Waiting k = (k.0, k.1, λ e. absurd (apart next served id j t v.ticket owner mine a other k.1.0 e))
  stage_taken next served id j t log owner bearer mine a other v Turn k = absurd (apart next served id j t v.ticket owner mine a other k.1.0 k.2)
  stage_taken next served id j t log owner bearer mine a other v Holding k = absurd (apart next served id j t v.ticket owner mine a other k.1.0 k.2)
  stage_taken next served id j t log owner bearer mine a other v Stored k = absurd (apart next served id j t v.ticket owner mine a other k.1.0 k.2)
  stage_taken next served id j t log owner bearer mine a other v Spent k = tt

  -- the acts of a seat are those that its number has in the list
  acts_known : (next served id acts : ℕ) (log : List E) (taken : Bool) (owner bearer : ℕ → ℕ) (number : Option ℕ) → Named maker next served log taken owner bearer id acts number
      → (seat : ℕ) → number ≡ Some seat → ActsUpTo maker seat acts log
  acts_known next served id acts log taken owner bearer None k seat is = absurd (cc (is))
  acts_known next served id acts log taken owner bearer (Some n) k seat is = let same : n ≡ seat = cc (is) in subst (λ (z : ℕ). ActsUpTo maker z acts log) same k.2

  -- the seat that has the turn takes the slot
  pub takes_slot : (n id : ℕ) (me : M) → me.0.stage ≡ Turn → Allows Rule n id me 1 (λ y. y) (took list maker (step n 1 0 0 maybe.none) me)
  takes_slot n id me st s r wide at _ =
      let k = r.each id me.0 at in let now = stage_of s r id me.0 Turn at st in let own = now.1 in
      let free : r.taken ≡ false = now.3 in let lies = subst (InPlace list r.log s.homes) free r.place in
      let x : T = lies.0 in let homes : s.homes ≡ maybe.some (Some x) ∷ [] = lies.1 in let whole : list x ≡ r.log = lies.2 in
      let w : V = holding me.0 (list x) in let t : ℕ = me.0.ticket in let served : ℕ = r.served in let next : ℕ = r.next in let is : t ≡ served = now.2 in let below : t < next = own.2 in (
        w,
        takes 0 (Some x),
        ap (λ hs. get_elem? hs 0) homes,
        subst (λ (ws : List ℕ). Rule record { words = ws; homes = set s.homes 0 maybe.none; views = set s.views id w }) (sym (set-get_or s.words 1 0)) record {
          next = next;
          served = served;
          log = r.log;
          taken = true;
          owner = r.owner;
          bearer = r.bearer;
          words = r.words;
          order = r.order;
          busy = λ _. let g : served < next = omega arith in g;
          place = ap (λ hs. set hs 0 maybe.none) homes;
          makers = r.makers;
          owned = owned next served r.owner s.views id me.0 w at (λ _ _ _ d e. (refl, e)) r.owned;
          each = seats (Knows maker next served r.log true r.owner r.bearer) s.views id w
              record {
                seen = subst (λ xs. IsPrefix xs r.log) (sym whole) (prefix_self r.log);
                also = k.also;
                named = k.named;
                own = λ seat _. none_whole seat (list x) r.log whole;
                others = k.others;
                apart = k.apart;
                stage = (now.0, own, is, refl, whole);
              }
              (λ j d other a. let kd = r.each j d a in record {
                seen = kd.seen;
                also = kd.also;
                named = kd.named;
                own = kd.own;
                others = kd.others;
                apart = kd.apart;
                stage = stage_taken next served id j t r.log r.owner r.bearer own.0 is other d d.stage
                    (subst (λ (b : Bool). AtStage maker next served r.log b r.owner r.bearer j d d.stage) free kd.stage);
              });
        },
        (
          x,
          refl,
          subst (IsPrefix me.0.seen) (sym whole) k.seen,
          (λ seat e. subst (ActsUpTo maker seat me.0.acts) (sym whole) (acts_known next served id me.0.acts r.log r.taken r.owner r.bearer me.0.number k.named seat e)),
          (λ seat e. subst (NoneBehind maker seat me.0.seen) (sym whole) (k.own seat e)),
        ),
      )

  -- the entries of another seat's act say nothing of this one's
  acts_more : (seat act n acts : ℕ) (log new : List E) → n ≢ seat → MadeBy maker seat act new → ActsUpTo maker n acts log → ActsUpTo maker n acts (log ++ new)
  acts_more seat act n acts log new other made old = All-append (λ e. (a : ℕ) → maker e ≡ Some (n, a) → a ≤ acts) log new old
      (λ i d inside a e. let same : n ≡ seat = ap (λ (o : Option (ℕ × ℕ)). (unwrap_or o (n, a)).0) (sym e ∙ made i d inside) in absurd (other same))

  acts_mine : (seat act acts : ℕ) (log new : List E) → act ≡ acts + 1 → MadeBy maker seat act new → ActsUpTo maker seat acts log → ActsUpTo maker seat (acts + 1) (log ++ new)
  acts_mine seat act acts log new is made old = All-append (λ e. (a : ℕ) → maker e ≡ Some (seat, a) → a ≤ acts + 1) log new
      (λ i d inside a e. let g : a ≤ acts = old i d inside a e in let h : a ≤ acts + 1 = omega arith in h)
      (λ i d inside a e. let same : a ≡ act = ap (λ (o : Option (ℕ × ℕ)). (unwrap_or o (seat, a)).1) (sym e ∙ made i d inside) in let h : a ≤ acts + 1 = omega arith in h)

  named_stored : (next served id j seat act acts t : ℕ) (log new : List E) (owner bearer : ℕ → ℕ) (number : Option ℕ) → bearer seat ≡ id → j ≢ id → MadeBy maker seat act new
      → Named maker next served log true owner bearer j acts number → Named maker next served (log ++ new) true owner bearer j acts number
  named_stored next served id j seat act acts t log new owner bearer None mine other made k = k
  named_stored next served id j seat act acts t log new owner bearer (Some n) mine other made k =
      (k.0, k.1, acts_more seat act n acts log new (λ e. other (sym k.0 ∙ ap bearer e ∙ mine)) made k.2)

  stage_stored : (next served id j t : ℕ) (log new : List E) (owner bearer : ℕ → ℕ) → owner t ≡ id → t ≡ served → j ≢ id → (v : V) (st : Stage)
      → AtStage maker next served log true owner bearer j v st → AtStage maker next served (log ++ new) true owner bearer j v st
  stage_stored next served id j t log new owner bearer mine a other v Idle k = k
  stage_stored next served id j t log new owner bearer mine a other v Waiting k = k
  stage_stored next served id j t log new owner bearer mine a other v Turn k = k
  stage_stored next served id j t log new owner bearer mine a other v Holding k = absurd (apart next served id j t v.ticket owner mine a other k.1.0 k.2)
  stage_stored next served id j t log new owner bearer mine a other v Stored k = absurd (apart next served id j t v.ticket owner mine a other k.1.0 k.2)
  stage_stored next served id j t log new owner bearer mine a other v Spent k = tt

  named_of : (next served id acts : ℕ) (log : List E) (taken : Bool) (owner bearer : ℕ → ℕ) (number : Option ℕ) (seat : ℕ) → number ≡ Some seat
      → Named maker next served log taken owner bearer id acts number → Named maker next served log taken owner bearer id acts (Some seat)
  named_of next served id acts log taken owner bearer number seat is k = subst (Named maker next served log taken owner bearer id acts) is k

  -- the seat that has the turn stores the count of a list to which it has added entries of this act
  pub stores : (n id : ℕ) (me : M) (new : List E) (seat act count : ℕ) → me.0.stage ≡ Holding → me.0.number ≡ Some seat → act ≡ me.0.acts + 1 → in_hand list me.1 ≡ me.0.seen ++ new
      → MadeBy maker seat act new → count ≡ length (in_hand list me.1) → Allows Rule n id me 2 (λ _. count) (λ _. stored list (step n 2 count 0 maybe.none) me count)
  stores n id me new seat act count st numbered is grown made counts s r wide at _ =
      let k = r.each id me.0 at in let now = stage_of s r id me.0 Holding at st in let own = now.1 in let served : ℕ = r.served in let next : ℕ = r.next in let t : ℕ = me.0.ticket in
      let taken : r.taken ≡ true = now.3 in let whole : me.0.seen ≡ r.log = now.4 in let acts : ℕ = me.0.acts in let few : acts ≤ served = now.0 in
      let all : in_hand list me.1 ≡ r.log ++ new = grown ∙ ap (λ xs. xs ++ new) whole in let turn : t ≡ served = now.2 in
      let named = subst (λ (b : Bool). Named maker next served r.log b r.owner r.bearer id acts (Some seat)) taken (named_of next served id acts r.log r.taken r.owner r.bearer me.0.number seat numbered k.named) in
      let w : V = storing me.0 (in_hand list me.1) in (
        w,
        keeps,
        tt,
        record {
          next = next;
          served = served;
          log = r.log ++ new;
          taken = true;
          owner = r.owner;
          bearer = r.bearer;
          words = ap (λ ws. set ws 2 count) r.words ∙ ap (λ (z : ℕ). next ∷ served ∷ z ∷ []) (counts ∙ ap length all);
          order = r.order;
          busy = λ _. r.busy taken;
          place = subst (InPlace list r.log s.homes) taken r.place;
          makers = All-append (λ e. (i a : ℕ) → maker e ≡ Some (i, a) → i < next) r.log new r.makers
              (λ i d inside u a e. let same : u ≡ seat = ap (λ (o : Option (ℕ × ℕ)). (unwrap_or o (u, a)).0) (sym e ∙ made i d inside) in let b : seat < next = named.1 in let g : u < next = omega arith in g);
          owned = owned next served r.owner s.views id me.0 w at (λ _ _ _ d e. (refl, e)) r.owned;
          each = seats (Knows maker next served (r.log ++ new) true r.owner r.bearer) s.views id w
              record {
                seen = subst (λ xs. IsPrefix xs (r.log ++ new)) (sym all) (prefix_self (r.log ++ new));
                also = prefix_more me.0.also r.log new k.also;
                named = subst (Named maker next served (r.log ++ new) true r.owner r.bearer id (acts + 1)) (sym numbered) (named.0, named.1, acts_mine seat act acts r.log new is made named.2);
                own = λ u _. none_whole u (in_hand list me.1) (r.log ++ new) all;
                others = k.others;
                apart = k.apart;
                stage = ((let g : acts + 1 ≤ served + 1 = omega arith in g), own, turn, refl, all);
              }
              (λ j d other a. let kd = r.each j d a in record {
                seen = prefix_more d.seen r.log new kd.seen;
                also = prefix_more d.also r.log new kd.also;
                named = named_stored next served id j seat act d.acts t r.log new r.owner r.bearer d.number named.0 other made
                    (subst (λ (b : Bool). Named maker next served r.log b r.owner r.bearer j d.acts d.number) taken kd.named);
                own = own_stored next served id j seat act d.acts d.seen r.log new r.taken r.owner r.bearer d.number kd.seen named.0 other made kd.named kd.own;
                others = kd.others;
                apart = kd.apart;
                stage = stage_stored next served id j t r.log new r.owner r.bearer own.0 turn other d d.stage
                    (subst (λ (b : Bool). AtStage maker next served r.log b r.owner r.bearer j d d.stage) taken kd.stage);
              });
        },
        refl,
      )

  named_passed : (next served j acts : ℕ) (log : List E) (taken : Bool) (owner bearer : ℕ → ℕ) (number : Option ℕ)
      → Named maker next served log taken owner bearer j acts number → Named maker next (served + 1) log false owner bearer j acts number
  named_passed next served j acts log taken owner bearer None k = k
  named_passed next served j acts log taken owner bearer (Some n) k = k

  stage_passed : (next served id j t : ℕ) (log : List E) (owner bearer : ℕ → ℕ) → owner t ≡ id → t ≡ served → j ≢ id → (v : V) (st : Stage)
      → AtStage maker next served log true owner bearer j v st → AtStage maker next (served + 1) log false owner bearer j v st
  stage_passed next served id j t log owner bearer mine a other v Idle k = omega (arith, k)
  stage_passed next served id j t log owner bearer mine a other v Waiting k =
      let few : v.acts ≤ served = k.0 in let u : ℕ = v.ticket in let late : served ≤ u = k.1.1 in let differs : u ≢ served = λ e. apart next served id j t u owner mine a other k.1.0 e in
      ((let g : v.acts ≤ served + 1 = omega arith in g), (k.1.0, (let g : served + 1 ≤ u = omega arith in g), k.1.2), λ _. refl)
  stage_passed next served id j t log owner bearer mine a other v Turn k = absurd (apart next served id j t v.ticket owner mine a other k.1.0 k.2)
  stage_passed next served id j t log owner bearer mine a other v Holding k = absurd (apart next served id j t v.ticket owner mine a other k.1.0 k.2)
  stage_passed next served id j t log owner bearer mine a other v Stored k = absurd (apart next served id j t v.ticket owner mine a other k.1.0 k.2)
  stage_passed next served id j t log owner bearer mine a other v Spent k = tt

  later : (u served : ℕ) → served + 1 ≤ u → u ≡ served → ⊥
  later u served from is = omega arith

  -- the slot goes back, with a value that has the list, and the next ticket is served
  pub passes : (n id : ℕ) (v : V) (x : T) (more : List (ℕ × Option T)) (new : ℕ) → v.stage ≡ Stored → list x ≡ v.seen → new ≡ v.ticket + 1
      → Allows Rule n id (v, (0, Some x) ∷ more) 1 (λ _. new) (λ _. passed (step n 1 new 0 maybe.none) (v, (0, Some x) ∷ more) new)
  passes n id v x more new st has is s r wide at _ =
      let k = r.each id v at in let now = stage_of s r id v Stored at st in let own = now.1 in let served : ℕ = r.served in let next : ℕ = r.next in let t : ℕ = v.ticket in
      let taken : r.taken ≡ true = now.3 in let whole : v.seen ≡ r.log = now.4 in let acts : ℕ = v.acts in let turn : t ≡ served = now.2 in let below : t < next = own.2 in
      let out : s.homes ≡ maybe.none ∷ [] = subst (InPlace list r.log s.homes) taken r.place in let w : V = at_stage Idle v in (
        w,
        gives,
        tt,
        record {
          next = next;
          served = served + 1;
          log = r.log;
          taken = false;
          owner = r.owner;
          bearer = r.bearer;
          words = ap (λ ws. set ws 1 new) r.words ∙ ap (λ (z : ℕ). next ∷ z ∷ length r.log ∷ []) (is ∙ ap (λ (z : ℕ). z + 1) turn);
          order = (let g : served + 1 ≤ next = omega arith in g);
          busy = λ e. absurd (cc (e));
          place = (x, ap (λ hs. set hs 0 (maybe.some (Some x))) out, has ∙ whole);
          makers = r.makers;
          owned = owned next (served + 1) r.owner s.views id v w at (λ u from _ _ e. absurd (later u served from (sym e ∙ turn))) (λ u from to. r.owned u (omega arith) to);
          each = seats (Knows maker next (served + 1) r.log false r.owner r.bearer) s.views id w
              record { seen = k.seen; also = k.also; named = named_passed next served id acts r.log r.taken r.owner r.bearer v.number k.named; own = k.own; others = k.others; apart = k.apart; stage = now.0 }
              (λ j d other a. let kd = r.each j d a in record {
                seen = kd.seen;
                also = kd.also;
                named = named_passed next served j d.acts r.log r.taken r.owner r.bearer d.number kd.named;
                own = kd.own;
                others = kd.others;
                apart = kd.apart;
                stage = stage_passed next served id j t r.log r.owner r.bearer own.0 turn other d d.stage
                    (subst (λ (b : Bool). AtStage maker next served r.log b r.owner r.bearer j d d.stage) taken kd.stage);
              });
        },
        refl,
      )

  -- a look at the count shows which of the two lists is the longer
  pub compares : (n id : ℕ) (me : M) → me.0.stage ≡ Idle → Allows Rule n id me 2 (λ y. y) (met (step n 2 0 0 maybe.none) me)
  compares n id me st s r wide at _ =
      let k = r.each id me.0 at in let now = stage_of s r id me.0 Idle at st in
      let known = λ (b : Bool) (p : IsPrefix (longer_by me.0.seen me.0.also b) r.log) (longer : length me.0.seen ≤ length (longer_by me.0.seen me.0.also b)). unmoved s r 2 id me.1 me.0 (meeting me.0 b) at (λ _ _ _ d e. (d, e)) record {
        seen = p;
        also = prefix_nil r.log;
        named = k.named;
        own = λ seat e. none_later seat me.0.seen (longer_by me.0.seen me.0.also b) r.log longer (k.own seat e);
        others = k.others;
        apart = k.apart;
        stage = subst (AtStage maker r.next r.served r.log r.taken r.owner r.bearer id (meeting me.0 b)) (sym st) now;
      } in
      dite (dec_le (length me.0.seen) (length me.0.also))
      (λ le. (meeting me.0 true, keeps, tt, known true k.also le, (true, refl, prefix_shorter me.0.seen me.0.also r.log k.seen k.also le, prefix_self me.0.also, k.apart)))
      (λ gt. (meeting me.0 false, keeps, tt, known false k.seen (omega arith), (false, refl, prefix_self me.0.seen, prefix_shorter me.0.also me.0.seen r.log k.also k.seen (omega arith), k.apart)))

  pub splits : (id : ℕ) (v : V) → Splits Rule id v v (newcomer v.seen)
  splits id v s r at = record {
    next = r.next;
    served = r.served;
    log = r.log;
    taken = r.taken;
    owner = r.owner;
    bearer = r.bearer;
    words = r.words;
    order = r.order;
    busy = r.busy;
    place = r.place;
    makers = r.makers;
    owned = λ t from to. let h = owned r.next r.served r.owner s.views id v v at (λ _ _ _ d e. (d, e)) r.owned t from to in
        (h.0, at_longer (set s.views id v) (newcomer v.seen ∷ []) (r.owner t) h.0 h.1, h.2, h.3);
    each = λ j d e. ⊎_elim
        (λ (old : get_elem? (set s.views id v) j ≡ maybe.some d). seats (KnowsIn s r) s.views id v (r.each id v at) (λ i u _. r.each i u) j d old)
        (λ (same : newcomer v.seen ≡ d). subst (KnowsIn s r j) same record { seen = (r.each id v at).seen; also = prefix_nil r.log; named = refl; own = λ seat e. absurd (cc (e)); others = All-nil (λ n. (r.bearer n ≡ j) × (n < r.next)); apart = tt; stage = zero-le })
        (at_snoc (set s.views id v) (newcomer v.seen) d j e);
  }

  named_moved : (next served other id j acts : ℕ) (log : List E) (taken : Bool) (owner bearer : ℕ → ℕ) (number : Option ℕ) → j ≢ other
      → Named maker next served log taken owner bearer j acts number → Named maker next served log taken owner (moved bearer other id) j acts number
  named_moved next served other id j acts log taken owner bearer None differs k = k
  named_moved next served other id j acts log taken owner bearer (Some n) differs k = (moved_else bearer other id n (λ e. differs (sym k.0 ∙ e)) ∙ k.0, k.1, k.2)

  stage_moved : (next served other id j : ℕ) (log : List E) (taken : Bool) (owner bearer : ℕ → ℕ) (v : V) (st : Stage)
      → AtStage maker next served log taken owner bearer j v st → AtStage maker next served log taken owner (moved bearer other id) j v st
  stage_moved next served other id j log taken owner bearer v Idle k = k
  stage_moved next served other id j log taken owner bearer v Waiting k = k
  stage_moved next served other id j log taken owner bearer v Turn k = k
  stage_moved next served other id j log taken owner bearer v Holding k = k
  stage_moved next served other id j log taken owner bearer v Stored k = k
  stage_moved next served other id j log taken owner bearer v Spent k = tt

  -- what the rule knows of a seat while another's numbers are moved to a third
  knows_moved : (next served other id j : ℕ) (log : List E) (taken : Bool) (owner bearer : ℕ → ℕ) (v : V) → j ≢ other → Knows maker next served log taken owner bearer j v
      → Knows maker next served log taken owner (moved bearer other id) j v
  knows_moved next served other id j log taken owner bearer v differs k = record {
    seen = k.seen;
    also = k.also;
    named = named_moved next served other id j v.acts log taken owner bearer v.number differs k.named;
    own = k.own;
    others = others_moved next other id j bearer v.others differs k.others;
    apart = k.apart;
    stage = stage_moved next served other id j log taken owner bearer v v.stage k.stage;
  }

  number_of : (next served j acts : ℕ) (log : List E) (taken : Bool) (owner bearer : ℕ → ℕ) (number : Option ℕ) → Named maker next served log taken owner bearer j acts number
      → AreOf bearer next j (number_in number)
  number_of next served j acts log taken owner bearer None k = All-nil (λ n. (bearer n ≡ j) × (n < next))
  number_of next served j acts log taken owner bearer (Some n) k = All-cons (λ n. (bearer n ≡ j) × (n < next)) n [] (k.0, k.1) (All-nil (λ n. (bearer n ≡ j) × (n < next)))

  pub joins : (id : ℕ) (v : V) (other : ℕ) (w : V) → v.stage ≡ Idle → w.stage ≡ Idle → Joins Rule id v other w (joining v w) spent
  joins id v other w st rests s r at apart_is there =
      let k = r.each id v at in
      let them : get_elem? s.views other ≡ maybe.some w = ⊎_elim (λ (t : (other ≡ id) × (joining v w ≡ w)). absurd (apart_is t.0)) (λ (t : (other ≢ id) × (get_elem? s.views other ≡ maybe.some w)). t.1)
      (at_set s.views id other (joining v w) w there) in
      let kw = r.each other w them in let differs : id ≢ other = λ e. apart_is (sym e) in let bearer = moved r.bearer other id in
      let mine = number_of r.next r.served id v.acts r.log r.taken r.owner r.bearer v.number k.named in
      let theirs = number_of r.next r.served other w.acts r.log r.taken r.owner r.bearer w.number kw.named in
      let is_mine = λ (n : ℕ). (r.bearer n ≡ id) × (n < r.next) in let is_theirs = λ (n : ℕ). (r.bearer n ≡ other) × (n < r.next) in
      let ws : List ℕ = number_in w.number ++ w.others in
      let all_theirs = All-append is_theirs (number_in w.number) w.others theirs kw.others in
      record {
        next = r.next;
        served = r.served;
        log = r.log;
        taken = r.taken;
        owner = r.owner;
        bearer = bearer;
        words = r.words;
        order = r.order;
        busy = r.busy;
        place = r.place;
        makers = r.makers;
        owned = owned r.next r.served r.owner (set s.views id (joining v w)) other w spent there (λ _ _ _ d _. absurd (idle_owns w rests d))
            (owned r.next r.served r.owner s.views id v (joining v w) at (λ _ _ _ d e. (d, e)) r.owned);
        each = seats (Knows maker r.next r.served r.log r.taken r.owner bearer) (set s.views id (joining v w)) other spent
            record { seen = prefix_nil r.log; also = prefix_nil r.log; named = refl; own = λ seat e. absurd (cc (e)); others = All-nil (λ n. (bearer n ≡ other) × (n < r.next)); apart = tt; stage = tt }
            (λ j d not_other a. seats (λ (i : ℕ) (u : V). i ≢ other → Knows maker r.next r.served r.log r.taken r.owner bearer i u) s.views id (joining v w) (λ _. record {
              seen = k.seen;
              also = kw.seen;
              named = named_moved r.next r.served other id id v.acts r.log r.taken r.owner r.bearer v.number differs k.named;
              own = k.own;
              others = All-append (λ n. (bearer n ≡ id) × (n < r.next)) v.others ws (others_moved r.next other id id r.bearer v.others differs k.others) (others_here r.next other id r.bearer ws all_theirs);
              apart = subst AreApart (append_assoc (number_in v.number) v.others ws)
                  (apart_append r.next id other r.bearer (number_in v.number ++ v.others) ws differs (All-append is_mine (number_in v.number) v.others mine k.others) all_theirs k.apart kw.apart);
              stage = subst (AtStage maker r.next r.served r.log r.taken r.owner bearer id (joining v w)) (sym st) (stage_of s r id v Idle at st);
            }) (λ i u _ here ne. knows_moved r.next r.served other id i r.log r.taken r.owner r.bearer u ne (r.each i u here)) j d a not_other);
      }

  alone : (v : V) (i : ℕ) (u : V) → i ≢ 0 → get_elem? (v ∷ []) i ≡ maybe.some u → ⊥
  alone v zero u other a = other refl
  alone v (suc i) u other a = some-ne-none u (sym a)

  -- a lock is made of a value whose entries carry no seat's number
  pub starts : (x : T) (count : ℕ) → count ≡ length (list x) → All (λ e. maker e ≡ None) (list x) → Rule (opening (0 ∷ 0 ∷ count ∷ []) (Some x ∷ []) (newcomer (list x)))
  starts x count is fresh = record {
    next = 0;
    served = 0;
    log = list x;
    taken = false;
    owner = λ t. t;
    bearer = λ t. t;
    words = ap (λ (z : ℕ). 0 ∷ 0 ∷ z ∷ []) is;
    order = zero-le;
    busy = λ e. absurd (cc (e));
    place = (x, refl, refl);
    makers = λ i d inside seat act e. absurd (cc (e, fresh i d inside));
    owned = λ t from to. absurd (omega arith);
    each = λ j d e. seats (Knows maker 0 0 (list x) false (λ t. t) (λ t. t)) (newcomer (list x) ∷ []) 0 (newcomer (list x))
        record { seen = prefix_self (list x); also = prefix_nil (list x); named = refl; own = λ seat e. absurd (cc (e)); others = All-nil (λ n. (n ≡ 0) × (n < 0)); apart = tt; stage = zero-le }
        (λ i u other a. absurd (alone (newcomer (list x)) i u other a)) j d e;
  }

  -- at the end, a seat that has the turn knows the value in the slot
  pub ends : (id : ℕ) (v : V) (ws : List ℕ) (xs : List (Option T)) → v.stage ≡ Turn → Final (Seen Rule id v) ws xs
      → (x : T) × (get_elem? xs 0 ≡ maybe.some (Some x)) × IsPrefix v.seen (list x)
  ends id v ws xs st f =
      let s = f.0 in let r = f.1.0 in let at = f.1.1 in let k = r.each id v at in let now = stage_of s r id v Turn at st in
      let lies = subst (InPlace list r.log s.homes) now.3 r.place in
      (lies.0, f.4 0 (Some lies.0) (ap (λ hs. get_elem? hs 0) lies.1), subst (IsPrefix v.seen) (sym lies.2) k.seen)

  pub starts_from : (x y : T) (count : ℕ) (xs : List (Option T)) → xs ≡ Some x ∷ [] → y ≡ x → count ≡ length (list x) → All (λ e. maker e ≡ None) (list x)
      → Rule (opening (0 ∷ 0 ∷ count ∷ []) xs (newcomer (list y)))
  starts_from x y count xs items same is fresh = subst (λ (z : List (Option T) × T). Rule (opening (0 ∷ 0 ∷ count ∷ []) z.0 (newcomer (list z.1)))) (λ i. (sym items i, sym same i)) (starts x count is fresh)

  -- the seat that has stored the count, with the value in the slot in hand
  pub passes_back : (n id : ℕ) (me me' : M) (x : T) (more : List (ℕ × Option T)) (new : ℕ) → me' ≡ (storing me.0 (in_hand list me.1), me.1) → me.1 ≡ (0, Some x) ∷ more → new ≡ me.0.ticket + 1
      → Allows Rule n id me' 1 (λ _. new) (λ _. passed (step n 1 new 0 maybe.none) me' new)
  passes_back n id me me' x more new after hand is =
      let whole : me' ≡ (storing me.0 (list x), (0, Some x) ∷ more) = after ∙ (λ i. (storing me.0 (in_hand list (hand i)), hand i)) in
      subst (λ (m : M). Allows Rule n id m 1 (λ _. new) (λ _. passed (step n 1 new 0 maybe.none) m new)) (sym whole)
      (passes n id (storing me.0 (list x)) x more new refl refl is)

  -- the slot in hand after it was taken
  pub in_hand_now : (m m' : M) (w : V) (x : T) → m' ≡ (w, (0, Some x) ∷ m.1) → (old : Option T) × (m'.1 ≡ (0, old) ∷ rest m'.1)
  in_hand_now m m' w x after = let has : m'.1 ≡ (0, Some x) ∷ m.1 = ap (λ (z : M). z.1) after in (Some x, has ∙ (λ i. (0, Some x) ∷ sym (ap rest has) i))

  -- what is taken out of the slot at the end
  pub ended : (id : ℕ) (v : V) (ws : List ℕ) (xs : List (Option T)) (got : Option T) → v.stage ≡ Turn → Final (Seen Rule id v) ws xs → get_elem? xs 0 ≡ maybe.some got
      → (x : T) × (got ≡ Some x) × IsPrefix v.seen (list x)
  ended id v ws xs got st f at = let e = ends id v ws xs st f in (e.0, some-injective got (Some e.0) (sym at ∙ e.1), e.2)
