-- How serving goes on, step by step.
use Rattle.std.proofs.Common.{◌≡◌, ◌⊎◌, inl, inr, ℕ, ◌+◌, ◌≤◌, ◌<◌, List, [], ◌∷◌, ◌++◌, length, map, Bool, true, false, Option, refl, sym, ap, ◌∙◌, subst, arith, append_assoc, length-append}
use Rattle.std.specs.Prelude.{All, if◌then◌else◌}
use Rattle.std.proofs.lemmas.List.{append-nil, length-map, map-append}
use Rattle.std.proofs.lemmas.List.Elements.{All-append, All-cons, All-head, All-nil, All-rest, All-same, All-weaker}
use mathlib.Core.List.{IsPrefix}
use Rattle.bec_bytes.specs.Causes.{Rose, one_more}
use Rattle.bec_links.specs.Nets.{NetState, IsFirst, taken_back, with_held}
use Rattle.update_model.specs.Rule.{RuleData}
use Rattle.peer_memory.specs.declared.peer.Peer.{Peer}
use Rattle.turn_lock.specs.Numbers.{AreApart, number_in}
use Rattle.turn_lock.specs.Seats.{Known, numbers_of}
use Rattle.shared_replica.specs.declared.entry.Entry.{Entry}
use Rattle.session_server.specs.declared.served.Served.{Served}
use Rattle.session_server.specs.declared.server.Tally.{Tally}
use Rattle.session_server.specs.Accepting.{Given, GoesOn, IsDue, IsEnded, IsFresh, Standing, given_to}
use Rattle.session_server.specs.Serving.{Begun, Ran, IsResponse, IsRun, IsTold, IsWithin, Leaves, begun_of, given_with, numbers_in, served_of, Serves}
use Rattle.session_server.proofs.Passing.{prefix_then}

-- ---- counts, links and what came back

-- a count that rose in a part of a course rose in the course
pub rose_within : (a b c d : ℕ) → a ≤ b → Rose b c → c ≤ d → Rose a d
rose_within a b c d p q r = omega (arith, p, q, r)

leaves_then : (coming middle rest : Option (List (List ℕ))) (xs ys : List Begun) → Leaves coming xs middle → Leaves middle ys rest → Leaves coming (xs ++ ys) rest
leaves_then coming middle rest [] ys p q = subst (λ (k : Option (List (List ℕ))). Leaves k ys rest) p q
leaves_then coming middle rest (x ∷ xs) ys p q = (p.0, p.1, leaves_then p.0 middle rest xs ys p.2 q)

given_then : (given : Option (List (List ℕ))) (xs ys : List Ran) → given_with given (xs ++ ys) ≡ given_with (given_with given xs) ys
given_then given [] ys = refl
given_then given (x ∷ xs) ys = given_then (with_held given x.held') xs ys

numbers_then : (xs ys : List Ran) → numbers_in (xs ++ ys) ≡ numbers_in xs ++ numbers_in ys
numbers_then [] ys = refl
numbers_then (x ∷ xs) ys = ap (λ l. numbers_of x.after ++ l) (numbers_then xs ys) ∙ sym (append_assoc (numbers_of x.after) (numbers_in xs) (numbers_in ys))

apart_then : (b c : Known Entry) (ds es : List Ran) → c.number ≡ b.number → c.others ≡ b.others ++ numbers_in es → (ds ≡ []) ⊎ AreApart (numbers_of b) → (es ≡ []) ⊎ AreApart (numbers_of c)
    → (ds ++ es ≡ []) ⊎ AreApart (numbers_of c)
apart_then b c ds es number others p (inr apart) = inr apart
apart_then b c ds es number others (inl none) (inl empty) = inl (λ i. none i ++ empty i)
apart_then b c ds es number others (inr apart) (inl empty) =
    let same : c.others ≡ b.others = others ∙ ap (λ (l : List Ran). b.others ++ numbers_in l) empty ∙ append-nil b.others in
    inr (subst AreApart (λ i. number_in (sym number i) ++ sym same i) apart)

apart_behind : (xs ys : List ℕ) → AreApart (xs ++ ys) → AreApart ys
apart_behind [] ys apart = apart
apart_behind (x ∷ xs) ys apart = apart_behind xs ys apart.1

-- the seats with which the sessions ran have different numbers
apart_all : (a c : Known Entry) (ds : List Ran) → c.others ≡ a.others ++ numbers_in ds → (ds ≡ []) ⊎ AreApart (numbers_of c) → AreApart (numbers_in ds)
apart_all a c ds others (inl none) = subst (λ (l : List Ran). AreApart (numbers_in l)) (sym none) tt
apart_all a c ds others (inr apart) = apart_behind (number_in c.number ++ a.others) (numbers_in ds)
    (subst AreApart (ap (λ (l : List ℕ). number_in c.number ++ l) others ∙ sym (append_assoc (number_in c.number) a.others (numbers_in ds))) apart)

-- where no call of the net failed in two parts of a course, none failed in the course
steady_then : (was middle is : Bool) (a b c : ℕ) → (middle ≡ was → b ≡ a) → (is ≡ middle → c ≡ b) → (was ≡ true → middle ≡ true) → (middle ≡ true → is ≡ true) → is ≡ was → c ≡ a
steady_then true middle is a b c p q r s same = let m = r refl in q (same ∙ sym m) ∙ p m
steady_then false true is a b c p q r s same = absurd (cc (s refl, same))
steady_then false false is a b c p q r s same = q same ∙ p refl

-- where one failed, it failed in the first part or in the second
failed_then : (was middle is : Bool) (a b c e f g : ℕ) → e ≤ f → f ≤ g → (middle ≡ was → b ≡ a) → (is ≡ middle → c ≡ b) → (was ≡ false → middle ≡ true → (b ≡ one_more a) × Rose e f)
    → (middle ≡ false → is ≡ true → (c ≡ one_more b) × Rose f g) → was ≡ false → is ≡ true → (c ≡ one_more a) × Rose e g
failed_then was true is a b c e f g p q same more first second none one = let h = first none refl in (more one ∙ h.0, rose_within e e f g (omega arith) h.1 q)
failed_then was false is a b c e f g p q same more first second none one = let h = second refl one in (h.0 ∙ ap one_more (same (sym none)), rose_within e f g g p h.1 (omega arith))

failed_is : (is : Bool) (a b : ℕ) → (is ≡ false → b ≡ a) → (is ≡ true → b ≡ one_more a) → b ≡ (if is then one_more a else a)
failed_is true a b p q = q refl
failed_is false a b p q = p refl

-- what is true is not false
pub not_both : {T : Type 0} (b : Bool) → b ≡ true → b ≡ false → T
not_both b is not = absurd (cc (is, not))

module _ {rule : RuleData} {peers : List Peer} where
  -- ---- one course and then another

  -- what was done, and then more
  pub goes_then : (a b c : Standing) (xs ys : List Begun) (ds es : List Ran) → GoesOn rule peers a b xs ds → GoesOn rule peers b c ys es → GoesOn rule peers a c (xs ++ ys) (ds ++ es)
  goes_then a b c xs ys ds es p q = record {
    same_lock = q.same_lock ∙ p.same_lock;
    same_number = q.same_number ∙ p.same_number;
    same_acts = q.same_acts ∙ p.same_acts;
    seen = prefix_then a.pass.seen b.pass.seen c.pass.seen p.seen q.seen;
    links = leaves_then a.net.coming b.net.coming c.net.coming xs ys p.links q.links;
    fresh = All-append (IsFresh a.pass) xs ys p.fresh
        (All-weaker (IsFresh b.pass) (IsFresh a.pass) (λ y h. record { seen = prefix_then a.pass.seen b.pass.seen y.before.seen p.seen h.seen; clean = h.clean }) ys q.fresh);
    order = sym (append_assoc a.running xs ys) ∙ ap (λ (l : List Begun). l ++ ys) p.order ∙ append_assoc (map begun_of ds) b.running ys ∙ ap (λ (l : List Begun). map begun_of ds ++ l) q.order
        ∙ sym (append_assoc (map begun_of ds) (map begun_of es) c.running) ∙ ap (λ (l : List Begun). l ++ c.running) (sym (map-append begun_of ds es));
    runs = All-append (IsEnded rule peers a.pass) ds es p.runs
        (All-weaker (IsEnded rule peers b.pass) (IsEnded rule peers a.pass) (λ r h. record { same_lock = h.same_lock ∙ p.same_lock; run = h.run }) es q.runs);
    given = q.given ∙ ap (λ (g : Option (List (List ℕ))). given_with g es) p.given ∙ sym (given_then a.net.given ds es);
    out = let x = p.out in let y = q.out in omega (arith, x, y);
    later = let x = p.later in let y = q.later in omega (arith, x, y);
    told = All-append (IsTold a.faults c.faults) ds es
        (All-weaker (IsTold a.faults b.faults) (IsTold a.faults c.faults) (λ r h some. rose_within a.faults a.faults b.faults c.faults (omega arith) (h some) q.later) ds p.told)
        (All-weaker (IsTold b.faults c.faults) (IsTold a.faults c.faults) (λ r h some. rose_within a.faults b.faults c.faults c.faults p.later (h some) (omega arith)) es q.told);
    memory = λ none. p.memory (q.memory none);
    counted = λ none. q.counted none ∙ ap (λ (l : List Served). l ++ map served_of es) (p.counted (q.memory none)) ∙ append_assoc a.tally.served.items (map served_of ds) (map served_of es)
        ∙ ap (λ (l : List Served). a.tally.served.items ++ l) (sym (map-append served_of ds es));
    within = λ none. All-append (IsWithin c.pass) ds es
        (All-weaker (IsWithin b.pass) (IsWithin c.pass) (λ r h. prefix_then r.after.seen b.pass.seen c.pass.seen h q.seen) ds (p.within (q.memory none))) (q.within none);
    others = λ none. q.others none ∙ ap (λ l. l ++ numbers_in es) (p.others (q.memory none)) ∙ append_assoc a.pass.others (numbers_in ds) (numbers_in es)
        ∙ ap (λ l. a.pass.others ++ l) (sym (numbers_then ds es));
    apart = λ none. apart_then b.pass c.pass ds es q.same_number (q.others none) (p.apart (q.memory none)) (q.apart none);
    few = let x = p.few in let y = q.few in let n = length-append ds es in omega (arith, x, y, n);
    steady = steady_then a.tally.net_failed b.tally.net_failed c.tally.net_failed a.net.failed b.net.failed c.net.failed p.steady q.steady p.stays q.stays;
    failed = failed_then a.tally.net_failed b.tally.net_failed c.tally.net_failed a.net.failed b.net.failed c.net.failed a.faults b.faults c.faults p.later q.later p.steady q.steady p.failed q.failed;
    stays = λ is. q.stays (p.stays is);
  }

  -- the same, where the sessions that run afterwards are these
  pub goes_to : (a : Standing) (net : NetState) (faults : ℕ) (running others : List Begun) (pass : Known Entry) (tally : Tally) (xs : List Begun) (ds : List Ran) → running ≡ others
      → GoesOn rule peers a (record { net = net; faults = faults; running = running; pass = pass; tally = tally }) xs ds → GoesOn rule peers a (record { net = net; faults = faults; running = others; pass = pass; tally = tally }) xs ds
  goes_to a net faults running others pass tally xs ds is h =
      let at : List Begun → Type 0 = λ l. GoesOn rule peers a (record { net = net; faults = faults; running = l; pass = pass; tally = tally }) xs ds in subst at is h

  -- the same, where the sessions that ran before are these
  pub goes_from : (b : Standing) (net : NetState) (faults : ℕ) (running others : List Begun) (pass : Known Entry) (tally : Tally) (xs : List Begun) (ds : List Ran) → running ≡ others
      → GoesOn rule peers (record { net = net; faults = faults; running = running; pass = pass; tally = tally }) b xs ds → GoesOn rule peers (record { net = net; faults = faults; running = others; pass = pass; tally = tally }) b xs ds
  goes_from b net faults running others pass tally xs ds is h =
      let at : List Begun → Type 0 = λ l. GoesOn rule peers (record { net = net; faults = faults; running = l; pass = pass; tally = tally }) b xs ds in subst at is h

  -- the same, with further sessions that run before and after
  pub goes_beside : (a b : Standing) (ds : List Ran) (more : List Begun) → GoesOn rule peers a b [] ds
      → GoesOn rule peers (record a { running = a.running ++ more }) (record b { running = b.running ++ more }) [] ds
  goes_beside a b ds more p = record {
    same_lock = p.same_lock;
    same_number = p.same_number;
    same_acts = p.same_acts;
    seen = p.seen;
    links = p.links;
    fresh = p.fresh;
    order = append-nil (a.running ++ more) ∙ ap (λ (l : List Begun). l ++ more) (sym (append-nil a.running) ∙ p.order) ∙ append_assoc (map begun_of ds) b.running more;
    runs = p.runs;
    given = p.given;
    out = let x = p.out in let n = length-append a.running more in let m = length-append b.running more in omega (arith, x, n, m);
    later = p.later;
    told = p.told;
    memory = p.memory;
    counted = p.counted;
    within = p.within;
    others = p.others;
    apart = p.apart;
    few = p.few;
    steady = p.steady;
    failed = p.failed;
    stays = p.stays;
  }

  -- ---- single steps

  -- no link was accepted, and no session has ended
  pub goes_nowhere : (a b : Standing) → b.net.coming ≡ a.net.coming → b.net.given ≡ a.net.given → b.net.out ≡ a.net.out → a.faults ≤ b.faults → b.running ≡ a.running
      → b.pass ≡ a.pass → b.tally.served.items ≡ a.tally.served.items → (b.tally.memory ≡ false → a.tally.memory ≡ false)
      → (b.tally.net_failed ≡ a.tally.net_failed → b.net.failed ≡ a.net.failed)
      → (a.tally.net_failed ≡ false → b.tally.net_failed ≡ true → (b.net.failed ≡ one_more a.net.failed) × Rose a.faults b.faults) → (a.tally.net_failed ≡ true → b.tally.net_failed ≡ true)
      → GoesOn rule peers a b [] []
  goes_nowhere a b coming given out faults running pass served memory steady failed stays = record {
    same_lock = ap (λ (k : Known Entry). k.lock) pass;
    same_number = ap (λ (k : Known Entry). k.number) pass;
    same_acts = ap (λ (k : Known Entry). k.acts) pass;
    seen = ([], append-nil a.pass.seen ∙ sym (ap (λ (k : Known Entry). k.seen) pass));
    links = coming;
    fresh = All-nil (IsFresh a.pass);
    order = append-nil a.running ∙ sym running;
    runs = All-nil (IsEnded rule peers a.pass);
    given = given;
    out = let n = ap length running in omega (arith, out, n);
    later = faults;
    told = All-nil (IsTold a.faults b.faults);
    memory = memory;
    counted = λ none. served ∙ sym (append-nil a.tally.served.items);
    within = λ none. All-nil (IsWithin b.pass);
    others = λ none. ap (λ (k : Known Entry). k.others) pass ∙ sym (append-nil a.pass.others);
    apart = λ none. inl refl;
    few = let n = ap length served in omega (arith, n);
    steady = steady;
    failed = failed;
    stays = stays;
  }

  -- a link was accepted, whose session runs
  pub goes_link : (a b : Standing) (begun : Begun) → IsFirst a.net.coming begun.left begun.held b.net.coming → b.net.given ≡ a.net.given → b.net.out ≡ a.net.out + 1 → b.net.failed ≡ a.net.failed
      → a.faults ≤ b.faults → b.running ≡ a.running ++ begun ∷ [] → b.pass ≡ a.pass → begun.before.seen ≡ a.pass.seen → begun.faults ≡ 0 → b.tally ≡ a.tally → GoesOn rule peers a b (begun ∷ []) []
  goes_link a b begun first given out failed faults running pass seen clean tally =
      let served = ap (λ (t : Tally). t.served.items) tally in
      record {
        same_lock = ap (λ (k : Known Entry). k.lock) pass;
        same_number = ap (λ (k : Known Entry). k.number) pass;
        same_acts = ap (λ (k : Known Entry). k.acts) pass;
        seen = ([], append-nil a.pass.seen ∙ sym (ap (λ (k : Known Entry). k.seen) pass));
        links = (b.net.coming, first, refl);
        fresh = All-cons (IsFresh a.pass) begun [] (record { seen = ([], append-nil a.pass.seen ∙ sym seen); clean = clean }) (All-nil (IsFresh a.pass));
        order = sym running;
        runs = All-nil (IsEnded rule peers a.pass);
        given = given;
        out = let n = ap length running in let m = length-append a.running (begun ∷ []) in omega (arith, out, n, m);
        later = faults;
        told = All-nil (IsTold a.faults b.faults);
        memory = λ none. sym (ap (λ (t : Tally). t.memory) tally) ∙ none;
        counted = λ none. served ∙ sym (append-nil a.tally.served.items);
        within = λ none. All-nil (IsWithin b.pass);
        others = λ none. ap (λ (k : Known Entry). k.others) pass ∙ sym (append-nil a.pass.others);
        apart = λ none. inl refl;
        few = let n = ap length served in omega (arith, n);
        steady = λ same. failed;
        failed = λ was is. let e = ap (λ (t : Tally). t.net_failed) tally in absurd (cc (is, was, e));
        stays = λ was. ap (λ (t : Tally). t.net_failed) tally ∙ was;
      }

  -- the session whose link was accepted first has ended, and its link came back
  pub goes_end : (a b : Standing) (r : Ran) → b.net ≡ taken_back a.net r.held' → 0 < a.net.out → a.faults ≤ b.faults → (0 < r.faults' → Rose a.faults b.faults) → a.running ≡ begun_of r ∷ b.running
      → (b.pass.lock ≡ a.pass.lock) × (b.pass.number ≡ a.pass.number) × (b.pass.acts ≡ a.pass.acts) → IsPrefix a.pass.seen b.pass.seen → r.before.lock ≡ a.pass.lock → IsRun rule peers r
      → (b.tally.memory ≡ false → (a.tally.memory ≡ false) × (b.tally.served.items ≡ a.tally.served.items ++ r.served ∷ []) × IsPrefix r.after.seen b.pass.seen)
      → length b.tally.served.items ≤ length a.tally.served.items + 1 → b.tally.net_failed ≡ a.tally.net_failed
      → (b.tally.memory ≡ false → (b.pass.others ≡ a.pass.others ++ numbers_of r.after) × AreApart (numbers_of b.pass)) → GoesOn rule peers a b [] (r ∷ [])
  goes_end a b r net some faults told running pass seen same_lock run counted few failed numbers = record {
    same_lock = pass.0;
    same_number = pass.1;
    same_acts = pass.2;
    seen = seen;
    links = ap (λ (n : NetState). n.coming) net;
    fresh = All-nil (IsFresh a.pass);
    order = append-nil a.running ∙ running;
    runs = All-cons (IsEnded rule peers a.pass) r [] (record { same_lock = same_lock; run = run }) (All-nil (IsEnded rule peers a.pass));
    given = ap (λ (n : NetState). n.given) net;
    out = let n = ap (λ (n : NetState). n.out) net in let m = ap length running in omega (arith, n, m, some);
    later = faults;
    told = All-cons (IsTold a.faults b.faults) r [] told (All-nil (IsTold a.faults b.faults));
    memory = λ none. (counted none).0;
    counted = λ none. (counted none).1;
    within = λ none. All-cons (IsWithin b.pass) r [] (counted none).2 (All-nil (IsWithin b.pass));
    others = λ none. (numbers none).0 ∙ ap (λ l. a.pass.others ++ l) (sym (append-nil (numbers_of r.after)));
    apart = λ none. inr (numbers none).1;
    few = few;
    steady = λ same. ap (λ (n : NetState). n.failed) net;
    failed = λ was is. absurd (cc (is, was, failed));
    stays = λ was. failed ∙ was;
  }

  -- the sessions that ran have ended, and then that of a link that was accepted before
  pub goes_here : (a m b c : Standing) (begun : Begun) (ds : List Ran) (r : Ran) → GoesOn rule peers a (record m { running = m.running ++ begun ∷ [] }) (begun ∷ []) [] → GoesOn rule peers m b [] ds
      → b.running ≡ [] → GoesOn rule peers (record b { running = begun ∷ [] }) c [] (r ∷ []) → GoesOn rule peers a c (begun ∷ []) (ds ++ r ∷ [])
  goes_here a m b c begun ds r first more none last =
      let all = goes_to (record m { running = m.running ++ begun ∷ [] }) b.net b.faults (b.running ++ begun ∷ []) (begun ∷ []) b.pass b.tally [] ds (ap (λ (l : List Begun). l ++ begun ∷ []) none)
      (goes_beside m b ds (begun ∷ []) more) in
      goes_then a (record m { running = m.running ++ begun ∷ [] }) c (begun ∷ []) [] [] (ds ++ r ∷ []) first
      (goes_then (record m { running = m.running ++ begun ∷ [] }) (record b { running = begun ∷ [] }) c [] [] ds (r ∷ []) all last)

  -- ---- the whole

  -- a session that began fresh, and ended, is the session of a link that was accepted
  pub responses : (pass : Known Entry) (ds : List Ran) → All (IsFresh pass) (map begun_of ds) → All (IsEnded rule peers pass) ds → All (IsResponse rule peers pass) ds
  responses pass [] fresh ended = All-nil (IsResponse rule peers pass)
  responses pass (r ∷ ds) fresh ended =
      let f = All-head (IsFresh pass) (begun_of r) (map begun_of ds) fresh in let e = All-head (IsEnded rule peers pass) r ds ended in
      All-cons (IsResponse rule peers pass) r ds (record { same_lock = e.same_lock; seen = f.seen; clean = f.clean; run = e.run })
      (responses pass ds (All-rest (IsFresh pass) (begun_of r) (map begun_of ds) (begun_of r ∷ map begun_of ds) refl fresh) (All-rest (IsEnded rule peers pass) r ds (r ∷ ds) refl ended))

  -- where no session runs before and after, the links that were accepted are those of the sessions that ended
  pub all_ended : (a b : Standing) (xs : List Begun) (ds : List Ran) → GoesOn rule peers a b xs ds → a.running ≡ [] → b.running ≡ [] → xs ≡ map begun_of ds
  all_ended a b xs ds p before after = ap (λ (l : List Begun). l ++ xs) (sym before) ∙ p.order ∙ ap (λ (l : List Begun). map begun_of ds ++ l) after ∙ append-nil (map begun_of ds)

  pub counts_ended : (a b : Standing) (xs : List Begun) (ds : List Ran) → GoesOn rule peers a b xs ds → a.running ≡ [] → b.running ≡ [] → length ds ≡ length xs
  counts_ended a b xs ds p before after = let n = ap length (all_ended a b xs ds p before after) in let m = length-map ds begun_of in omega (arith, n, m)

  -- what was done from the first link to the last
  pub serves_all : (asked : ℕ) (a c : Standing) (xs : List Begun) (ds : List Ran) → GoesOn rule peers a c xs ds → a.running ≡ [] → c.running ≡ [] → a.tally.served.items ≡ [] → a.tally.net_failed ≡ false
      → (c.tally.memory ≡ false → c.tally.net_failed ≡ false → length xs ≡ asked) → (c.tally.net_failed ≡ true → length xs < asked)
      → (sessions : List Served) → sessions ≡ c.tally.served.items → Serves rule peers asked a.pass c.pass a.net c.net a.faults c.faults sessions c.tally.net_failed c.tally.memory
  serves_all asked a c xs ds p before after empty was whole fewer sessions is =
      let are = all_ended a c xs ds p before after in let n = counts_ended a c xs ds p before after in
      let leaves : List Begun → Type 0 = λ l. Leaves a.net.coming l c.net.coming in
      let counted : c.tally.memory ≡ false → sessions ≡ map served_of ds = λ none. is ∙ p.counted none ∙ ap (λ (l : List Served). l ++ map served_of ds) empty in
      record {
        same_lock = p.same_lock;
        same_number = p.same_number;
        same_acts = p.same_acts;
        seen = p.seen;
        ran = ds;
        links = subst leaves are p.links;
        responses = responses a.pass ds (All-same (IsFresh a.pass) (map begun_of ds) xs (sym are) p.fresh) p.runs;
        given = p.given;
        out = let o = p.out in let e = ap length before in let f = ap length after in omega (arith, o, e, f);
        failed = failed_is c.tally.net_failed a.net.failed c.net.failed (λ not. p.steady (not ∙ sym was)) (λ one. (p.failed was one).0);
        later = p.later;
        told = p.told;
        within = p.within;
        apart = λ none. apart_all a.pass c.pass ds (p.others none) (p.apart none);
        counted = counted;
        whole = λ none not. let w = whole none not in let l = ap length (counted none) in let m = length-map ds served_of in omega (arith, w, l, m, n);
        fewer = λ one. let f = p.failed was one in let w = fewer one in let l = p.few in let e = ap length empty in let s = ap length is in let r = f.0 in (omega (arith, w, l, e, s, n), omega (arith, r), f.1);
      }

  -- ---- what sessions are given

  -- the same, of a pass of the same lock
  pub due_at : (pass other : Known Entry) (g : Given) → other.lock ≡ pass.lock → IsDue rule peers pass g → IsDue rule peers other g
  due_at pass other g is d = record { rule = d.rule; peers = d.peers; same_lock = d.same_lock ∙ sym is }

  pub due_given : (pass before : Known Entry) (left held : Option (List ℕ)) (faults : ℕ) (g : Given) → g ≡ given_to rule peers before left held faults → before.lock ≡ pass.lock → IsDue rule peers pass g
  due_given pass before left held faults g is lock =
      record { rule = ap (λ (h : Given). h.rule) is; peers = ap (λ (h : Given). h.peers) is; same_lock = ap (λ (h : Given). h.begun.before.lock) is ∙ lock }

  -- a session that was given a rule and peers is run under them
  pub run_due : (pass : Known Entry) (g : Given) (r : Ran) → IsDue rule peers pass g → IsRun g.rule g.peers r → IsRun rule peers r
  run_due pass g r d run = let at : RuleData → Type 0 = λ u. IsRun u peers r in let with : List Peer → Type 0 = λ p. IsRun g.rule p r in subst at d.rule (subst with d.peers run)
