-- Lists that grow by an act.
use Rattle.std.proofs.Common.{◌≡◌, ℕ, ◌+◌, ◌≤◌, Bool, true, false, List, [], ◌∷◌, ◌++◌, length, map, take, drop, None, Some, option_map, refl, ap, sym, ◌∙◌, subst, arith, length-append, append-nil, append_assoc, length-drop, take_all, take-append-drop}
use Rattle.std.specs.Prelude.{All}
use Rattle.std.proofs.lemmas.List.{take-append-le, drop-append-le}
use Rattle.std.proofs.lemmas.List.Elements.{All-nil, All-same, All-cons, All-map}
use mathlib.Core.List.{IsPrefix}
use Rattle.bec_disk.proofs.Moments.{same_disk, then_same}
use Rattle.bec_disk.specs.Disk.{IsSameDisk}
use Rattle.shared_replica.specs.declared.entry.Entry.{Entry}
use Rattle.shared_replica.specs.declared.entry.Entry.TheVariants.{First, Opened, Added, Fault}
use Rattle.shared_replica.specs.declared.entry.Run.{Run}
use Rattle.shared_replica.specs.Entries.{entries_by, entries_of, one_if, counted, met, HasFaults, updates_of, faults_of, maker_of, listed, opening_of, place_of, IsStored, IsStoreOf}
use Rattle.replica.specs.Holding.{IsOnDisk}
use Rattle.replica.specs.Replicas.{ReplicaState}

-- ---- lists one behind the other

pub updates_more : (es fs : List Entry) → updates_of (es ++ fs) ≡ updates_of es ++ updates_of fs
updates_more [] fs = refl
updates_more (First opening ∷ es) fs = updates_more es fs
updates_more (Opened u ∷ es) fs = ap (λ us. u ∷ us) (updates_more es fs)
updates_more (Added u seat act ∷ es) fs = ap (λ us. u ∷ us) (updates_more es fs)
updates_more (Fault seat act ∷ es) fs = updates_more es fs

faults_more : (es fs : List Entry) → faults_of (es ++ fs) ≡ faults_of es + faults_of fs
faults_more [] fs = omega arith
faults_more (First opening ∷ es) fs = faults_more es fs
faults_more (Opened u ∷ es) fs = faults_more es fs
faults_more (Added u seat act ∷ es) fs = faults_more es fs
faults_more (Fault seat act ∷ es) fs = omega (arith, faults_more es fs)

-- ---- the entries of one act

pub updates_by : (seat act : ℕ) (us : List (List ℕ)) (fault : Bool) → updates_of (entries_by seat act us fault) ≡ us
updates_by seat act [] true = refl
updates_by seat act [] false = refl
updates_by seat act (u ∷ us) fault = ap (λ l. u ∷ l) (updates_by seat act us fault)

faults_in : (seat act : ℕ) (us : List (List ℕ)) (fault : Bool) → faults_of (entries_by seat act us fault) ≡ one_if fault
faults_in seat act [] true = refl
faults_in seat act [] false = refl
faults_in seat act (u ∷ us) fault = faults_in seat act us fault

length_by : (seat act : ℕ) (us : List (List ℕ)) (fault : Bool) → length (entries_by seat act us fault) ≡ length us + one_if fault
length_by seat act [] true = omega arith
length_by seat act [] false = omega arith
length_by seat act (u ∷ us) fault = omega (arith, length_by seat act us fault)

pub made_by : (seat act : ℕ) (us : List (List ℕ)) (fault : Bool) → All (λ e. maker_of e ≡ Some (seat, act)) (entries_by seat act us fault)
made_by seat act [] true = All-cons (λ e. maker_of e ≡ Some (seat, act)) (Fault seat act) [] refl (All-nil (λ e. maker_of e ≡ Some (seat, act)))
made_by seat act [] false = All-nil (λ e. maker_of e ≡ Some (seat, act))
made_by seat act (u ∷ us) fault = All-cons (λ e. maker_of e ≡ Some (seat, act)) (Added u seat act) _ refl (made_by seat act us fault)

-- ---- the entries of acts

counted_more : (rs : List Run) (r : Run) → counted (rs ++ r ∷ []) ≡ counted rs + r.count
counted_more [] r = omega arith
counted_more (x ∷ rs) r = omega (arith, counted_more rs r)

met_more : (rs : List Run) (r : Run) → met (rs ++ r ∷ []) ≡ met rs + one_if r.fault
met_more [] r = omega arith
met_more (x ∷ rs) r = omega (arith, met_more rs r)

pub met_few : (rs : List Run) → met rs ≤ length rs
met_few [] = omega arith
met_few (r ∷ rs) = let k : one_if r.fault ≤ 1 = one r.fault in omega (arith, met_few rs)
  where
    one : (b : Bool) → one_if b ≤ 1
    one true = omega arith
    one false = omega arith

entries_more : (rs : List Run) (r : Run) (us added : List (List ℕ)) → counted rs ≡ length us → r.count ≡ length added →
    entries_of (rs ++ r ∷ []) (us ++ added) ≡ entries_of rs us ++ entries_by r.seat r.act added r.fault
entries_more [] r [] added is count =
    ap (λ l. entries_by r.seat r.act l r.fault ++ []) (take_all r.count added (omega arith)) ∙ append-nil _
entries_more [] r (u ∷ us) added is count = absurd (omega arith)
entries_more (x ∷ rs) r us added is count =
    let less : x.count ≤ length us = omega arith in
    let left : counted rs ≡ length (drop x.count us) = omega (arith, length-drop x.count us) in
    (λ i. entries_by x.seat x.act (take-append-le x.count us added less i) x.fault ++ entries_of (rs ++ r ∷ []) (drop-append-le x.count us added less i))
    ∙ ap (λ l. entries_by x.seat x.act (take x.count us) x.fault ++ l) (entries_more rs r (drop x.count us) added left count)
    ∙ sym (append_assoc (entries_by x.seat x.act (take x.count us) x.fault) (entries_of rs (drop x.count us)) (entries_by r.seat r.act added r.fault))

updates_entries : (rs : List Run) (us : List (List ℕ)) → counted rs ≡ length us → updates_of (entries_of rs us) ≡ us
updates_entries [] [] is = refl
updates_entries [] (u ∷ us) is = absurd (omega arith)
updates_entries (r ∷ rs) us is =
    updates_more (entries_by r.seat r.act (take r.count us) r.fault) (entries_of rs (drop r.count us))
    ∙ (λ i. updates_by r.seat r.act (take r.count us) r.fault i ++ updates_entries rs (drop r.count us) (omega (arith, length-drop r.count us)) i)
    ∙ take-append-drop r.count us

faults_entries : (rs : List Run) (us : List (List ℕ)) → faults_of (entries_of rs us) ≡ met rs
faults_entries [] us = refl
faults_entries (r ∷ rs) us =
    omega (arith, faults_more (entries_by r.seat r.act (take r.count us) r.fault) (entries_of rs (drop r.count us)), faults_in r.seat r.act (take r.count us) r.fault, faults_entries rs (drop r.count us))

pub updates_opened : (us : List (List ℕ)) → updates_of (map Opened us) ≡ us
updates_opened [] = refl
updates_opened (u ∷ us) = ap (λ l. u ∷ l) (updates_opened us)

faults_opened : (us : List (List ℕ)) → faults_of (map Opened us) ≡ 0
faults_opened [] = refl
faults_opened (u ∷ us) = faults_opened us

length_entries : (rs : List Run) (us : List (List ℕ)) → counted rs ≡ length us → length (entries_of rs us) ≡ length us + met rs
length_entries [] us is = omega arith
length_entries (r ∷ rs) us is =
    let n = length-append (entries_by r.seat r.act (take r.count us) r.fault) (entries_of rs (drop r.count us)) in
    let a = length_by r.seat r.act (take r.count us) r.fault in
    let d = length-drop r.count us in
    let w = length-append (take r.count us) (drop r.count us) in
    let s = ap length (take-append-drop r.count us) in
    let b = length_entries rs (drop r.count us) (omega arith) in
    omega arith

length_opened : (us : List (List ℕ)) → length (map Opened us) ≡ length us
length_opened [] = refl
length_opened (u ∷ us) = omega (arith, length_opened us)

-- ---- the list of a replica

module _ (opening : ReplicaState) (opened : ℕ) (runs : List Run) (faults : ℕ) (replica : ReplicaState) (is : IsStored opening opened runs faults replica) where
  abbrev us : List (List ℕ)
  us = replica.history.members

  left : counted runs ≡ length (drop opened us)
  left = let a = is.all in omega (arith, length-drop opened us)

  pub updates_listed : updates_of (listed opening opened runs us) ≡ us
  updates_listed = updates_more (map Opened (take opened us)) (entries_of runs (drop opened us))
      ∙ (λ i. updates_opened (take opened us) i ++ updates_entries runs (drop opened us) left i) ∙ take-append-drop opened us

  pub faults_listed : faults_of (listed opening opened runs us) ≡ faults
  faults_listed = let f = is.faults_are in
      omega (arith, faults_more (map Opened (take opened us)) (entries_of runs (drop opened us)), faults_opened (take opened us), faults_entries runs (drop opened us))

  pub length_listed : length (listed opening opened runs us) ≡ length us + faults + 1
  length_listed = let f = is.faults_are in
      let n = length-append (map Opened (take opened us)) (entries_of runs (drop opened us)) in
      let o = length_opened (take opened us) in
      let e = length_entries runs (drop opened us) left in
      let w = length-append (take opened us) (drop opened us) in
      let s = ap length (take-append-drop opened us) in
      omega arith

  pub store_of : IsStoreOf (listed opening opened runs us) replica
  store_of = record {
    start = opening.log.faults;
    rest = map Opened (take opened us) ++ entries_of runs (drop opened us);
    first = λ i. First (record {
      node = sym is.node i;
      schema = sym is.schema i;
      faults = opening.log.faults;
      tells = sym is.disk.tells i;
      place = option_map place_of (sym is.disk.slot i);
    }) ∷ (map Opened (take opened us) ++ entries_of runs (drop opened us));
    updates = updates_listed;
    faults = subst (λ (n : ℕ). HasFaults opening.log.faults n replica.log.faults) (sym faults_listed) is.rose;
    on_disk = is.on_disk;
  }

-- ---- a list that opens

module _ (replica opening : ReplicaState) (opened : ℕ) (runs : List Run) (same : opening ≡ replica) (all : opened ≡ length replica.history.members) (none : runs ≡ []) (on_disk : IsOnDisk replica) where
  pub opens : IsStored opening opened runs 0 replica
  opens = record {
    node = ap (λ r. r.node) (sym same);
    schema = ap (λ r. r.history.schema) (sym same);
    all = let n : counted runs ≡ 0 = ap counted none in omega arith;
    faults_are = ap met none;
    rose = let n : opening.log.faults ≡ replica.log.faults = ap (λ r. r.log.faults) same in omega arith;
    disk = same_disk opening.log.disk replica.log.disk (ap (λ r. r.log.disk) (sym same));
    on_disk = on_disk;
  }

  pub opens_listed : listed opening opened runs replica.history.members ≡ First (opening_of replica) ∷ map Opened replica.history.members
  opens_listed =
      (λ i. First (opening_of (same i)) ∷ (map Opened (take opened replica.history.members) ++ entries_of (none i) (drop opened replica.history.members)))
      ∙ ap (λ l. First (opening_of replica) ∷ l) (append-nil _ ∙ ap (map Opened) (take_all opened replica.history.members (omega arith)))

-- an opening list has no entry of a seat
pub opening_made : (replica : ReplicaState) (list : List Entry) → list ≡ First (opening_of replica) ∷ map Opened replica.history.members → All (λ e. maker_of e ≡ None) list
opening_made replica list is = All-same (λ e. maker_of e ≡ None) list _ is
    (All-cons (λ e. maker_of e ≡ None) (First (opening_of replica)) _ refl (All-map (λ e. maker_of e ≡ None) Opened replica.history.members (λ k d inside. refl)))

-- a list has the updates with which it begins
pub updates_begin : (es list : List Entry) → IsPrefix es list → length (updates_of es) ≤ length (updates_of list)
updates_begin es list p = let e = ap (λ l. length (updates_of l)) p.1 in let m = ap length (updates_more es p.0) in let n = length-append (updates_of es) (updates_of p.0) in omega arith

-- ---- an act

module _ (opening : ReplicaState) (opened : ℕ) (runs runs' : List Run) (faults faults' : ℕ) (replica new : ReplicaState) (r : Run) (added : List (List ℕ))
    (is : IsStored opening opened runs faults replica) (more : runs' ≡ runs ++ r ∷ []) (count : r.count ≡ length added) (met_is : faults' ≡ faults + one_if r.fault)
    (members : new.history.members ≡ replica.history.members ++ added) where
  pub grows_listed : listed opening opened runs' new.history.members ≡ listed opening opened runs replica.history.members ++ entries_by r.seat r.act added r.fault
  grows_listed =
      let us = replica.history.members in
      let a = is.all in
      let less : opened ≤ length us = omega arith in
      let left : counted runs ≡ length (drop opened us) = omega (arith, length-drop opened us) in
      let first = First (opening_of opening) in
      (λ i. first ∷ (map Opened (take opened (members i)) ++ entries_of (more i) (drop opened (members i))))
      ∙ (λ i. first ∷ (map Opened (take-append-le opened us added less i) ++ entries_of (runs ++ r ∷ []) (drop-append-le opened us added less i)))
      ∙ ap (λ l. first ∷ (map Opened (take opened us) ++ l)) (entries_more runs r (drop opened us) added left count)
      ∙ ap (λ l. first ∷ l) (sym (append_assoc (map Opened (take opened us)) (entries_of runs (drop opened us)) (entries_by r.seat r.act added r.fault)))

  pub grows_stored : new.node ≡ replica.node → new.history.schema ≡ replica.history.schema → HasFaults opening.log.faults faults' new.log.faults → IsSameDisk replica.log.disk new.log.disk → IsOnDisk new → IsStored opening opened runs' faults' new
  grows_stored node schema rose disk on_disk = record {
    node = node ∙ is.node;
    schema = schema ∙ is.schema;
    all = let a = is.all in let n = ap length members in let c : counted runs' ≡ counted (runs ++ r ∷ []) = ap counted more in omega (arith, counted_more runs r, length-append replica.history.members added);
    faults_are = let f = is.faults_are in let c : met runs' ≡ met (runs ++ r ∷ []) = ap met more in omega (arith, met_more runs r);
    rose = rose;
    disk = then_same opening.log.disk replica.log.disk new.log.disk is.disk disk;
    on_disk = on_disk;
  }
