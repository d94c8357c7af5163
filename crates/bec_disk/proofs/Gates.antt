-- What a part stands for while its gate is written.
use Rattle.std.proofs.Common.{◌≡◌, ◌≢◌, ◌⊎◌, inl, inr, ⊎_elim, ℕ, zero, suc, ◌+◌, ◌<◌, ◌≤◌, ◌^◌, List, [], ◌∷◌, ◌++◌, length, take, drop, get_or, refl, sym, ◌∙◌, ap, subst, arith, IsTrue}
use Rattle.std.proofs.lemmas.Bool.{cases_eq}
use Rattle.std.proofs.lemmas.Bool.Decides.{nat_tests}
use Rattle.byteorder.specs.Endian.{big_number, big_bytes}
use Rattle.byteorder.specs.Numbers.{big_number-reads_back}
use Rattle.bec_disk.specs.Disk.{DiskState, IsSameDisk, IsSettled, LeavesOnly}
use Rattle.bec_disk.specs.Front.{WritesBehind}
use Rattle.bec_disk.specs.Images.{IsTorn, IsTornFrom, IsCutFrom}
use Rattle.bec_disk.specs.declared.gated.Gated.TheVariants.{Absent, Damaged, Whole}
use Rattle.bec_disk.specs.Gated.{gated_of, whole_of, IsShut, IsShutOrSame, IsOldOrNew}
use Rattle.bec_disk.proofs.Fronts.{behind-kept, Keeps-settled}
use Rattle.bec_disk.proofs.Images.{same_numbers, torn_settled, cut_settled}
use Rattle.bec_disk.proofs.Moments.{followed_by, told, told_before, weakened}

pub shut_absent : (c : List ℕ) → IsShut c → gated_of c ≡ Absent
shut_absent [] shut = refl
shut_absent (g ∷ c) shut = grind (arith, nat_tests, shut)

-- a gate that is torn is some gate before the same bytes
pub torn_first : (x : ℕ) (rest c : List ℕ) → IsTorn 0 1 (x ∷ rest) c → c ≡ get_or c 0 0 ∷ rest
torn_first x rest c torn =
    let len : length c ≡ length (x ∷ rest) = omega (arith, torn.no_shorter, torn.no_longer) in
    same_numbers c (get_or c 0 0 ∷ rest) len each
  where
    each : (i : ℕ) → i < length c → get_or c i 0 ≡ get_or (get_or c 0 0 ∷ rest) i 0
    each zero lt = refl
    each (suc i) lt = torn.kept (suc i) (omega (arith, torn.no_longer, torn.no_shorter, lt)) (inr (omega arith))

pub any_gate : (g y : ℕ) (rest : List ℕ) → y ≢ 0 → IsShut (g ∷ rest) ⊎ (gated_of (g ∷ rest) ≡ gated_of (y ∷ rest))
any_gate g y rest y_open = elim (cases_eq g 0) [
  | inl shut ↦ inl shut
  | inr g_open ↦ inr (grind (arith, nat_tests))
]

pub torn_gate : (x y : ℕ) (rest c : List ℕ) → y ≢ 0 → IsTorn 0 1 (x ∷ rest) c → IsShut c ⊎ (gated_of c ≡ gated_of (y ∷ rest))
torn_gate x y rest c y_open torn =
    let P : List ℕ → Type 0 = λ l. IsShut l ⊎ (gated_of l ≡ gated_of (y ∷ rest)) in
    subst P (sym (torn_first x rest c torn)) (any_gate (get_or c 0 0) y rest y_open)

gated_open : (rest : List ℕ) (n : ℕ) → big_number 4 (take 4 rest) ≡ n → length rest ≡ 4 + n → gated_of (1 ∷ rest) ≡ Whole (drop 4 rest)
gated_open rest n size long = grind (arith, nat_tests)

pub gated-whole : (payload : List ℕ) → length payload < 2 ^ 32 → gated_of (whole_of payload) ≡ Whole payload
gated-whole payload few =
    gated_open (big_bytes 4 (length payload) ++ payload) (length payload) (big_number-reads_back 4 (length payload) [] few) (omega arith)

-- a part whose gate was shut and whose first byte is kept
pub front_shut : (c : List ℕ) → take 1 c ≡ 0 ∷ [] → IsShut c
front_shut [] front = refl
front_shut (x ∷ c) front = ap (λ (l : List ℕ). get_or l 0 0) front

-- a front of a part that is shut
pub cut_shut : (old c : List ℕ) (n : ℕ) → IsShut old → c ≡ take n old → IsShut c
cut_shut old c zero shut is = ap (λ (l : List ℕ). get_or l 0 0) is
cut_shut [] c (suc n) shut is = ap (λ (l : List ℕ). get_or l 0 0) is
cut_shut (x ∷ old) c (suc n) shut is = ap (λ (l : List ℕ). get_or l 0 0) is ∙ shut

-- one byte written to an empty part
pub torn_empty : (c : List ℕ) → IsTorn 0 1 [] c → gated_of c ≡ Absent
torn_empty [] torn = refl
torn_empty (x ∷ []) torn = refl
torn_empty (x ∷ (y ∷ c)) torn = absurd (omega (arith, torn.no_longer))

pub gate_was : (seen c : List ℕ) → get_or (take 1 seen) 0 0 ≢ 0 → IsTorn 0 1 seen c → IsShut c ⊎ (gated_of c ≡ gated_of seen)
gate_was [] c open_gate torn = absurd (open_gate refl)
gate_was (x ∷ rest) c open_gate torn = torn_gate x x rest c open_gate torn

-- what reading a part by its fields finds
pub gated_read : (one seen head payload : List ℕ) (n : ℕ) → one ≡ seen → head ≡ take 5 one → get_or head 0 0 ≢ 0 → n ≡ big_number 4 (take 4 (drop 1 head)) → length seen ≡ 5 + n → payload ≡ drop 5 seen
    → Whole payload ≡ gated_of seen
gated_read one seen head payload n same reads open_gate size long is =
    let head_is : head ≡ take 5 seen = reads ∙ ap (λ (l : List ℕ). take 5 l) same in
    ap (λ (l : List ℕ). Whole l) is
    ∙ sym (whole seen (omega (arith, long)) (subst (λ (l : List ℕ). get_or l 0 0 ≢ 0) head_is open_gate) (long ∙ ap (λ (k : ℕ). 5 + k) (size ∙ ap (λ (l : List ℕ). big_number 4 (take 4 (drop 1 l))) head_is)))
  where
    whole : (seen : List ℕ) → 5 ≤ length seen → get_or (take 5 seen) 0 0 ≢ 0 → length seen ≡ 5 + big_number 4 (take 4 (drop 1 (take 5 seen))) → gated_of seen ≡ Whole (drop 5 seen)
    whole [] long open_gate is = absurd (omega arith)
    whole (a ∷ []) long open_gate is = absurd (omega arith)
    whole (a ∷ b ∷ []) long open_gate is = absurd (omega arith)
    whole (a ∷ b ∷ c ∷ []) long open_gate is = absurd (omega arith)
    whole (a ∷ b ∷ c ∷ d ∷ []) long open_gate is = absurd (omega arith)
    whole (a ∷ b ∷ c ∷ d ∷ e ∷ rest) long open_gate is = grind (arith, nat_tests)

-- what reading a part of fewer than five bytes finds
pub gated_short : (seen : List ℕ) (n : ℕ) → n ≡ length seen → n < 5 → Absent ≡ gated_of seen
gated_short seen n is short = grind (arith, nat_tests)

first_kept : (seen : List ℕ) → get_or (take 5 seen) 0 0 ≡ get_or seen 0 0
first_kept [] = refl
first_kept (x ∷ seen) = refl

-- what reading a part by a gate that is shut finds
pub gated_shut : (one seen head : List ℕ) → one ≡ seen → head ≡ take 5 one → get_or head 0 0 ≡ 0 → Absent ≡ gated_of seen
gated_shut one seen head same reads closed =
    sym (shut_absent seen (sym (first_kept seen) ∙ ap (λ (l : List ℕ). get_or (take 5 l) 0 0) (sym same) ∙ ap (λ (l : List ℕ). get_or l 0 0) (sym reads) ∙ closed))

-- what reading a part by a length that does not fit finds
pub gated_damaged : (one seen head : List ℕ) (n : ℕ) → one ≡ seen → head ≡ take 5 one → 5 ≤ length seen → get_or head 0 0 ≢ 0 → n ≡ big_number 4 (take 4 (drop 1 head)) → length seen ≢ 5 + n
    → Damaged ≡ gated_of seen
gated_damaged one seen head n same reads long open_gate size other =
    let head_is : head ≡ take 5 seen = reads ∙ ap (λ (l : List ℕ). take 5 l) same in
    let size_is = size ∙ ap (λ (l : List ℕ). big_number 4 (take 4 (drop 1 l))) head_is in
    sym (damaged seen long (subst (λ (l : List ℕ). get_or l 0 0 ≢ 0) head_is open_gate) (subst (λ (k : ℕ). length seen ≢ 5 + k) size_is other))
  where
    damaged : (seen : List ℕ) → 5 ≤ length seen → get_or (take 5 seen) 0 0 ≢ 0 → length seen ≢ 5 + big_number 4 (take 4 (drop 1 (take 5 seen))) → gated_of seen ≡ Damaged
    damaged [] long open_gate other = absurd (omega arith)
    damaged (a ∷ []) long open_gate other = absurd (omega arith)
    damaged (a ∷ b ∷ []) long open_gate other = absurd (omega arith)
    damaged (a ∷ b ∷ c ∷ []) long open_gate other = absurd (omega arith)
    damaged (a ∷ b ∷ c ∷ d ∷ []) long open_gate other = absurd (omega arith)
    damaged (a ∷ b ∷ c ∷ d ∷ e ∷ rest) long open_gate other = grind (arith, nat_tests)

-- the run of a call that leaves the gate alone
pub behind_gate : (old : DiskState) → (IsTrue old.tells → old.seen ≡ 0 ∷ []) → (IsTrue old.tells → IsSettled old) → WritesBehind 1 (take 1 old.seen) old old
behind_gate old shut settled = behind-kept 1 (take 1 old.seen) old (λ tells. Keeps-settled 1 old (settled tells) (omega (arith, ap length (shut tells))))

-- behind a gate that is shut
pub shut_run : (old new : DiskState) → (IsTrue old.tells → old.seen ≡ 0 ∷ []) → LeavesOnly old new (λ c. take 1 c ≡ take 1 old.seen) → LeavesOnly old new IsShut
shut_run old new shut run = weakened old new (λ c. take 1 c ≡ take 1 old.seen) IsShut run (λ tells c front. front_shut c (front ∙ ap (λ (l : List ℕ). take 1 l) (shut tells)))

-- a gate that is open is written over
pub closing : (old one mid new : DiskState) (gate : List ℕ) → one ≡ old → mid ≡ one → (IsTrue old.tells → IsSettled old) → (IsTrue one.tells → gate ≡ take 1 one.seen) → get_or gate 0 0 ≢ 0
    → LeavesOnly mid new (IsTornFrom mid.now 0 1) → LeavesOnly old new (IsShutOrSame old.seen)
closing old one mid new gate same still settled reads open_gate run =
    let reads_old = subst (λ (s : DiskState). IsTrue s.tells → gate ≡ take 1 s.seen) same reads in
    weakened old new (IsTornFrom old.now 0 1) (IsShutOrSame old.seen) (subst (λ (s : DiskState). LeavesOnly s new (IsTornFrom s.now 0 1)) (still ∙ same) run)
    (λ tells c torn. gate_was old.seen c (subst (λ (l : List ℕ). get_or l 0 0 ≢ 0) (reads_old tells) open_gate) (torn_settled old 0 1 c (settled tells) torn))

-- So far a crash left the old or the new, and the disk is settled and reads as P says.
pub record Reached (payload : List ℕ) (P : List ℕ → Type 0) (old mid : DiskState) : Type 0 where
  pub run : LeavesOnly old mid (IsOldOrNew old.seen payload)
  pub settled : IsTrue old.tells → IsSettled mid
  pub reads : IsTrue old.tells → P mid.seen

-- a call after which it is so
pub reach : (payload : List ℕ) (P : List ℕ → Type 0) (old mid new : DiskState) → IsSameDisk old mid → LeavesOnly old new (IsOldOrNew old.seen payload)
    → (IsTrue mid.tells → IsSettled new) → (IsTrue mid.tells → P new.seen) → Reached payload P old new
reach payload P old mid new same run settled reads = record {
  run = run;
  settled = λ tells. settled (told old mid same tells);
  reads = λ tells. reads (told old mid same tells);
}

-- a step from there
step : (payload : List ℕ) (P Q : List ℕ → Type 0) (old mid new : DiskState) → Reached payload P old mid → LeavesOnly mid new Q
    → (IsSettled mid → P mid.seen → (c : List ℕ) → Q c → IsOldOrNew old.seen payload c) → LeavesOnly old new (IsOldOrNew old.seen payload)
step payload P Q old mid new so_far run each =
    followed_by old mid new (IsOldOrNew old.seen payload) so_far.run
    (weakened mid new Q (IsOldOrNew old.seen payload) run (λ tells. let before = told_before old mid so_far.run.disk tells in each (so_far.settled before) (so_far.reads before)))

pub closed : (payload : List ℕ) (old new : DiskState) → LeavesOnly old new (IsShutOrSame old.seen) → LeavesOnly old new (IsOldOrNew old.seen payload)
closed payload old new run = weakened old new (IsShutOrSame old.seen) (IsOldOrNew old.seen payload) run (λ tells c is. ⊎_elim (λ shut. inl (shut_absent c shut)) (λ same. inr (inr same)) is)

pub shut : (payload : List ℕ) (old new : DiskState) → LeavesOnly old new (IsShutOrSame old.seen) → (IsTrue old.tells → IsSettled new) → (IsTrue old.tells → IsShut new.seen) → Reached payload IsShut old new
shut payload old new run settled reads = record { run = closed payload old new run; settled = settled; reads = reads }

pub emptied : (payload : List ℕ) (old mid new : DiskState) → Reached payload IsShut old mid → LeavesOnly mid new (IsCutFrom mid.now 0) → LeavesOnly old new (IsOldOrNew old.seen payload)
emptied payload old mid new so_far run =
    step payload IsShut (IsCutFrom mid.now 0) old mid new so_far run (λ settled shut c cut. inl (shut_absent c (cut_shut mid.seen c (length c) shut (cut_settled mid 0 c settled cut).front)))

pub begun : (payload : List ℕ) (old mid new : DiskState) → Reached payload (λ seen. seen ≡ []) old mid → LeavesOnly mid new (IsTornFrom mid.now 0 1) → LeavesOnly old new (IsOldOrNew old.seen payload)
begun payload old mid new so_far run =
    step payload (λ seen. seen ≡ []) (IsTornFrom mid.now 0 1) old mid new so_far run
    (λ settled empty c torn. inl (torn_empty c (subst (λ (l : List ℕ). IsTorn 0 1 l c) empty (torn_settled mid 0 1 c settled torn))))

pub filled : (payload : List ℕ) (old mid new : DiskState) → Reached payload (λ seen. seen ≡ 0 ∷ []) old mid → LeavesOnly mid new IsShut → LeavesOnly old new (IsOldOrNew old.seen payload)
filled payload old mid new so_far run = step payload (λ seen. seen ≡ 0 ∷ []) IsShut old mid new so_far run (λ settled begins c shut. inl (shut_absent c shut))

pub opened : (payload : List ℕ) (old mid new : DiskState) → length payload < 2 ^ 32 → Reached payload (λ seen. seen ≡ 0 ∷ big_bytes 4 (length payload) ++ payload) old mid
    → LeavesOnly mid new (IsTornFrom mid.now 0 1) → LeavesOnly old new (IsOldOrNew old.seen payload)
opened payload old mid new few so_far run =
    step payload (λ seen. seen ≡ 0 ∷ big_bytes 4 (length payload) ++ payload) (IsTornFrom mid.now 0 1) old mid new so_far run
    (λ settled reads c torn. ⊎_elim (λ shut. inl (shut_absent c shut)) (λ is. inr (inl (is ∙ gated-whole payload few)))
    (torn_gate 0 1 (big_bytes 4 (length payload) ++ payload) c (λ is. absurd (omega (arith, is))) (subst (λ (l : List ℕ). IsTorn 0 1 l c) reads (torn_settled mid 0 1 c settled torn))))
