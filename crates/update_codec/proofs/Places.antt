-- The parts of an update stand at their places in its spelling.
use Rattle.std.proofs.Common.{◌≡◌, ℕ, ◌+◌, ◌*◌, ◌-◌, ◌^◌, ◌<◌, ◌≤◌, List, [], ◌∷◌, ◌++◌, length, take, drop, refl, sym, ap, subst, ◌∙◌, arith, append_assoc}
use Rattle.std.proofs.Math.Seq.{take-append_seam, drop-append_seam, drop-append-add}
use Rattle.std.proofs.lemmas.List.{length-append, take_rest}
use Rattle.std.proofs.lemmas.Nat.{from_be_bytes-to_be_bytes_2, from_be_bytes-to_be_bytes_4}
use Rattle.std.specs.Int.{w16, w32, to_be_bytes, from_be_bytes}
use Rattle.std.specs.List.{flat_map, AllByRecursion}
use Rattle.update_model.specs.declared.update_id.UpdateId.{UpdateId}
use Rattle.update_model.specs.declared.author_key.AuthorKey.{AuthorKey}
use Rattle.update_model.specs.declared.op.Op.{Op}
use Rattle.update_model.specs.Block.{IsId}
use Rattle.update_model.specs.Form.{BodyData, UpdateData, IsBody, signature_length}
use Rattle.update_model.specs.Rows.{AreOps}
use Rattle.update_codec.specs.Parts.{database_of, author_of, first_ids, pred_count, preds_of, ops_read, first_ops, ops_of, note_read, note_of, signature_of, body_of, update_of, id_of}
use Rattle.update_codec.specs.Reading.{Read, ops_at, body_at}
use Rattle.update_codec.specs.Spelling as spell
use Rattle.update_codec.specs.Spelling.{Spells}
use Rattle.update_codec.specs.Kept.{IsKept, header_from}
use Rattle.update_codec.proofs.Again.{before_ops_flat, body_again}
use Rattle.update_codec.proofs.AgainRows.{ops_again}
use Rattle.update_codec.proofs.Stops.{ids_length}
use Rattle.update_codec.proofs.Versions.{few_of}

-- a block at the front
front_of : (n : ℕ) (block rest : List ℕ) → length block ≡ n → take n (block ++ rest) ≡ block
front_of n block rest e = subst (λ (k : ℕ). take k (block ++ rest) ≡ block) e (take-append_seam block rest)

-- what stands n bytes behind a block of k
behind : (k n m : ℕ) (block rest : List ℕ) → length block ≡ k → m ≡ k + n → drop m (block ++ rest) ≡ drop n rest
behind k n m block rest e sum = subst (λ (j : ℕ). drop j (block ++ rest) ≡ drop n rest) (place (length block) k n m e sum) (drop-append-add block rest n)
  where
    place : (l k n m : ℕ) → l ≡ k → m ≡ k + n → l + n ≡ m
    place l k n m e sum = omega arith

-- where the fields of fixed size stand
record Stands (bytes d l o i t p rest : List ℕ) : Type 0 where
  database : take 32 (drop 1 bytes) ≡ d
  lms : take 4 (drop 33 bytes) ≡ l
  ots : take 4 (drop 37 bytes) ≡ o
  ident : take 16 (drop 41 bytes) ≡ i
  root : take 32 (drop 57 bytes) ≡ t
  count : take 2 (drop 89 bytes) ≡ p
  preds : drop 91 bytes ≡ rest

stands : (v : ℕ) (d l o i t p rest : List ℕ) → length d ≡ 32 → length l ≡ 4 → length o ≡ 4 → length i ≡ 16 → length t ≡ 32 → length p ≡ 2
    → Stands (v ∷ (d ++ (l ++ (o ++ (i ++ (t ++ (p ++ rest))))))) d l o i t p rest
stands v d l o i t p rest hd hl ho hi ht hp =
    let p0 : List ℕ = p ++ rest in
    let t0 : List ℕ = t ++ p0 in
    let i0 : List ℕ = i ++ t0 in
    let o0 : List ℕ = o ++ i0 in
    let l0 : List ℕ = l ++ o0 in
    record {
      database = front_of 32 d l0 hd;
      lms = ap (take 4) (behind 32 0 32 d l0 hd refl) ∙ front_of 4 l o0 hl;
      ots = ap (take 4) (behind 32 4 36 d l0 hd refl ∙ behind 4 0 4 l o0 hl refl) ∙ front_of 4 o i0 ho;
      ident = ap (take 16) (behind 32 8 40 d l0 hd refl ∙ behind 4 4 8 l o0 hl refl ∙ behind 4 0 4 o i0 ho refl) ∙ front_of 16 i t0 hi;
      root = ap (take 32) (behind 32 24 56 d l0 hd refl ∙ behind 4 20 24 l o0 hl refl ∙ behind 4 16 20 o i0 ho refl ∙ behind 16 0 16 i t0 hi refl) ∙ front_of 32 t p0 ht;
      count = ap (take 2) (behind 32 56 88 d l0 hd refl ∙ behind 4 52 56 l o0 hl refl ∙ behind 4 48 52 o i0 ho refl ∙ behind 16 32 48 i t0 hi refl ∙ behind 32 0 32 t p0 ht refl) ∙ front_of 2 p rest hp;
      preds = behind 32 58 90 d l0 hd refl ∙ behind 4 54 58 l o0 hl refl ∙ behind 4 50 54 o i0 ho refl ∙ behind 16 34 50 i t0 hi refl ∙ behind 32 2 34 t p0 ht refl ∙ behind 2 0 2 p rest hp refl;
    }

-- a spelling with what stands behind the predecessors
abbrev laid : BodyData → List ℕ → List ℕ
laid body rest = spell.version body.note ∷ (body.database ++ (to_be_bytes w32 body.author.lms ++ (to_be_bytes w32 body.author.ots ++ (body.author.ident ++ (body.author.root
    ++ (to_be_bytes w16 (length body.preds) ++ (flat_map spell.id body.preds ++ rest)))))))

laid_stands : (body : BodyData) (rest : List ℕ) → IsBody body
    → Stands (laid body rest) body.database (to_be_bytes w32 body.author.lms) (to_be_bytes w32 body.author.ots) body.author.ident body.author.root (to_be_bytes w16 (length body.preds)) (flat_map spell.id body.preds ++ rest)
laid_stands body rest is = stands (spell.version body.note) body.database (to_be_bytes w32 body.author.lms) (to_be_bytes w32 body.author.ots) body.author.ident body.author.root (to_be_bytes w16 (length body.preds)) (flat_map spell.id body.preds ++ rest) is.database.len refl refl is.author.ident.len is.author.root.len refl

database_laid : (body : BodyData) (rest : List ℕ) → IsBody body → database_of (laid body rest) ≡ body.database
unfolding database_of
database_laid body rest is = (laid_stands body rest is).database

key_is : (key : AuthorKey) (l o : ℕ) (i r : List ℕ) → l ≡ key.lms → o ≡ key.ots → i ≡ key.ident → r ≡ key.root → (let made : AuthorKey = record { lms = l; ots = o; ident = i; root = r } in made) ≡ key
key_is key l o i r a b c d = λ t. record { lms = a t; ots = b t; ident = c t; root = d t }

author_laid : (body : BodyData) (rest : List ℕ) → IsBody body → author_of (laid body rest) ≡ body.author
unfolding author_of
author_laid body rest is =
    let at = laid_stands body rest is in
    key_is body.author _ _ _ _
    (ap (from_be_bytes w32) at.lms ∙ from_be_bytes-to_be_bytes_4 body.author.lms (small body.author.lms 7 is.author.known.lms.1 (omega arith)))
    (ap (from_be_bytes w32) at.ots ∙ from_be_bytes-to_be_bytes_4 body.author.ots (small body.author.ots 4 is.author.known.ots.1 (omega arith)))
    at.ident at.root
  where
    small : (n k : ℕ) → n ≤ k → k < 2 ^ 32 → n < 2 ^ 32
    small n k h g = omega arith

first_ids_again : (ids : List UpdateId) (rest : List ℕ) → AllByRecursion IsId ids → first_ids (length ids) (flat_map spell.id ids ++ rest) ≡ ids
unfolding first_ids
first_ids_again [] rest are = refl
first_ids_again (id ∷ ids) rest are =
    let others : List ℕ = flat_map spell.id ids ++ rest in
    rw (append_assoc id.0 (flat_map spell.id ids) rest) (cons_is _ _ id ids (front_of 32 id.0 others are.0.len) (ap (first_ids (length ids)) (behind 32 0 32 id.0 others are.0.len refl) ∙ first_ids_again ids rest are.1))
  where
    cons_is : (block : List ℕ) (read : List UpdateId) (id : UpdateId) (ids : List UpdateId) → block ≡ id.0 → read ≡ ids → (let made : UpdateId = record { 0 = block } in made) ∷ read ≡ id ∷ ids
    cons_is block read id ids e g = λ t. (let made : UpdateId = record { 0 = e t } in made) ∷ g t

count_laid : (body : BodyData) (rest : List ℕ) → IsBody body → pred_count (laid body rest) ≡ length body.preds
unfolding pred_count
count_laid body rest is =
    let at = laid_stands body rest is in
    ap (from_be_bytes w16) at.count ∙ from_be_bytes-to_be_bytes_2 (length body.preds) (below (length body.preds) is.few_preds)
  where
    below : (n : ℕ) → n ≤ 1024 → n < 2 ^ 16
    below n h = omega arith

preds_laid : (body : BodyData) (rest : List ℕ) → IsBody body → preds_of (laid body rest) ≡ body.preds
unfolding preds_of
preds_laid body rest is =
    let at = laid_stands body rest is in
    same_ids _ (length body.preds) _ (flat_map spell.id body.preds ++ rest) (count_laid body rest is) at.preds ∙ first_ids_again body.preds rest is.ids
  where
    same_ids : (n m : ℕ) (a b : List ℕ) → n ≡ m → a ≡ b → first_ids n a ≡ first_ids m b
    same_ids n m a b e g = λ t. first_ids (e t) (g t)

-- the number of operations, and the operations
abbrev counted_ops : List Op → List ℕ
counted_ops ops = to_be_bytes w16 (length ops) ++ flat_map spell.op ops

first_ops_again : (ops : List Op) (rest : List ℕ) → length ops ≤ 256 → AreOps 0 ops → first_ops (counted_ops ops ++ rest) ≡ ops
unfolding first_ops
first_ops_again ops rest few are =
    ap (λ (n : ℕ). ops_read (ops_at n 0 (flat_map spell.op ops ++ rest))) (from_be_bytes-to_be_bytes_2 (length ops) (below (length ops) few))
    ∙ ap (λ (read : Read (List Op)). ops_read read) (ops_again 0 ops rest (small (length ops) few) are)
  where
    below : (n : ℕ) → n ≤ 256 → n < 2 ^ 16
    below n h = omega arith

    small : (n : ℕ) → n ≤ 256 → 0 + n ≤ 256
    small n h = omega arith

ops_laid : (body : BodyData) (rest : List ℕ) → IsBody body → ops_of (laid body (counted_ops body.ops ++ rest)) ≡ body.ops
unfolding ops_of
ops_laid body rest is =
    let tail : List ℕ = counted_ops body.ops ++ rest in
    let at = laid_stands body tail is in
    let skipped : drop (32 * length body.preds) (flat_map spell.id body.preds ++ tail) ≡ tail = subst (λ (n : ℕ). drop n (flat_map spell.id body.preds ++ tail) ≡ tail) (ids_length body.preds is.ids) (drop-append_seam (flat_map spell.id body.preds) tail) in
    same_ops _ (length body.preds) _ (flat_map spell.id body.preds ++ tail) (count_laid body tail is) at.preds ∙ ap first_ops skipped ∙ first_ops_again body.ops rest (few_of body.note (length body.ops) is.few_ops) is.ops
  where
    same_ops : (n m : ℕ) (a b : List ℕ) → n ≡ m → a ≡ b → first_ops (drop (32 * n) a) ≡ first_ops (drop (32 * m) b)
    same_ops n m a b e g = λ t. first_ops (drop (32 * e t) (g t))

-- what stands behind the message
abbrev signed : UpdateData → List ℕ
signed update = to_be_bytes w32 (length update.signature) ++ update.signature

-- what stands behind the predecessors
abbrev tail_of : UpdateData → List ℕ
tail_of update = counted_ops update.body.ops ++ (spell.note update.body.note ++ signed update)

spelling_laid : (bytes : List ℕ) (update : UpdateData) → Spells bytes update → bytes ≡ laid update.body (tail_of update)
spelling_laid bytes update s = s.spells ∙ flat (spell.before_ops update.body) (counted_ops update.body.ops) (spell.note update.body.note) (signed update) ∙ before_ops_flat update.body (tail_of update)
  where
    flat : (b o n s : List ℕ) → ((b ++ o) ++ n) ++ s ≡ b ++ (o ++ (n ++ s))
    flat b o n s = simp append_assoc

pub database_stands : (bytes : List ℕ) (update : UpdateData) → Spells bytes update → database_of bytes ≡ update.body.database
database_stands bytes update s = ap database_of (spelling_laid bytes update s) ∙ database_laid update.body (tail_of update) s.form.body

pub author_stands : (bytes : List ℕ) (update : UpdateData) → Spells bytes update → author_of bytes ≡ update.body.author
author_stands bytes update s = ap author_of (spelling_laid bytes update s) ∙ author_laid update.body (tail_of update) s.form.body

pub preds_stand : (bytes : List ℕ) (update : UpdateData) → Spells bytes update → preds_of bytes ≡ update.body.preds
preds_stand bytes update s = ap preds_of (spelling_laid bytes update s) ∙ preds_laid update.body (tail_of update) s.form.body

pub ops_stand : (bytes : List ℕ) (update : UpdateData) → Spells bytes update → ops_of bytes ≡ update.body.ops
ops_stand bytes update s = ap ops_of (spelling_laid bytes update s) ∙ ops_laid update.body (spell.note update.body.note ++ signed update) s.form.body

pub note_stands : (bytes : List ℕ) (update : UpdateData) → Spells bytes update → note_of bytes ≡ update.body.note
unfolding note_of
note_stands bytes update s = ap (λ (b : List ℕ). note_read (body_at b)) s.spells ∙ ap (λ (read : Read BodyData). note_read read) (body_again update.body (signed update) s.form.body)

-- the last bytes, of which a signature has this many
last_of : (front last : List ℕ) (n : ℕ) → length last ≡ n → drop (length (front ++ last) - n) (front ++ last) ≡ last
last_of front last n e =
    let k : length (front ++ last) - n ≡ length front = omega (arith, length-append front last) in
    ap (λ (m : ℕ). drop m (front ++ last)) k ∙ drop-append_seam front last

pub signature_stands : (bytes : List ℕ) (update : UpdateData) → Spells bytes update → signature_of bytes ≡ update.signature
unfolding signature_of
signature_stands bytes update s =
    let front : List ℕ = spell.message update.body ++ to_be_bytes w32 (length update.signature) in
    let parts : bytes ≡ front ++ update.signature = s.spells ∙ sym (append_assoc (spell.message update.body) (to_be_bytes w32 (length update.signature)) update.signature) in
    at_end bytes front update.signature (signature_length (author_of bytes)) parts (s.form.signature.len ∙ ap signature_length (sym (author_stands bytes update s)))
  where
    at_end : (bytes front last : List ℕ) (n : ℕ) → bytes ≡ front ++ last → length last ≡ n → drop (length bytes - n) bytes ≡ last
    at_end bytes front last n e h = subst (λ (b : List ℕ). drop (length b - n) b ≡ last) (sym e) (last_of front last n h)

-- The update that bytes spell is a function of them.
pub update_stands : (bytes : List ℕ) (update : UpdateData) → Spells bytes update → update_of bytes ≡ update
update_stands bytes update s =
    let database = database_stands bytes update s in
    let author = author_stands bytes update s in
    let preds = preds_stand bytes update s in
    let ops = ops_stand bytes update s in
    let note = note_stands bytes update s in
    let signature = signature_stands bytes update s in
    λ t. record { body = record { database = database t; author = author t; preds = preds t; ops = ops t; note = note t }; signature = signature t }

-- What agrees with the update that bytes spell may be kept beside them.
pub kept_of : (bytes : List ℕ) (update : UpdateData) → Spells bytes update → IsKept bytes (header_from update.body) (id_of bytes)
kept_of bytes update s =
    let is = update_stands bytes update s in
    record { spells = subst (λ (u : UpdateData). Spells bytes u) (sym is) s; same_header = ap (λ (u : UpdateData). header_from u.body) (sym is); same_id = refl }

-- the last bytes of what is kept, as a slice of it is seen
pub signature_read : (slice kept : List ℕ) (author : AuthorKey) (len n : ℕ) → slice ≡ kept → len ≡ length slice → n ≡ signature_length author → author ≡ author_of kept
    → take (length slice - (len - n)) (drop (len - n) slice) ≡ signature_of kept
unfolding signature_of
signature_read slice kept author len n is e sized same =
    take_rest slice (len - n) ∙ at slice kept len n (signature_length (author_of kept)) is e (sized ∙ ap signature_length same)
  where
    at : (slice kept : List ℕ) (len n m : ℕ) → slice ≡ kept → len ≡ length slice → n ≡ m → drop (len - n) slice ≡ drop (length kept - m) kept
    at slice kept len n m is e a = rw (e, a, is) refl

-- the first bytes of what is kept, as a slice of it is seen
pub message_read : (slice kept : List ℕ) (author : AuthorKey) (len n : ℕ) → slice ≡ kept → len ≡ length slice → n ≡ signature_length author → author ≡ author_of kept → Spells kept (update_of kept)
    → take (len - n - 4) slice ≡ spell.message (body_of kept)
message_read slice kept author len n is e sized same s =
    front slice (spell.message (body_of kept)) (to_be_bytes w32 (length (signature_of kept))) (signature_of kept) len n (is ∙ s.spells) e refl (sized ∙ ap signature_length same ∙ sym s.form.signature.len)
  where
    front : (slice m l t : List ℕ) (len n : ℕ) → slice ≡ m ++ (l ++ t) → len ≡ length slice → length l ≡ 4 → n ≡ length t → take (len - n - 4) slice ≡ m
    front slice m l t len n parts e four sized =
        let all = ap length parts ∙ length-append m (l ++ t) in
        let behind = length-append l t in
        let size : len - n - 4 ≡ length m = size_of len (length slice) (length m) (length (l ++ t)) (length l) (length t) n e all behind four sized in
        ap (λ (k : ℕ). take k slice) size ∙ ap (take (length m)) parts ∙ take-append_seam m (l ++ t)
      where
        size_of : (len s m b l t n : ℕ) → len ≡ s → s ≡ m + b → b ≡ l + t → l ≡ 4 → n ≡ t → len - n - 4 ≡ m
        size_of len s m b l t n e f g h k = omega arith

-- What is kept is the message, the length of the signature, and the signature.
pub kept_parts : (kept front : List ℕ) → Spells kept (update_of kept) → front ≡ spell.message (body_of kept) → kept ≡ front ++ (to_be_bytes w32 (length (signature_of kept)) ++ signature_of kept)
kept_parts kept front s e = s.spells ∙ ap (λ (m : List ℕ). m ++ (to_be_bytes w32 (length (signature_of kept)) ++ signature_of kept)) (sym e)
