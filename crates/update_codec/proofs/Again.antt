-- Reading gives back what was spelled, and leaves what stands behind it.
use Rattle.std.proofs.Common.{◌≡◌, ℕ, ◌+◌, ◌^◌, ◌<◌, ◌≤◌, true, List, [], ◌∷◌, ◌++◌, length, refl, sym, ap, subst, ◌∙◌, arith, append_assoc, leb, eqb, ◌||◌}
use Rattle.std.proofs.lemmas.List.{append-nil}
use Rattle.std.proofs.lemmas.Bool.{le-leb, eq-eqb}
use Rattle.std.proofs.lemmas.Bool.Decides.{nat_tests}
use Rattle.std.specs.Prelude.{Ok, Option, Some, None}
use Rattle.std.specs.Int.{w16, w32, to_be_bytes}
use Rattle.std.specs.List.{flat_map, AllByRecursion}
use Rattle.update_model.specs.declared.update_id.UpdateId.{UpdateId}
use Rattle.update_model.specs.declared.author_key.AuthorKey.{AuthorKey}
use Rattle.update_model.specs.Block.{IsId}
use Rattle.update_model.specs.Form.{BodyData, UpdateData, IsBody, IsNote, IsUpdate, AreRising, most_ops, signature_length}
use Rattle.update_codec.specs.declared.codec_fault.CodecKind.TheVariants as kinds
use Rattle.update_codec.specs.Reading.{Read, ◌>>=◌, judge, block_at, number_at, id_at, ids_at, is_next, author_at, text_at, ops_at, before_ops_at, note_at, body_at, update_at, whole}
use Rattle.update_codec.specs.Spelling as spell
use Rattle.update_codec.specs.Spelling.{Spells}
use Rattle.update_codec.proofs.Steps.{then_is, judge_is, ok_is}
use Rattle.update_codec.proofs.AgainFields.{block_again, u16_again, u32_again, id_again, author_again}
use Rattle.update_codec.proofs.AgainRows.{text_again, ops_again}
use Rattle.update_codec.proofs.Versions.{unread, version_known, unread_few, few_of}

-- the first of ids that rise, and the others
pub next_rises : (last : Option UpdateId) (id : UpdateId) (ids : List UpdateId) → AreRising last (id ∷ ids) → (is_next last id ≡ true) × AreRising (Some id) ids
next_rises None id ids r = (refl, r)
next_rises (Some last) id ids r = (r.0, r.1)

pub ids_again : (ids : List UpdateId) (last : Option UpdateId) (rest : List ℕ) → AllByRecursion IsId ids → AreRising last ids → ids_at (length ids) last (flat_map spell.id ids ++ rest) ≡ Ok (ids, rest)
unfolding ids_at
ids_again [] last rest are rise = refl
ids_again (id ∷ ids) last rest are rise =
    let next = next_rises last id ids rise in
    rw (append_assoc id.0 (flat_map spell.id ids) rest)
    (then_is (id_at (id.0 ++ (flat_map spell.id ids ++ rest))) _ (id, flat_map spell.id ids ++ rest) _ (id_again id _ are.0)
    (judge_is (is_next last id) kinds.Order (id.0 ++ (flat_map spell.id ids ++ rest)) _ _ next.0
    (then_is (ids_at (length ids) (Some id) (flat_map spell.id ids ++ rest)) _ (ids, rest) _ (ids_again ids (Some id) rest are.1 next.1) refl)))

-- how the fields up to the predecessors stand before what follows
pub before_ops_flat : (body : BodyData) (rest : List ℕ) → spell.before_ops body ++ rest
    ≡ spell.version body.note ∷ (body.database ++ (to_be_bytes w32 body.author.lms ++ (to_be_bytes w32 body.author.ots ++ (body.author.ident ++ (body.author.root
    ++ (to_be_bytes w16 (length body.preds) ++ (flat_map spell.id body.preds ++ rest)))))))
before_ops_flat body rest = flat (spell.version body.note) body.database (to_be_bytes w32 body.author.lms) (to_be_bytes w32 body.author.ots) body.author.ident body.author.root (to_be_bytes w16 (length body.preds)) (flat_map spell.id body.preds) rest
  where
    flat : (v : ℕ) (d l o i t p q rest : List ℕ) → ((v ∷ (d ++ (l ++ (o ++ (i ++ t))))) ++ (p ++ q)) ++ rest ≡ v ∷ (d ++ (l ++ (o ++ (i ++ (t ++ (p ++ (q ++ rest)))))))
    flat v d l o i t p q rest = simp append_assoc

-- what is read behind the author: the predecessors
abbrev pub after_header : Option (List ℕ) → List ℕ → AuthorKey → List ℕ → Read BodyData
after_header noted database key bytes =
    number_at w16 bytes >>= λ n.
    judge (leb n.0 1024) kinds.Count bytes >>= λ few.
    ids_at n.0 None n.1 >>= λ preds.
    Ok (record { database = database; author = key; preds = preds.0; ops = []; note = noted }, preds.1)

-- a body up to its operations
abbrev pub without_ops : BodyData → BodyData
without_ops body = record { database = body.database; author = body.author; preds = body.preds; ops = []; note = unread body.note }

pub before_ops_again : (body : BodyData) (rest : List ℕ) → IsBody body → before_ops_at (spell.before_ops body ++ rest) ≡ Ok (without_ops body, rest)
unfolding before_ops_at
before_ops_again body rest is = subst (λ (bytes : List ℕ). before_ops_at bytes ≡ Ok (without_ops body, rest)) (sym (before_ops_flat body rest)) (flat body rest is)
  where
    below : (n : ℕ) → n ≤ 1024 → n < 2 ^ 16
    below n h = omega arith

    flat : (body : BodyData) (rest : List ℕ) → IsBody body → before_ops_at (spell.version body.note ∷ (body.database ++ (to_be_bytes w32 body.author.lms ++ (to_be_bytes w32 body.author.ots ++ (body.author.ident ++ (body.author.root
        ++ (to_be_bytes w16 (length body.preds) ++ (flat_map spell.id body.preds ++ rest)))))))) ≡ Ok (without_ops body, rest)
    flat body rest is =
        let ids : List ℕ = flat_map spell.id body.preds ++ rest in
        let count : List ℕ = to_be_bytes w16 (length body.preds) ++ ids in
        let key : List ℕ = to_be_bytes w32 body.author.lms ++ (to_be_bytes w32 body.author.ots ++ (body.author.ident ++ (body.author.root ++ count))) in
        let version : ℕ = spell.version body.note in
        judge_is (eqb version 1 || eqb version 2) kinds.Version (version ∷ (body.database ++ key)) _ _ (version_known body.note)
        (then_is (block_at 32 (body.database ++ key)) _ (body.database, key) _ (block_again 32 body.database key is.database.len)
        (then_is (author_at key) _ (body.author, count) _ (author_again body.author count is.author)
        (then_is (number_at w16 count) _ (length body.preds, ids) _ (u16_again (length body.preds) ids (below (length body.preds) is.few_preds))
        (judge_is (leb (length body.preds) 1024) kinds.Count count _ _ (le-leb _ _ is.few_preds)
        (then_is (ids_at (length body.preds) None ids) _ (body.preds, rest) _ (ids_again body.preds None rest is.ids is.rising) refl)))))

pub note_again : (noted : Option (List ℕ)) (rest : List ℕ) → IsNote noted → note_at (unread noted) (spell.note noted ++ rest) ≡ Ok (noted, rest)
unfolding note_at
note_again None rest is = refl
note_again (Some text) rest is = then_is (text_at 256 (spell.text text ++ rest)) _ (text, rest) _ (text_again 256 text rest (omega arith) is.0 is.1) refl

-- how the fields of a message stand before what follows
pub message_flat : (body : BodyData) (rest : List ℕ) → spell.message body ++ rest
    ≡ spell.before_ops body ++ (to_be_bytes w16 (length body.ops) ++ (flat_map spell.op body.ops ++ (spell.note body.note ++ rest)))
message_flat body rest = flat (spell.before_ops body) (to_be_bytes w16 (length body.ops)) (flat_map spell.op body.ops) (spell.note body.note) rest
  where
    flat : (b n o t rest : List ℕ) → ((b ++ (n ++ o)) ++ t) ++ rest ≡ b ++ (n ++ (o ++ (t ++ rest)))
    flat b n o t rest = simp append_assoc

-- what is read behind the predecessors, where the operations are known
pub behind_preds : (body : BodyData) (bytes : List ℕ) → IsBody body → body_at (spell.before_ops body ++ (to_be_bytes w16 (length body.ops) ++ (flat_map spell.op body.ops ++ bytes)))
    ≡ (note_at (unread body.note) bytes >>= λ noted. Ok (record { database = body.database; author = body.author; preds = body.preds; ops = body.ops; note = noted.0 }, noted.1))
unfolding body_at
behind_preds body bytes is =
    let ops : List ℕ = flat_map spell.op body.ops ++ bytes in
    let count : List ℕ = to_be_bytes w16 (length body.ops) ++ ops in
    let few : length body.ops ≤ 256 = few_of body.note (length body.ops) is.few_ops in
    then_is (before_ops_at (spell.before_ops body ++ count)) _ (without_ops body, count) _ (before_ops_again body count is)
    (then_is (number_at w16 count) _ (length body.ops, ops) _ (u16_again (length body.ops) ops (below _ few))
    (judge_is (leb (length body.ops) (most_ops (unread body.note))) kinds.Count count _ _ (le-leb _ _ (unread_few body.note (length body.ops) is.few_ops))
    (then_is (ops_at (length body.ops) 0 ops) _ (body.ops, bytes) _ (ops_again 0 body.ops bytes (none_more (length body.ops) few) is.ops) refl)))
  where
    below : (n : ℕ) → n ≤ 256 → n < 2 ^ 16
    below n h = omega arith

    none_more : (n : ℕ) → n ≤ 256 → 0 + n ≤ 256
    none_more n h = omega arith

pub body_again : (body : BodyData) (rest : List ℕ) → IsBody body → body_at (spell.message body ++ rest) ≡ Ok (body, rest)
body_again body rest is = subst (λ (bytes : List ℕ). body_at bytes ≡ Ok (body, rest)) (sym (message_flat body rest))
    (behind_preds body (spell.note body.note ++ rest) is ∙ then_is (note_at (unread body.note) (spell.note body.note ++ rest)) _ (body.note, rest) _ (note_again body.note rest is.note) refl)

-- no signature is longer
pub signature_length_le : (key : AuthorKey) → signature_length key ≤ 9004
signature_length_le key = grind (arith, nat_tests)

pub update_again : (update : UpdateData) (rest : List ℕ) → IsUpdate update → update_at (spell.spelling update ++ rest) ≡ Ok (update, rest)
unfolding update_at
update_again update rest is = subst (λ (bytes : List ℕ). update_at bytes ≡ Ok (update, rest)) (sym (flat (spell.message update.body) (to_be_bytes w32 (length update.signature)) update.signature rest)) (read update rest is)
  where
    flat : (m l s rest : List ℕ) → (m ++ (l ++ s)) ++ rest ≡ m ++ (l ++ (s ++ rest))
    flat m l s rest = simp append_assoc

    below : (n s : ℕ) → n ≡ s → s ≤ 9004 → n < 2 ^ 32
    below n s e h = omega arith

    read : (update : UpdateData) (rest : List ℕ) → IsUpdate update → update_at (spell.message update.body ++ (to_be_bytes w32 (length update.signature) ++ (update.signature ++ rest))) ≡ Ok (update, rest)
    read update rest is =
        let signature : List ℕ = update.signature ++ rest in
        let len : List ℕ = to_be_bytes w32 (length update.signature) ++ signature in
        then_is (body_at (spell.message update.body ++ len)) _ (update.body, len) _ (body_again update.body len is.body)
        (then_is (number_at w32 len) _ (length update.signature, signature) _ (u32_again (length update.signature) signature (below _ _ is.signature.len (signature_length_le update.body.author)))
        (judge_is (eqb (length update.signature) (signature_length update.body.author)) kinds.SignatureLength len _ _ (eq-eqb _ _ is.signature.len)
        (then_is (block_at (length update.signature) signature) _ (update.signature, rest) _ (block_again (length update.signature) update.signature rest refl) refl)))

-- Bytes that spell an update are read as this update.
pub whole_again : (bytes : List ℕ) (update : UpdateData) → Spells bytes update → whole bytes ≡ Ok update
unfolding whole
whole_again bytes update s =
    then_is (update_at bytes) _ (update, []) _ (subst (λ (b : List ℕ). update_at b ≡ Ok (update, [])) (append-nil (spell.spelling update) ∙ sym s.spells) (update_again update [] s.form)) refl

-- A spelling ends where reading it does.
pub one_end : (bytes more : List ℕ) (update other : UpdateData) → Spells bytes update → Spells (bytes ++ more) other → more ≡ []
one_end bytes more update other s t =
    let first : update_at (bytes ++ more) ≡ Ok (update, more) = subst (λ (b : List ℕ). update_at (b ++ more) ≡ Ok (update, more)) (sym s.spells) (update_again update more s.form) in
    let second : update_at (bytes ++ more) ≡ Ok (other, []) = subst (λ (b : List ℕ). update_at b ≡ Ok (other, [])) (append-nil (spell.spelling other) ∙ sym t.spells) (update_again other [] t.form) in
    ap (λ (x : UpdateData × List ℕ). x.1) (ok_is (update, more) (other, []) (sym first ∙ second))
