-- What each reader took from the front of the bytes is the spelling of its value.
use Rattle.std.proofs.Common.{◌≡◌, ℕ, zero, suc, ◌≤◌, true, List, [], ◌∷◌, ◌++◌, length, refl, sym, ap, subst, ◌∙◌, arith, leb, eqb, ◌||◌}
use Rattle.std.proofs.lemmas.List.{append-nil}
use Rattle.std.proofs.lemmas.Bool.{leb-true, eqb-true}
use Rattle.std.specs.Prelude.{Ok, Option, Some, None}
use Rattle.std.specs.Int.{w16, w32, to_be_bytes}
use Rattle.std.specs.List.{flat_map, AllByRecursion}
use Rattle.update_model.specs.declared.update_id.UpdateId.{UpdateId}
use Rattle.update_model.specs.declared.op.Op.{Op}
use Rattle.update_model.specs.Block.{AreBytes, IsBlock, IsId}
use Rattle.update_model.specs.Form.{BodyData, UpdateData, IsBody, IsNote, IsUpdate, AreRising, most_ops, signature_length}
use Rattle.update_model.specs.Rows.{AreOps}
use Rattle.update_codec.specs.Reading.{byte_at, block_at, number_at, id_at, ids_at, is_next, author_at, text_at, ops_at, first_note, before_ops_at, note_at, body_at, update_at, whole}
use Rattle.update_codec.specs.Spelling as spell
use Rattle.update_codec.proofs.Steps.{bind_ok, judged, ok_is}
use Rattle.update_codec.proofs.TakesFields.{Takes, Takes-then, Takes-none, byte_takes, block_takes, u16_takes, u32_takes, id_takes, author_takes}
use Rattle.update_codec.proofs.TakesRows.{text_takes, ops_takes}
use Rattle.update_codec.proofs.Versions.{unread, version_is, first_unread, first_is_note, same_most}

-- one id more before those that rise
pub rising : (last : Option UpdateId) (id : UpdateId) (ids : List UpdateId) → is_next last id ≡ true → AreRising (Some id) ids → AreRising last (id ∷ ids)
rising None id ids h r = r
rising (Some last) id ids h r = (h, r)

pub ids_takes : (n : ℕ) (last : Option UpdateId) (bytes : List ℕ) (x : List UpdateId × List ℕ) → AreBytes bytes → ids_at n last bytes ≡ Ok x
    → Takes bytes (flat_map spell.id x.0) x.1 × (length x.0 ≡ n) × AllByRecursion IsId x.0 × AreRising last x.0
unfolding ids_at
ids_takes zero last bytes x fits e = rw (← ok_is _ x e) (Takes-none bytes fits, refl, tt, tt)
ids_takes (suc n) last bytes x fits e =
    let a = bind_ok (id_at bytes) _ x e in
    let one = judged (is_next last a.0.0) _ _ _ x a.2 in
    let b = bind_ok (ids_at n (Some a.0.0) a.0.1) _ x one.1 in
    let ta = id_takes bytes a.0 fits a.1 in
    let tb = ids_takes n (Some a.0.0) a.0.1 b.0 ta.0.rest_fits b.1 in
    rw (← ok_is _ x b.2) (Takes-then ta.0 tb.0, ap suc tb.1, (ta.1, tb.2), rising last a.0.0 b.0.0 one.0 tb.3)

pub before_ops_takes : (bytes : List ℕ) (x : BodyData × List ℕ) → AreBytes bytes → before_ops_at bytes ≡ Ok x
    → Takes bytes (spell.before_ops x.0) x.1 × IsBody x.0 × (x.0.ops ≡ []) × (x.0.note ≡ unread x.0.note)
unfolding before_ops_at
before_ops_takes bytes x fits e =
    let a = bind_ok (byte_at bytes) _ x e in
    let known = judged (eqb a.0.0 1 || eqb a.0.0 2) _ _ _ x a.2 in
    let b = bind_ok (block_at 32 a.0.1) _ x known.1 in
    let c = bind_ok (author_at b.0.1) _ x b.2 in
    let d = bind_ok (number_at w16 c.0.1) _ x c.2 in
    let few = judged (leb d.0.0 1024) _ _ _ x d.2 in
    let f = bind_ok (ids_at d.0.0 None d.0.1) _ x few.1 in
    let ta = byte_takes bytes a.0 fits a.1 in
    let tb = block_takes 32 a.0.1 b.0 ta.0.rest_fits b.1 in
    let tc = author_takes b.0.1 c.0 tb.0.rest_fits c.1 in
    let td = u16_takes c.0.1 d.0 tc.0.rest_fits d.1 in
    let tf = ids_takes d.0.0 None d.0.1 f.0 td.0.rest_fits f.1 in
    let version : Takes bytes (spell.version (first_note a.0.0) ∷ []) a.0.1 = subst (λ (v : ℕ). Takes bytes (v ∷ []) a.0.1) (sym (version_is a.0.0 known.0)) ta.0 in
    let count : Takes c.0.1 (to_be_bytes w16 (length f.0.0)) d.0.1 = subst (λ (n : ℕ). Takes c.0.1 (to_be_bytes w16 n) d.0.1) (sym tf.1) td.0 in
    rw (← ok_is _ x f.2) (
      Takes-then (Takes-then version (Takes-then tb.0 tc.0)) (Takes-then count tf.0),
      record { database = tb.1; author = tc.1; few_preds = few_ids d.0.0 (length f.0.0) tf.1 (leb-true d.0.0 1024 few.0); ids = tf.2; rising = tf.3; few_ops = none_yet (most_ops (first_note a.0.0)); ops = tt; note = first_is_note a.0.0 },
      refl,
      first_unread a.0.0 known.0,
    )
  where
    few_ids : (p n : ℕ) → n ≡ p → p ≤ 1024 → n ≤ 1024
    few_ids p n e h = omega arith

    none_yet : (n : ℕ) → 0 ≤ n
    none_yet n = omega arith

-- a body with these operations and this note
abbrev pub with_rest : BodyData → List Op → Option (List ℕ) → BodyData
with_rest body ops noted = record { database = body.database; author = body.author; preds = body.preds; ops = ops; note = noted }

pub with_rest_is : (body : BodyData) (ops : List Op) (noted : Option (List ℕ)) → IsBody body → length ops ≤ most_ops noted → AreOps 0 ops → IsNote noted → IsBody (with_rest body ops noted)
with_rest_is body ops noted is few are is_note = record { database = is.database; author = is.author; few_preds = is.few_preds; ids = is.ids; rising = is.rising; few_ops = few; ops = are; note = is_note }

pub note_takes : (first : Option (List ℕ)) (bytes : List ℕ) (x : Option (List ℕ) × List ℕ) → AreBytes bytes → note_at first bytes ≡ Ok x
    → Takes bytes (spell.note x.0) x.1 × IsNote x.0 × (spell.version x.0 ≡ spell.version first)
unfolding note_at
note_takes None bytes x fits e = rw (← ok_is _ x e) (Takes-none bytes fits, tt, refl)
note_takes (Some first) bytes x fits e =
    let a = bind_ok (text_at 256 bytes) _ x e in
    let ta = text_takes 256 bytes a.0 fits a.1 in
    rw (← ok_is _ x a.2) (ta.0, (ta.1, ta.2), refl)

-- what is before the operations of a body, in the version of its note
renoted : (body : BodyData) (bytes rest : List ℕ) (ops : List Op) (noted : Option (List ℕ)) → spell.version noted ≡ spell.version body.note → Takes bytes (spell.before_ops body) rest
    → Takes bytes (spell.before_ops (with_rest body ops noted)) rest
renoted body bytes rest ops noted e took =
    subst (λ (v : ℕ). Takes bytes (v ∷ ((body.database ++ spell.author body.author) ++ (to_be_bytes w16 (length body.preds) ++ flat_map spell.id body.preds))) rest) (sym e) took

pub body_takes : (bytes : List ℕ) (x : BodyData × List ℕ) → AreBytes bytes → body_at bytes ≡ Ok x → Takes bytes (spell.message x.0) x.1 × IsBody x.0
unfolding body_at
body_takes bytes x fits e =
    let a = bind_ok (before_ops_at bytes) _ x e in
    let b = bind_ok (number_at w16 a.0.1) _ x a.2 in
    let few = judged (leb b.0.0 (most_ops a.0.0.note)) _ _ _ x b.2 in
    let c = bind_ok (ops_at b.0.0 0 b.0.1) _ x few.1 in
    let d = bind_ok (note_at a.0.0.note c.0.1) _ x c.2 in
    let ta = before_ops_takes bytes a.0 fits a.1 in
    let tb = u16_takes a.0.1 b.0 ta.0.rest_fits b.1 in
    let tc = ops_takes b.0.0 0 b.0.1 c.0 tb.0.rest_fits c.1 in
    let td = note_takes a.0.0.note c.0.1 d.0 tc.0.rest_fits d.1 in
    let count : Takes a.0.1 (to_be_bytes w16 (length c.0.0)) b.0.1 = subst (λ (n : ℕ). Takes a.0.1 (to_be_bytes w16 n) b.0.1) (sym tc.1) tb.0 in
    let front = renoted a.0.0 bytes a.0.1 c.0.0 d.0.0 td.2 ta.0 in
    let most = few_ops b.0.0 (length c.0.0) (most_ops a.0.0.note) (most_ops d.0.0) tc.1 (leb-true b.0.0 (most_ops a.0.0.note) few.0) (same_most d.0.0 a.0.0.note td.2) in
    rw (← ok_is _ x d.2) (Takes-then (Takes-then front (Takes-then count tc.0)) td.0, with_rest_is a.0.0 c.0.0 d.0.0 ta.1 most tc.2 td.1)
  where
    few_ops : (p n most other : ℕ) → n ≡ p → p ≤ most → other ≡ most → n ≤ other
    few_ops p n most other e h g = omega arith

pub update_takes : (bytes : List ℕ) (x : UpdateData × List ℕ) → AreBytes bytes → update_at bytes ≡ Ok x → Takes bytes (spell.spelling x.0) x.1 × IsUpdate x.0
unfolding update_at
update_takes bytes x fits e =
    let a = bind_ok (body_at bytes) _ x e in
    let b = bind_ok (number_at w32 a.0.1) _ x a.2 in
    let right = judged (eqb b.0.0 (signature_length a.0.0.author)) _ _ _ x b.2 in
    let c = bind_ok (block_at b.0.0 b.0.1) _ x right.1 in
    let ta = body_takes bytes a.0 fits a.1 in
    let tb = u32_takes a.0.1 b.0 ta.0.rest_fits b.1 in
    let tc = block_takes b.0.0 b.0.1 c.0 tb.0.rest_fits c.1 in
    let same = eqb-true b.0.0 (signature_length a.0.0.author) right.0 in
    let len : Takes a.0.1 (to_be_bytes w32 (length c.0.0)) b.0.1 = subst (λ (n : ℕ). Takes a.0.1 (to_be_bytes w32 n) b.0.1) (sym tc.1.len) tb.0 in
    let block : IsBlock (signature_length a.0.0.author) c.0.0 = subst (λ (n : ℕ). IsBlock n c.0.0) same tc.1 in
    rw (← ok_is _ x c.2) (Takes-then ta.0 (Takes-then len tc.0), record { body = ta.1; signature = block })

-- What was read of all the bytes is in form, and they are its spelling.
pub whole_takes : (bytes : List ℕ) (u : UpdateData) → AreBytes bytes → whole bytes ≡ Ok u → (bytes ≡ spell.spelling u) × IsUpdate u
unfolding whole
whole_takes bytes u fits e =
    let a = bind_ok (update_at bytes) _ u e in
    let ended = judged (eqb (length a.0.1) 0) _ _ _ u a.2 in
    let t = update_takes bytes a.0 fits a.1 in
    rw (← ok_is _ u ended.1) (t.0.parts ∙ nothing (spell.spelling a.0.0) a.0.1 (eqb-true (length a.0.1) 0 ended.0), t.1)
  where
    nothing : (front rest : List ℕ) → length rest ≡ 0 → front ++ rest ≡ front
    nothing front [] h = append-nil front
    nothing front (b ∷ rest) h = absurd (omega arith)
