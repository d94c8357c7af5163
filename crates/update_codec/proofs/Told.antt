-- Bytes that begin with a fault make reading fail there, whatever follows.
use Rattle.std.proofs.Common.{◌≡◌, ◌≢◌, ℕ, zero, suc, ◌+◌, ◌*◌, ◌^◌, ◌<◌, ◌≤◌, false, List, [], ◌∷◌, ◌++◌, length, refl, sym, ap, subst, ◌∙◌, arith, append_assoc, leb, eqb, ◌||◌}
use Rattle.std.proofs.lemmas.List.{length-append}
use Rattle.std.proofs.lemmas.Bool.{le-leb}
use Rattle.std.proofs.lemmas.Bool.Decides.{nat_tests}
use Rattle.std.specs.Prelude.{Option, Some, None}
use Rattle.std.specs.Int.{w16, w32, to_be_bytes}
use Rattle.std.specs.List.{flat_map, AllByRecursion}
use Rattle.update_model.specs.declared.update_id.UpdateId.{UpdateId}
use Rattle.update_model.specs.declared.author_key.AuthorKey.{AuthorKey}
use Rattle.update_model.specs.declared.op.Op.{Op}
use Rattle.update_model.specs.Block.{IsBlock, IsId}
use Rattle.update_model.specs.Form.{BodyData, UpdateData, IsKey, IsBody, AreRising, most_ops, signature_length}
use Rattle.update_codec.specs.declared.codec_fault.CodecKind.{CodecKind}
use Rattle.update_codec.specs.declared.codec_fault.CodecKind.TheVariants as kinds
use Rattle.update_codec.specs.declared.halt.Halt.{Halt}
use Rattle.update_codec.specs.Faults.{KeyFault, TextFault, ValueFault, OpFault, BodyFault, UpdateFault, tree_type, chain_type, value_tag, long_text, no_text, in_text, flag_tag, later_own, op_tag, value_count, in_value, other_version, in_key, pred_count, pred_order, op_count, in_op, in_note, in_body, other_length}
use Rattle.update_codec.specs.Reading.{Read, block_at, number_at, id_at, ids_at, is_next, author_at, text_at, op_at, ops_at, before_ops_at, note_at, body_at, update_at}
use Rattle.update_codec.specs.Spelling as spell
use Rattle.update_codec.proofs.Steps.{failed, halt_at, then_is, judge_is, judge_fails, fails_first}
use Rattle.update_codec.proofs.TakesLemmas.{rising}
use Rattle.update_codec.proofs.AgainFields.{block_again, u16_again, u32_again, id_again, author_again}
use Rattle.update_codec.proofs.Again.{after_header, without_ops, next_rises, before_ops_again, behind_preds, body_again}
use Rattle.update_codec.proofs.FaultSteps.{IsTold}
use Rattle.update_codec.proofs.Stops.{header_length, ids_place}
use Rattle.update_codec.proofs.ToldFields.{refuted, above, key_told, text_told, op_told, ops_told}
use Rattle.update_codec.proofs.Versions.{unread, version_known, version_refused, unread_most, unread_few, few_of}

-- an id that does not rise behind those that do
rises_not : (last : Option UpdateId) (id : UpdateId) → ¬ (AreRising last (id ∷ [])) → is_next last id ≡ false
rises_not None id bad = absurd (bad tt)
rises_not (Some last) id bad = refuted (is_next (Some last) id) (λ e. bad (e, tt))

ids_told : (n : ℕ) (last : Option UpdateId) (ids : List UpdateId) (id : UpdateId) (rest : List ℕ) → length ids < n → AllByRecursion IsId ids → AreRising last ids → IsId id → ¬ (AreRising last (ids ++ id ∷ []))
    → ids_at n last (flat_map spell.id ids ++ (spell.id id ++ rest)) ≡ failed (List UpdateId × List ℕ) (halt_at kinds.Order (spell.id id ++ rest))
unfolding ids_at
ids_told zero last ids id rest few are rise is bad = absurd (omega arith)
ids_told (suc n) last [] id rest few are rise is bad =
    then_is (id_at (id.0 ++ rest)) _ (id, rest) _ (id_again id rest is)
    (judge_fails (is_next last id) kinds.Order (id.0 ++ rest) _ (rises_not last id bad))
ids_told (suc n) last (first ∷ ids) id rest few are rise is bad =
    let next = next_rises last first ids rise in
    let others : List ℕ = flat_map spell.id ids ++ (spell.id id ++ rest) in
    rw (append_assoc first.0 (flat_map spell.id ids) (spell.id id ++ rest))
    (then_is (id_at (first.0 ++ others)) _ (first, others) _ (id_again first others are.0)
    (judge_is (is_next last first) kinds.Order (first.0 ++ others) _ _ next.0
    (fails_first (ids_at n (Some first) others) _ (halt_at kinds.Order (spell.id id ++ rest))
    (ids_told n (Some first) ids id rest (omega arith) are.1 next.1 is (λ r. bad (rising last first (ids ++ id ∷ []) next.0 r))))))

-- what reading does behind a header in form
header_read : (noted : Option (List ℕ)) (database : List ℕ) (key : AuthorKey) (bytes : List ℕ) → IsBlock 32 database → IsKey key
    → before_ops_at (spell.header noted database key ++ bytes) ≡ after_header (unread noted) database key bytes
unfolding before_ops_at
header_read noted database key bytes is known =
    let behind : List ℕ = to_be_bytes w32 key.lms ++ (to_be_bytes w32 key.ots ++ (key.ident ++ (key.root ++ bytes))) in
    let flat : (database ++ spell.author key) ++ bytes ≡ database ++ behind = append_assoc database (spell.author key) bytes ∙ ap (λ (b : List ℕ). database ++ b) (spread (to_be_bytes w32 key.lms) (to_be_bytes w32 key.ots) key.ident key.root bytes) in
    let version : ℕ = spell.version noted in
    rw flat
    (judge_is (eqb version 1 || eqb version 2) kinds.Version (version ∷ (database ++ behind)) _ _ (version_known noted)
    (then_is (block_at 32 (database ++ behind)) _ (database, behind) _ (block_again 32 database behind is.len)
    (then_is (author_at behind) _ (key, bytes) _ (author_again key bytes known) refl)))
  where
    spread : (a b c d e : List ℕ) → (a ++ (b ++ (c ++ d))) ++ e ≡ a ++ (b ++ (c ++ (d ++ e)))
    spread a b c d e = simp append_assoc

key_behind : (noted : Option (List ℕ)) (database bytes : List ℕ) (h : Halt) → IsBlock 32 database → author_at bytes ≡ failed (AuthorKey × List ℕ) h
    → before_ops_at (spell.version noted ∷ (database ++ bytes)) ≡ failed (BodyData × List ℕ) h
unfolding before_ops_at
key_behind noted database bytes h is e =
    let version : ℕ = spell.version noted in
    judge_is (eqb version 1 || eqb version 2) kinds.Version (version ∷ (database ++ bytes)) _ _ (version_known noted)
    (then_is (block_at 32 (database ++ bytes)) _ (database, bytes) _ (block_again 32 database bytes is.len)
    (fails_first (author_at bytes) _ h e))

version_told : (version : ℕ) (rest : List ℕ) → version ≢ 1 → version ≢ 2 → before_ops_at (version ∷ rest) ≡ failed (BodyData × List ℕ) (halt_at kinds.Version (version ∷ rest))
unfolding before_ops_at
version_told version rest not_1 not_2 = judge_fails (eqb version 1 || eqb version 2) kinds.Version (version ∷ rest) _ (version_refused version not_1 not_2)

count_told : (noted : Option (List ℕ)) (database : List ℕ) (key : AuthorKey) (n : ℕ) (rest : List ℕ) → n < 2 ^ 16 → 1024 < n
    → after_header noted database key (to_be_bytes w16 n ++ rest) ≡ failed (BodyData × List ℕ) (halt_at kinds.Count (to_be_bytes w16 n ++ rest))
count_told noted database key n rest fits many =
    then_is (number_at w16 (to_be_bytes w16 n ++ rest)) _ (n, rest) _ (u16_again n rest fits)
    (judge_fails (leb n 1024) kinds.Count (to_be_bytes w16 n ++ rest) _ (above n 1024 many))

order_told : (noted : Option (List ℕ)) (database : List ℕ) (key : AuthorKey) (n : ℕ) (bytes : List ℕ) (h : Halt) → n ≤ 1024 → ids_at n None bytes ≡ failed (List UpdateId × List ℕ) h
    → after_header noted database key (to_be_bytes w16 n ++ bytes) ≡ failed (BodyData × List ℕ) h
order_told noted database key n bytes h few e =
    then_is (number_at w16 (to_be_bytes w16 n ++ bytes)) _ (n, bytes) _ (u16_again n bytes (below n few))
    (judge_is (leb n 1024) kinds.Count (to_be_bytes w16 n ++ bytes) _ _ (le-leb _ _ few)
    (fails_first (ids_at n None bytes) _ h e))
  where
    below : (n : ℕ) → n ≤ 1024 → n < 2 ^ 16
    below n h = omega arith

-- a fault before the operations
before_ops_told : (bytes : List ℕ) (h : Halt) → before_ops_at bytes ≡ failed (BodyData × List ℕ) h → body_at bytes ≡ failed (BodyData × List ℕ) h
unfolding body_at
before_ops_told bytes h e = fails_first (before_ops_at bytes) _ h e

op_count_told : (before : BodyData) (n : ℕ) (rest : List ℕ) → IsBody before → n < 2 ^ 16 → most_ops before.note < n
    → body_at (spell.before_ops before ++ (to_be_bytes w16 n ++ rest)) ≡ failed (BodyData × List ℕ) (halt_at kinds.Count (to_be_bytes w16 n ++ rest))
unfolding body_at
op_count_told before n rest is fits many =
    then_is (before_ops_at (spell.before_ops before ++ (to_be_bytes w16 n ++ rest))) _ (without_ops before, to_be_bytes w16 n ++ rest) _ (before_ops_again before (to_be_bytes w16 n ++ rest) is)
    (then_is (number_at w16 (to_be_bytes w16 n ++ rest)) _ (n, rest) _ (u16_again n rest fits)
    (judge_fails (leb n (most_ops (unread before.note))) kinds.Count (to_be_bytes w16 n ++ rest) _ (above n (most_ops (unread before.note)) (subst (λ (m : ℕ). m < n) (sym (unread_most before.note)) many))))

op_behind : (before : BodyData) (n : ℕ) (bytes : List ℕ) (h : Halt) → IsBody before → n ≤ most_ops before.note → ops_at n 0 bytes ≡ failed (List Op × List ℕ) h
    → body_at (spell.before_ops before ++ (to_be_bytes w16 n ++ bytes)) ≡ failed (BodyData × List ℕ) h
unfolding body_at
op_behind before n bytes h is few e =
    then_is (before_ops_at (spell.before_ops before ++ (to_be_bytes w16 n ++ bytes))) _ (without_ops before, to_be_bytes w16 n ++ bytes) _ (before_ops_again before (to_be_bytes w16 n ++ bytes) is)
    (then_is (number_at w16 (to_be_bytes w16 n ++ bytes)) _ (n, bytes) _ (u16_again n bytes (below n (few_of before.note n few)))
    (judge_is (leb n (most_ops (unread before.note))) kinds.Count (to_be_bytes w16 n ++ bytes) _ _ (le-leb _ _ (unread_few before.note n few))
    (fails_first (ops_at n 0 bytes) _ h e)))
  where
    below : (n : ℕ) → n ≤ 256 → n < 2 ^ 16
    below n h = omega arith

note_fails : (noted : Option (List ℕ)) (bytes : List ℕ) (h : Halt) → noted ≡ Some [] → text_at 256 bytes ≡ failed (List ℕ × List ℕ) h → note_at (unread noted) bytes ≡ failed (Option (List ℕ) × List ℕ) h
unfolding note_at
note_fails None bytes h e fails = absurd cc
note_fails (Some first) bytes h e fails = fails_first (text_at 256 bytes) _ h fails

-- a fault of the note
note_behind : (before : BodyData) (bytes : List ℕ) (h : Halt) → IsBody before → before.note ≡ Some [] → text_at 256 bytes ≡ failed (List ℕ × List ℕ) h
    → body_at (spell.before_next_op before (length before.ops) ++ bytes) ≡ failed (BodyData × List ℕ) h
note_behind before bytes h is empty e = subst (λ (b : List ℕ). body_at b ≡ failed (BodyData × List ℕ) h) (sym (grouped (spell.before_ops before) (to_be_bytes w16 (length before.ops)) (flat_map spell.op before.ops) bytes))
    (behind_preds before bytes is ∙ fails_first (note_at (unread before.note) bytes) _ h (note_fails before.note bytes h empty e))
  where
    grouped : (a b c d : List ℕ) → (a ++ (b ++ c)) ++ d ≡ a ++ (b ++ (c ++ d))
    grouped a b c d = simp append_assoc

-- how bytes divide, and how long they are then
two : (a b rest : List ℕ) → (a ++ b) ++ rest ≡ a ++ (b ++ rest)
two a b rest = append_assoc a b rest

at_end : (front rest : List ℕ) (at : ℕ) → at ≡ length front → at + length rest ≡ length (front ++ rest)
at_end front rest at e = sum at (length front) (length rest) (length (front ++ rest)) e (length-append front rest)
  where
    sum : (a f r t : ℕ) → a ≡ f → t ≡ f + r → a + r ≡ t
    sum a f r t e g = omega arith

-- reading that fails at a field behind others that are in form
field_told : (read : List ℕ → Read BodyData) (before field rest : List ℕ) (kind : CodecKind) (at : ℕ) → at ≡ length before → read (before ++ (field ++ rest)) ≡ failed (BodyData × List ℕ) (halt_at kind (field ++ rest))
    → IsTold (read ((before ++ field) ++ rest)) (length ((before ++ field) ++ rest)) kind at
field_told read before field rest kind at size e = record {
  left = length (field ++ rest);
  is = subst (λ (b : List ℕ). read b ≡ failed (BodyData × List ℕ) (halt_at kind (field ++ rest))) (sym (two before field rest)) e;
  place = at_end before (field ++ rest) at size ∙ ap length (sym (two before field rest));
}

-- reading that fails in a part behind others that are in form
part_told : (read : List ℕ → Read BodyData) (before front rest : List ℕ) (kind : CodecKind) (shift at left : ℕ) → shift ≡ length before → at + left ≡ length (front ++ rest)
    → read (before ++ (front ++ rest)) ≡ failed (BodyData × List ℕ) (record { kind = kind; left = left }) → IsTold (read ((before ++ front) ++ rest)) (length ((before ++ front) ++ rest)) kind (shift + at)
part_told read before front rest kind shift at left size place e = record {
  left = left;
  is = subst (λ (b : List ℕ). read b ≡ failed (BodyData × List ℕ) (record { kind = kind; left = left })) (sym (two before front rest)) e;
  place = sums shift at left (length before) (length (front ++ rest)) (length ((before ++ front) ++ rest)) size place (ap length (two before front rest) ∙ length-append before (front ++ rest));
}
  where
    sums : (s a l p m b : ℕ) → s ≡ p → a + l ≡ m → b ≡ p + m → (s + a) + l ≡ b
    sums s a l p m b x y z = omega arith

pub body_told : (front : List ℕ) (kind : CodecKind) (at : ℕ) → BodyFault front kind at → (rest : List ℕ) → IsTold (body_at (front ++ rest)) (length (front ++ rest)) kind at
body_told front kind at (other_version version not_1 not_2) rest = record { left = length (version ∷ rest); is = before_ops_told (version ∷ rest) _ (version_told version rest not_1 not_2); place = omega arith }
body_told front k at (in_key noted database inner kind at_inner is f) rest =
    let t = key_told inner kind at_inner f rest in
    part_told body_at (spell.version noted ∷ database) inner rest kind 33 at_inner t.left (sized (length database) is.len) t.place
    (before_ops_told (spell.version noted ∷ (database ++ (inner ++ rest))) (record { kind = kind; left = t.left }) (key_behind noted database (inner ++ rest) (record { kind = kind; left = t.left }) is t.is))
  where
    sized : (n : ℕ) → n ≡ 32 → 33 ≡ suc n
    sized n e = omega arith
body_told front kind at (pred_count noted database key n is known fits many) rest =
    field_told body_at (spell.header noted database key) (to_be_bytes w16 n) rest kinds.Count 89 (sym (header_length noted database key is known))
    (before_ops_told (spell.header noted database key ++ (to_be_bytes w16 n ++ rest)) _ (header_read noted database key (to_be_bytes w16 n ++ rest) is known ∙ count_told (unread noted) database key n rest fits many))
body_told front kind at (pred_order noted database key n ids id is known few more are rise is_id bad) rest =
    let told = order_told (unread noted) database key n (flat_map spell.id ids ++ (spell.id id ++ rest)) (halt_at kinds.Order (spell.id id ++ rest)) few (ids_told n None ids id rest more are rise is_id bad) in
    let fails = before_ops_told (spell.header noted database key ++ (to_be_bytes w16 n ++ (flat_map spell.id ids ++ (spell.id id ++ rest)))) _ (header_read noted database key _ is known ∙ told) in
    let before : List ℕ = spell.header noted database key ++ (to_be_bytes w16 n ++ flat_map spell.id ids) in
    let t = field_told body_at before (spell.id id) rest kinds.Order (91 + 32 * length ids) (sym (ids_place noted database key n ids is known are))
    (subst (λ (b : List ℕ). body_at b ≡ failed (BodyData × List ℕ) (halt_at kinds.Order (spell.id id ++ rest))) (sym (grouped (spell.header noted database key) (to_be_bytes w16 n) (flat_map spell.id ids) (spell.id id ++ rest))) fails) in
    subst (λ (b : List ℕ). IsTold (body_at (b ++ rest)) (length (b ++ rest)) kinds.Order (91 + 32 * length ids)) (grouped (spell.header noted database key) (to_be_bytes w16 n) (flat_map spell.id ids) (spell.id id)) t
  where
    grouped : (a b c d : List ℕ) → (a ++ (b ++ c)) ++ d ≡ a ++ (b ++ (c ++ d))
    grouped a b c d = simp append_assoc
body_told front kind at (op_count before n is none fits many) rest =
    field_told body_at (spell.before_ops before) (to_be_bytes w16 n) rest kinds.Count (91 + 32 * length before.preds) (sym (ids_place before.note before.database before.author (length before.preds) before.preds is.database is.author is.ids))
    (op_count_told before n rest is fits many)
body_told front k at (in_op before n inner kind at_inner is few more f) rest =
    let most = most_of (length before.ops) n more (few_of before.note n few) in
    let t = op_told (length before.ops) most inner kind at_inner f rest in
    let told = ops_told n 0 before.ops (inner ++ rest) (record { kind = kind; left = t.left }) (none_before (length before.ops) most) more is.ops (subst (λ (k : ℕ). op_at k (inner ++ rest) ≡ failed (Op × List ℕ) (record { kind = kind; left = t.left })) (none_more (length before.ops)) t.is) in
    part_told body_at (spell.before_next_op before n) inner rest kind (length (spell.before_next_op before n)) at_inner t.left refl t.place
    (subst (λ (b : List ℕ). body_at b ≡ failed (BodyData × List ℕ) (record { kind = kind; left = t.left })) (sym (grouped (spell.before_ops before) (to_be_bytes w16 n) (flat_map spell.op before.ops) (inner ++ rest)))
    (op_behind before n (flat_map spell.op before.ops ++ (inner ++ rest)) (record { kind = kind; left = t.left }) is few told))
  where
    none_more : (n : ℕ) → n ≡ 0 + n
    none_more n = omega arith

    none_before : (n : ℕ) → n ≤ 256 → 0 + n ≤ 256
    none_before n h = omega arith

    most_of : (k n : ℕ) → k < n → n ≤ 256 → k ≤ 256
    most_of k n h g = omega arith

    grouped : (a b c d : List ℕ) → (a ++ (b ++ c)) ++ d ≡ a ++ (b ++ (c ++ d))
    grouped a b c d = simp append_assoc
body_told front k at (in_note before inner kind at_inner is empty f) rest =
    let t = text_told 256 (omega arith) inner kind at_inner f rest in
    part_told body_at (spell.before_next_op before (length before.ops)) inner rest kind (length (spell.before_next_op before (length before.ops))) at_inner t.left refl t.place
    (note_behind before (inner ++ rest) (record { kind = kind; left = t.left }) is empty t.is)

length_told : (body : BodyData) (n : ℕ) (rest : List ℕ) → IsBody body → n < 2 ^ 32 → n ≢ signature_length body.author
    → update_at (spell.message body ++ (to_be_bytes w32 n ++ rest)) ≡ failed (UpdateData × List ℕ) (halt_at kinds.SignatureLength (to_be_bytes w32 n ++ rest))
unfolding update_at
length_told body n rest is fits bad =
    then_is (body_at (spell.message body ++ (to_be_bytes w32 n ++ rest))) _ (body, to_be_bytes w32 n ++ rest) _ (body_again body (to_be_bytes w32 n ++ rest) is)
    (then_is (number_at w32 (to_be_bytes w32 n ++ rest)) _ (n, rest) _ (u32_again n rest fits)
    (judge_fails (eqb n (signature_length body.author)) kinds.SignatureLength (to_be_bytes w32 n ++ rest) _ (differ n (signature_length body.author) bad)))
  where
    differ : (n m : ℕ) → n ≢ m → eqb n m ≡ false
    differ n m h = grind (arith, nat_tests)

body_fails : (bytes : List ℕ) (h : Halt) → body_at bytes ≡ failed (BodyData × List ℕ) h → update_at bytes ≡ failed (UpdateData × List ℕ) h
unfolding update_at
body_fails bytes h e = fails_first (body_at bytes) _ h e

pub update_told : (front : List ℕ) (kind : CodecKind) (at : ℕ) → UpdateFault front kind at → (rest : List ℕ) → IsTold (update_at (front ++ rest)) (length (front ++ rest)) kind at
update_told front k at (in_body inner kind at_inner f) rest =
    let t = body_told inner kind at_inner f rest in
    record { left = t.left; is = body_fails (inner ++ rest) (record { kind = kind; left = t.left }) t.is; place = t.place }
update_told front kind at (other_length body n is fits bad) rest = record {
  left = length (to_be_bytes w32 n ++ rest);
  is = subst (λ (b : List ℕ). update_at b ≡ failed (UpdateData × List ℕ) (halt_at kinds.SignatureLength (to_be_bytes w32 n ++ rest))) (sym (two (spell.message body) (to_be_bytes w32 n) rest)) (length_told body n rest is fits bad);
  place = at_end (spell.message body) (to_be_bytes w32 n ++ rest) (length (spell.message body)) refl ∙ ap length (sym (two (spell.message body) (to_be_bytes w32 n) rest));
}

-- No field that has a fault is cut.
key_whole : (front : List ℕ) (kind : CodecKind) (at : ℕ) → KeyFault front kind at → kind ≢ kinds.Short
key_whole front kind at (tree_type lms fits bad) = λ e. absurd cc
key_whole front kind at (chain_type lms ots good fits bad) = λ e. absurd cc

text_whole : (most : ℕ) (front : List ℕ) (kind : CodecKind) (at : ℕ) → TextFault most front kind at → kind ≢ kinds.Short
text_whole most front kind at (long_text n fits long) = λ e. absurd cc
text_whole most front kind at (no_text bytes few bad) = λ e. absurd cc

value_whole : (number : ℕ) (front : List ℕ) (kind : CodecKind) (at : ℕ) → ValueFault number front kind at → kind ≢ kinds.Short
value_whole number front kind at (value_tag tag big) = λ e. absurd cc
value_whole number front k at (in_text inner kind at_inner f) = text_whole 1024 inner kind at_inner f
value_whole number front kind at (flag_tag flag big) = λ e. absurd cc
value_whole number front kind at (later_own index fits late) = λ e. absurd cc

op_whole : (number : ℕ) (front : List ℕ) (kind : CodecKind) (at : ℕ) → OpFault number front kind at → kind ≢ kinds.Short
op_whole number front kind at (op_tag tag not_1 not_2) = λ e. absurd cc
op_whole number front kind at (value_count table n bad) = λ e. absurd cc
op_whole number front k at (in_value table n values inner kind at_inner count few are f) = value_whole number inner kind at_inner f

body_whole : (front : List ℕ) (kind : CodecKind) (at : ℕ) → BodyFault front kind at → kind ≢ kinds.Short
body_whole front kind at (other_version version not_1 not_2) = λ e. absurd cc
body_whole front k at (in_key noted database inner kind at_inner is f) = key_whole inner kind at_inner f
body_whole front kind at (pred_count noted database key n is known fits many) = λ e. absurd cc
body_whole front kind at (pred_order noted database key n ids id is known few more are rise is_id bad) = λ e. absurd cc
body_whole front kind at (op_count before n is none fits many) = λ e. absurd cc
body_whole front k at (in_op before n inner kind at_inner is few more f) = op_whole (length before.ops) inner kind at_inner f
body_whole front k at (in_note before inner kind at_inner is empty f) = text_whole 256 inner kind at_inner f

pub update_whole : (front : List ℕ) (kind : CodecKind) (at : ℕ) → UpdateFault front kind at → kind ≢ kinds.Short
update_whole front k at (in_body inner kind at_inner f) = body_whole inner kind at_inner f
update_whole front kind at (other_length body n is fits bad) = λ e. absurd cc
