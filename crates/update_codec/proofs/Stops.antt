-- Where reading an update fails, the bytes end in it or have a fault there.
use Rattle.std.proofs.Common.{◌≡◌, ◌⊎◌, ◌≢◌, ℕ, zero, suc, ◌+◌, ◌*◌, ◌<◌, ◌≤◌, true, false, List, [], ◌∷◌, ◌++◌, length, refl, sym, ap, subst, ◌∙◌, arith, append_assoc, leb, eqb, ◌||◌, inl, inr}
use Rattle.std.proofs.lemmas.List.{length-append}
use Rattle.std.proofs.lemmas.Bool.{leb-true, leb-false}
use Rattle.std.proofs.lemmas.Bool.Decides.{nat_tests}
use Rattle.std.specs.Prelude.{Err, Option, Some, None}
use Rattle.std.specs.Int.{w16, w32, to_be_bytes}
use Rattle.std.specs.List.{flat_map, AllByRecursion}
use Rattle.update_model.specs.declared.update_id.UpdateId.{UpdateId}
use Rattle.update_model.specs.declared.author_key.AuthorKey.{AuthorKey}
use Rattle.update_model.specs.declared.op.Op.{Op}
use Rattle.update_model.specs.Block.{AreBytes, IsBlock, IsId}
use Rattle.update_model.specs.Form.{BodyData, IsKey, IsBody, AreRising, most_ops, signature_length}
use Rattle.update_model.specs.Rows.{AreOps}
use Rattle.update_codec.specs.declared.codec_fault.CodecKind.TheVariants as kinds
use Rattle.update_codec.specs.declared.halt.Halt.{Halt}
use Rattle.update_codec.specs.Faults.{KeyFault, TextFault, OpFault, BodyFault, UpdateFault, other_version, in_key, pred_count, pred_order, op_count, in_op, in_note, in_body, other_length}
use Rattle.update_codec.specs.Reading.{◌>>=◌, byte_at, block_at, number_at, id_at, ids_at, is_next, author_at, text_at, op_at, ops_at, first_note, before_ops_at, note_at, body_at, update_at}
use Rattle.update_codec.specs.Spelling as spell
use Rattle.update_codec.proofs.Steps.{short_halt, halt_at, bind_err, judge_err, number_err, block_err, byte_err}
use Rattle.update_codec.proofs.TakesFields.{Takes, Takes-then, Takes-none, byte_takes, block_takes, u16_takes, u32_takes, id_takes, author_takes}
use Rattle.update_codec.proofs.TakesRows.{ops_takes}
use Rattle.update_codec.proofs.TakesLemmas.{rising, before_ops_takes, body_takes, with_rest, with_rest_is}
use Rattle.update_codec.proofs.Again.{next_rises, after_header}
use Rattle.update_codec.proofs.FaultSteps.{Ends, tell_at, nested, widened}
use Rattle.update_codec.proofs.StopsFields.{id_err, key_stops, text_stops, op_stops, ops_err}
use Rattle.update_codec.proofs.Versions.{unread, version_is, version_unknown}

-- how long the spelled ids are
pub ids_length : (ids : List UpdateId) → AllByRecursion IsId ids → length (flat_map spell.id ids) ≡ 32 * length ids
ids_length [] are = refl
ids_length (id ∷ ids) are = sum (length id.0) (length (flat_map spell.id ids)) (length ids) (length (id.0 ++ flat_map spell.id ids)) are.0.len (ids_length ids are.1) (length-append id.0 (flat_map spell.id ids))
  where
    sum : (a b n c : ℕ) → a ≡ 32 → b ≡ 32 * n → c ≡ a + b → c ≡ 32 * suc n
    sum a b n c e f g = omega arith

pub header_length : (noted : Option (List ℕ)) (database : List ℕ) (key : AuthorKey) → IsBlock 32 database → IsKey key → length (spell.header noted database key) ≡ 89
header_length noted database key is known =
    sum (length database) (length key.ident) (length key.root) (length (key.ident ++ key.root)) (length (database ++ spell.author key)) is.len known.ident.len known.root.len (length-append key.ident key.root) (length-append database (spell.author key))
  where
    sum : (d i r t a : ℕ) → d ≡ 32 → i ≡ 16 → r ≡ 32 → t ≡ i + r → a ≡ d + suc (suc (suc (suc (suc (suc (suc (suc t))))))) → suc a ≡ 89
    sum d i r t a e f g h k = omega arith

-- a header, and a number of ids with some of them
pub ids_place : (noted : Option (List ℕ)) (database : List ℕ) (key : AuthorKey) (n : ℕ) (ids : List UpdateId) → IsBlock 32 database → IsKey key → AllByRecursion IsId ids
    → length (spell.header noted database key ++ (to_be_bytes w16 n ++ flat_map spell.id ids)) ≡ 91 + 32 * length ids
ids_place noted database key n ids is known are =
    sum (length (spell.header noted database key)) (length (flat_map spell.id ids)) (length ids) _ (header_length noted database key is known) (ids_length ids are) (length-append (spell.header noted database key) (to_be_bytes w16 n ++ flat_map spell.id ids))
  where
    sum : (h b n c : ℕ) → h ≡ 89 → b ≡ 32 * n → c ≡ h + suc (suc b) → c ≡ 91 + 32 * n
    sum h b n c e f g = omega arith

not_next : (last : Option UpdateId) (id : UpdateId) → is_next last id ≡ false → ¬ (AreRising last (id ∷ []))
not_next last id h = λ r. let up = next_rises last id [] r in absurd (let g = sym up.0 ∙ h in cc)

-- where reading ids stopped, and why: an id that is cut, or one that is not above the one before it
record IdsStop (n : ℕ) (last : Option UpdateId) (bytes : List ℕ) (h : Halt) : Type 0 where
  ids : List UpdateId
  rest : List ℕ
  few : length ids < n
  are : AllByRecursion IsId ids
  rise : AreRising last ids
  took : Takes bytes (flat_map spell.id ids) rest
  why : (h ≡ short_halt) ⊎ ((id : UpdateId) × (after : List ℕ) × IsId id × Takes rest (spell.id id) after × ¬ (AreRising last (ids ++ id ∷ [])) × (h ≡ halt_at kinds.Order rest))

none_rise : (last : Option UpdateId) → AreRising last []
none_rise None = tt
none_rise (Some last) = tt

ids_stop : (n : ℕ) (last : Option UpdateId) (bytes : List ℕ) (h : Halt) → AreBytes bytes → ids_at n last bytes ≡ Err h → IdsStop n last bytes h
unfolding ids_at
ids_stop zero last bytes h fits e = absurd cc
ids_stop (suc n) last bytes h fits e = elim (bind_err (id_at bytes) _ h e) [
  | inl f ↦ record { ids = []; rest = bytes; few = omega arith; are = tt; rise = none_rise last; took = Takes-none bytes fits; why = inl (id_err bytes h f) }
  | inr a ↦ let ta = id_takes bytes a.0 fits a.1 in
      elim (judge_err (is_next last a.0.0) kinds.Order bytes _ h a.2) [
        | inl j ↦ record { ids = []; rest = bytes; few = omega arith; are = tt; rise = none_rise last; took = Takes-none bytes fits; why = inr (a.0.0, a.0.1, ta.1, ta.0, not_next last a.0.0 j.0, j.1) }
        | inr j ↦ elim (bind_err (ids_at n (Some a.0.0) a.0.1) _ h j.1) [
          | inl g ↦ behind a.0.0 a.0.1 ta.0 ta.1 j.0 (ids_stop n (Some a.0.0) a.0.1 h ta.0.rest_fits g)
          | inr x ↦ absurd (let g = x.2 in cc)
        ]
      ]
]
  where
    one_more : (a b : ℕ) → a < b → suc a < suc b
    one_more a b h = omega arith

    behind : (id : UpdateId) (mid : List ℕ) → Takes bytes (spell.id id) mid → IsId id → is_next last id ≡ true → IdsStop n (Some id) mid h → IdsStop (suc n) last bytes h
    behind id mid took is next s = record {
      ids = id ∷ s.ids;
      rest = s.rest;
      few = one_more (length s.ids) n s.few;
      are = (is, s.are);
      rise = rising last id s.ids next s.rise;
      took = Takes-then took s.took;
      why = elim s.why [
        | inl e ↦ inl e
        | inr w ↦ inr (w.0, w.1, w.2, w.3, λ r. w.4 (next_rises last id (s.ids ++ w.0 ∷ []) r).1, w.5)
      ];
    }

before_ops_stops : (bytes : List ℕ) (h : Halt) → AreBytes bytes → before_ops_at bytes ≡ Err h → Ends BodyFault bytes h
unfolding before_ops_at
before_ops_stops bytes h fits e = elim (bind_err (byte_at bytes) _ h e) [
  | inl f ↦ inl (byte_err bytes h f)
  | inr a ↦ let ta = byte_takes bytes a.0 fits a.1 in
      elim (judge_err (eqb a.0.0 1 || eqb a.0.0 2) kinds.Version bytes _ h a.2) [
        | inl j ↦ let other = version_unknown a.0.0 j.0 in
            tell_at BodyFault bytes [] bytes (a.0.0 ∷ []) a.0.1 kinds.Version 0 h j.1 (Takes-none bytes fits) ta.0 refl (other_version a.0.0 other.0 other.1)
        | inr j ↦ elim (bind_err (block_at 32 a.0.1) _ h j.1) [
          | inl f ↦ inl (block_err 32 a.0.1 h f)
          | inr b ↦ let tb = block_takes 32 a.0.1 b.0 ta.0.rest_fits b.1 in
              let version : Takes bytes (spell.version (first_note a.0.0) ∷ []) a.0.1 = subst (λ (v : ℕ). Takes bytes (v ∷ []) a.0.1) (sym (version_is a.0.0 j.0)) ta.0 in
              behind_database (first_note a.0.0) b.0.0 b.0.1 (Takes-then version tb.0) tb.1 b.2
        ]
      ]
]
  where
    sized : (n : ℕ) → n ≡ 32 → 33 ≡ suc n
    sized n e = omega arith

    behind_count : (noted : Option (List ℕ)) (database : List ℕ) (key : AuthorKey) (n : ℕ) (here mid : List ℕ) → Takes bytes (spell.header noted database key) here → IsBlock 32 database → IsKey key
        → Takes here (to_be_bytes w16 n) mid → n ≤ 1024 → IdsStop n None mid h → Ends BodyFault bytes h
    behind_count noted database key n here mid header is known count few s = elim s.why [
      | inl e ↦ inl e
      | inr w ↦
          let before : Takes bytes (spell.header noted database key ++ (to_be_bytes w16 n ++ flat_map spell.id s.ids)) s.rest = Takes-then header (Takes-then count s.took) in
          tell_at BodyFault bytes (spell.header noted database key ++ (to_be_bytes w16 n ++ flat_map spell.id s.ids)) s.rest (spell.id w.0) w.1 kinds.Order (91 + 32 * length s.ids) h w.5 before w.3 (sym (ids_place noted database key n s.ids is known s.are))
          (subst (λ (b : List ℕ). BodyFault b kinds.Order (91 + 32 * length s.ids)) (sym (grouped (spell.header noted database key) (to_be_bytes w16 n) (flat_map spell.id s.ids) (spell.id w.0)))
          (pred_order noted database key n s.ids w.0 is known few s.few s.are s.rise w.2 w.4))
    ]
      where
        grouped : (a b c d : List ℕ) → (a ++ (b ++ c)) ++ d ≡ a ++ (b ++ (c ++ d))
        grouped a b c d = simp append_assoc

    behind_header : (noted : Option (List ℕ)) (database : List ℕ) (key : AuthorKey) (here : List ℕ) → Takes bytes (spell.header noted database key) here → IsBlock 32 database → IsKey key
        → after_header noted database key here ≡ Err h → Ends BodyFault bytes h
    behind_header noted database key here header is known e = elim (bind_err (number_at w16 here) _ h e) [
      | inl f ↦ inl (number_err w16 here h f)
      | inr a ↦ let ta = u16_takes here a.0 header.rest_fits a.1 in
          elim (judge_err (leb a.0.0 1024) kinds.Count here _ h a.2) [
            | inl j ↦ tell_at BodyFault bytes (spell.header noted database key) here (to_be_bytes w16 a.0.0) a.0.1 kinds.Count 89 h j.1 header ta.0 (sym (header_length noted database key is known))
                (pred_count noted database key a.0.0 is known ta.1 (leb-false a.0.0 1024 j.0))
            | inr j ↦ elim (bind_err (ids_at a.0.0 None a.0.1) _ h j.1) [
              | inl f ↦ behind_count noted database key a.0.0 here a.0.1 header is known ta.0 (leb-true a.0.0 1024 j.0) (ids_stop a.0.0 None a.0.1 h ta.0.rest_fits f)
              | inr x ↦ absurd (let g = x.2 in cc)
            ]
          ]
    ]

    behind_database : (noted : Option (List ℕ)) (database mid : List ℕ) → Takes bytes (spell.version noted ∷ database) mid → IsBlock 32 database
        → (author_at mid >>= λ author. after_header noted database author.0 author.1) ≡ Err h → Ends BodyFault bytes h
    behind_database noted database mid took is e = elim (bind_err (author_at mid) _ h e) [
      | inl f ↦ nested KeyFault BodyFault bytes (spell.version noted ∷ database) mid 33 h took.parts (sized (length database) is.len) (λ front kind at f. in_key noted database front kind at is f) (key_stops mid h took.rest_fits f)
      | inr c ↦ let tc = author_takes mid c.0 took.rest_fits c.1 in
          behind_header noted database c.0.0 c.0.1 (Takes-then took tc.0) is tc.1 c.2
    ]

-- A note can fail only in version 2.
note_stops : (noted : Option (List ℕ)) (bytes : List ℕ) (h : Halt) → AreBytes bytes → noted ≡ unread noted → note_at noted bytes ≡ Err h → (noted ≡ Some []) × Ends (TextFault 256) bytes h
unfolding note_at
note_stops None bytes h fits e failed = absurd cc
note_stops (Some first) bytes h fits e failed = elim (bind_err (text_at 256 bytes) _ h failed) [
  | inl f ↦ (e, text_stops 256 bytes h fits f)
  | inr a ↦ absurd (let g = a.2 in cc)
]

pub body_stops : (bytes : List ℕ) (h : Halt) → AreBytes bytes → body_at bytes ≡ Err h → Ends BodyFault bytes h
unfolding body_at
body_stops bytes h fits e = elim (bind_err (before_ops_at bytes) _ h e) [
  | inl f ↦ before_ops_stops bytes h fits f
  | inr a ↦ let ta = before_ops_takes bytes a.0 fits a.1 in
      elim (bind_err (number_at w16 a.0.1) _ h a.2) [
        | inl f ↦ inl (number_err w16 a.0.1 h f)
        | inr b ↦ let tb = u16_takes a.0.1 b.0 ta.0.rest_fits b.1 in
            elim (judge_err (leb b.0.0 (most_ops a.0.0.note)) kinds.Count a.0.1 _ h b.2) [
              | inl j ↦ tell_at BodyFault bytes (spell.before_ops a.0.0) a.0.1 (to_be_bytes w16 b.0.0) b.0.1 kinds.Count (91 + 32 * length a.0.0.preds) h j.1 ta.0 tb.0
                  (sym (ids_place a.0.0.note a.0.0.database a.0.0.author (length a.0.0.preds) a.0.0.preds ta.1.database ta.1.author ta.1.ids))
                  (op_count a.0.0 b.0.0 ta.1 ta.2 tb.1 (leb-false b.0.0 (most_ops a.0.0.note) j.0))
              | inr j ↦ elim (bind_err (ops_at b.0.0 0 b.0.1) _ h j.1) [
                | inl f ↦ in_ops a.0.0 b.0.0 b.0.1 ta.1 (Takes-then ta.0 tb.0) (leb-true b.0.0 (most_ops a.0.0.note) j.0) (ops_err b.0.0 0 b.0.1 h tb.0.rest_fits f)
                | inr c ↦ let tc = ops_takes b.0.0 0 b.0.1 c.0 tb.0.rest_fits c.1 in
                    let count : Takes a.0.1 (to_be_bytes w16 (length c.0.0)) b.0.1 = subst (λ (n : ℕ). Takes a.0.1 (to_be_bytes w16 n) b.0.1) (sym tc.1) tb.0 in
                    elim (bind_err (note_at a.0.0.note c.0.1) _ h c.2) [
                      | inl f ↦ behind_ops a.0.0 c.0.0 c.0.1 ta.1 ta.3 (Takes-then ta.0 (Takes-then count tc.0)) (few_ops b.0.0 (length c.0.0) (most_ops a.0.0.note) tc.1 (leb-true b.0.0 (most_ops a.0.0.note) j.0)) tc.2 f
                      | inr x ↦ absurd (let g = x.2 in cc)
                    ]
              ]
            ]
      ]
]
  where
    none_more : (n : ℕ) → 0 + n ≡ n
    none_more n = omega arith

    most : (k n m : ℕ) → k < n → n ≤ m → k ≤ m
    most k n m h g = omega arith

    few_ops : (p n m : ℕ) → n ≡ p → p ≤ m → n ≤ m
    few_ops p n m e h = omega arith

    in_ops : (body : BodyData) (n : ℕ) (mid : List ℕ) → IsBody body → Takes bytes (spell.before_ops body ++ to_be_bytes w16 n) mid → n ≤ most_ops body.note
        → (ops : List Op) × (rest : List ℕ) × (length ops < n) × AreOps 0 ops × Takes mid (flat_map spell.op ops) rest × (op_at (0 + length ops) rest ≡ Err h)
        → Ends BodyFault bytes h
    in_ops body n mid is took few (ops, rest, more, are, took_ops, failed) =
        let before : Takes bytes ((spell.before_ops body ++ to_be_bytes w16 n) ++ flat_map spell.op ops) rest = Takes-then took took_ops in
        let so_far : BodyData = with_rest body ops body.note in
        nested (OpFault (length ops)) BodyFault bytes (spell.before_next_op so_far n) rest (length (spell.before_next_op so_far n)) h
        (before.parts ∙ ap (λ (b : List ℕ). b ++ rest) (append_assoc (spell.before_ops body) (to_be_bytes w16 n) (flat_map spell.op ops))) refl
        (λ front kind at f. in_op so_far n front kind at (with_rest_is body ops body.note is (most (length ops) n (most_ops body.note) more few) are is.note) few more f)
        (op_stops (length ops) rest h before.rest_fits (subst (λ (k : ℕ). op_at k rest ≡ Err h) (none_more (length ops)) failed))

    behind_ops : (body : BodyData) (ops : List Op) (rest : List ℕ) → IsBody body → body.note ≡ unread body.note → Takes bytes (spell.before_next_op (with_rest body ops body.note) (length ops)) rest
        → length ops ≤ most_ops body.note → AreOps 0 ops → note_at body.note rest ≡ Err h → Ends BodyFault bytes h
    behind_ops body ops rest is first before few are failed =
        let so_far : BodyData = with_rest body ops body.note in
        let stops = note_stops body.note rest h before.rest_fits first failed in
        nested (TextFault 256) BodyFault bytes (spell.before_next_op so_far (length ops)) rest (length (spell.before_next_op so_far (length ops))) h before.parts refl
        (λ front kind at f. in_note so_far front kind at (with_rest_is body ops body.note is few are is.note) stops.0 f) stops.1

pub update_stops : (bytes : List ℕ) (h : Halt) → AreBytes bytes → update_at bytes ≡ Err h → Ends UpdateFault bytes h
unfolding update_at
update_stops bytes h fits e = elim (bind_err (body_at bytes) _ h e) [
  | inl f ↦ widened BodyFault UpdateFault bytes h in_body (body_stops bytes h fits f)
  | inr a ↦ let ta = body_takes bytes a.0 fits a.1 in
      elim (bind_err (number_at w32 a.0.1) _ h a.2) [
        | inl f ↦ inl (number_err w32 a.0.1 h f)
        | inr b ↦ let tb = u32_takes a.0.1 b.0 ta.0.rest_fits b.1 in
            elim (judge_err (eqb b.0.0 (signature_length a.0.0.author)) kinds.SignatureLength a.0.1 _ h b.2) [
              | inl j ↦ tell_at UpdateFault bytes (spell.message a.0.0) a.0.1 (to_be_bytes w32 b.0.0) b.0.1 kinds.SignatureLength (length (spell.message a.0.0)) h j.1 ta.0 tb.0 refl
                  (other_length a.0.0 b.0.0 ta.1 tb.1 (differ b.0.0 (signature_length a.0.0.author) j.0))
              | inr j ↦ elim (bind_err (block_at b.0.0 b.0.1) _ h j.1) [
                | inl f ↦ inl (block_err b.0.0 b.0.1 h f)
                | inr x ↦ absurd (let g = x.2 in cc)
              ]
            ]
      ]
]
  where
    differ : (n m : ℕ) → eqb n m ≡ false → n ≢ m
    differ n m h = grind (arith, nat_tests)
