-- What begins with the byte 1 is spelled as it was before there was another version.
use Rattle.std.proofs.Common.{◌≡◌, ℕ, ◌≤◌, List, [], ◌∷◌, ◌++◌, length, refl, sym, ap, subst, ◌∙◌, arith, append_assoc}
use Rattle.std.proofs.lemmas.List.{append-nil}
use Rattle.std.specs.Prelude.{Option, Some, None, slice_index}
use Rattle.std.specs.Int.{w16, w32, to_be_bytes}
use Rattle.std.specs.List.{flat_map}
use Rattle.update_model.specs.Form.{BodyData, UpdateData, IsNote, most_ops}
use Rattle.update_codec.specs.FirstVersion.{SpellsFirst, first_message}
use Rattle.update_codec.specs.Spelling as spell
use Rattle.update_codec.specs.Spelling.{Spells}

none_of : (noted : Option (List ℕ)) → spell.version noted ≡ 1 → noted ≡ None
none_of None e = refl
none_of (Some text) e = absurd (omega (arith, e))

-- the message of a body without a note
message_first : (body : BodyData) → body.note ≡ None → spell.message body ≡ first_message body
message_first body e =
    flat body.note body.database (spell.author body.author) (to_be_bytes w16 (length body.preds)) (flat_map spell.id body.preds) (to_be_bytes w16 (length body.ops)) (flat_map spell.op body.ops) e
  where
    plain : (d a p i n o : List ℕ) → (((1 ∷ (d ++ a)) ++ (p ++ i)) ++ (n ++ o)) ++ [] ≡ 1 ∷ (d ++ (a ++ (p ++ (i ++ (n ++ o)))))
    plain d a p i n o = simp (append_assoc, append-nil)

    flat : (noted : Option (List ℕ)) (d a p i n o : List ℕ) → noted ≡ None
        → (((spell.version noted ∷ (d ++ a)) ++ (p ++ i)) ++ (n ++ o)) ++ spell.note noted ≡ 1 ∷ (d ++ (a ++ (p ++ (i ++ (n ++ o)))))
    flat None d a p i n o e = plain d a p i n o
    flat (Some text) d a p i n o e = absurd cc

spelling_first : (update : UpdateData) → update.body.note ≡ None
    → spell.spelling update ≡ first_message update.body ++ (to_be_bytes w32 (length update.signature) ++ update.signature)
spelling_first update e = ap (λ (m : List ℕ). m ++ (to_be_bytes w32 (length update.signature) ++ update.signature)) (message_first update.body e)

pub first_of_spelled : (bytes : List ℕ) (update : UpdateData) → Spells bytes update × (slice_index bytes 0 ≡ 1) → SpellsFirst bytes update
first_of_spelled bytes update (s, one) =
    let none : update.body.note ≡ None = none_of update.body.note (sym (ap (λ (b : List ℕ). slice_index b 0) s.spells) ∙ one) in
    let is = s.form.body in
    let few : length update.body.ops ≤ 64 = subst (λ (noted : Option (List ℕ)). length update.body.ops ≤ most_ops noted) none is.few_ops in
    record {
      body = record { database = is.database; author = is.author; few_preds = is.few_preds; ids = is.ids; rising = is.rising; few_ops = few; ops = is.ops; no_note = none };
      signature = s.form.signature;
      spells = s.spells ∙ spelling_first update none;
      short = s.short;
    }

pub spelled_of_first : (bytes : List ℕ) (update : UpdateData) → SpellsFirst bytes update → Spells bytes update × (slice_index bytes 0 ≡ 1)
spelled_of_first bytes update s =
    let is = s.body in
    let some : None ≡ update.body.note = sym is.no_note in
    let few = subst (λ (noted : Option (List ℕ)). length update.body.ops ≤ most_ops noted) some is.few_ops in (
      record {
        form = record {
          body = record { database = is.database; author = is.author; few_preds = is.few_preds; ids = is.ids; rising = is.rising; few_ops = few; ops = is.ops; note = subst IsNote some tt };
          signature = s.signature;
        };
        spells = s.spells ∙ sym (spelling_first update is.no_note);
        short = s.short;
      },
      ap (λ (b : List ℕ). slice_index b 0) s.spells,
    )
