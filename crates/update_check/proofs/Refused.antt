-- Bytes are refused for one cause, and none where they are checked. What the codec says is an argument.
use Rattle.std.proofs.Common.{◌≡◌, ◌≢◌, ℕ, List, refl, sym, ap, subst, ◌∙◌}
use Rattle.update_model.specs.Form.{UpdateData}
use Rattle.update_model.specs.Rule.{RuleData, IsListed}
use Rattle.update_codec.specs.declared.codec_fault.CodecFault.{CodecFault}
use Rattle.update_codec.specs.declared.codec_fault.CodecKind.{CodecKind}
use Rattle.update_codec.specs.Faults.{FirstFault}
use Rattle.update_codec.specs.Spelling.{Spells, message}
use Rattle.lms_tree.specs.Signature.{Signed}
use Rattle.update_check.specs.declared.check_error.CheckFault.{CheckFault}
use Rattle.update_check.specs.declared.check_error.CheckFault.TheVariants.{Codec, WrongDatabase, AuthorNotListed, BadSignature}
use Rattle.update_check.specs.Causes.{IsCause}
use Rattle.update_check.specs.Signed.{IsChecked}

-- bytes spell one update
abbrev OneUpdate : Type 0
OneUpdate = (bytes : List ℕ) (update other : UpdateData) → Spells bytes update → Spells bytes other → update ≡ other

-- bytes have one first fault
abbrev OneFault : Type 0
OneFault = (bytes : List ℕ) (kind other : CodecKind) (place elsewhere : ℕ)
    → FirstFault bytes kind place → FirstFault bytes other elsewhere → (kind ≡ other) × (place ≡ elsewhere)

-- bytes that have a first fault spell no update
abbrev NoFault : Type 0
NoFault = (bytes : List ℕ) (kind : CodecKind) (place : ℕ) (update : UpdateData) → FirstFault bytes kind place → Spells bytes update → ⊥

same_fault : (a b : CodecFault) → a.kind ≡ b.kind → a.place ≡ b.place → a ≡ b
same_fault a b e f = ap (λ (k : CodecKind). with_parts k a.place) e ∙ ap (λ (p : ℕ). with_parts b.kind p) f
  where
    with_parts : CodecKind → ℕ → CodecFault
    with_parts k p = record { kind = k; place = p }

-- one update is of the rule's database and of another one
two_databases : (rule : RuleData) (u v : UpdateData) → u ≡ v → u.body.database ≢ rule.database → v.body.database ≡ rule.database → ⊥
two_databases rule u v same other own = other (subst (λ (w : UpdateData). w.body.database ≡ rule.database) (sym same) own)

-- one update is by a listed author and by one that is not
two_authors : (rule : RuleData) (u v : UpdateData) → u ≡ v → ¬ (IsListed rule.authors u.body.author) → IsListed rule.authors v.body.author → ⊥
two_authors rule u v same other own = other (subst (λ (w : UpdateData). IsListed rule.authors w.body.author) (sym same) own)

-- one update is signed and not signed
two_signatures : (u v : UpdateData) → u ≡ v → ¬ (Signed u.body.author (message u.body) u.signature) → Signed v.body.author (message v.body) v.signature → ⊥
two_signatures u v same not_signed signed = not_signed (subst (λ (w : UpdateData). Signed w.body.author (message w.body) w.signature) (sym same) signed)

pub one_reason : OneUpdate → OneFault → NoFault → (rule : RuleData) (bytes : List ℕ) (fault other : CheckFault)
    → IsCause rule bytes fault → IsCause rule bytes other → fault ≡ other
one_reason one first none rule bytes (Codec a) (Codec b) f g =
    let same = first bytes a.kind b.kind a.place b.place f g in ap (λ (x : CodecFault). Codec x) (same_fault a b same.0 same.1)
one_reason one first none rule bytes (Codec a) WrongDatabase f g = absurd (none bytes a.kind a.place g.0 f g.1)
one_reason one first none rule bytes (Codec a) AuthorNotListed f g = absurd (none bytes a.kind a.place g.0 f g.1)
one_reason one first none rule bytes (Codec a) BadSignature f g = absurd (none bytes a.kind a.place g.0 f g.1)
one_reason one first none rule bytes WrongDatabase (Codec b) f g = absurd (none bytes b.kind b.place f.0 g f.1)
one_reason one first none rule bytes WrongDatabase WrongDatabase f g = refl
one_reason one first none rule bytes WrongDatabase AuthorNotListed f g = absurd (two_databases rule f.0 g.0 (one bytes f.0 g.0 f.1 g.1) f.2 g.2)
one_reason one first none rule bytes WrongDatabase BadSignature f g = absurd (two_databases rule f.0 g.0 (one bytes f.0 g.0 f.1 g.1) f.2 g.2.database)
one_reason one first none rule bytes AuthorNotListed (Codec b) f g = absurd (none bytes b.kind b.place f.0 g f.1)
one_reason one first none rule bytes AuthorNotListed WrongDatabase f g = absurd (two_databases rule g.0 f.0 (one bytes g.0 f.0 g.1 f.1) g.2 f.2)
one_reason one first none rule bytes AuthorNotListed AuthorNotListed f g = refl
one_reason one first none rule bytes AuthorNotListed BadSignature f g = absurd (two_authors rule f.0 g.0 (one bytes f.0 g.0 f.1 g.1) f.3 g.2.author)
one_reason one first none rule bytes BadSignature (Codec b) f g = absurd (none bytes b.kind b.place f.0 g f.1)
one_reason one first none rule bytes BadSignature WrongDatabase f g = absurd (two_databases rule g.0 f.0 (one bytes g.0 f.0 g.1 f.1) g.2 f.2.database)
one_reason one first none rule bytes BadSignature AuthorNotListed f g = absurd (two_authors rule g.0 f.0 (one bytes g.0 f.0 g.1 f.1) g.3 f.2.author)
one_reason one first none rule bytes BadSignature BadSignature f g = refl

pub no_reason : OneUpdate → NoFault → (rule : RuleData) (bytes : List ℕ) (fault : CheckFault) → IsCause rule bytes fault → IsChecked rule bytes → ⊥
no_reason one none rule bytes (Codec a) f c = none bytes a.kind a.place c.0 f c.1.spells
no_reason one none rule bytes WrongDatabase f c = two_databases rule f.0 c.0 (one bytes f.0 c.0 f.1 c.1.spells) f.2 c.2.database
no_reason one none rule bytes AuthorNotListed f c = two_authors rule f.0 c.0 (one bytes f.0 c.0 f.1 c.1.spells) f.3 c.2.author
no_reason one none rule bytes BadSignature f c = two_signatures f.0 c.0 (one bytes f.0 c.0 f.1 c.1.spells) f.3 c.1.signed
