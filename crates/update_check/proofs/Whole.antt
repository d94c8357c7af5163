-- What was tested of an update's parts, as facts of the update that the bytes spell.
use Rattle.std.proofs.Common.{◌≡◌, ◌↔◌, Bool, IsTrue, List, ℕ, subst, sym, ◌∙◌}
use Rattle.update_model.specs.declared.author_key.AuthorKey.{AuthorKey}
use Rattle.update_model.specs.Rule.{RuleData, IsListed}
use Rattle.update_codec.specs.Parts.{author_of, body_of, database_of, signature_of, update_of}
use Rattle.update_codec.specs.Spelling.{Spells, message}
use Rattle.lms_tree.specs.Signature.{Signed}
use Rattle.update_check.specs.declared.check_error.CheckFault.TheVariants.{BadSignature}
use Rattle.update_check.specs.Causes.{IsCause}
use Rattle.update_check.specs.Signed.{IsUnder, SpellsSigned}

-- of the rule's database, by a listed author
pub under_rule : (rule : RuleData) (bytes database : List ℕ) (author : AuthorKey) → database ≡ database_of bytes → author ≡ author_of bytes
    → database ≡ rule.database → IsListed rule.authors author → IsUnder rule (body_of bytes)
under_rule rule bytes database author same by own listed = record { database = sym same ∙ own; author = subst (IsListed rule.authors) by listed }

-- of the rule's database, an update is taken exactly where its author is listed
pub taken_where_listed : (rule : RuleData) (database : List ℕ) (author : AuthorKey) (listed : Bool) → database ≡ rule.database
    → (IsTrue listed ↔ IsListed rule.authors author) → IsTrue listed ↔ ((database ≡ rule.database) × IsListed rule.authors author)
taken_where_listed rule database author listed own answer = (λ t. (own, answer.0 t), λ taken. answer.1 taken.1)

-- what is taken is under the rule
pub taken_under : (rule : RuleData) (bytes database : List ℕ) (author : AuthorKey) (taken : Bool) → database ≡ database_of bytes → author ≡ author_of bytes
    → (IsTrue taken ↔ ((database ≡ rule.database) × IsListed rule.authors author)) → IsTrue taken ↔ IsUnder rule (body_of bytes)
taken_under rule bytes database author taken same by answer = (
  λ t. under_rule rule bytes database author same by (answer.0 t).0 (answer.0 t).1,
  λ under. answer.1 (same ∙ under.database, subst (IsListed rule.authors) (sym by) under.author),
)

-- spelled and signed
pub spelled_signed : (bytes : List ℕ) → Spells bytes (update_of bytes) → Signed (author_of bytes) (message (body_of bytes)) (signature_of bytes) → SpellsSigned bytes (update_of bytes)
spelled_signed bytes spells signed = record { spells = spells; signed = signed }

-- spelled, under the rule, and not signed
pub bad_signature : (rule : RuleData) (bytes : List ℕ) → Spells bytes (update_of bytes) → IsUnder rule (body_of bytes)
    → ¬ (Signed (author_of bytes) (message (body_of bytes)) (signature_of bytes)) → IsCause rule bytes BadSignature
bad_signature rule bytes spells under unsigned = (update_of bytes, spells, under, unsigned)
