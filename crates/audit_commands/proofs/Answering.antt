-- From what was read to what `confirm` comes to.
use Rattle.std.proofs.Common.{◌≡◌, ◌≤◌, inl, inr, ℕ, List, length, refl, Option, Ok, Err, Vec}
use Rattle.std.specs.declared.alloc.Global.{Global}
use Rattle.bec_bytes.specs.Causes.{Rose}
use Rattle.bec_bytes.specs.declared.read_error.ReadError.{ReadError}
use Rattle.bec_bytes.specs.declared.read_error.ReadError.TheVariants.{Failed, Memory}
use Rattle.update_model.specs.declared.author_key.AuthorKey.{AuthorKey}
use Rattle.schema_verdict.specs.Inputs.{ReadsText}
use Rattle.audit_text.specs.Certificates.{HoldsDoubled, HoldsNone}
use Rattle.audit_text.specs.Texts.{doubled_text}
use Rattle.outcomes.specs.declared.refusal.Refusal.TheVariants.{NotDoubled}
use Rattle.outcomes.specs.Outcome.{ComesTo, from_reading}
use Rattle.audit_commands.specs.Confirming.{ConfirmAnswer, confirmed, refused}
use Rattle.audit_commands.proofs.Inputs as inputs

-- where the input was not read
pub unread : (before after : Option (List ℕ)) (old new : ℕ) (why : ReadError) → (why ≡ Failed → Rose old new) → ComesTo ConfirmAnswer before after old new (Err (from_reading why))
unread before after old new Failed rose = inr (inr (refl, rose refl))
unread before after old new Memory rose = inr (inl refl)

module _ (short : (bytes : List ℕ) (key : AuthorKey) (index : ℕ) → HoldsDoubled bytes key index → length bytes ≤ 524296) where
  pub certified : (before after : Option (List ℕ)) (read : List ℕ) (key : AuthorKey) (index : ℕ) (line : Vec ℕ Global) → ReadsText 524296 before after read → HoldsDoubled read key index → line.items ≡ doubled_text key index
      → ConfirmAnswer before after (Ok line)
  certified before after read key index line reads held is = let whole = inputs.confirmed_read short before after read key index reads held in confirmed whole.0 key index whole.1 whole.2 is

  pub uncertified : (before after : Option (List ℕ)) (old new : ℕ) (read : List ℕ) → ReadsText 524296 before after read → HoldsNone read → ComesTo ConfirmAnswer before after old new (Err NotDoubled)
  uncertified before after old new read reads none = let whole = inputs.refused_read short before after read reads none in inl (refused whole.0 whole.1 whole.2 refl)
