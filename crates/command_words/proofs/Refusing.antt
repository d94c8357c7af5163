-- What a parse answers, against what the words give.
use Rattle.std.proofs.Common.{◌≡◌, inl, inr, ap, cond, Bool, false, List, [], ◌∷◌, Some, None, refl, sym}
use Rattle.clap.specs.Words.{App, HasKind, Kinds, Text, fault_of, kind_of, matches_of}
use Rattle.command_words.specs.Words.{is_no_kind, rows_given}
use Rattle.clap.specs.declared.error.Error.{Error}
use Rattle.clap.specs.declared.error.kind.ErrorKind.TheVariants as kind

has_fault : (kinds : Kinds) (e : Error) → (kind_of e ≡ kind.OutOfMemory → ⊥) → HasKind kinds e → is_no_kind kinds ≡ false
has_fault kinds e other (inl h) = absurd (other h)
has_fault [] e other (inr h) = absurd h
has_fault (k ∷ ks) e other (inr h) = refl

-- an error that is not for want of memory tells of a fault in the words
pub refused : (app : App) (words : List Text) (e : Error) → (kind_of e ≡ kind.OutOfMemory → ⊥) → HasKind (fault_of app words) e → None ≡ rows_given app words
refused app words e other h = sym (ap (λ (b : Bool). cond b (Some (matches_of app words)) None) (has_fault (fault_of app words) e other h))
