-- What is lent.
use Rattle.std.proofs.Common.{◌≡◌, Bor, Option, Some, None, sym, ◌∙◌, ap}
use Rattle.std.specs.Option.{option_copied}

-- the entry that is lent is the one that is found
pub lent : {X : Type 0} (found : Option (Bor X)) (row : Option X) (entry : Bor X) → option_copied found ≡ row → found ≡ Some entry → row ≡ Some entry.now
lent found row entry copied is = sym copied ∙ ap option_copied is

pub not_lent : {X : Type 0} (found : Option (Bor X)) (row : Option X) → option_copied found ≡ row → found ≡ None → row ≡ None
not_lent found row copied is = sym copied ∙ ap option_copied is
