-- How refusals are named in texts.
use Rattle.std.specs.Prelude.{ℕ, List, codes}
use Rattle.update_codec.specs.Words.{fault_words}
use Rattle.update_check.specs.declared.check_error.CheckFault.{CheckFault}
use Rattle.update_check.specs.declared.check_error.CheckFault.TheVariants.{Codec, WrongDatabase, AuthorNotListed, BadSignature}

-- the words for a fault
abbrev pub check_words : CheckFault → List ℕ
check_words (Codec fault) = fault_words fault.kind fault.place
check_words WrongDatabase = codes "other database"
check_words AuthorNotListed = codes "author not listed"
check_words BadSignature = codes "bad signature"
