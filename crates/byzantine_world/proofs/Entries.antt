-- An entry of an audit under a replica's key.
use Rattle.std.proofs.Common.{◌≡◌, ℕ, List, Contains, Some, sym, ◌∙◌}
use Rattle.std.proofs.lemmas.List.Elements.{All-contains}
use Rattle.key_audit.specs.Entries.{AreFound, IsEntry}
use Rattle.key_audit.specs.declared.doubled.Doubled.{Doubled}
use Rattle.lms_tree.specs.SecretKey.{public_key}
use Rattle.lms_tree.specs.Signature.{leaf_number}
use Rattle.update_codec.specs.Parts.{body_of, signature_of}
use Rattle.update_codec.specs.Spelling.{message}
use Rattle.world_rules.specs.Laws.{IsKeyOf}
use Rattle.world_rules.specs.Worlds.{SiteData, WorldData, site_at}

-- Where two updates of a list by the key of a replica have one message under one index, no entry is under that key.
pub no_entry : (w : WorldData) (r : ℕ) (other : SiteData) (members : List (List ℕ)) (entries : List Doubled) (entry : Doubled)
    → ((first second : List ℕ) → Contains members first → Contains members second → IsKeyOf w r first → IsKeyOf w r second
    → leaf_number (signature_of first) ≡ leaf_number (signature_of second) → message (body_of first) ≡ message (body_of second))
    → AreFound members entries → Contains entries entry → site_at w r ≡ Some other → entry.key ≡ public_key other.key.secret → ⊥
no_entry w r other members entries entry one found has there key =
    let is : IsEntry members entry = All-contains (IsEntry members) entries entry found.each has in
    let pair = is.doubled.pair in
    pair.differ (one is.first is.second is.first_is.member.member is.second_is.member.member
    (record { site = other; there = there; author = pair.one.author ∙ key })
    (record { site = other; there = there; author = pair.two.author ∙ key })
    (pair.one.number ∙ sym pair.two.number))
