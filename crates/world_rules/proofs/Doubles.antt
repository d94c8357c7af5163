-- Under one index a correct replica's key has one message.
use Rattle.std.proofs.Common.{◌≡◌, inl, inr, ℕ, Bool, true, false, ◌&&◌, List, [], ◌∷◌, Contains, Some, sym, ap, subst, ◌∙◌, arith}
use Rattle.std.specs.Prelude.{◌==◌}
use Rattle.std.specs.List.{IsDistinct}
use Rattle.std.proofs.lemmas.Bool.Decides.{nat_tests}
use Rattle.std.proofs.lemmas.List.Elements.{All-contains}
use Rattle.lms_tree.specs.SecretKey.{public_key}
use Rattle.lms_tree.specs.Signature.{leaf_number}
use Rattle.schema.specs.Data.{SchemaData}
use Rattle.session_rules.proofs.Words.{cons_cases, each_member}
use Rattle.update_check.specs.Signed.{IsChecked, IsSigned}
use Rattle.update_codec.specs.Parts.{author_of, body_of, signature_of}
use Rattle.update_codec.specs.Spelling.{message}
use Rattle.update_model.specs.Form.{BodyData}
use Rattle.world_rules.specs.Laws.{IsKeyOf, NoForgedIndex, same_index}
use Rattle.world_rules.specs.Worlds.{SiteData, SignedData, WorldData, site_at, held_by}
use Rattle.world_rules.proofs.Events.{the_site}
use Rattle.world_rules.proofs.Making.{IsKnown, WasMade}
use Rattle.world_rules.proofs.Moving.{WasMet}
use Rattle.world_rules.proofs.Signing.{IsSignature}
use Rattle.world_rules.proofs.Standing.{Stands, checked_signed}

-- A Make of this replica signed the update's message, under the update's index.
record IsBy (w : WorldData) (r : ℕ) (u : List ℕ) : Type 0 where
  pub signature : SignedData
  pub signed : Contains w.signed signature
  pub replica : signature.replica ≡ r
  pub message_is : message signature.body ≡ message (body_of u)
  pub index : signature.index ≡ leaf_number (signature_of u)

-- ---- one index, one signature

is_same : (m n : ℕ) → m ≡ n → (m == n) ≡ true
is_same m n e = grind (arith, nat_tests)

pub one_index : (a b : SignedData) → a.replica ≡ b.replica → a.index ≡ b.index → same_index a b ≡ true
one_index a b replica index = both (a.replica == b.replica) (a.index == b.index) (is_same a.replica b.replica replica) (is_same a.index b.index index)
  where
    both : (p q : Bool) → p ≡ true → q ≡ true → (p && q) ≡ true
    both p q e f = rw e f

-- of those that are distinct, two with one index are one
one_of : (xs : List SignedData) (a b : SignedData) → IsDistinct same_index xs → Contains xs a → Contains xs b → same_index a b ≡ true → same_index b a ≡ true → a ≡ b
unfolding IsDistinct
one_of [] a b d has held same turned = absurd (omega (arith, has.1))
one_of (x ∷ xs) a b d has held same turned = elim (cons_cases x xs a has) [
  | inl first ↦ elim (cons_cases x xs b held) [
    | inl second ↦ sym first ∙ second
    | inr later ↦ absurd (let apart : same_index x b ≡ false = each_member (λ y. same_index x y ≡ false) xs b d.0 later in
        let is : same_index x b ≡ true = subst (λ (y : SignedData). same_index y b ≡ true) (sym first) same in cc)
  ]
  | inr later ↦ elim (cons_cases x xs b held) [
    | inl second ↦ absurd (let apart : same_index x a ≡ false = each_member (λ y. same_index x y ≡ false) xs a d.0 later in
        let is : same_index x a ≡ true = subst (λ (y : SignedData). same_index y a ≡ true) (sym second) turned in cc)
    | inr behind ↦ one_of xs a b d.1 later behind same turned
  ]
]

-- two updates that one replica made have one message where they have one index
one_by : (schema : SchemaData) (w : WorldData) (r : ℕ) (first second : List ℕ) → Stands schema w → IsBy w r first → IsBy w r second → leaf_number (signature_of first) ≡ leaf_number (signature_of second)
    → message (body_of first) ≡ message (body_of second)
one_by schema w r first second stands a b index =
    let replica : a.signature.replica ≡ b.signature.replica = a.replica ∙ sym b.replica in
    let at : a.signature.index ≡ b.signature.index = a.index ∙ index ∙ sym b.index in
    let same : a.signature ≡ b.signature =
    one_of w.signed a.signature b.signature stands.signed.distinct a.signed b.signed (one_index a.signature b.signature replica at) (one_index b.signature a.signature (sym replica) (sym at)) in
    sym a.message_is ∙ ap (λ (s : SignedData). message s.body) same ∙ b.message_is

-- ---- who signed what

met_by : (w : WorldData) (r : ℕ) (u : List ℕ) → NoForgedIndex w → WasMet w.met u → IsSigned u → IsKeyOf w r u → IsBy w r u
met_by w r u honest met signed key =
    let was = honest met.0 r met.1 (subst IsSigned (sym met.2) signed) (subst (IsKeyOf w r) (sym met.2) key) in
    record {
      signature = was.0;
      signed = was.1;
      replica = was.2;
      message_is = was.3 ∙ ap (λ (v : List ℕ). message (body_of v)) met.2;
      index = was.4 ∙ ap (λ (v : List ℕ). leaf_number (signature_of v)) met.2;
    }

made_by : (w : WorldData) (q : ℕ) (u : List ℕ) → WasMade w.signed q u → IsBy w q u
made_by w q u made = record { signature = made.0; signed = made.1; replica = made.2; message_is = ap message made.3; index = made.4 }

-- what a replica made is by its key
key_of : (schema : SchemaData) (w : WorldData) (q : ℕ) (u : List ℕ) → Stands schema w → WasMade w.signed q u → IsKeyOf w q u
key_of schema w q u stands made =
    let g = each_member (IsSignature w) w.signed made.0 stands.signed.each made.1 in
    record { site = g.site; there = ap (λ k. site_at w k) (sym made.2) ∙ g.there; author = ap (λ (b : BodyData). b.author) (sym made.3) ∙ g.author }

-- two updates by one replica's key have one author
same_author : (w : WorldData) (r : ℕ) (first second : List ℕ) → IsKeyOf w r first → IsKeyOf w r second → author_of first ≡ author_of second
same_author w r first second a b =
    let same = the_site (site_at w r) a.site b.site a.there b.there in
    a.author ∙ ap (λ (x : SiteData). public_key x.key.secret) same ∙ sym b.author

-- so whose key the first update is by, by that replica's key is the second
key_too : (w : WorldData) (q : ℕ) (first second : List ℕ) → author_of second ≡ author_of first → IsKeyOf w q first → IsKeyOf w q second
key_too w q first second same key = record { site = key.site; there = key.there; author = same ∙ key.author }

pub one_message : (schema : SchemaData) (w : WorldData) (q r : ℕ) (site : SiteData) (first second : List ℕ) → Stands schema w → NoForgedIndex w → site_at w q ≡ Some site
    → Contains (held_by site) first → Contains (held_by site) second → IsKeyOf w r first → IsKeyOf w r second → leaf_number (signature_of first) ≡ leaf_number (signature_of second)
    → message (body_of first) ≡ message (body_of second)
one_message schema w q r site first second stands honest there has held key other index =
    by_known (each_member (IsKnown w q) (held_by site) first (stands.known q site there) has) (each_member (IsKnown w q) (held_by site) second (stands.known q site there) held)
  where
    signed : (u : List ℕ) → Contains (held_by site) u → IsSigned u
    signed u c = checked_signed schema.rule u (All-contains (IsChecked schema.rule) (held_by site) u (stands.sound.sites q site there).members.checked c)

    by_known : IsKnown w q first → IsKnown w q second → message (body_of first) ≡ message (body_of second)
    by_known (inl met) (inl too) = one_by schema w r first second stands (met_by w r first honest met (signed first has) key) (met_by w r second honest too (signed second held) other) index
    by_known (inl met) (inr made) =
        let own = key_too w q second first (same_author w r first second key other) (key_of schema w q second stands made) in
        one_by schema w q first second stands (met_by w q first honest met (signed first has) own) (made_by w q second made) index
    by_known (inr made) (inl met) =
        let own = key_too w q first second (same_author w r second first other key) (key_of schema w q first stands made) in
        one_by schema w q first second stands (made_by w q first made) (met_by w q second honest met (signed second held) own) index
    by_known (inr made) (inr too) = one_by schema w q first second stands (made_by w q first made) (made_by w q second too) index
