-- Over a run each replica keeps the key that was drawn for it, and no two have one.
use Rattle.std.proofs.Common.{◌≡◌, ℕ, zero, suc, ◌≤◌, true, false, List, [], ◌∷◌, Some, refl, sym, ap, subst, ◌∙◌, arith}
use Rattle.std.specs.Prelude.{slice_get}
use Rattle.std.specs.List.{AllByRecursion, IsDistinct}
use Rattle.std.proofs.lemmas.Option.{slice_get_within}
use Rattle.lms_tree.specs.SecretKey.{SecretData, public_key}
use Rattle.lms_tree.specs.declared.seed.KeyTypes.{KeyTypes}
use Rattle.schema.specs.Data.{Meaning, SchemaData}
use Rattle.update_model.specs.declared.author_key.AuthorKey.{AuthorKey}
use Rattle.world_rules.specs.Drawn.{HaveDrawnKeys}
use Rattle.world_rules.specs.Happens.{IsNew, IsReached, Reaches, begins, goes, finds}
use Rattle.world_rules.specs.Laws.{IsKeyOf, same_index}
use Rattle.world_rules.specs.Worlds.{SignedData, SiteData, WorldData, site_at}
use Rattle.world_rules.proofs.Doubles.{one_index}
use Rattle.world_rules.proofs.Drawing.{one_place, one_seed}
use Rattle.world_rules.proofs.Events.{event_sounds}
use Rattle.world_rules.proofs.Schemas.{SchemaLaws}
use Rattle.world_rules.proofs.Signing.{IsSignature}
use Rattle.world_rules.proofs.Standing.{stands_always}

-- ---- keys stay

-- The replica was there at the beginning, with its key.
record WasThere (first : WorldData) (r : ℕ) (site : SiteData) : Type 0 where
  pub old : SiteData
  pub there : site_at first r ≡ Some old
  pub secret : site.key.secret ≡ old.key.secret

was_there : SchemaLaws → (ask : Meaning) (schema : SchemaData) (first w : WorldData) → IsNew ask schema first → Reaches ask first w → (r : ℕ) (site : SiteData) → site_at w r ≡ Some site → WasThere first r site
was_there laws ask schema first w n (begins _ is) r site there = record { old = site; there = ap (λ (x : WorldData). site_at x r) (sym is) ∙ there; secret = refl }
was_there laws ask schema first w n (goes before _ event answer run happens) r site there =
    let stands = stands_always laws ask schema before (first, n, run) in
    let back = (event_sounds laws ask schema before w (finds before event) event answer n.taken stands.sound happens).1.back r site there in
    let was = was_there laws ask schema first before n run r back.0 back.1 in
    record { old = was.old; there = was.there; secret = back.2.secret ∙ was.secret }

pub drawn_always : SchemaLaws → (ask : Meaning) (schema : SchemaData) (first w : WorldData) (types : KeyTypes) (number : ℕ) → IsNew ask schema first → Reaches ask first w
    → HaveDrawnKeys types number first.sites → HaveDrawnKeys types number w.sites
drawn_always laws ask schema first w types number n run drawn r site there =
    let was = was_there laws ask schema first w n run r site there in
    was.secret ∙ drawn r was.old was.there

-- ---- no two have one

few : SchemaLaws → (ask : Meaning) (schema : SchemaData) (w : WorldData) (r : ℕ) (site : SiteData) → IsReached ask schema w → site_at w r ≡ Some site → r ≤ 16
few laws ask schema w r site reached there =
    let was = was_there laws ask schema reached.0 w reached.1 reached.2 r site there in
    omega (arith, slice_get_within reached.0.sites r was.old was.there, reached.1.few_sites)

pub own_key : SchemaLaws → (ask : Meaning) (schema : SchemaData) (w : WorldData) (types : KeyTypes) (number r q : ℕ) (a b : SiteData) → IsReached ask schema w → HaveDrawnKeys types number w.sites
    → site_at w r ≡ Some a → site_at w q ≡ Some b → public_key a.key.secret ≡ public_key b.key.secret → r ≡ q
own_key laws ask schema w types number r q a b reached drawn at_a at_b same =
    one_place types number r q (few laws ask schema w r a reached at_a) (few laws ask schema w q b reached at_b)
    (sym (ap (λ (s : SecretData). s.ident) (drawn r a at_a)) ∙ ap (λ (k : AuthorKey). k.ident) same ∙ ap (λ (s : SecretData). s.ident) (drawn q b at_b))

pub own_seed : SchemaLaws → (ask : Meaning) (schema : SchemaData) (w : WorldData) (types : KeyTypes) (number r q : ℕ) (a b : SiteData) → IsReached ask schema w → HaveDrawnKeys types number w.sites
    → site_at w r ≡ Some a → site_at w q ≡ Some b → a.key.secret.start ≡ b.key.secret.start → r ≡ q
own_seed laws ask schema w types number r q a b reached drawn at_a at_b same =
    one_seed types number r q (few laws ask schema w r a reached at_a) (few laws ask schema w q b reached at_b)
    (sym (ap (λ (s : SecretData). s.start) (drawn r a at_a)) ∙ same ∙ ap (λ (s : SecretData). s.start) (drawn q b at_b))

pub only_one : SchemaLaws → (ask : Meaning) (schema : SchemaData) (w : WorldData) (types : KeyTypes) (number r other : ℕ) (update : List ℕ) → IsReached ask schema w → HaveDrawnKeys types number w.sites
    → IsKeyOf w r update → IsKeyOf w other update → other ≡ r
only_one laws ask schema w types number r other update reached drawn key too =
    own_key laws ask schema w types number other r too.site key.site reached drawn too.there key.there (sym too.author ∙ key.author)

-- ---- one signature for each index of a key

held_at : (P : SignedData → Type 0) (xs : List SignedData) (i : ℕ) (x : SignedData) → AllByRecursion P xs → slice_get xs i ≡ Some x → P x
held_at P [] i x all is = absurd cc
held_at P (y ∷ ys) zero x all is = subst P (let same : Some y ≡ Some x = is in cc) all.0
held_at P (y ∷ ys) (suc i) x all is = held_at P ys i x all.1 is

-- those that are distinct stand at one place each
place_of : (xs : List SignedData) (i j : ℕ) (a b : SignedData) → IsDistinct same_index xs → slice_get xs i ≡ Some a → slice_get xs j ≡ Some b → same_index a b ≡ true → same_index b a ≡ true → i ≡ j
unfolding IsDistinct
place_of [] i j a b d at_a at_b same turned = absurd cc
place_of (x ∷ xs) zero zero a b d at_a at_b same turned = refl
place_of (x ∷ xs) zero (suc j) a b d at_a at_b same turned =
    absurd (let first : x ≡ a = (let is : Some x ≡ Some a = at_a in cc) in
    let apart : same_index x b ≡ false = held_at (λ (y : SignedData). same_index x y ≡ false) xs j b d.0 at_b in
    let is : same_index x b ≡ true = subst (λ (y : SignedData). same_index y b ≡ true) (sym first) same in cc)
place_of (x ∷ xs) (suc i) zero a b d at_a at_b same turned =
    absurd (let first : x ≡ b = (let is : Some x ≡ Some b = at_b in cc) in
    let apart : same_index x a ≡ false = held_at (λ (y : SignedData). same_index x y ≡ false) xs i a d.0 at_a in
    let is : same_index x a ≡ true = subst (λ (y : SignedData). same_index y a ≡ true) (sym first) turned in cc)
place_of (x ∷ xs) (suc i) (suc j) a b d at_a at_b same turned = ap suc (place_of xs i j a b d.1 at_a at_b same turned)

pub once_by_key : SchemaLaws → (ask : Meaning) (schema : SchemaData) (w : WorldData) (types : KeyTypes) (number i j : ℕ) (a b : SignedData) → IsReached ask schema w → HaveDrawnKeys types number w.sites
    → slice_get w.signed i ≡ Some a → slice_get w.signed j ≡ Some b → a.body.author ≡ b.body.author → a.index ≡ b.index → i ≡ j
once_by_key laws ask schema w types number i j a b reached drawn at_a at_b author index =
    let signed = (stands_always laws ask schema w reached).signed in
    let by_a = held_at (IsSignature w) w.signed i a signed.each at_a in
    let by_b = held_at (IsSignature w) w.signed j b signed.each at_b in
    let replica : a.replica ≡ b.replica = own_key laws ask schema w types number a.replica b.replica by_a.site by_b.site reached drawn by_a.there by_b.there (sym by_a.author ∙ author ∙ by_b.author) in
    place_of w.signed i j a b signed.distinct at_a at_b (one_index a b replica index) (one_index b a (sym replica) (sym index))
