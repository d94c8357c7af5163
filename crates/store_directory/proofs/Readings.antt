-- Two parts read as one store, as none, or as a bad one.
use Rattle.std.proofs.Common.{List, None, Option, Some, ap, subst, sym, ℕ, ◌++◌, ◌∙◌, ◌≡◌}
use Rattle.schema_text.specs.Schemas.{Declares}
use Rattle.schema.specs.Data.{Meaning, SchemaData}
use Rattle.update_log.specs.Logset.{IsLogset}
use Rattle.update_log.proofs.Logsets.{same_logset}
use Rattle.store_directory.specs.Stores.{IsBadStore, IsNoStore, ReadsAs, StoreData}
use Rattle.key_directory.proofs.Readings.{same_fronts, same_payload, same_rests, whole-not-absent}

-- A text declares at most one schema.
abbrev pub OneSchema : Type 0
OneSchema = (ask : Meaning) (text : List ℕ) (schema other : SchemaData) → Declares ask text schema → Declares ask text other → schema ≡ other

store_same : (a b : StoreData) → a.node ≡ b.node → a.schema ≡ b.schema → a.members ≡ b.members → a ≡ b
store_same a b node schema members =
    ap (λ (n : List ℕ). let s : StoreData = record { node = n; schema = a.schema; members = a.members } in s) node
    ∙ ap (λ (d : SchemaData). let s : StoreData = record { node = b.node; schema = d; members = a.members } in s) schema
    ∙ ap (λ (l : List (List ℕ)). let s : StoreData = record { node = b.node; schema = b.schema; members = l } in s) members

-- Two parts read as one store.
pub same_store : OneSchema → (ask : Meaning) (schema updates : Option (List ℕ)) (store other : StoreData) → ReadsAs ask schema updates store → ReadsAs ask schema updates other → store ≡ other
same_store one ask None updates store other a b = absurd a
same_store one ask (Some schema) None store other a b = absurd a
same_store one ask (Some schema) (Some updates) store other a b =
    let payloads = same_payload schema (store.node ++ store.schema.text) (other.node ++ other.schema.text) a.0.whole b.0.whole in
    let node : store.node ≡ other.node = same_fronts 32 store.node store.schema.text other.node other.schema.text a.0.size b.0.size payloads in
    let text : store.schema.text ≡ other.schema.text = same_rests store.node store.schema.text other.node other.schema.text node payloads in
    let schemas : store.schema ≡ other.schema =
    one ask store.schema.text store.schema other.schema a.0.taken.declares (subst (λ (t : List ℕ). Declares ask t other.schema) (sym text) b.0.taken.declares) in
    store_same store other node schemas
    (same_logset store.schema.rule updates store.members other.members a.1 (subst (λ (d : SchemaData). IsLogset d.rule updates other.members) (sym schemas) b.1))

pub no_store-not-bad : (ask : Meaning) (schema updates : Option (List ℕ)) → IsNoStore schema → IsBadStore ask schema updates → ⊥
no_store-not-bad ask None updates without bad = bad
no_store-not-bad ask (Some schema) None without bad = bad without
no_store-not-bad ask (Some schema) (Some updates) without bad = bad.there without

pub no_store-not-read : (ask : Meaning) (schema updates : Option (List ℕ)) (store : StoreData) → IsNoStore schema → ReadsAs ask schema updates store → ⊥
no_store-not-read ask None updates store without is = is
no_store-not-read ask (Some schema) None store without is = is
no_store-not-read ask (Some schema) (Some updates) store without is = whole-not-absent schema (store.node ++ store.schema.text) is.0.whole without

pub bad_store-not-read : (ask : Meaning) (schema updates : Option (List ℕ)) (store : StoreData) → IsBadStore ask schema updates → ReadsAs ask schema updates store → ⊥
bad_store-not-read ask None updates store bad is = bad
bad_store-not-read ask (Some schema) None store bad is = is
bad_store-not-read ask (Some schema) (Some updates) store bad is = bad.none store.node store.schema is.0
