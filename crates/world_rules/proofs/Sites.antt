-- What an event does to one replica.
use Rattle.std.proofs.Common.{◌≡◌, inl, inr, ℕ, ◌<◌, ◌≤◌, ◌^◌, Bool, true, false, List, [], ◌∷◌, ◌++◌, length, take, drop, get_or, set, IsTrue, refl, sym, ap, subst, ◌∙◌, arith, append_assoc, append-nil, get_or-set_same, get_or-set_other, Result, Ok, Err}
use Rattle.std.specs.Prelude.{not, ◌==◌, Some}
use Rattle.std.proofs.lemmas.Bool.{cases_eq}
use Rattle.std.proofs.lemmas.Bool.Decides.{nat_tests}
use Rattle.std.proofs.lemmas.List.{get_or_past, get_or-map}
use Rattle.std.proofs.lemmas.List.Concat.{flat_map-append}
use Rattle.std.proofs.lemmas.List.Quantifiers.{position-Some}
use Rattle.std.proofs.Math.Seq.{take-append_seam, drop-append_seam}
use Rattle.bec_bytes.specs.Framed.{framed, stream_of}
use Rattle.bec_disk.specs.Disk.{Moment, DiskState, EveryImage, IsImage, IsSettled}
use Rattle.bec_disk.specs.Gated.{gated_of, whole_of}
use Rattle.bec_disk.specs.declared.gated.Gated.{Gated}
use Rattle.bec_disk.specs.declared.gated.Gated.TheVariants.{Whole}
use Rattle.bec_disk.proofs.Gates.{gated-whole}
use Rattle.bec_disk.proofs.Images.{image-synced, settled_image}
use Rattle.bec_disk.proofs.Moments.{leaves_now, stays, told, weakened}
use Rattle.key_index.specs.KeyState.{KeyState}
use Rattle.key_index.specs.Used.{IsUsed, least_unused, used_in}
use Rattle.key_index.specs.Opening.{Holds}
use Rattle.lms_tree.specs.SecretKey.{SecretData}
use Rattle.replica.specs.Holding.{KeepsOn}
use Rattle.replica.specs.Replicas.{ReplicaState}
use Rattle.replica.specs.Signing.{KeyAfter, SignsAtLeast, TriesLeast}
use Rattle.replica.specs.declared.make_fault.MakeFault.{MakeFault}
use Rattle.replica.specs.declared.make_fault.MakeFault.TheVariants.{NotListed, TooManyHeads, Invalid, TooLong, Full, Spent, Taken, DiskFault, Memory}
use Rattle.replica.specs.declared.make_fault.Side.TheVariants.{Key, Log}
use Rattle.schema.specs.Data.{Meaning, SchemaData}
use Rattle.schema_text.specs.Schemas.{Declares}
use Rattle.confluence_test.specs.Taking.{TakesSchema}
use Rattle.update_check.specs.Members.{AreMembers}
use Rattle.update_log.specs.Logset.{BeginsWith, IsLogset}
use Rattle.update_log.proofs.Logsets.{begins_logset}
use Rattle.update_model.specs.declared.update_id.UpdateId.{UpdateId}
use Rattle.update_model.specs.declared.op.Op.{Op}
use Rattle.update_model.specs.Rule.{RuleData}
use Rattle.world_rules.specs.Happens.{fresh, MakesBy, Restarts}
use Rattle.world_rules.specs.Laws.{LeavesThrough, goes_on, restarts, StandsBehind}
use Rattle.world_rules.specs.Lists.{Extends}
use Rattle.world_rules.specs.Worlds.{SiteData, held_by, sunk}
use Rattle.world_rules.proofs.Keys.{one_secret}
use Rattle.world_rules.proofs.Schemas.{SchemaLaws}

-- A replica as each event leaves it.
pub record IsSiteSound (schema : SchemaData) (site : SiteData) : Type 0 where
  pub schema_is : site.store.history.schema ≡ schema
  pub members : AreMembers schema.rule (held_by site)
  pub schema_tells : IsTrue site.schema.tells
  pub settled : IsSettled site.schema
  pub declares : site.schema.seen ≡ whole_of (site.store.node ++ schema.text)
  pub size : length site.store.node ≡ 32
  pub short : length (site.store.node ++ schema.text) < 2 ^ 32
  pub log_tells : IsTrue site.store.log.disk.tells
  pub on_disk : EveryImage site.store.log.disk.now (BeginsWith (stream_of (held_by site)))
  pub used_tells : IsTrue site.key.parts.used.tells
  pub key_tells : IsTrue site.key.parts.key.tells
  pub key_settled : IsSettled site.key.parts.key
  pub key_holds : Holds site.key.parts.key.seen site.key.secret

-- What an event does to a replica, and leaves of it.
pub record SiteMoves (schema : SchemaData) (old new : SiteData) : Type 0 where
  pub extends : Extends schema.rule (held_by old) (held_by new)
  pub sound : IsSiteSound schema new
  pub log : LeavesThrough old.store.log.disk new.store.log.disk (BeginsWith (stream_of (held_by old)))
  pub used : (q : ℕ) → EveryImage old.key.parts.used.now (IsUsed q) → LeavesThrough old.key.parts.used new.key.parts.used (IsUsed q)
  pub taken : (q : ℕ) → EveryImage old.key.parts.used.now (IsUsed q) → get_or old.key.taken q false ≡ true → get_or new.key.taken q false ≡ true
  pub secret : new.key.secret ≡ old.key.secret

-- ---- moments

pub through_now : (old new : DiskState) (P : List ℕ → Type 0) → LeavesThrough old new P → IsTrue old.tells → EveryImage new.now P
through_now old new P (goes_on leaves) tells = leaves_now old new P leaves tells
through_now old new P (restarts image left first leaves) tells = leaves_now (fresh image) new P leaves refl

pub through_weakened : (old new : DiskState) (P R : List ℕ → Type 0) → ((c : List ℕ) → P c → R c) → LeavesThrough old new P → LeavesThrough old new R
through_weakened old new P R f (goes_on leaves) = goes_on (weakened old new P R leaves (λ tells c h. f c h))
through_weakened old new P R f (restarts image left first leaves) = restarts image left (λ c h. f c (first c h)) (weakened (fresh image) new P R leaves (λ tells c h. f c h))

-- ---- lists

stream_then : (front behind : List (List ℕ)) → stream_of (front ++ behind) ≡ stream_of front ++ stream_of behind
unfolding stream_of
stream_then front behind = flat_map-append framed front behind

-- what begins with more begins with less
pub begins_less : (rule : RuleData) (old new : List (List ℕ)) (image : List ℕ) → Extends rule old new → BeginsWith (stream_of new) image → BeginsWith (stream_of old) image
begins_less rule old new image e begins = (
  stream_of e.more ++ begins.0,
  begins.1 ∙ ap (λ (l : List (List ℕ)). stream_of l ++ begins.0) e.begins ∙ ap (λ (l : List ℕ). l ++ begins.0) (stream_then old e.more)
      ∙ append_assoc (stream_of old) (stream_of e.more) begins.0,
)

-- what begins with the records of a list stands for that list and more
pub stands_behind : (rule : RuleData) (members : List (List ℕ)) (image : List ℕ) → AreMembers rule members → BeginsWith (stream_of members) image → StandsBehind rule members image
stands_behind rule members image are begins others is = begins_logset rule image others members is are begins

pub same_extends : (rule : RuleData) (members : List (List ℕ)) → AreMembers rule members → Extends rule members members
same_extends rule members are = record { more = []; begins = sym (append-nil members); members = are }

-- ---- nothing happens to it

pub same_moves : (schema : SchemaData) (site : SiteData) → IsSiteSound schema site → SiteMoves schema site site
same_moves schema site s = record {
  extends = same_extends schema.rule (held_by site) s.members;
  sound = s;
  log = goes_on (stays site.store.log.disk site.store.log.disk (BeginsWith (stream_of (held_by site))) refl (λ _. s.on_disk));
  used = λ q h. goes_on (stays site.key.parts.used site.key.parts.used (IsUsed q) refl (λ _. h));
  taken = λ q h is. is;
  secret = refl;
}

-- the same where it is down from then on
pub sunk_moves : (schema : SchemaData) (old new : SiteData) → SiteMoves schema old new → SiteMoves schema old (sunk new)
sunk_moves schema old new m = record {
  extends = m.extends;
  sound = record {
    schema_is = m.sound.schema_is;
    members = m.sound.members;
    schema_tells = m.sound.schema_tells;
    settled = m.sound.settled;
    declares = m.sound.declares;
    size = m.sound.size;
    short = m.sound.short;
    log_tells = m.sound.log_tells;
    on_disk = m.sound.on_disk;
    used_tells = m.sound.used_tells;
    key_tells = m.sound.key_tells;
    key_settled = m.sound.key_settled;
    key_holds = m.sound.key_holds;
  };
  log = m.log;
  used = m.used;
  taken = m.taken;
  secret = m.secret;
}

-- ---- its store goes on

pub store_moves : (schema : SchemaData) (site : SiteData) (store : ReplicaState) (remembered : List (List UpdateId)) → IsSiteSound schema site → KeepsOn site.store store
    → Extends schema.rule (held_by site) store.history.members → SiteMoves schema site (record site { store = store; remembered = remembered })
store_moves schema site store remembered s keeps e =
    let disk = keeps.disk (λ _. s.on_disk) in
    let tells = told site.store.log.disk store.log.disk disk.any_moment.disk s.log_tells in
    record {
      extends = e;
      sound = record {
        schema_is = keeps.store.schema ∙ s.schema_is;
        members = e.members;
        schema_tells = s.schema_tells;
        settled = s.settled;
        declares = s.declares ∙ ap (λ (node : List ℕ). whole_of (node ++ schema.text)) (sym keeps.store.node);
        size = ap length keeps.store.node ∙ s.size;
        short = subst (λ (node : List ℕ). length (node ++ schema.text) < 2 ^ 32) (sym keeps.store.node) s.short;
        log_tells = tells;
        on_disk = disk.on_disk tells;
        used_tells = s.used_tells;
        key_tells = s.key_tells;
        key_settled = s.key_settled;
        key_holds = s.key_holds;
      };
      log = goes_on disk.any_moment;
      used = λ q h. goes_on (stays site.key.parts.used site.key.parts.used (IsUsed q) refl (λ _. h));
      taken = λ q h is. is;
      secret = refl;
    }

-- ---- it makes an update

taken_set : (xs : List Bool) (i q : ℕ) → i < length xs → get_or xs q false ≡ true → get_or (set xs i true) q false ≡ true
taken_set xs i q low is = elim (cases_eq q i) [
  | inl same ↦ ap (λ k. get_or (set xs i true) k false) same ∙ get_or-set_same xs i true false low
  | inr apart ↦ get_or-set_other xs i q true false apart ∙ is
]

least_within : (taken : List Bool) (index : ℕ) → least_unused taken ≡ Some index → index < length taken
least_within taken index is = (position-Some not taken index true is).0

taken_at_least : (old new : KeyState) (q : ℕ) → SignsAtLeast old new → get_or old.taken q false ≡ true → get_or new.taken q false ≡ true
taken_at_least old new q s is = subst (λ (xs : List Bool). get_or xs q false ≡ true) (sym s.tries.taken) (taken_set old.taken s.index q (least_within old.taken s.index s.least) is)

taken_tried : (old new : KeyState) (q : ℕ) → TriesLeast old new → get_or old.taken q false ≡ true → get_or new.taken q false ≡ true
taken_tried old new q s is = subst (λ (xs : List Bool). get_or xs q false ≡ true) (sym s.tries.taken) (taken_set old.taken s.index q (least_within old.taken s.index s.least) is)

taken_same : (old new : KeyState) (q : ℕ) → new ≡ old → get_or old.taken q false ≡ true → get_or new.taken q false ≡ true
taken_same old new q same is = subst (λ (k : KeyState). get_or k.taken q false ≡ true) (sym same) is

taken_after : (result : Result UpdateId MakeFault) (old new : KeyState) (q : ℕ) → KeyAfter old result new → get_or old.taken q false ≡ true → get_or new.taken q false ≡ true
taken_after (Ok id) old new q k is = taken_at_least old new q k is
taken_after (Err NotListed) old new q k is = taken_same old new q k is
taken_after (Err (TooManyHeads n)) old new q k is = taken_same old new q k is
taken_after (Err (Invalid reason operation)) old new q k is = taken_same old new q k is
taken_after (Err (TooLong len)) old new q k is = taken_same old new q k is
taken_after (Err Full) old new q k is = taken_same old new q k is
taken_after (Err Spent) old new q k is = taken_same old new q k is
taken_after (Err (Taken id)) old new q k is = taken_at_least old new q k is
taken_after (Err (DiskFault Key)) old new q k is = taken_tried old new q k is
taken_after (Err (DiskFault Log)) old new q k is = taken_at_least old new q k is
taken_after (Err Memory) old new q (inl same) is = taken_same old new q same is
taken_after (Err Memory) old new q (inr signs) is = taken_at_least old new q signs is

secret_same : (old new : KeyState) → new ≡ old → new.secret ≡ old.secret
secret_same old new same = ap (λ (k : KeyState). k.secret) same

secret_after : (result : Result UpdateId MakeFault) (old new : KeyState) → KeyAfter old result new → new.secret ≡ old.secret
secret_after (Ok id) old new k = k.tries.secret
secret_after (Err NotListed) old new k = secret_same old new k
secret_after (Err (TooManyHeads n)) old new k = secret_same old new k
secret_after (Err (Invalid reason operation)) old new k = secret_same old new k
secret_after (Err (TooLong len)) old new k = secret_same old new k
secret_after (Err Full) old new k = secret_same old new k
secret_after (Err Spent) old new k = secret_same old new k
secret_after (Err (Taken id)) old new k = k.tries.secret
secret_after (Err (DiskFault Key)) old new k = k.tries.secret
secret_after (Err (DiskFault Log)) old new k = k.tries.secret
secret_after (Err Memory) old new (inl same) = secret_same old new same
secret_after (Err Memory) old new (inr signs) = signs.tries.secret

part_same : (old new : KeyState) → new ≡ old → new.parts.key ≡ old.parts.key
part_same old new same = ap (λ (k : KeyState). k.parts.key) same

part_after : (result : Result UpdateId MakeFault) (old new : KeyState) → KeyAfter old result new → new.parts.key ≡ old.parts.key
part_after (Ok id) old new k = k.tries.key
part_after (Err NotListed) old new k = part_same old new k
part_after (Err (TooManyHeads n)) old new k = part_same old new k
part_after (Err (Invalid reason operation)) old new k = part_same old new k
part_after (Err (TooLong len)) old new k = part_same old new k
part_after (Err Full) old new k = part_same old new k
part_after (Err Spent) old new k = part_same old new k
part_after (Err (Taken id)) old new k = k.tries.key
part_after (Err (DiskFault Key)) old new k = k.tries.key
part_after (Err (DiskFault Log)) old new k = k.tries.key
part_after (Err Memory) old new (inl same) = part_same old new same
part_after (Err Memory) old new (inr signs) = signs.tries.key

-- its list after a Make
makes_extend : (ask : Meaning) (schema : SchemaData) (site : SiteData) (ops : List Op) (c : List ℕ) (result : Result UpdateId MakeFault) (store : ReplicaState) (key : KeyState)
    → IsSiteSound schema site → MakesBy ask site.store site.key ops c result store key → Extends schema.rule (held_by site) store.history.members
makes_extend ask schema site ops c (Ok id) store key s m =
    let made = m.made id refl in
    let list : store.history.members ≡ held_by site ++ made.bytes ∷ [] = ap (λ (h : _). h.members) made.last in
    record {
      more = made.bytes ∷ [];
      begins = list;
      members = subst (AreMembers schema.rule) (sym list) (subst (λ (x : SchemaData). AreMembers x.rule (held_by site ++ made.bytes ∷ [])) s.schema_is made.members);
    }
makes_extend ask schema site ops c (Err why) store key s m =
    let same : store.history.members ≡ held_by site = ap (λ (h : _). h.members) (m.refused why refl).1 in
    record { more = []; begins = same ∙ sym (append-nil (held_by site)); members = subst (AreMembers schema.rule) (sym same) s.members }

pub make_moves : (ask : Meaning) (schema : SchemaData) (site : SiteData) (ops : List Op) (c : List ℕ) (result : Result UpdateId MakeFault) (store : ReplicaState) (key : KeyState)
    → IsSiteSound schema site → MakesBy ask site.store site.key ops c result store key → IsTrue key.parts.used.tells → SiteMoves schema site (record site { store = store; key = key })
make_moves ask schema site ops c result store key s m used_tells =
    let same_key : key.parts.key ≡ site.key.parts.key = part_after result site.key key m.key_after in
    let e = makes_extend ask schema site ops c result store key s m in
    let tells = told site.store.log.disk store.log.disk m.any_moment.disk s.log_tells in
    record {
      extends = e;
      sound = record {
        schema_is = m.store.schema ∙ s.schema_is;
        members = e.members;
        schema_tells = s.schema_tells;
        settled = s.settled;
        declares = s.declares ∙ ap (λ (node : List ℕ). whole_of (node ++ schema.text)) (sym m.store.node);
        size = ap length m.store.node ∙ s.size;
        short = subst (λ (node : List ℕ). length (node ++ schema.text) < 2 ^ 32) (sym m.store.node) s.short;
        log_tells = tells;
        on_disk = m.on_disk tells;
        used_tells = used_tells;
        key_tells = subst (λ (d : DiskState). IsTrue d.tells) (sym same_key) s.key_tells;
        key_settled = subst IsSettled (sym same_key) s.key_settled;
        key_holds = subst (λ (x : SecretData). Holds key.parts.key.seen x) (sym (secret_after result site.key key m.key_after))
            (subst (λ (d : DiskState). Holds d.seen site.key.secret) (sym same_key) s.key_holds);
      };
      log = goes_on m.any_moment;
      used = λ q h. goes_on (m.used q (λ _. h));
      taken = λ q h is. taken_after result site.key key q m.key_after is;
      secret = secret_after result site.key key m.key_after;
    }

-- ---- it stops, and opens what a crash left

whole_parts : (a b : List ℕ) → ◌≡◌ {A = Gated} (Whole a) (Whole b) → a ≡ b
whole_parts a b e = cc

front_parts : (node other text more : List ℕ) → length node ≡ 32 → length other ≡ 32 → node ++ text ≡ other ++ more → node ≡ other
front_parts node other text more a b e =
    sym (take-append_seam node text) ∙ ap (λ k. take k (node ++ text)) (a ∙ sym b) ∙ ap (take (length other)) e ∙ take-append_seam other more

back_parts : (node other text more : List ℕ) → node ≡ other → node ++ text ≡ other ++ more → text ≡ more
back_parts node other text more same e =
    sym (drop-append_seam node text) ∙ ap (λ k. drop k (node ++ text)) (ap length same) ∙ ap (drop (length other)) e ∙ drop-append_seam other more

used_is_taken : (image : List ℕ) (q : ℕ) → IsUsed q image → get_or (used_in image) q false ≡ true
used_is_taken image q is = ap (λ b. b) (get_or-map (λ (byte : ℕ). not (byte == 0)) image q 0 false within) ∙ nonzero (get_or image q 0) is
  where
    within : q < length image
    within = omega (arith, λ (behind : length image ≤ q). is (get_or_past image q 0 behind))

    nonzero : (byte : ℕ) → (byte ≡ 0 → ⊥) → not (byte == 0) ≡ true
    nonzero byte some = grind (arith, nat_tests)

pub restart_moves : SchemaLaws → (ask : Meaning) (schema : SchemaData) (choice : ℕ) (old new : SiteData) → TakesSchema ask schema.text schema → IsSiteSound schema old → Restarts ask choice old new → SiteMoves schema old new
restart_moves laws ask schema choice old new taken s r =
    let left : r.schema ≡ old.schema.seen = image-synced old.schema.seen r.schema (subst (λ (m : Moment). IsImage m r.schema) s.settled r.left_schema.is_image) in
    let reads : r.schema ≡ whole_of (old.store.node ++ schema.text) = left ∙ s.declares in
    let declared = r.opened.declared refl in
    let both : new.store.node ++ new.store.history.schema.text ≡ old.store.node ++ schema.text =
    whole_parts _ _ (sym declared.whole ∙ ap gated_of reads ∙ gated-whole (old.store.node ++ schema.text) s.short) in
    let node : new.store.node ≡ old.store.node = front_parts new.store.node old.store.node new.store.history.schema.text schema.text declared.size s.size both in
    let text : new.store.history.schema.text ≡ schema.text = back_parts new.store.node old.store.node new.store.history.schema.text schema.text node both in
    let is : new.store.history.schema ≡ schema =
    laws.one ask schema.text new.store.history.schema schema (subst (λ (t : List ℕ). Declares ask t new.store.history.schema) text declared.taken.declares) taken.declares in
    let logset : IsLogset schema.rule r.updates (held_by new) = subst (λ (x : SchemaData). IsLogset x.rule r.updates (held_by new)) is (r.opened.list refl) in
    let behind = begins_logset schema.rule r.updates (held_by new) (held_by old) logset s.members (s.on_disk r.updates r.left_updates.is_image) in
    let e : Extends schema.rule (held_by old) (held_by new) = record { more = behind.0; begins = behind.1; members = logset.taken } in
    let run = r.any_moment.any_moment refl new.store.node new.store.history.schema (held_by new) declared (λ _. r.opened.list refl) in
    let same_used = r.opens_key.same.used_same in
    let key_left : r.key ≡ old.key.parts.key.seen = image-synced old.key.parts.key.seen r.key (subst (λ (m : Moment). IsImage m r.key) s.key_settled r.left_key.is_image) in
    let holds : Holds r.key new.key.secret = r.opens_key.holds refl in
    let secret : new.key.secret ≡ old.key.secret = one_secret old.key.parts.key.seen new.key.secret old.key.secret (subst (λ (bytes : List ℕ). Holds bytes new.key.secret) key_left holds) s.key_holds in
    let same_part = r.opens_key.same.key_same in
    record {
      extends = e;
      sound = record {
        schema_is = is;
        members = logset.taken;
        schema_tells = subst (λ (d : DiskState). IsTrue d.tells) (sym r.schema_is) refl;
        settled = subst IsSettled (sym r.schema_is) refl;
        declares = ap (λ (d : DiskState). d.seen) r.schema_is ∙ reads ∙ ap (λ (n : List ℕ). whole_of (n ++ schema.text)) (sym node);
        size = declared.size;
        short = subst (λ (n : List ℕ). length (n ++ schema.text) < 2 ^ 32) (sym node) s.short;
        log_tells = told (fresh r.updates) new.store.log.disk r.any_moment.disk refl;
        on_disk = r.on_disk;
        used_tells = subst (λ (d : DiskState). IsTrue d.tells) (sym same_used) refl;
        key_tells = subst (λ (d : DiskState). IsTrue d.tells) (sym same_part) refl;
        key_settled = subst IsSettled (sym same_part) refl;
        key_holds = subst (λ (d : DiskState). Holds d.seen new.key.secret) (sym same_part) holds;
      };
      log = restarts r.updates r.left_updates.is_image s.on_disk
          (weakened (fresh r.updates) new.store.log.disk (BeginsWith (stream_of (held_by new))) (BeginsWith (stream_of (held_by old))) run (λ tells c h. begins_less schema.rule (held_by old) (held_by new) c e h));
      used = λ q h. restarts r.used r.left_used.is_image h (stays (fresh r.used) new.key.parts.used (IsUsed q) same_used (λ _. settled_image (fresh r.used) (IsUsed q) refl (h r.used r.left_used.is_image)));
      taken = λ q h is. ap (λ (xs : List Bool). get_or xs q false) (r.opens_key.taken refl) ∙ used_is_taken r.used q (h r.used r.left_used.is_image);
      secret = secret;
    }
