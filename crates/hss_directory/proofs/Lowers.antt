-- The next lower key: what is held and known of it, and where every other part is.
use Rattle.std.proofs.Common.{◌≡◌, ◌≢◌, ◌⊎◌, inl, inr, ℕ, ◌<◌, ◌≤◌, ◌^◌, Bool, List, [], ◌∷◌, ◌++◌, length, take, refl, sym, ◌∙◌, ap, subst, arith, IsTrue, Some, None, Option, Result, Ok, Err, append_assoc}
use Rattle.std.specs.Prelude.{MatchOption}
use Rattle.std.specs.Int.{w32, to_be_bytes, from_be_bytes}
use Rattle.std.proofs.Math.Seq.{take-append_seam}
use Rattle.std.proofs.lemmas.Nat.{from_be_bytes-to_be_bytes_4}
use Rattle.rand_core.specs.Stream.{Stream}
use Rattle.update_model.specs.declared.author_key.AuthorKey.{AuthorKey}
use Rattle.bec_disk.specs.declared.part.Part.TheVariants.{Key, Used, Peers}
use Rattle.bec_disk.specs.Disk.{DiskState, EveryImage}
use Rattle.bec_disk.specs.Shelf.{PartState, ShelfState, out}
use Rattle.bec_disk.specs.Slot.{slot}
use Rattle.lm_ots.specs.declared.ots_type.OtsType.{OtsType}
use Rattle.lm_ots.specs.OneTime.{signature_of}
use Rattle.lms_tree.specs.declared.lms_type.LmsType.{LmsType}
use Rattle.lms_tree.specs.LmsKind.{type_word}
use Rattle.lms_tree.specs.SecretKey.{SecretData, path_of, public_key, signature_by}
use Rattle.lms_tree.specs.Signature.{Signed, leaf_number}
use Rattle.key_index.specs.KeyState.{IsLast, KeyParts, KeyState}
use Rattle.key_index.specs.Reserving.{Reserves, Tries}
use Rattle.key_index.specs.declared.reserve.Reserve.{Reserve}
use Rattle.key_index.specs.declared.reserve.Reserve.TheVariants as reserve
use Rattle.key_index.specs.Used.{IsGreatest, IsUsed, least_unused}
use Rattle.key_directory.specs.Keys.{LetsKeyGo, PutsKey}
use Rattle.key_directory.specs.Parts.{LetsNewGo, part_in}
use Rattle.key_directory.proofs.Places.{stands-not-out}
use Rattle.key_directory.proofs.Putting.{told}
use Rattle.hss_chain.specs.Keys.{key_bytes}
use Rattle.hss_directory.specs.Lower.{LetsLowerGo, MakesLower, OpensNoLower, RefusesLower, TakesLower, VouchesNot, no_memory, no_vouching, not_made, not_taken, opens_none, opens_spent, refuses_key, top_spent, unsigned, unwritten}
use Rattle.hss_directory.specs.Places.{AreIn, AreLowersIn, HoldsKey, HoldsLower, KeepsElse}
use Rattle.hss_directory.specs.Signing.{SignsNone, drawn_c}
use Rattle.hss_directory.specs.Values.{IsCurrent, LowerState, low_dir}
use Rattle.hss_directory.specs.declared.fault.HssFault.{HssFault}
use Rattle.hss_directory.specs.declared.fault.HssFault.TheVariants.{Disk, KeyThere, NoKey, BadKey, Spent, Memory}
use Rattle.hss_directory.proofs.Keys.{holds_lower, lower_keeps, lower_tells, untouched_in}
use Rattle.hss_directory.proofs.Places.{ElseSame, but_one, else_key, else_peers, else_through, holds_by, holds_else, in_by, keeps_lower, keeps_same, key_not_peers, low-ne, lowers_in, others_in, peers_not_key}

-- ---- indices

front_of : (a b c d : List ℕ) → length a ≡ 4 → take 4 (a ++ b ++ c ++ d) ≡ a
front_of a b c d long =
    ap (take 4) (append_assoc (a ++ b) c d ∙ append_assoc a b (c ++ d)) ∙ ap (λ (k : ℕ). take k (a ++ (b ++ (c ++ d)))) (sym long) ∙ take-append_seam a (b ++ (c ++ d))

-- the leaf number of a signature by an index
pub leaf_of : (secret : SecretData) (q : ℕ) (c msg : List ℕ) → q < 2 ^ 32 → leaf_number (signature_by secret q c msg) ≡ q
leaf_of secret q c msg small =
    ap (from_be_bytes w32) (front_of (to_be_bytes w32 q) (signature_of secret.ots secret.ident q secret.start c msg) (to_be_bytes w32 (type_word secret.lms)) (path_of secret q) refl)
    ∙ from_be_bytes-to_be_bytes_4 q small

pub same_index : (found : Option ℕ) (m n : ℕ) → found ≡ Some m → found ≡ Some n → m ≡ n
same_index found m n a b = cc

-- a reservation leaves the part Key alone, and the key
pub key_alone : (old new : KeyState) (result : Result ℕ Reserve) → Reserves old result new → (new.parts.key ≡ old.parts.key) × (new.secret ≡ old.secret)
key_alone old new result reserves = by (least_unused old.taken) reserves.tries
  where
    by : (least : Option ℕ) → MatchOption least (new ≡ old) (λ index. Tries old index new) → (new.parts.key ≡ old.parts.key) × (new.secret ≡ old.secret)
    by None same = (ap (λ (s : KeyState). s.parts.key) same, ap (λ (s : KeyState). s.secret) same)
    by (Some index) tries = (tries.key, tries.secret)

tries_at : (old new : KeyState) (least : Option ℕ) (index : ℕ) → least ≡ Some index → MatchOption least (new ≡ old) (λ index. Tries old index new) → Tries old index new
tries_at old new least index is tries = subst (λ (o : Option ℕ). MatchOption o (new ≡ old) (λ index. Tries old index new)) is tries

last_is : (key : KeyState) (index : ℕ) → key.tried ≡ Some index → IsLast key (Some index)
last_is key index tried = subst (λ (t : Option ℕ). MatchOption t (IsGreatest key.taken (Some index)) (λ k. Some index ≡ Some k)) (sym tried) refl

-- ---- a lower key that was made

pub made_current : (random left : Stream) (before after : ShelfState) (dir : List ℕ) (top new : KeyState) (lower : LowerState) → lower.index < 2 ^ 32 → MakesLower random before dir top lower new after left → IsCurrent dir new lower
made_current random left before after dir top new lower small makes =
    let signs = makes.vouches.signs in
    let same : signs.index ≡ lower.index = same_index (least_unused top.taken) signs.index lower.index signs.reserves.least makes.index in
    let alone = key_alone top new (Ok signs.index) signs.reserves in
    record {
      place = makes.place;
      signed = subst (λ (s : SecretData). Signed (public_key s) (key_bytes (public_key lower.key.secret)) lower.top_sig) (sym alone.1) signs.signed;
      leaf = ap leaf_number signs.made ∙ leaf_of top.secret signs.index (drawn_c makes.between) (key_bytes (public_key lower.key.secret)) (subst (λ (k : ℕ). k < 2 ^ 32) (sym same) small) ∙ same;
      last = last_is new lower.index (tries_at top new (least_unused top.taken) lower.index makes.index signs.reserves.tries).tried;
      used = λ tells. subst (λ (k : ℕ). EveryImage new.parts.used.now (IsUsed k)) same (signs.reserves.reserved (told new.parts.used.tells top.parts.used.tells (sym signs.reserves.disk.tells) tells)).used;
    }

-- what the top key holds, through a reservation
pub holds_top : (shelf : ShelfState) (dir : List ℕ) (old new : KeyState) (result : Result ℕ Reserve) → HoldsKey shelf dir old → Reserves old result new → HoldsKey shelf dir new
holds_top shelf dir old new result holds reserves = record {
  key_slot = ap (λ (d : DiskState). d.slot) (key_alone old new result reserves).0 ∙ holds.key_slot;
  key_out = holds.key_out;
  used_slot = reserves.disk.slot ∙ holds.used_slot;
  used_out = holds.used_out;
}

-- ---- places

refused_top : (dir : List ℕ) (shelf : ShelfState) (top new : KeyState) → new ≡ top → HoldsKey shelf dir top → HoldsKey shelf dir new
refused_top dir shelf top new same holds = subst (λ (k : KeyState). HoldsKey shelf dir k) (sym same) holds

-- where a lower key was made
pub made_holds : (random left : Stream) (before after : ShelfState) (dir : List ℕ) (top new : KeyState) (lower : LowerState) → MakesLower random before dir top lower new after left
    → IsTrue before.tells → HoldsKey before dir top → AreLowersIn before dir → HoldsKey after dir new × HoldsLower after dir (Some lower) × KeepsElse dir before after
made_holds random left before after dir top new lower makes tells holds lowers =
    let told_mid : IsTrue makes.mid.tells = told before.tells makes.mid.tells (lower_tells top.secret.lms top.secret.ots random makes.between before makes.mid lower.dir lower.key makes.takes) tells in
    let writes = makes.vouches.writes in
    let else_same : ElseSame lower.dir before after =
    else_through lower.dir before makes.mid after
    (else_key lower.dir before makes.mid (lower_keeps top.secret.lms top.secret.ots random makes.between before makes.mid lower.dir lower.key makes.takes tells))
    (else_peers lower.dir makes.mid after (writes.others told_mid)) in
    let apart : lower.dir ≢ dir = λ same. low-ne dir lower.index (sym same ∙ makes.place) in
    let peers = peers_not_key makes.mid after lower.dir (writes.others told_mid) in (
      holds_top after dir top new (Ok makes.vouches.signs.index) (holds_else lower.dir dir before after top else_same apart holds) makes.vouches.signs.reserves,
      (
        holds_by makes.mid after lower.dir lower.key peers.0 peers.1 (holds_lower top.secret.lms top.secret.ots random makes.between before makes.mid lower.dir lower.key makes.takes tells),
        writes.in_place told_mid,
        others_in lower.dir dir before after else_same lowers,
      ),
      keeps_lower dir lower.dir lower.index before after makes.place else_same,
    )

-- what a refusal leaves of the places
record LeavesIn (low : List ℕ) (before after : ShelfState) : Type 0 where
  pub tells : after.tells ≡ before.tells
  pub low_in : IsTrue before.tells → AreIn after low
  pub else_same : IsTrue before.tells → ElseSame low before after

go_leaves : (low : List ℕ) (before after : ShelfState) → (IsTrue before.tells → AreIn before low) → LetsKeyGo before low after → LeavesIn low before after
go_leaves low before after are goes = record {
  tells = goes.tells;
  low_in = λ tells. record {
    key_in = untouched_in (part_in before low Key) (part_in after low Key) (goes.key_part tells) (are tells).key_in;
    used_in = untouched_in (part_in before low Used) (part_in after low Used) (goes.used_part tells) (are tells).used_in;
    peers_in = in_by (part_in before low Peers) (part_in after low Peers) (key_not_peers before after low (goes.others tells)) (are tells).peers_in;
  };
  else_same = λ tells. else_key low before after (goes.others tells);
}

leaves_through : (low : List ℕ) (before mid after : ShelfState) → LeavesIn low before mid → LeavesIn low mid after → LeavesIn low before after
leaves_through low before mid after a b = record {
  tells = b.tells ∙ a.tells;
  low_in = λ tells. b.low_in (told before.tells mid.tells a.tells tells);
  else_same = λ tells. else_through low before mid after (a.else_same tells) (b.else_same (told before.tells mid.tells a.tells tells));
}

new_leaves : (payload filling low : List ℕ) (before after : ShelfState) → (IsTrue before.tells → AreIn before low) → LetsNewGo Key Used payload filling before low after → LeavesIn low before after
new_leaves payload filling low before after are goes = record {
  tells = goes.tells;
  low_in = λ tells. record {
    key_in = goes.places tells (slot low Key) (are tells).key_in;
    used_in = goes.places tells (slot low Used) (are tells).used_in;
    peers_in = in_by (part_in before low Peers) (part_in after low Peers) (key_not_peers before after low (goes.others tells)) (are tells).peers_in;
  };
  else_same = λ tells. else_key low before after (goes.others tells);
}

lower_leaves : (lms : LmsType) (ots : OtsType) (random left : Stream) (why : HssFault) (low : List ℕ) (before after : ShelfState) → (IsTrue before.tells → AreIn before low) → LetsLowerGo lms ots random before low why after left
    → LeavesIn low before after
lower_leaves lms ots random left why low before after are (not_taken goes cause same) = go_leaves low before after are goes
lower_leaves lms ots random left why low before after are (not_made mid goes none lets cause drawn) =
    let first = go_leaves low before mid are goes in
    leaves_through low before mid after first
    (new_leaves _ _ low mid after (λ tells. first.low_in (told mid.tells before.tells (sym first.tells) tells)) lets)

-- a key that was taken or made is put back, whatever was done to the part Peers between
back_leaves : (lms : LmsType) (ots : OtsType) (random left : Stream) (low : List ℕ) (before mid done after : ShelfState) (key : KeyState) → TakesLower lms ots random before low key mid left
    → done.tells ≡ mid.tells → (IsTrue mid.tells → part_in done low Peers ≢ out) → (IsTrue mid.tells → ElseSame low mid done) → PutsKey done low key.parts after → LeavesIn low before after
back_leaves lms ots random left low before mid done after key takes t peers same puts = record {
  tells = puts.tells ∙ t ∙ lower_tells lms ots random left before mid low key takes;
  low_in = λ tells. record {
    key_in = stands-not-out (part_in after low Key) key.parts.key (puts.key_back (told_done tells));
    used_in = stands-not-out (part_in after low Used) key.parts.used (puts.used_back (told_done tells));
    peers_in = in_by (part_in done low Peers) (part_in after low Peers) (key_not_peers done after low (puts.others (told_done tells))) (peers (told_mid tells));
  };
  else_same = λ tells. else_through low before mid after (else_key low before mid (lower_keeps lms ots random left before mid low key takes tells))
      (else_through low mid done after (same (told_mid tells)) (else_key low done after (puts.others (told_done tells))));
}
  where
    told_mid : IsTrue before.tells → IsTrue mid.tells
    told_mid tells = told before.tells mid.tells (lower_tells lms ots random left before mid low key takes) tells

    told_done : IsTrue before.tells → IsTrue done.tells
    told_done tells = told mid.tells done.tells t (told_mid tells)

pub peers_after : (lms : LmsType) (ots : OtsType) (random left : Stream) (low : List ℕ) (before mid : ShelfState) (key : KeyState) → (IsTrue before.tells → AreIn before low) → TakesLower lms ots random before low key mid left
    → IsTrue mid.tells → part_in mid low Peers ≢ out
peers_after lms ots random left low before mid key are takes tells =
    let before_told = told mid.tells before.tells (sym (lower_tells lms ots random left before mid low key takes)) tells in
    in_by (part_in before low Peers) (part_in mid low Peers) (key_not_peers before mid low (lower_keeps lms ots random left before mid low key takes before_told)) (are before_told).peers_in

opens_leaves : (lms : LmsType) (ots : OtsType) (random left : Stream) (why : HssFault) (low : List ℕ) (before after : ShelfState) → (IsTrue before.tells → AreIn before low) → OpensNoLower lms ots random before low why after left
    → LeavesIn low before after
opens_leaves lms ots random left why low before after are (opens_none goes) = lower_leaves lms ots random left why low before after are goes
opens_leaves lms ots random left why low before after are (opens_spent key mid is takes spent puts) =
    back_leaves lms ots random left low before mid mid after key takes refl (peers_after lms ots random left low before mid key are takes) (λ tells place off. refl) puts

same_leaves : (mid done : ShelfState) (low : List ℕ) → done ≡ mid → (IsTrue mid.tells → part_in mid low Peers ≢ out)
    → (done.tells ≡ mid.tells) × ((IsTrue mid.tells → part_in done low Peers ≢ out) × (IsTrue mid.tells → ElseSame low mid done))
same_leaves mid done low same peers = (
  ap (λ (s : ShelfState). s.tells) same,
  (λ tells. in_by (part_in mid low Peers) (part_in done low Peers) (ap (λ (s : ShelfState). part_in s low Peers) same) (peers tells), λ tells place off. ap (λ (s : ShelfState). s.parts place) same),
)

pub vouch_leaves : (random left : Stream) (why : HssFault) (low : List ℕ) (mid done : ShelfState) (top new : KeyState) (key : AuthorKey) → (IsTrue mid.tells → part_in mid low Peers ≢ out) → VouchesNot random mid low top key why new done left
    → (done.tells ≡ mid.tells) × ((IsTrue mid.tells → part_in done low Peers ≢ out) × (IsTrue mid.tells → ElseSame low mid done))
vouch_leaves random left why low mid done top new key peers (unsigned none same) = same_leaves mid done low same peers
vouch_leaves random left why low mid done top new key peers (unwritten sig signs is (inl same)) = same_leaves mid done low same peers
vouch_leaves random left why low mid done top new key peers (unwritten sig signs is (inr writes)) = (writes.tells, (writes.in_place, λ tells. else_peers low mid done (writes.others tells)))

-- what the top key is then
vouch_top : (random left : Stream) (why : HssFault) (low : List ℕ) (mid done shelf : ShelfState) (top new : KeyState) (key : AuthorKey) (dir : List ℕ) → VouchesNot random mid low top key why new done left → HoldsKey shelf dir top → HoldsKey shelf dir new
vouch_top random left why low mid done shelf top new key dir (unsigned none same) holds = none_top why none holds
  where
    none_top : (why : HssFault) → SignsNone top random why new left → HoldsKey shelf dir top → HoldsKey shelf dir new
    none_top Memory none holds = refused_top dir shelf top new none.0 holds
    none_top Disk none holds = holds_top shelf dir top new (Err reserve.DiskFault) holds none.0
    none_top KeyThere none holds = absurd none
    none_top NoKey none holds = absurd none
    none_top BadKey none holds = absurd none
    none_top Spent none holds = absurd none
vouch_top random left why low mid done shelf top new key dir (unwritten sig signs is or) holds = holds_top shelf dir top new (Ok signs.index) holds signs.reserves

nothing_holds : (before after : ShelfState) (dir : List ℕ) (top new : KeyState) → new ≡ top → after ≡ before → (IsTrue before.tells → AreLowersIn before dir)
    → (after.tells ≡ before.tells) × (IsTrue before.tells → (HoldsKey before dir top → HoldsKey after dir new) × AreLowersIn after dir × KeepsElse dir before after)
nothing_holds before after dir top new same_top same lowers = (
  ap (λ (s : ShelfState). s.tells) same,
  λ tells. (
    λ holds. refused_top dir after top new same_top (subst (λ (s : ShelfState). HoldsKey s dir top) (sym same) holds),
    subst (λ (s : ShelfState). AreLowersIn s dir) (sym same) (lowers tells),
    keeps_same dir before after same,
  ),
)

leaves_hold : (index : ℕ) (dir : List ℕ) (before after : ShelfState) (top new : KeyState) → LeavesIn (low_dir dir index) before after → (IsTrue before.tells → AreLowersIn before dir)
    → ((shelf : ShelfState) → HoldsKey shelf dir top → HoldsKey shelf dir new) → (after.tells ≡ before.tells) × (IsTrue before.tells → (HoldsKey before dir top → HoldsKey after dir new) × AreLowersIn after dir × KeepsElse dir before after)
leaves_hold index dir before after top new leaves lowers then = (
  leaves.tells,
  λ tells. (
    λ holds. then after (holds_else (low_dir dir index) dir before after top (leaves.else_same tells) (λ same. low-ne dir index (sym same)) holds),
    lowers_in (low_dir dir index) dir before after (leaves.low_in tells) (leaves.else_same tells) (but_one (low_dir dir index) dir before (lowers tells)),
    keeps_lower dir (low_dir dir index) index before after refl (leaves.else_same tells),
  ),
)

-- Where none was made, nothing of a lower key is handed out, and the top key is held.
pub refused_holds : (random left : Stream) (why : HssFault) (before after : ShelfState) (dir : List ℕ) (top new : KeyState) → RefusesLower random before dir top why new after left
    → (IsTrue before.tells → AreLowersIn before dir) → (after.tells ≡ before.tells) × (IsTrue before.tells → (HoldsKey before dir top → HoldsKey after dir new) × AreLowersIn after dir × KeepsElse dir before after)
refused_holds random left why before after dir top new (top_spent is spent same_top same drawn) lowers = nothing_holds before after dir top new same_top same lowers
refused_holds random left why before after dir top new (no_memory is same_top same drawn) lowers = nothing_holds before after dir top new same_top same lowers
refused_holds random left why before after dir top new (refuses_key index least opened same_top) lowers =
    leaves_hold index dir before after top new (opens_leaves top.secret.lms top.secret.ots random left why (low_dir dir index) before after (λ tells. lowers tells index) opened) lowers
    (λ shelf holds. refused_top dir shelf top new same_top holds)
refused_holds random left why before after dir top new (no_vouching index key mid done between least takes has_left vouches puts) lowers =
    let low = low_dir dir index in
    let peers = peers_after top.secret.lms top.secret.ots random between low before mid key (λ tells. lowers tells index) takes in
    let v = vouch_leaves between left why low mid done top new (public_key key.secret) peers vouches in
    leaves_hold index dir before after top new (back_leaves top.secret.lms top.secret.ots random between low before mid done after key takes v.0 v.1.0 v.1.1 puts) lowers
    (λ shelf holds. vouch_top between left why low mid done shelf top new (public_key key.secret) dir vouches holds)

vouch_secret : (random left : Stream) (why : HssFault) (low : List ℕ) (mid done : ShelfState) (top new : KeyState) (key : AuthorKey) → VouchesNot random mid low top key why new done left → new.secret ≡ top.secret
vouch_secret random left why low mid done top new key (unsigned none same) = none_secret why none
  where
    none_secret : (why : HssFault) → SignsNone top random why new left → new.secret ≡ top.secret
    none_secret Memory none = ap (λ (k : KeyState). k.secret) none.0
    none_secret Disk none = (key_alone top new (Err reserve.DiskFault) none.0).1
    none_secret KeyThere none = absurd none
    none_secret NoKey none = absurd none
    none_secret BadKey none = absurd none
    none_secret Spent none = absurd none
vouch_secret random left why low mid done top new key (unwritten sig signs is or) = (key_alone top new (Ok signs.index) signs.reserves).1

-- the top key stays the same key
pub refused_secret : (random left : Stream) (why : HssFault) (before after : ShelfState) (dir : List ℕ) (top new : KeyState) → RefusesLower random before dir top why new after left → new.secret ≡ top.secret
refused_secret random left why before after dir top new (top_spent is spent same_top same drawn) = ap (λ (k : KeyState). k.secret) same_top
refused_secret random left why before after dir top new (no_memory is same_top same drawn) = ap (λ (k : KeyState). k.secret) same_top
refused_secret random left why before after dir top new (refuses_key index least opened same_top) = ap (λ (k : KeyState). k.secret) same_top
refused_secret random left why before after dir top new (no_vouching index key mid done between least takes has_left vouches puts) = vouch_secret between left why (low_dir dir index) mid done top new (public_key key.secret) vouches

-- ---- the same under other names

pub takes_as : (lms lms' : LmsType) (ots ots' : OtsType) (dir dir' : List ℕ) (random left : Stream) (before after : ShelfState) (key : KeyState) → lms ≡ lms' → ots ≡ ots' → dir ≡ dir' → TakesLower lms ots random before dir key after left
    → TakesLower lms' ots' random before dir' key after left
takes_as lms lms' ots ots' dir dir' random left before after key a b d takes =
    subst (λ (x : List ℕ). TakesLower lms' ots' random before x key after left) d
    (subst (λ (x : OtsType). TakesLower lms' x random before dir key after left) b (subst (λ (x : LmsType). TakesLower x ots random before dir key after left) a takes))

pub opens_as : (lms lms' : LmsType) (ots ots' : OtsType) (dir dir' : List ℕ) (random left : Stream) (before after : ShelfState) (why : HssFault) → lms ≡ lms' → ots ≡ ots' → dir ≡ dir' → OpensNoLower lms ots random before dir why after left
    → OpensNoLower lms' ots' random before dir' why after left
opens_as lms lms' ots ots' dir dir' random left before after why a b d opens =
    subst (λ (x : List ℕ). OpensNoLower lms' ots' random before x why after left) d
    (subst (λ (x : OtsType). OpensNoLower lms' x random before dir why after left) b (subst (λ (x : LmsType). OpensNoLower x ots random before dir why after left) a opens))

-- what is held of a lower key that was not vouched for
pub vouch_holds : (random left : Stream) (why : HssFault) (low : List ℕ) (mid done : ShelfState) (top new : KeyState) (key : AuthorKey) (store : KeyState) → VouchesNot random mid low top key why new done left → IsTrue mid.tells
    → HoldsKey mid low store → HoldsKey done low store
vouch_holds random left why low mid done top new key store (unsigned none same) tells holds = subst (λ (s : ShelfState). HoldsKey s low store) (sym same) holds
vouch_holds random left why low mid done top new key store (unwritten sig signs is (inl same)) tells holds = subst (λ (s : ShelfState). HoldsKey s low store) (sym same) holds
vouch_holds random left why low mid done top new key store (unwritten sig signs is (inr writes)) tells holds =
    let p = peers_not_key mid done low (writes.others tells) in
    holds_by mid done low store p.0 p.1 holds
