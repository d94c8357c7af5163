-- Why keys are not opened.
use Rattle.std.proofs.Common.{◌≡◌, ◌⊎◌, inl, inr, ℕ, List, refl, sym, ◌∙◌, ap, subst, IsTrue, Some, None, Option, Result, Err}
use Rattle.bec_disk.specs.declared.disk_error.DiskError.{DiskError}
use Rattle.bec_disk.specs.declared.disk_error.DiskError.TheVariants as disk
use Rattle.bec_disk.specs.declared.gated.Gated.TheVariants.{Absent, Damaged, Whole}
use Rattle.bec_disk.specs.declared.part.Part.TheVariants.{Key, Used, Peers}
use Rattle.bec_disk.specs.Shelf.{ShelfState}
use Rattle.lms_tree.specs.SecretKey.{SecretData, public_key}
use Rattle.key_index.specs.KeyState.{IsLast, KeyState}
use Rattle.key_index.specs.declared.faults.CreateKeyKind.{CreateKeyKind}
use Rattle.key_index.specs.declared.faults.CreateKeyKind.TheVariants as creating
use Rattle.key_directory.specs.Keys.{IsKeyCause, IsKeyRefusalCause, IsNewKeyCause, IsNoKey, LetsKeyGo, TakesKey}
use Rattle.key_directory.specs.Parts.{part_in, reading}
use Rattle.key_directory.specs.declared.key_refusal.KeyRefusal.{KeyRefusal}
use Rattle.key_directory.specs.declared.key_refusal.KeyRefusal.TheVariants as opening
use Rattle.update_model.specs.declared.author_key.AuthorKey.{AuthorKey}
use Rattle.hss_directory.specs.Calls.{IsOpeningCause}
use Rattle.hss_directory.specs.Faults.{from_disk, from_opening, lower_fault, making_fault}
use Rattle.hss_directory.specs.Lower.{IsLowerCause}
use Rattle.hss_directory.specs.Opening.{AreUnvouched, IsUnfound, IsUnfoundCause, IsUnvouchedCause, VouchesFor}
use Rattle.hss_directory.specs.Peers.{ReadsPeers, peers_in}
use Rattle.hss_directory.specs.Values.{low_dir}
use Rattle.key_directory.proofs.Putting.{told}
use Rattle.hss_directory.proofs.Keys.{untouched_reading}
use Rattle.hss_directory.proofs.Places.{peers_not_key}
use Rattle.hss_directory.specs.declared.fault.HssFault.{HssFault}
use Rattle.hss_directory.specs.declared.fault.HssFault.TheVariants.{Disk, KeyThere, NoKey, BadKey, Spent, Memory}

-- the top key's own
pub opening_cause : (shelf : ShelfState) (dir : List ℕ) (why : KeyRefusal) → IsKeyCause shelf dir why → IsOpeningCause shelf dir (from_opening why)
opening_cause shelf dir opening.NoKey cause = cause
opening_cause shelf dir opening.BadKey cause = inl cause
opening_cause shelf dir opening.DiskFault cause = tt
opening_cause shelf dir opening.Memory cause = tt

-- and of the lower key
pub unfound_cause : (shelf mid : ShelfState) (dir : List ℕ) (top : KeyState) (why : HssFault) → TakesKey shelf dir top mid → IsUnfoundCause mid dir top why → IsOpeningCause shelf dir why
unfound_cause shelf mid dir top BadKey takes cause = inr (top, (mid, (takes, cause)))
unfound_cause shelf mid dir top Disk takes cause = tt
unfound_cause shelf mid dir top Memory takes cause = tt
unfound_cause shelf mid dir top KeyThere takes cause = absurd cause
unfound_cause shelf mid dir top NoKey takes cause = absurd cause
unfound_cause shelf mid dir top Spent takes cause = absurd cause

-- a lower key that was not taken
pub unvouched_refusal : (top : AuthorKey) (index : ℕ) (payload : List ℕ) (key used : Option (List ℕ)) (why : KeyRefusal) → IsKeyRefusalCause key used why → IsUnvouchedCause top index payload key used (lower_fault why)
unvouched_refusal top index payload key used opening.NoKey cause = inl cause
unvouched_refusal top index payload key used opening.BadKey cause = inr (inl cause)
unvouched_refusal top index payload key used opening.DiskFault cause = tt
unvouched_refusal top index payload key used opening.Memory cause = tt

-- or is not vouched for
pub unvouched_key : (shelf after : ShelfState) (dir : List ℕ) (top : AuthorKey) (index : ℕ) (payload : List ℕ) (key : KeyState) (why : HssFault) → TakesKey shelf dir key after
    → (why ≡ Memory) ⊎ ((why ≡ BadKey) × ((sig : List ℕ) → VouchesFor top (public_key key.secret) index payload sig → ⊥)) → IsTrue shelf.tells
    → IsUnvouchedCause top index payload (reading (part_in shelf dir Key)) (reading (part_in shelf dir Used)) why
unvouched_key shelf after dir top index payload key why takes (inl is) tells = subst (λ (w : HssFault). IsUnvouchedCause top index payload (reading (part_in shelf dir Key)) (reading (part_in shelf dir Used)) w) (sym is) tt
unvouched_key shelf after dir top index payload key why takes (inr bad) tells =
    subst (λ (w : HssFault). IsUnvouchedCause top index payload (reading (part_in shelf dir Key)) (reading (part_in shelf dir Used)) w) (sym bad.0)
    (inr (inr (key.secret, takes.reads tells, bad.1)))

-- a part Peers that is damaged, and one that vouches for another key
pub damaged_cause : (shelf : ShelfState) (dir : List ℕ) (top : KeyState) (index : ℕ) → IsLast top (Some index) → Damaged ≡ peers_in shelf (low_dir dir index) → IsUnfoundCause shelf dir top BadKey
damaged_cause shelf dir top index last is = (index, last, inl (sym is))

pub vouched_cause : (shelf mid : ShelfState) (dir : List ℕ) (top : KeyState) (index : ℕ) (payload : List ℕ) (why : HssFault) → IsLast top (Some index) → Whole payload ≡ peers_in shelf (low_dir dir index)
    → IsTrue shelf.tells → ReadsPeers shelf (low_dir dir index) mid
    → IsUnvouchedCause (public_key top.secret) index payload (reading (part_in mid (low_dir dir index) Key)) (reading (part_in mid (low_dir dir index) Used)) why → IsUnfoundCause shelf dir top why
vouched_cause shelf mid dir top index payload BadKey last is tells reads cause =
    let low = low_dir dir index in
    let others = peers_not_key shelf mid low (reads.others tells) in (
      index,
      last,
      inr (
        payload,
        sym is,
        subst (λ (k : Option (List ℕ)). AreUnvouched (public_key top.secret) index payload k (reading (part_in shelf low Used))) (ap reading others.0)
            (subst (λ (u : Option (List ℕ)). AreUnvouched (public_key top.secret) index payload (reading (part_in mid low Key)) u) (ap reading others.1) cause),
      ),
    )
vouched_cause shelf mid dir top index payload Disk last is tells reads cause = tt
vouched_cause shelf mid dir top index payload Memory last is tells reads cause = tt
vouched_cause shelf mid dir top index payload KeyThere last is tells reads cause = absurd cause
vouched_cause shelf mid dir top index payload NoKey last is tells reads cause = absurd cause
vouched_cause shelf mid dir top index payload Spent last is tells reads cause = absurd cause

-- ---- taking or making

pub no_key : (shelf : ShelfState) (dir : List ℕ) (why : KeyRefusal) → why ≡ opening.NoKey → (IsTrue shelf.tells → IsKeyCause shelf dir why) → IsTrue shelf.tells → IsNoKey (reading (part_in shelf dir Key))
no_key shelf dir why is cause tells = subst (λ (w : KeyRefusal). IsKeyCause shelf dir w) is (cause tells)

-- where there was none, one is not there
never_there : (shelf mid : ShelfState) (dir : List ℕ) → LetsKeyGo shelf dir mid → (IsTrue shelf.tells → IsNoKey (reading (part_in shelf dir Key)))
    → (IsTrue mid.tells → IsNewKeyCause (reading (part_in mid dir Key)) creating.KeyThere) → IsTrue shelf.tells → ⊥
never_there shelf mid dir goes none cause tells =
    cause (told shelf.tells mid.tells goes.tells tells)
    (subst IsNoKey (sym (untouched_reading (part_in shelf dir Key) (part_in mid dir Key) (goes.key_part tells))) (none tells))

pub making_cause : (shelf mid : ShelfState) (dir : List ℕ) (why : CreateKeyKind) → LetsKeyGo shelf dir mid → (IsTrue shelf.tells → IsNoKey (reading (part_in shelf dir Key)))
    → (IsTrue mid.tells → IsNewKeyCause (reading (part_in mid dir Key)) why) → IsTrue shelf.tells → (making_fault why ≡ Disk) ⊎ (making_fault why ≡ Memory)
making_cause shelf mid dir creating.KeyThere goes none cause tells = absurd (never_there shelf mid dir goes none cause tells)
making_cause shelf mid dir creating.DiskFault goes none cause tells = inl refl
making_cause shelf mid dir creating.Memory goes none cause tells = inr refl

-- a part Peers that was not read
pub unread_cause : (shelf : ShelfState) (dir : List ℕ) (top : KeyState) (error : DiskError) → IsUnfoundCause shelf dir top (from_disk error)
unread_cause shelf dir top disk.DiskFault = tt
unread_cause shelf dir top disk.Memory = tt

pub err_same : {T : Type 0} (a b : HssFault) → ◌≡◌ {A = Result T HssFault} (Err a) (Err b) → a ≡ b
err_same a b is = cc
