use Rattle.std.proofs.Common.{◌≡◌, ◌≢◌, ◌∙◌, arith, ℕ, List, inl, inr, refl, sym, ap, subst, IsTrue, Err, Some, Option, rules}
use Rattle.std.specs.Prelude.{is_some, string_bytes}
use Rattle.std.proofs.lemmas.Result.{err_from_is_err_and}
use Rattle.update_model.specs.declared.author_key.AuthorKey.{AuthorKey}
use Rattle.bec_disk.specs.declared.part.Part.TheVariants.{Key, Used, Peers}
use Rattle.bec_disk.specs.Shelf.{out}
use Rattle.bec_disk.specs.Slot.{slot}
use Rattle.lms_tree.specs.SecretKey.{public_key}
use Rattle.key_index.specs.Used.{least_unused}
use Rattle.key_directory.specs.Keys.{PutsKey}
use Rattle.key_directory.specs.Parts.{part_in}
use Rattle.key_directory.proofs.Putting.{told}
use Rattle.hss_directory.specs.Lower.{TakesLower, Vouches, VouchesNot, no_memory, no_vouching, refuses_key, top_spent}
use Rattle.hss_directory.specs.Values.{IsSpent, low_dir}
use Rattle.hss_directory.specs.declared.fault.HssFault.{HssFault}
use Rattle.hss_directory.proofs.Causes.{err_same}
use Rattle.hss_directory.proofs.Keys.{holds_lower, lower_tells}
use Rattle.hss_directory.proofs.Lowers.{opens_as, peers_after, takes_as, vouch_holds, vouch_leaves}
use Rattle.hss_directory.proofs.making.next_lower.Goals as goal

pub returns-in_default-clause-refused : goal.returns-in_default-clause-refused
returns-in_default-clause-refused g c =
    let spent : IsSpent c.args.top.now = search rules in
    top_spent refl spent refl refl refl

pub returns-in_err-low-clause-refused : goal.returns-in_err-low-clause-refused
returns-in_err-low-clause-refused g c =
    let p = err_from_is_err_and c.from_residual.result c.from_residual.ensures.1 in
    rw (p.1, p.2) (no_memory refl refl refl refl)

pub open_lower-requires-clause-key_in : goal.open_lower-requires-clause-key_in
open_lower-requires-clause-key_in g c tells =
    subst (λ (d : List ℕ). part_in (g.H.Shelf.state c.args.shelf.now) d Key ≢ out) (sym (c.as_str.ensures.value ∙ c.in_ok-low.ensures)) (c.requires tells c.in-Some.index).key_in

pub open_lower-requires-clause-used_in : goal.open_lower-requires-clause-used_in
open_lower-requires-clause-used_in g c tells =
    subst (λ (d : List ℕ). part_in (g.H.Shelf.state c.args.shelf.now) d Used ≢ out) (sym (c.as_str.ensures.value ∙ c.in_ok-low.ensures)) (c.requires tells c.in-Some.index).used_in

pub returns-in_err-key-clause-refused : goal.returns-in_err-key-clause-refused
returns-in_err-key-clause-refused g c =
    let p = err_from_is_err_and c.from_residual-in_err-key.result c.from_residual-in_err-key.ensures.1 in
    let before = g.H.Shelf.state c.args.shelf.now in
    let top = c.args.top.now in
    let index = c.in-Some.index in
    let low : List ℕ = low_dir c.args.dir.now index in
    let least : least_unused top.taken ≡ Some index = sym c.next.ensures ∙ c.in-Some.is in
    let lms = c.types_of-types.ensures.lms top.secret.lms (ap (λ (k : AuthorKey). k.lms) c.public.ensures.value) in
    let ots = c.types_of-types.ensures.ots top.secret.ots (ap (λ (k : AuthorKey). k.ots) c.public.ensures.value) in
    let random = g.R.Rng.stream c.args.random.now in
    let opens = opens_as c.types_of-types.result.lms top.secret.lms c.types_of-types.result.ots top.secret.ots c.as_str.result.now low random (g.R.Rng.stream c.open_lower.new.random) before (g.H.Shelf.state c.open_lower.new.shelf) c.in_err-key.field-0.0
    lms ots (c.as_str.ensures.value ∙ c.in_ok-low.ensures) c.in_err-key.ensures.lets_go in
    rw (p.1, p.2) (refuses_key index least opens refl)

pub vouch-requires-clause-has_left : goal.vouch-requires-clause-has_left
vouch-requires-clause-has_left g c = ap is_some (sym c.next.ensures ∙ c.in-Some.is)

pub vouch-requires-clause-peers_in : goal.vouch-requires-clause-peers_in
vouch-requires-clause-peers_in g c tells =
    let before = g.H.Shelf.state c.args.shelf.now in
    let top = c.args.top.now in
    let index = c.in-Some.index in
    let low : List ℕ = low_dir c.args.dir.now index in
    let least : least_unused top.taken ≡ Some index = sym c.next.ensures ∙ c.in-Some.is in
    let lms = c.types_of-types.ensures.lms top.secret.lms (ap (λ (k : AuthorKey). k.lms) c.public.ensures.value) in
    let ots = c.types_of-types.ensures.ots top.secret.ots (ap (λ (k : AuthorKey). k.ots) c.public.ensures.value) in
    let random = g.R.Rng.stream c.args.random.now in
    let mid = g.H.Shelf.state c.open_lower.new.shelf in
    let between = g.R.Rng.stream c.open_lower.new.random in
    let key = c.in_ok-key.key in
    let takes = takes_as c.types_of-types.result.lms top.secret.lms c.types_of-types.result.ots top.secret.ots c.as_str.result.now low random between before mid key lms ots (c.as_str.ensures.value ∙ c.in_ok-low.ensures) c.in_ok-key.ensures.takes in
    subst (λ (d : List ℕ). part_in mid d Peers ≢ out) (sym (c.as_str-2.ensures.value ∙ c.in_ok-low.ensures)) (peers_after top.secret.lms top.secret.ots random between low before mid key (λ t. c.requires t index) takes tells)

pub put_key-requires-clause-key_of : goal.put_key-requires-clause-key_of
put_key-requires-clause-key_of g c tells =
    let before = g.H.Shelf.state c.args.shelf.now in
    let top = c.args.top.now in
    let index = c.in-Some.index in
    let low : List ℕ = low_dir c.args.dir.now index in
    let least : least_unused top.taken ≡ Some index = sym c.next.ensures ∙ c.in-Some.is in
    let lms = c.types_of-types.ensures.lms top.secret.lms (ap (λ (k : AuthorKey). k.lms) c.public.ensures.value) in
    let ots = c.types_of-types.ensures.ots top.secret.ots (ap (λ (k : AuthorKey). k.ots) c.public.ensures.value) in
    let random = g.R.Rng.stream c.args.random.now in
    let mid = g.H.Shelf.state c.open_lower.new.shelf in
    let between = g.R.Rng.stream c.open_lower.new.random in
    let key = c.in_ok-key.key in
    let takes = takes_as c.types_of-types.result.lms top.secret.lms c.types_of-types.result.ots top.secret.ots c.as_str.result.now low random between before mid key lms ots (c.as_str.ensures.value ∙ c.in_ok-low.ensures) c.in_ok-key.ensures.takes in
    let done = g.H.Shelf.state c.vouch.new.shelf in
    let left = g.R.Rng.stream c.vouch.new.random in
    let new = c.vouch.new.top in
    let why = c.in-Err.why in
    let none = subst (λ (k : AuthorKey). VouchesNot between mid low top k why new done left) c.public-2.ensures.value
    (subst (λ (d : List ℕ). VouchesNot between mid d top c.public-2.result why new done left) (c.as_str-2.ensures.value ∙ c.in_ok-low.ensures) c.in-Err.ensures.refused) in
    let peers = peers_after top.secret.lms top.secret.ots random between low before mid key (λ t. c.requires t index) takes in
    let v = vouch_leaves between left why low mid done top new (public_key key.secret) peers none in
    let t2 : IsTrue mid.tells = told done.tells mid.tells (sym v.0) tells in
    let t1 : IsTrue before.tells = told mid.tells before.tells (sym (lower_tells top.secret.lms top.secret.ots random between before mid low key takes)) t2 in
    let h = vouch_holds between left why low mid done top new (public_key key.secret) key none t2 (holds_lower top.secret.lms top.secret.ots random between before mid low key takes t1) in
    subst (λ (d : List ℕ). (key.parts.key.slot ≡ Some (slot d Key)) × (part_in done d Key ≡ out)) (sym (c.as_str-in-Err.ensures.value ∙ c.in_ok-low.ensures)) (h.key_slot, h.key_out)

pub put_key-requires-clause-used_of : goal.put_key-requires-clause-used_of
put_key-requires-clause-used_of g c tells =
    let before = g.H.Shelf.state c.args.shelf.now in
    let top = c.args.top.now in
    let index = c.in-Some.index in
    let low : List ℕ = low_dir c.args.dir.now index in
    let least : least_unused top.taken ≡ Some index = sym c.next.ensures ∙ c.in-Some.is in
    let lms = c.types_of-types.ensures.lms top.secret.lms (ap (λ (k : AuthorKey). k.lms) c.public.ensures.value) in
    let ots = c.types_of-types.ensures.ots top.secret.ots (ap (λ (k : AuthorKey). k.ots) c.public.ensures.value) in
    let random = g.R.Rng.stream c.args.random.now in
    let mid = g.H.Shelf.state c.open_lower.new.shelf in
    let between = g.R.Rng.stream c.open_lower.new.random in
    let key = c.in_ok-key.key in
    let takes = takes_as c.types_of-types.result.lms top.secret.lms c.types_of-types.result.ots top.secret.ots c.as_str.result.now low random between before mid key lms ots (c.as_str.ensures.value ∙ c.in_ok-low.ensures) c.in_ok-key.ensures.takes in
    let done = g.H.Shelf.state c.vouch.new.shelf in
    let left = g.R.Rng.stream c.vouch.new.random in
    let new = c.vouch.new.top in
    let why = c.in-Err.why in
    let none = subst (λ (k : AuthorKey). VouchesNot between mid low top k why new done left) c.public-2.ensures.value
    (subst (λ (d : List ℕ). VouchesNot between mid d top c.public-2.result why new done left) (c.as_str-2.ensures.value ∙ c.in_ok-low.ensures) c.in-Err.ensures.refused) in
    let peers = peers_after top.secret.lms top.secret.ots random between low before mid key (λ t. c.requires t index) takes in
    let v = vouch_leaves between left why low mid done top new (public_key key.secret) peers none in
    let t2 : IsTrue mid.tells = told done.tells mid.tells (sym v.0) tells in
    let t1 : IsTrue before.tells = told mid.tells before.tells (sym (lower_tells top.secret.lms top.secret.ots random between before mid low key takes)) t2 in
    let h = vouch_holds between left why low mid done top new (public_key key.secret) key none t2 (holds_lower top.secret.lms top.secret.ots random between before mid low key takes t1) in
    subst (λ (d : List ℕ). (key.parts.used.slot ≡ Some (slot d Used)) × (part_in done d Used ≡ out)) (sym (c.as_str-in-Err.ensures.value ∙ c.in_ok-low.ensures)) (h.used_slot, h.used_out)

pub returns-in-Ok-clause-makes : goal.returns-in-Ok-clause-makes
returns-in-Ok-clause-makes g c =
    let before = g.H.Shelf.state c.args.shelf.now in
    let top = c.args.top.now in
    let index = c.in-Some.index in
    let low : List ℕ = low_dir c.args.dir.now index in
    let least : least_unused top.taken ≡ Some index = sym c.next.ensures ∙ c.in-Some.is in
    let lms = c.types_of-types.ensures.lms top.secret.lms (ap (λ (k : AuthorKey). k.lms) c.public.ensures.value) in
    let ots = c.types_of-types.ensures.ots top.secret.ots (ap (λ (k : AuthorKey). k.ots) c.public.ensures.value) in
    let random = g.R.Rng.stream c.args.random.now in
    let mid = g.H.Shelf.state c.open_lower.new.shelf in
    let between = g.R.Rng.stream c.open_lower.new.random in
    let key = c.in_ok-key.key in
    let name : List ℕ = string_bytes c.in_ok-low.low in
    let after = g.H.Shelf.state c.vouch.new.shelf in
    let left = g.R.Rng.stream c.vouch.new.random in
    let takes = takes_as c.types_of-types.result.lms top.secret.lms c.types_of-types.result.ots top.secret.ots c.as_str.result.now name random between before mid key lms ots c.as_str.ensures.value c.in_ok-key.ensures.takes in
    let vouches = subst (λ (k : AuthorKey). Vouches between mid name top k c.in-Ok.top_sig.items c.vouch.new.top after left) c.public-2.ensures.value
    (subst (λ (d : List ℕ). Vouches between mid d top c.public-2.result c.in-Ok.top_sig.items c.vouch.new.top after left) c.as_str-2.ensures.value c.in-Ok.ensures.vouches) in
    record { mid = mid; between = between; index = least; place = c.in_ok-low.ensures; takes = takes; has_left = c.in_ok-key.ensures.has_left; vouches = vouches }

pub returns-in-Err-clause-refused : goal.returns-in-Err-clause-refused
returns-in-Err-clause-refused g c =
    let before = g.H.Shelf.state c.args.shelf.now in
    let top = c.args.top.now in
    let index = c.in-Some.index in
    let low : List ℕ = low_dir c.args.dir.now index in
    let least : least_unused top.taken ≡ Some index = sym c.next.ensures ∙ c.in-Some.is in
    let lms = c.types_of-types.ensures.lms top.secret.lms (ap (λ (k : AuthorKey). k.lms) c.public.ensures.value) in
    let ots = c.types_of-types.ensures.ots top.secret.ots (ap (λ (k : AuthorKey). k.ots) c.public.ensures.value) in
    let random = g.R.Rng.stream c.args.random.now in
    let mid = g.H.Shelf.state c.open_lower.new.shelf in
    let between = g.R.Rng.stream c.open_lower.new.random in
    let key = c.in_ok-key.key in
    let takes = takes_as c.types_of-types.result.lms top.secret.lms c.types_of-types.result.ots top.secret.ots c.as_str.result.now low random between before mid key lms ots (c.as_str.ensures.value ∙ c.in_ok-low.ensures) c.in_ok-key.ensures.takes in
    let done = g.H.Shelf.state c.vouch.new.shelf in
    let left = g.R.Rng.stream c.vouch.new.random in
    let new = c.vouch.new.top in
    let why = c.in-Err.why in
    let none = subst (λ (k : AuthorKey). VouchesNot between mid low top k why new done left) c.public-2.ensures.value
    (subst (λ (d : List ℕ). VouchesNot between mid d top c.public-2.result why new done left) (c.as_str-2.ensures.value ∙ c.in_ok-low.ensures) c.in-Err.ensures.refused) in
    let puts = subst (λ (d : List ℕ). PutsKey done d key.parts (g.H.Shelf.state c.put_key.new.shelf)) (c.as_str-in-Err.ensures.value ∙ c.in_ok-low.ensures) c.put_key.ensures.puts in
    no_vouching index key mid done between least takes c.in_ok-key.ensures.has_left none puts

pub returns-in-Err-clause-failed : goal.returns-in-Err-clause-failed
returns-in-Err-clause-failed g c is =
    elim (c.in-Err.ensures.failed (ap (λ (w : HssFault). Err w) (err_same _ _ is))) [
      | inl rose ↦ inl (omega (arith, rose, c.in_ok-key.ensures.later, c.put_key.ensures.later))
      | inr rose ↦ inr rose
    ]
