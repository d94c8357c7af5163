use Rattle.std.proofs.Common.{◌≡◌, ◌≢◌, ◌∙◌, ℕ, List, refl, sym, ap, subst, IsTrue, Some, None, Option, rules}
use Rattle.std.specs.Prelude.{string_bytes}
use Rattle.std.proofs.lemmas.Result.{err_from_is_err_and}
use Rattle.update_model.specs.declared.author_key.AuthorKey.{AuthorKey}
use Rattle.bec_disk.specs.declared.gated.Gated.{Gated}
use Rattle.bec_disk.specs.declared.gated.Gated.TheVariants.{Absent, Damaged, Whole}
use Rattle.bec_disk.specs.declared.part.Part.TheVariants.{Key, Used, Peers}
use Rattle.bec_disk.specs.Shelf.{out}
use Rattle.lms_tree.specs.SecretKey.{public_key}
use Rattle.key_index.specs.KeyState.{IsLast}
use Rattle.key_directory.specs.Keys.{TakesKey}
use Rattle.key_directory.specs.Parts.{part_in, reading}
use Rattle.key_directory.proofs.Putting.{told}
use Rattle.hss_directory.specs.Opening.{IsUnvouchedCause, VouchesFor, none_used, recorded, unrecorded}
use Rattle.hss_directory.specs.Peers.{ReadsPeers, peers_in}
use Rattle.hss_directory.specs.Values.{low_dir}
use Rattle.hss_directory.proofs.Causes.{damaged_cause, unread_cause, vouched_cause}
use Rattle.hss_directory.proofs.Keys.{only_same, only_through}
use Rattle.hss_directory.proofs.Opens.{peers_in_place, peers_only}
use Rattle.hss_directory.proofs.opening.current_lower.Goals as goal

pub returns-in_default-clause-finds : goal.returns-in_default-clause-finds
returns-in_default-clause-finds g c =
    let last : IsLast c.args.top.now None = search rules in
    none_used last refl refl

pub returns-in_err-low-clause-only : goal.returns-in_err-low-clause-only
returns-in_err-low-clause-only g c =
    let p = err_from_is_err_and c.from_residual.result c.from_residual.ensures.1 in
    rw p.1 (only_same (g.H.Shelf.state c.args.shelf.now) (g.H.Shelf.state c.args.shelf.now) refl)

pub returns-in_err-low-clause-refused : goal.returns-in_err-low-clause-refused
returns-in_err-low-clause-refused g c =
    let p = err_from_is_err_and c.from_residual.result c.from_residual.ensures.1 in
    rw (p.1, p.2) (λ tells. tt)

pub read_peers-requires : goal.read_peers-requires
read_peers-requires g c tells =
    let before = g.H.Shelf.state c.args.shelf.now in
    let dir = c.args.dir.now in
    let index = c.in-Some.index in
    let low : List ℕ = low_dir dir index in
    let low_is : c.as_str.result.now ≡ low = c.as_str.ensures.value ∙ c.in_ok-low.ensures in
    subst (λ (d : List ℕ). part_in before d Peers ≢ out) (sym low_is) (c.requires tells index).peers_in

pub returns-in_err-read_peers-clause-only : goal.returns-in_err-read_peers-clause-only
returns-in_err-read_peers-clause-only g c =
    let p = err_from_is_err_and c.from_residual-in_err-read_peers.result c.from_residual-in_err-read_peers.ensures.1 in
    rw p.1 (peers_only (g.H.Shelf.state c.args.shelf.now) (g.H.Shelf.state c.read_peers.new.shelf) c.as_str.result.now c.in_err-read_peers.ensures.reads)

pub returns-in_err-read_peers-clause-refused : goal.returns-in_err-read_peers-clause-refused
returns-in_err-read_peers-clause-refused g c =
    let p = err_from_is_err_and c.from_residual-in_err-read_peers.result c.from_residual-in_err-read_peers.ensures.1 in
    rw (p.1, p.2) (λ tells. unread_cause (g.H.Shelf.state c.args.shelf.now) c.args.dir.now c.args.top.now c.in_err-read_peers.field-0.0)

pub returns-in-Absent-clause-finds : goal.returns-in-Absent-clause-finds
returns-in-Absent-clause-finds g c =
    let before = g.H.Shelf.state c.args.shelf.now in
    let mid = g.H.Shelf.state c.read_peers.new.shelf in
    let dir = c.args.dir.now in
    let top = c.args.top.now in
    let index = c.in-Some.index in
    let low : List ℕ = low_dir dir index in
    let low_is : c.as_str.result.now ≡ low = c.as_str.ensures.value ∙ c.in_ok-low.ensures in
    let last : IsLast top (Some index) = subst (λ (o : Option ℕ). IsLast top o) c.in-Some.is c.last.ensures in
    let reads = subst (λ (d : List ℕ). ReadsPeers before d mid) low_is c.in_ok-read_peers.ensures.reads in
    let absent : IsTrue before.tells → peers_in before low ≡ Absent = λ tells. sym (subst (λ (d : List ℕ). Absent ≡ peers_in before d) low_is (subst (λ (x : Gated). x ≡ peers_in before c.as_str.result.now) c.in-Absent.is (c.in_ok-read_peers.ensures.value tells))) in
    unrecorded index last absent reads refl

pub returns-in-Damaged-clause-only : goal.returns-in-Damaged-clause-only
returns-in-Damaged-clause-only g c = peers_only (g.H.Shelf.state c.args.shelf.now) (g.H.Shelf.state c.read_peers.new.shelf) c.as_str.result.now c.in_ok-read_peers.ensures.reads

pub returns-in-Damaged-clause-refused : goal.returns-in-Damaged-clause-refused
returns-in-Damaged-clause-refused g c tells =
    let before = g.H.Shelf.state c.args.shelf.now in
    let mid = g.H.Shelf.state c.read_peers.new.shelf in
    let dir = c.args.dir.now in
    let top = c.args.top.now in
    let index = c.in-Some.index in
    let low : List ℕ = low_dir dir index in
    let low_is : c.as_str.result.now ≡ low = c.as_str.ensures.value ∙ c.in_ok-low.ensures in
    let last : IsLast top (Some index) = subst (λ (o : Option ℕ). IsLast top o) c.in-Some.is c.last.ensures in
    damaged_cause before dir top index last (subst (λ (d : List ℕ). Damaged ≡ peers_in before d) low_is (subst (λ (x : Gated). x ≡ peers_in before c.as_str.result.now) c.in-Damaged.is (c.in_ok-read_peers.ensures.value tells)))

pub vouched_lower-requires-clause-key_in : goal.vouched_lower-requires-clause-key_in
vouched_lower-requires-clause-key_in g c tells =
    let before = g.H.Shelf.state c.args.shelf.now in
    let mid = g.H.Shelf.state c.read_peers.new.shelf in
    let dir = c.args.dir.now in
    let top = c.args.top.now in
    let index = c.in-Some.index in
    let low : List ℕ = low_dir dir index in
    let low_is : c.as_str.result.now ≡ low = c.as_str.ensures.value ∙ c.in_ok-low.ensures in
    let last : IsLast top (Some index) = subst (λ (o : Option ℕ). IsLast top o) c.in-Some.is c.last.ensures in
    let reads = subst (λ (d : List ℕ). ReadsPeers before d mid) low_is c.in_ok-read_peers.ensures.reads in
    let t : IsTrue before.tells = told mid.tells before.tells (sym reads.tells) tells in
    subst (λ (d : List ℕ). part_in mid d Key ≢ out) (sym c.in_ok-low.ensures) (peers_in_place before mid low t (c.requires t index) reads).key_in

pub vouched_lower-requires-clause-used_in : goal.vouched_lower-requires-clause-used_in
vouched_lower-requires-clause-used_in g c tells =
    let before = g.H.Shelf.state c.args.shelf.now in
    let mid = g.H.Shelf.state c.read_peers.new.shelf in
    let dir = c.args.dir.now in
    let top = c.args.top.now in
    let index = c.in-Some.index in
    let low : List ℕ = low_dir dir index in
    let low_is : c.as_str.result.now ≡ low = c.as_str.ensures.value ∙ c.in_ok-low.ensures in
    let last : IsLast top (Some index) = subst (λ (o : Option ℕ). IsLast top o) c.in-Some.is c.last.ensures in
    let reads = subst (λ (d : List ℕ). ReadsPeers before d mid) low_is c.in_ok-read_peers.ensures.reads in
    let t : IsTrue before.tells = told mid.tells before.tells (sym reads.tells) tells in
    subst (λ (d : List ℕ). part_in mid d Used ≢ out) (sym c.in_ok-low.ensures) (peers_in_place before mid low t (c.requires t index) reads).used_in

pub returns-in-Ok-clause-finds : goal.returns-in-Ok-clause-finds
returns-in-Ok-clause-finds g c =
    let before = g.H.Shelf.state c.args.shelf.now in
    let mid = g.H.Shelf.state c.read_peers.new.shelf in
    let dir = c.args.dir.now in
    let top = c.args.top.now in
    let index = c.in-Some.index in
    let low : List ℕ = low_dir dir index in
    let low_is : c.as_str.result.now ≡ low = c.as_str.ensures.value ∙ c.in_ok-low.ensures in
    let last : IsLast top (Some index) = subst (λ (o : Option ℕ). IsLast top o) c.in-Some.is c.last.ensures in
    let found = c.in-Ok.lower in
    let e = c.in-Ok.ensures in
    let name : List ℕ = string_bytes c.in_ok-low.low in
    let same_name : c.as_str.result.now ≡ found.dir = c.as_str.ensures.value ∙ sym e.place in
    let payload : List ℕ = c.as_slice.result.now in
    let whole : IsTrue before.tells → peers_in before found.dir ≡ Whole payload =
    λ tells. sym (subst (λ (x : List ℕ). Whole x ≡ peers_in before found.dir) (sym c.as_slice.ensures)
    (subst (λ (d : List ℕ). Whole c.in-Whole.payload ≡ peers_in before d) same_name (subst (λ (x : Gated). x ≡ peers_in before c.as_str.result.now) c.in-Whole.is (c.in_ok-read_peers.ensures.value tells)))) in
    let reads = subst (λ (d : List ℕ). ReadsPeers before d mid) same_name c.in_ok-read_peers.ensures.reads in
    let takes = subst (λ (d : List ℕ). TakesKey mid d found.key (g.H.Shelf.state c.vouched_lower.new.shelf)) (sym e.place) e.takes in
    let last_found = subst (λ (k : ℕ). IsLast top (Some k)) (sym e.index) last in
    let place : found.dir ≡ low_dir dir found.index = e.place ∙ c.in_ok-low.ensures ∙ ap (λ (k : ℕ). low_dir dir k) (sym e.index) in
    let vouches = subst (λ (k : ℕ). VouchesFor (public_key top.secret) (public_key found.key.secret) k payload found.top_sig) (sym e.index)
    (subst (λ (k : AuthorKey). VouchesFor k (public_key found.key.secret) index payload found.top_sig) c.public.ensures.value e.vouches) in
    recorded found mid payload last_found place whole reads takes vouches refl

pub returns-clause-only : goal.returns-clause-only
returns-clause-only g c =
    only_through (g.H.Shelf.state c.args.shelf.now) (g.H.Shelf.state c.read_peers.new.shelf) (g.H.Shelf.state c.vouched_lower.new.shelf)
    (peers_only (g.H.Shelf.state c.args.shelf.now) (g.H.Shelf.state c.read_peers.new.shelf) c.as_str.result.now c.in_ok-read_peers.ensures.reads) c.in-Err.ensures.only

pub returns-clause-refused : goal.returns-clause-refused
returns-clause-refused g c tells =
    let before = g.H.Shelf.state c.args.shelf.now in
    let mid = g.H.Shelf.state c.read_peers.new.shelf in
    let dir = c.args.dir.now in
    let top = c.args.top.now in
    let index = c.in-Some.index in
    let low : List ℕ = low_dir dir index in
    let low_is : c.as_str.result.now ≡ low = c.as_str.ensures.value ∙ c.in_ok-low.ensures in
    let last : IsLast top (Some index) = subst (λ (o : Option ℕ). IsLast top o) c.in-Some.is c.last.ensures in
    let reads = subst (λ (d : List ℕ). ReadsPeers before d mid) low_is c.in_ok-read_peers.ensures.reads in
    let why = c.in-Err.why in
    let payload : List ℕ = c.as_slice.result.now in
    let whole : Whole payload ≡ peers_in before low =
    subst (λ (x : List ℕ). Whole x ≡ peers_in before low) (sym c.as_slice.ensures)
    (subst (λ (d : List ℕ). Whole c.in-Whole.payload ≡ peers_in before d) low_is (subst (λ (x : Gated). x ≡ peers_in before c.as_str.result.now) c.in-Whole.is (c.in_ok-read_peers.ensures.value tells))) in
    let cause = c.in-Err.ensures.refused (told before.tells mid.tells reads.tells tells) in
    let at_low = subst (λ (d : List ℕ). IsUnvouchedCause c.public.result index payload (reading (part_in mid d Key)) (reading (part_in mid d Used)) why) c.in_ok-low.ensures cause in
    vouched_cause before mid dir top index payload why last whole tells reads
    (subst (λ (k : AuthorKey). IsUnvouchedCause k index payload (reading (part_in mid low Key)) (reading (part_in mid low Used)) why) c.public.ensures.value at_low)
