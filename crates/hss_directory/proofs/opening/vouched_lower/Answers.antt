use Rattle.std.proofs.Common.{◌≡◌, ◌≢◌, ◌∙◌, ◌⊎◌, inl, inr, ℕ, List, refl, sym, ap, subst, IsTrue, Some}
use Rattle.std.specs.Prelude.{string_bytes}
use Rattle.update_model.specs.declared.author_key.AuthorKey.{AuthorKey}
use Rattle.bec_disk.specs.declared.part.Part.TheVariants.{Key, Used}
use Rattle.bec_disk.specs.Shelf.{out}
use Rattle.bec_disk.specs.Slot.{slot}
use Rattle.lms_tree.specs.SecretKey.{public_key}
use Rattle.key_directory.specs.Keys.{IsKeyCause, PutsKey, TakesKey}
use Rattle.key_directory.specs.Parts.{part_in, reading}
use Rattle.key_directory.proofs.Putting.{told}
use Rattle.hss_directory.specs.Opening.{IsUnvouchedCause, VouchesFor}
use Rattle.hss_directory.specs.declared.fault.HssFault.{HssFault}
use Rattle.hss_directory.specs.declared.fault.HssFault.TheVariants.{BadKey, Memory}
use Rattle.hss_directory.proofs.Causes.{unvouched_key, unvouched_refusal}
use Rattle.hss_directory.proofs.Keys.{go_only, holds_taken, only_same, taken_back}
use Rattle.hss_directory.proofs.opening.vouched_lower.Goals as goal

pub take_key-requires-clause-key_in : goal.take_key-requires-clause-key_in
take_key-requires-clause-key_in g c tells = subst (λ (d : List ℕ). part_in (g.H.Shelf.state c.args.shelf.now) d Key ≢ out) (sym c.as_str.ensures.value) (c.requires.key_in tells)

pub take_key-requires-clause-used_in : goal.take_key-requires-clause-used_in
take_key-requires-clause-used_in g c tells = subst (λ (d : List ℕ). part_in (g.H.Shelf.state c.args.shelf.now) d Used ≢ out) (sym c.as_str.ensures.value) (c.requires.used_in tells)

pub returns-in-Err-clause-only : goal.returns-in-Err-clause-only
returns-in-Err-clause-only g c = go_only (g.H.Shelf.state c.args.shelf.now) (g.H.Shelf.state c.take_key.new.shelf) c.as_str.result.now c.in-Err.ensures.lets_go

pub returns-in-Err-clause-refused : goal.returns-in-Err-clause-refused
returns-in-Err-clause-refused g c tells =
    let before = g.H.Shelf.state c.args.shelf.now in
    let dir = string_bytes c.args.dir in
    subst (λ (w : HssFault). IsUnvouchedCause c.args.top.now c.args.index c.args.payload.now (reading (part_in before dir Key)) (reading (part_in before dir Used)) w) (sym c.lower_fault.ensures)
    (unvouched_refusal c.args.top.now c.args.index c.args.payload.now (reading (part_in before dir Key)) (reading (part_in before dir Used)) c.in-Err.why
    (subst (λ (d : List ℕ). IsKeyCause before d c.in-Err.why) c.as_str.ensures.value (c.in-Err.ensures.refused tells)))

pub put_key-requires-clause-key_of : goal.put_key-requires-clause-key_of
put_key-requires-clause-key_of g c tells =
    let before = g.H.Shelf.state c.args.shelf.now in
    let mid = g.H.Shelf.state c.take_key.new.shelf in
    let key = c.in-Ok.key in
    let name : List ℕ = string_bytes c.args.dir in
    let takes = subst (λ (d : List ℕ). TakesKey before d key mid) c.as_str.ensures.value c.in-Ok.ensures.takes in
    let h = holds_taken before mid name key takes (told mid.tells before.tells (sym takes.tells) tells) in
    subst (λ (d : List ℕ). (key.parts.key.slot ≡ Some (slot d Key)) × (part_in mid d Key ≡ out)) (sym c.as_str-in-Err-vouching_in.ensures.value) (h.key_slot, h.key_out)

pub put_key-requires-clause-used_of : goal.put_key-requires-clause-used_of
put_key-requires-clause-used_of g c tells =
    let before = g.H.Shelf.state c.args.shelf.now in
    let mid = g.H.Shelf.state c.take_key.new.shelf in
    let key = c.in-Ok.key in
    let name : List ℕ = string_bytes c.args.dir in
    let takes = subst (λ (d : List ℕ). TakesKey before d key mid) c.as_str.ensures.value c.in-Ok.ensures.takes in
    let h = holds_taken before mid name key takes (told mid.tells before.tells (sym takes.tells) tells) in
    subst (λ (d : List ℕ). (key.parts.used.slot ≡ Some (slot d Used)) × (part_in mid d Used ≡ out)) (sym c.as_str-in-Err-vouching_in.ensures.value) (h.used_slot, h.used_out)

pub returns-in-Ok-vouching_in-clause-takes : goal.returns-in-Ok-vouching_in-clause-takes
returns-in-Ok-vouching_in-clause-takes g c =
    subst (λ (d : List ℕ). TakesKey (g.H.Shelf.state c.args.shelf.now) d c.in-Ok.key (g.H.Shelf.state c.take_key.new.shelf)) c.as_str.ensures.value c.in-Ok.ensures.takes

pub returns-in-Ok-vouching_in-clause-vouches : goal.returns-in-Ok-vouching_in-clause-vouches
returns-in-Ok-vouching_in-clause-vouches g c =
    subst (λ (k : AuthorKey). VouchesFor c.args.top.now k c.args.index c.args.payload.now c.in-Ok-vouching_in.top_sig.items) c.public.ensures.value c.in-Ok-vouching_in.ensures.vouches

pub returns-in-Err-vouching_in-clause-only : goal.returns-in-Err-vouching_in-clause-only
returns-in-Err-vouching_in-clause-only g c =
    let before = g.H.Shelf.state c.args.shelf.now in
    let mid = g.H.Shelf.state c.take_key.new.shelf in
    let key = c.in-Ok.key in
    let name : List ℕ = string_bytes c.args.dir in
    let takes = subst (λ (d : List ℕ). TakesKey before d key mid) c.as_str.ensures.value c.in-Ok.ensures.takes in
    let puts = subst (λ (d : List ℕ). PutsKey mid d key.parts (g.H.Shelf.state c.put_key.new.shelf)) c.as_str-in-Err-vouching_in.ensures.value c.put_key.ensures.puts in
    taken_back before mid mid (g.H.Shelf.state c.put_key.new.shelf) name key takes (only_same mid mid refl) puts

pub returns-in-Err-vouching_in-clause-refused : goal.returns-in-Err-vouching_in-clause-refused
returns-in-Err-vouching_in-clause-refused g c tells =
    let before = g.H.Shelf.state c.args.shelf.now in
    let mid = g.H.Shelf.state c.take_key.new.shelf in
    let key = c.in-Ok.key in
    let name : List ℕ = string_bytes c.args.dir in
    let takes = subst (λ (d : List ℕ). TakesKey before d key mid) c.as_str.ensures.value c.in-Ok.ensures.takes in
    let top = c.args.top.now in
    let why = c.in-Err-vouching_in.why in
    let refusal = subst (λ (k : AuthorKey). (why ≡ Memory) ⊎ ((why ≡ BadKey) × ((sig : List ℕ) → VouchesFor top k c.args.index c.args.payload.now sig → ⊥))) c.public.ensures.value c.in-Err-vouching_in.ensures.refused in
    unvouched_key before mid name top c.args.index c.args.payload.now key why takes refusal tells
