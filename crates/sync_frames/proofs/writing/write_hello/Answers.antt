use Rattle.std.proofs.Common.{◌≡◌, ◌∙◌, ◌++◌, ◌∷◌, [], ◌+◌, ◌*◌, ℕ, List, length, ap, subst, arith}
use Rattle.std.specs.Int.{w16, w32, to_be_bytes}
use Rattle.update_model.specs.declared.update_id.UpdateId.{UpdateId}
use Rattle.sync_frames.specs.declared.frame.Frame.TheVariants as frames
use Rattle.sync_frames.specs.Payload.{HelloData, HasBlocks, AreIds, spelled_ids}
use Rattle.sync_frames.specs.Stream.{Spells}
use Rattle.sync_frames.proofs.Written.{hello_written, hello_steps}
use Rattle.sync_frames.proofs.writing.write_hello.Goals as goal

pub returns : goal.returns
returns c =
    let h = c.hello.inside in
    let hello : HelloData = record { database = h.database; node = h.node; heads = h.heads; old = h.old; filter = h.filter } in
    let heads = c.as_slice-heads.ensures in
    let old = c.as_slice-old.ensures in
    let filter = c.as_slice-filter.ensures in
    let len_of : List UpdateId → List UpdateId → List ℕ → ℕ = λ a b f. 75 + 32 * length a + 32 * length b + length f in
    let len : ℕ = len_of c.as_slice-heads.result.now c.as_slice-old.result.now c.as_slice-filter.result.now in
    let bytes : List ℕ = c.extend_from_slice-3.new.self.items in
    let parts : List UpdateId → List UpdateId → List ℕ → List ℕ =
    λ a b f. (((((((((1 ∷ to_be_bytes w32 len) ++ 2 ∷ []) ++ h.database) ++ h.node) ++ to_be_bytes w32 (length a)) ++ spelled_ids a) ++ to_be_bytes w16 (length b)) ++ spelled_ids b) ++ to_be_bytes w32 (length f)) ++ f in
    let written : bytes ≡ parts c.as_slice-heads.result.now c.as_slice-old.result.now c.as_slice-filter.result.now =
    hello_steps ((1 ∷ to_be_bytes w32 len) ++ 2 ∷ []) h.database h.node (to_be_bytes w32 (length c.as_slice-heads.result.now)) (spelled_ids c.as_slice-heads.result.now)
    (to_be_bytes w16 (length c.as_slice-old.result.now)) (spelled_ids c.as_slice-old.result.now) (to_be_bytes w32 (length c.as_slice-filter.result.now)) c.as_slice-filter.result.now
    c.push.new.self.items c.extend_from_slice.new.self.items c.extend_from_slice-2.new.self.items c.put_u32.new.out.items c.put_ids.new.out.items c.put_u16.new.out.items
    c.put_ids-2.new.out.items c.put_u32-2.new.out.items bytes
    (c.in_ok-push.ensures.items ∙ ap (λ (o : List ℕ). o ++ 2 ∷ []) c.in_ok-out.ensures) c.in_ok-extend_from_slice.ensures.items c.in_ok-extend_from_slice-2.ensures.items
    c.in_ok-put_u32.ensures c.in_ok-put_ids.ensures.items c.in_ok-put_u16.ensures c.in_ok-put_ids-2.ensures.items c.in_ok-put_u32-2.ensures c.in_ok-extend_from_slice-3.ensures.items in
    let blocks : HasBlocks hello = record {
      database = omega arith;
      node = omega arith;
      heads = subst AreIds heads c.in_ok-put_ids.ensures.ids;
      old = subst AreIds old c.in_ok-put_ids-2.ensures.ids;
    } in
    subst (λ (t : HelloData). Spells (frames.Hello t) bytes) c.hello.view_is
    (hello_written hello len bytes c.hello.invariant blocks
    (ap (λ a. len_of a c.as_slice-old.result.now c.as_slice-filter.result.now) heads ∙ ap (λ b. len_of h.heads b c.as_slice-filter.result.now) old ∙ ap (len_of h.heads h.old) filter)
    (written ∙ ap (λ a. parts a c.as_slice-old.result.now c.as_slice-filter.result.now) heads ∙ ap (λ b. parts h.heads b c.as_slice-filter.result.now) old ∙ ap (parts h.heads h.old) filter))
