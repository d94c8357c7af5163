-- What holds from a released seal on.
use Rattle.std.proofs.Common.{◌≡◌, ℕ, List, sym, ◌∙◌, ap, subst, IsTrue, Bool, Option, Some}
use Rattle.std.specs.Prelude.{◌≢◌}
use Rattle.rand_core.specs.Stream.{Stream}
use Rattle.bec_disk.specs.Disk.{EveryImage}
use Rattle.bec_disk.specs.Shelf.{ShelfState}
use Rattle.key_index.specs.KeyState.{KeyState}
use Rattle.key_index.specs.Used.{IsUsed}
use Rattle.hss_directory.specs.Calls.{KeepsHss, Signs, hss_of}
use Rattle.hss_directory.specs.Values.{HssState, IsCurrent, IsSound, LowerState}
use Rattle.hss_directory.proofs.Places.{low-ne}
use Rattle.seal_laws.specs.Acts.{IndexUse}
use Rattle.seal_laws.specs.Calls.{AreElsewhere, AreSpentReadable, world_of}
use Rattle.seal_laws.specs.Histories.{Has, Histories}
use Rattle.seal_laws.specs.Worlds.{IsUsedIn, World}
use Rattle.seal_laws.proofs.CallLaws.{is_ready, signed}
use Rattle.seal_laws.proofs.RunLaws.{IsSoundWorld, open_well, runs_sound, stays_used}
use Rattle.seal_laws.proofs.Turns.{lower_held, top_held}

pub released : (last : World) (more : List IndexUse) (random left : Stream) (before after : ShelfState) (old new : HssState) (msg seal : List ℕ) (others : List ℕ → Option KeyState)
    → IsSoundWorld (world_of before (Some old) others) → AreElsewhere others old.dir → IsSound old → AreSpentReadable old → (signs : Signs random before old msg seal new after left) → KeepsHss before old after new
    → Histories (world_of after (Some new) others) more last
    → IsUsedIn last old.dir signs.lower.index × IsUsedIn last signs.lower.dir signs.seals.signs.index × (Has more old.dir signs.lower.index → ⊥) × (Has more signs.lower.dir signs.seals.signs.index → ⊥)
released last more random left before after old new msg seal others world away sound readable signs keeps history =
    let ready = signs.ready in
    let lower = signs.lower in
    let done = signs.signed in
    let index = signs.seals.signs.index in
    let reserves = signs.seals.signs.reserves in
    let is = is_ready random signs.between before signs.readies.mid after old ready signs.readies.kept lower sound signs.readies.keeps signs.readies.ready signs.is_lower in
    let same : new ≡ hss_of old.dir ready.top (Some done) = signs.now ∙ ap (λ (d : List ℕ). hss_of d ready.top (Some done)) is.same_dir in
    let same_dir : done.dir ≡ lower.dir = ap (λ (l : LowerState). l.dir) signs.seals.now in
    let same_index : done.index ≡ lower.index = ap (λ (l : LowerState). l.index) signs.seals.now in
    let ne : done.dir ≢ old.dir = λ e. low-ne old.dir lower.index (sym e ∙ same_dir ∙ is.place) in
    let after_world = world_of after (Some (hss_of old.dir ready.top (Some done))) others in
    let after_sound : IsSoundWorld after_world =
    subst (λ (h : HssState). IsSoundWorld (world_of after (Some h) others)) same
    (runs_sound (world_of before (Some old) others) (world_of after (Some new) others) _ world (signed random left before after old new msg seal others away sound readable signs)) in
    let after_history = subst (λ (h : HssState). Histories (world_of after (Some h) others) more last) same history in
    let current : IsCurrent old.dir ready.top done = subst (λ (h : HssState). IsSound h) same keeps.sound in
    let top_at = top_held old.dir ready.top (Some done) others in
    let low_at = lower_held old.dir ready.top done others ne in
    let top_well = open_well after_world old.dir ready.top after_sound top_at in
    let low_well = open_well after_world done.dir done.key after_sound low_at in
    let top_used : EveryImage ready.top.parts.used.now (IsUsed lower.index) = subst (λ (k : ℕ). EveryImage ready.top.parts.used.now (IsUsed k)) same_index (current.used top_well.used_tells) in
    let low_tells : IsTrue lower.key.parts.used.tells = subst (λ (b : Bool). IsTrue b) reserves.disk.tells low_well.used_tells in
    let low_used : EveryImage done.key.parts.used.now (IsUsed index) = (reserves.reserved low_tells).used in
    let of_top = stays_used after_world last more old.dir lower.index ready.top after_sound top_at top_used after_history in
    let of_low = stays_used after_world last more done.dir index done.key after_sound low_at low_used after_history in
    let of_low_dir : (Has more lower.dir index → ⊥) × IsUsedIn last lower.dir index = subst (λ (d : List ℕ). (Has more d index → ⊥) × IsUsedIn last d index) same_dir of_low in
    (of_top.1, of_low_dir.1, of_top.0, of_low_dir.0)
