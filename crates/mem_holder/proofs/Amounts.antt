-- What is added, or is too much.
use Rattle.std.proofs.Common.{◌≡◌, ℕ, ◌≤◌, ◌<◌, true, false, ◌&&◌, List, ◌++◌, length, map, take, sym, ap, subst, ◌∙◌, arith, Err}
use Rattle.std.specs.Prelude.{nat_le}
use Rattle.std.proofs.lemmas.Bool.Decides.{nat_tests}
use Rattle.std.proofs.lemmas.List.{length-map, map-append, take_at}
use Rattle.update_model.specs.declared.limits.TheConstants.{MAX_BYTES, MAX_MEMBERS}
use Rattle.update_model.specs.Batch.{IsTooMuch, fits}
use Rattle.update_model.specs.Entry.{Entry}
use Rattle.update_model.specs.Graph.{byte_count, is_within}
use Rattle.update_codec.specs.Parts.{entry_of}
use Rattle.ready_batch.specs.Ready.{AddsReady, IsBehind}
use Rattle.update_check.specs.declared.holder.CommitFault.{CommitFault}
use Rattle.update_check.specs.declared.holder.CommitFault.TheVariants.{Full, DiskFault, Memory}
use Rattle.mem_holder.specs.Holders.{Grows, limits_of}

fewer : (count bytes most : ℕ) → most ≤ MAX_MEMBERS → (nat_le count MAX_MEMBERS && nat_le bytes MAX_BYTES) ≡ false → (nat_le count most && nat_le bytes MAX_BYTES) ≡ false
fewer count bytes most low passes = grind (arith, nat_tests)

over : (count bytes most : ℕ) → most < count → (nat_le count most && nat_le bytes MAX_BYTES) ≡ false
over count bytes most high = grind (arith, nat_tests)

under : (count bytes most : ℕ) → count ≤ most → (nat_le count MAX_MEMBERS && nat_le bytes MAX_BYTES) ≡ true → (nat_le count most && nat_le bytes MAX_BYTES) ≡ true
under count bytes most few within = grind (arith, nat_tests)

-- more than there may be is too much
pub too_many : (most : ℕ) (before batch after waiting : List (List ℕ)) → AddsReady entry_of before batch after waiting → most < length after
    → IsTooMuch (limits_of most) (map entry_of before) (map entry_of batch)
too_many most before batch after waiting adds high =
    let parts : map entry_of after ≡ map entry_of before ++ map entry_of adds.added = ap (map entry_of) adds.behind ∙ map-append entry_of before adds.added in
    let many = length-map after entry_of in
    record {
      added = map entry_of adds.added;
      waiting = map entry_of waiting;
      adds = adds.adds;
      passes = subst (λ (l : List Entry). fits (limits_of most) l ≡ false) parts (over (length (map entry_of after)) (byte_count (map entry_of after)) most (omega (arith, many)));
    }

-- no more than there may be is not
pub still_fit : (most : ℕ) (after : List (List ℕ)) → length after ≤ most → is_within (map entry_of after) ≡ true → fits (limits_of most) (map entry_of after) ≡ true
still_fit most after few within =
    let many = length-map after entry_of in
    under (length (map entry_of after)) (byte_count (map entry_of after)) most (omega (arith, many)) within

-- what was held stands in front
pub cut_back : (before after : List (List ℕ)) (len : ℕ) → IsBehind before after → len ≡ length before → take len after ≡ before
cut_back before after len behind is = ap (take len) behind.1 ∙ take_at before behind.0 len (sym is)

pub refused_behind : (most : ℕ) (before batch after : List (List ℕ)) (fault : CommitFault) → Grows most before batch (Err fault) after → IsBehind before after
refused_behind most before batch after Full grows = grows.1
refused_behind most before batch after Memory grows = grows
refused_behind most before batch after DiskFault grows = absurd grows
