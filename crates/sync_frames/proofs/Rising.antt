-- Ids that rise one by one are sorted, and sorted ids rise one by one.
use Rattle.std.proofs.Common.{◌≡◌, true, List, [], ◌∷◌, refl, ap}
use Rattle.std.proofs.lemmas.Cmp.{nat_list_cmp_total}
use Rattle.std.specs.Prelude.{Some, None}
use Rattle.std.specs.declared.cmp.Ordering.{Ordering}
use Rattle.std.specs.declared.cmp.Ordering.TheVariants.{Less, Equal, Greater}
use Rattle.std.specs.Ordering.{is_lt}
use Rattle.std.specs.List.{AllByRecursion}
use Rattle.std.specs.List.Sorted.{IsStrictlySortedBy}
use Rattle.update_model.specs.declared.update_id.UpdateId.{UpdateId}
use Rattle.update_model.specs.Entry.{id_cmp}
use Rattle.update_model.specs.Form.{AreRising}

less_from_lt : (o : Ordering) → is_lt o ≡ true → o ≡ Less
less_from_lt Less h = refl
less_from_lt Equal h = absurd cc
less_from_lt Greater h = absurd cc

-- an id that is below the first of some is below each
below_others : (a b : UpdateId) (ids : List UpdateId) → id_cmp a b ≡ Less → AllByRecursion (λ id. id_cmp b id ≡ Less) ids → AllByRecursion (λ id. id_cmp a id ≡ Less) ids
below_others a b [] h all = tt
below_others a b (id ∷ ids) h all = (nat_list_cmp_total.trans a.0 b.0 id.0 h all.0, below_others a b ids h all.1)

above : (last : UpdateId) (ids : List UpdateId) → AreRising (Some last) ids → AllByRecursion (λ id. id_cmp last id ≡ Less) ids × IsStrictlySortedBy id_cmp ids
unfolding IsStrictlySortedBy
above last [] rise = (tt, tt)
above last (id ∷ ids) rise =
    let next = above id ids rise.1 in
    let less = less_from_lt (id_cmp last id) rise.0 in
    ((less, below_others last id ids less next.0), next)

pub sorted_from_rising : (ids : List UpdateId) → AreRising None ids → IsStrictlySortedBy id_cmp ids
unfolding IsStrictlySortedBy
sorted_from_rising [] rise = tt
sorted_from_rising (id ∷ ids) rise = above id ids rise

rises_above : (last : UpdateId) (ids : List UpdateId) → AllByRecursion (λ id. id_cmp last id ≡ Less) ids → IsStrictlySortedBy id_cmp ids → AreRising (Some last) ids
unfolding IsStrictlySortedBy
rises_above last [] below sorted = tt
rises_above last (id ∷ ids) below sorted = (ap is_lt below.0, rises_above id ids sorted.0 sorted.1)

pub rising_from_sorted : (ids : List UpdateId) → IsStrictlySortedBy id_cmp ids → AreRising None ids
unfolding IsStrictlySortedBy
rising_from_sorted [] sorted = tt
rising_from_sorted (id ∷ ids) sorted = rises_above id ids sorted.0 sorted.1

pub none_sorted : IsStrictlySortedBy id_cmp []
unfolding IsStrictlySortedBy
none_sorted = tt
