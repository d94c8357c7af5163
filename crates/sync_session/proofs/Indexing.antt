-- Updates that are found by id, one after another.
use Rattle.std.proofs.Common.{◌≡◌, ℕ, ◌+◌, ◌<◌, ◌≤◌, Bool, true, false, cond, ◌||◌, List, [], ◌∷◌, ◌++◌, length, get_or, take, drop, map, refl, sym, ap, subst, ◌∙◌, arith, leb-true}
use Rattle.session_rules.proofs.Words.{and_both}
use Rattle.update_model.specs.declared.limits.TheConstants.{MAX_BYTES}
use Rattle.std.proofs.lemmas.List.{map-append, take_more, take-append-drop}
use Rattle.std.proofs.lemmas.List.Folds.{list_any-append}
use Rattle.std.proofs.lemmas.List.Sums.{sum_by-append}
use Rattle.std.specs.BTreeMap.{BTreeMap, keys}
use Rattle.update_codec.specs.Parts.{entry_of, id_of}
use Rattle.update_model.specs.declared.update_id.UpdateId.{UpdateId}
use Rattle.update_model.specs.Entry.{Entry, same_id}
use Rattle.update_model.specs.Graph.{has, holds, is_within, byte_count}
use Rattle.update_model.proofs.Ids.{same_id-symm}
use Rattle.sync_session.specs.Pending.{IsIndexed}

one_more : (s g w : Bool) → cond s true (g || w) ≡ ((g || (s || false)) || w)
one_more true true w = refl
one_more true false w = refl
one_more false true w = refl
one_more false false w = refl

-- the set has one more id
pub put : (before after : BTreeMap UpdateId ℕ) (gathered waiting : List (List ℕ)) (u : List ℕ) (q : UpdateId)
    → has (keys after) q ≡ cond (same_id (id_of u) q) true (has (keys before) q)
    → has (keys before) q ≡ (holds (map entry_of gathered) q || holds (map entry_of waiting) q)
    → has (keys after) q ≡ (holds (map entry_of (gathered ++ u ∷ [])) q || holds (map entry_of waiting) q)
put before after gathered waiting u q new old =
    new ∙ ap (cond (same_id (id_of u) q) true) old ∙ one_more (same_id (id_of u) q) (holds (map entry_of gathered) q) (holds (map entry_of waiting) q)
    ∙ ap (λ s. (holds (map entry_of gathered) q || (s || false)) || holds (map entry_of waiting) q) (same_id-symm (id_of u) q)
    ∙ ap (λ b. b || holds (map entry_of waiting) q) (sym (list_any-append (λ (m : Entry). same_id q m.id) (map entry_of gathered) (entry_of u ∷ [])))
    ∙ ap (λ es. holds es q || holds (map entry_of waiting) q) (sym (map-append entry_of gathered (u ∷ [])))

-- how many bytes there are with one more
pub byte_more : (es : List (List ℕ)) (u : List ℕ) → byte_count (map entry_of (es ++ u ∷ [])) ≡ byte_count (map entry_of es) + length u
byte_more es u = ap byte_count (map-append entry_of es (u ∷ [])) ∙ sum_by-append (λ (m : Entry). length m.bytes) (map entry_of es) (entry_of u ∷ [])
    ∙ omega arith

-- with one update more
pub indexed_more : (waiting gathered : List (List ℕ)) (ids ids' : BTreeMap UpdateId ℕ) (bytes : ℕ) (u : List ℕ) → IsIndexed waiting gathered ids bytes
    → ((q : UpdateId) → has (keys ids') q ≡ cond (same_id (id_of u) q) true (has (keys ids) q))
    → is_within (map entry_of waiting ++ (map entry_of gathered ++ entry_of u ∷ [])) ≡ true → IsIndexed waiting (gathered ++ u ∷ []) ids' (bytes + length u)
indexed_more waiting gathered ids ids' bytes u i new fits = record {
  indexed = λ q. put ids ids' gathered waiting u q (new q) (i.indexed q);
  counted =
      let all = sum_by-append (λ (m : Entry). length m.bytes) (map entry_of waiting) (map entry_of gathered) in
      let more = sum_by-append (λ (m : Entry). length m.bytes) (map entry_of waiting) (map entry_of (gathered ++ u ∷ [])) in
      let one = byte_more gathered u in
      let was = i.counted in
      omega arith;
  within = subst (λ (es : List Entry). is_within (map entry_of waiting ++ es) ≡ true) (sym (map-append entry_of gathered (u ∷ []))) fits;
}

-- the same updates and the same keys
pub indexed_same : (waiting gathered gathered' : List (List ℕ)) (ids ids' : BTreeMap UpdateId ℕ) (bytes : ℕ) → IsIndexed waiting gathered ids bytes
    → gathered' ≡ gathered → keys ids' ≡ keys ids → IsIndexed waiting gathered' ids' bytes
indexed_same waiting gathered gathered' ids ids' bytes i same keys_same = record {
  indexed = λ q. ap (λ ks. has ks q) keys_same ∙ i.indexed q ∙ ap (λ (g : List (List ℕ)). holds (map entry_of g) q || holds (map entry_of waiting) q) (sym same);
  counted = i.counted ∙ ap (λ (g : List (List ℕ)). byte_count (map entry_of waiting ++ map entry_of g)) (sym same);
  within = subst (λ (g : List (List ℕ)). is_within (map entry_of waiting ++ map entry_of g) ≡ true) (sym same) i.within;
}

-- the front with the next one
pub front_more : (es : List (List ℕ)) (i : ℕ) (u : List ℕ) → u ≡ get_or es i u → i < length es → take (i + 1) es ≡ take i es ++ u ∷ []
front_more es i u is low = take_more es i u low ∙ ap (λ x. take i es ++ x ∷ []) (sym is)

-- how many bytes they have
pub bytes_fit : (waiting gathered : List (List ℕ)) (ids : BTreeMap UpdateId ℕ) (bytes : ℕ) → IsIndexed waiting gathered ids bytes → bytes ≤ MAX_BYTES
bytes_fit waiting gathered ids bytes i =
    let few = leb-true (byte_count (map entry_of waiting ++ map entry_of gathered)) MAX_BYTES (and_both _ _ i.within).1 in
    let was = i.counted in
    omega arith

-- the front of some updates has no more bytes than all
pub front_bytes : (es : List (List ℕ)) (i : ℕ) → byte_count (map entry_of (take i es)) ≤ byte_count (map entry_of es)
front_bytes es i =
    let whole = ap (λ (xs : List (List ℕ)). byte_count (map entry_of xs)) (sym (take-append-drop i es)) in
    let parts = ap byte_count (map-append entry_of (take i es) (drop i es)) in
    let sum = sum_by-append (λ (m : Entry). length m.bytes) (map entry_of (take i es)) (map entry_of (drop i es)) in
    omega arith

-- one more of the updates that are gone through
pub put_front : (before after : BTreeMap UpdateId ℕ) (es : List (List ℕ)) (i : ℕ) (u : List ℕ) (q : UpdateId) → u ≡ get_or es i u → i < length es
    → has (keys after) q ≡ cond (same_id (id_of u) q) true (has (keys before) q) → has (keys before) q ≡ holds (map entry_of (take i es)) q
    → has (keys after) q ≡ holds (map entry_of (take (i + 1) es)) q
put_front before after es i u q is low new old =
    put before after (take i es) [] u q new (old ∙ or_false (holds (map entry_of (take i es)) q))
    ∙ sym (or_false (holds (map entry_of (take i es ++ u ∷ [])) q)) ∙ ap (λ (xs : List (List ℕ)). holds (map entry_of xs) q) (sym (front_more es i u is low))
  where
    or_false : (b : Bool) → b ≡ (b || false)
    or_false true = refl
    or_false false = refl

-- and its bytes
pub byte_front : (es : List (List ℕ)) (i : ℕ) (u : List ℕ) (bytes : ℕ) → u ≡ get_or es i u → i < length es → bytes ≡ byte_count (map entry_of (take i es))
    → bytes + length u ≡ byte_count (map entry_of (take (i + 1) es))
byte_front es i u bytes is low was =
    let same = ap (λ (xs : List (List ℕ)). byte_count (map entry_of xs)) (front_more es i u is low) in
    let more = byte_more (take i es) u in
    omega arith
