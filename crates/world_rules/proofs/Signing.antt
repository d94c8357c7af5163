-- Over a run: each signature's index stays used and is used once.
use Rattle.std.proofs.Common.{◌≡◌, ◌⊎◌, inl, inr, ℕ, ◌≤◌, ◌<◌, Bool, true, false, ◌&&◌, List, [], ◌∷◌, ◌++◌, length, map, take, get_or, set, Some, Result, Ok, Err, refl, sym, ap, subst, ◌∙◌, arith, append-nil, length-append, get_or-set_same}
use Rattle.std.specs.Prelude.{not, ◌==◌}
use Rattle.std.specs.List.{AllByRecursion, IsDistinct}
use Rattle.std.proofs.lemmas.Bool.Decides.{nat_tests}
use Rattle.std.proofs.lemmas.List.{get_or_default, take-append-le}
use Rattle.std.proofs.lemmas.List.Quantifiers.{position-Some}
use Rattle.std.proofs.Math.Seq.{take-append_seam}
use Rattle.bec_disk.specs.Disk.{EveryImage}
use Rattle.key_index.specs.KeyState.{KeyState}
use Rattle.key_index.specs.Used.{IsUsed, least_unused}
use Rattle.lms_tree.specs.SecretKey.{public_key}
use Rattle.replica.specs.Making.{body_by}
use Rattle.replica.specs.Replicas.{ReplicaState}
use Rattle.replica.specs.Signing.{KeyAfter, SignsAtLeast}
use Rattle.replica.specs.declared.make_fault.MakeFault.{MakeFault}
use Rattle.replica.specs.declared.make_fault.MakeFault.TheVariants.{NotListed, TooManyHeads, Invalid, TooLong, Full, Spent, Taken, DiskFault, Memory}
use Rattle.replica.specs.declared.make_fault.Side.TheVariants.{Key, Log}
use Rattle.schema.specs.Data.{Meaning, SchemaData}
use Rattle.session_rules.proofs.Words.{each_append, each_weaker}
use Rattle.update_codec.specs.Parts.{entry_of}
use Rattle.update_model.specs.declared.op.Op.{Op}
use Rattle.update_model.specs.declared.update_id.UpdateId.{UpdateId}
use Rattle.update_model.specs.Form.{IsBody}
use Rattle.update_model.specs.Graph.{AreHeads}
use Rattle.world_rules.specs.declared.event.Event.{Event}
use Rattle.world_rules.specs.declared.event.Event.TheVariants.{Make, Start, Carry, Cut, Feed, Stop, Restart}
use Rattle.world_rules.specs.declared.event.Stepped.{Stepped}
use Rattle.world_rules.specs.Happens.{ending, has_failed, is_store, MakesIn, Signs, SignsOne, HappensTo}
use Rattle.world_rules.specs.Laws.{same_index}
use Rattle.world_rules.specs.Worlds.{SiteData, SignedData, WorldData, site_at, held_by}
use Rattle.world_rules.proofs.Sites.{through_now}
use Rattle.world_rules.proofs.Moving.{AreSound, WorldMoves, ending_here, sunk_if}
use Rattle.world_rules.proofs.Events.{make_site}

-- A signature that was made: its index is used in its replica's store and whatever a crash leaves, and its message names the heads of what the replica held then.
pub record IsSignature (w : WorldData) (s : SignedData) : Type 0 where
  pub site : SiteData
  pub there : site_at w s.replica ≡ Some site
  pub used : EveryImage site.key.parts.used.now (IsUsed s.index)
  pub taken : get_or site.key.taken s.index false ≡ true
  pub within : s.held ≤ length (held_by site)
  pub form : IsBody s.body
  pub names : AreHeads (map entry_of (take s.held (held_by site))) s.body.preds
  pub author : s.body.author ≡ public_key site.key.secret

pub record AreSigned (w : WorldData) : Type 0 where
  pub each : AllByRecursion (IsSignature w) w.signed
  pub distinct : IsDistinct same_index w.signed

front_still : (old new more : List (List ℕ)) (n : ℕ) → n ≤ length old → new ≡ old ++ more → take n new ≡ take n old
front_still old new more n low is = ap (take n) is ∙ take-append-le n old more low

-- it stays one
pub signature_on : (schema : SchemaData) (w w' : WorldData) (s : SignedData) → AreSound schema w → WorldMoves schema w w' → IsSignature w s → IsSignature w' s
signature_on schema w w' s sound moves g =
    let to = moves.on s.replica g.site g.there in
    let new = to.0 in
    let m = to.2 in
    record {
      site = new;
      there = to.1;
      used = through_now g.site.key.parts.used new.key.parts.used (IsUsed s.index) (m.used s.index g.used) (sound s.replica g.site g.there).used_tells;
      taken = m.taken s.index g.used g.taken;
      within = let more = ap length m.extends.begins in omega (arith, g.within, more, length-append (held_by g.site) m.extends.more);
      form = g.form;
      names = subst (λ (xs : List (List ℕ)). AreHeads (map entry_of xs) s.body.preds) (sym (front_still (held_by g.site) (held_by new) m.extends.more s.held g.within m.extends.begins)) g.names;
      author = g.author ∙ ap public_key (sym m.secret);
    }

pub all_on : (schema : SchemaData) (w w' : WorldData) (ss : List SignedData) → AreSound schema w → WorldMoves schema w w' → AllByRecursion (IsSignature w) ss → AllByRecursion (IsSignature w') ss
all_on schema w w' [] sound moves all = tt
all_on schema w w' (s ∷ ss) sound moves all = (signature_on schema w w' s sound moves all.0, all_on schema w w' ss sound moves all.1)

-- nothing was signed
pub signed_same : (schema : SchemaData) (w w' : WorldData) → AreSound schema w → WorldMoves schema w w' → w'.signed ≡ w.signed → AreSigned w → AreSigned w'
signed_same schema w w' sound moves same a = record {
  each = subst (AllByRecursion (IsSignature w')) (sym same) (all_on schema w w' w.signed sound moves a.each);
  distinct = subst (IsDistinct same_index) (sym same) a.distinct;
}

-- ---- a Make that signs

distinct_push : (xs : List SignedData) (y : SignedData) → IsDistinct same_index xs → AllByRecursion (λ x. same_index x y ≡ false) xs → IsDistinct same_index (xs ++ y ∷ [])
unfolding IsDistinct
distinct_push [] y d apart = (tt, tt)
distinct_push (x ∷ xs) y d apart = (push xs d.0, distinct_push xs y d.1 apart.1)
  where
    push : (zs : List SignedData) → AllByRecursion (λ z. same_index x z ≡ false) zs → AllByRecursion (λ z. same_index x z ≡ false) (zs ++ y ∷ [])
    push [] all = (apart.0, tt)
    push (z ∷ zs) all = (all.0, push zs all.1)

signs_key : (result : Result UpdateId MakeFault) (r event : ℕ) (old : ReplicaState) (key new : KeyState) (ops : List Op) (signs : List SignedData) → Signs result r event old key ops signs → KeyAfter key result new
    → (signs ≡ []) ⊎ (SignsOne r event old key ops signs × SignsAtLeast key new)
signs_key (Ok id) r event old key new ops signs s k = inr (s, k)
signs_key (Err NotListed) r event old key new ops signs s k = inl s
signs_key (Err (TooManyHeads n)) r event old key new ops signs s k = inl s
signs_key (Err (Invalid reason operation)) r event old key new ops signs s k = inl s
signs_key (Err (TooLong len)) r event old key new ops signs s k = inl s
signs_key (Err Full) r event old key new ops signs s k = inl s
signs_key (Err Spent) r event old key new ops signs s k = inl s
signs_key (Err (Taken id)) r event old key new ops signs s k = inr (s, k)
signs_key (Err (DiskFault Key)) r event old key new ops signs s k = inl s
signs_key (Err (DiskFault Log)) r event old key new ops signs s k = inr (s, k)
signs_key (Err Memory) r event old key new ops signs s k = inl s

ending_signed : (failed : Bool) (r : ℕ) (site : SiteData) (mid : WorldData) → (ending failed r site mid).signed ≡ mid.signed
ending_signed true r site mid = refl
ending_signed false r site mid = refl

sunk_key : (failed : Bool) (site : SiteData) → (sunk_if failed site).key ≡ site.key
sunk_key true site = refl
sunk_key false site = refl

sunk_list : (failed : Bool) (site : SiteData) → held_by (sunk_if failed site) ≡ held_by site
sunk_list true site = refl
sunk_list false site = refl

not_taken : (taken : List Bool) (index : ℕ) → least_unused taken ≡ Some index → get_or taken index true ≡ false
not_taken taken index is = flip (get_or taken index true) (position-Some not taken index true is).1
  where
    flip : (b : Bool) → not b ≡ true → b ≡ false
    flip true e = absurd cc
    flip false e = refl

same_default : (xs : List Bool) (i : ℕ) → i < length xs → get_or xs i true ≡ get_or xs i false
same_default xs i low = get_or_default xs i true false low

-- an index that is signed at now was signed at in no event before
is_new : (w : WorldData) (r : ℕ) (site : SiteData) (index : ℕ) (y s : SignedData) → site_at w r ≡ Some site → least_unused site.key.taken ≡ Some index → y.replica ≡ r → y.index ≡ index
    → IsSignature w s → same_index s y ≡ false
is_new w r site index y s there least to at g = by_replica (s.replica == y.replica) refl
  where
    clash : s.replica ≡ r → s.index ≡ index → ⊥
    clash here same =
        let both : Some g.site ≡ Some site = sym g.there ∙ ap (λ k. site_at w k) here ∙ there in
        let one : g.site ≡ site = cc in
        let is : get_or site.key.taken index false ≡ true = ap (λ k. get_or site.key.taken k false) (sym same) ∙ ap (λ (x : SiteData). get_or x.key.taken s.index false) (sym one) ∙ g.taken in
        let low = (position-Some not site.key.taken index true least).0 in
        let free : get_or site.key.taken index true ≡ false = not_taken site.key.taken index least in
        let equal = same_default site.key.taken index low in
        cc

    by_index : (b : Bool) → (s.index == y.index) ≡ b → s.replica ≡ r → (s.index == y.index) ≡ false
    by_index false e here = e
    by_index true e here = absurd (clash here (let same : s.index ≡ y.index = grind (arith, nat_tests) in same ∙ at))

    by_replica : (b : Bool) → (s.replica == y.replica) ≡ b → ((s.replica == y.replica) && (s.index == y.index)) ≡ false
    by_replica false e = rw e refl
    by_replica true e = let same : s.replica ≡ y.replica = grind (arith, nat_tests) in rw e (by_index (s.index == y.index) refl (same ∙ to))

pub make_signed : (ask : Meaning) (schema : SchemaData) (w w' : WorldData) (r : ℕ) (ops : List Op) (answer : Stepped) → AreSound schema w → WorldMoves schema w w' → AreSigned w
    → MakesIn ask w r ops answer w' → AreSigned w'
make_signed ask schema w w' r ops answer sound moves a m = by_signs (signs_key m.result r w.event m.site.store m.site.key m.key ops m.signs m.signed m.makes.key_after)
  where
    list : w'.signed ≡ w.signed ++ m.signs
    list = ap (λ (x : WorldData). x.signed) m.is ∙ ending_signed (has_failed m.result) r (record m.site { store = m.store; key = m.key }) (record w { signed = w.signed ++ m.signs })

    there : site_at w' r ≡ Some (sunk_if (has_failed m.result) (record m.site { store = m.store; key = m.key }))
    there = ap (λ (x : WorldData). site_at x r) m.is ∙ ending_here (has_failed m.result) w (record w { signed = w.signed ++ m.signs }) r m.site (record m.site { store = m.store; key = m.key }) m.there refl

    one : (s : SignsOne r w.event m.site.store m.site.key ops m.signs) → SignsAtLeast m.site.key m.key
        → IsSignature w' (record { replica = r; index = s.index; body = body_by m.site.store.history (public_key m.site.key.secret) s.preds ops; event = w.event; held = length m.site.store.history.members })
    one s k =
        let site_moves = make_site ask schema w w' r ops answer sound m in
        let both : Some s.index ≡ Some k.index = sym s.least ∙ k.least in
        let index : s.index ≡ k.index = cc in
        let low = (position-Some not m.site.key.taken s.index true s.least).0 in
        record {
          site = sunk_if (has_failed m.result) (record m.site { store = m.store; key = m.key });
          there = there;
          used = subst (λ (x : KeyState). EveryImage x.parts.used.now (IsUsed s.index)) (sym (sunk_key (has_failed m.result) (record m.site { store = m.store; key = m.key })))
              (subst (λ q. EveryImage m.key.parts.used.now (IsUsed q)) (sym index) (k.reserved (sound r m.site m.there).used_tells).used);
          taken = ap (λ (x : KeyState). get_or x.taken s.index false) (sunk_key (has_failed m.result) (record m.site { store = m.store; key = m.key })) ∙ ap (λ (xs : List Bool). get_or xs s.index false) (k.tries.taken ∙ ap (λ i. set m.site.key.taken i true) (sym index))
              ∙ get_or-set_same m.site.key.taken s.index true false low;
          within = let size = ap length (sunk_list (has_failed m.result) (record m.site { store = m.store; key = m.key })) in let more = ap length site_moves.extends.begins in omega (arith, size, more, length-append (held_by m.site) site_moves.extends.more);
          form = s.form;
          names = subst (λ (xs : List (List ℕ)). AreHeads (map entry_of xs) s.preds)
              (sym (ap (take (length (held_by m.site))) (sunk_list (has_failed m.result) (record m.site { store = m.store; key = m.key }) ∙ site_moves.extends.begins) ∙ take-append_seam (held_by m.site) site_moves.extends.more)) s.after;
          author = ap public_key (sym (ap (λ (x : KeyState). x.secret) (sunk_key (has_failed m.result) (record m.site { store = m.store; key = m.key })) ∙ site_moves.secret));
        }

    by_signs : (m.signs ≡ []) ⊎ (SignsOne r w.event m.site.store m.site.key ops m.signs × SignsAtLeast m.site.key m.key) → AreSigned w'
    by_signs (inl none) = signed_same schema w w' sound moves (list ∙ ap (λ (xs : List SignedData). w.signed ++ xs) none ∙ append-nil w.signed) a
    by_signs (inr (s, k)) =
        let y : SignedData = record { replica = r; index = s.index; body = body_by m.site.store.history (public_key m.site.key.secret) s.preds ops; event = w.event; held = length m.site.store.history.members } in
        let all : w'.signed ≡ w.signed ++ y ∷ [] = list ∙ ap (λ (xs : List SignedData). w.signed ++ xs) s.is in
        record {
          each = subst (AllByRecursion (IsSignature w')) (sym all) (each_append (IsSignature w') w.signed (y ∷ []) (all_on schema w w' w.signed sound moves a.each) (one s k, tt));
          distinct = subst (IsDistinct same_index) (sym all)
              (distinct_push w.signed y a.distinct (each_weaker (IsSignature w) (λ x. same_index x y ≡ false) (λ x g. is_new w r m.site s.index y x m.there s.least refl refl g) w.signed a.each));
        }

-- ---- every event

pub event_signed : (ask : Meaning) (schema : SchemaData) (w w' : WorldData) (found : Bool) (event : Event) (answer : Stepped) → AreSound schema w → WorldMoves schema w w' → AreSigned w
    → HappensTo found ask w event answer w' → AreSigned w'
event_signed ask schema w w' false event answer sound moves a h = signed_same schema w w' sound moves (ap (λ (x : WorldData). x.signed) h.1) a
event_signed ask schema w w' true (Make r ops) answer sound moves a h = make_signed ask schema w w' r ops answer sound moves a h
event_signed ask schema w w' true (Start s first second) answer sound moves a h = signed_same schema w w' sound moves (ap (λ (x : WorldData). x.signed) h.is) a
event_signed ask schema w w' true (Carry s forward) answer sound moves a h = signed_same schema w w' sound moves (ap (λ (x : WorldData). x.signed) h.is ∙ ending_signed (is_store h.next.ended) _ _ _) a
event_signed ask schema w w' true (Cut s) answer sound moves a h = signed_same schema w w' sound moves (ap (λ (x : WorldData). x.signed) h.is) a
event_signed ask schema w w' true (Feed s bytes) answer sound moves a h = signed_same schema w w' sound moves (ap (λ (x : WorldData). x.signed) h.is ∙ ending_signed (is_store h.next.ended) _ _ _) a
event_signed ask schema w w' true (Stop r calls) answer sound moves a h = signed_same schema w w' sound moves (ap (λ (x : WorldData). x.signed) h.is) a
event_signed ask schema w w' true (Restart r choice) answer sound moves a h = signed_same schema w w' sound moves (ap (λ (x : WorldData). x.signed) h.is) a
