-- The calls of a two-level key are runs of acts.
use Rattle.std.proofs.Common.{◌≡◌, ◌⊎◌, inl, inr, ℕ, List, [], ◌∷◌, ◌++◌, refl, sym, ◌∙◌, ap, subst, append_assoc, append-nil, Option, Some, None}
use Rattle.std.specs.Prelude.{◌≢◌, Bool, IfSome, IsTrue}
use Rattle.rand_core.specs.Stream.{Stream}
use Rattle.bec_disk.specs.declared.part.Part.TheVariants.{Key, Used}
use Rattle.bec_disk.specs.Disk.{IsImage, IsSettled, Moment}
use Rattle.bec_disk.specs.Shelf.{ShelfState}
use Rattle.bec_disk.specs.Slot.{slot}
use Rattle.bec_disk.proofs.Images.{synced-image}
use Rattle.update_model.specs.declared.author_key.AuthorKey.{AuthorKey}
use Rattle.lm_ots.specs.declared.ots_type.OtsType.{OtsType}
use Rattle.lms_tree.specs.declared.lms_type.LmsType.{LmsType}
use Rattle.lms_tree.specs.LmsKind.{leaf_count}
use Rattle.lms_tree.specs.SecretKey.{SecretData, public_key}
use Rattle.key_index.specs.Creating.{drawn_key}
use Rattle.key_index.specs.KeyState.{KeyState}
use Rattle.key_index.specs.Payload.{payload_of}
use Rattle.key_index.specs.Used.{none_used}
use Rattle.key_index.specs.declared.reserve.Reserve.TheVariants as reserve
use Rattle.key_directory.specs.Keys.{MakesKey, TakesKey}
use Rattle.key_directory.specs.Parts.{LetsNewGo, part_in}
use Rattle.hss_chain.specs.Keys.{key_bytes}
use Rattle.hss_directory.specs.Calls.{CreatesHss, KeepsOrMakes, KeepsUnspent, OpensHss, PutsHss, PutsLower, RefusesToSign, SealsNone, Signs, hss_of, not_ready, not_sealed, unjoined, unsigned as seals_unsigned}
use Rattle.hss_directory.specs.Lower.{LetsLowerGo, MakesLower, OpensNoLower, RefusesLower, TakesLower, VouchesNot, made, no_memory, no_vouching, not_made, not_taken, opens_none, opens_spent, refuses_key, taken, top_spent, unsigned, unwritten}
use Rattle.hss_directory.specs.Opening.{FindsLower, none_used as no_index_used, recorded, unrecorded}
use Rattle.hss_directory.specs.Peers.{ReadsPeers, WritesPeers}
use Rattle.hss_directory.specs.Places.{OnlyReads}
use Rattle.hss_directory.specs.Signing.{SignsBy, SignsNone}
use Rattle.hss_directory.specs.Values.{HssState, IsReadable, IsSound, IsSpent, LowerState, low_dir}
use Rattle.hss_directory.specs.declared.fault.HssFault.{HssFault}
use Rattle.hss_directory.specs.declared.fault.HssFault.TheVariants.{Disk, KeyThere, NoKey, BadKey, Spent, Memory}
use Rattle.hss_directory.proofs.Places.{low-ne}
use Rattle.seal_laws.specs.Acts.{Acts, IndexUse, fails, makes, makes_none, only_reads, puts_back, signs, takes, takes_none, touches_peers}
use Rattle.seal_laws.specs.Calls.{AreElsewhere, AreSpentReadable, held_by, low_use, making_uses, refused_uses, sealing_uses, top_use, unmade_uses, unsealed_uses, unvouched_uses, world_of}
use Rattle.seal_laws.specs.Histories.{Runs, ends, goes_on}
use Rattle.seal_laws.specs.Worlds.{World}
use Rattle.seal_laws.proofs.Parts.{handed_tells}
use Rattle.seal_laws.proofs.Turns.{below_held, lower_closes, lower_held, lower_opens, lower_turns, top_closes, top_held, top_opens, top_turns}

-- ---- runs

one : (old new : World) (uses : List IndexUse) → Acts old uses new → Runs old uses new
one old new uses acts = goes_on old new new uses [] uses acts (ends new) (sym (append-nil uses))

join : (old mid new : World) (some rest : List IndexUse) → Runs old some mid → Runs mid rest new → Runs old (some ++ rest) new
join old mid new some rest (ends here) second = second
join old mid new some rest (goes_on was between is now later all acts run same) second =
    goes_on was between new now (later ++ rest) (all ++ rest) acts (join between is new later rest run second) (ap (λ (l : List IndexUse). l ++ rest) same ∙ append_assoc now later rest)

-- a run in which nothing signed, and one behind it
then : (old mid new : World) (uses : List IndexUse) → Runs old [] mid → Runs mid uses new → Runs old uses new
then old mid new uses first second = join old mid new [] uses first second

-- and one in which nothing signed behind it
before_none : (old mid new : World) (uses : List IndexUse) → Runs old uses mid → Runs mid [] new → Runs old uses new
before_none old mid new uses first second = subst (λ (l : List IndexUse). Runs old l new) (append-nil uses) (join old mid new uses [] first second)

same_shelf : (before after : ShelfState) (hss : Option HssState) (others : List ℕ → Option KeyState) → after ≡ before → Runs (world_of before hss others) [] (world_of after hss others)
same_shelf before after hss others same = subst (λ (s : ShelfState). Runs (world_of before hss others) [] (world_of s hss others)) (sym same) (ends (world_of before hss others))

reads_peers : (before after : ShelfState) (dir : List ℕ) (hss : Option HssState) (others : List ℕ → Option KeyState) → ReadsPeers before dir after → Runs (world_of before hss others) [] (world_of after hss others)
reads_peers before after dir hss others reads =
    let old = world_of before hss others in
    let new = world_of after hss others in
    one old new [] (touches_peers old new dir (record { tells = reads.tells; others = reads.others }) (λ other. refl))

writes_peers : (before after : ShelfState) (dir payload : List ℕ) (hss : Option HssState) (others : List ℕ → Option KeyState) → WritesPeers payload before dir after → Runs (world_of before hss others) [] (world_of after hss others)
writes_peers before after dir payload hss others writes =
    let old = world_of before hss others in
    let new = world_of after hss others in
    one old new [] (touches_peers old new dir (record { tells = writes.tells; others = writes.others }) (λ other. refl))

-- ---- directories of lower keys

off_low : (dir low : List ℕ) (n : ℕ) → low ≡ low_dir dir n → low ≢ dir
off_low dir low n place same = low-ne dir n (sym same ∙ place)

free_low : (others : List ℕ → Option KeyState) (dir low : List ℕ) (n : ℕ) → AreElsewhere others dir → low ≡ low_dir dir n → others low ≡ None
free_low others dir low n away place = subst (λ (d : List ℕ). others d ≡ None) (sym place) (away.lowers n)

-- no key is open in the directory of a lower key, where there is none
closed_low : (others : List ℕ → Option KeyState) (dir low : List ℕ) (top : KeyState) (n : ℕ) → AreElsewhere others dir → low ≡ low_dir dir n → held_by (Some (hss_of dir top None)) others low ≡ None
closed_low others dir low top n away place = below_held dir low top None others (off_low dir low n place) ∙ free_low others dir low n away place

-- ---- creating and opening

pub created : (secret : SecretData) (before after : ShelfState) (dir : List ℕ) (hss : HssState) (others : List ℕ → Option KeyState) → AreElsewhere others dir → CreatesHss secret before dir hss after
    → Runs (world_of before None others) [] (world_of after (Some hss) others)
created secret before after dir hss others away creates =
    let same : hss ≡ hss_of dir hss.top None = ap (λ (d : List ℕ). hss_of d hss.top hss.lower) creates.place ∙ ap (λ (l : Option LowerState). hss_of dir hss.top l) creates.alone in
    let old = world_of before None others in
    let new = world_of after (Some (hss_of dir hss.top None)) others in
    subst (λ (h : HssState). Runs old [] (world_of after (Some h) others)) (sym same)
    (one old new [] (makes old new dir hss.top secret away.top creates.makes (top_opens before after dir hss.top others)))

pub created_none : (payload filling : List ℕ) (before after : ShelfState) (dir : List ℕ) (others : List ℕ → Option KeyState) → AreElsewhere others dir
    → (after ≡ before) ⊎ LetsNewGo Key Used payload filling before dir after → Runs (world_of before None others) [] (world_of after None others)
created_none payload filling before after dir others away (inl same) = same_shelf before after None others same
created_none payload filling before after dir others away (inr lets) =
    let old = world_of before None others in
    let new = world_of after None others in
    one old new [] (makes_none old new dir payload filling away.top lets (λ other. refl))

found : (dir : List ℕ) (top : KeyState) (before after : ShelfState) (lower : Option LowerState) (others : List ℕ → Option KeyState) → AreElsewhere others dir → FindsLower dir top before lower after
    → Runs (world_of before (Some (hss_of dir top None)) others) [] (world_of after (Some (hss_of dir top lower)) others)
found dir top before after lower others away (no_index_used last none same) =
    subst (λ (l : Option LowerState). Runs (world_of before (Some (hss_of dir top None)) others) [] (world_of after (Some (hss_of dir top l)) others)) (sym none)
    (same_shelf before after (Some (hss_of dir top None)) others same)
found dir top before after lower others away (unrecorded index last missing reads none) =
    subst (λ (l : Option LowerState). Runs (world_of before (Some (hss_of dir top None)) others) [] (world_of after (Some (hss_of dir top l)) others)) (sym none)
    (reads_peers before after (low_dir dir index) (Some (hss_of dir top None)) others reads)
found dir top before after lower others away (recorded low mid payload last place whole reads taking vouches is) =
    let old = world_of before (Some (hss_of dir top None)) others in
    let between = world_of mid (Some (hss_of dir top None)) others in
    let new = world_of after (Some (hss_of dir top (Some low))) others in
    subst (λ (l : Option LowerState). Runs old [] (world_of after (Some (hss_of dir top l)) others)) (sym is)
    (then old between new [] (reads_peers before mid low.dir (Some (hss_of dir top None)) others reads)
    (one between new [] (takes between new low.dir low.key (closed_low others dir low.dir top low.index away place) taking (lower_opens mid after dir top low others (off_low dir low.dir low.index place)))))

pub opened : (before after : ShelfState) (dir : List ℕ) (hss : HssState) (others : List ℕ → Option KeyState) → AreElsewhere others dir → OpensHss before dir hss after
    → Runs (world_of before None others) [] (world_of after (Some hss) others)
opened before after dir hss others away opens =
    let same : hss ≡ hss_of dir hss.top hss.lower = ap (λ (d : List ℕ). hss_of d hss.top hss.lower) opens.place in
    let old = world_of before None others in
    let between = world_of opens.mid (Some (hss_of dir hss.top None)) others in
    let new = world_of after (Some (hss_of dir hss.top hss.lower)) others in
    subst (λ (h : HssState). Runs old [] (world_of after (Some h) others)) (sym same)
    (then old between new [] (one old between [] (takes old between dir hss.top away.top opens.takes (top_opens before opens.mid dir hss.top others)))
    (found dir hss.top opens.mid after hss.lower others away opens.finds))

pub opened_none : (before after : ShelfState) (others : List ℕ → Option KeyState) → OnlyReads before after → Runs (world_of before None others) [] (world_of after None others)
opened_none before after others reads =
    let old = world_of before None others in
    let new = world_of after None others in
    one old new [] (only_reads old new reads (λ other. refl))

-- ---- putting keys back

put_lower : (before after : ShelfState) (dir : List ℕ) (top : KeyState) (lower : Option LowerState) (others : List ℕ → Option KeyState) → AreElsewhere others dir
    → IfSome lower (λ l. l.dir ≡ low_dir dir l.index) → IfSome lower (λ l. IsReadable l.key) → PutsLower before lower after
    → Runs (world_of before (Some (hss_of dir top lower)) others) [] (world_of after (Some (hss_of dir top None)) others)
put_lower before after dir top None others away place readable same = same_shelf before after (Some (hss_of dir top None)) others same
put_lower before after dir top (Some lower) others away place readable puts =
    let old = world_of before (Some (hss_of dir top (Some lower))) others in
    let new = world_of after (Some (hss_of dir top None)) others in
    let ne = off_low dir lower.dir lower.index place in
    one old new [] (puts_back old new lower.dir lower.key (lower_held dir top lower others ne) puts readable
    (lower_closes before after dir top lower others ne (free_low others dir lower.dir lower.index away place)))

places : (dir : List ℕ) (top : KeyState) (lower : Option LowerState) → IsSound (hss_of dir top lower) → IfSome lower (λ l. l.dir ≡ low_dir dir l.index)
places dir top None sound = tt
places dir top (Some lower) sound = sound.place

pub closed : (before after : ShelfState) (hss : HssState) (others : List ℕ → Option KeyState) → AreElsewhere others hss.dir → IsSound hss
    → IsReadable hss.top × IfSome hss.lower (λ lower. IsReadable lower.key) → PutsHss before hss after → Runs (world_of before (Some hss) others) [] (world_of after None others)
closed before after hss others away sound readable puts =
    let old = world_of before (Some hss) others in
    let between = world_of puts.mid (Some (hss_of hss.dir hss.top None)) others in
    let new = world_of after None others in
    then old between new [] (put_lower before puts.mid hss.dir hss.top hss.lower others away (places hss.dir hss.top hss.lower sound) readable.1 puts.lower)
    (one between new [] (puts_back between new hss.dir hss.top (top_held hss.dir hss.top None others) puts.top readable.0 (top_closes puts.mid after hss.dir hss.top others away.top)))

-- ---- a lower key is taken or made

took : (lms : LmsType) (ots : OtsType) (random left : Stream) (before after : ShelfState) (dir : List ℕ) (top : KeyState) (lower : LowerState) (others : List ℕ → Option KeyState) → AreElsewhere others dir
    → lower.dir ≡ low_dir dir lower.index → TakesLower lms ots random before lower.dir lower.key after left
    → Runs (world_of before (Some (hss_of dir top None)) others) [] (world_of after (Some (hss_of dir top (Some lower))) others)
took lms ots random left before after dir top lower others away place (taken taking same) =
    let old = world_of before (Some (hss_of dir top None)) others in
    let new = world_of after (Some (hss_of dir top (Some lower))) others in
    one old new [] (takes old new lower.dir lower.key (closed_low others dir lower.dir top lower.index away place) taking (lower_opens before after dir top lower others (off_low dir lower.dir lower.index place)))
took lms ots random left before after dir top lower others away place (made mid lets none making drawn) =
    let old = world_of before (Some (hss_of dir top None)) others in
    let between = world_of mid (Some (hss_of dir top None)) others in
    let new = world_of after (Some (hss_of dir top (Some lower))) others in
    let none_held = closed_low others dir lower.dir top lower.index away place in
    then old between new [] (one old between [] (takes_none old between lower.dir none_held lets (λ other. refl)))
    (one between new [] (makes between new lower.dir lower.key (drawn_key lms ots random) none_held making (lower_opens mid after dir top lower others (off_low dir lower.dir lower.index place))))

-- what was just taken or made reads as what a crash might leave
settled_readable : (key : KeyState) → IsSettled key.parts.used → IsReadable key
settled_readable key settled tells = subst (λ (m : Moment). IsImage m key.parts.used.seen) (sym settled) (synced-image key.parts.used.seen)

taken_readable : (before after : ShelfState) (dir : List ℕ) (key : KeyState) → TakesKey before dir key after → IsReadable key
taken_readable before after dir key taking tells =
    let u = taking.used_part (subst (λ (b : Bool). IsTrue b) taking.used_tells tells) in
    settled_readable key (subst IsSettled (sym u.2) refl) tells

made_readable : (secret : SecretData) (before after : ShelfState) (dir : List ℕ) (key : KeyState) → MakesKey secret before dir key after → IsReadable key
made_readable secret before after dir key making tells =
    let c = making.created (subst (λ (b : Bool). IsTrue b) making.used_tells tells) in
    settled_readable key (c.3.used (handed_tells (slot dir Used) (part_in before dir Used) c.0.used c.2)).settled tells

took_readable : (lms : LmsType) (ots : OtsType) (random left : Stream) (before after : ShelfState) (dir : List ℕ) (key : KeyState) → TakesLower lms ots random before dir key after left → IsReadable key
took_readable lms ots random left before after dir key (taken taking same) = taken_readable before after dir key taking
took_readable lms ots random left before after dir key (made mid lets none making drawn) = made_readable (drawn_key lms ots random) mid after dir key making

-- ---- or is not

lets_go : (lms : LmsType) (ots : OtsType) (random left : Stream) (before after : ShelfState) (low : List ℕ) (why : HssFault) (hss : HssState) (others : List ℕ → Option KeyState)
    → held_by (Some hss) others low ≡ None → LetsLowerGo lms ots random before low why after left → Runs (world_of before (Some hss) others) [] (world_of after (Some hss) others)
lets_go lms ots random left before after low why hss others none_held (not_taken lets cause same) =
    let old = world_of before (Some hss) others in
    let new = world_of after (Some hss) others in
    one old new [] (takes_none old new low none_held lets (λ other. refl))
lets_go lms ots random left before after low why hss others none_held (not_made mid lets none lets_new cause drawn) =
    let old = world_of before (Some hss) others in
    let between = world_of mid (Some hss) others in
    let new = world_of after (Some hss) others in
    then old between new [] (one old between [] (takes_none old between low none_held lets (λ other. refl)))
    (one between new [] (makes_none between new low (payload_of (drawn_key lms ots random)) (none_used (leaf_count lms)) none_held lets_new (λ other. refl)))

opens_no_key : (lms : LmsType) (ots : OtsType) (random left : Stream) (before after : ShelfState) (dir : List ℕ) (index : ℕ) (top : KeyState) (why : HssFault) (others : List ℕ → Option KeyState)
    → AreElsewhere others dir → OpensNoLower lms ots random before (low_dir dir index) why after left
    → Runs (world_of before (Some (hss_of dir top None)) others) [] (world_of after (Some (hss_of dir top None)) others)
opens_no_key lms ots random left before after dir index top why others away (opens_none lets) =
    lets_go lms ots random left before after (low_dir dir index) why (hss_of dir top None) others (closed_low others dir (low_dir dir index) top index away refl) lets
opens_no_key lms ots random left before after dir index top why others away (opens_spent key mid is taking spent puts) =
    let lower : LowerState = record { dir = low_dir dir index; index = index; key = key; top_sig = [] } in
    then (world_of before (Some (hss_of dir top None)) others) (world_of mid (Some (hss_of dir top (Some lower))) others) (world_of after (Some (hss_of dir top None)) others) []
    (took lms ots random left before mid dir top lower others away refl taking)
    (put_lower mid after dir top (Some lower) others away refl (took_readable lms ots random left before mid (low_dir dir index) key taking) puts)

-- ---- signing

top_signs : (random left : Stream) (shelf : ShelfState) (dir msg sig : List ℕ) (top new : KeyState) (lower : Option LowerState) (others : List ℕ → Option KeyState) → (by : SignsBy top random msg sig new left)
    → Runs (world_of shelf (Some (hss_of dir top lower)) others) (record { dir = dir; index = by.index; message = msg } ∷ []) (world_of shelf (Some (hss_of dir new lower)) others)
top_signs random left shelf dir msg sig top new lower others by =
    let old = world_of shelf (Some (hss_of dir top lower)) others in
    let after = world_of shelf (Some (hss_of dir new lower)) others in
    one old after (record { dir = dir; index = by.index; message = msg } ∷ []) (signs old after dir top new by.index msg (top_held dir top lower others) by.reserves (top_turns shelf shelf dir top new lower others) refl)

top_signs_none : (random left : Stream) (shelf : ShelfState) (dir : List ℕ) (why : HssFault) (top new : KeyState) (lower : Option LowerState) (others : List ℕ → Option KeyState) → SignsNone top random why new left
    → Runs (world_of shelf (Some (hss_of dir top lower)) others) [] (world_of shelf (Some (hss_of dir new lower)) others)
top_signs_none random left shelf dir Memory top new lower others none =
    subst (λ (k : KeyState). Runs (world_of shelf (Some (hss_of dir top lower)) others) [] (world_of shelf (Some (hss_of dir k lower)) others)) (sym none.0) (ends (world_of shelf (Some (hss_of dir top lower)) others))
top_signs_none random left shelf dir Disk top new lower others none =
    let old = world_of shelf (Some (hss_of dir top lower)) others in
    let after = world_of shelf (Some (hss_of dir new lower)) others in
    one old after [] (fails old after dir top new reserve.DiskFault (top_held dir top lower others) none.0 (top_turns shelf shelf dir top new lower others) refl)
top_signs_none random left shelf dir KeyThere top new lower others none = absurd none
top_signs_none random left shelf dir NoKey top new lower others none = absurd none
top_signs_none random left shelf dir BadKey top new lower others none = absurd none
top_signs_none random left shelf dir Spent top new lower others none = absurd none

low_signs : (random left : Stream) (shelf : ShelfState) (dir msg sig : List ℕ) (top : KeyState) (lower signed : LowerState) (others : List ℕ → Option KeyState) → lower.dir ≢ dir
    → (by : SignsBy lower.key random msg sig signed.key left) → signed ≡ record lower { key = signed.key }
    → Runs (world_of shelf (Some (hss_of dir top (Some lower))) others) (low_use lower by.index msg ∷ []) (world_of shelf (Some (hss_of dir top (Some signed))) others)
low_signs random left shelf dir msg sig top lower signed others ne by now =
    let old = world_of shelf (Some (hss_of dir top (Some lower))) others in
    let after = world_of shelf (Some (hss_of dir top (Some (record lower { key = signed.key })))) others in
    subst (λ (l : LowerState). Runs old (low_use lower by.index msg ∷ []) (world_of shelf (Some (hss_of dir top (Some l))) others)) (sym now)
    (one old after (low_use lower by.index msg ∷ [])
    (signs old after lower.dir lower.key signed.key by.index msg (lower_held dir top lower others ne) by.reserves (lower_turns shelf shelf dir top lower signed.key others ne) refl))

low_signs_none : (random left : Stream) (shelf : ShelfState) (dir : List ℕ) (why : HssFault) (top : KeyState) (lower signed : LowerState) (others : List ℕ → Option KeyState) → lower.dir ≢ dir
    → SignsNone lower.key random why signed.key left → signed ≡ record lower { key = signed.key }
    → Runs (world_of shelf (Some (hss_of dir top (Some lower))) others) [] (world_of shelf (Some (hss_of dir top (Some signed))) others)
low_signs_none random left shelf dir Memory top lower signed others ne none now =
    let same : signed ≡ lower = now ∙ ap (λ (k : KeyState). record lower { key = k }) none.0 in
    subst (λ (l : LowerState). Runs (world_of shelf (Some (hss_of dir top (Some lower))) others) [] (world_of shelf (Some (hss_of dir top (Some l))) others)) (sym same)
    (ends (world_of shelf (Some (hss_of dir top (Some lower))) others))
low_signs_none random left shelf dir Disk top lower signed others ne none now =
    let old = world_of shelf (Some (hss_of dir top (Some lower))) others in
    let after = world_of shelf (Some (hss_of dir top (Some (record lower { key = signed.key })))) others in
    subst (λ (l : LowerState). Runs old [] (world_of shelf (Some (hss_of dir top (Some l))) others)) (sym now)
    (one old after []
    (fails old after lower.dir lower.key signed.key reserve.DiskFault (lower_held dir top lower others ne) none.0 (lower_turns shelf shelf dir top lower signed.key others ne) refl))
low_signs_none random left shelf dir KeyThere top lower signed others ne none now = absurd none
low_signs_none random left shelf dir NoKey top lower signed others ne none now = absurd none
low_signs_none random left shelf dir BadKey top lower signed others ne none now = absurd none
low_signs_none random left shelf dir Spent top lower signed others ne none now = absurd none

-- ---- the next lower key

same_some : (a b : ℕ) → Some a ≡ Some b → a ≡ b
same_some a b e = cc

same_lower : (a b : LowerState) → Some a ≡ Some b → a ≡ b
same_lower a b e = cc

made_lower : (random left : Stream) (before after : ShelfState) (dir : List ℕ) (top new : KeyState) (lower : LowerState) (others : List ℕ → Option KeyState) → AreElsewhere others dir
    → MakesLower random before dir top lower new after left
    → Runs (world_of before (Some (hss_of dir top None)) others) (top_use dir lower.index (public_key lower.key.secret) ∷ []) (world_of after (Some (hss_of dir new (Some lower))) others)
made_lower random left before after dir top new lower others away making =
    let low : AuthorKey = public_key lower.key.secret in
    let by = making.vouches.signs in
    let same : by.index ≡ lower.index = same_some by.index lower.index (sym by.reserves.least ∙ making.index) in
    let uses : List IndexUse = top_use dir lower.index low ∷ [] in
    let old = world_of before (Some (hss_of dir top None)) others in
    let between = world_of making.mid (Some (hss_of dir top (Some lower))) others in
    let vouched = world_of making.mid (Some (hss_of dir new (Some lower))) others in
    let signing : Runs between uses vouched =
    subst (λ (k : ℕ). Runs between (top_use dir k low ∷ []) vouched) same (top_signs making.between left making.mid dir (key_bytes low) lower.top_sig top new (Some lower) others by) in
    let done = world_of after (Some (hss_of dir new (Some lower))) others in
    before_none old vouched done uses
    (then old between vouched uses (took top.secret.lms top.secret.ots random making.between before making.mid dir top lower others away making.place making.takes) signing)
    (writes_peers making.mid after lower.dir (lower.top_sig ++ key_bytes low) (Some (hss_of dir new (Some lower))) others making.vouches.writes)

unvouched : (random left : Stream) (before after : ShelfState) (dir low_name : List ℕ) (top new : KeyState) (low : AuthorKey) (why : HssFault) (lower : Option LowerState) (others : List ℕ → Option KeyState)
    → (vouches : VouchesNot random before low_name top low why new after left)
    → Runs (world_of before (Some (hss_of dir top lower)) others) (unvouched_uses dir vouches) (world_of after (Some (hss_of dir new lower)) others)
unvouched random left before after dir low_name top new low why lower others (unsigned none same) =
    then (world_of before (Some (hss_of dir top lower)) others) (world_of after (Some (hss_of dir top lower)) others) (world_of after (Some (hss_of dir new lower)) others) []
    (same_shelf before after (Some (hss_of dir top lower)) others same) (top_signs_none random left after dir why top new lower others none)
unvouched random left before after dir low_name top new low why lower others (unwritten sig by is written) =
    before_none (world_of before (Some (hss_of dir top lower)) others) (world_of before (Some (hss_of dir new lower)) others) (world_of after (Some (hss_of dir new lower)) others) (top_use dir by.index low ∷ [])
    (top_signs random left before dir (key_bytes low) sig top new lower others by) (peers_or_not written)
  where
    peers_or_not : (after ≡ before) ⊎ WritesPeers (sig ++ key_bytes low) before low_name after → Runs (world_of before (Some (hss_of dir new lower)) others) [] (world_of after (Some (hss_of dir new lower)) others)
    peers_or_not (inl same) = same_shelf before after (Some (hss_of dir new lower)) others same
    peers_or_not (inr writes) = writes_peers before after low_name (sig ++ key_bytes low) (Some (hss_of dir new lower)) others writes

-- nothing was done
nothing : (before after : ShelfState) (dir : List ℕ) (top new : KeyState) (others : List ℕ → Option KeyState) → new ≡ top → after ≡ before
    → Runs (world_of before (Some (hss_of dir top None)) others) [] (world_of after (Some (hss_of dir new None)) others)
nothing before after dir top new others same shelf =
    subst (λ (k : KeyState). Runs (world_of before (Some (hss_of dir top None)) others) [] (world_of after (Some (hss_of dir k None)) others)) (sym same) (same_shelf before after (Some (hss_of dir top None)) others shelf)

unmade : (random left : Stream) (before after : ShelfState) (dir : List ℕ) (top new : KeyState) (why : HssFault) (others : List ℕ → Option KeyState) → AreElsewhere others dir
    → (refuses : RefusesLower random before dir top why new after left)
    → Runs (world_of before (Some (hss_of dir top None)) others) (unmade_uses refuses) (world_of after (Some (hss_of dir new None)) others)
unmade random left before after dir top new why others away (top_spent is spent same shelf drawn) = nothing before after dir top new others same shelf
unmade random left before after dir top new why others away (no_memory is same shelf drawn) = nothing before after dir top new others same shelf
unmade random left before after dir top new why others away (refuses_key index least opens same) =
    subst (λ (k : KeyState). Runs (world_of before (Some (hss_of dir top None)) others) [] (world_of after (Some (hss_of dir k None)) others)) (sym same)
    (opens_no_key top.secret.lms top.secret.ots random left before after dir index top why others away opens)
unmade random left before after dir top new why others away (no_vouching index key mid done between least taking has vouches puts) =
    let lower : LowerState = record { dir = low_dir dir index; index = index; key = key; top_sig = [] } in
    let old = world_of before (Some (hss_of dir top None)) others in
    let took_it = world_of mid (Some (hss_of dir top (Some lower))) others in
    let tried_it = world_of done (Some (hss_of dir new (Some lower))) others in
    let last = world_of after (Some (hss_of dir new None)) others in
    let uses = unvouched_uses dir vouches in
    before_none old tried_it last uses
    (then old took_it tried_it uses (took top.secret.lms top.secret.ots random between before mid dir top lower others away refl taking)
    (unvouched between left mid done dir (low_dir dir index) top new (public_key key.secret) why (Some lower) others vouches))
    (put_lower done after dir new (Some lower) others away refl (took_readable top.secret.lms top.secret.ots random between before mid (low_dir dir index) key taking) puts)

-- ---- a current lower key

unspent : (before after : ShelfState) (dir : List ℕ) (top : KeyState) (lower kept : Option LowerState) (others : List ℕ → Option KeyState) → AreElsewhere others dir
    → IfSome lower (λ l. l.dir ≡ low_dir dir l.index) → IfSome lower (λ l. IsSpent l.key → IsReadable l.key) → KeepsUnspent before lower kept after
    → Runs (world_of before (Some (hss_of dir top lower)) others) [] (world_of after (Some (hss_of dir top kept)) others)
unspent before after dir top None None others away place readable keeps = same_shelf before after (Some (hss_of dir top None)) others keeps
unspent before after dir top None (Some kept) others away place readable keeps = absurd keeps
unspent before after dir top (Some lower) None others away place readable keeps = put_lower before after dir top (Some lower) others away place (readable keeps.0) keeps.1
unspent before after dir top (Some lower) (Some kept) others away place readable keeps =
    subst (λ (l : LowerState). Runs (world_of before (Some (hss_of dir top (Some lower))) others) [] (world_of after (Some (hss_of dir top (Some l))) others)) (sym keeps.1)
    (same_shelf before after (Some (hss_of dir top (Some lower))) others keeps.2)

-- where it is, and whose
pub record IsReady (old ready : HssState) (lower : LowerState) : Type 0 where
  pub same_dir : ready.dir ≡ old.dir
  pub place : lower.dir ≡ low_dir old.dir lower.index

kept_place : (before mid : ShelfState) (dir : List ℕ) (lower : Option LowerState) (kept : LowerState) → IfSome lower (λ l. l.dir ≡ low_dir dir l.index) → KeepsUnspent before lower (Some kept) mid
    → kept.dir ≡ low_dir dir kept.index
kept_place before mid dir None kept place keeps = absurd keeps
kept_place before mid dir (Some lower) kept place keeps = subst (λ (l : LowerState). l.dir ≡ low_dir dir l.index) (sym keeps.1) place

pub is_ready : (random left : Stream) (before mid after : ShelfState) (old ready : HssState) (kept : Option LowerState) (lower : LowerState) → IsSound old → KeepsUnspent before old.lower kept mid
    → KeepsOrMakes random mid old kept ready after left → ready.lower ≡ Some lower → IsReady old ready lower
is_ready random left before mid after old ready (Some kept) lower sound keeps makes_it is =
    let same : kept ≡ lower = same_lower kept lower (sym (ap (λ (h : HssState). h.lower) makes_it.0) ∙ is) in
    record {
      same_dir = ap (λ (h : HssState). h.dir) makes_it.0;
      place = subst (λ (l : LowerState). l.dir ≡ low_dir old.dir l.index) same (kept_place before mid old.dir old.lower kept (places old.dir old.top old.lower sound) keeps);
    }
is_ready random left before mid after old ready None lower sound keeps makes_it is =
    let same : makes_it.0 ≡ lower = same_lower makes_it.0 lower (sym (ap (λ (h : HssState). h.lower) makes_it.1) ∙ is) in
    record {
      same_dir = ap (λ (h : HssState). h.dir) makes_it.1;
      place = subst (λ (l : LowerState). l.dir ≡ low_dir old.dir l.index) same makes_it.2.place;
    }

readied : (random left : Stream) (before mid after : ShelfState) (old ready : HssState) (kept : Option LowerState) (lower : LowerState) (others : List ℕ → Option KeyState) → AreElsewhere others old.dir
    → IsSound old → AreSpentReadable old → KeepsUnspent before old.lower kept mid → KeepsOrMakes random mid old kept ready after left → ready.lower ≡ Some lower
    → Runs (world_of before (Some old) others) (making_uses kept old.dir lower) (world_of after (Some ready) others)
readied random left before mid after old ready (Some kept) lower others away sound readable keeps makes_it is =
    let first = world_of before (Some old) others in
    let between = world_of mid (Some (hss_of old.dir old.top (Some kept))) others in
    let last = world_of after (Some (hss_of old.dir old.top (Some kept))) others in
    subst (λ (h : HssState). Runs first [] (world_of after (Some h) others)) (sym makes_it.0)
    (then first between last [] (unspent before mid old.dir old.top old.lower (Some kept) others away (places old.dir old.top old.lower sound) readable keeps)
    (same_shelf mid after (Some (hss_of old.dir old.top (Some kept))) others makes_it.1))
readied random left before mid after old ready None lower others away sound readable keeps makes_it is =
    let new : LowerState = makes_it.0 in
    let same : new ≡ lower = same_lower new lower (sym (ap (λ (h : HssState). h.lower) makes_it.1) ∙ is) in
    let first = world_of before (Some old) others in
    let between = world_of mid (Some (hss_of old.dir old.top None)) others in
    let last = world_of after (Some (hss_of old.dir ready.top (Some new))) others in
    subst (λ (l : LowerState). Runs first (making_uses None old.dir l) (world_of after (Some ready) others)) same
    (subst (λ (h : HssState). Runs first (making_uses None old.dir new) (world_of after (Some h) others)) (sym makes_it.1)
    (then first between last (making_uses None old.dir new) (unspent before mid old.dir old.top old.lower None others away (places old.dir old.top old.lower sound) readable keeps)
    (made_lower random left mid after old.dir old.top ready.top new others away makes_it.2)))

-- ---- sealing

with_lower : (ready : HssState) (lower : LowerState) → ready.lower ≡ Some lower → ready ≡ hss_of ready.dir ready.top (Some lower)
with_lower ready lower is = ap (λ (l : Option LowerState). hss_of ready.dir ready.top l) is

pub signed : (random left : Stream) (before after : ShelfState) (old new : HssState) (msg seal : List ℕ) (others : List ℕ → Option KeyState) → AreElsewhere others old.dir → IsSound old → AreSpentReadable old
    → (signing : Signs random before old msg seal new after left) → Runs (world_of before (Some old) others) (sealing_uses signing) (world_of after (Some new) others)
signed random left before after old new msg seal others away sound readable signing =
    let ready = signing.ready in
    let lower = signing.lower in
    let readies = signing.readies in
    let is = is_ready random signing.between before readies.mid after old ready readies.kept lower sound readies.keeps readies.ready signing.is_lower in
    let ne : lower.dir ≢ ready.dir = λ same. off_low old.dir lower.dir lower.index is.place (same ∙ is.same_dir) in
    let first = world_of before (Some old) others in
    let between = world_of after (Some (hss_of ready.dir ready.top (Some lower))) others in
    let last = world_of after (Some (hss_of ready.dir ready.top (Some signing.signed))) others in
    let seals = signing.seals in
    let uses = making_uses readies.kept old.dir lower in
    let used = low_use lower seals.signs.index msg ∷ [] in
    subst (λ (h : HssState). Runs first (uses ++ used) (world_of after (Some h) others)) (sym signing.now)
    (join first between last uses used
    (subst (λ (h : HssState). Runs first uses (world_of after (Some h) others)) (with_lower ready lower signing.is_lower)
    (readied random signing.between before readies.mid after old ready readies.kept lower others away sound readable readies.keeps readies.ready signing.is_lower))
    (low_signs signing.between left after ready.dir msg seals.sig ready.top lower signing.signed others ne seals.signs seals.now))

unsealed : (random left : Stream) (shelf : ShelfState) (dir msg : List ℕ) (why : HssFault) (top : KeyState) (lower new : LowerState) (others : List ℕ → Option KeyState) → lower.dir ≢ dir
    → (seals : SealsNone lower random msg why new left)
    → Runs (world_of shelf (Some (hss_of dir top (Some lower))) others) (unsealed_uses seals) (world_of shelf (Some (hss_of dir top (Some new))) others)
unsealed random left shelf dir msg why top lower new others ne (seals_unsigned none now) = low_signs_none random left shelf dir why top lower new others ne none now
unsealed random left shelf dir msg why top lower new others ne (unjoined sig by is now) = low_signs random left shelf dir msg sig top lower new others ne by now

pub refused : (random left : Stream) (before after : ShelfState) (old new : HssState) (msg : List ℕ) (why : HssFault) (others : List ℕ → Option KeyState) → AreElsewhere others old.dir → IsSound old
    → AreSpentReadable old → (refuses : RefusesToSign random before old msg why new after left) → Runs (world_of before (Some old) others) (refused_uses refuses) (world_of after (Some new) others)
refused random left before after old new msg why others away sound readable (not_ready refuses) =
    let first = world_of before (Some old) others in
    let between = world_of refuses.mid (Some (hss_of old.dir old.top None)) others in
    let last = world_of after (Some (hss_of old.dir new.top None)) others in
    let uses = unmade_uses refuses.refuses in
    subst (λ (h : HssState). Runs first uses (world_of after (Some h) others)) (sym refuses.now)
    (then first between last uses (unspent before refuses.mid old.dir old.top old.lower None others away (places old.dir old.top old.lower sound) readable refuses.keeps)
    (unmade random left refuses.mid after old.dir old.top new.top why others away refuses.refuses))
refused random left before after old new msg why others away sound readable (not_sealed ready between lower signed readies is_lower seals now) =
    let is = is_ready random between before readies.mid after old ready readies.kept lower sound readies.keeps readies.ready is_lower in
    let ne : lower.dir ≢ ready.dir = λ same. off_low old.dir lower.dir lower.index is.place (same ∙ is.same_dir) in
    let first = world_of before (Some old) others in
    let middle = world_of after (Some (hss_of ready.dir ready.top (Some lower))) others in
    let last = world_of after (Some (hss_of ready.dir ready.top (Some signed))) others in
    let uses = making_uses readies.kept old.dir lower in
    subst (λ (h : HssState). Runs first (uses ++ unsealed_uses seals) (world_of after (Some h) others)) (sym now)
    (join first middle last uses (unsealed_uses seals)
    (subst (λ (h : HssState). Runs first uses (world_of after (Some h) others)) (with_lower ready lower is_lower)
    (readied random between before readies.mid after old ready readies.kept lower others away sound readable readies.keeps readies.ready is_lower))
    (unsealed between left after ready.dir msg why ready.top lower signed others ne seals))
