-- Passes that go on.
use Rattle.std.proofs.Common.{◌≡◌, ◌+◌, ◌-◌, ◌<◌, ◌≤◌, ℕ, zero, suc, take, drop, get_or, Bool, List, [], ◌∷◌, ◌++◌, length, map, Option, Some, None, Result, Ok, Err, refl, sym, ap, subst, ◌∙◌, append_assoc, append-nil, arith}
use Rattle.std.specs.List.{slice_get, filter_map, cons_option}
use Rattle.std.proofs.Math.Seq.{take-add}
use Rattle.std.proofs.lemmas.Option.{slice_get-map}
use Rattle.std.proofs.lemmas.List.{length-drop, map-append, take-append-drop, take_all, take_more}
use Rattle.std.proofs.lemmas.List.Elements.{All-drop, All-head, All-same, All-tail, All-take, All-weaker, filter_map-append}
use Rattle.std.specs.Prelude.{All, option_map}
use Rattle.std.specs.Io.KnownBytes.{Appends}
use mathlib.Core.List.{IsPrefix}
use Rattle.replica.specs.Replicas.{ReplicaState}
use Rattle.update_codec.specs.Parts.{entry_of}
use Rattle.session_rules.specs.State.{FrameData, Item}
use Rattle.turn_lock.specs.Seats.{Known}
use Rattle.shared_replica.specs.declared.entry.Entry.{Entry}
use Rattle.shared_replica.specs.Acts.{IsAct}
use Rattle.shared_replica.specs.Entries.{entries_by, updates_of}
use Rattle.shared_replica.specs.Pieces.{IsPieceOf}
use Rattle.shared_replica.proofs.Lists.{updates_begin, updates_more}
use Rattle.link_frames.specs.Hearing.{AreFrontOf}
use Rattle.link_frames.specs.Saying.{Says}
use Rattle.link_frames.specs.declared.saying.Halt.{Halt}
use Rattle.link_frames.proofs.Sentences.{front_whole, says_then, says_halted}
use Rattle.session_server.specs.Talks.{IsStill}

pub prefix_then : {A : Type 0} (xs ys zs : List A) → IsPrefix xs ys → IsPrefix ys zs → IsPrefix xs zs
prefix_then xs ys zs p q = (p.0 ++ q.0, sym (append_assoc xs p.0 q.0) ∙ ap (λ w. w ++ q.0) p.1 ∙ q.1)

pub prefix_self : {A : Type 0} (xs : List A) → IsPrefix xs xs
prefix_self xs = ([], append-nil xs)

pub updates_prefix : (es list : List Entry) → IsPrefix es list → IsPrefix (updates_of es) (updates_of list)
updates_prefix es list p = (updates_of p.0, sym (updates_more es p.0) ∙ ap updates_of p.1)

pub still_self : (pass : Known Entry) → IsStill pass pass
still_self pass = record { lock = refl; seen = prefix_self pass.seen; numbered = λ n is. is }

pub still_then : (a b c : Known Entry) → IsStill a b → IsStill b c → IsStill a c
still_then a b c p q = record { lock = q.lock ∙ p.lock; seen = prefix_then a.seen b.seen c.seen p.seen q.seen; numbered = λ n is. q.numbered n (p.numbered n is) }

pub act_still : (before after : Known Entry) (P : List Entry) (old new : ReplicaState) (fault : Bool) → IsAct before after P old new fault → IsStill before after
act_still before after P old new fault a = record {
  lock = a.same_lock;
  seen = prefix_then before.seen P after.seen a.began (entries_by a.seat after.acts a.added fault, sym a.ended);
  numbered = a.named;
}

-- ---- updates that were fetched

get_front : {A : Type 0} (xs ys : List A) (k : ℕ) → k < length xs → slice_get (xs ++ ys) k ≡ slice_get xs k
get_front [] ys k less = absurd (omega arith)
get_front (x ∷ xs) ys zero less = refl
get_front (x ∷ xs) ys (suc k) less = get_front xs ys k (omega arith)

cons_map : {X Y : Type 0} (f : X → Y) (o : Option X) (rest : List X) → cons_option (option_map f o) (map f rest) ≡ map f (cons_option o rest)
cons_map f None rest = refl
cons_map f (Some x) rest = refl

-- positions of what was seen name the same in a longer list
same_named : (seen list : List Entry) (positions : List ℕ) → IsPrefix seen list → All (λ p. p < length (updates_of seen)) positions
    → filter_map (slice_get (map entry_of (updates_of seen))) positions ≡ map entry_of (filter_map (slice_get (updates_of list)) positions)
same_named seen list [] p within = refl
same_named seen list (q ∷ qs) p within =
    let u = updates_prefix seen list p in
    let low : q < length (updates_of seen) = All-head (λ (n : ℕ). n < length (updates_of seen)) q qs within in
    let there : slice_get (updates_of seen) q ≡ slice_get (updates_of list) q = sym (get_front (updates_of seen) u.0 q low) ∙ ap (λ (l : List (List ℕ)). slice_get l q) u.1 in
    let here = slice_get-map entry_of (updates_of seen) q ∙ ap (option_map entry_of) there in
    let rest = same_named seen list qs p (All-tail (λ (n : ℕ). n < length (updates_of seen)) q qs within) in
    (λ i. cons_option (here i) (rest i)) ∙ cons_map entry_of (slice_get (updates_of list) q) (filter_map (slice_get (updates_of list)) qs)

-- what positions say
abbrev pub items : List Entry → List ℕ → List FrameData
items seen ps = map Item (filter_map (slice_get (map entry_of (updates_of seen))) ps)

items_apart : (seen : List Entry) (ps qs : List ℕ) → items seen (ps ++ qs) ≡ items seen ps ++ items seen qs
items_apart seen ps qs =
    let graph = map entry_of (updates_of seen) in
    ap (map Item) (filter_map-append (slice_get graph) ps qs) ∙ map-append Item (filter_map (slice_get graph) ps) (filter_map (slice_get graph) qs)

pub items_split : (seen : List Entry) (positions : List ℕ) (said : ℕ) → items seen positions ≡ items seen (take said positions) ++ items seen (drop said positions)
items_split seen positions said = ap (items seen) (sym (take-append-drop said positions)) ∙ items_apart seen (take said positions) (drop said positions)

-- the positions that are left
pub rest_is : (positions : List ℕ) (said : ℕ) → take (length positions - said) (drop said positions) ≡ drop said positions
rest_is positions said = take_all (length positions - said) (drop said positions) (let n = length-drop said positions in omega arith)

pub rest_seen : (seen more : List Entry) (positions rest : List ℕ) (said : ℕ) → rest ≡ drop said positions → IsPrefix seen more → All (λ p. p < length (updates_of seen)) positions
    → All (λ p. p < length (updates_of more)) rest
rest_seen seen more positions rest said is p within =
    let wider = All-weaker (λ (n : ℕ). n < length (updates_of seen)) (λ (n : ℕ). n < length (updates_of more)) (λ n low. omega (arith, low, updates_begin seen more p)) positions within in
    All-same (λ (n : ℕ). n < length (updates_of more)) rest (drop said positions) is (All-drop (λ (n : ℕ). n < length (updates_of more)) said positions wider)

module _ (seen list : List Entry) (positions rest : List ℕ) (said count : ℕ) (piece : List (List ℕ)) (begins : IsPrefix seen list) (within : All (λ p. p < length (updates_of seen)) positions)
    (rest_are : rest ≡ drop said positions) (counted : count ≡ length piece) (is : IsPieceOf (updates_of list) rest piece) where
  -- a piece says what its positions name
  piece_items : items seen (take count (drop said positions)) ≡ map Item (map entry_of piece)
  piece_items =
      let ps = take count (drop said positions) in
      let inside = All-take (λ (n : ℕ). n < length (updates_of seen)) count (drop said positions) (All-drop (λ (n : ℕ). n < length (updates_of seen)) said positions within) in
      let there : filter_map (slice_get (updates_of list)) ps ≡ piece = (λ i. filter_map (slice_get (updates_of list)) (take (counted i) (sym rest_are i))) ∙ is.there in
      ap (map Item) (same_named seen list ps begins inside) ∙ ap (λ (l : List (List ℕ)). map Item (map entry_of l)) there

  -- one piece more
  pub piece_more : items seen (take (said + count) positions) ≡ items seen (take said positions) ++ map Item (map entry_of piece)
  piece_more = ap (items seen) (take-add said count positions) ∙ items_apart seen (take said positions) (take count (drop said positions))
      ∙ ap (λ (l : List FrameData). items seen (take said positions) ++ l) piece_items

  -- the pieces before, one, and those behind
  pub piece_split : items seen positions ≡ (items seen (take said positions) ++ map Item (map entry_of piece)) ++ items seen (drop (said + count) positions)
  piece_split = items_split seen positions (said + count) ∙ ap (λ (l : List FrameData). l ++ items seen (drop (said + count) positions)) piece_more

  pub piece_within : said ≤ length positions → said + count ≤ length positions
  piece_within low = let w = is.within in let r = ap length rest_are in omega (arith, w, r, counted, length-drop said positions)

-- one update of a piece more
pub item_more : (piece : List (List ℕ)) (i : ℕ) (update : List ℕ) → i < length piece → update ≡ get_or piece i update
    → map Item (map entry_of (take (i + 1) piece)) ≡ map Item (map entry_of (take i piece)) ++ Item (entry_of update) ∷ []
item_more piece i update low is =
    ap (λ (l : List (List ℕ)). map Item (map entry_of l)) (take_more piece i update low ∙ ap (λ (u : List ℕ). take i piece ++ u ∷ []) (sym is))
    ∙ ap (map Item) (map-append entry_of (take i piece) (update ∷ [])) ∙ map-append Item (map entry_of (take i piece)) (entry_of update ∷ [])

-- and what stands behind it
pub item_split : (piece : List (List ℕ)) (i : ℕ) (update : List ℕ) → i < length piece → update ≡ get_or piece i update
    → map Item (map entry_of piece) ≡ (map Item (map entry_of (take i piece)) ++ Item (entry_of update) ∷ []) ++ map Item (map entry_of (drop (i + 1) piece))
item_split piece i update low is =
    ap (λ (l : List (List ℕ)). map Item (map entry_of l)) (sym (take-append-drop (i + 1) piece)) ∙ ap (map Item) (map-append entry_of (take (i + 1) piece) (drop (i + 1) piece))
    ∙ map-append Item (map entry_of (take (i + 1) piece)) (map entry_of (drop (i + 1) piece)) ∙ ap (λ (l : List FrameData). l ++ map Item (map entry_of (drop (i + 1) piece))) (item_more piece i update low is)

-- what was said so far, and more
pub said_on : (T : Type 0) (a b c : Option (List ℕ)) (r : Result T Halt) (t : T) (before more all : List FrameData) → Says {T = ℕ} a b (Ok 0) before → Says b c r more → r ≡ Ok t
    → all ≡ before ++ more → Says {T = ℕ} a c (Ok 0) all
said_on T a b c r t before more all p q is are =
    let one = subst (λ (w : Result T Halt). Says b c w more) is q in
    let both = says_then {T = ℕ} {U = T} a b c 0 (Ok t) before more p one in
    subst (λ (l : List FrameData). Says {T = ℕ} a c (Ok 0) l) (sym are) (both.0, both.1, both.2)

-- where that was not said whole
pub said_halts : (T : Type 0) (a b c : Option (List ℕ)) (r : Result T Halt) (halt : Halt) (before more behind all : List FrameData) → Says {T = ℕ} a b (Ok 0) before → Says b c r more → r ≡ Err halt
    → all ≡ (before ++ more) ++ behind → (x : List ℕ) × Appends a c x × AreFrontOf all x
said_halts T a b c r halt before more behind all p q is are =
    let one = subst (λ (w : Result T Halt). Says b c w more) is q in
    let both = says_halted T T a c halt (before ++ more) behind (says_then {T = ℕ} {U = T} a b c 0 (Err halt) before more p one) in
    subst (λ (l : List FrameData). (x : List ℕ) × Appends a c x × AreFrontOf l x) (sym are) (both.0, both.1, both.2)

-- where no more was said
pub said_so_far : (a b : Option (List ℕ)) (before behind all : List FrameData) → Says {T = ℕ} a b (Ok 0) before → all ≡ before ++ behind → (x : List ℕ) × Appends a b x × AreFrontOf all x
said_so_far a b before behind all p are = (p.0, p.1, subst (λ (l : List FrameData). AreFrontOf l p.0) (sym are) (front_whole before behind p.0 p.2))

-- ---- a Hello, updates and a Turn, one after the other

pub say_first : (T : Type 0) (a b : Option (List ℕ)) (r : Result T Halt) (halt : Halt) (hello rest : List FrameData) → r ≡ Err halt → Says a b r hello → (x : List ℕ) × Appends a b x × AreFrontOf (hello ++ rest) x
say_first T a b r halt hello rest is p =
    let both = says_halted T T a b halt hello rest (subst (λ (w : Result T Halt). Says a b w hello) is p) in
    (both.0, both.1, both.2)

pub say_second : (T : Type 0) (a b c : Option (List ℕ)) (r s : Result T Halt) (t : T) (halt : Halt) (hello items turn : List FrameData) → r ≡ Ok t → Says a b r hello → s ≡ Err halt → Says b c s items
    → (x : List ℕ) × Appends a c x × AreFrontOf (hello ++ (items ++ turn)) x
say_second T a b c r s t halt hello items turn is p are q =
    let one = subst (λ (w : Result T Halt). Says a b w hello) is p in
    let two = says_halted T T b c halt items turn (subst (λ (w : Result T Halt). Says b c w items) are q) in
    let both = says_then {T = T} {U = T} a b c t (Err halt) hello (items ++ turn) one two in
    (both.0, both.1, both.2)

pub say_third : (T : Type 0) (a b c d : Option (List ℕ)) (r s u : Result T Halt) (t v : T) (hello items turn : List FrameData) → r ≡ Ok t → Says a b r hello → s ≡ Ok v → Says b c s items → Says c d u turn
    → Says a d u (hello ++ (items ++ turn))
say_third T a b c d r s u t v hello items turn is p are q w =
    let one = subst (λ (x : Result T Halt). Says a b x hello) is p in
    let two = subst (λ (x : Result T Halt). Says b c x items) are q in
    says_then {T = T} {U = T} a b d t u hello (items ++ turn) one (says_then {T = T} {U = T} b c d v u items turn two w)
