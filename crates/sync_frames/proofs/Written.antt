-- What was written spells a frame.
use Rattle.std.proofs.Common.{◌≡◌, ℕ, ◌+◌, ◌*◌, ◌≤◌, ◌||◌, Bool, true, false, List, [], ◌∷◌, ◌++◌, length, get_or, refl, sym, ap, ◌∙◌, arith, append_assoc, length-append}
use Rattle.std.proofs.lemmas.Bool.{le-leb}
use Rattle.std.specs.Int.{w16, w32, to_be_bytes, from_bool}
use Rattle.update_model.specs.declared.update_id.UpdateId.{UpdateId}
use Rattle.sync_frames.specs.declared.frame.Frame.TheVariants as frames
use Rattle.sync_frames.specs.Payload.{HelloData, TurnData, IsHello, IsTurn, HasBlocks, AreIds, spelled_ids, counted, hello_payload, turn_payload, flag}
use Rattle.sync_frames.specs.Stream.{Spells, is_head}
use Rattle.sync_frames.proofs.Telling.{raw_of}

ids_long : (ids : List UpdateId) → AreIds ids → length (spelled_ids ids) ≡ 32 * length ids
ids_long [] are = refl
ids_long (id ∷ ids) are = let others = ids_long ids are.1 in let this = are.0 in omega (arith, length-append id.0 (spelled_ids ids))

-- how many bytes the payloads have
pub hello_long : (hello : HelloData) → HasBlocks hello → length (hello_payload hello) ≡ 75 + 32 * length hello.heads + 32 * length hello.old + length hello.filter
hello_long hello blocks =
    let heads = ids_long hello.heads blocks.heads in
    let old = ids_long hello.old blocks.old in
    let filter : List ℕ = to_be_bytes w32 (length hello.filter) ++ hello.filter in
    let behind_heads : List ℕ = counted w16 hello.old ++ filter in
    let behind_node : List ℕ = counted w32 hello.heads ++ behind_heads in
    let database = blocks.database in
    let node = blocks.node in
    omega (
      arith,
      length-append hello.database (hello.node ++ behind_node),
      length-append hello.node behind_node,
      length-append (counted w32 hello.heads) behind_heads,
      length-append (counted w16 hello.old) filter,
      length-append (to_be_bytes w32 (length hello.heads)) (spelled_ids hello.heads),
      length-append (to_be_bytes w16 (length hello.old)) (spelled_ids hello.old),
      length-append (to_be_bytes w32 (length hello.filter)) hello.filter,
    )

turn_long : (turn : TurnData) → AreIds turn.needs → length (turn_payload turn) ≡ 3 + 32 * length turn.needs
turn_long turn are = let needs = ids_long turn.needs are in omega (arith, length-append (to_be_bytes w16 (length turn.needs)) (spelled_ids turn.needs))

-- a head of kind 1 or 3 is fine up to the limit
head_one : (len : ℕ) → len ≤ 8388608 → is_head 1 len ≡ true
head_one len low = ap (λ b. b || false) (le-leb len 8388608 low)

head_three : (len : ℕ) → len ≤ 8388608 → is_head 3 len ≡ true
head_three len low = ap (λ b. b || false) (le-leb len 8388608 low)

-- the parts of a Hello one behind the other
hello_flat : (front : List ℕ) (v d n hc h oc o fc f : List ℕ)
    → ((((((((front ++ v) ++ d) ++ n) ++ hc) ++ h) ++ oc) ++ o) ++ fc) ++ f ≡ front ++ (v ++ (d ++ (n ++ ((hc ++ h) ++ ((oc ++ o) ++ (fc ++ f))))))
hello_flat front v d n hc h oc o fc f = simp append_assoc

pub hello_written : (hello : HelloData) (len : ℕ) (bytes : List ℕ) → IsHello hello → HasBlocks hello → len ≡ 75 + 32 * length hello.heads + 32 * length hello.old + length hello.filter
    → bytes ≡ (((((((((1 ∷ to_be_bytes w32 len) ++ 2 ∷ []) ++ hello.database) ++ hello.node) ++ to_be_bytes w32 (length hello.heads)) ++ spelled_ids hello.heads)
    ++ to_be_bytes w16 (length hello.old)) ++ spelled_ids hello.old) ++ to_be_bytes w32 (length hello.filter)) ++ hello.filter
    → Spells (frames.Hello hello) bytes
hello_written hello len bytes is blocks size written =
    let long : len ≡ length (hello_payload hello) = size ∙ sym (hello_long hello blocks) in
    record {
      raw = raw_of 1 (hello_payload hello);
      whole =
          written ∙ hello_flat (1 ∷ to_be_bytes w32 len) (2 ∷ []) hello.database hello.node (to_be_bytes w32 (length hello.heads)) (spelled_ids hello.heads)
          (to_be_bytes w16 (length hello.old)) (spelled_ids hello.old) (to_be_bytes w32 (length hello.filter)) hello.filter
          ∙ ap (λ n. (1 ∷ to_be_bytes w32 n) ++ hello_payload hello) long;
      head = head_one (length (hello_payload hello)) (let a = is.few_heads in let b = is.few_old in let d = is.small in omega arith);
      says = (refl, refl, is, blocks);
    }

turn_flat : (front : List ℕ) (have c needs : List ℕ) → ((front ++ have) ++ c) ++ needs ≡ front ++ (have ++ (c ++ needs))
turn_flat front have c needs = simp append_assoc

pub turn_written : (turn : TurnData) (len b : ℕ) (bytes : List ℕ) → IsTurn turn → AreIds turn.needs → len ≡ 3 + 32 * length turn.needs → b ≡ flag turn.have
    → bytes ≡ (((3 ∷ to_be_bytes w32 len) ++ b ∷ []) ++ to_be_bytes w16 (length turn.needs)) ++ spelled_ids turn.needs
    → Spells (frames.Turn turn) bytes
turn_written turn len b bytes is are size says written =
    let long : len ≡ length (turn_payload turn) = size ∙ sym (turn_long turn are) in
    record {
      raw = raw_of 3 (turn_payload turn);
      whole =
          written ∙ turn_flat (3 ∷ to_be_bytes w32 len) (b ∷ []) (to_be_bytes w16 (length turn.needs)) (spelled_ids turn.needs)
          ∙ ap (λ k. (3 ∷ to_be_bytes w32 len) ++ (k ∷ counted w16 turn.needs)) says
          ∙ ap (λ n. (3 ∷ to_be_bytes w32 n) ++ turn_payload turn) long;
      head = head_three (length (turn_payload turn)) (let a = is.few in omega arith);
      says = (refl, refl, is, are);
    }

pub item_written : (len : ℕ) (field update : List ℕ) → field ≡ to_be_bytes w32 len → length update ≡ len → len ≤ 262144
    → Spells (frames.Item update) (2 ∷ get_or field 0 0 ∷ get_or field 1 0 ∷ get_or field 2 0 ∷ get_or field 3 0 ∷ update)
item_written len field update is long low = record {
  raw = raw_of 2 update;
  whole = ap (λ (b : List ℕ). 2 ∷ get_or b 0 0 ∷ get_or b 1 0 ∷ get_or b 2 0 ∷ get_or b 3 0 ∷ update) (is ∙ ap (to_be_bytes w32) (sym long));
  head = le-leb (length update) 262144 (omega arith);
  says = (refl, refl);
}

pub flag_of_bool : (b : Bool) → from_bool b ≡ flag b
flag_of_bool true = refl
flag_of_bool false = refl

-- the parts of a Hello, one step after the other
pub hello_steps : (n d m hc h oc o fc f o0 o1 o2 o3 o4 o5 o6 o7 o8 : List ℕ) → o0 ≡ n → o1 ≡ o0 ++ d → o2 ≡ o1 ++ m → o3 ≡ o2 ++ hc → o4 ≡ o3 ++ h → o5 ≡ o4 ++ oc → o6 ≡ o5 ++ o → o7 ≡ o6 ++ fc → o8 ≡ o7 ++ f
    → o8 ≡ (((((((n ++ d) ++ m) ++ hc) ++ h) ++ oc) ++ o) ++ fc) ++ f
hello_steps n d m hc h oc o fc f o0 o1 o2 o3 o4 o5 o6 o7 o8 e0 e1 e2 e3 e4 e5 e6 e7 e8 = cc

-- the parts of a Turn, one step after the other
pub turn_steps : (n b c m o0 o1 o2 o3 : List ℕ) → o0 ≡ n → o1 ≡ o0 ++ b → o2 ≡ o1 ++ c → o3 ≡ o2 ++ m → o3 ≡ ((n ++ b) ++ c) ++ m
turn_steps n b c m o0 o1 o2 o3 e0 e1 e2 e3 = cc
