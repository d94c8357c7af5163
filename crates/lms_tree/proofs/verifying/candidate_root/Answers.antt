use Rattle.std.proofs.Common.{◌≡◌, ◌<◌, ◌+◌, ◌-◌, ◌*◌, ℕ, List, length, take, drop, sym, ap, subst, ◌∙◌, arith}
use Rattle.std.proofs.lemmas.List.{drop-drop, take_rest}
use Rattle.std.specs.Int.{w32, from_be_bytes}
use Rattle.lm_ots.specs.OneTime.{IsOfType, candidate_value}
use Rattle.lm_ots.specs.OtsKind as ots_kind
use Rattle.lm_ots.specs.declared.ots_type.OtsType.{OtsType}
use Rattle.lms_tree.specs.declared.lms_type.LmsType.{LmsType}
use Rattle.lms_tree.specs.LmsKind.{height, leaf_count}
use Rattle.lms_tree.specs.Tree.{climbed, leaf_node}
use Rattle.lms_tree.specs.Signature.{HasForm, leaf_number, one_time_part, path_value}
use Rattle.lms_tree.proofs.SignatureLaws.{read_word}
use Rattle.lms_tree.proofs.TreeLaws.{climbed_same}
use Rattle.lms_tree.proofs.verifying.candidate_root.Goals as goal

pub returns-in-Some : goal.returns-in-Some
returns-in-Some c =
    let lms : LmsType = c.args.lms in
    let ots : OtsType = c.args.ots in
    let ident : List ℕ = c.args.ident.now in
    let sig : List ℕ = c.args.sig.now in
    let start : ℕ = 8 + ots_kind.signature_length ots in
    let number : c.read_u32-q.result ≡ leaf_number sig = c.read_u32-q.ensures ∙ read_word sig in
    let Below : ℕ → Type 0 = λ n. n < leaf_count lms in
    let below : Below c.read_u32-q.result = omega (arith, c.leaf_count.ensures) in
    let size : 8 + c.signature_length-path_start.result - 4 - 4 ≡ ots_kind.signature_length ots = omega (arith, c.signature_length-path_start.ensures) in
    let part : take (8 + c.signature_length-path_start.result - 4 - 4) (drop 4 sig) ≡ one_time_part ots sig = ap (λ (n : ℕ). take n (drop 4 sig)) size in
    let Found : List ℕ → Type 0 = λ one. IsOfType ots one in
    let value : c.in-Some.value ≡ candidate_value ots ident (leaf_number sig) c.args.msg.now (one_time_part ots sig) =
    c.in-Some.ensures.1 ∙ ap (λ (n : ℕ). candidate_value ots ident n c.args.msg.now (take (8 + c.signature_length-path_start.result - 4 - 4) (drop 4 sig))) number
    ∙ ap (candidate_value ots ident (leaf_number sig) c.args.msg.now) part in
    let word : 8 + c.signature_length-path_start.result - 4 ≡ 4 + ots_kind.signature_length ots = omega (arith, c.signature_length-path_start.ensures) in
    let form : HasForm lms ots sig = record {
      len = c.if-sig-signature_length.false ∙ c.signature_length.ensures;
      leaf = subst Below number below;
      one_time = subst Found part c.in-Some.ensures.0;
      tree = sym (c.read_u32-tree_word.ensures ∙ read_word (take (length sig - (8 + c.signature_length-path_start.result - 4)) (drop (8 + c.signature_length-path_start.result - 4) sig)) ∙ ap (λ (xs : List ℕ). from_be_bytes w32 (take 4 xs)) (take_rest sig (8 + c.signature_length-path_start.result - 4) ∙ ap (λ (n : ℕ). drop n sig) word)) ∙ c.if-tree_word-type_word.false ∙ c.type_word.ensures;
    } in
    let path : ℕ = 8 + c.signature_length-path_start.result in
    let leaf : ℕ = c.leaf_count-in-Some.result + c.read_u32-q.result in
    let place : leaf ≡ leaf_count lms + leaf_number sig = omega (arith, c.leaf_count-in-Some.ensures, number) in (
      form,
      c.climb.ensures
          ∙ climbed_same ident _ (path_value ots sig) leaf c.leaf_node.result (height lms)
          (λ level.
          let from : path + 32 * level ≡ start + 32 * level = omega (arith, c.signature_length-path_start.ensures) in
          ap (λ (xs : List ℕ). take 32 (drop (32 * level) xs)) (take_rest sig path)
          ∙ ap (take 32) (drop-drop (32 * level) path sig) ∙ ap (λ (n : ℕ). take 32 (drop n sig)) from)
          ∙ ap (λ (v : List ℕ). climbed ident (path_value ots sig) leaf v (height lms)) (c.leaf_node.ensures ∙ ap (leaf_node ident leaf) value)
          ∙ ap (λ (r : ℕ). climbed ident (path_value ots sig) r (leaf_node ident r (candidate_value ots ident (leaf_number sig) c.args.msg.now (one_time_part ots sig))) (height lms)) place,
    )
