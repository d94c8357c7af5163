use Rattle.std.proofs.Common.{◌≡◌, ◌<◌, ◌+◌, ◌*◌, ◌/◌, ◌^◌, ◌++◌, ℕ, List, [], length, take, sym, ap, subst, ◌∙◌, arith}
use Rattle.std.proofs.lemmas.List.{get_or_read}
use Rattle.std.proofs.lemmas.Slice.{take-put_mid}
use Rattle.std.specs.Prelude.{slice_index_or}
use Rattle.lm_ots.specs.Joined.{joined}
use Rattle.lm_ots.proofs.JoinedLaws.{joined_more, joined_none}
use Rattle.lms_tree.specs.LmsKind.{height, leaf_count}
use Rattle.lms_tree.specs.Tree.{node_of, sibling}
use Rattle.lms_tree.specs.SecretKey.{IsTree, SecretData, value_of_leaf}
use Rattle.lms_tree.proofs.TreeLaws.{beside_in_list, beside_on_level, halved_more, length-node_of, tree_holds}
use Rattle.lms_tree.proofs.secret.Secret.write_path.Goals as goal

pub loop-level-init : goal.loop-level-init
loop-level-init c =
    let count = ap (λ (s : SecretData). leaf_count s.lms) c.self.view_is in
    record { place = omega (arith, count); written = sym (joined_none _) }

pub loop-level-preserved : goal.loop-level-preserved
loop-level-preserved c =
    let secret : SecretData = c.args.self.now in
    let Held : SecretData → Type 0 = λ s. IsTree s.ident (value_of_leaf s) (leaf_count s.lms) c.self.inside.nodes.items in
    let tree : Held secret = subst Held c.self.view_is c.self.invariant in
    let node : ℕ = (leaf_count secret.lms + c.args.q) / 2 ^ c.loop-level.level in
    let low : c.loop-level.level < height secret.lms = omega (arith, ap (λ (s : SecretData). height s.lms) c.self.view_is) in
    let level = beside_on_level (height secret.lms) c.loop-level.level c.args.q low c.requires.leaf in
    let beside : c.sibling-beside.result ≡ sibling node = c.sibling-beside.ensures ∙ ap sibling c.loop-level.invariant.place in
    let inside : c.sibling-beside.result < length c.self.inside.nodes.items =
    omega (arith, beside, tree.len, beside_in_list (height secret.lms) c.loop-level.level c.args.q low c.requires.leaf) in
    let values : ℕ → List ℕ = λ level. node_of secret.ident (value_of_leaf secret) (height secret.lms) level (sibling ((leaf_count secret.lms + c.args.q) / 2 ^ level)) in
    let y : c.copy_from_slice.new.self ≡ values c.loop-level.level =
    c.copy_from_slice.ensures.after
    ∙ get_or_read c.self.inside.nodes.items c.sibling-beside.result c.index.result.now inside c.index.ensures []
    ∙ ap (λ (i : ℕ). slice_index_or c.self.inside.nodes.items i []) beside
    ∙ tree_holds secret.ident (value_of_leaf secret) (height secret.lms) c.self.inside.nodes.items tree c.loop-level.level level.0 (sibling node) level.1 level.2 level.3 in
    let place : 32 * c.from-place.result ≡ 32 * c.loop-level.level = omega arith in
    let size : length c.copy_from_slice.new.self ≡ 32 = ap length y ∙ length-node_of secret.ident (value_of_leaf secret) (height secret.lms) c.loop-level.level (sibling node) in
    record {
      place = halved_more (leaf_count secret.lms + c.args.q) c.loop-level.level c.loop-level.node c.loop-level.invariant.place;
      written = take-put_mid (32 * c.from-place.result) _ c.loop-level.out c.copy_from_slice.new.self (32 * (c.loop-level.level + 1)) (omega (arith, size)) (omega arith)
          ∙ ap (λ (n : ℕ). take n c.loop-level.out ++ c.copy_from_slice.new.self) place
          ∙ ap (λ (xs : List ℕ). xs ++ c.copy_from_slice.new.self) c.loop-level.invariant.written
          ∙ ap (λ (xs : List ℕ). joined values c.loop-level.level ++ xs) y
          ∙ sym (joined_more values c.loop-level.level);
    }
