use Rattle.std.proofs.Common.{◌≡◌, ◌-◌, ◌++◌, ℕ, List, take, drop, lit≤, refl, ap, subst, ◌∙◌, arith}
use Rattle.std.specs.Int.{w16, to_be_bytes}
use Rattle.sha2.specs.Hashers.{Holds256}
use Rattle.lm_ots.specs.OtsKind.{chain_count, greatest_digit}
use Rattle.lm_ots.specs.Joined.{joined}
use Rattle.lm_ots.specs.Chain.{chain_prefix, start_value}
use Rattle.lm_ots.specs.OneTime.{leaf_value, private_value}
use Rattle.lm_ots.proofs.Blocks.{shorter_front}
use Rattle.lm_ots.proofs.ChainLaws.{stepped_as}
use Rattle.lm_ots.proofs.JoinedLaws.{joined_first, joined_next}
use Rattle.lm_ots.proofs.one_time.public_of.Goals as goal

pub loop-i-init : goal.loop-i-init
loop-i-init c =
    let Held : List ℕ → Type 0 = λ m. Holds256 c.tagged_hasher-hasher.result m in
    record {
      leaf = c.new-message.ensures;
      ends = subst Held (joined_first _ _) c.tagged_hasher-hasher.ensures;
    }

pub loop-i-preserved : goal.loop-i-preserved
loop-i-preserved c =
    let Held : List ℕ → Type 0 = λ m. Holds256 c.update.new.self m in
    let prefix : take 22 c.start.new.self.bytes ≡ chain_prefix c.args.ident.now c.args.q c.loop-i.i =
    c.start.ensures.chain ∙ ap (λ (xs : List ℕ). xs ++ to_be_bytes w16 c.loop-i.i) c.loop-i.invariant.leaf in
    let start : drop 23 c.start.new.self.bytes ≡ start_value (chain_prefix c.args.ident.now c.args.q c.loop-i.i) c.args.start.now =
    c.start.ensures.value ∙ ap (λ (xs : List ℕ). start_value xs c.args.start.now) prefix in
    let whole : greatest_digit c.args.kind - 0 ≡ greatest_digit c.args.kind = omega arith in
    let end : c.value.result.now ≡ private_value c.args.ident.now c.args.q c.args.start.now c.loop-i.i (greatest_digit c.args.kind) =
    c.value.ensures.value ∙ c.run.ensures.value
    ∙ stepped_as _ _ _ _ 0 0 _ _ prefix start refl c.greatest_digit-greatest.ensures
    ∙ ap (λ (n : ℕ). private_value c.args.ident.now c.args.q c.args.start.now c.loop-i.i n) whole in
    record {
      leaf = shorter_front 20 22 _ _ (lit≤ tt) c.run.ensures.chain ∙ c.start.ensures.leaf ∙ c.loop-i.invariant.leaf;
      ends = subst Held (joined_next _ _ c.loop-i.i c.value.result.now end) (c.update.ensures _ c.loop-i.invariant.ends);
    }

pub returns : goal.returns
returns c =
    let last : c.loop-i.i ≡ chain_count c.args.kind = omega arith in
    c.finalize.ensures _ c.loop-i.invariant.ends
    ∙ ap (λ (n : ℕ). leaf_value c.args.ident.now c.args.q (joined (λ i. private_value c.args.ident.now c.args.q c.args.start.now i (greatest_digit c.args.kind)) n)) last
