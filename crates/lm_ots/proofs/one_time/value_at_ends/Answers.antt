use Rattle.std.proofs.Common.{◌≡◌, ◌+◌, ◌-◌, ◌*◌, ◌++◌, ℕ, List, take, drop, lit≤, ap, subst, ◌∙◌, arith}
use Rattle.std.specs.Int.{w16, to_be_bytes}
use Rattle.sha2.specs.Hashers.{Holds256}
use Rattle.lm_ots.specs.Chain.{chain_prefix}
use Rattle.lm_ots.specs.OneTime.{chain_value, end_from}
use Rattle.lm_ots.proofs.Blocks.{shorter_front}
use Rattle.lm_ots.proofs.ChainLaws.{stepped_as}
use Rattle.lm_ots.proofs.JoinedLaws.{joined_first, joined_next}
use Rattle.lm_ots.proofs.one_time.value_at_ends.Goals as goal

pub loop-i-init : goal.loop-i-init
loop-i-init c =
    let Held : List ℕ → Type 0 = λ m. Holds256 c.tagged_hasher-hasher.result m in
    record {
      leaf = c.new-message.ensures;
      ends = subst Held (joined_first _ _) c.tagged_hasher-hasher.ensures;
    }

pub loop-i-preserved : goal.loop-i-preserved
loop-i-preserved c =
    let Held : List ℕ → Type 0 = λ m. Holds256 c.update.new.self m in
    let prefix : take 22 c.choose.new.self.bytes ≡ chain_prefix c.args.ident.now c.args.q c.loop-i.i =
    c.choose.ensures.chain ∙ ap (λ (xs : List ℕ). xs ++ to_be_bytes w16 c.loop-i.i) c.loop-i.invariant.leaf in
    let size : 36 + 32 * c.from.result + 32 - (36 + 32 * c.from.result) ≡ 32 = omega arith in
    let place : 36 + 32 * c.from.result ≡ 36 + 32 * c.loop-i.i = omega arith in
    let y : drop 23 c.choose.new.self.bytes ≡ chain_value c.args.sig.now c.loop-i.i =
    c.choose.ensures.value ∙ ap (λ (n : ℕ). take n (drop (36 + 32 * c.from.result) c.args.sig.now)) size
    ∙ ap (λ (n : ℕ). take 32 (drop n c.args.sig.now)) place in
    let end : c.value.result.now ≡ end_from c.args.kind c.args.ident.now c.args.q c.args.digits.now c.args.sig.now c.loop-i.i =
    c.value.ensures.value ∙ c.run.ensures.value
    ∙ stepped_as _ _ _ _ _ _ _ _ prefix y c.digit.ensures.value (c.greatest_digit-greatest.ensures) in
    record {
      leaf = shorter_front 20 22 _ _ (lit≤ tt) c.run.ensures.chain ∙ c.choose.ensures.leaf ∙ c.loop-i.invariant.leaf;
      ends = subst Held (joined_next _ _ c.loop-i.i c.value.result.now end) (c.update.ensures _ c.loop-i.invariant.ends);
    }
