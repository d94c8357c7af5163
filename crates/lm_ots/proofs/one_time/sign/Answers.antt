use Rattle.std.proofs.Common.{◌≡◌, ◌+◌, ◌-◌, ◌*◌, ◌++◌, ℕ, List, length, take, drop, lit≤, refl, ap, ◌∙◌, arith}
use Rattle.std.proofs.lemmas.Slice.{take-put_mid}
use Rattle.std.specs.Int.{w16, w32, to_be_bytes}
use Rattle.lm_ots.specs.OtsKind.{type_word, width}
use Rattle.lm_ots.specs.Chain.{chain_prefix, start_value}
use Rattle.lm_ots.specs.Digits.{coef}
use Rattle.lm_ots.specs.OneTime.{private_value}
use Rattle.lm_ots.proofs.Blocks.{shorter_front}
use Rattle.lm_ots.proofs.ChainLaws.{stepped_as}
use Rattle.lm_ots.proofs.JoinedLaws.{joined_first, joined_next}
use Rattle.lm_ots.proofs.one_time.sign.Goals as goal

pub loop-i-init : goal.loop-i-init
loop-i-init c =
    let head : take 4 c.write_u32.new.buf ≡ to_be_bytes w32 (type_word c.args.kind) =
    ap (take 4) c.write_u32.ensures ∙ ap (to_be_bytes w32) c.type_word.ensures in
    record {
      leaf = c.new-message.ensures;
      written = take-put_mid 4 32 c.write_u32.new.buf c.copy_from_slice.new.self 36 (omega arith) (omega arith)
          ∙ ap (λ (xs : List ℕ). xs ++ c.copy_from_slice.new.self) head
          ∙ ap (λ (xs : List ℕ). to_be_bytes w32 (type_word c.args.kind) ++ xs) c.copy_from_slice.ensures.after
          ∙ joined_first _ _;
    }

pub loop-i-preserved : goal.loop-i-preserved
loop-i-preserved c =
    let prefix : take 22 c.start.new.self.bytes ≡ chain_prefix c.args.ident.now c.args.q c.loop-i.i =
    c.start.ensures.chain ∙ ap (λ (xs : List ℕ). xs ++ to_be_bytes w16 c.loop-i.i) c.loop-i.invariant.leaf in
    let start : drop 23 c.start.new.self.bytes ≡ start_value (chain_prefix c.args.ident.now c.args.q c.loop-i.i) c.args.start.now =
    c.start.ensures.value ∙ ap (λ (xs : List ℕ). start_value xs c.args.start.now) prefix in
    let head : List ℕ = to_be_bytes w32 (type_word c.args.kind) ++ c.args.c.now in
    let values : ℕ → List ℕ = λ i. private_value c.args.ident.now c.args.q c.args.start.now i (coef c.checked_digest-digits.result i (width c.args.kind)) in
    let steps : c.digit.result - 0 ≡ coef c.checked_digest-digits.result c.loop-i.i (width c.args.kind) = omega (arith, c.digit.ensures.value) in
    let y : c.copy_from_slice-in-loop-i.new.self ≡ values c.loop-i.i =
    c.copy_from_slice-in-loop-i.ensures.after ∙ c.value.ensures.value ∙ c.run.ensures.value
    ∙ stepped_as _ _ _ _ 0 0 _ _ prefix start refl refl
    ∙ ap (λ (n : ℕ). private_value c.args.ident.now c.args.q c.args.start.now c.loop-i.i n) steps in
    let size : length c.copy_from_slice-in-loop-i.new.self ≡ 32 = ap length c.copy_from_slice-in-loop-i.ensures.after ∙ c.value.ensures.len in
    let place : 36 + 32 * c.from.result ≡ 36 + 32 * c.loop-i.i = omega arith in
    record {
      leaf = shorter_front 20 22 _ _ (lit≤ tt) c.run.ensures.chain ∙ c.start.ensures.leaf ∙ c.loop-i.invariant.leaf;
      written = take-put_mid (36 + 32 * c.from.result) _ c.loop-i.out c.copy_from_slice-in-loop-i.new.self (36 + 32 * (c.loop-i.i + 1)) (omega (arith, size)) (omega arith)
          ∙ ap (λ (n : ℕ). take n c.loop-i.out ++ c.copy_from_slice-in-loop-i.new.self) place
          ∙ ap (λ (xs : List ℕ). xs ++ c.copy_from_slice-in-loop-i.new.self) c.loop-i.invariant.written
          ∙ joined_next head values c.loop-i.i c.copy_from_slice-in-loop-i.new.self y;
    }
