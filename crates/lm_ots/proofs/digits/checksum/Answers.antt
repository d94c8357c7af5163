use Rattle.std.proofs.Common.{◌≡◌, ◌<◌, ◌≤◌, ◌+◌, ◌-◌, ◌*◌, ◌/◌, ◌^◌, ℕ, sym, ap, subst, ◌∙◌, arith}
use Rattle.lm_ots.specs.OtsKind.{checksum_shift, greatest_digit, width}
use Rattle.lm_ots.specs.Digits.{coef}
use Rattle.lm_ots.specs.Joined.{sum_below}
use Rattle.lm_ots.proofs.JoinedLaws.{sum_below-le, sum_below_more, sum_below_none}
use Rattle.lm_ots.proofs.KindLaws.{shifted_fits, sum_fits}
use Rattle.lm_ots.proofs.digits.checksum.Goals as goal

pub loop-i-init : goal.loop-i-init
loop-i-init c = sym (sum_below_none (λ i. greatest_digit c.args.kind - coef c.args.digest.now i (width c.args.kind)))

pub overflow_add-sum : goal.overflow_add-sum
overflow_add-sum c =
    let lack : ℕ → ℕ = λ i. greatest_digit c.args.kind - coef c.args.digest.now i (width c.args.kind) in
    let so_far : c.loop-i.sum ≡ sum_below lack c.loop-i.i = c.loop-i.invariant in
    let Small : ℕ → Type 0 = λ sum. sum ≤ c.loop-i.i * greatest_digit c.args.kind in
    let small : Small c.loop-i.sum = subst Small (sym so_far) (sum_below-le lack (greatest_digit c.args.kind) c.loop-i.i (λ i. omega arith)) in
    let Before : ℕ → Type 0 = λ w. c.loop-i.i < 256 / w in
    let before : Before (width c.args.kind) = subst Before (c.from-i-end.ensures ∙ c.width.ensures) c.loop-i-test.true in
    omega (arith, sum_fits c.args.kind c.loop-i.i c.loop-i.sum c.from.result before small)

pub loop-i-preserved : goal.loop-i-preserved
loop-i-preserved c =
    let lack : ℕ → ℕ = λ i. greatest_digit c.args.kind - coef c.args.digest.now i (width c.args.kind) in
    let so_far : c.loop-i.sum ≡ sum_below lack c.loop-i.i = c.loop-i.invariant in
    let greatest : c.from-greatest.result ≡ greatest_digit c.args.kind = c.from-greatest.ensures ∙ c.greatest_digit.ensures in
    let digit : c.from.result ≡ coef c.args.digest.now c.loop-i.i (width c.args.kind) = c.from.ensures ∙ c.digit.ensures.value in
    let sum : c.loop-i.sum + (c.from-greatest.result - c.from.result) ≡ sum_below lack (c.loop-i.i + 1) =
    rw (greatest, digit, so_far) (sym (sum_below_more lack c.loop-i.i)) in
    sum

pub returns : goal.returns
returns c =
    let lack : ℕ → ℕ = λ i. greatest_digit c.args.kind - coef c.args.digest.now i (width c.args.kind) in
    let so_far : c.loop-i.sum ≡ sum_below lack c.loop-i.i = c.loop-i.invariant in
    let Small : ℕ → Type 0 = λ sum. sum ≤ c.loop-i.i * greatest_digit c.args.kind in
    let small : Small c.loop-i.sum = subst Small (sym so_far) (sum_below-le lack (greatest_digit c.args.kind) c.loop-i.i (λ i. omega arith)) in
    let at_end : c.loop-i.i ≡ 256 / c.from-i-end.result = omega arith in
    let last : c.loop-i.i ≡ 256 / width c.args.kind = at_end ∙ ap (λ (w : ℕ). 256 / w) (c.from-i-end.ensures ∙ c.width.ensures) in
    let Whole : ℕ → Type 0 = λ n. c.loop-i.sum ≤ n * greatest_digit c.args.kind in
    rw c.checksum_shift.ensures
    (shifted_fits c.args.kind c.loop-i.sum (subst Whole last small)
    ∙ ap (λ (n : ℕ). n * 2 ^ checksum_shift c.args.kind) (so_far ∙ ap (sum_below lack) last))
