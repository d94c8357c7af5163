use Rattle.std.proofs.Common.{◌≡◌, ℕ, ◌<◌, List, length, sym, ap, ◌∙◌, arith}
use Rattle.std.proofs.lemmas.Bool.Decides.{nat_tests}
use Rattle.expression_text.specs.declared.token.Token.{Token}
use Rattle.query.specs.Pieces.{placed_in, joined, pieces_of_line}
use Rattle.query.proofs.Placing.{pieces_start, pieces_more, pieces_none, token_shorter, joined_nothing}
use Rattle.query.proofs.pieces.push_line.Goals as goal

pub loop-rest-init : goal.loop-rest-init
loop-rest-init c = rw c.skip_blanks-rest.ensures (ap (joined (placed_in c.args.pieces.now)) (pieces_start c.args.number c.args.line.now))

pub loop-rest-smaller : goal.loop-rest-smaller
loop-rest-smaller c =
    let some : 0 < length c.loop-rest.rest.now = grind (arith, nat_tests, c.is_empty.ensures, c.loop-rest-test.true) in
    let less = token_shorter c.loop-rest.rest.now some in
    let e = ap (λ (x : Token × List ℕ). length x.1) c.in_ok-token.ensures in
    omega arith

pub loop-rest-preserved : goal.loop-rest-preserved
loop-rest-preserved c =
    let some : 0 < length c.loop-rest.rest.now = grind (arith, nat_tests, c.is_empty.ensures, c.loop-rest-test.true) in
    let word = ap (λ (x : Token × List ℕ). x.0) c.in_ok-token.ensures in
    let after = ap (λ (x : Token × List ℕ). x.1) c.in_ok-token.ensures in
    let all = joined (placed_in c.args.pieces.now) (pieces_of_line c.args.number c.args.line.now) in
    rw (c.in_ok-push.ensures.items, c.in_ok-push-2.ensures.items, c.spot_at.ensures, word, after)
    (pieces_more c.args.number (length c.args.line.now) c.loop-rest.rest.now (placed_in c.loop-rest.pieces) all some c.loop-rest.invariant)

pub returns : goal.returns
returns c =
    let none : length c.loop-rest.rest.now ≡ 0 = grind (arith, nat_tests, c.is_empty.ensures, c.loop-rest-test.false) in
    sym (joined_nothing (placed_in c.loop-rest.pieces))
    ∙ (sym (ap (joined (placed_in c.loop-rest.pieces)) (pieces_none c.args.number (length c.args.line.now) c.loop-rest.rest.now none)) ∙ c.loop-rest.invariant)
