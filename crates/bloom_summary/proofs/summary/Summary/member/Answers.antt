use Rattle.std.proofs.Common.{◌∙◌, ℕ, List, length, sym, ap, arith, eqb-true}
use Rattle.std.proofs.lemmas.Bool.{eqb-false}
use Rattle.std.specs.Prelude.{not}
use Rattle.bloom_summary.specs.Bloom.{is_member}
use Rattle.bloom_summary.proofs.Summaries.{member_of, no_member}
use Rattle.bloom_summary.proofs.summary.Summary.member.Goals as goal

pub returns-then-not-is_empty : goal.returns-then-not-is_empty
returns-then-not-is_empty c =
    let some = eqb-false (length c.as_slice-bytes.result.now) 0 (sym c.if-not-is_empty.ensures) in
    member_of c.as_slice-bytes.result.now c.args.id.now c.are_set.result (omega (arith, some)) c.are_set.ensures
    ∙ ap (λ (bytes : List ℕ). is_member bytes c.args.id.now) (c.as_slice-bytes.ensures.value ∙ c.self.view_is)

pub returns-else-not-is_empty : goal.returns-else-not-is_empty
returns-else-not-is_empty c =
    ap not c.if-not-is_empty.false
    ∙ no_member c.as_slice-bytes.result.now c.args.id.now (eqb-true (length c.as_slice-bytes.result.now) 0 (sym c.if-not-is_empty.ensures))
    ∙ ap (λ (bytes : List ℕ). is_member bytes c.args.id.now) (c.as_slice-bytes.ensures.value ∙ c.self.view_is)
