use Rattle.std.proofs.Common.{◌≡◌, ◌∙◌, ℕ, List, ◌++◌, length, drop, arith, ap, sym, subst, true, length-append}
use Rattle.std.proofs.Math.Seq.{drop-append_seam}
use Rattle.std.specs.Int.{w32, to_be_bytes}
use Rattle.std.proofs.lemmas.Bool.{true≢false}
use Rattle.lms_tree.specs.Signature.{Signed}
use Rattle.hss_chain.proofs.KeyLaws.{read_word}
use Rattle.hss_chain.specs.Keys.{key_bytes}
use Rattle.hss_directory.proofs.Sign.{same_parts, told_other, told_same}
use Rattle.hss_directory.proofs.opening.top_sig_in.Goals as goal

pub returns-then-payload-lt60 : goal.returns-then-payload-lt60
returns-then-payload-lt60 c sig v =
    absurd (omega (arith, ap length v.payload_is, length-append sig (key_bytes c.args.low.now), c.key_has_length.ensures, c.signed_has_length.ensures.length c.args.top.now (key_bytes c.args.low.now) sig v.signed, c.if-payload-lt60.true))

pub returns-then-ne : goal.returns-then-ne
returns-then-ne c sig v =
    let low : List ℕ = key_bytes c.args.low.now in
    let low_is : c.split_at-2.result.1.now ≡ low = c.split_at-2.ensures.back ∙ ap (λ (l : List ℕ). drop 4 l) c.public_array-low_bytes.ensures ∙ drop-append_seam (to_be_bytes w32 2) low in
    let parts = same_parts low c.args.payload.now sig c.split_at.result.0.now c.split_at.result.1.now c.key_has_length.ensures c.split_at.ensures.front c.split_at.ensures.back v.payload_is in
    told_other c.ne.result c.split_at.result.1.now c.split_at-2.result.1.now c.ne.ensures c.if-ne.true (parts.1 ∙ sym low_is)

pub returns-then-verify : goal.returns-then-verify
returns-then-verify c =
    let low : List ℕ = key_bytes c.args.low.now in
    let front : List ℕ = c.split_at.result.0.now in
    let low_is : c.split_at-2.result.1.now ≡ low = c.split_at-2.ensures.back ∙ ap (λ (l : List ℕ). drop 4 l) c.public_array-low_bytes.ensures ∙ drop-append_seam (to_be_bytes w32 2) low in
    let same = told_same c.ne.result c.split_at.result.1.now c.split_at-2.result.1.now c.ne.ensures c.if-ne.false in
    record {
      payload_is = c.split_at.ensures.by_index.0 ∙ ap (λ (l : List ℕ). front ++ l) (same ∙ low_is);
      signed = subst (λ (l : List ℕ). Signed c.args.top.now l front) low_is (c.verify.ensures.0 c.if-verify.true);
      leaf = sym (c.read_u32.ensures ∙ read_word front) ∙ c.if-read_u32-index.false;
    }

pub returns-else-verify : goal.returns-else-verify
returns-else-verify c sig v =
    let low : List ℕ = key_bytes c.args.low.now in
    let front : List ℕ = c.split_at.result.0.now in
    let low_is : c.split_at-2.result.1.now ≡ low = c.split_at-2.ensures.back ∙ ap (λ (l : List ℕ). drop 4 l) c.public_array-low_bytes.ensures ∙ drop-append_seam (to_be_bytes w32 2) low in
    let parts = same_parts low c.args.payload.now sig front c.split_at.result.1.now c.key_has_length.ensures c.split_at.ensures.front c.split_at.ensures.back v.payload_is in
    let at_front = subst (λ (l : List ℕ). Signed c.args.top.now low l) (sym parts.0) v.signed in
    let signed = subst (λ (l : List ℕ). Signed c.args.top.now l front) (sym low_is) at_front in
    let told : c.verify.result ≡ true = c.verify.ensures.1 signed in
    absurd (true≢false (sym told ∙ c.if-verify.false))
