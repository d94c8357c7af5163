use Rattle.std.proofs.Common.{◌∙◌, sym, ap, arith, ℕ, List, ◌++◌}
use Rattle.std.specs.Int.{w32, to_be_bytes}
use Rattle.hss_chain.proofs.SealLaws.{AreFound, found_parts, in_three, too_short}
use Rattle.hss_chain.proofs.sealing.parts_of.Goals as goal

pub returns-then-signed-size : goal.returns-then-signed-size
returns-then-signed-size c parts have =
    too_short c.args.key.now c.args.sig.now c.in-Some-behind.signed.now c.in-Some-read_key.top parts
    (c.in-Some.ensures ∙ ap (λ (xs : List ℕ). to_be_bytes w32 2 ++ xs) c.in-Some-read_key.ensures.1) c.in-Some-read_key.ensures.0 c.in-Some-behind.ensures
    (omega (arith, c.if-signed-size.true, c.signature_len-size.ensures)) have

pub returns-in_default-read_key-2 : goal.returns-in_default-read_key-2
returns-in_default-read_key-2 c parts have =
    let top_sig : List ℕ = c.split_at.result.0.now in
    let low : List ℕ = c.split_at-2.result.0.now in
    let low_sig : List ℕ = c.split_at-2.result.1.now in
    let found : AreFound c.args.key.now c.args.sig.now c.in-Some-read_key.top top_sig low low_sig = record {
      key_is = c.in-Some.ensures ∙ ap (λ (xs : List ℕ). to_be_bytes w32 2 ++ xs) c.in-Some-read_key.ensures.1;
      top_key = c.in-Some-read_key.ensures.0;
      sig_is = c.in-Some-behind.ensures ∙ ap (λ (xs : List ℕ). to_be_bytes w32 1 ++ xs)
          (in_three c.in-Some-behind.signed.now top_sig c.split_at.result.1.now low low_sig _ c.split_at.ensures.front c.split_at.ensures.back c.split_at-2.ensures.front c.split_at-2.ensures.back);
      size = c.split_at.ensures.front_len ∙ c.signature_len-size.ensures;
      low_size = c.split_at-2.ensures.front_len;
    } in
    c.in_default-read_key-2.ensures parts.low have.low_key (sym (found_parts _ _ _ _ _ _ parts found have).same_low)
