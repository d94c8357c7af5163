use Rattle.std.proofs.Common.{◌≡◌, ◌∙◌, ◌++◌, ℕ, List, length, take, drop, ap, sym, subst, arith, rules}
use Rattle.std.proofs.Math.Seq.{take-append_seam}
use Rattle.std.proofs.lemmas.Grind.{common_steps}
use Rattle.lms_tree.specs.SecretKey.{public_key, signature_by}
use Rattle.lms_tree.specs.Signature.{Signed}
use Rattle.hss_directory.specs.Signing.{drawn_c}
use Rattle.hss_directory.proofs.signing.signature_of.Goals as goal

pub returns-in-Ok-clause-signs : goal.returns-in-Ok-clause-signs
returns-in-Ok-clause-signs g c =
    let secret = c.args.key.now.secret in
    let out : List ℕ = c.sign.new.out in
    let given : List ℕ = c.in_ok-sig.sig.items in
    let n : c.in_ok-sig.sig.len ≡ length out = first_of (omega (arith, c.sign.auto.out, c.in_ok-sig.sig.ok.0), search rules, grind (arith, common_steps)) in
    let filled : take c.in_ok-sig.sig.len (out ++ drop (length out) given) ≡ out = ap (λ (k : ℕ). take k (out ++ drop (length out) given)) n ∙ take-append_seam out (drop (length out) given) in
    let drawn : c.fill_bytes.new.dst ≡ drawn_c (g.R.Rng.stream c.args.random.now) = search rules in
    record {
      index = c.in-Ok._index;
      reserves = search rules;
      made = filled ∙ c.in-Ok.ensures.made ∙ ap (λ (x : List ℕ). signature_by secret c.in-Ok._index x c.args.msg.now) drawn;
      signed = subst (λ (s : List ℕ). Signed (public_key secret) c.args.msg.now s) (sym filled) c.in-Ok.ensures.signed;
      drawn = search rules;
    }
