use Rattle.std.proofs.Common.{◌≡◌, sym, subst, ℕ, List}
use Rattle.lms_tree.specs.Signature.{Signed}
use Rattle.hss_chain.specs.Keys.{key_bytes}
use Rattle.hss_chain.specs.Sealing.{HaveParts, SealParts}
use Rattle.hss_chain.proofs.SealLaws.{one_parts}
use Rattle.hss_chain.proofs.sealing.verify_hss.Goals as goal

pub returns-then-verify : goal.returns-then-verify
returns-then-verify c =
    let parts : SealParts = record { top = c.in-Some.parts.top; top_sig = c.in-Some.parts.top_sig.now; low = c.in-Some.parts.low; low_sig = c.in-Some.parts.low_sig.now } in
    let have : HaveParts c.args.key.now c.args.sig.now parts = c.in-Some.ensures.0 in
    let low_is : c.in-Some.parts.low_bytes.now ≡ key_bytes parts.low = c.in-Some.ensures.1 in (
      λ yes. record { parts = parts; have = have; top = subst (λ (xs : List ℕ). Signed parts.top xs parts.top_sig) low_is (c.verify.ensures.0 c.if-verify.true); low = c.verify-then-verify.ensures.0 yes },
      λ sealed.
          let same : sealed.parts ≡ parts = one_parts c.args.key.now c.args.sig.now sealed.parts parts sealed.have have in
          c.verify-then-verify.ensures.1 (subst (λ (p : SealParts). Signed p.low c.args.msg.now p.low_sig) same sealed.low),
    )

pub returns-else-verify : goal.returns-else-verify
returns-else-verify c =
    let parts : SealParts = record { top = c.in-Some.parts.top; top_sig = c.in-Some.parts.top_sig.now; low = c.in-Some.parts.low; low_sig = c.in-Some.parts.low_sig.now } in
    let have : HaveParts c.args.key.now c.args.sig.now parts = c.in-Some.ensures.0 in
    let low_is : c.in-Some.parts.low_bytes.now ≡ key_bytes parts.low = c.in-Some.ensures.1 in (
      λ yes. absurd cc,
      λ sealed.
          let same : sealed.parts ≡ parts = one_parts c.args.key.now c.args.sig.now sealed.parts parts sealed.have have in
          c.verify.ensures.1 (subst (λ (xs : List ℕ). Signed parts.top xs parts.top_sig) (sym low_is) (subst (λ (p : SealParts). Signed p.top (key_bytes p.low) p.top_sig) same sealed.top)),
    )

pub returns-in-None : goal.returns-in-None
returns-in-None c = (λ no. absurd cc, λ sealed. absurd (c.in-None.ensures sealed.parts sealed.have))
