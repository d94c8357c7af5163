use Rattle.std.proofs.Common.{rules, ◌≡◌, ◌∙◌, sym, ℕ, List, length, subst}
use Rattle.std.proofs.lemmas.List.{take_at}
use Rattle.replica.specs.Making.{IsSignedBy}
use Rattle.replica.proofs.signing.signed_bytes.Goals as goal

pub returns-clause-made : goal.returns-clause-made
returns-clause-made g c =
    let len : length c.sign_into.new.out ≡ c.in_ok-signature.signature.len = search rules in
    let out : c.sign_into.new.out ≡ c.deref.result.now = sym (c.deref.ensures.value ∙ take_at c.sign_into.new.out _ c.in_ok-signature.signature.len len) in
    record {
      signature = c.deref.result.now;
      signed = subst (λ (s : List ℕ). IsSignedBy c.args.key.now.secret c.args.key.now.taken c.args.c.now c.args.message.now s) out c.in_ok-sign_into.ensures.made;
      spelled = search rules;
      block = search rules;
    }
