use Rattle.std.proofs.Common.{◌≡◌, ◌+◌, ◌*◌, ◌++◌, ℕ, List, length, refl, sym, ap, subst, ◌∙◌, arith}
use Rattle.std.specs.Int.{w32, to_be_bytes}
use Rattle.lm_ots.specs.OneTime.{signature_of}
use Rattle.lm_ots.specs.OtsKind as ots_kind
use Rattle.lms_tree.specs.LmsKind.{height, type_word}
use Rattle.lms_tree.specs.Signature.{Signed}
use Rattle.lms_tree.specs.SecretKey.{SecretData, public_key, signature_by}
use Rattle.lms_tree.proofs.SignatureLaws.{joined_parts, made_signed, same_length, written_word}
use Rattle.lms_tree.proofs.secret.Secret.sign_at.Goals as goal

pub write_path-requires-clause-len : goal.write_path-requires-clause-len
write_path-requires-clause-len c =
    let secret : SecretData = c.args.self.now in
    let total : length c.args.out.now ≡ 8 + ots_kind.signature_length secret.ots + 32 * height secret.lms =
    c.requires.len ∙ same_length (public_key secret) secret.lms secret.ots (record { tree = refl; one_time = refl }) in
    let middle : c.signature_length.result ≡ ots_kind.signature_length secret.ots =
    c.signature_length.ensures ∙ ap (λ (s : SecretData). ots_kind.signature_length s.ots) c.self.view_is in
    omega (arith, total, middle, c.split_at_mut-number.ensures.back_len, c.split_at_mut-one_time.ensures.back_len, c.split_at_mut-word.ensures.back_len)

pub returns-clause-signed : goal.returns-clause-signed
returns-clause-signed c =
    let secret : SecretData = c.args.self.now in
    let Valid : List ℕ → Type 0 = λ sig. Signed (public_key secret) c.args.msg.now sig in
    let number : c.write_u32.new.buf ≡ to_be_bytes w32 c.args.q = written_word c.args.q _ _ c.split_at_mut-number.ensures.front_len c.write_u32.ensures in
    let one_time : c.sign.new.out ≡ signature_of secret.ots secret.ident c.args.q secret.start c.args.c.now c.args.msg.now =
    c.sign.ensures ∙ ap (λ (s : SecretData). signature_of s.ots s.ident c.args.q s.start c.args.c.now c.args.msg.now) c.self.view_is in
    let word : c.write_u32-2.new.buf ≡ to_be_bytes w32 (type_word secret.lms) =
    written_word c.type_word.result _ _ c.split_at_mut-word.ensures.front_len c.write_u32-2.ensures
    ∙ ap (to_be_bytes w32) (c.type_word.ensures ∙ ap (λ (s : SecretData). type_word s.lms) c.self.view_is) in
    let made : c.write_u32.new.buf ++ (c.sign.new.out ++ (c.write_u32-2.new.buf ++ c.write_path.new.out)) ≡ signature_by secret c.args.q c.args.c.now c.args.msg.now =
    joined_parts _ _ _ _ _ _ _ _ number one_time word c.write_path.ensures in
    let size : length c.args.c.now ≡ 32 = omega arith in
    subst Valid (sym made) (made_signed secret c.args.q c.args.c.now c.args.msg.now c.requires.leaf size)
