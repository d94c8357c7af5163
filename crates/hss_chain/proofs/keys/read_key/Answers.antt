use Rattle.std.proofs.Common.{◌≡◌, ◌∙◌, ◌≤◌, sym, ap, subst, arith, ℕ, List, length, take, drop, IsTrue}
use Rattle.std.proofs.lemmas.Bool.{true≢false}
use Rattle.std.proofs.lemmas.List.{take_rest}
use Rattle.byteorder.specs.Endian.{big_number}
use Rattle.update_model.specs.Block.{AreBytes, IsBlock}
use Rattle.update_model.specs.declared.author_key.AuthorKey.{AuthorKey}
use Rattle.hss_chain.proofs.KeyLaws.{key_joined, block_of, length-key_bytes, types_of}
use Rattle.hss_chain.proofs.keys.read_key.Goals as goal

pub returns-then-bytes-ne56 : goal.returns-then-bytes-ne56
returns-then-bytes-ne56 c key is same = absurd (omega (arith, ap length same, length-key_bytes key is, c.if-bytes-ne56.true))

pub returns-then-is_known : goal.returns-then-is_known
returns-then-is_known c =
    let bytes : List ℕ = c.args.bytes.now in
    let each : AreBytes bytes = λ i. omega (arith, c.type_inv.bytes i) in
    let long : length bytes ≡ 56 = c.if-bytes-ne56.false in
    let ident : c.copy_from_slice.new.self ≡ take 16 (drop 8 bytes) = c.copy_from_slice.ensures.after in
    let root : c.copy_from_slice-2.new.self ≡ take 32 (drop 24 bytes) = c.copy_from_slice-2.ensures.after in
    let key : AuthorKey = record { lms = c.read_u32.result; ots = c.read_u32-2.result; ident = c.copy_from_slice.new.self; root = c.copy_from_slice-2.new.self } in (
      record {
        known = c.is_known.ensures.0 c.if-is_known.true;
        ident = subst (IsBlock 16) (sym ident) (block_of 16 8 bytes each (omega (arith, long)));
        root = subst (IsBlock 32) (sym root) (block_of 32 24 bytes each (omega (arith, long)));
      },
      key_joined bytes key each long c.read_u32.ensures (c.read_u32-2.ensures ∙ ap (big_number 4) (take_rest bytes 4)) ident root,
    )

pub returns-else-is_known : goal.returns-else-is_known
returns-else-is_known c key is same =
    let bytes : List ℕ = c.args.bytes.now in
    let types = types_of bytes key is same in
    let lms : c.read_u32.result ≡ key.lms = c.read_u32.ensures ∙ types.0 in
    let ots : c.read_u32-2.result ≡ key.ots = c.read_u32-2.ensures ∙ ap (big_number 4) (take_rest bytes 4) ∙ types.1 in
    let known : IsTrue c.is_known.result = c.is_known.ensures.1 record {
      lms = subst (λ (n : ℕ). (5 ≤ n) × (n ≤ 7)) (sym lms) is.known.lms;
      ots = subst (λ (n : ℕ). (1 ≤ n) × (n ≤ 4)) (sym ots) is.known.ots;
    } in
    absurd (true≢false (sym known ∙ c.if-is_known.false))
