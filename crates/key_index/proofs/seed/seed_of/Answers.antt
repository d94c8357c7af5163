use Rattle.std.proofs.Common.{sym, ◌∙◌, refl, arith, ap, length}
use Rattle.std.proofs.lemmas.List.{length-take-le}
use Rattle.bec_bytes.specs.Reading.{Reading}
use Rattle.key_index.proofs.PayloadLaws.{read_payload}
use Rattle.key_index.proofs.seed.seed_of.Goals as goal

pub copy_from_slice-requires-2 : goal.copy_from_slice-requires-2
copy_from_slice-requires-2 c = sym (ap length c.in_ok-take_bytes-2.ensures.1 ∙ length-take-le 32 _ c.in_ok-take_bytes-2.ensures.0.fits)

pub returns : goal.returns
returns c =
    read_payload c.args.payload.now _ _ _ _ _ (omega arith) (λ i. omega (arith, c.type_inv.payload i)) (ap (λ (r : Reading). r.rest) c.new-cursor.ensures)
    c.in_ok-take_u32.ensures.0.rest c.in_ok-take_u32-2.ensures.0.rest c.in_ok-take_bytes.ensures.0.rest
    (sym ((c.in_ok-lms.ensures c.in_ok-lms.lms).0 refl) ∙ c.in_ok-take_u32.ensures.1)
    (sym ((c.in_ok-ots.ensures c.in_ok-ots.ots).0 refl) ∙ c.in_ok-take_u32-2.ensures.1)
    (c.copy_from_slice.ensures.after ∙ c.in_ok-take_bytes.ensures.1) (c.copy_from_slice-2.ensures.after ∙ c.in_ok-take_bytes-2.ensures.1)
