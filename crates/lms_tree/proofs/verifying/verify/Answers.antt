use Rattle.std.proofs.Common.{◌≡◌, refl, sym, ap, subst, ◌∙◌}
use Rattle.std.proofs.lemmas.Bool.Decides.{Decides-eqb}
use Rattle.std.proofs.lemmas.Slice.Eq.{slice_eq-Decides}
use Rattle.lm_ots.specs.declared.ots_type.OtsType.{OtsType}
use Rattle.update_model.specs.declared.author_key.AuthorKey.{AuthorKey}
use Rattle.lms_tree.specs.declared.lms_type.LmsType.{LmsType}
use Rattle.lms_tree.specs.LmsKind.{HasTypes}
use Rattle.lms_tree.specs.Signature.{HasForm, candidate_root}
use Rattle.lms_tree.proofs.verifying.verify.Goals as goal

pub returns-in-Some : goal.returns-in-Some
returns-in-Some c =
    let lms : LmsType = c.in-Some-Some.lms in
    let ots : OtsType = c.in-Some-Some.ots in
    let key : AuthorKey = c.args.key.now in
    let equal = slice_eq-Decides Decides-eqb c.in-Some.root key.root c.eq.result c.eq.ensures in
    let types : HasTypes key lms ots = record { tree = (c.in-Some-Some.ensures lms).0 refl; one_time = (c.in-Some-Some.ensures' ots).0 refl } in (
      λ yes. record { lms = lms; ots = ots; types = types; form = c.in-Some.ensures.0; root = sym c.in-Some.ensures.1 ∙ equal.0 yes },
      λ signed.
          let same_tree : lms ≡ signed.lms = cc ((c.in-Some-Some.ensures signed.lms).1 signed.types.tree) in
          let same_one_time : ots ≡ signed.ots = cc ((c.in-Some-Some.ensures' signed.ots).1 signed.types.one_time) in
          equal.1 (c.in-Some.ensures.1
          ∙ ap (λ (l : LmsType). candidate_root l ots key.ident c.args.msg.now c.args.sig.now) same_tree
          ∙ ap (λ (o : OtsType). candidate_root signed.lms o key.ident c.args.msg.now c.args.sig.now) same_one_time
          ∙ signed.root),
    )

pub returns-in-None : goal.returns-in-None
returns-in-None c =
    let lms : LmsType = c.in-Some-Some.lms in
    let ots : OtsType = c.in-Some-Some.ots in (
      λ no. absurd cc,
      λ signed.
          let same_tree : signed.lms ≡ lms = cc ((c.in-Some-Some.ensures signed.lms).1 signed.types.tree) in
          let same_one_time : signed.ots ≡ ots = cc ((c.in-Some-Some.ensures' signed.ots).1 signed.types.one_time) in
          let First : LmsType → Type 0 = λ l. HasForm l signed.ots c.args.sig.now in
          let Second : OtsType → Type 0 = λ o. HasForm lms o c.args.sig.now in
          absurd (c.in-None.ensures (subst Second same_one_time (subst First same_tree signed.form))),
    )
