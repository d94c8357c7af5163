use Rattle.std.proofs.Common.{◌≡◌, ◌∙◌, ℕ, List, refl, sym, ap, subst}
use Rattle.std.specs.Prelude.{string_bytes}
use Rattle.std.proofs.lemmas.Result.{err_from_is_err_and}
use Rattle.update_model.specs.Form.{IsKey}
use Rattle.update_model.specs.declared.author_key.AuthorKey.{AuthorKey}
use Rattle.lms_tree.specs.SecretKey.{public_key}
use Rattle.lms_tree.specs.Signature.{Signed}
use Rattle.hss_chain.specs.Keys.{key_bytes}
use Rattle.hss_chain.specs.Sealing.{SealedBy, public_bytes, seal_bytes}
use Rattle.hss_directory.specs.Calls.{SealsBy, SealsNone, unjoined, unsigned}
use Rattle.hss_directory.specs.Values.{HasLeft, LowerState}
use Rattle.hss_directory.specs.declared.fault.HssFault.TheVariants.{Memory}
use Rattle.hss_directory.proofs.current.seal_below.Goals as goal

pub signature_of-requires : goal.signature_of-requires
signature_of-requires g c = subst (λ (l : LowerState). HasLeft l.key) (sym c.lower.view_is) c.requires.has_left

pub returns-in_err-sig-clause-refused : goal.returns-in_err-sig-clause-refused
returns-in_err-sig-clause-refused g c =
    let p = err_from_is_err_and c.from_residual.result c.from_residual.ensures.1 in
    let here = c.lower.inside in
    let new : LowerState = record { dir = string_bytes here.dir; index = here.index; key = c.signature_of.new.key; top_sig = here.top_sig.items } in
    rw (p.1, p.2) (subst (λ (l : LowerState). SealsNone l (g.R.Rng.stream c.args.random.now) c.args.msg.now c.in_err-sig.field-0.0 new (g.R.Rng.stream c.signature_of.new.random)) c.lower.view_is (unsigned c.in_err-sig.ensures.signs refl))

pub returns-in_err-seal_bytes-clause-refused : goal.returns-in_err-seal_bytes-clause-refused
returns-in_err-seal_bytes-clause-refused g c =
    let p = err_from_is_err_and c.from_residual-in_err-seal_bytes.result c.from_residual-in_err-seal_bytes.ensures.1 in
    let here = c.lower.inside in
    let new : LowerState = record { dir = string_bytes here.dir; index = here.index; key = c.signature_of.new.key; top_sig = here.top_sig.items } in
    rw (p.1, p.2) (subst (λ (l : LowerState). SealsNone l (g.R.Rng.stream c.args.random.now) c.args.msg.now Memory new (g.R.Rng.stream c.signature_of.new.random)) c.lower.view_is (unjoined c.in_ok-sig.sig.items c.in_ok-sig.ensures.signs refl refl))

pub returns-clause-seals : goal.returns-clause-seals
returns-clause-seals g c =
    let here = c.lower.inside in
    let sig : List ℕ = c.in_ok-sig.sig.items in
    let seal : List ℕ = c.in_ok-seal_bytes.field-0.items in
    let new : LowerState = record { dir = string_bytes here.dir; index = here.index; key = c.signature_of.new.key; top_sig = here.top_sig.items } in
    let bytes : seal ≡ seal_bytes here.top_sig.items (public_key here.key.secret) sig =
    c.in_ok-seal_bytes.ensures ∙ ap (λ (s : List ℕ). seal_bytes s c.public-key.result c.deref.result.now) c.as_slice.ensures.value
    ∙ ap (λ (k : AuthorKey). seal_bytes here.top_sig.items k c.deref.result.now) c.public-key.ensures.value
    ∙ ap (λ (s : List ℕ). seal_bytes here.top_sig.items (public_key here.key.secret) s) c.deref.ensures.value in
    subst (λ (l : LowerState). SealsBy l (g.R.Rng.stream c.args.random.now) c.args.msg.now seal new (g.R.Rng.stream c.signature_of.new.random)) c.lower.view_is
    (record { sig = sig; signs = c.in_ok-sig.ensures.signs; seal_is = bytes; now = refl })

pub returns-clause-sealed : goal.returns-clause-sealed
returns-clause-sealed g c =
    let here = c.lower.inside in
    let top : AuthorKey = c.args.top.now in
    let low : AuthorKey = c.public-key.result in
    let sig : List ℕ = c.in_ok-sig.sig.items in
    let value : low ≡ public_key here.key.secret = c.public-key.ensures.value in
    let given : Signed top (key_bytes (public_key here.key.secret)) here.top_sig.items = subst (λ (l : LowerState). Signed top (key_bytes (public_key l.key.secret)) l.top_sig) (sym c.lower.view_is) c.requires.signed in
    let first : Signed top (key_bytes low) here.top_sig.items = subst (λ (k : AuthorKey). Signed top (key_bytes k) here.top_sig.items) (sym value) given in
    let top_key : IsKey top = c.is_key-2.ensures (c.signed_has_length.ensures.known top (key_bytes low) here.top_sig.items first) in
    let low_key : IsKey low = c.is_key.ensures c.public-key.ensures.known in
    let second : Signed low c.args.msg.now sig = subst (λ (k : AuthorKey). Signed k c.args.msg.now sig) (sym value) c.in_ok-sig.ensures.signs.signed in
    let bytes : c.in_ok-seal_bytes.field-0.items ≡ seal_bytes here.top_sig.items low sig =
    c.in_ok-seal_bytes.ensures ∙ ap (λ (s : List ℕ). seal_bytes s low c.deref.result.now) c.as_slice.ensures.value ∙ ap (λ (s : List ℕ). seal_bytes here.top_sig.items low s) c.deref.ensures.value in
    subst (SealedBy (public_bytes top) c.args.msg.now) (sym bytes) (c.parts_make_a_seal.ensures top low here.top_sig.items sig c.args.msg.now top_key low_key first second)
