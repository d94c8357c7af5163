use Rattle.std.proofs.Common.{◌≡◌, ◌∙◌, ◌⊎◌, inl, inr, ⊎_elim, ℕ, List, refl, sym, ap, subst, IsTrue, Some, None, Option, Result}
use Rattle.std.specs.Prelude.{IfOk, string_bytes}
use Rattle.std.proofs.lemmas.Result.{err_from_is_err_and}
use Rattle.bec_bytes.specs.Causes.{Rose}
use Rattle.update_model.specs.declared.author_key.AuthorKey.{AuthorKey}
use Rattle.lms_tree.specs.SecretKey.{public_key}
use Rattle.lms_tree.specs.Signature.{Signed}
use Rattle.hss_chain.specs.Keys.{key_bytes}
use Rattle.hss_chain.specs.Sealing.{SealedBy, public_bytes}
use Rattle.hss_directory.specs.Calls.{KeepsHss, LowerRose, Readies, RefusesToReady, hss_of, not_ready, not_sealed}
use Rattle.hss_directory.specs.Places.{Holds}
use Rattle.hss_directory.specs.Values.{HssState, IsSound, LowerState}
use Rattle.hss_directory.proofs.Held.{hss_same, one_err, one_ok, sealing_follows, sealing_keeps}
use Rattle.hss_directory.proofs.hss.Hss.sign.Goals as goal

pub ready_lower-requires-clause-held : goal.ready_lower-requires-clause-held
ready_lower-requires-clause-held g c tells =
    let here = c.self.inside in
    let same = hss_same c.as_str-dir.result.now (string_bytes here.dir) here.top c.take.result here.lower c.as_str-dir.ensures.value c.take.ensures.value ∙ c.self.view_is in
    subst (λ (h : HssState). Holds (g.H.Shelf.state c.args.shelf.now) h) (sym same) (c.requires.held tells)

pub ready_lower-requires-clause-sound : goal.ready_lower-requires-clause-sound
ready_lower-requires-clause-sound g c =
    let here = c.self.inside in
    let same = hss_same c.as_str-dir.result.now (string_bytes here.dir) here.top c.take.result here.lower c.as_str-dir.ensures.value c.take.ensures.value ∙ c.self.view_is in
    subst (λ (h : HssState). IsSound h) (sym same) c.requires.sound

pub returns-in_err-lower-clause-refused : goal.returns-in_err-lower-clause-refused
returns-in_err-lower-clause-refused g c =
    let p = err_from_is_err_and c.from_residual.result c.from_residual.ensures.1 in
    let here = c.self.inside in
    let before = g.H.Shelf.state c.args.shelf.now in
    let after = g.H.Shelf.state c.ready_lower.new.shelf in
    let random = g.R.Rng.stream c.args.random.now in
    let left = g.R.Rng.stream c.ready_lower.new.random in
    let why = c.in_err-lower.field-0.0 in
    let top = c.ready_lower.new.top in
    let same = hss_same c.as_str-dir.result.now (string_bytes here.dir) here.top c.take.result here.lower c.as_str-dir.ensures.value c.take.ensures.value ∙ c.self.view_is in
    let now = hss_same c.as_str-dir.result.now (string_bytes here.dir) top None c.take.new.self c.as_str-dir.ensures.value (sym c.take.ensures.after) in
    rw (p.1, p.2) (not_ready (subst (λ (h : HssState). RefusesToReady random before c.args.self.now why h after left) now
    (subst (λ (h : HssState). RefusesToReady random before h why (hss_of c.as_str-dir.result.now top None) after left) same c.in_err-lower.ensures.refused)))

pub returns-in_err-lower-clause-keeps : goal.returns-in_err-lower-clause-keeps
returns-in_err-lower-clause-keeps g c =
    let here = c.self.inside in
    let before = g.H.Shelf.state c.args.shelf.now in
    let after = g.H.Shelf.state c.ready_lower.new.shelf in
    let top = c.ready_lower.new.top in
    let same = hss_same c.as_str-dir.result.now (string_bytes here.dir) here.top c.take.result here.lower c.as_str-dir.ensures.value c.take.ensures.value ∙ c.self.view_is in
    let now = hss_same c.as_str-dir.result.now (string_bytes here.dir) top None c.take.new.self c.as_str-dir.ensures.value (sym c.take.ensures.after) in
    subst (λ (h : HssState). KeepsHss before c.args.self.now after h) now
    (subst (λ (h : HssState). KeepsHss before h after (hss_of c.as_str-dir.result.now top None)) same c.in_err-lower.ensures.keeps_none)

pub seal_below-sealed-requires-clause-signed : goal.seal_below-sealed-requires-clause-signed
seal_below-sealed-requires-clause-signed g c =
    let lower : LowerState = c.in_ok-lower.lower in
    subst (λ (k : AuthorKey). Signed k (key_bytes (public_key lower.key.secret)) lower.top_sig) (sym c.public.ensures.value) c.in_ok-lower.ensures.keeps.sound.signed

pub seal_below-sealed-requires-clause-has_left : goal.seal_below-sealed-requires-clause-has_left
seal_below-sealed-requires-clause-has_left g c = c.in_ok-lower.ensures.has_left

pub fill-requires : goal.fill-requires
fill-requires g c = c.take.ensures.after

pub returns-clause-signs : goal.returns-clause-signs
returns-clause-signs g c =
    let here = c.self.inside in
    let before = g.H.Shelf.state c.args.shelf.now in
    let after = g.H.Shelf.state c.ready_lower.new.shelf in
    let random = g.R.Rng.stream c.args.random.now in
    let between = g.R.Rng.stream c.ready_lower.new.random in
    let top = c.ready_lower.new.top in
    let lower : LowerState = c.in_ok-lower.lower in
    let signed : LowerState = c.seal_below-sealed.new.lower in
    let ready : HssState = hss_of c.as_str-dir.result.now top (Some lower) in
    let same = hss_same c.as_str-dir.result.now (string_bytes here.dir) here.top c.take.result here.lower c.as_str-dir.ensures.value c.take.ensures.value ∙ c.self.view_is in
    let now = hss_same (string_bytes here.dir) c.as_str-dir.result.now top c.fill.new.place (Some signed) (sym c.as_str-dir.ensures.value) c.fill.ensures in
    let readies = subst (λ (h : HssState). Readies random before h ready after between) same c.in_ok-lower.ensures.readies in
    one_ok c.seal_below-sealed.result _ _ (λ seal seals. record { ready = ready; between = between; readies = readies; lower = lower; is_lower = refl; signed = signed; seals = seals; now = now }) c.seal_below-sealed.ensures.seals

pub returns-clause-refused : goal.returns-clause-refused
returns-clause-refused g c =
    let here = c.self.inside in
    let before = g.H.Shelf.state c.args.shelf.now in
    let after = g.H.Shelf.state c.ready_lower.new.shelf in
    let random = g.R.Rng.stream c.args.random.now in
    let between = g.R.Rng.stream c.ready_lower.new.random in
    let top = c.ready_lower.new.top in
    let lower : LowerState = c.in_ok-lower.lower in
    let signed : LowerState = c.seal_below-sealed.new.lower in
    let ready : HssState = hss_of c.as_str-dir.result.now top (Some lower) in
    let same = hss_same c.as_str-dir.result.now (string_bytes here.dir) here.top c.take.result here.lower c.as_str-dir.ensures.value c.take.ensures.value ∙ c.self.view_is in
    let now = hss_same (string_bytes here.dir) c.as_str-dir.result.now top c.fill.new.place (Some signed) (sym c.as_str-dir.ensures.value) c.fill.ensures in
    let readies = subst (λ (h : HssState). Readies random before h ready after between) same c.in_ok-lower.ensures.readies in
    one_err c.seal_below-sealed.result _ _ (λ why none. not_sealed ready between lower signed readies refl none now) c.seal_below-sealed.ensures.refused

pub returns-clause-sealed : goal.returns-clause-sealed
returns-clause-sealed g c =
    let here = c.self.inside in
    let top = c.ready_lower.new.top in
    let same = hss_same c.as_str-dir.result.now (string_bytes here.dir) here.top c.take.result here.lower c.as_str-dir.ensures.value c.take.ensures.value ∙ c.self.view_is in
    let key : c.public.result ≡ public_key c.args.self.now.top.secret = c.public.ensures.value ∙ ap public_key c.in_ok-lower.ensures.keeps.secret ∙ ap (λ (h : HssState). public_key h.top.secret) same in
    one_ok c.seal_below-sealed.result _ _ (λ seal sealed. subst (λ (k : AuthorKey). SealedBy (public_bytes k) c.args.msg.now seal.items) key sealed) c.seal_below-sealed.ensures.sealed

pub returns-clause-keeps : goal.returns-clause-keeps
returns-clause-keeps g c =
    let here = c.self.inside in
    let before = g.H.Shelf.state c.args.shelf.now in
    let after = g.H.Shelf.state c.ready_lower.new.shelf in
    let between = g.R.Rng.stream c.ready_lower.new.random in
    let left = g.R.Rng.stream c.seal_below-sealed.new.random in
    let top = c.ready_lower.new.top in
    let lower : LowerState = c.in_ok-lower.lower in
    let signed : LowerState = c.seal_below-sealed.new.lower in
    let ready : HssState = hss_of c.as_str-dir.result.now top (Some lower) in
    let same = hss_same c.as_str-dir.result.now (string_bytes here.dir) here.top c.take.result here.lower c.as_str-dir.ensures.value c.take.ensures.value ∙ c.self.view_is in
    let now = hss_same (string_bytes here.dir) c.as_str-dir.result.now top c.fill.new.place (Some signed) (sym c.as_str-dir.ensures.value) c.fill.ensures in
    let keeps = subst (λ (h : HssState). KeepsHss before h after ready) same c.in_ok-lower.ensures.keeps in
    let follows = sealing_follows c.seal_below-sealed.result (λ v. v.items) lower signed between left c.args.msg.now c.seal_below-sealed.ensures.seals c.seal_below-sealed.ensures.refused in
    subst (λ (h : HssState). KeepsHss before c.args.self.now after h) (sym now) (sealing_keeps before after c.args.self.now ready lower signed keeps refl follows)

pub returns-clause-failed : goal.returns-clause-failed
returns-clause-failed g c is = inr (inr (subst (λ (l : Option LowerState). LowerRose l) (sym c.fill.ensures) (c.in_ok-lower.lower.key.parts.used_faults, c.seal_below-sealed.ensures.failed is)))
